-- What the records of a sheet write: the result record of each unit, each after those before it. What is recorded of a unit is a
-- parameter.
use Rattle.std.specs.Prelude.{ℕ, zero, suc, List, [], ◌++◌}
use Rattle.units.specs.declared.SampleUnit.{SampleUnit}
use Rattle.units.specs.declared.Entry.{Entry}
use Rattle.units.specs.declared.Entry.TheVariants.{UnitRecord, Redesignation, Break}
use Rattle.results.specs.declared.ResultRecord.{ResultRecord}
use Rattle.results.specs.Record.{result_bytes}

-- what is recorded of the unit that is record i, but for its code grade; and the grade of each code
module _ (recording : ℕ → SampleUnit → ResultRecord) (code_grade : ℕ → ℕ) where
  -- what record i writes: a unit its result record, another record nothing
  unfoldable pub bytes_by : ℕ → Entry → List ℕ
  bytes_by i (UnitRecord unit) = result_bytes (code_grade unit.code) (recording i unit)
  bytes_by i (Redesignation new) = []
  bytes_by i Break = []

  -- what the first n records write
  unfoldable pub written : (ℕ → Entry) → ℕ → List ℕ
  written entry zero = []
  written entry (suc n) = written entry n ++ bytes_by n (entry n)

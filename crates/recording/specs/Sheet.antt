-- The sheet in bytes as the rules grade it, and what is recorded of its units.
use Rattle.std.specs.Prelude.{ℕ, Bool, List}
use Rattle.units.specs.Words.{table_of}
use Rattle.units.specs.Unit.{portion_grade_of}
use Rattle.units.specs.declared.SampleUnit.{SampleUnit}
use Rattle.units.specs.declared.Grading.{Grading}
use Rattle.rules.specs.StepThree.{in_force}
use Rattle.rules.specs.Sheet.{Sheet, before, graded_at, recovered, standing_of}
use Rattle.rules.specs.declared.State.{State}
use Rattle.layout.specs.Layout.{plan_of, entry_at}
use Rattle.results.specs.declared.ResultRecord.{ResultRecord}

-- the sheet as the rules grade it, with so many records
unfoldable pub sheet_of : List ℕ → ℕ → Sheet
sheet_of bytes records =
    record { table = table_of (plan_of bytes); designated = (plan_of bytes).designated; entry = entry_at bytes; size = records }

-- what is recorded of a unit, graded in a state, recovered or not, but for its code grade
unfoldable pub result_with : State → SampleUnit → Grading → Bool → ResultRecord
result_with state unit grading recovered =
    record {
      code = unit.code;
      portion = portion_grade_of state.designated grading.grade unit.prerequisite recovered;
      plan = in_force state;
      standing = standing_of state.phase grading.fails recovered;
      cusums = grading.cusums;
      overshoots = grading.overshoots;
    }

-- of the unit that is record i, if it is recovered or not
abbrev pub result_if : Sheet → ℕ → SampleUnit → Bool → ResultRecord
result_if sheet i unit recovered = result_with (before sheet i) unit (graded_at sheet i unit) recovered

-- what is recorded of the unit that is record i, but for its code grade
unfoldable pub result_of : Sheet → ℕ → SampleUnit → ResultRecord
result_of sheet i unit = result_if sheet i unit (recovered sheet i unit)

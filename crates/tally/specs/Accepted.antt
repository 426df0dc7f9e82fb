-- An accepted sheet, and what is recorded of its units.
use Rattle.std.specs.Prelude.{ℕ, ◌<◌, ◌≡◌, List, Some}
use Rattle.cusum.specs.declared.PlanNumbers.{PlanNumbers}
use Rattle.units.specs.Words.{numbers_of}
use Rattle.rules.specs.Sheet.{Sheet, in_force_at}
use Rattle.layout.specs.Layout.{mark, units_before}
use Rattle.layout.specs.declared.Mark.TheVariants.{UnitMark}
use Rattle.results.specs.Record.{cusum_in, overshoot_in, portion_grade_in, code_grade_in}
use Rattle.recording.specs.Sheet.{sheet_of}
use Rattle.outcome.specs.declared.Answer.{Answer}
use Rattle.outcome.specs.Outcome.{AcceptedBy}
use Rattle.tally.specs.Outcome.{outcome, records_in}

-- a sheet that `grade` accepts
abbrev pub AcceptedAs : List ℕ → List ℕ → Answer → List ℕ → Type 0
AcceptedAs = AcceptedBy outcome

-- the sheet as the rules grade it: failures and restarts are told from it, never from the result records
unfoldable pub sheet_in : List ℕ → Sheet
sheet_in bytes = sheet_of bytes (records_in bytes)

-- record i is a sample unit
pub record UnitAt (bytes : List ℕ) (i : ℕ) : Type 0 where
  pub inside : i < records_in bytes
  pub is_unit : mark bytes i ≡ Some UnitMark

-- as recorded for the unit that is record i: a class's CuSum and overshoot, the portion grade, the code grade
abbrev pub recorded_cusum : List ℕ → List ℕ → ℕ → ℕ → ℕ
recorded_cusum bytes results i class = cusum_in results (units_before bytes i) class

abbrev pub recorded_overshoot : List ℕ → List ℕ → ℕ → ℕ → ℕ
recorded_overshoot bytes results i class = overshoot_in results (units_before bytes i) class

abbrev pub recorded_portion_grade : List ℕ → List ℕ → ℕ → ℕ
recorded_portion_grade bytes results i = portion_grade_in results (units_before bytes i)

abbrev pub recorded_code_grade : List ℕ → List ℕ → ℕ → ℕ
recorded_code_grade bytes results i = code_grade_in results (units_before bytes i)

-- S, T and L of the class in the plan in force for the unit that is record i
abbrev pub numbers_in_force : List ℕ → ℕ → ℕ → PlanNumbers
numbers_in_force bytes i class = numbers_of (sheet_in bytes).table (in_force_at (sheet_in bytes) i) class

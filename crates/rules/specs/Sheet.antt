-- A whole sheet by the number of its records: the state before each, and what is recorded of each unit.
use Rattle.std.specs.Prelude.{ℕ, zero, suc, ◌+◌, Bool, true, false, cond, ◌&&◌, ◌||◌}
use Rattle.units.specs.Words.{Table}
use Rattle.units.specs.Unit.{portion_grade_of}
use Rattle.units.specs.Records.{worst_before}
use Rattle.units.specs.declared.SampleUnit.{SampleUnit}
use Rattle.units.specs.declared.Grading.{Grading}
use Rattle.units.specs.declared.Entry.{Entry}
use Rattle.rules.specs.StepThree.{in_force, opening, graded, qualifies_in, record_ends_step_three, next}
use Rattle.rules.specs.declared.Phase.{Phase}
use Rattle.rules.specs.declared.Phase.TheVariants.{Designated, StepThree}
use Rattle.rules.specs.declared.Standing.{Standing}
use Rattle.rules.specs.declared.Standing.TheVariants.{Met, Failed, InStepThree, Recovered}
use Rattle.rules.specs.declared.State.{State}

-- the plan's table, the grade designated at the opening, the records after the plan from number 0 on, and how many there are.
-- Recovery looks two records ahead: a sheet read from bytes has breaks behind its last record (`sheet_of` in `recording`, law `past_entry`), and
-- step 3 does not end at a break
pub record Sheet : Type 0 where
  pub table : Table
  pub designated : ℕ
  pub entry : ℕ → Entry
  pub size : ℕ

-- standing: 0 met the designated plan, 1 failed it, 2 in step 3 and not recovered, 3 recovered
unfoldable pub standing_of : Phase → Bool → Bool → ℕ
standing_of phase fails true = 3
standing_of Designated fails false = cond fails 1 0
standing_of (StepThree lower run) fails false = 2

-- by its code
abbrev pub standing_code : Standing → ℕ
standing_code Met = 0
standing_code Failed = 1
standing_code InStepThree = 2
standing_code Recovered = 3

module _ (sheet : Sheet) where
  -- the state before record i
  unfoldable pub before : ℕ → State
  before zero = opening sheet.table sheet.designated
  before (suc i) = next sheet.table (before i) (sheet.entry i)

  -- the grade designated just before record i (law `designated_before_holds`: the refusals use the same), and that of the plan in force
  abbrev pub designated_at : ℕ → ℕ
  designated_at i = (before i).designated

  abbrev pub in_force_at : ℕ → ℕ
  in_force_at i = in_force (before i)

  -- the unit that is record i, graded
  abbrev pub graded_at : ℕ → SampleUnit → Grading
  graded_at i unit = graded sheet.table (before i) unit

  -- the unit that is record i qualifies
  abbrev pub qualifies_at : ℕ → SampleUnit → Bool
  qualifies_at i unit = qualifies_in sheet.table (before i) unit

  -- record i is the unit that ends step 3
  unfoldable pub step_three_ends_at : ℕ → Bool
  step_three_ends_at i = record_ends_step_three sheet.table (before i) (sheet.entry i)

  -- record i is one of the three qualifying units in a row at whose last step 3 ends: that last one is record i, i + 1 or i + 2, as
  -- the three stand side by side, since a break, a redesignation, a unit that does not qualify and the start of a lower plan set the
  -- run to none (laws `finished_run`, `in_run` and `run_in`)
  unfoldable pub in_finished_run : ℕ → Bool
  in_finished_run i = step_three_ends_at i || (step_three_ends_at (i + 1) || step_three_ends_at (i + 2))

  -- each of those three portions marked recoverable is recovered
  unfoldable pub recovered : ℕ → SampleUnit → Bool
  recovered i unit = unit.recoverable && in_finished_run i

  unfoldable pub portion_grade : ℕ → SampleUnit → ℕ
  portion_grade i unit = portion_grade_of (designated_at i) (graded_at i unit).grade unit.prerequisite (recovered i unit)

  unfoldable pub standing : ℕ → SampleUnit → ℕ
  standing i unit = standing_of (before i).phase (graded_at i unit).fails (recovered i unit)

  -- the code grade: the worst portion grade among all units of the sheet with that code, adjoining or not
  unfoldable pub code_grade : ℕ → ℕ
  code_grade code = worst_before portion_grade sheet.entry code sheet.size

-- Step 3, redesignations and breaks: the state of the grading before a record, and what the record makes of it.
use Rattle.std.specs.Prelude.{ℕ, ◌+◌, Bool, true, false, cond, ◌&&◌, ltb, leb, Option, None, Some}
use Rattle.units.specs.Conditions.{pick}
use Rattle.units.specs.Words.{worse, Table, row_of, tenths_of}
use Rattle.units.specs.Unit.{starting, grading_of, qualifies}
use Rattle.units.specs.Records.{is_unit_that}
use Rattle.units.specs.declared.SampleUnit.{SampleUnit}
use Rattle.units.specs.declared.Grading.{Grading}
use Rattle.units.specs.declared.Entry.{Entry}
use Rattle.units.specs.declared.Entry.TheVariants.{UnitRecord, Redesignation, Break}
use Rattle.rules.specs.declared.Phase.{Phase}
use Rattle.rules.specs.declared.Phase.TheVariants.{Designated, StepThree}
use Rattle.rules.specs.declared.State.{State}

-- ---- the plan in force

unfoldable pub in_step_three : Phase → Bool
in_step_three Designated = false
in_step_three (StepThree lower run) = true

-- the grade of the plan in force, or 3 if there is none: the designated grade, in step 3 the lower one
unfoldable pub in_force_in : ℕ → Phase → ℕ
in_force_in designated Designated = designated
in_force_in designated (StepThree lower run) = lower

abbrev pub in_force : State → ℕ
in_force state = in_force_in state.designated state.phase

-- ---- two failures in a row

-- a unit fails right behind one that failed, whose defect grade is given
unfoldable pub two_in_a_row : Option ℕ → Bool → Bool
two_in_a_row None fails = false
two_in_a_row (Some earlier) fails = fails

-- the worse of the two defect grades
unfoldable pub worse_of_two : Option ℕ → ℕ → ℕ
worse_of_two None grade = grade
worse_of_two (Some earlier) grade = worse earlier grade

-- what the next unit finds just before it: a unit that failed the plan in force, and its defect grade; one that meets leaves no failure
unfoldable pub failure_after : Bool → ℕ → Option ℕ
failure_after true grade = Some grade
failure_after false grade = None

-- ---- the run of qualifying units

-- at the third qualifying unit in a row step 3 ends
unfoldable pub ends_step_three : Phase → Bool → Bool
ends_step_three Designated qualifies = false
ends_step_three (StepThree lower run) qualifies = qualifies && leb 2 run

-- a qualifying unit adds to the run, and any other sets it to none
unfoldable pub with_unit : Phase → Bool → Phase
with_unit Designated qualifies = Designated
with_unit (StepThree lower run) qualifies = StepThree lower (cond qualifies (run + 1) 0)

-- the run of qualifying units set to none
unfoldable pub without_run : Phase → Phase
without_run Designated = Designated
without_run (StepThree lower run) = StepThree lower 0

-- ---- redesignations

-- in step 3 a new grade better than the lower one keeps step 3
unfoldable pub keeps_step_three : Phase → ℕ → Bool
keeps_step_three Designated new = false
keeps_step_three (StepThree lower run) new = ltb new lower

-- ---- the state before a record, and what the record makes of it

module _ (table : Table) where
  -- every class of the plan then in force at its S, and a failure just before forgotten
  unfoldable pub restarted : ℕ → Phase → State
  restarted designated phase =
      record { designated = designated; previous = None; phase = phase; cusums = starting (row_of table (in_force_in designated phase)) }

  -- at the opening of the sheet the designated plan is in force, every class at its S
  abbrev pub opening : ℕ → State
  opening designated = restarted designated Designated

  -- a unit graded under the plan in force
  unfoldable pub graded : State → SampleUnit → Grading
  graded state unit = grading_of table (in_force state) state.cusums (tenths_of unit)

  -- a unit qualifies, with the CuSums of its grading; outside step 3 none does
  unfoldable pub qualifies_with : State → SampleUnit → Grading → Bool
  qualifies_with state unit grading =
      in_step_three state.phase && qualifies table state.designated grading.cusums (tenths_of unit)

  abbrev pub qualifies_in : State → SampleUnit → Bool
  qualifies_in state unit = qualifies_with state unit (graded state unit)

  -- a unit, by its grading and whether it qualifies: at the third qualifying one in a row step 3 ends, and the next unit starts the
  -- designated plan at S; behind the second of two in a row that fail the plan in force, be it the designated or a lower one, that of
  -- the worse of the two defect grades is in force, every class at its S and the run of qualifying units none. A restart forgets a
  -- failure, so that both come after the latest start of a lower plan
  unfoldable pub after_unit : State → Grading → Bool → State
  after_unit state grading qualifies =
      pick (ends_step_three state.phase qualifies) (restarted state.designated Designated)
      (pick (two_in_a_row state.previous grading.fails) (restarted state.designated (StepThree (worse_of_two state.previous grading.grade) 0))
      (record {
        designated = state.designated;
        previous = failure_after grading.fails grading.grade;
        phase = with_unit state.phase qualifies;
        cusums = grading.cusums;
      }))

  -- a redesignation that keeps step 3 keeps its CuSums and sets the run of qualifying units to none; any other starts the new plan at
  -- S, also where it ends step 3. Each forgets a failure just before
  unfoldable pub after_redesignation : State → ℕ → State
  after_redesignation state new =
      pick (keeps_step_three state.phase new)
      (record { designated = new; previous = None; phase = without_run state.phase; cusums = state.cusums })
      (restarted new Designated)

  -- a break sets the CuSums of the plan in force to S, forgets a failure just before and sets that run to none; it does not end step 3
  unfoldable pub after_break : State → State
  after_break state = restarted state.designated (without_run state.phase)

  unfoldable pub next : State → Entry → State
  next state (UnitRecord unit) = after_unit state (graded state unit) (qualifies_in state unit)
  next state (Redesignation new) = after_redesignation state new
  next state Break = after_break state

  -- this record is a unit that ends step 3, the third in a row that qualifies
  unfoldable pub record_ends_step_three : State → Entry → Bool
  record_ends_step_three state = is_unit_that (λ unit. ends_step_three state.phase (qualifies_in state unit))

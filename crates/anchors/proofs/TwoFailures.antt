-- A lower plan starts behind a unit exactly if it is the second of two in a row that fail the plan in force, told by their places: of the
-- designated plan, and step 3 begins; of the lower plan in step 3, and another one starts, unless step 3 ends there. The lower grade is
-- then the worse of their defect grades. The state remembers the record just before: a failure that no lower plan has started behind.
use Rattle.std.proofs.Common.{Option, None, Some, is_some, ℕ, zero, suc, ◌≡◌, refl, sym, ◌∙◌, ap, Bool, true, false, not, ◌&&◌, ◌||◌, true≢false, List}
use mathlib.Core.Path.{subst⁻¹}
use mathlib.Core.Bool.{false≢true}
use Rattle.cusum.specs.declared.Cusum.{Cusum}
use Rattle.std.proofs.Math.Bool.{and-true, and-false, or-false}
use Rattle.units.proofs.Tests.{and_both}
use Rattle.units.specs.Words.{worse, Table, tenths_of}
use Rattle.units.specs.Unit.{unit_fails}
use Rattle.units.specs.Records.{is_unit_that}
use Rattle.units.specs.declared.SampleUnit.{SampleUnit}
use Rattle.units.specs.declared.Grading.{Grading}
use Rattle.units.specs.declared.Entry.{Entry}
use Rattle.units.specs.declared.Entry.TheVariants.{UnitRecord, Redesignation, Break}
use Rattle.rules.specs.StepThree.{in_step_three, in_force_in, two_in_a_row, worse_of_two, failure_after, ends_step_three, with_unit, without_run, restarted, graded, qualifies_in, after_unit, after_redesignation, after_break, next}
use Rattle.rules.specs.Sheet.{Sheet, before, graded_at, qualifies_at}
use Rattle.anchors.specs.TwoInARow.{fails_in_force, fails_designated, fails_lower, unit_fails_at, unit_fails_before, second_in_a_row, unit_fails_lower_at, second_at_lower, lower_plan_starts_at}
use Rattle.rules.specs.declared.Phase.{Phase}
use Rattle.rules.specs.declared.Phase.TheVariants.{Designated, StepThree}
use Rattle.rules.specs.declared.State.{State}
use Rattle.rules.proofs.Steps.{state_of, unit_starts_lower, unit_by, redesignation_restarts, redesignation_by, two_in_a_row_is, failure_is, with_unit_in_step_three, without_run_in_step_three, keeps_is, ends_none}

-- ---- failing in step 3 and outside it

-- in step 3 no unit fails the designated plan, and outside it none the lower plan
no_designated_inside : (table : Table) (state : State) (entry : Entry) → in_step_three state.phase ≡ true → fails_designated table state entry ≡ false
unfolding fails_designated
no_designated_inside table state entry inside = rw inside

no_lower_outside : (table : Table) (state : State) (entry : Entry) → in_step_three state.phase ≡ false → fails_lower table state entry ≡ false
unfolding fails_lower
no_lower_outside table state entry out = rw out

-- and a record that does not fail the plan in force fails neither
fails_neither : (table : Table) (state : State) (entry : Entry) → fails_in_force table state entry ≡ false
    → (fails_designated table state entry ≡ false) × (fails_lower table state entry ≡ false)
unfolding fails_designated fails_lower
fails_neither table state entry none = rw none (and-false (not (in_step_three state.phase)), and-false (in_step_three state.phase))

-- ---- what the state remembers of the record just before

-- outside step 3 a failure of the designated plan, in it one of the lower plan that is not the second of two
unfoldable Remembers : Phase → Option ℕ → Bool → Bool → Type 0
Remembers Designated previous failed failed_lower = is_some previous ≡ failed
Remembers (StepThree lower run) previous failed failed_lower = is_some previous ≡ failed_lower

abbrev Recalls : Bool → Bool → State → Type 0
Recalls failed failed_lower behind = Remembers behind.phase behind.previous failed failed_lower

none_remembered : (phase : Phase) → Remembers phase None false false
unfolding Remembers
none_remembered Designated = refl
none_remembered (StepThree lower run) = refl

-- ---- a unit right behind that record

module _ (table : Table) (designated : ℕ) (previous : Option ℕ) (cusums : List Cusum) (failed failed_lower : Bool) (unit : SampleUnit) where
  abbrev at : Phase → State
  at phase = state_of designated previous phase cusums

  -- it is the second of two failures of the designated plan, or of the lower one
  abbrev second : Phase → Bool
  second phase = failed && fails_designated table (at phase) (UnitRecord unit)

  abbrev second_lower : Phase → Bool
  second_lower phase = failed_lower && fails_lower table (at phase) (UnitRecord unit)

  -- a lower plan starts, as the state has it and by the two
  starts_by : (phase : Phase) → Remembers phase previous failed failed_lower
      → two_in_a_row previous (graded table (at phase) unit).fails ≡ (second phase || second_lower phase)
  unfolding Remembers fails_designated fails_lower fails_in_force is_unit_that graded in_force_in in_step_three
  starts_by Designated remembers =
      let fails = unit_fails table designated cusums (tenths_of unit) in
      two_in_a_row_is previous fails
      ∙ ap (λ (b : Bool). b && fails) remembers
      ∙ sym (ap (λ (b : Bool). (failed && fails) || b) (and-false failed_lower) ∙ or-false (failed && fails))
  starts_by (StepThree lower run) remembers =
      let fails = unit_fails table lower cusums (tenths_of unit) in
      two_in_a_row_is previous fails
      ∙ ap (λ (b : Bool). b && fails) remembers
      ∙ sym (ap (λ (b : Bool). b || (failed_lower && fails)) (and-false failed))

  -- it fails, as it is graded and as it is told
  fails_is : (phase : Phase) → (graded table (at phase) unit).fails ≡ fails_in_force table (at phase) (UnitRecord unit)
  unfolding fails_in_force is_unit_that graded
  fails_is phase = refl

  -- what is remembered of it
  abbrev RecallsUnit : Phase → State → Type 0
  RecallsUnit phase =
      Recalls (fails_designated table (at phase) (UnitRecord unit)) (fails_lower table (at phase) (UnitRecord unit) && not (second_lower phase))

  after_unit_by : (phase : Phase) → Remembers phase previous failed failed_lower
      → RecallsUnit phase (after_unit table (at phase) (graded table (at phase) unit) (qualifies_in table (at phase) unit))
  unfolding Remembers restarted with_unit ends_step_three fails_designated fails_lower in_step_three
  after_unit_by Designated remembers =
      let grading : Grading = graded table (at Designated) unit in
      unit_by table (at Designated) grading (qualifies_in table (at Designated) unit) (RecallsUnit Designated)
      (λ ends. absurd (false≢true ends))
      (λ ends two. refl)
      (λ ends one. failure_is grading.fails grading.grade ∙ fails_is Designated)
  after_unit_by (StepThree lower run) remembers =
      let grading : Grading = graded table inside unit in
      unit_by table inside grading (qualifies_in table inside unit) (RecallsUnit (StepThree lower run))
      (λ ends. refl)
      (λ ends two. sym (ap (λ (b : Bool). failing && not b) (sym by_second ∙ two) ∙ and-false failing))
      (λ ends one.
      failure_is grading.fails grading.grade
      ∙ fails_is (StepThree lower run)
      ∙ sym (ap (λ (b : Bool). failing && not b) (sym by_second ∙ one) ∙ and-true failing))
    where
      inside : State
      inside = state_of designated previous (StepThree lower run) cusums

      failing : Bool
      failing = fails_lower table inside (UnitRecord unit)

      by_second : two_in_a_row previous (graded table inside unit).fails ≡ second_lower (StepThree lower run)
      by_second =
          starts_by (StepThree lower run) remembers
          ∙ ap (λ (b : Bool). b || second_lower (StepThree lower run))
          (ap (λ (b : Bool). failed && b) (no_designated_inside table inside (UnitRecord unit) (unfold in_step_three in refl)) ∙ and-false failed)

after_redesignation_remembers : (table : Table) (state : State) (new : ℕ) → Recalls false false (after_redesignation table state new)
unfolding restarted
after_redesignation_remembers table state new =
    redesignation_by table state new (Recalls false false) (λ keeps. none_remembered _) (λ other. none_remembered Designated)

after_record : (table : Table) (state : State) (failed failed_lower : Bool) (entry : Entry) → Recalls failed failed_lower state
    → Recalls (fails_designated table state entry) (fails_lower table state entry && not (failed_lower && fails_lower table state entry)) (next table state entry)
unfolding next after_break
after_record table state failed failed_lower (UnitRecord unit) remembers =
    after_unit_by table state.designated state.previous state.cusums failed failed_lower unit state.phase remembers
after_record table state failed failed_lower (Redesignation new) remembers =
    let (not_designated, not_lower) = fails_neither table state (Redesignation new) (unfold fails_in_force is_unit_that in refl) in
    rw (not_designated, not_lower) (after_redesignation_remembers table state new)
after_record table state failed failed_lower Break remembers =
    let (not_designated, not_lower) = fails_neither table state Break (unfold fails_in_force is_unit_that in refl) in
    rw (not_designated, not_lower) (unfold restarted in none_remembered (without_run state.phase))

-- what a unit leaves to be remembered is its own failure
behind_failure : (table : Table) (state : State) (grading : Grading) (qualifies : Bool) → is_some (after_unit table state grading qualifies).previous ≡ true
    → (after_unit table state grading qualifies).previous ≡ Some grading.grade
unfolding restarted failure_after
behind_failure table state grading qualifies =
    unit_by table state grading qualifies (λ (behind : State). is_some behind.previous ≡ true → behind.previous ≡ Some grading.grade)
    (λ ends none. absurd (false≢true none))
    (λ ends two none. absurd (false≢true none))
    (λ ends one failed. go grading.fails failed)
  where
    go : (fails : Bool) → is_some (failure_after fails grading.grade) ≡ true → failure_after fails grading.grade ≡ Some grading.grade
    go true failed = refl
    go false failed = absurd (false≢true failed)

module _ (sheet : Sheet) where
  -- the record right before record i is a unit that fails the lower plan, and not the second of two
  unfoldable fails_lower_before : ℕ → Bool
  fails_lower_before zero = false
  fails_lower_before (suc i) = unit_fails_lower_at sheet i && not (second_at_lower sheet i)

  second_lower_is : (i : ℕ) → second_at_lower sheet i ≡ (fails_lower_before i && unit_fails_lower_at sheet i)
  unfolding second_at_lower fails_lower_before
  second_lower_is zero = refl
  second_lower_is (suc i) = refl

  remembered : (i : ℕ) → Remembers (before sheet i).phase (before sheet i).previous (unit_fails_before sheet i) (fails_lower_before i)
  unfolding before unit_fails_before unit_fails_at fails_lower_before unit_fails_lower_at
  remembered zero = unfold restarted in none_remembered Designated
  remembered (suc i) =
      let state : State = before sheet i in
      let lower : Bool = fails_lower sheet.table state (sheet.entry i) in
      subst⁻¹ (λ (second : Bool). Recalls (unit_fails_at sheet i) (lower && not second) (next sheet.table state (sheet.entry i)))
      (second_lower_is i)
      (after_record sheet.table state (unit_fails_before sheet i) (fails_lower_before i) (sheet.entry i) (remembered i))

  -- ---- where a lower plan starts

  -- two in a row, as the state has it and by their places
  pub starts_is : (i : ℕ) (unit : SampleUnit) → sheet.entry i ≡ UnitRecord unit
      → two_in_a_row (before sheet i).previous (graded_at sheet i unit).fails ≡ lower_plan_starts_at sheet i
  unfolding lower_plan_starts_at second_in_a_row unit_fails_at unit_fails_lower_at
  starts_is i unit is_unit =
      let state : State = before sheet i in
      starts_by sheet.table state.designated state.previous state.cusums (unit_fails_before sheet i) (fails_lower_before i) unit
      state.phase (remembered i)
      ∙ ap (λ (entry : Entry). (unit_fails_before sheet i && fails_designated sheet.table state entry)
      || (fails_lower_before i && fails_lower sheet.table state entry)) (sym is_unit)
      ∙ ap (λ (b : Bool). second_in_a_row sheet i || b) (sym (second_lower_is i))

  -- outside step 3 that is the second failure of the designated plan, in it of the lower one
  starts_outside : (i : ℕ) → in_step_three (before sheet i).phase ≡ false → lower_plan_starts_at sheet i ≡ second_in_a_row sheet i
  unfolding lower_plan_starts_at unit_fails_lower_at
  starts_outside i out =
      ap (λ (b : Bool). second_in_a_row sheet i || b)
      (second_lower_is i
      ∙ ap (λ (b : Bool). fails_lower_before i && b) (no_lower_outside sheet.table (before sheet i) (sheet.entry i) out)
      ∙ and-false (fails_lower_before i))
      ∙ or-false (second_in_a_row sheet i)

  pub starts_inside : (i : ℕ) → in_step_three (before sheet i).phase ≡ true → lower_plan_starts_at sheet i ≡ second_at_lower sheet i
  unfolding lower_plan_starts_at second_in_a_row unit_fails_at
  starts_inside i inside =
      ap (λ (b : Bool). b || second_at_lower sheet i)
      (ap (λ (b : Bool). unit_fails_before sheet i && b) (no_designated_inside sheet.table (before sheet i) (sheet.entry i) inside)
      ∙ and-false (unit_fails_before sheet i))

  -- a record that is no unit is no second
  pub not_second : (i : ℕ) (entry : Entry) → sheet.entry i ≡ entry → fails_in_force sheet.table (before sheet i) entry ≡ false
      → second_in_a_row sheet i ≡ false
  unfolding second_in_a_row unit_fails_at
  not_second i entry is_entry none =
      let fails = fails_designated sheet.table (before sheet i) in
      ap (λ (b : Bool). unit_fails_before sheet i && b) (ap fails is_entry ∙ (fails_neither sheet.table (before sheet i) entry none).0)
      ∙ and-false (unit_fails_before sheet i)

  -- ---- where step 3 begins

  begins_by : (i : ℕ) (entry : Entry) → sheet.entry i ≡ entry → in_step_three (before sheet i).phase ≡ false
      → in_step_three (next sheet.table (before sheet i) entry).phase ≡ second_in_a_row sheet i
  unfolding next after_break restarted in_step_three fails_in_force is_unit_that
  begins_by i (UnitRecord unit) is_entry out =
      let state : State = before sheet i in
      unit_by sheet.table state (graded sheet.table state unit) (qualifies_in sheet.table state unit)
      (λ (behind : State). in_step_three behind.phase ≡ second_in_a_row sheet i)
      (λ ends. absurd (true≢false (sym ends ∙ ends_none state.phase _ out)))
      (λ ends two. sym (sym (by_place unit is_entry) ∙ two))
      (λ ends one. with_unit_in_step_three state.phase _ ∙ out ∙ sym (sym (by_place unit is_entry) ∙ one))
    where
      by_place : (unit : SampleUnit) → sheet.entry i ≡ UnitRecord unit
          → two_in_a_row (before sheet i).previous (graded_at sheet i unit).fails ≡ second_in_a_row sheet i
      by_place unit is_unit = starts_is i unit is_unit ∙ starts_outside i out
  begins_by i (Redesignation new) is_entry out =
      rw (redesignation_restarts sheet.table (before sheet i) new (keeps_is (before sheet i).designated (before sheet i).phase new ∙ rw out))
      (sym (not_second i (Redesignation new) is_entry refl))
  begins_by i Break is_entry out =
      without_run_in_step_three (before sheet i).phase ∙ out ∙ sym (not_second i Break is_entry refl)

  -- outside step 3 it begins behind a record exactly if that is the second of two units in a row that fail the designated plan
  pub begins_at_second : (i : ℕ) → in_step_three (before sheet i).phase ≡ false
      → in_step_three (before sheet (suc i)).phase ≡ second_in_a_row sheet i
  unfolding before
  begins_at_second i out = begins_by i (sheet.entry i) refl out

  -- ---- the lower grade

  -- right behind a unit, where a lower plan starts behind the next one, that unit's defect grade is remembered
  first_remembered : (i : ℕ) (first second : SampleUnit) → sheet.entry i ≡ UnitRecord first → sheet.entry (suc i) ≡ UnitRecord second
      → lower_plan_starts_at sheet (suc i) ≡ true → (before sheet (suc i)).previous ≡ Some (graded_at sheet i first).grade
  unfolding before next
  first_remembered i first second is_first is_second starts =
      let state : State = before sheet i in
      let behind : State = before sheet (suc i) in
      let two : (is_some behind.previous && (graded_at sheet (suc i) second).fails) ≡ true
      = sym (two_in_a_row_is behind.previous _) ∙ starts_is (suc i) second is_second ∙ starts in
      let failed : is_some behind.previous ≡ true = (and_both (is_some behind.previous) _ two).0 in
      let same : before sheet (suc i) ≡ after_unit sheet.table state (graded_at sheet i first) (qualifies_at sheet i first)
      = ap (next sheet.table state) is_first in
      ap (λ (behind : State). behind.previous) same
      ∙ behind_failure sheet.table state (graded_at sheet i first) (qualifies_at sheet i first)
      (sym (ap (λ (behind : State). is_some behind.previous) same) ∙ failed)

  -- where a lower plan starts, and step 3 does not end, the phase is step 3 at the worse of the two defect grades, with no run
  pub lower_is_worse : (i : ℕ) (first second : SampleUnit) → sheet.entry i ≡ UnitRecord first → sheet.entry (suc i) ≡ UnitRecord second
      → lower_plan_starts_at sheet (suc i) ≡ true → ends_step_three (before sheet (suc i)).phase (qualifies_at sheet (suc i) second) ≡ false
      → (before sheet (suc (suc i))).phase ≡ StepThree (worse (graded_at sheet i first).grade (graded_at sheet (suc i) second).grade) 0
  unfolding before next restarted worse_of_two
  lower_is_worse i first second is_first is_second starts going_on =
      let state : State = before sheet (suc i) in
      let started = unit_starts_lower sheet.table state (graded_at sheet (suc i) second) (qualifies_at sheet (suc i) second) going_on
      (starts_is (suc i) second is_second ∙ starts) in
      ap (λ (entry : Entry). (next sheet.table state entry).phase) is_second
      ∙ ap (λ (behind : State). behind.phase) started
      ∙ ap (λ (previous : Option ℕ). StepThree (worse_of_two previous (graded_at sheet (suc i) second).grade) 0)
      (first_remembered i first second is_first is_second starts)

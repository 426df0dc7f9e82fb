-- Where step 3 stands, by place, on a sheet where no unit that fails qualifies: a break keeps it, a redesignation keeps it exactly if
-- its new grade is better than the lower one, a unit ends it exactly if it is the third in a row that qualifies; and while it stands the
-- lower grade changes exactly behind the second of two units in a row that fail, to a worse one. By cases on the record, and on the
-- tests of what it does to the state.
use Prim.Native.Nat.{ℕ, zero, suc, ◌<◌}
use mathlib.Core.Path.{◌≡◌, refl, sym, ◌∙◌, ap, subst⁻¹}
use mathlib.Core.Bool.{Bool, true, false, not, ◌&&◌, true≢false, false≢true}
use native.Mathlib.Omega.{arith}
use lib.Dec.{ltb}
use Rattle.units.specs.Words.{Table, tenths_of}
use Rattle.units.specs.Unit.{unit_fails}
use Rattle.units.specs.Records.{is_unit_that}
use Rattle.units.specs.declared.SampleUnit.{SampleUnit}
use Rattle.units.specs.declared.Entry.{Entry}
use Rattle.units.specs.declared.Entry.TheVariants.{UnitRecord, Redesignation, Break}
use Rattle.units.proofs.Failing.{failing_worse}
use Rattle.units.proofs.Records.{unit_that}
use Rattle.units.proofs.Tests.{and_both}
use Rattle.rules.specs.StepThree.{in_step_three, in_force, two_in_a_row, worse_of_two, ends_step_three, without_run, keeps_step_three, restarted, graded, qualifies_in, after_redesignation, after_break, next, record_ends_step_three}
use Rattle.rules.specs.Sheet.{Sheet, before, in_force_at, graded_at, qualifies_at, step_three_ends_at}
use Rattle.anchors.specs.TwoInARow.{fails_in_force, fails_lower, unit_fails_lower_at, second_at_lower}
use Rattle.anchors.specs.ThreeInARow.{third_in_a_row}
use Rattle.rules.specs.declared.Phase.{Phase}
use Rattle.rules.specs.declared.Phase.TheVariants.{Designated, StepThree}
use Rattle.rules.specs.declared.State.{State}
use Rattle.rules.proofs.Steps.{unit_starts_lower, unit_by, redesignation_by, with_unit_in_step_three, with_unit_in_force, without_run_in_force, without_run_in_step_three, keeps_is, kept_in_force, ends_qualifying}
use Rattle.anchors.proofs.TwoFailures.{starts_is, starts_inside}
use Rattle.rules.proofs.FailingUnits.{worse_at_least, FailingNeverQualifies}
use Rattle.anchors.proofs.ThreeQualify.{ends_at_third}

-- ---- of one record

-- behind a record step 3 stands by this test, and if it does its lower grade is the same, unless a lower plan starts there
record Kept (starts test : Bool) (state behind : State) : Type 0 where
  stands : in_step_three behind.phase ≡ test
  same_lower : starts ≡ false → test ≡ true → in_force behind ≡ in_force state

kept_inside : (phase : Phase) (new : ℕ) → keeps_step_three phase new ≡ true → in_step_three (without_run phase) ≡ true
unfolding keeps_step_three in_step_three without_run
kept_inside Designated new keeps = absurd (false≢true keeps)
kept_inside (StepThree lower run) new keeps = refl

redesignation_kept : (table : Table) (state : State) (new : ℕ) → Kept false (keeps_step_three state.phase new) state (after_redesignation table state new)
unfolding restarted in_step_three
redesignation_kept table state new =
    redesignation_by table state new (Kept false (keeps_step_three state.phase new) state)
    (λ keeps. record {
      stands = kept_inside state.phase new keeps ∙ sym keeps;
      same_lower = λ _ _. kept_in_force state.phase state.designated new keeps;
    })
    (λ other. record { stands = sym other; same_lower = λ _ keeps. absurd (true≢false (sym keeps ∙ other)) })

-- behind a unit in step 3 it stands unless it ends there
unit_kept : (table : Table) (state : State) (unit : SampleUnit) → in_step_three state.phase ≡ true →
    let ends = ends_step_three state.phase (qualifies_in table state unit) in
    Kept (two_in_a_row state.previous (graded table state unit).fails) (not ends) state (next table state (UnitRecord unit))
unfolding next restarted in_step_three
unit_kept table state unit inside =
    unit_by table state (graded table state unit) (qualifies_in table state unit)
    (Kept (two_in_a_row state.previous (graded table state unit).fails) (not (ends_step_three state.phase (qualifies_in table state unit))) state)
    (λ ends. record { stands = sym (ap not ends); same_lower = λ _ going_on. absurd (true≢false (sym going_on ∙ ap not ends)) })
    (λ ends two. record { stands = sym (ap not ends); same_lower = λ one _. absurd (true≢false (sym two ∙ one)) })
    (λ ends one. record {
      stands = with_unit_in_step_three state.phase (qualifies_in table state unit) ∙ inside ∙ sym (ap not ends);
      same_lower = λ _ _. with_unit_in_force state.designated state.phase (qualifies_in table state unit);
    })

-- ---- by place

module _ (sheet : Sheet) (i : ℕ) where
  break_kept : sheet.entry i ≡ Break → Kept false (in_step_three (before sheet i).phase) (before sheet i) (before sheet (suc i))
  unfolding before next after_break restarted
  break_kept is_break_holds =
      let state : State = before sheet i in
      subst⁻¹ (λ (entry : Entry). Kept false (in_step_three state.phase) state (next sheet.table state entry)) is_break_holds
      (record { stands = without_run_in_step_three state.phase; same_lower = λ _ _. without_run_in_force state.designated state.phase })

  redesignation_kept_at : (new : ℕ) → sheet.entry i ≡ Redesignation new
      → Kept false (in_step_three (before sheet i).phase && ltb new (in_force_at sheet i)) (before sheet i) (before sheet (suc i))
  unfolding before next
  redesignation_kept_at new is_redesignation =
      let state : State = before sheet i in
      let keeps : Bool = in_step_three state.phase && ltb new (in_force_at sheet i) in
      subst⁻¹ (λ (entry : Entry). Kept false keeps state (next sheet.table state entry)) is_redesignation
      (subst⁻¹ (λ (test : Bool). Kept false test state (after_redesignation sheet.table state new))
      (sym (keeps_is state.designated state.phase new)) (redesignation_kept sheet.table state new))

  -- a break does not end step 3
  pub at_break : sheet.entry i ≡ Break → in_step_three (before sheet (suc i)).phase ≡ in_step_three (before sheet i).phase
  at_break is_break_holds = (break_kept is_break_holds).stands

  -- a redesignation keeps it exactly if it stands and the new grade is better than the lower one
  pub at_redesignation : (new : ℕ) → sheet.entry i ≡ Redesignation new
      → in_step_three (before sheet (suc i)).phase ≡ (in_step_three (before sheet i).phase && ltb new (in_force_at sheet i))
  at_redesignation new is_redesignation = (redesignation_kept_at new is_redesignation).stands

module _ (sheet : Sheet) (apart : FailingNeverQualifies sheet) (i : ℕ) where
  abbrev state : State
  state = before sheet i

  abbrev table : Table
  table = sheet.table

  unit_kept_at : (unit : SampleUnit) → sheet.entry i ≡ UnitRecord unit → in_step_three state.phase ≡ true
      → Kept (second_at_lower sheet i) (not (third_in_a_row sheet i)) state (before sheet (suc i))
  unfolding before
  unit_kept_at unit is_unit inside =
      let two = two_in_a_row state.previous (graded table state unit).fails in
      let ends = ends_step_three state.phase (qualifies_in table state unit) in
      let is_second : second_at_lower sheet i ≡ two = sym (starts_inside sheet i inside) ∙ sym (starts_is sheet i unit is_unit) in
      let is_third : third_in_a_row sheet i ≡ ends
      = sym (ends_at_third sheet apart i) ∙ unfold step_three_ends_at record_ends_step_three is_unit_that in ap (record_ends_step_three table state) is_unit in
      subst⁻¹ (λ (test : Bool). Kept test (not (third_in_a_row sheet i)) state (next table state (sheet.entry i))) is_second
      (subst⁻¹ (λ (test : Bool). Kept two (not test) state (next table state (sheet.entry i))) is_third
      (subst⁻¹ (λ (entry : Entry). Kept two (not ends) state (next table state entry)) is_unit (unit_kept table state unit inside)))

  -- a unit in step 3 ends it exactly if it is the third in a row that qualifies
  pub at_unit : (unit : SampleUnit) → sheet.entry i ≡ UnitRecord unit → in_step_three (before sheet i).phase ≡ true
      → in_step_three (before sheet (suc i)).phase ≡ not (third_in_a_row sheet i)
  at_unit unit is_unit inside = (unit_kept_at unit is_unit inside).stands

  -- while step 3 stands, the lower grade is the same but behind the second of two units in a row that fail the lower plan
  pub lower_stays : in_step_three (before sheet i).phase ≡ true → in_step_three (before sheet (suc i)).phase ≡ true → second_at_lower sheet i ≡ false
      → in_force_at sheet (suc i) ≡ in_force_at sheet i
  lower_stays inside still one = go (sheet.entry i) refl
    where
      kept : {starts test : Bool} → Kept starts test (before sheet i) (before sheet (suc i)) → starts ≡ false → in_force_at sheet (suc i) ≡ in_force_at sheet i
      kept here none = here.same_lower none (sym here.stands ∙ still)

      go : (entry : Entry) → sheet.entry i ≡ entry → in_force_at sheet (suc i) ≡ in_force_at sheet i
      go (UnitRecord unit) is_unit = kept (unit_kept_at unit is_unit inside) one
      go (Redesignation new) is_redesignation = kept (redesignation_kept_at sheet i new is_redesignation) refl
      go Break is_break_holds = kept (break_kept sheet i is_break_holds) refl

  -- ---- where a lower plan starts in step 3

  -- that is at a unit in step 3 that fails
  failing_second : (j : ℕ) → second_at_lower sheet j ≡ true → unit_fails_lower_at sheet j ≡ true
  unfolding second_at_lower
  failing_second zero second = absurd (false≢true second)
  failing_second (suc j) second = (and_both (unit_fails_lower_at sheet j && not (second_at_lower sheet j)) (unit_fails_lower_at sheet (suc j)) second).1

  -- step 3 stands behind it, with no run, under a plan of a worse grade
  pub lower_plan_worse : second_at_lower sheet i ≡ true
      → (lower : ℕ) × ((before sheet (suc i)).phase ≡ StepThree lower 0) × (in_force_at sheet i < lower)
  unfolding unit_fails_lower_at fails_lower fails_in_force before next restarted
  lower_plan_worse second =
      let (inside, failing) = and_both (in_step_three state.phase) (fails_in_force table state (sheet.entry i)) (failing_second i second) in
      let (unit, is_unit, fails) = unit_that _ (sheet.entry i) failing in
      behind unit is_unit inside fails
    where
      behind : (unit : SampleUnit) → sheet.entry i ≡ UnitRecord unit → in_step_three (before sheet i).phase ≡ true
          → unit_fails sheet.table (in_force_at sheet i) (before sheet i).cusums (tenths_of unit) ≡ true
          → (lower : ℕ) × ((before sheet (suc i)).phase ≡ StepThree lower 0) × (in_force_at sheet i < lower)
      behind unit is_unit inside fails =
          let state : State = before sheet i in
          let lower : ℕ = worse_of_two state.previous (graded_at sheet i unit).grade in
          let going_on : ends_step_three state.phase (qualifies_at sheet i unit) ≡ false
          = ap (ends_step_three state.phase) (apart i unit (unfold graded in fails)) ∙ ends_qualifying state.phase in
          let two : two_in_a_row state.previous (graded_at sheet i unit).fails ≡ true
          = starts_is sheet i unit is_unit ∙ starts_inside sheet i inside ∙ second in
          let worse_grade : in_force_at sheet i < (graded_at sheet i unit).grade
          = unfold graded in failing_worse sheet.table (in_force_at sheet i) state.cusums (tenths_of unit) fails in (
            lower,
            ap (λ (entry : Entry). (next sheet.table state entry).phase) is_unit
                ∙ ap (λ (behind : State). behind.phase)
                (unit_starts_lower sheet.table state (graded_at sheet i unit) (qualifies_at sheet i unit) going_on two),
            omega (arith, worse_grade, worse_at_least state.previous (graded_at sheet i unit).grade),
          )

-- Step 3 ends at a record exactly if that is the third of three units in a row that qualify, told by their places, on a sheet where no
-- unit that fails qualifies. One way by the finished run; the other by the run, which each qualifying unit that does not end step 3
-- makes one longer: behind it no lower plan starts, as it does not fail.
use Rattle.std.proofs.Common.{is_some, ℕ, zero, suc, ◌≤◌, ◌≡◌, refl, sym, ◌∙◌, ap, Bool, true, false, ◌&&◌, true≢false, arith, le-leb}
use mathlib.Core.Path.{subst⁻¹}
use mathlib.Core.Bool.{false≢true}
use Rattle.units.specs.Words.{Table}
use Rattle.units.specs.Records.{is_unit_that}
use Rattle.units.specs.declared.SampleUnit.{SampleUnit}
use Rattle.units.specs.declared.Entry.{Entry}
use Rattle.units.specs.declared.Entry.TheVariants.{UnitRecord}
use Rattle.units.proofs.Records.{unit_that}
use Rattle.units.proofs.Tests.{and_both}
use Rattle.rules.specs.StepThree.{in_step_three, ends_step_three, with_unit, restarted, graded, qualifies_with, qualifies_in, next, record_ends_step_three}
use Rattle.rules.specs.Sheet.{Sheet, before, step_three_ends_at}
use Rattle.anchors.specs.ThreeInARow.{record_qualifies, unit_qualifies_at, third_in_a_row}
use Rattle.rules.specs.declared.Phase.{Phase}
use Rattle.rules.specs.declared.Phase.TheVariants.{Designated, StepThree}
use Rattle.rules.specs.declared.State.{State}
use Rattle.rules.proofs.Steps.{unit_by, two_in_a_row_is}
use Rattle.rules.proofs.FailingUnits.{FailingNeverQualifies}
use Rattle.rules.proofs.FinishedRun.{Qualifying, finished_run}

-- ---- what a qualifying unit does to the run

-- in step 3 with a run of at least so many
unfoldable RunAtLeast : ℕ → Phase → Type 0
RunAtLeast least Designated = ⊥
RunAtLeast least (StepThree lower run) = least ≤ run

inside_run : (phase : Phase) → in_step_three phase ≡ true → RunAtLeast 0 phase
unfolding in_step_three RunAtLeast
inside_run Designated inside = absurd (false≢true inside)
inside_run (StepThree lower run) inside = omega arith

-- a unit that qualifies is in step 3
qualifying_inside : (table : Table) (state : State) (unit : SampleUnit) → qualifies_in table state unit ≡ true → in_step_three state.phase ≡ true
unfolding qualifies_with
qualifying_inside table state unit e = (and_both (in_step_three state.phase) _ e).0

longer : (phase : Phase) (qualifies : Bool) (least : ℕ) → qualifies ≡ true → RunAtLeast least phase → RunAtLeast (suc least) (with_unit phase qualifies)
unfolding RunAtLeast with_unit
longer Designated qualifies least qualifying run = absurd run
longer (StepThree lower run) true least qualifying at_least = omega arith
longer (StepThree lower run) false least qualifying at_least = absurd (false≢true qualifying)

ends_from_two : (phase : Phase) (qualifies : Bool) → qualifies ≡ true → RunAtLeast 2 phase → ends_step_three phase qualifies ≡ true
unfolding RunAtLeast ends_step_three
ends_from_two Designated qualifies qualifying run = absurd run
ends_from_two (StepThree lower run) qualifies qualifying at_least = rw qualifying (le-leb 2 run at_least)

-- ---- by their places

module _ (sheet : Sheet) where
  qualifying_unit : (i : ℕ) → unit_qualifies_at sheet i ≡ true
      → (unit : SampleUnit) × (sheet.entry i ≡ UnitRecord unit) × (qualifies_in sheet.table (before sheet i) unit ≡ true)
  unfolding unit_qualifies_at record_qualifies
  qualifying_unit i e = unit_that (qualifies_in sheet.table (before sheet i)) (sheet.entry i) e

  pub qualifies_inside : (i : ℕ) → unit_qualifies_at sheet i ≡ true → in_step_three (before sheet i).phase ≡ true
  qualifies_inside i e =
      let (unit, is_unit, qualifies) = qualifying_unit i e in qualifying_inside sheet.table (before sheet i) unit qualifies

  -- the three of a finished run qualify, so that step 3 ends at a third
  pub qualifies_at_holds : {i designated lower run : ℕ} → Qualifying sheet.table (before sheet i) (sheet.entry i) designated lower run → unit_qualifies_at sheet i ≡ true
  unfolding unit_qualifies_at record_qualifies is_unit_that
  qualifies_at_holds {i} q = ap (record_qualifies sheet.table (before sheet i)) q.is_unit ∙ q.qualifies

  ends_third : (i : ℕ) → step_three_ends_at sheet i ≡ true → third_in_a_row sheet i ≡ true
  ends_third i ends =
      let run = finished_run sheet i ends in
      subst⁻¹ (λ (j : ℕ). third_in_a_row sheet j ≡ true) run.ends_here
      (unfold third_in_a_row in rw (qualifies_at_holds run.first, qualifies_at_holds run.second, qualifies_at_holds run.third))

module _ (sheet : Sheet) (apart : FailingNeverQualifies sheet) where
  -- a qualifying unit makes the run one longer, unless step 3 ends at it
  run_longer : (i least : ℕ) → unit_qualifies_at sheet i ≡ true → RunAtLeast least (before sheet i).phase → in_step_three (before sheet (suc i)).phase ≡ true
      → RunAtLeast (suc least) (before sheet (suc i)).phase
  unfolding before next
  run_longer i least e at_least =
      let (unit, is_unit, qualifies) = qualifying_unit sheet i e in
      let state : State = before sheet i in
      subst⁻¹ (λ (entry : Entry). Grows (next sheet.table state entry)) is_unit
      (unfold restarted in_step_three in
      unit_by sheet.table state (graded sheet.table state unit) (qualifies_in sheet.table state unit) Grows
      (λ ends inside. absurd (false≢true inside))
      (λ ends two.
      let fails = (and_both (is_some state.previous) _ (sym (two_in_a_row_is state.previous _) ∙ two)).1 in
      absurd (true≢false (sym qualifies ∙ apart i unit fails)))
      (λ ends two inside. longer state.phase (qualifies_in sheet.table state unit) least qualifies at_least))
    where
      Grows : State → Type 0
      Grows behind = in_step_three behind.phase ≡ true → RunAtLeast (suc least) behind.phase

  -- step 3 ends at the third qualifying unit in a row
  pub third_ends : (i : ℕ) → unit_qualifies_at sheet i ≡ true → unit_qualifies_at sheet (suc i) ≡ true → unit_qualifies_at sheet (suc (suc i)) ≡ true
      → step_three_ends_at sheet (suc (suc i)) ≡ true
  unfolding step_three_ends_at record_ends_step_three is_unit_that
  third_ends i first second third =
      let one = run_longer i 0 first (inside_run (before sheet i).phase (qualifies_inside sheet i first)) (qualifies_inside sheet (suc i) second) in
      let two = run_longer (suc i) 1 second one (qualifies_inside sheet (suc (suc i)) third) in
      let (unit, is_unit, qualifies) = qualifying_unit sheet (suc (suc i)) third in
      ap (record_ends_step_three sheet.table (before sheet (suc (suc i)))) is_unit
      ∙ ends_from_two (before sheet (suc (suc i))).phase (qualifies_in sheet.table (before sheet (suc (suc i))) unit) qualifies two

  third_by : (i : ℕ) → third_in_a_row sheet i ≡ true → step_three_ends_at sheet i ≡ true
  unfolding third_in_a_row
  third_by zero e = absurd (false≢true e)
  third_by (suc zero) e = absurd (false≢true e)
  third_by (suc (suc i)) e =
      let (first, rest) = and_both (unit_qualifies_at sheet i) (unit_qualifies_at sheet (suc i) && unit_qualifies_at sheet (suc (suc i))) e in
      let (second, third) = and_both (unit_qualifies_at sheet (suc i)) (unit_qualifies_at sheet (suc (suc i))) rest in
      third_ends i first second third

  -- STEP 3 ENDS EXACTLY THERE
  pub ends_at_third : (i : ℕ) → step_three_ends_at sheet i ≡ third_in_a_row sheet i
  ends_at_third i = go (step_three_ends_at sheet i) refl (third_in_a_row sheet i) refl
    where
      go : (ends : Bool) → step_three_ends_at sheet i ≡ ends → (third : Bool) → third_in_a_row sheet i ≡ third → ends ≡ third
      go true e true f = refl
      go false e false f = refl
      go true e false f = absurd (true≢false (sym (ends_third sheet i e) ∙ f))
      go false e true f = absurd (false≢true (sym e ∙ third_by i f))

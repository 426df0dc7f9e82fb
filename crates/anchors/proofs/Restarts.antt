-- What the restarts, told by their places, are to the grading, on a sheet where no unit that fails qualifies: behind one every class of
-- the plan then in force is at its S; behind any other record the plan in force is the same, and a unit leaves its new CuSums, any other
-- record those before it. By cases on the record, and on the tests of what it does to the state.
use Prim.Native.Nat.{ℕ, suc}
use mathlib.Core.Path.{◌≡◌, refl, sym, ◌∙◌, ap}
use mathlib.Core.Bool.{Bool, true, false, ◌||◌, true≢false}
use mathlib.Core.List.{List}
use borrow.Author.Tests.{not-true, not-false}
use Rattle.cusum.specs.declared.Cusum.{Cusum}
use Rattle.units.specs.Words.{Table, row_of}
use Rattle.units.specs.Unit.{starting}
use Rattle.units.specs.declared.SampleUnit.{SampleUnit}
use Rattle.units.specs.declared.Entry.{Entry}
use Rattle.units.specs.declared.Entry.TheVariants.{UnitRecord, Redesignation, Break}
use Rattle.units.specs.Records.{is_unit_that}
use Rattle.units.proofs.Tests.{or_first, or_second}
use Rattle.rules.specs.StepThree.{in_force, ends_step_three, keeps_step_three, restarted, graded, qualifies_in, after_unit, after_break, next, record_ends_step_three}
use Rattle.rules.specs.Sheet.{Sheet, before, in_force_at, graded_at, step_three_ends_at}
use Rattle.anchors.specs.TwoInARow.{lower_plan_starts_at}
use Rattle.anchors.specs.ThreeInARow.{third_in_a_row}
use Rattle.anchors.specs.Anchor.{restart_by, restart_at}
use Rattle.rules.specs.declared.State.{State}
use Rattle.rules.proofs.Steps.{unit_ends, unit_starts_lower, unit_passes, redesignation_keeps, redesignation_restarts, with_unit_in_force, keeps_is, kept_in_force}
use Rattle.anchors.proofs.TwoFailures.{starts_is}
use Rattle.rules.proofs.FailingUnits.{FailingNeverQualifies}
use Rattle.anchors.proofs.ThreeQualify.{ends_at_third}

-- the CuSums behind a record that brings about no restart
unfoldable pub cusums_behind : Table → State → Entry → List Cusum
cusums_behind table state (UnitRecord unit) = (graded table state unit).cusums
cusums_behind table state (Redesignation new) = state.cusums
cusums_behind table state Break = state.cusums

-- every class of the plan in force is at its S
abbrev AtStart : Table → State → Type 0
AtStart table state = state.cusums ≡ starting (row_of table (in_force state))

module _ (sheet : Sheet) (apart : FailingNeverQualifies sheet) (i : ℕ) where
  abbrev state : State
  state = before sheet i

  abbrev table : Table
  table = sheet.table

  -- ---- a unit

  module _ (unit : SampleUnit) (is_unit : sheet.entry i ≡ UnitRecord unit) where
    ends_is : third_in_a_row sheet i ≡ ends_step_three state.phase (qualifies_in table state unit)
    unfolding step_three_ends_at record_ends_step_three is_unit_that
    ends_is = sym (ends_at_third sheet apart i) ∙ ap (record_ends_step_three table state) is_unit

    unit_starts : (lower_plan_starts_at sheet i || third_in_a_row sheet i) ≡ true → AtStart table (next table state (UnitRecord unit))
    unfolding next
    unit_starts e = go (third_in_a_row sheet i) refl (lower_plan_starts_at sheet i) refl e
      where
        go : (ends : Bool) → third_in_a_row sheet i ≡ ends → (second : Bool) → lower_plan_starts_at sheet i ≡ second → (second || ends) ≡ true
            → AtStart table (after_unit table state (graded_at sheet i unit) (qualifies_in table state unit))
        go true ends second is_second e =
            rw (unit_ends table state (graded_at sheet i unit) (qualifies_in table state unit) (sym ends_is ∙ ends))
            (unfold restarted in refl)
        go false ends true second e =
            rw (unit_starts_lower table state (graded_at sheet i unit) (qualifies_in table state unit) (sym ends_is ∙ ends)
            (starts_is sheet i unit is_unit ∙ second))
            (unfold restarted in refl)
        go false ends false second e = absurd (true≢false (sym e))

    unit_keeps : (lower_plan_starts_at sheet i || third_in_a_row sheet i) ≡ false →
        let behind = next table state (UnitRecord unit) in
        (in_force behind ≡ in_force state) × (behind.cusums ≡ (graded_at sheet i unit).cusums)
    unfolding next
    unit_keeps e =
        let one = or_first (lower_plan_starts_at sheet i) (third_in_a_row sheet i) e in
        let going_on = or_second (lower_plan_starts_at sheet i) (third_in_a_row sheet i) e in
        rw (unit_passes table state (graded_at sheet i unit) (qualifies_in table state unit) (sym ends_is ∙ going_on) (starts_is sheet i unit is_unit ∙ one))
        (with_unit_in_force state.designated state.phase (qualifies_in table state unit), refl)

  -- ---- any record

  starts_by : (entry : Entry) → sheet.entry i ≡ entry → restart_by sheet i entry ≡ true → AtStart table (next table state entry)
  unfolding restart_by next after_break
  starts_by (UnitRecord unit) is_entry e = unfold next in unit_starts unit is_entry e
  starts_by (Redesignation new) is_entry e =
      rw (redesignation_restarts table state new (keeps_is state.designated state.phase new ∙ not-true _ e)) (unfold restarted in refl)
  starts_by Break is_entry e = unfold restarted in refl

  keeps_by : (entry : Entry) → sheet.entry i ≡ entry → restart_by sheet i entry ≡ false →
      let behind = next table state entry in
      (in_force behind ≡ in_force state) × (behind.cusums ≡ cusums_behind table state entry)
  unfolding restart_by next cusums_behind
  keeps_by (UnitRecord unit) is_entry e = unit_keeps unit is_entry e
  keeps_by (Redesignation new) is_entry e =
      let keeps : keeps_step_three state.phase new ≡ true = keeps_is state.designated state.phase new ∙ not-false _ e in
      rw (redesignation_keeps table state new keeps) (kept_in_force state.phase state.designated new keeps, refl)
  keeps_by Break is_entry e = absurd (true≢false e)

  -- behind a restart every class of the plan in force is at its S
  pub restart_starts : restart_at sheet i ≡ true → (before sheet (suc i)).cusums ≡ starting (row_of sheet.table (in_force_at sheet (suc i)))
  unfolding restart_at before
  restart_starts e = starts_by (sheet.entry i) refl e

  -- behind any other record the plan in force is the same, and the CuSums go on
  pub no_restart_keeps : restart_at sheet i ≡ false
      → (in_force_at sheet (suc i) ≡ in_force_at sheet i) × ((before sheet (suc i)).cusums ≡ cusums_behind sheet.table (before sheet i) (sheet.entry i))
  unfolding restart_at before
  no_restart_keeps e = keeps_by (sheet.entry i) refl e

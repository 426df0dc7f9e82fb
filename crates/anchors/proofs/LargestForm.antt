-- Demand 3's first half over records: the CuSum of a class at a unit with a plan in force is reached from where its trail begins, by steps that
-- meet. By induction on the records: behind a restart every class is at its S, and behind any other record the plan in force and the trail go on.
use Prim.Native.Nat.{ℕ, zero, suc, ◌<◌}
use mathlib.Core.Path.{◌≡◌, refl, ◌∙◌, ap}
use mathlib.Core.Bool.{Bool, true, false, cond}
use mathlib.Core.List.{List}
use lib.ListN.{length}
use Rattle.cusum.specs.declared.Cusum.{Cusum}
use Rattle.units.specs.declared.SampleUnit.{SampleUnit}
use Rattle.units.specs.declared.Entry.{Entry}
use Rattle.units.specs.declared.Entry.TheVariants.{UnitRecord, Redesignation, Break}
use Rattle.units.specs.Words.{has_plan, classes, Table, numbers_of, tenths_of, tenths_in}
use Rattle.units.specs.Unit.{class_cusum}
use Rattle.units.specs.Records.{is_unit_that}
use Rattle.rules.specs.declared.State.{State}
use Rattle.rules.specs.StepThree.{in_force_in, in_force, restarted, graded}
use Rattle.rules.specs.Sheet.{Sheet, before, in_force_at}
use Rattle.anchors.specs.Anchor.{fails_at, tenths_at, restart_at, class_fails_at}
use Rattle.anchors.proofs.Restarts.{cusums_behind, restart_starts, no_restart_keeps}
use Rattle.anchors.proofs.Trails.{Trail, from_start, trail_with, trail_before, trail_at, Reached, reached_start, one_other, at_unit, behind_unit}
use Rattle.rules.proofs.FailingUnits.{FailingNeverQualifies, starts_at}

-- after a record that brings no restart
at_entry : (table : Table) (class : ℕ) → class < length classes → (state : State) (entry : Entry) (trail : Trail) → has_plan (in_force state) ≡ true
    → Reached (numbers_of table (in_force state) class) (tenths_in state.cusums class) trail
    → Reached (numbers_of table (in_force state) class) (tenths_in (cusums_behind table state entry) class)
    (trail_with (fails_at table class state entry) (tenths_at class entry) trail)
unfolding cusums_behind graded fails_at is_unit_that tenths_at
at_entry table class in_range state (UnitRecord unit) trail planned reached =
    behind_unit table (in_force state) planned state.cusums unit class trail reached in_range
at_entry table class in_range state (Redesignation new) trail planned reached = one_other _ _ trail reached
at_entry table class in_range state Break trail planned reached = one_other _ _ trail reached

module _ (sheet : Sheet) (apart : FailingNeverQualifies sheet) (class : ℕ) (in_range : class < length classes) where
  -- up to and with record i, and before it
  abbrev trail_of : ℕ → Trail
  trail_of = trail_at (restart_at sheet) (class_fails_at sheet class) sheet class

  abbrev trail_up_to : ℕ → Trail
  trail_up_to = trail_before (restart_at sheet) (class_fails_at sheet class) sheet class

  -- where there is a plan, the CuSum before record i is reached by the trail
  abbrev Held : ℕ → Trail → Type 0
  Held i trail =
      has_plan (in_force_at sheet i) ≡ true → Reached (numbers_of sheet.table (in_force_at sheet i) class) (tenths_in (before sheet i).cusums class) trail

  -- behind a record, by whether it brings about a restart
  held_next : (i : ℕ) → Held i (trail_up_to i) → (restarts : Bool) → restart_at sheet i ≡ restarts → Held (suc i) (cond restarts from_start (trail_of i))
  unfolding class_fails_at
  held_next i held true e planned =
      reached_start _ _
      (ap (λ (cusums : List Cusum). tenths_in cusums class) (restart_starts sheet apart i e) ∙ starts_at sheet.table class in_range (in_force_at sheet (suc i)))
  held_next i held false e planned =
      let (same_plan, same_cusums) = no_restart_keeps sheet apart i e in
      let planned_before = rw same_plan at planned in
      rw (same_plan, same_cusums)
      (at_entry sheet.table class in_range (before sheet i) (sheet.entry i) (trail_up_to i) planned_before (held planned_before))

  held_before : (i : ℕ) → Held i (trail_up_to i)
  unfolding trail_before
  held_before zero planned = unfold before restarted in_force_in in reached_start _ _ (starts_at sheet.table class in_range sheet.designated)
  held_before (suc i) planned = held_next i (held_before i) (restart_at sheet i) refl planned

  -- and so the CuSum of the unit that is record i
  pub unit_reached : (i : ℕ) (unit : SampleUnit) → sheet.entry i ≡ UnitRecord unit → has_plan (in_force_at sheet i) ≡ true
      → Reached (numbers_of sheet.table (in_force_at sheet i) class)
      (class_cusum sheet.table (in_force_at sheet i) (before sheet i).cusums (tenths_of unit) class)
      (trail_at (restart_at sheet) (class_fails_at sheet class) sheet class i)
  unfolding class_fails_at fails_at is_unit_that tenths_at
  unit_reached i unit is_unit planned =
      rw is_unit (at_unit sheet.table (in_force_at sheet i) planned (before sheet i).cusums unit class (trail_up_to i) (held_before i planned))

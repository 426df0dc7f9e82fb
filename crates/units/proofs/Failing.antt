-- A unit that fails: its defect grade is worse than that of the plan in force, and it does not qualify if the CuSums before it were at
-- most L and the designated T is nowhere above that of the plan in force. By the class that fails: its CuSum is L, so L is zero if the
-- unit qualifies; then its own count alone is above T.
use Prim.Native.Nat.{ℕ, ◌≤◌, ◌<◌}
use mathlib.Core.Path.{◌≡◌, refl, ◌∙◌}
use mathlib.Core.Bool.{Bool, true, false}
use mathlib.Core.List.{List}
use native.Mathlib.Omega.{arith}
use lib.ListN.{length}
use borrow.Author.Tests.{ltb-true, leb-true, eqb-true}
use Rattle.cusum.specs.declared.Cusum.{Cusum}
use Rattle.cusum.specs.Step.{fails}
use Rattle.cusum.proofs.Laws.{fails_true, failed_at}
use Rattle.units.specs.Words.{substandard, has_plan, classes, Table, row_of, numbers_of, count_tenths, tenths_in}
use Rattle.units.specs.Unit.{class_fails, class_cusum, new_cusums, unit_fails, none_above, defect_grade, all_zero, within_tolerance, qualifies}
use Rattle.units.proofs.BestLower.{best_lower_is}
use Rattle.units.proofs.Classes.{at_class}
use Rattle.units.proofs.Lists.{some_in, all_each}
use Rattle.units.proofs.Tests.{and_both}

module _ (table : Table) (grade : ℕ) (cusums : List Cusum) (tenths : List ℕ) where
  -- there is a class that fails, and so a plan
  failing_class : unit_fails table grade cusums tenths ≡ true
      → (class : ℕ) × (class < length classes) × (has_plan grade ≡ true)
      × (fails (numbers_of table grade class) (tenths_in cusums class) (count_tenths tenths class) ≡ true)
  unfolding unit_fails class_fails
  failing_class failing =
      let (class, known, here) = some_in (length classes) _ failing in
      let (planned, fails_here) = and_both (has_plan grade) _ here in
      (class, known, planned, fails_here)

  failing_planned : unit_fails table grade cusums tenths ≡ true → grade < substandard
  unfolding has_plan
  failing_planned failing = let (class, known, planned, here) = failing_class failing in ltb-true grade substandard planned

  pub failing_worse : unit_fails table grade cusums tenths ≡ true → grade < defect_grade table grade cusums tenths
  unfolding defect_grade
  failing_worse failing = rw failing (best_lower_is table tenths grade (failing_planned failing)).lower

  pub failing_not_qualifying : (designated : ℕ)
      → (has_plan grade ≡ true → (class : ℕ) → class < length classes
      → (tenths_in cusums class ≤ (numbers_of table grade class).limit) × ((numbers_of table designated class).tolerance ≤ (numbers_of table grade class).tolerance))
      → unit_fails table grade cusums tenths ≡ true → qualifies table designated (new_cusums table grade cusums tenths) tenths ≡ false
  unfolding qualifies all_zero within_tolerance none_above new_cusums class_cusum
  failing_not_qualifying designated within failing = go (qualifies table designated (new_cusums table grade cusums tenths) tenths) refl
    where
      go : (test : Bool) → qualifies table designated (new_cusums table grade cusums tenths) tenths ≡ test → test ≡ false
      go false e = refl
      go true e =
          let (class, known, planned, here) = failing_class failing in
          let (zero, few) = and_both (all_zero (new_cusums table grade cusums tenths)) (within_tolerance (row_of table designated) tenths) e in
          let (at_most, no_larger) = within planned class known in
          let numbers = numbers_of table grade class in
          let new : tenths_in (new_cusums table grade cusums tenths) class ≡ numbers.limit
          = at_class (class_cusum table grade cusums tenths) class known ∙ rw planned (failed_at numbers (tenths_in cusums class) (count_tenths tenths class) here) in
          let none : tenths_in (new_cusums table grade cusums tenths) class ≡ 0 = eqb-true _ 0 (all_each (length classes) _ zero class known) in
          let small = leb-true (count_tenths tenths class) (numbers_of table designated class).tolerance (all_each (length classes) _ few class known) in
          absurd (omega (arith, fails_true numbers (tenths_in cusums class) (count_tenths tenths class) here, new, none, at_most, no_larger, small))

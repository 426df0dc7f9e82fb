-- Under a grade that has a plan, rule 2 in every class of its row is rule 2 under the plan in force: by the test alone. Where no class
-- of a row fails, none is over: class by class.
use Prim.Native.Nat.{ℕ}
use mathlib.Core.Path.{◌≡◌}
use mathlib.Core.Bool.{true, false}
use mathlib.Core.List.{List, map}
use lib.ListN.{length}
use Rattle.cusum.specs.declared.PlanNumbers.{PlanNumbers}
use Rattle.cusum.specs.declared.Cusum.{Cusum}
use Rattle.cusum.specs.Step.{fails}
use Rattle.cusum.proofs.Laws.{overshoot_met}
use Rattle.units.specs.Conditions.{any}
use Rattle.units.specs.Words.{has_plan, classes, Table, row_of, in_class, count_tenths, tenths_in, zero_cusum, no_overshoots}
use Rattle.units.specs.Unit.{class_fails, class_cusum, new_cusums, class_overshoot, new_overshoots, unit_fails, stepped_under, stepped_in}
use Rattle.units.proofs.Lists.{map_same, in_none}

pub stepped_under_holds : (table : Table) (grade : ℕ) (cusums : List Cusum) (tenths : List ℕ) → has_plan grade ≡ true
    → stepped_in (row_of table grade) cusums tenths ≡ stepped_under table grade cusums tenths
unfolding stepped_in new_cusums new_overshoots unit_fails class_fails class_cusum class_overshoot any
stepped_under_holds table grade cusums tenths planned = rw planned

-- where there is none, no class fails and every CuSum and overshoot is zero
pub stepped_under_none : (table : Table) (grade : ℕ) (cusums : List Cusum) (tenths : List ℕ) → has_plan grade ≡ false
    → record { cusums = map (λ class. zero_cusum) classes; overshoots = no_overshoots; fails = false } ≡ stepped_under table grade cusums tenths
unfolding new_cusums new_overshoots unit_fails class_fails class_cusum class_overshoot any
stepped_under_none table grade cusums tenths none = rw none

pub none_over : (row : List PlanNumbers) (cusums : List Cusum) (tenths : List ℕ) → (stepped_in row cusums tenths).fails ≡ false
    → (stepped_in row cusums tenths).overshoots ≡ no_overshoots
unfolding stepped_in
none_over row cusums tenths met =
    map_same (length classes) _ _
    (λ class known. overshoot_met _ _ _
    (in_none (length classes) (λ k. fails (in_class row k) (tenths_in cusums k) (count_tenths tenths k)) met class known))

-- Bounds of what one unit has and gets: a count of a class goes by those of the kinds, a CuSum is at most its L, an overshoot at most
-- the unit's own defects, and a defect grade at most Substandard. By cases on the tests, and on the class.
use Prim.Native.Nat.{ℕ, zero, suc, ◌≤◌, ◌<◌}
use mathlib.Core.Path.{◌≡◌, refl}
use mathlib.Core.Bool.{Bool, true, false, cond, ◌&&◌}
use mathlib.Core.List.{List}
use native.Mathlib.Omega.{arith}
use lib.Dec.{ltb}
use lib.ListN.{length}
use Rattle.cusum.specs.declared.Cusum.{Cusum}
use Rattle.cusum.specs.declared.PlanNumbers.{PlanNumbers}
use Rattle.cusum.specs.Counts.{defect_tenths}
use Rattle.cusum.specs.Step.{overshoot}
use Rattle.cusum.proofs.Laws.{new_cusum_le_limit, overshoot_le_tenths}
use Rattle.units.specs.declared.SampleUnit.{SampleUnit}
use Rattle.units.specs.Words.{substandard, has_plan, classes, Table, row_of, numbers_of, total, tenths_of, count_tenths, tenths_in}
use Rattle.units.specs.Unit.{class_cusum, new_cusums, class_overshoot, unit_fails, admits, best_lower, defect_grade}
use Rattle.units.proofs.Classes.{at_class}

-- what bounds two numbers bounds either of them
pub choice_le : (b : Bool) (x y n : ℕ) → x ≤ n → y ≤ n → cond b x y ≤ n
choice_le true x y n h k = h
choice_le false x y n h k = k

-- the count of a class is at most the sum of all kinds
pub count_le_all : (unit : SampleUnit) (class : ℕ) → count_tenths (tenths_of unit) class ≤ defect_tenths (total unit)
count_le_all unit zero = omega arith
count_le_all unit (suc zero) = omega arith
count_le_all unit (suc (suc zero)) = omega arith
count_le_all unit (suc (suc (suc zero))) = omega arith
count_le_all unit (suc (suc (suc (suc class)))) = omega arith

module _ (table : Table) (grade : ℕ) (cusums : List Cusum) (tenths : List ℕ) (class : ℕ) where
  -- a CuSum is at most its L
  pub class_cusum_le : class_cusum table grade cusums tenths class ≤ (numbers_of table grade class).limit
  unfolding class_cusum
  class_cusum_le =
      choice_le (has_plan grade) _ 0 _
      (new_cusum_le_limit (numbers_of table grade class) (tenths_in cusums class) (count_tenths tenths class)) (omega arith)

  -- and so is that of a class among the new ones
  pub new_cusum_le : class < length classes → tenths_in (new_cusums table grade cusums tenths) class ≤ (numbers_of table grade class).limit
  unfolding new_cusums
  new_cusum_le known = omega (arith, at_class (class_cusum table grade cusums tenths) class known, class_cusum_le)

  -- an overshoot at most ten times the count, if the CuSum before the unit is at most L where there is a plan
  pub class_overshoot_le : (has_plan grade ≡ true → tenths_in cusums class ≤ (numbers_of table grade class).limit)
      → class_overshoot table grade cusums tenths class ≤ count_tenths tenths class
  unfolding class_overshoot
  class_overshoot_le within = go (has_plan grade) within
    where
      numbers : PlanNumbers
      numbers = numbers_of table grade class

      go : (planned : Bool) → (planned ≡ true → tenths_in cusums class ≤ numbers.limit)
          → cond planned (overshoot numbers (tenths_in cusums class) (count_tenths tenths class)) 0 ≤ count_tenths tenths class
      go true within = overshoot_le_tenths numbers (tenths_in cusums class) (count_tenths tenths class) (within refl)
      go false within = omega arith

best_lower_at_most : (table : Table) (grade : ℕ) (tenths : List ℕ) → best_lower table grade tenths ≤ substandard
unfolding best_lower
best_lower_at_most table grade tenths =
    choice_le (ltb grade 1 && admits (row_of table 1) tenths) 1 _ 3 (omega arith)
    (choice_le (ltb grade 2 && admits (row_of table 2) tenths) 2 3 3 (omega arith) (omega arith))

pub defect_grade_at_most : (table : Table) (grade : ℕ) (cusums : List Cusum) (tenths : List ℕ) → grade ≤ substandard → defect_grade table grade cusums tenths ≤ substandard
unfolding defect_grade
defect_grade_at_most table grade cusums tenths h =
    choice_le (unit_fails table grade cusums tenths) _ grade 3 (best_lower_at_most table grade tenths) h

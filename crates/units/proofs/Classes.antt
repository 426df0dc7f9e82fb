-- Laws of classes and of the plan's table, for any class and grade: none says how many there are. The list of classes is that of the
-- first numbers, and so is the list of grades that have a plan.
use Prim.Native.Nat.{ℕ, ◌+◌, ◌*◌, ◌≤◌, ◌<◌}
use mathlib.Core.Path.{◌≡◌, refl, ap}
use mathlib.Core.Bool.{Bool, true, false}
use mathlib.Core.List.{map}
use native.Mathlib.Omega.{arith}
use lib.Dec.{ltb}
use lib.ListN.{length, get_or, get_or-eq_default}
use borrow.Author.Tests.{ltb-true, ltb-false}
use Rattle.cusum.specs.declared.PlanNumbers.{PlanNumbers}
use Rattle.cusum.specs.declared.Cusum.{Cusum}
use Rattle.units.specs.declared.Plan.{Plan}
use Rattle.units.specs.Words.{substandard, planned_grades, classes, Table, no_numbers, no_row, row_of, in_class, numbers_of, cell_of, table_of, zero_cusum, tenths_in}
use Rattle.units.proofs.Lists.{number_at, map_at, map_behind}

-- a class stands at its own place
pub class_at : (k : ℕ) → k < length classes → get_or classes k 0 ≡ k
class_at k h = number_at (length classes) k 0 h

-- the CuSum of a class
pub at_class : (f : ℕ → ℕ) (class : ℕ) → class < length classes → tenths_in (map (λ k. record { tenths = f k }) classes) class ≡ f class
at_class f class h = ap (λ (cusum : Cusum). cusum.tenths) (map_at (length classes) {A = Cusum} (λ k. record { tenths = f k }) zero_cusum class h)

-- ---- the table of a plan, for any grade and class

-- where there is no row, in any table
pub no_row_holds : (table : Table) (grade : ℕ) → length table ≤ grade → row_of table grade ≡ no_row
no_row_holds table grade h = get_or-eq_default table no_row h

pub no_row_numbers : (class : ℕ) → in_class no_row class ≡ no_numbers
no_row_numbers class = go (ltb class (length classes)) refl
  where
    go : (inside : Bool) → ltb class (length classes) ≡ inside → in_class no_row class ≡ no_numbers
    go true e = map_at (length classes) (λ k. no_numbers) no_numbers class (ltb-true class (length classes) e)
    go false e = map_behind (length classes) (λ k. no_numbers) no_numbers class (ltb-false class (length classes) e)

abbrev cell_in : Plan → ℕ → ℕ → PlanNumbers
cell_in plan grade class = cell_of plan (length classes * grade + class)

module _ (plan : Plan) (grade : ℕ) where
  row_at : grade < substandard → row_of (table_of plan) grade ≡ map (cell_in plan grade) classes
  row_at h = map_at (length planned_grades) (λ g. map (cell_in plan g) classes) no_row grade h

  pub cell_at : (class : ℕ) → grade < substandard → class < length classes
      → numbers_of (table_of plan) grade class ≡ cell_of plan (length classes * grade + class)
  cell_at class g k = rw (row_at g) (map_at (length classes) (cell_in plan grade) no_numbers class k)

  -- where there is no plan
  pub no_plan : (class : ℕ) → substandard ≤ grade → numbers_of (table_of plan) grade class ≡ no_numbers
  no_plan class g = rw (no_row_holds (table_of plan) grade (omega arith)) (no_row_numbers class)

  -- behind the last class
  pub behind_last : (class : ℕ) → length classes ≤ class → numbers_of (table_of plan) grade class ≡ no_numbers
  behind_last class k = go (ltb grade substandard) refl
    where
      go : (planned : Bool) → ltb grade substandard ≡ planned → numbers_of (table_of plan) grade class ≡ no_numbers
      go true e = rw (row_at (ltb-true grade substandard e)) (map_behind (length classes) (cell_in plan grade) no_numbers class k)
      go false e = no_plan class (ltb-false grade substandard e)

-- what holds of the cells and of zeros holds of every S, T and L, also where there is no plan and behind the last class
pub every_numbers : (plan : Plan) (P : PlanNumbers → Type 0) → P no_numbers
    → ((grade class : ℕ) → grade < substandard → class < length classes → P (cell_of plan (length classes * grade + class)))
    → (grade class : ℕ) → P (numbers_of (table_of plan) grade class)
every_numbers plan P none inside grade class = go (ltb grade substandard) refl (ltb class (length classes)) refl
  where
    go : (g : Bool) → ltb grade substandard ≡ g → (k : Bool) → ltb class (length classes) ≡ k → P (numbers_of (table_of plan) grade class)
    go true e true f =
        let planned = ltb-true grade substandard e in
        let class_inside = ltb-true class (length classes) f in
        rw (cell_at plan grade class planned class_inside) (inside grade class planned class_inside)
    go true e false f = rw (behind_last plan grade class (ltb-false class (length classes) f)) none
    go false e k f = rw (no_plan plan grade class (ltb-false grade substandard e)) none

-- Fewer defects and no higher CuSums before a unit give no higher CuSum, no larger overshoot, no failure that was not there, and no
-- lower grade.
-- For any class, from the step's own laws.
use Prim.Native.Nat.{ℕ, zero, suc, ◌≤◌}
use mathlib.Core.Path.{◌≡◌, refl}
use mathlib.Core.Bool.{Bool, true, false, cond, ◌&&◌, false≢true}
use mathlib.Core.List.{List, [], ◌∷◌, map}
use native.Mathlib.Omega.{arith}
use lib.Dec.{ltb, leb}
use borrow.Author.Tests.{leb-true, le-leb, ltb-true}
use Rattle.cusum.specs.declared.Cusum.{Cusum}
use Rattle.cusum.specs.declared.PlanNumbers.{PlanNumbers}
use Rattle.cusum.specs.Counts.{ten_times}
use Rattle.cusum.specs.Step.{fails}
use Rattle.cusum.proofs.Laws.{new_cusum_mono, overshoot_mono, fails_mono}
use Rattle.units.specs.declared.SampleUnit.{SampleUnit}
use Rattle.units.specs.Words.{substandard, has_plan, classes, Table, row_of, in_class, numbers_of, total, tenths_of, count_tenths, tenths_in}
use Rattle.units.specs.Unit.{class_fails, class_cusum, new_cusums, class_overshoot, unit_fails, none_above, admits, best_lower, defect_grade}
use Rattle.units.proofs.Tests.{and_both, any_mono, all_mono}

-- no count of the first unit exceeds its fellow in the second
pub record Fewer (u v : SampleUnit) : Type 0 where
  pub critical : u.critical.0 ≤ v.critical.0
  pub severe : u.severe.0 ≤ v.severe.0
  pub major : u.major.0 ≤ v.major.0
  pub minor : u.minor.0 ≤ v.minor.0

-- the same of counts by class, in tenths
abbrev pub NoMore : List ℕ → List ℕ → Type 0
NoMore tenths tenths' = (class : ℕ) → count_tenths tenths class ≤ count_tenths tenths' class

data Pairwise : List ℕ → List ℕ → Type 0 where
  none : Pairwise [] []
  more : {x y : ℕ} {xs ys : List ℕ} → x ≤ y → Pairwise xs ys → Pairwise (x ∷ xs) (y ∷ ys)

pairwise_no_more : {xs ys : List ℕ} → Pairwise xs ys → NoMore xs ys
pairwise_no_more none class = omega arith
pairwise_no_more (more h others) zero = h
pairwise_no_more (more h others) (suc class) = pairwise_no_more others class

pub counts_fewer : (u v : SampleUnit) → Fewer u v → NoMore (tenths_of u) (tenths_of v)
counts_fewer u v f =
    let ten_times_holds : (n m : ℕ) → n ≤ m → ten_times n ≤ ten_times m = λ n m h. omega arith in
    let sum : (total u).0 ≤ (total v).0 = omega arith in
    let classes : Pairwise (tenths_of u) (tenths_of v) =
    more (ten_times_holds _ _ f.critical) (more (ten_times_holds _ _ f.severe) (more (ten_times_holds _ _ f.major) (more (ten_times_holds _ _ sum) none))) in
    pairwise_no_more classes

-- no CuSum of the first list is higher
abbrev pub NoHigher : List Cusum → List Cusum → Type 0
NoHigher cusums cusums' = (class : ℕ) → tenths_in cusums class ≤ tenths_in cusums' class

pub map_no_higher : (f g : ℕ → ℕ) → ((class : ℕ) → f class ≤ g class) → (ks : List ℕ)
    → NoHigher (map (λ class. record { tenths = f class }) ks) (map (λ class. record { tenths = g class }) ks)
map_no_higher f g h [] i = omega arith
map_no_higher f g h (k ∷ ks) zero = h k
map_no_higher f g h (k ∷ ks) (suc i) = map_no_higher f g h ks i

pub same_no_higher : (cusums : List Cusum) → NoHigher cusums cusums
same_no_higher cusums class = omega arith

-- what is zero where there is no plan
planned_mono : (planned : Bool) (x y : ℕ) → x ≤ y → cond planned x 0 ≤ cond planned y 0
planned_mono true x y h = h
planned_mono false x y h = omega arith

module _ (table : Table) (grade : ℕ) (cusums cusums' : List Cusum) (tenths tenths' : List ℕ)
    (lower : NoHigher cusums cusums') (fewer : NoMore tenths tenths') where
  pub class_cusum_mono : (class : ℕ) → class_cusum table grade cusums tenths class ≤ class_cusum table grade cusums' tenths' class
  unfolding class_cusum
  class_cusum_mono class =
      planned_mono (has_plan grade) _ _ (new_cusum_mono (numbers_of table grade class) _ _ _ _ (lower class) (fewer class))

  pub class_overshoot_mono : (class : ℕ) → class_overshoot table grade cusums tenths class ≤ class_overshoot table grade cusums' tenths' class
  unfolding class_overshoot
  class_overshoot_mono class =
      planned_mono (has_plan grade) _ _ (overshoot_mono (numbers_of table grade class) _ _ _ _ (lower class) (fewer class))

  pub cusums_mono : NoHigher (new_cusums table grade cusums tenths) (new_cusums table grade cusums' tenths')
  unfolding new_cusums
  cusums_mono = map_no_higher _ _ class_cusum_mono classes

  pub class_fails_mono : (class : ℕ) → class_fails table grade cusums tenths class ≡ true → class_fails table grade cusums' tenths' class ≡ true
  unfolding class_fails
  class_fails_mono class = go (has_plan grade)
    where
      go : (b : Bool) → (b && fails (numbers_of table grade class) (tenths_in cusums class) (count_tenths tenths class)) ≡ true
          → (b && fails (numbers_of table grade class) (tenths_in cusums' class) (count_tenths tenths' class)) ≡ true
      go true e = fails_mono (numbers_of table grade class) _ _ _ _ (lower class) (fewer class) e
      go false e = e

  pub unit_fails_mono : unit_fails table grade cusums tenths ≡ true → unit_fails table grade cusums' tenths' ≡ true
  unfolding unit_fails
  unit_fails_mono e = any_mono (class_fails table grade cusums tenths) (class_fails table grade cusums' tenths') class_fails_mono classes e

-- ---- grades

-- of two numbers one of which a condition picks
at_least : (t : Bool) (low x y : ℕ) → (t ≡ true → low ≤ x) → low ≤ y → low ≤ cond t x y
at_least true low x y h k = h refl
at_least false low x y h k = k

pick_mono : (t t' : Bool) (x y y' : ℕ) → (t' ≡ true → t ≡ true) → x ≤ y' → y ≤ y' → cond t x y ≤ cond t' x y'
pick_mono true true x y y' h k l = omega arith
pick_mono true false x y y' h k l = k
pick_mono false true x y y' h k l = absurd (false≢true (h refl))
pick_mono false false x y y' h k l = l

and_mono : (s t t' : Bool) → (t' ≡ true → t ≡ true) → (s && t') ≡ true → (s && t) ≡ true
and_mono true t t' h e = h e
and_mono false t t' h e = e

module _ (tenths tenths' : List ℕ) (fewer : NoMore tenths tenths') where
  none_above_mono : (bound : PlanNumbers → ℕ) (row : List PlanNumbers) → none_above bound row tenths' ≡ true → none_above bound row tenths ≡ true
  unfolding none_above
  none_above_mono bound row e = all_mono _ _ step classes e
    where
      step : (class : ℕ) → leb (count_tenths tenths' class) (bound (in_class row class)) ≡ true
          → leb (count_tenths tenths class) (bound (in_class row class)) ≡ true
      step class e = le-leb (count_tenths tenths class) (bound (in_class row class))
          (omega (arith, fewer class, leb-true (count_tenths tenths' class) (bound (in_class row class)) e))

  pub best_lower_mono : (table : Table) (grade : ℕ) → best_lower table grade tenths ≤ best_lower table grade tenths'
  unfolding best_lower admits
  best_lower_mono table grade =
      let lower : (better : ℕ) → Bool = λ better. ltb grade better && admits (row_of table better) tenths in
      let lower' : (better : ℕ) → Bool = λ better. ltb grade better && admits (row_of table better) tenths' in
      let admitted : (better : ℕ) → lower' better ≡ true → lower better ≡ true
      = λ better. and_mono (ltb grade better) _ _ (none_above_mono _ (row_of table better)) in
      pick_mono (lower 1) (lower' 1) 1 _ _ (admitted 1) (at_least (lower' 2) 1 2 substandard (λ e. omega arith) (omega arith))
      (pick_mono (lower 2) (lower' 2) 2 substandard substandard (admitted 2) (omega arith) (omega arith))

-- a lower grade is lower, or Substandard
pub best_lower_le : (table : Table) (grade : ℕ) (tenths : List ℕ) → grade ≤ substandard → grade ≤ best_lower table grade tenths
unfolding best_lower
best_lower_le table grade tenths h =
    at_least (ltb grade 1 && admits (row_of table 1) tenths) grade 1 _ (λ e. omega (arith, ltb-true grade 1 (and_both _ _ e).0))
    (at_least (ltb grade 2 && admits (row_of table 2) tenths) grade 2 substandard (λ e. omega (arith, ltb-true grade 2 (and_both _ _ e).0)) h)

pub defect_grade_mono : (table : Table) (grade : ℕ) (cusums cusums' : List Cusum) (tenths tenths' : List ℕ)
    → NoHigher cusums cusums' → NoMore tenths tenths' → grade ≤ substandard
    → defect_grade table grade cusums tenths ≤ defect_grade table grade cusums' tenths'
unfolding defect_grade
defect_grade_mono table grade cusums cusums' tenths tenths' lower fewer h =
    go (unit_fails table grade cusums tenths) (unit_fails table grade cusums' tenths') (unit_fails_mono table grade cusums cusums' tenths tenths' lower fewer)
  where
    go : (x y : Bool) → (x ≡ true → y ≡ true) → cond x (best_lower table grade tenths) grade ≤ cond y (best_lower table grade tenths') grade
    go true true m = best_lower_mono tenths tenths' fewer table grade
    go true false m = absurd (false≢true (m refl))
    go false true m = best_lower_le table grade tenths' h
    go false false m = omega arith

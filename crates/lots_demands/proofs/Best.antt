-- The best grade with a property: that of the first test that holds has it, there is no other, and where fewer tests hold it is not better.
-- By cases on the three tests.
use Prim.Native.Nat.{ℕ, zero, suc, ◌≤◌, ◌<◌}
use mathlib.Core.Path.{◌≡◌, refl}
use mathlib.Core.Bool.{Bool, true, false, cond, false≢true}
use native.Mathlib.Omega.{arith}
use lib.Dec.{ltb}
use borrow.Author.Tests.{ltb-true, ltb-false}
use Rattle.grounds.specs.Tells.{Tells}
use Rattle.lots_demands.specs.LotGrades.{BestWith}

-- the first of three tests that holds
abbrev pub first_of : Bool → Bool → Bool → ℕ
first_of for_a for_b for_c = cond for_a 0 (cond for_b 1 (cond for_c 2 3))

module _ (Has : ℕ → Type 0) where
  -- of the three grades
  each_of : (Has 0 → ⊥) → (Has 1 → ⊥) → (Has 2 → ⊥) → (grade : ℕ) → grade < 3 → Has grade → ⊥
  each_of not_a not_b not_c zero inside = not_a
  each_of not_a not_b not_c (suc zero) inside = not_b
  each_of not_a not_b not_c (suc (suc zero)) inside = not_c
  each_of not_a not_b not_c (suc (suc (suc grade))) inside = λ _. omega arith

  pub first_is_best : (for_a for_b for_c : Bool) → Tells for_a (Has 0) → Tells for_b (Has 1) → Tells for_c (Has 2)
      → BestWith Has (first_of for_a for_b for_c)
  first_is_best true for_b for_c a b c =
      record {
        has = λ _. a.so refl;
        none_better = λ better below _ _. omega arith;
        substandard = ((λ e. absurd (omega arith)), λ none. absurd (none 0 (omega arith) (a.so refl)));
      }
  first_is_best false true for_c a b c =
      record {
        has = λ _. b.so refl;
        none_better = go;
        substandard = ((λ e. absurd (omega arith)), λ none. absurd (none 1 (omega arith) (b.so refl)));
      }
    where
      go : (better : ℕ) → better < 1 → better < 3 → Has better → ⊥
      go zero below inside = a.not_so refl
      go (suc better) below inside = absurd (omega arith)
  first_is_best false false true a b c =
      record {
        has = λ _. c.so refl;
        none_better = go;
        substandard = ((λ e. absurd (omega arith)), λ none. absurd (none 2 (omega arith) (c.so refl)));
      }
    where
      go : (better : ℕ) → better < 2 → better < 3 → Has better → ⊥
      go zero below inside = a.not_so refl
      go (suc zero) below inside = b.not_so refl
      go (suc (suc better)) below inside = absurd (omega arith)
  first_is_best false false false a b c =
      let none = each_of (a.not_so refl) (b.not_so refl) (c.not_so refl) in
      record {
        has = λ inside. absurd (omega arith);
        none_better = λ better below inside. none better inside;
        substandard = ((λ _. none), λ _. refl);
      }

  -- it is A, B, C or Substandard
  pub best_bound : (grade : ℕ) → BestWith Has grade → grade ≤ 3
  best_bound grade best = go (ltb 3 grade) refl
    where
      go : (above : Bool) → ltb 3 grade ≡ above → grade ≤ 3
      go true e =
          let above = ltb-true 3 grade e in
          let is_3 = best.substandard.1 (λ other inside. best.none_better other (omega arith) inside) in
          omega arith
      go false e = ltb-false 3 grade e

  -- a grade that has the property is not better
  pub best_first : (grade other : ℕ) → BestWith Has grade → other < 3 → Has other → grade ≤ other
  best_first grade other best inside has = go (ltb other grade) refl
    where
      go : (better : Bool) → ltb other grade ≡ better → grade ≤ other
      go true e = absurd (best.none_better other (ltb-true other grade e) inside has)
      go false e = ltb-false other grade e

  -- one of two that both are the best is not worse
  best_least : (grade other : ℕ) → BestWith Has grade → BestWith Has other → grade ≤ other
  best_least grade other best best' = go (ltb other 3) refl
    where
      go : (inside : Bool) → ltb other 3 ≡ inside → grade ≤ other
      go true e = let inside = ltb-true other 3 e in best_first grade other best inside (best'.has inside)
      go false e = omega (arith, ltb-false other 3 e, best_bound grade best)

  pub one_best : (grade other : ℕ) → BestWith Has grade → BestWith Has other → grade ≡ other
  one_best grade other best best' = omega (arith, best_least grade other best best', best_least other grade best' best)

-- where each test of the second holds in the first, the first is not worse
pub first_mono : (for_a for_b for_c for_a' for_b' for_c' : Bool) → (for_a' ≡ true → for_a ≡ true) → (for_b' ≡ true → for_b ≡ true)
    → (for_c' ≡ true → for_c ≡ true) → first_of for_a for_b for_c ≤ first_of for_a' for_b' for_c'
first_mono true b c a' b' c' a_so b_so c_so = omega arith
first_mono false b c true b' c' a_so b_so c_so = absurd (false≢true (a_so refl))
first_mono false true c false b' c' a_so b_so c_so = go b' c'
  where
    go : (b' c' : Bool) → 1 ≤ cond b' 1 (cond c' 2 3)
    go true c' = omega arith
    go false true = omega arith
    go false false = omega arith
first_mono false false c false true c' a_so b_so c_so = absurd (false≢true (b_so refl))
first_mono false false true false false c' a_so b_so c_so = go c'
  where
    go : (c' : Bool) → 2 ≤ cond c' 2 3
    go true = omega arith
    go false = omega arith
first_mono false false false false false true a_so b_so c_so = absurd (false≢true (c_so refl))
first_mono false false false false false false a_so b_so c_so = omega arith

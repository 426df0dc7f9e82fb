-- Laws of `first_that`: what holds of the number that it gives and of those before it, and which number that is. By induction on how many
-- are looked at: the first is 0, or one behind the first of the others.
use Prim.Native.Nat.{ℕ, zero, suc, ◌≤◌, ◌<◌}
use mathlib.Core.Path.{◌≡◌, refl, sym, ◌∙◌}
use mathlib.Core.Bool.{Bool, true, false, cond, true≢false}
use native.Mathlib.Omega.{arith}
use borrow.Author.Tests.{ltb-true, ltb-false}
use lib.Dec.{ltb}
use Rattle.lookup.specs.Records.{first_that}

-- this number is the first of n, or n where there is none
pub record IsFirst (holds : ℕ → Bool) (n first : ℕ) : Type 0 where
  pub at_most : first ≤ n
  pub there : first < n → holds first ≡ true
  pub none_before : (j : ℕ) → j < first → holds j ≡ false

first_is_first : (holds : ℕ → Bool) (n : ℕ) → IsFirst holds n (first_that holds n)
unfolding first_that
first_is_first holds zero = record { at_most = omega arith; there = λ below. absurd (omega arith); none_before = λ j below. absurd (omega arith) }
first_is_first holds (suc n) = go (holds zero) refl (first_is_first (λ j. holds (suc j)) n)
  where
    go : (here : Bool) → holds zero ≡ here → IsFirst (λ j. holds (suc j)) n (first_that (λ j. holds (suc j)) n)
        → IsFirst holds (suc n) (cond here zero (suc (first_that (λ j. holds (suc j)) n)))
    go true is others = record { at_most = omega arith; there = λ _. is; none_before = λ j below. absurd (omega arith) }
    go false is others =
        record {
          at_most = omega (arith, others.at_most);
          there = λ below. others.there (omega (arith, below));
          none_before = λ j below. none j below;
        }
      where
        none : (j : ℕ) → j < suc (first_that (λ j. holds (suc j)) n) → holds j ≡ false
        none zero below = is
        none (suc j) below = others.none_before j (omega (arith, below))

-- there is one such number
only_first : {holds : ℕ → Bool} {n first other : ℕ} → IsFirst holds n first → IsFirst holds n other → first ≡ other
only_first {holds} {n} {first} {other} this that = go (ltb first other) refl (ltb other first) refl
  where
    not_before : {early late : ℕ} → IsFirst holds n early → IsFirst holds n late → early < late → ⊥
    not_before {early} {late} a b below = true≢false (sym (a.there (omega (arith, b.at_most))) ∙ b.none_before early below)

    go : (less : Bool) → ltb first other ≡ less → (more : Bool) → ltb other first ≡ more → first ≡ other
    go true test more test' = absurd (not_before this that (ltb-true first other test))
    go false test true test' = absurd (not_before that this (ltb-true other first test'))
    go false test false test' = omega (arith, ltb-false first other test, ltb-false other first test')

pub first_is : {holds : ℕ → Bool} {n first : ℕ} → IsFirst holds n first → first_that holds n ≡ first
first_is {holds} {n} is = only_first (first_is_first holds n) is

-- Tests and what they tell: a comparison, one of two tests, a test of the first numbers.
-- By cases on the test, and by induction on how many numbers are tested.
use Prim.Native.Nat.{ℕ, ◌≤◌, ◌<◌}
use mathlib.Core.Path.{◌≡◌, refl, sym, ◌∙◌}
use mathlib.Core.Bool.{Bool, true, false, not, ◌&&◌, ◌||◌, true≢false}
use mathlib.Core.Logic.{◌⊎◌, inl, inr, ⊎_elim}
use native.Mathlib.Omega.{arith}
use lib.Dec.{ltb, leb, eqb}
use borrow.Author.Tests.{ltb-true, ltb-false, leb-true, leb-false, eqb-true, eqb-false, not-true, not-false}
use Rattle.units.specs.Conditions.{any, all}
use Rattle.units.specs.Words.{up_from}
use Rattle.units.proofs.Lists.{all_each, each_all, some_in, in_none}
use Rattle.units.proofs.Tests.{or_first, or_second, and_both}
use Rattle.grounds.specs.Tells.{Tells}

pub tells_lt : (a b : ℕ) → Tells (ltb a b) (a < b)
tells_lt a b = record { so = ltb-true a b; not_so = λ e less. omega (arith, ltb-false a b e) }

pub tells_le : (a b : ℕ) → Tells (leb a b) (a ≤ b)
tells_le a b = record { so = leb-true a b; not_so = λ e at_most. omega (arith, leb-false a b e) }

pub tells_eq : (a b : ℕ) → Tells (eqb a b) (a ≡ b)
tells_eq a b = record { so = eqb-true a b; not_so = eqb-false a b }

-- the same statement in other words
pub tells_as : {test : Bool} {P Q : Type 0} → (P → Q) → (Q → P) → Tells test P → Tells test Q
tells_as to from tells = record { so = λ e. to (tells.so e); not_so = λ e q. tells.not_so e (from q) }

pub tells_not : {test : Bool} {P : Type 0} → Tells test P → Tells (not test) (P → ⊥)
tells_not {test} tells =
    record { so = λ e. tells.not_so (not-true test e); not_so = λ e none. none (tells.so (not-false test e)) }

pub tells_or : {first second : Bool} {P Q : Type 0} → Tells first P → Tells second Q → Tells (first || second) (P ⊎ Q)
tells_or {first} {second} {P} {Q} p q =
    record {
      so = go first p;
      not_so = λ e. ⊎_elim (p.not_so (or_first first second e)) (q.not_so (or_second first second e));
    }
  where
    go : (t : Bool) → Tells t P → (t || second) ≡ true → P ⊎ Q
    go true p e = inl (p.so refl)
    go false p e = inr (q.so e)

-- what holds is told
pub told : {test : Bool} {P : Type 0} → Tells test P → P → test ≡ true
told {test} {P} = go test
  where
    go : (test : Bool) → Tells test P → P → test ≡ true
    go true tells here = refl
    go false tells here = absurd (tells.not_so refl here)

pub not_told : {test : Bool} {P : Type 0} → Tells test P → (P → ⊥) → test ≡ false
not_told {test} {P} = go test
  where
    go : (test : Bool) → Tells test P → (P → ⊥) → test ≡ false
    go true tells never = absurd (never (tells.so refl))
    go false tells never = refl

-- a test itself
pub tells_true : (test : Bool) → Tells test (test ≡ true)
tells_true test = record { so = λ e. e; not_so = λ e here. true≢false (sym here ∙ e) }

pub tells_false : (test : Bool) → Tells (not test) (test ≡ false)
tells_false test = record { so = not-true test; not_so = λ e here. true≢false (sym (not-false test e) ∙ here) }

pub tells_and : {first second : Bool} {P Q : Type 0} → Tells first P → Tells second Q → Tells (first && second) (P × Q)
tells_and {first} {second} p q =
    record {
      so = λ e. let (one, two) = and_both first second e in (p.so one, q.so two);
      not_so = λ e (one, two). true≢false (sym (both (told p one) (told q two)) ∙ e);
    }
  where
    both : first ≡ true → second ≡ true → (first && second) ≡ true
    both one two = rw (one, two)

-- each of the first numbers
pub tells_all : (n : ℕ) (p : ℕ → Bool) (P : ℕ → Type 0) → ((k : ℕ) → k < n → Tells (p k) (P k))
    → Tells (all p (up_from 0 n)) ((k : ℕ) → k < n → P k)
tells_all n p P each =
    record {
      so = λ e k inside. (each k inside).so (all_each n p e k inside);
      not_so = λ e every. true≢false (sym (each_all n p (λ k inside. told (each k inside) (every k inside))) ∙ e);
    }

-- one of the first numbers
pub tells_any : (n : ℕ) (p : ℕ → Bool) (P : ℕ → Type 0) → ((k : ℕ) → k < n → Tells (p k) (P k))
    → Tells (any p (up_from 0 n)) ((k : ℕ) × (k < n) × P k)
tells_any n p P each =
    record {
      so = λ e. let (k, inside, here) = some_in n p e in (k, inside, (each k inside).so here);
      not_so = λ e (k, inside, here). (each k inside).not_so (in_none n p e k inside) here;
    }

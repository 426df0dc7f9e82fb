-- Laws of tests: of two conditions, and of some or all members of a list. By cases on the test, and by induction on the list.
use mathlib.Core.Path.{◌≡◌, refl}
use mathlib.Core.Bool.{Bool, true, false, ◌&&◌, ◌||◌, false≢true, true≢false}
use mathlib.Core.List.{List, [], ◌∷◌}
use Rattle.units.specs.Conditions.{any, all}

-- of two conditions neither of which holds
pub or_first : (first second : Bool) → (first || second) ≡ false → first ≡ false
or_first true second e = e
or_first false second e = refl

pub or_second : (first second : Bool) → (first || second) ≡ false → second ≡ false
or_second true second e = absurd (true≢false e)
or_second false second e = e

-- of two conditions that both hold
pub and_both : (first second : Bool) → (first && second) ≡ true → (first ≡ true) × (second ≡ true)
and_both true second e = (refl, e)
and_both false second e = absurd (false≢true e)

pub any_mono {ℓ} : {A : Type ℓ} (p q : A → Bool) → ((x : A) → p x ≡ true → q x ≡ true) → (xs : List A) → any p xs ≡ true → any q xs ≡ true
unfolding any
any_mono p q h [] e = e
any_mono p q h (x ∷ xs) e = go (p x) (q x) (h x) (any_mono p q h xs) e
  where
    go : (a b : Bool) → (a ≡ true → b ≡ true) → (any p xs ≡ true → any q xs ≡ true) → (a || any p xs) ≡ true → (b || any q xs) ≡ true
    go a true i r e = refl
    go true false i r e = absurd (false≢true (i refl))
    go false false i r e = r e

pub all_mono {ℓ} : {A : Type ℓ} (p q : A → Bool) → ((x : A) → p x ≡ true → q x ≡ true) → (xs : List A) → all p xs ≡ true → all q xs ≡ true
unfolding all
all_mono p q h [] e = e
all_mono p q h (x ∷ xs) e = go (p x) (q x) (h x) (all_mono p q h xs) e
  where
    go : (a b : Bool) → (a ≡ true → b ≡ true) → (all p xs ≡ true → all q xs ≡ true) → (a && all p xs) ≡ true → (b && all q xs) ≡ true
    go true true i r e = r e
    go true false i r e = absurd (false≢true (i refl))
    go false b i r e = absurd (false≢true e)

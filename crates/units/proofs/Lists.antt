-- Laws of lists: one read at a place, and that of the first numbers, 0, 1, 2, .., as the list of the classes and that of the cells are:
-- a list with a member for each, a condition of some or all of them, and loops that fill such a list and test such a condition. By
-- induction on the list. And what an array's `map` gives.
use Prim.Native.Nat.{ℕ, zero, suc, ◌+◌, ◌≤◌, ◌<◌}
use mathlib.Core.Path.{◌≡◌, refl, sym, ◌∙◌, ap}
use mathlib.Core.Logic.{◌⊎◌, inl, inr}
use mathlib.Core.Bool.{Bool, true, false, ◌||◌, false≢true}
use mathlib.Core.List.{List, [], ◌∷◌, map}
use native.Mathlib.Nat.{eq-or-lt_of_le}
use native.Mathlib.Numerals.{add-one}
use native.Mathlib.Omega.{arith}
use lib.ListN.{length, get_or, length-map, get_or-eq_default, get_or-map, drop, set, length-set, drop_of_length-le}
use lib.Seq.{ext_get_or, drop-cons, get_or-set_same, get_or-set_other}
use Rattle.units.specs.Conditions.{any, all}
use Rattle.units.specs.Words.{up_from}
use Rattle.units.proofs.Tests.{and_both, or_first, or_second}
use Rattle.std.proofs.Math.Bool.{or-false, or_assoc}
use Rattle.std.proofs.Common.{fold}
use Rattle.std.specs.List.{list_any}
use denote.Param.Members.{Mut}
use Rattle.std.specs.Array.{IsMapOf}
use Rattle.std.specs.Fn.{Called}

-- inside a list the default of `get_or` does not matter
pub any_default {ℓ} : {A : Type ℓ} (l : List A) (i : ℕ) (d e : A) → i < length l → get_or l i d ≡ get_or l i e
any_default [] i d e h = absurd (omega arith)
any_default (x ∷ l) zero d e h = refl
any_default (x ∷ l) (suc i) d e h = any_default l i d e (omega arith)

-- ---- the first numbers

numbers_at : (first n i d : ℕ) → i < n → get_or (up_from first n) i d ≡ first + i
numbers_at first zero i d h = absurd (omega arith)
numbers_at first (suc n) zero d h = omega arith
numbers_at first (suc n) (suc i) d h = omega (arith, numbers_at (suc first) n i d (omega arith))

numbers_length : (first n : ℕ) → length (up_from first n) ≡ n
numbers_length first zero = refl
numbers_length first (suc n) = omega (arith, numbers_length (suc first) n)

mapped_numbers_at {ℓ} : {A : Type ℓ} (f : ℕ → A) (d : A) (first n i : ℕ) → i < n → get_or (map f (up_from first n)) i d ≡ f (first + i)
mapped_numbers_at f d first zero i h = absurd (omega arith)
mapped_numbers_at f d first (suc n) zero h = let same : first ≡ first + 0 = omega arith in ap f same
mapped_numbers_at f d first (suc n) (suc i) h =
    let same : suc first + i ≡ first + suc i = omega arith in mapped_numbers_at f d (suc first) n i (omega arith) ∙ ap f same

module _ (n : ℕ) where
  -- each stands at its own place
  pub number_at : (i d : ℕ) → i < n → get_or (up_from 0 n) i d ≡ i
  number_at i d h = omega (arith, numbers_at 0 n i d h)

  -- a list with a member for each
  module _ {ℓ} {A : Type ℓ} (f : ℕ → A) (d : A) where
    map_length : length (map f (up_from 0 n)) ≡ n
    map_length = length-map (up_from 0 n) f ∙ numbers_length 0 n

    pub map_at : (i : ℕ) → i < n → get_or (map f (up_from 0 n)) i d ≡ f i
    map_at i h = let same : 0 + i ≡ i = omega arith in mapped_numbers_at f d 0 n i h ∙ ap f same

    pub map_behind : (i : ℕ) → n ≤ i → get_or (map f (up_from 0 n)) i d ≡ d
    map_behind i h = get_or-eq_default (map f (up_from 0 n)) d (rw map_length h)

    -- it is told by its members
    map_of : (l : List A) → length l ≡ n → ((i : ℕ) → i < n → get_or l i d ≡ f i) → l ≡ map f (up_from 0 n)
    map_of l e h =
        ext_get_or d l (map f (up_from 0 n)) (e ∙ sym map_length)
        (λ i k. let inside : i < n = omega arith in h i inside ∙ sym (map_at i inside))

-- two such lists with the same members
pub map_same {ℓ} : {A : Type ℓ} (n : ℕ) (f g : ℕ → A) → ((i : ℕ) → i < n → f i ≡ g i) → map f (up_from 0 n) ≡ map g (up_from 0 n)
map_same n f g same = map_of n g (g 0) (map f (up_from 0 n)) (map_length n f (g 0)) (λ i inside. map_at n f (g 0) i inside ∙ same i inside)

-- for a loop that fills such a list: every member before this one is there
pub record Filled {A : Type 0} (n : ℕ) (f : ℕ → A) (d : A) (l : List A) (k : ℕ) : Type 0 where
  pub whole : length l ≡ n
  pub within : k ≤ n
  pub done : (i : ℕ) → i < k → get_or l i d ≡ f i

module _ {A : Type 0} {n : ℕ} {f : ℕ → A} {d : A} {l : List A} where
  pub fill_first : length l ≡ n → Filled n f d l 0
  fill_first e = record { whole = e; within = omega arith; done = λ i h. absurd (omega arith) }

  module _ {k : ℕ} (filled : Filled n f d l k) where
    pub fill_next : {v : A} → k < n → v ≡ f k → Filled n f d (set l k v) (k + 1)
    fill_next {v} h e = record { whole = length-set l k v ∙ filled.whole; within = omega arith; done = λ i below. go i (eq-or-lt_of_le (omega arith)) }
      where
        go : (i : ℕ) → (i ≡ k) ⊎ (i < k) → get_or (set l k v) i d ≡ f i
        go i (inl same) = rw (same, get_or-set_same l k v d (omega arith)) e
        go i (inr less) = get_or-set_other l k i v d (λ same. omega arith) ∙ filled.done i less

    pub fill_last : n ≤ k → l ≡ map f (up_from 0 n)
    fill_last h = map_of n f d l filled.whole (λ i inside. filled.done i (omega arith))

-- ---- a condition of them

none_at : (p : ℕ → Bool) (l : List ℕ) → any p l ≡ false → (i : ℕ) → i < length l → p (get_or l i 0) ≡ false
unfolding any
none_at p [] e i h = absurd (omega arith)
none_at p (x ∷ l) e zero h = or_first (p x) (any p l) e
none_at p (x ∷ l) e (suc i) h = none_at p l (or_second (p x) (any p l) e) i (omega arith)

at_none : (p : ℕ → Bool) (l : List ℕ) → ((i : ℕ) → i < length l → p (get_or l i 0) ≡ false) → any p l ≡ false
unfolding any
at_none p [] h = refl
at_none p (x ∷ l) h = rw (h 0 (omega arith)) (at_none p l (λ i k. h (suc i) (omega arith)))

each_at : (p : ℕ → Bool) (l : List ℕ) → all p l ≡ true → (i : ℕ) → i < length l → p (get_or l i 0) ≡ true
unfolding all
each_at p [] e i h = absurd (omega arith)
each_at p (x ∷ l) e zero h = (and_both (p x) (all p l) e).0
each_at p (x ∷ l) e (suc i) h = each_at p l (and_both (p x) (all p l) e).1 i (omega arith)

at_each : (p : ℕ → Bool) (l : List ℕ) → ((i : ℕ) → i < length l → p (get_or l i 0) ≡ true) → all p l ≡ true
unfolding all
at_each p [] h = refl
at_each p (x ∷ l) h = rw (h 0 (omega arith)) (at_each p l (λ i k. h (suc i) (omega arith)))

some_at : (p : ℕ → Bool) (l : List ℕ) → any p l ≡ true → (i : ℕ) × (i < length l) × (p (get_or l i 0) ≡ true)
unfolding any
some_at p [] e = absurd (false≢true e)
some_at p (x ∷ l) e = go (p x) refl (some_at p l) e
  where
    go : (b : Bool) → p x ≡ b → (any p l ≡ true → (i : ℕ) × (i < length l) × (p (get_or l i 0) ≡ true)) → (b || any p l) ≡ true
        → (i : ℕ) × (i < suc (length l)) × (p (get_or (x ∷ l) i 0) ≡ true)
    go true here later e = (0, omega arith, here)
    go false here later e = let (i, inside, found) = later e in (suc i, omega arith, found)

module _ (n : ℕ) (p : ℕ → Bool) where
  -- it holds of one
  pub some_in : any p (up_from 0 n) ≡ true → (k : ℕ) × (k < n) × (p k ≡ true)
  some_in e =
      let (k, h, found) = some_at p (up_from 0 n) e in
      let inside : k < n = omega (arith, numbers_length 0 n) in
      (k, inside, rw (number_at n k 0 inside) at found)

  -- it holds of each
  pub all_each : all p (up_from 0 n) ≡ true → (k : ℕ) → k < n → p k ≡ true
  all_each e k h = rw (number_at n k 0 h) at (each_at p (up_from 0 n) e k (rw (numbers_length 0 n) h))

  pub each_all : ((k : ℕ) → k < n → p k ≡ true) → all p (up_from 0 n) ≡ true
  each_all each =
      at_each p (up_from 0 n)
      (λ k h. let inside : k < n = omega (arith, numbers_length 0 n) in rw (number_at n k 0 inside) (each k inside))

  -- it holds of none
  pub in_none : any p (up_from 0 n) ≡ false → (k : ℕ) → k < n → p k ≡ false
  in_none e k h = rw (number_at n k 0 h) at (none_at p (up_from 0 n) e k (rw (numbers_length 0 n) h))

  pub none_in : ((k : ℕ) → k < n → p k ≡ false) → any p (up_from 0 n) ≡ false
  none_in none =
      at_none p (up_from 0 n)
      (λ k h. let inside : k < n = omega (arith, numbers_length 0 n) in rw (number_at n k 0 inside) (none k inside))

  -- those from the k-th on
  module _ (k : ℕ) where
    left : k < n → drop k (up_from 0 n) ≡ k ∷ drop (k + 1) (up_from 0 n)
    left h = rw (add-one k, drop-cons (up_from 0 n) k 0 (rw (numbers_length 0 n) h), number_at n k 0 h)

    none_left : n ≤ k → drop k (up_from 0 n) ≡ []
    none_left h = let past : length (up_from 0 n) ≤ k = rw (numbers_length 0 n) h in drop_of_length-le (up_from 0 n) past

    pub all_hit : k < n → p k ≡ true → all p (drop k (up_from 0 n)) ≡ all p (drop (k + 1) (up_from 0 n))
    unfolding all
    all_hit h e = rw (left h, e)

    pub all_miss : k < n → p k ≡ false → all p (drop k (up_from 0 n)) ≡ false
    unfolding all
    all_miss h e = rw (left h, e)

    pub all_end : n ≤ k → all p (drop k (up_from 0 n)) ≡ true
    unfolding all
    all_end h = rw (none_left h)

    any_next : k < n → any p (drop k (up_from 0 n)) ≡ (p k || any p (drop (k + 1) (up_from 0 n)))
    unfolding any
    any_next h = rw (left h)

    any_end : n ≤ k → any p (drop k (up_from 0 n)) ≡ false
    unfolding any
    any_end h = rw (none_left h)

-- for a loop that tests one after the other: it holds of one if one is found, or one is left
pub record Tested (n : ℕ) (p : ℕ → Bool) (found : Bool) (k : ℕ) : Type 0 where
  pub inside : k ≤ n
  pub found_or_left : any p (up_from 0 n) ≡ (found || any p (drop k (up_from 0 n)))

module _ {n : ℕ} {p : ℕ → Bool} where
  pub tested_first : Tested n p false 0
  tested_first = record { inside = omega arith; found_or_left = refl }

  module _ {found : Bool} {k : ℕ} (tested : Tested n p found k) where
    pub tested_next : {test : Bool} → k < n → test ≡ p k → Tested n p (found || test) (k + 1)
    tested_next {test} h e =
        record { inside = omega arith; found_or_left = tested.found_or_left ∙ rw (any_next n p k h, e) (sym (or_assoc found (p k) _)) }

    pub tested_last : n ≤ k → found ≡ any p (up_from 0 n)
    tested_last h = sym (tested.found_or_left ∙ rw (any_end n p k h) (or-false found))

-- a condition of some members, folded from what is found before them
pub folded : {A : Type 0} (test : A → Bool) (found : Bool) (all : List A) → fold (λ before member. before || test member) found all ≡ (found || list_any test all)
folded test true [] = refl
folded test false [] = refl
folded test true (first ∷ others) = folded test true others
folded test false (first ∷ others) = folded test (test first) others

-- ---- what an array's `map` gives, by a closure that computes f of its item

module _ {F A B : Type 0} (g : Mut F (A × Unit {0}) B) (f : A → B) (d : A) {callee : F} {xs : List A} {ys : List B} {n : ℕ}
    (gives : (p q : F) (x : A) (y : B) → Called g p (x, tt) y q → y ≡ f x) (made : IsMapOf g callee xs ys n) where
  mapped_at : (i : ℕ) (e : B) → i < n → get_or ys i e ≡ f (get_or xs i d)
  mapped_at i e inside = let (p, q, call) = made.at i d e inside in gives p q _ _ call

  pub mapped : length xs ≡ n → ys ≡ map f xs
  mapped whole =
      ext_get_or (f d) ys (map f xs) (omega (arith, made.long, length-map xs f))
      (λ i inside. mapped_at i (f d) (omega (arith, made.long)) ∙ sym (get_or-map f xs i d))

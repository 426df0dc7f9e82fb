-- A check from left to right, of sheets of every kind: its steps, and what it comes to. The sheet's length is always enough, as every
-- record stands further on than its number says. By induction on the steps left.
use Prim.Native.Nat.{ℕ, zero, suc, ◌+◌, ◌-◌, ◌≤◌, ◌<◌}
use mathlib.Core.Path.{◌≡◌, refl, ◌∙◌, ap, subst⁻¹}
use mathlib.Core.Bool.{Bool, true, false}
use native.Mathlib.Omega.{arith}
use lib.Dec.{leb, eqb}
use borrow.Author.Tests.{leb-true, leb-false, le-leb, lt-leb, eqb-true, eqb-false, eq-eqb, ne_eqb}
use Rattle.units.specs.Conditions.{pick}
use Rattle.sheet.specs.LeftToRight.{left_to_right}

-- the first record that is refused
pub record Stops (end : ℕ) (offset refusal : ℕ → ℕ) (number at : ℕ) : Type 0 where
  pub stop : ℕ
  pub inside : offset stop < end
  pub at_offset : at ≡ offset stop
  pub refused_by : number ≡ refusal stop
  pub refused : number ≡ 0 → ⊥
  pub earlier : (j : ℕ) → j < stop → refusal j ≡ 0

module _ {A : Type 0} (end : ℕ) (offset refusal : ℕ → ℕ) (accepted : ℕ → A) (refused : ℕ → ℕ → A) where
  abbrev check : ℕ → ℕ → A
  check = left_to_right end offset refusal accepted refused

  -- ---- one step

  pub check_done : (most i : ℕ) → end ≤ offset i → check most i ≡ accepted i
  unfolding left_to_right pick
  check_done zero i h = refl
  check_done (suc most) i h = rw (le-leb end (offset i) h)

  module _ (further : (i : ℕ) → i < offset i) (i : ℕ) (inside : offset i < end) where
    left : end - i ≡ suc (end - suc i)
    left = omega (arith, further i)

    pub check_more : refusal i ≡ 0 → check (end - i) i ≡ check (end - suc i) (suc i)
    unfolding left_to_right pick
    check_more e = ap (λ (most : ℕ). check most i) left ∙ rw (lt-leb end (offset i) inside, eq-eqb (refusal i) 0 e)

    pub check_refused : (refusal i ≡ 0 → ⊥) → check (end - i) i ≡ refused (refusal i) (offset i)
    unfolding left_to_right pick
    check_refused e = ap (λ (most : ℕ). check most i) left ∙ rw (lt-leb end (offset i) inside, ne_eqb (refusal i) 0 e)

  -- ---- what it comes to

  -- the first n records lie in the sheet and pass
  abbrev pub Pass : ℕ → Type 0
  Pass n = (j : ℕ) → j < n → (offset j < end) × (refusal j ≡ 0)

  one_more : (i : ℕ) → Pass i → offset i < end → refusal i ≡ 0 → Pass (suc i)
  one_more i earlier inside passed j before = go (eqb j i) refl
    where
      go : (same : Bool) → eqb j i ≡ same → (offset j < end) × (refusal j ≡ 0)
      go true e = subst⁻¹ (λ (k : ℕ). (offset k < end) × (refusal k ≡ 0)) (eqb-true j i e) (inside, passed)
      go false e = earlier j (let other = eqb-false j i e in omega arith)

  -- acceptance, where records that pass fill the sheet; or the refusal of the first that does not pass
  module _ (further : (i : ℕ) → i < offset i) (whole : (i : ℕ) → refusal i ≡ 0 → offset (suc i) ≤ end)
      (Holds : A → Type 0)
      (where_accepted : (n : ℕ) → offset n ≡ end → Pass n → Holds (accepted n))
      (where_refused : (number at : ℕ) → Stops end offset refusal number at → Holds (refused number at)) where
    comes_to : (most i : ℕ) → end ≤ i + most → offset i ≤ end → Pass i → Holds (check most i)
    unfolding left_to_right pick
    comes_to zero i enough h earlier = absurd (omega (arith, further i))
    comes_to (suc most) i enough h earlier =
        outer (λ inside passed. comes_to most (suc i) (omega arith) (whole i passed) (one_more i earlier inside passed)) (leb end (offset i)) refl
      where
        inner : offset i < end → (refusal i ≡ 0 → Holds (check most (suc i))) → (test : Bool) → eqb (refusal i) 0 ≡ test
            → Holds (pick test (check most (suc i)) (refused (refusal i) (offset i)))
        inner inside later true e = later (eqb-true (refusal i) 0 e)
        inner inside later false e =
            where_refused (refusal i) (offset i)
            (record {
              stop = i;
              inside = inside;
              at_offset = refl;
              refused_by = refl;
              refused = eqb-false (refusal i) 0 e;
              earlier = λ j before. (earlier j before).1;
            })

        outer : (offset i < end → refusal i ≡ 0 → Holds (check most (suc i))) → (test : Bool) → leb end (offset i) ≡ test
            → Holds (pick test (accepted i) (pick (eqb (refusal i) 0) (check most (suc i)) (refused (refusal i) (offset i))))
        outer later true e = where_accepted i (omega (arith, leb-true end (offset i) e)) earlier
        outer later false e = let inside = leb-false end (offset i) e in inner inside (later inside) (eqb (refusal i) 0) refl

    pub check_says : offset 0 ≤ end → Holds (check end 0)
    check_says h = comes_to end 0 (omega arith) h (λ j before. absurd (omega arith))

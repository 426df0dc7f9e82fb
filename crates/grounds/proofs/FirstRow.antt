-- The first row met at one place: a refusal is a chain of tests, taken row by row from its end.
use Prim.Native.Nat.{ℕ, suc, ◌≤◌, ◌<◌}
use mathlib.Core.Path.{◌≡◌, refl, sym, ◌∙◌, ap, subst}
use mathlib.Core.Bool.{Bool, true, false, not}
use mathlib.Core.List.{List}
use mathlib.Core.Logic.{◌⊎◌, inl, inr, ⊎_elim}
use native.Mathlib.Omega.{arith}
use lib.Dec.{eqb}
use lib.ListN.{get_or}
use borrow.Author.Tests.{eqb-true, eqb-false}
use Rattle.sheet.specs.Refusals.{refused_if}
use Rattle.grounds.specs.Grounds.{rows_above}
use Rattle.grounds.specs.Tells.{Tells}
use Rattle.grounds.proofs.Tells.{tells_eq, tells_as, tells_not}

module _ (rows : List ℕ) where
  abbrev row : ℕ → ℕ
  row number = rows_above rows number

  -- from a row of the table on, the first that applies has this number, or it is 0 and none does
  abbrev pub First : (ℕ → Type 0) → ℕ → ℕ → Type 0
  First Applies from number =
      ((number ≡ 0) × ((n : ℕ) → from ≤ row n → Applies n → ⊥))
      ⊎ (Applies number × ((n : ℕ) → from ≤ row n → row n < row number → Applies n → ⊥))

  -- a number stands in the table
  abbrev pub InRows : ℕ → Type 0
  InRows n = (0 < n) × (get_or rows (row n) 0 ≡ n)

  -- the row of a number is its own
  pub own_row : (n k : ℕ) → InRows n → InRows k → row n ≡ row k → n ≡ k
  own_row n k in_n in_k same = sym in_n.1 ∙ ap (λ (r : ℕ). get_or rows r 0) same ∙ in_k.1

  module _ {Applies : ℕ → Type 0} (in_rows : (n : ℕ) → Applies n → InRows n) where
    -- one row, and the rows behind it
    pub first_row : (test : Bool) (k rest : ℕ) → InRows k → Tells test (Applies k) → First Applies (suc (row k)) rest
        → First Applies (row k) (refused_if test k rest)
    unfolding refused_if
    first_row true k rest in_k tells later = inr (tells.so refl, λ n from above applies. omega arith)
    first_row false k rest in_k tells later =
        ⊎_elim
        (λ (none, others). inl (none, λ n from applies. go n from applies (λ behind. others n behind applies) (eqb (row n) (row k)) refl))
        (λ (met, others). inr (met, λ n from above applies. go n from applies (λ behind. others n behind above applies) (eqb (row n) (row k)) refl))
        later
      where
        go : (n : ℕ) → row k ≤ row n → Applies n → (suc (row k) ≤ row n → ⊥) → (t : Bool) → eqb (row n) (row k) ≡ t → ⊥
        go n from applies behind true e =
            tells.not_so refl (subst Applies (own_row n k (in_rows n applies) in_k (eqb-true (row n) (row k) e)) applies)
        go n from applies behind false e = behind (let other = eqb-false (row n) (row k) e in omega arith)

    -- rows in between that cannot apply
    pub first_past : (from later number : ℕ) → ((n : ℕ) → Applies n → from ≤ row n → later ≤ row n) → First Applies later number
        → First Applies from number
    first_past from later number past =
        ⊎_elim
        (λ (none, others). inl (none, λ n h applies. others n (past n applies h) applies))
        (λ (met, others). inr (met, λ n h above applies. others n (past n applies h) above applies))

    -- where the number is 0, no row applies
    pub first_none : (from number : ℕ) → First Applies from number → number ≡ 0 → (n : ℕ) → from ≤ row n → Applies n → ⊥
    first_none from number (inl (none, others)) zero = others
    first_none from number (inr (met, others)) zero = absurd (omega (arith, (in_rows number met).0))

    pub first_met : (from number : ℕ) → First Applies from number → (number ≡ 0 → ⊥)
        → Applies number × ((n : ℕ) → from ≤ row n → row n < row number → Applies n → ⊥)
    first_met from number (inl (none, others)) refused = absurd (refused none)
    first_met from number (inr met) refused = met

    -- whether any row applies
    pub tells_some_row : (number : ℕ) → First Applies 0 number → Tells (not (eqb number 0)) ((n : ℕ) × Applies n)
    tells_some_row number first =
        tells_as
        (λ refused. (number, (first_met 0 number first refused).0))
        (λ (n, applies) none. first_none 0 number first none n (omega arith) applies)
        (tells_not (tells_eq number 0))

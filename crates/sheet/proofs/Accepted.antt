-- What a verdict says: an accepted sheet's records fill it, and none is refused; a refusal is the first ground met, and never 0.
-- By what a check from left to right comes to.
use Prim.Native.Nat.{ℕ, suc, ◌+◌, ◌≤◌, ◌<◌}
use mathlib.Core.Path.{◌≡◌, refl, subst}
use mathlib.Core.Logic.{◌⊎◌, inl, inr}
use mathlib.Core.Bool.{Bool, true, false}
use mathlib.Core.List.{List}
use native.Mathlib.Omega.{arith}
use lib.Dec.{eqb}
use lib.ListN.{length}
use borrow.Author.Tests.{eqb-true, eqb-false}
use Rattle.units.specs.Conditions.{pick}
use Rattle.layout.specs.Layout.{size_of, offset, mark, units_before}
use Rattle.sheet.specs.Refusals.{plan_refusal, record_refusal, check_from, verdict}
use Rattle.sheet.specs.Verdict.{Verdict, Accepted, Refused}
use Rattle.layout.proofs.Offsets.{offset_lt, offset_ge}
use Rattle.sheet.proofs.LeftToRight.{Stops, check_says}
use Rattle.sheet.proofs.Grounds.{plan_whole, whole_record}

-- ---- the records

-- every record stands further on than its number says
pub offset_further : (bytes : List ℕ) (i : ℕ) → i < offset bytes i
offset_further bytes i = omega (arith, offset_ge bytes i)

-- ---- the sheet

-- of a sheet that is accepted with n records: all bytes are read, and every record passes and is whole
pub record Facts (bytes : List ℕ) (n : ℕ) : Type 0 where
  pub plan : plan_refusal bytes ≡ 0
  pub end : offset bytes n ≡ length bytes
  pub within : (j : ℕ) → j < n → (offset bytes j < length bytes) × (record_refusal bytes j ≡ 0)
  pub whole : (j : ℕ) → j < n → offset bytes j + size_of (mark bytes j) ≤ length bytes

-- what a verdict says: a refusal is that of the plan, or that of the first record refused
unfoldable pub Says : List ℕ → Verdict → Type 0
Says bytes (Accepted n units) = Facts bytes n × (units ≡ units_before bytes n)
Says bytes (Refused number at) =
    (number ≡ 0 → ⊥)
    × (((number ≡ plan_refusal bytes) × (at ≡ 0)) ⊎ ((plan_refusal bytes ≡ 0) × Stops (length bytes) (offset bytes) (record_refusal bytes) number at))

module _ (bytes : List ℕ) where
  next_within : (i : ℕ) → record_refusal bytes i ≡ 0 → offset bytes (suc i) ≤ length bytes
  unfolding offset
  next_within i passed = whole_record bytes i passed

  says_records : plan_refusal bytes ≡ 0 → Says bytes (check_from bytes (length bytes) 0)
  unfolding Says offset
  says_records passed =
      check_says (length bytes) (offset bytes) (record_refusal bytes) (λ i. Accepted i (units_before bytes i)) Refused
      (offset_further bytes) next_within (Says bytes)
      (λ n end within. (
        record { plan = passed; end = end; within = within; whole = λ j h. omega (arith, end, offset_lt bytes j n h) },
        refl,
      ))
      (λ number at stops. (stops.refused, inr (passed, stops)))
      (plan_whole bytes passed)

  pub verdict_says : Says bytes (verdict bytes)
  unfolding verdict pick Says
  verdict_says = go (eqb (plan_refusal bytes) 0) refl
    where
      go : (test : Bool) → eqb (plan_refusal bytes) 0 ≡ test
          → Says bytes (pick test (check_from bytes (length bytes) 0) (Refused (plan_refusal bytes) 0))
      go true e = says_records (eqb-true (plan_refusal bytes) 0 e)
      go false e = (eqb-false (plan_refusal bytes) 0 e, inl (refl, refl))

  pub facts : (n units : ℕ) → verdict bytes ≡ Accepted n units → Facts bytes n × (units ≡ units_before bytes n)
  unfolding Says
  facts n units e = subst (λ (v : Verdict). Says bytes v) e verdict_says

  -- a refusal has a number
  pub refusal_number : (number at : ℕ) → verdict bytes ≡ Refused number at → number ≡ 0 → ⊥
  unfolding Says
  refusal_number number at e = (subst (λ (v : Verdict). Says bytes v) e verdict_says).0

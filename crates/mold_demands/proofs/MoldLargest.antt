-- The first half of demand 3 for mold sheets. From an anchor on no unit fails, so that the CuSums are a run of steps of which none fails:
-- its end is the 'largest of' form by the law over a run that sheets have too (`run_largest`).
use Prim.Native.Nat.{ℕ, zero, suc, ◌+◌, ◌-◌, ◌≤◌, ◌<◌}
use mathlib.Core.Path.{◌≡◌, refl, sym, ◌∙◌, ap}
use mathlib.Core.Bool.{Bool, true, false}
use mathlib.Core.List.{List}
use native.Mathlib.Nat.{add-zero, add-suc}
use native.Mathlib.Omega.{arith}
use lib.Dec.{eqb}
use lib.IntN.{pos}
use borrow.Author.Tests.{eqb-true, eqb-false}
use Rattle.cusum.specs.Step.{fails, new_cusum}
use Rattle.cusum.specs.LargestForm.{anchor_value}
use Rattle.cusum.proofs.Laws.{failed_at}
use Rattle.cusum.proofs.Runs.{after, Meets, run_largest, after_snoc, meets_snoc}
use Rattle.mold.specs.Layout.{mold_unit_at}
use Rattle.mold.specs.Grading.{numbers_of, tenths_at, cusum_before, fails_at}
use Rattle.mold_demands.specs.MoldLargest.{MoldAnchor, opening, failure, MoldAnchorAt, ten_fields_from, MoldLargestForm}
use Rattle.mold_demands.proofs.MoldFields.{cusum_read}
use Rattle.mold_demands.proofs.MoldRecords.{here}

module _ (bytes : List ℕ) where
  -- ---- there is a latest anchor

  -- of the first n units
  record LatestOf (n : ℕ) : Type 0 where
    from : ℕ
    at_failure : Bool
    within : from ≤ n
    is_anchor : (i : ℕ) → n ≤ suc i → MoldAnchor bytes i from at_failure
    latest : (j : ℕ) → from ≤ j → j < n → fails_at bytes j ≡ false

  latest_of : (n : ℕ) → LatestOf n
  latest_of zero =
      record { from = 0; at_failure = false; within = omega arith; is_anchor = λ i _. opening; latest = λ j from before. absurd (omega arith) }
  latest_of (suc n) = go (latest_of n) (fails_at bytes n) refl
    where
      go : LatestOf n → (failing : Bool) → fails_at bytes n ≡ failing → LatestOf (suc n)
      go before true e =
          record {
            from = suc n;
            at_failure = true;
            within = omega arith;
            is_anchor = λ i within. failure n (omega arith) e;
            latest = λ j from below. absurd (omega arith);
          }
      go before false e =
          record {
            from = before.from;
            at_failure = before.at_failure;
            within = omega (arith, before.within);
            is_anchor = λ i within. before.is_anchor i (omega arith);
            latest = λ j from below. at j from below (eqb j n) refl;
          }
        where
          at : (j : ℕ) → before.from ≤ j → j < suc n → (same : Bool) → eqb j n ≡ same → fails_at bytes j ≡ false
          at j from below true same = ap (fails_at bytes) (eqb-true j n same) ∙ e
          at j from below false other = before.latest j from (let apart = eqb-false j n other in omega arith)

  anchor_of : (i : ℕ) → MoldAnchorAt bytes i
  anchor_of i =
      let last = latest_of (suc i) in
      record {
        from = last.from;
        units = suc i - last.from;
        at_failure = last.at_failure;
        to_this_unit = omega (arith, last.within);
        is_anchor = last.is_anchor i (omega arith);
        latest = λ j from to. last.latest j from (omega arith);
      }

  -- ---- a run from an anchor

  -- the CuSum at the anchor
  anchored : (i from : ℕ) (at_failure : Bool) → MoldAnchor bytes i from at_failure → cusum_before bytes from ≡ anchor_value (numbers_of bytes) at_failure
  unfolding cusum_before anchor_value fails_at
  anchored i from at_failure opening = refl
  anchored i from at_failure (failure j within e) = failed_at (numbers_of bytes) (cusum_before bytes j) (tenths_at bytes j) e

  module _ (from anchor : ℕ) (is : cusum_before bytes from ≡ anchor) where
    abbrev Run : ℕ → Type 0
    Run n =
        (cusum_before bytes (from + n) ≡ after (numbers_of bytes) anchor (ten_fields_from bytes from n))
        × Meets (numbers_of bytes) anchor (ten_fields_from bytes from n)

    -- one unit more that does not fail
    run_on : (n : ℕ) → Run n → fails_at bytes (from + n) ≡ false → Run (suc n)
    unfolding ten_fields_from cusum_before fails_at mold_unit_at
    run_on n (stands, meets) e =
        let numbers = numbers_of bytes in
        let tenths = tenths_at bytes (from + n) in
        let since = ten_fields_from bytes from n in (
          ap (cusum_before bytes) (add-suc from n)
              ∙ ap (λ (old : ℕ). new_cusum numbers old tenths) stands
              ∙ sym (after_snoc numbers anchor since tenths),
          meets_snoc numbers anchor since tenths meets (ap (λ (old : ℕ). fails numbers old tenths) (sym stands) ∙ e),
        )

    -- the units since the anchor, of which none fails
    run : (n : ℕ) → ((j : ℕ) → from ≤ j → j < from + n → fails_at bytes j ≡ false) → Run n
    unfolding ten_fields_from after Meets
    run zero none = (ap (cusum_before bytes) (add-zero from) ∙ is, tt)
    run (suc n) none = run_on n (run n (λ j low high. none j low (omega arith))) (none (from + n) (omega arith) (omega arith))

pub mold_largest_form : MoldLargestForm
mold_largest_form bytes buffer answer results graded i before =
    record {
      an_anchor = anchor_of bytes i;
      largest_of = λ anchor.
          let numbers = numbers_of bytes in
          let value = anchor_value numbers anchor.at_failure in
          let (stands, meets) = run bytes anchor.from value (anchored bytes i anchor.from anchor.at_failure anchor.is_anchor) anchor.units
          (λ j low high. anchor.latest j low (omega (arith, anchor.to_this_unit))) in
          ap pos (cusum_read bytes results i (here bytes buffer answer results graded i before)
          ∙ ap (cusum_before bytes) (sym anchor.to_this_unit) ∙ stands)
          ∙ run_largest numbers value (ten_fields_from bytes anchor.from anchor.units) meets;
    }

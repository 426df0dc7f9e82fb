-- Anchors by their places, and the trail of a class since them, over any records that restart and any at which the class fails: wherever
-- the latest anchor lies, the trail has its kind and the counts since it; and there is one. By induction on the records since the anchor,
-- and, to find one, on all records: that of the record before stays, unless this one fails or a restart lies between.
-- A CuSum that is reached from where its trail begins, by steps that meet, is the 'largest of' form.
use Prim.Native.Nat.{ℕ, zero, suc, ◌+◌, ◌≤◌, ◌<◌}
use mathlib.Core.Path.{◌≡◌, refl, sym, ◌∙◌, ap, subst, subst⁻¹}
use mathlib.Core.Logic.{◌⊎◌, inl, inr}
use mathlib.Core.Bool.{Bool, true, false, cond}
use mathlib.Core.List.{List, [], ◌∷◌, ◌++◌, append-nil}
use native.Mathlib.Nat.{add-zero, add-suc, eq-or-lt_of_le, le_of_suc-le-suc}
use native.Mathlib.Omega.{arith}
use lib.ListN.{length}
use lib.IntN.{pos}
use Rattle.cusum.specs.declared.Cusum.{Cusum}
use Rattle.cusum.specs.declared.PlanNumbers.{PlanNumbers}
use Rattle.cusum.specs.Step.{fails, new_cusum}
use Rattle.cusum.specs.LargestForm.{largest_form, anchor_value}
use Rattle.cusum.proofs.Laws.{failed_at}
use Rattle.cusum.proofs.Runs.{after, Meets, after_snoc, meets_snoc, run_largest}
use Rattle.units.specs.declared.SampleUnit.{SampleUnit}
use Rattle.units.specs.Words.{has_plan, classes, Table, numbers_of, tenths_of, count_tenths, tenths_in}
use Rattle.units.specs.Unit.{class_fails, class_cusum, new_cusums}
use Rattle.units.proofs.Classes.{at_class}
use Rattle.rules.specs.Sheet.{Sheet}
use Rattle.anchors.specs.Anchor.{tenths_at, tenths_from, AnchorBy, opening, restart, failure, LatestBy}

-- ---- a trail, and what is reached from where it begins

-- behind a record, for a class: whether the anchor is a failure (L) or not (S), and the counts since it, in tenths, oldest first
pub record Trail : Type 0 where
  pub failed : Bool
  pub tenths : List ℕ

-- at a restart or at the opening of the sheet
abbrev pub from_start : Trail
from_start = record { failed = false; tenths = [] }

-- at a failure: its own count is not in the sum
abbrev pub failed_here : Trail
failed_here = record { failed = true; tenths = [] }

-- one record more that does not fail, with its count, if it is a unit
abbrev extended : Trail → List ℕ → Trail
extended trail tenths = record { failed = trail.failed; tenths = trail.tenths ++ tenths }

-- up to and with a record, by whether the class fails there
abbrev pub trail_with : Bool → List ℕ → Trail → Trail
trail_with failing tenths trail = cond failing failed_here (extended trail tenths)

-- a value of a class under its S, T and L: reached from the anchor by the counts since it, none of which failed
abbrev pub Reached : PlanNumbers → ℕ → Trail → Type 0
Reached numbers value trail =
    (value ≡ after numbers (anchor_value numbers trail.failed) trail.tenths) × Meets numbers (anchor_value numbers trail.failed) trail.tenths

pub reached_start : (numbers : PlanNumbers) (value : ℕ) → value ≡ numbers.start → Reached numbers value from_start
unfolding after Meets anchor_value
reached_start numbers value at_start_holds = (at_start_holds, tt)

-- a record that is no unit
pub one_other : (numbers : PlanNumbers) (value : ℕ) (trail : Trail) → Reached numbers value trail → Reached numbers value (trail_with false [] trail)
one_other numbers value trail reached = rw append-nil reached

one_unit_holds : (numbers : PlanNumbers) (value count : ℕ) (trail : Trail) → Reached numbers value trail → (failing : Bool) → fails numbers value count ≡ failing
    → Reached numbers (new_cusum numbers value count) (trail_with failing (count ∷ []) trail)
unfolding after Meets anchor_value
one_unit_holds numbers value count trail reached true e = (failed_at numbers value count e, tt)
one_unit_holds numbers value count trail reached false e = (
  ap (λ (x : ℕ). new_cusum numbers x count) reached.0 ∙ sym (after_snoc numbers _ trail.tenths count),
  meets_snoc numbers _ trail.tenths count reached.1 (ap (λ (x : ℕ). fails numbers x count) (sym reached.0) ∙ e),
)

-- a unit under the plan of a grade, by the CuSums before it
module _ (table : Table) (grade : ℕ) (planned : has_plan grade ≡ true) (cusums : List Cusum) (unit : SampleUnit) (class : ℕ) (trail : Trail)
    (reached : Reached (numbers_of table grade class) (tenths_in cusums class) trail) where
  abbrev with_unit : Trail
  with_unit = trail_with (class_fails table grade cusums (tenths_of unit) class) (count_tenths (tenths_of unit) class ∷ []) trail

  pub at_unit : Reached (numbers_of table grade class) (class_cusum table grade cusums (tenths_of unit) class) with_unit
  unfolding class_cusum class_fails
  at_unit = rw planned (one_unit_holds (numbers_of table grade class) (tenths_in cusums class) (count_tenths (tenths_of unit) class) trail reached _ refl)

  pub behind_unit : class < length classes → Reached (numbers_of table grade class) (tenths_in (new_cusums table grade cusums (tenths_of unit)) class) with_unit
  unfolding new_cusums
  behind_unit in_range =
      subst⁻¹ (λ (value : ℕ). Reached (numbers_of table grade class) value with_unit)
      (at_class (class_cusum table grade cusums (tenths_of unit)) class in_range) at_unit

-- ---- the latest anchor

module _ (restarts fails : ℕ → Bool) where
  -- an anchor lies at the opening, or behind a record that is not behind the unit
  pub anchor_le : (i from : ℕ) (failed : Bool) → AnchorBy restarts fails i from failed → from ≤ suc i
  anchor_le i from failed opening = omega arith
  anchor_le i from failed (restart j before e) = omega arith
  anchor_le i from failed (failure j before e kept) = omega arith

  -- there is a latest one
  pub record Found (i : ℕ) : Type 0 where
    pub place : ℕ
    pub failed : Bool
    pub lies : AnchorBy restarts fails i place failed
    pub latest : LatestBy restarts fails i place

  anchor_later : (i from : ℕ) (failed : Bool) → restarts i ≡ false → AnchorBy restarts fails i from failed → AnchorBy restarts fails (suc i) from failed
  anchor_later i from failed e opening = opening
  anchor_later i from failed e (restart j l r) = restart j (omega arith) r
  anchor_later i from failed e (failure j l f r) = failure j (omega arith) f (λ h. go (eq-or-lt_of_le l))
    where
      go : (j ≡ i) ⊎ (j < i) → restarts j ≡ false
      go (inl same) = ap restarts same ∙ e
      go (inr less) = r less

  -- at a failure of this record's own
  found_own : (i : ℕ) → fails i ≡ true → Found i
  found_own i e = record {
    place = suc i;
    failed = true;
    lies = failure i (omega arith) e (λ h. absurd (omega arith));
    latest = record { no_failure = λ j h l. absurd (omega arith); no_restart = λ j h l. absurd (omega arith) };
  }

  -- right behind the restart or the opening that lies right before this record
  found_before : (i : ℕ) → fails i ≡ false → AnchorBy restarts fails i i false → Found i
  found_before i e lies = record {
    place = i;
    failed = false;
    lies = lies;
    latest = record {
      no_failure = λ j h m. let same : j ≡ i = omega arith in ap fails same ∙ e;
      no_restart = λ j h m. absurd (omega arith);
    };
  }

  -- that of the record before
  found_kept : (i : ℕ) → fails (suc i) ≡ false → restarts i ≡ false → Found i → Found (suc i)
  found_kept i e r earlier = record {
    place = earlier.place;
    failed = earlier.failed;
    lies = anchor_later i earlier.place earlier.failed r earlier.lies;
    latest = record {
      no_failure = λ j h m. none_fails j h (eq-or-lt_of_le m);
      no_restart = λ j h m. none_restarts j h (eq-or-lt_of_le (le_of_suc-le-suc m));
    };
  }
    where
      none_fails : (j : ℕ) → earlier.place ≤ j → (j ≡ suc i) ⊎ (j < suc i) → fails j ≡ false
      none_fails j h (inl same) = ap fails same ∙ e
      none_fails j h (inr less) = earlier.latest.no_failure j h (omega arith)

      none_restarts : (j : ℕ) → earlier.place ≤ j → (j ≡ i) ⊎ (j < i) → restarts j ≡ false
      none_restarts j h (inl same) = ap restarts same ∙ r
      none_restarts j h (inr less) = earlier.latest.no_restart j h less

  pub found : (i : ℕ) → Found i
  found zero = go (fails 0) refl
    where
      go : (failing : Bool) → fails 0 ≡ failing → Found 0
      go true e = found_own 0 e
      go false e = found_before 0 e opening
  found (suc i) = go (found i) (fails (suc i)) refl (restarts i) refl
    where
      go : Found i → (failing : Bool) → fails (suc i) ≡ failing → (restarting : Bool) → restarts i ≡ restarting → Found (suc i)
      go earlier true e restarting r = found_own (suc i) e
      go earlier false e true r = found_before (suc i) e (restart i (omega arith) r)
      go earlier false e false r = found_kept i e r earlier

-- ---- the counts since an anchor

module _ (sheet : Sheet) (class : ℕ) where
  -- the counts of one record, and how they go on, record by record
  pub tenths_of_one : (i : ℕ) → tenths_from sheet class i 1 ≡ tenths_at class (sheet.entry i)
  unfolding tenths_from
  tenths_of_one i = ap (λ (j : ℕ). tenths_at class (sheet.entry j)) (add-zero i)

  pub tenths_go_on : (from n : ℕ) → tenths_from sheet class from (suc n) ≡ tenths_from sheet class from n ++ tenths_from sheet class (from + n) 1
  unfolding tenths_from
  tenths_go_on from n = ap (λ (j : ℕ). tenths_from sheet class from n ++ tenths_at class (sheet.entry j)) (sym (add-zero (from + n)))

-- ---- the trail, as a fold over the records, has the anchor's kind and the counts since it

module _ (restarts fails : ℕ → Bool) (sheet : Sheet) (class : ℕ) where
  abbrev tenths : ℕ → List ℕ
  tenths i = tenths_at class (sheet.entry i)

  -- before record i
  unfoldable pub trail_before : ℕ → Trail
  trail_before zero = from_start
  trail_before (suc i) = cond (restarts i) from_start (trail_with (fails i) (tenths i) (trail_before i))

  -- up to and with record i
  abbrev pub trail_at : ℕ → Trail
  trail_at i = trail_with (fails i) (tenths i) (trail_before i)

  trail_kept : (i : ℕ) → restarts i ≡ false → trail_before (suc i) ≡ trail_at i
  unfolding trail_before
  trail_kept i e = rw e

  trail_restarted : (i : ℕ) → restarts i ≡ true → trail_before (suc i) ≡ from_start
  unfolding trail_before
  trail_restarted i e = rw e

  trail_extended : (i : ℕ) → fails i ≡ false → trail_at i ≡ extended (trail_before i) (tenths i)
  trail_extended i e = rw e

  trail_failed : (i : ℕ) → fails i ≡ true → trail_at i ≡ failed_here
  trail_failed i e = rw e

  -- from record `from` on, with nothing behind the anchor: no failure and no restart before record from + n
  trail_between : (from n : ℕ) (failed : Bool) → trail_before from ≡ record { failed = failed; tenths = [] }
      → ((j : ℕ) → from ≤ j → j < from + n → fails j ≡ false)
      → ((j : ℕ) → from ≤ j → j < from + n → restarts j ≡ false)
      → trail_before (from + n) ≡ record { failed = failed; tenths = tenths_from sheet class from n }
  unfolding tenths_from
  trail_between from zero failed e f r = rw add-zero e
  trail_between from (suc n) failed e f r =
      let earlier = trail_between from n failed e (λ j h l. f j h (omega arith)) (λ j h l. r j h (omega arith)) in
      ap trail_before (add-suc from n)
      ∙ trail_kept (from + n) (r (from + n) (omega arith) (omega arith))
      ∙ trail_extended (from + n) (f (from + n) (omega arith) (omega arith))
      ∙ ap (λ (trail : Trail). extended trail (tenths (from + n))) earlier

  -- with record from + n, too
  trail_through : (from n : ℕ) (failed : Bool) → trail_before from ≡ record { failed = failed; tenths = [] }
      → LatestBy restarts fails (from + n) from
      → trail_at (from + n) ≡ record { failed = failed; tenths = tenths_from sheet class from (suc n) }
  unfolding tenths_from
  trail_through from n failed e latest =
      trail_extended (from + n) (latest.no_failure (from + n) (omega arith) (omega arith))
      ∙ ap (λ (trail : Trail). extended trail (tenths (from + n)))
      (trail_between from n failed e (λ j h m. latest.no_failure j h (omega arith)) (λ j h m. latest.no_restart j h m))

  -- the trail before a record that an anchor lies right before
  trail_at_anchor : (i from : ℕ) (failed : Bool) → from ≤ i → AnchorBy restarts fails i from failed
      → trail_before from ≡ record { failed = failed; tenths = [] }
  unfolding trail_before
  trail_at_anchor i from failed h opening = refl
  trail_at_anchor i from failed h (restart j l e) = trail_restarted j e
  trail_at_anchor i from failed h (failure j l e r) = trail_kept j (r h) ∙ trail_failed j e

  -- where the anchor lies behind record i itself, that is at a failure of its own
  trail_at_own : (i from : ℕ) (failed : Bool) → i < from → AnchorBy restarts fails i from failed
      → trail_at i ≡ record { failed = failed; tenths = [] }
  trail_at_own i from failed h opening = absurd (omega arith)
  trail_at_own i from failed h (restart j l e) = absurd (omega arith)
  trail_at_own i from failed h (failure j l e r) =
      let same : j ≡ i = omega arith in subst (λ (record_number : ℕ). trail_at record_number ≡ failed_here) same (trail_failed j e)

  -- THE ANCHOR: wherever the latest one lies, the trail has its kind and the counts since it
  pub anchored : (i from n : ℕ) (failed : Bool) → from + n ≡ suc i → AnchorBy restarts fails i from failed → LatestBy restarts fails i from
      → trail_at i ≡ record { failed = failed; tenths = tenths_from sheet class from n }
  unfolding tenths_from
  anchored i from zero failed e lies latest = trail_at_own i from failed (omega arith) lies
  anchored i from (suc n) failed e lies latest =
      let here : from + n ≡ i = omega arith in
      subst (λ (record_number : ℕ). trail_at record_number ≡ record { failed = failed; tenths = tenths_from sheet class from (suc n) }) here
      (trail_through from n failed (trail_at_anchor i from failed (omega arith) lies)
      (subst⁻¹ (λ (record_number : ℕ). LatestBy restarts fails record_number from) here latest))

  -- so what is reached with record i is the 'largest of' form from there
  pub largest_from_anchor : (numbers : PlanNumbers) (value i : ℕ) → Reached numbers value (trail_at i)
      → (from n : ℕ) (failed : Bool) → from + n ≡ suc i → AnchorBy restarts fails i from failed → LatestBy restarts fails i from
      → pos value ≡ largest_form numbers (anchor_value numbers failed) (tenths_from sheet class from n)
  largest_from_anchor numbers value i reached from n failed to_here lies latest =
      ap pos reached.0
      ∙ run_largest numbers _ _ reached.1
      ∙ ap (λ (trail : Trail). largest_form numbers (anchor_value numbers trail.failed) trail.tenths) (anchored i from n failed to_here lies latest)

-- The first half of demand 3 for mold sheets: every recorded CuSum is the 'largest of' form from its anchor. There are no restarts, so
-- that an anchor is S at the opening or L at a failure.
use Rattle.std.specs.Prelude.{ℕ, zero, suc, ◌+◌, ◌≤◌, ◌<◌, ◌≡◌, Bool, true, false, List, [], ◌∷◌, ◌++◌, pos}
use Rattle.outcome.specs.declared.Answer.{Answer}
use Rattle.cusum.specs.LargestForm.{largest_form, anchor_value}
use Rattle.mold.specs.Grading.{numbers_of, fails_at}
use Rattle.mold.specs.Results.{cusum_in}
use Rattle.mold.specs.Outcome.{MoldAcceptedAs}
use Rattle.mold_demands.specs.MoldRecords.{ten_fields}

-- an anchor for unit i, right before unit `from`: S at the opening, L (true) at a failing unit, this one included
pub data MoldAnchor (bytes : List ℕ) (i : ℕ) : ℕ → Bool → Type 0 where
  opening : MoldAnchor bytes i 0 false
  failure : (j : ℕ) → j ≤ i → fails_at bytes j ≡ true → MoldAnchor bytes i (suc j) true

-- the latest anchor for unit i: from unit `from` on none fails, unit i included. So many units lie from there to this one, none if the
-- anchor lies at this unit
pub record MoldAnchorAt (bytes : List ℕ) (i : ℕ) : Type 0 where
  pub from : ℕ
  pub units : ℕ
  pub at_failure : Bool
  pub to_this_unit : from + units ≡ suc i
  pub is_anchor : MoldAnchor bytes i from at_failure
  pub latest : (j : ℕ) → from ≤ j → j ≤ i → fails_at bytes j ≡ false

-- ten times the positive fields of so many units from one on
unfoldable pub ten_fields_from : List ℕ → ℕ → ℕ → List ℕ
ten_fields_from bytes from zero = []
ten_fields_from bytes from (suc n) = ten_fields_from bytes from n ++ (ten_fields bytes (from + n) ∷ [])

-- there is such an anchor, and with any such anchor the recorded CuSum is the largest of zero, the anchor plus the sum of positive fields
-- less T since it, and every such sum, without the anchor, over a run of units that starts after the anchor and ends with this unit
pub record MoldLargestOf (bytes results : List ℕ) (i : ℕ) : Type 0 where
  pub an_anchor : MoldAnchorAt bytes i
  pub largest_of : (anchor : MoldAnchorAt bytes i) →
      pos (cusum_in results i)
      ≡ largest_form (numbers_of bytes) (anchor_value (numbers_of bytes) anchor.at_failure) (ten_fields_from bytes anchor.from anchor.units)

-- for every accepted mold sheet and each of its units
abbrev pub MoldLargestForm : Type 0
MoldLargestForm =
    (bytes buffer : List ℕ) (answer : Answer) (results : List ℕ) → MoldAcceptedAs bytes buffer answer results
    → (i : ℕ) → i < answer.units → MoldLargestOf bytes results i

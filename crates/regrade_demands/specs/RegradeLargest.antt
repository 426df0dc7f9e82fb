-- The first half of demand 3 for regradings: every recorded CuSum is the 'largest of' form from its anchor. The only restarts are breaks, so
-- that an anchor is S at the opening or at a break, or L at a failure.
use Rattle.std.specs.Prelude.{ℕ, suc, ◌+◌, ◌≤◌, ◌<◌, ◌≡◌, Bool, true, false, List, length, pos}
use Rattle.cusum.specs.LargestForm.{largest_form, anchor_value}
use Rattle.units.specs.Words.{classes}
use Rattle.outcome.specs.declared.Answer.{Answer}
use Rattle.anchors.specs.Anchor.{tenths_from}
use Rattle.tally.specs.Accepted.{UnitAt, recorded_cusum}
use Rattle.answers.specs.Grounds.{IsBreak}
use Rattle.regrade_demands.specs.RegradeAccepted.{RegradedAs, regraded_sheet, second_numbers, fails_regraded_at}

-- an anchor of the class for the unit that is record i, right before record `from`: S at the opening or at a break before the unit, L (true)
-- at a failing unit, this one included
pub data RegradeAnchor (bytes plan : List ℕ) (class i : ℕ) : ℕ → Bool → Type 0 where
  at_opening : RegradeAnchor bytes plan class i 0 false
  at_break : (j : ℕ) → j < i → IsBreak bytes j → RegradeAnchor bytes plan class i (suc j) false
  at_failure : (j : ℕ) → j ≤ i → fails_regraded_at (regraded_sheet bytes plan) class j ≡ true → RegradeAnchor bytes plan class i (suc j) true

-- the latest anchor of the class for that unit: from record `from` on there is no failure of the class, record i's included, and no break
-- before record i. So many records lie from there to this unit's, none if the anchor lies at this unit
pub record RegradeAnchorAt (bytes plan : List ℕ) (i class : ℕ) : Type 0 where
  pub from : ℕ
  pub records : ℕ
  pub failed : Bool
  pub to_this_unit : from + records ≡ suc i
  pub is_anchor : RegradeAnchor bytes plan class i from failed
  pub no_failure : (j : ℕ) → from ≤ j → j ≤ i → fails_regraded_at (regraded_sheet bytes plan) class j ≡ false
  pub no_break : (j : ℕ) → from ≤ j → j < i → IsBreak bytes j → ⊥

-- there is such an anchor, and with any such anchor the recorded CuSum is the largest of zero, the anchor plus the sum of defects less T
-- since it, and every such sum, without the anchor, over a run of units that starts after the anchor and ends with this unit
pub record RegradeLargestOf (bytes plan results : List ℕ) (i class : ℕ) : Type 0 where
  pub an_anchor : RegradeAnchorAt bytes plan i class
  pub largest_of : (anchor : RegradeAnchorAt bytes plan i class) →
      pos (recorded_cusum bytes results i class)
      ≡ largest_form (second_numbers bytes plan class) (anchor_value (second_numbers bytes plan class) anchor.failed)
      (tenths_from (regraded_sheet bytes plan) class anchor.from anchor.records)

-- for every accepted regrading, whatever the sheet lists: at every unit, for every class
abbrev pub RegradeLargestForm : Type 0
RegradeLargestForm =
    (bytes plan buffer : List ℕ) (answer : Answer) (results : List ℕ) → RegradedAs bytes plan buffer answer results
    → (i : ℕ) → UnitAt bytes i → (class : ℕ) → class < length classes → RegradeLargestOf bytes plan results i class

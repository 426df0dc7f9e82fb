-- Demand 3: two claims about whole sheets in bytes, and the bytes that grading them leaves in the result buffers.
use Rattle.std.specs.Prelude.{ℕ, suc, ◌+◌, ◌<◌, ◌≤◌, ◌≡◌, Bool, true, false, List, length, pos, Some}
use Rattle.cusum.specs.LargestForm.{largest_form, anchor_value}
use Rattle.units.specs.Words.{classes, has_plan}
use Rattle.rules.specs.Sheet.{in_force_at}
use Rattle.anchors.specs.Anchor.{class_fails_at, tenths_from, Anchor, Latest}
use Rattle.anchors.specs.TwoInARow.{second_in_a_row}
use Rattle.layout.specs.Layout.{mark}
use Rattle.layout.specs.declared.Mark.TheVariants.{RedesignationMark}
use Rattle.outcome.specs.declared.Answer.{Answer}
use Rattle.tally.specs.Outcome.{records_in}
use Rattle.alike.specs.Alike.{Alike, NoMore}
use Rattle.tally.specs.Accepted.{AcceptedAs, sheet_in, UnitAt, recorded_cusum, recorded_overshoot, recorded_portion_grade, recorded_code_grade, numbers_in_force}

-- ---- the first half

-- the latest anchor of a class for the unit that is record i, right before record `from`: L at a failure, else S. So many records lie
-- from there to this unit's, none if the anchor lies at this unit
pub record AnchorAt (bytes : List ℕ) (i class : ℕ) : Type 0 where
  pub from : ℕ
  pub records : ℕ
  pub at_failure : Bool
  pub to_this_unit : from + records ≡ suc i
  pub is_anchor : Anchor (sheet_in bytes) class i from at_failure
  pub latest : Latest (sheet_in bytes) class i from

-- there is such an anchor, and with any such anchor the recorded CuSum is the largest of zero, the anchor plus the sum of defects less
-- T since it, and every such sum, without the anchor, over a run of units that starts after the anchor and ends with this unit
pub record LargestOf (bytes results : List ℕ) (i class : ℕ) : Type 0 where
  pub an_anchor : AnchorAt bytes i class
  pub largest_of : (anchor : AnchorAt bytes i class) →
      pos (recorded_cusum bytes results i class)
      ≡ largest_form (numbers_in_force bytes i class)
      (anchor_value (numbers_in_force bytes i class) anchor.at_failure)
      (tenths_from (sheet_in bytes) class anchor.from anchor.records)

-- for every accepted sheet, whatever it lists: at any unit that has a plan in force, for every class
abbrev pub Demand3LargestForm : Type 0
Demand3LargestForm =
    (bytes buffer : List ℕ) (answer : Answer) (results : List ℕ) → AcceptedAs bytes buffer answer results
    → (i : ℕ) → UnitAt bytes i → has_plan (in_force_at (sheet_in bytes) i) ≡ true
    → (class : ℕ) → class < length classes → LargestOf bytes results i class

-- ---- the second half

-- two accepted sheets alike except that no count in the first exceeds its fellow in the second, without redesignation; fellows stand at
-- the same place in both
pub record FewerDefects (bytes bytes' buffer buffer' : List ℕ) (answer answer' : Answer) (results results' : List ℕ) : Type 0 where
  pub first : AcceptedAs bytes buffer answer results
  pub second : AcceptedAs bytes' buffer' answer' results'
  pub alike : Alike bytes bytes'
  pub no_more : NoMore bytes bytes'
  pub no_redesignation : (i : ℕ) → i < records_in bytes → mark bytes i ≡ Some RedesignationMark → ⊥

-- at the unit that is record i no CuSum in the first is higher, no overshoot is larger, and no class fails that does not fail in the
-- second
pub record NoHigherAt (bytes bytes' results results' : List ℕ) (i : ℕ) : Type 0 where
  pub cusums : (class : ℕ) → class < length classes → recorded_cusum bytes results i class ≤ recorded_cusum bytes' results' i class
  pub overshoots : (class : ℕ) → class < length classes → recorded_overshoot bytes results i class ≤ recorded_overshoot bytes' results' i class
  pub failures : (class : ℕ) → class < length classes → class_fails_at (sheet_in bytes) class i ≡ true → class_fails_at (sheet_in bytes') class i ≡ true

-- no portion or code of the first grades lower than its fellow; lower means a larger grade code
pub record NoLowerAt (bytes bytes' results results' : List ℕ) (i : ℕ) : Type 0 where
  pub portions : recorded_portion_grade bytes results i ≤ recorded_portion_grade bytes' results' i
  pub codes : recorded_code_grade bytes results i ≤ recorded_code_grade bytes' results' i

-- up to and including the second sheet's first failure of two units in a row, or the end if there is none; and of grades if the
-- second never fails two in a row
pub record NeverWorse (bytes bytes' results results' : List ℕ) : Type 0 where
  pub up_to_two_in_a_row : (i : ℕ) → UnitAt bytes i → ((j : ℕ) → j < i → second_in_a_row (sheet_in bytes') j ≡ false)
      → NoHigherAt bytes bytes' results results' i
  pub never_two_in_a_row : ((j : ℕ) → j < records_in bytes' → second_in_a_row (sheet_in bytes') j ≡ false)
      → (i : ℕ) → UnitAt bytes i → NoLowerAt bytes bytes' results results' i

-- for every two accepted sheets alike except that the first has no more defects
abbrev pub Demand3FewerDefects : Type 0
Demand3FewerDefects =
    (bytes bytes' buffer buffer' : List ℕ) (answer answer' : Answer) (results results' : List ℕ)
    → FewerDefects bytes bytes' buffer buffer' answer answer' results results' → NeverWorse bytes bytes' results results'

-- The anchors of a sheet: there is a latest one, and the CuSum of a class at a unit with a plan in force is the 'largest of' form from it. From
-- the laws over any restarts and failures, by those of the sheet.
use Prim.Native.Nat.{ℕ, suc, ◌+◌, ◌<◌}
use mathlib.Core.Path.{◌≡◌}
use mathlib.Core.Bool.{Bool, true}
use lib.ListN.{length}
use lib.IntN.{pos}
use Rattle.cusum.specs.LargestForm.{largest_form, anchor_value}
use Rattle.units.specs.declared.SampleUnit.{SampleUnit}
use Rattle.units.specs.declared.Entry.TheVariants.{UnitRecord}
use Rattle.units.specs.Words.{has_plan, classes, numbers_of, tenths_of}
use Rattle.units.specs.Unit.{class_cusum}
use Rattle.rules.specs.Sheet.{Sheet, before, in_force_at}
use Rattle.anchors.specs.Anchor.{restart_at, class_fails_at, tenths_from, Anchor, Latest}
use Rattle.rules.proofs.FailingUnits.{FailingNeverQualifies}
use Rattle.anchors.proofs.Trails as trails
use Rattle.anchors.proofs.LargestForm.{unit_reached}

-- there is a latest anchor of a class for record i
abbrev pub Found : Sheet → ℕ → ℕ → Type 0
Found sheet class = trails.Found (restart_at sheet) (class_fails_at sheet class)

pub found : (sheet : Sheet) (class i : ℕ) → Found sheet class i
found sheet class = trails.found (restart_at sheet) (class_fails_at sheet class)

-- THE FIRST HALF OF DEMAND 3, over records, with the anchor told by its place
pub largest_form_by_place : (sheet : Sheet) → FailingNeverQualifies sheet → (class : ℕ) → class < length classes
    → (i : ℕ) (unit : SampleUnit) → sheet.entry i ≡ UnitRecord unit → has_plan (in_force_at sheet i) ≡ true
    → (from n : ℕ) (failed : Bool) → from + n ≡ suc i → Anchor sheet class i from failed → Latest sheet class i from →
    let numbers = numbers_of sheet.table (in_force_at sheet i) class in
    pos (class_cusum sheet.table (in_force_at sheet i) (before sheet i).cusums (tenths_of unit) class)
    ≡ largest_form numbers (anchor_value numbers failed) (tenths_from sheet class from n)
largest_form_by_place sheet apart class in_range i unit is_unit planned =
    trails.largest_from_anchor (restart_at sheet) (class_fails_at sheet class) sheet class _ _ i (unit_reached sheet apart class in_range i unit is_unit planned)

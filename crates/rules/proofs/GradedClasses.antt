-- What a unit of a sheet is graded with, class by class: the CuSum and the overshoot of a class among those of all.
use Rattle.std.proofs.Common.{ℕ, ◌<◌, ◌≡◌, length}
use Rattle.units.specs.Words.{classes, tenths_in, overshoot_for, tenths_of}
use Rattle.units.specs.Unit.{class_cusum, new_cusums, class_overshoot, new_overshoots}
use Rattle.units.specs.declared.SampleUnit.{SampleUnit}
use Rattle.units.proofs.Classes.{at_class}
use Rattle.units.proofs.Lists.{map_at}
use Rattle.rules.specs.StepThree.{graded}
use Rattle.rules.specs.Sheet.{Sheet, before, in_force_at, graded_at}

-- the CuSum of a class behind a unit
pub cusum_graded : (sheet : Sheet) (i : ℕ) (unit : SampleUnit) (class : ℕ) → class < length classes
    → tenths_in (graded_at sheet i unit).cusums class ≡ class_cusum sheet.table (in_force_at sheet i) (before sheet i).cusums (tenths_of unit) class
unfolding graded new_cusums
cusum_graded sheet i unit class inside = at_class (class_cusum sheet.table (in_force_at sheet i) (before sheet i).cusums (tenths_of unit)) class inside

-- its overshoot
pub overshoot_graded : (sheet : Sheet) (i : ℕ) (unit : SampleUnit) (class : ℕ) → class < length classes
    → overshoot_for (graded_at sheet i unit).overshoots class
    ≡ class_overshoot sheet.table (in_force_at sheet i) (before sheet i).cusums (tenths_of unit) class
unfolding graded new_overshoots
overshoot_graded sheet i unit class inside =
    map_at (length classes) (class_overshoot sheet.table (in_force_at sheet i) (before sheet i).cusums (tenths_of unit)) 0 class inside

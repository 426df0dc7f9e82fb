-- What it takes to compute with the definitions of this crate and of those below it: `unfolding computing` opens them all.
use Prim.Native.Nat.{ℕ}
use Rattle.units.specs.Conditions.{any, all, pick, place_of}
use Rattle.units.specs.Words.{has_plan}
use Rattle.units.specs.Unit.{starting, class_fails, class_cusum, new_cusums, class_overshoot, new_overshoots, unit_fails, none_above, admits, best_lower, defect_grade, portion_grade_of, all_zero, within_tolerance, qualifies, stepped_in}
use Rattle.units.specs.Records.{is_unit_that, units_of, units_among, designated_by, portion_grade_with, worst_before}
use Rattle.cusum.proofs.Computing as cusum

unfoldable pub computing : ℕ
unfolding cusum.computing any all pick place_of has_plan starting class_fails class_cusum new_cusums class_overshoot new_overshoots unit_fails
    none_above admits best_lower defect_grade portion_grade_of all_zero within_tolerance qualifies stepped_in is_unit_that units_of units_among designated_by
    portion_grade_with worst_before
computing = 0

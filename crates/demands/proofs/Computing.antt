-- What it takes to compute with the words of demand 3 and the definitions below them: `unfolding computing` opens them all.
use Prim.Native.Nat.{ℕ}
use Rattle.cusum.specs.Integers.{largest_of_zero_and, sumℤ, runs_to_end}
use Rattle.cusum.specs.LargestForm.{tenths_less_t, largest_form, anchor_value}
use Rattle.encoding.specs.Bytes.{wide_number}
use Rattle.anchors.specs.TwoInARow.{fails_in_force, fails_designated, fails_lower, unit_fails_at, unit_fails_before, second_in_a_row, unit_fails_lower_at, second_at_lower, lower_plan_starts_at}
use Rattle.anchors.specs.ThreeInARow.{record_qualifies, unit_qualifies_at, third_in_a_row}
use Rattle.anchors.specs.Anchor.{fails_at, tenths_at, restart_by, restart_at, class_fails_at, tenths_from}
use Rattle.tally.specs.Accepted.{sheet_in}
use Rattle.tally.proofs.Computing as tally

unfoldable pub computing : ℕ
unfolding tally.computing wide_number largest_of_zero_and sumℤ runs_to_end tenths_less_t largest_form fails_in_force fails_designated fails_lower unit_fails_at
    unit_fails_before second_in_a_row unit_fails_lower_at second_at_lower lower_plan_starts_at record_qualifies unit_qualifies_at third_in_a_row fails_at
    tenths_at restart_by restart_at class_fails_at tenths_from anchor_value sheet_in
computing = 0

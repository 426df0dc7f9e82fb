-- What it takes to compute with the definitions of this crate and of those below it: `unfolding computing` opens them all.
use Prim.Native.Nat.{ℕ}
use Rattle.sheet.specs.LeftToRight.{left_to_right}
use Rattle.sheet.specs.Refusals.{refused_if, any_numbers, no_plan_record, too_large, start_above_limit, smaller, smaller_in_class, table_refusal, plan_refusal, count_too_large, unit_refusal, redesignation_refusal, refusal_by, refusal_at, designated_before, record_refusal, verdict}
use Rattle.layout.proofs.Computing as layout

unfoldable pub computing : ℕ
unfolding layout.computing refused_if any_numbers no_plan_record too_large start_above_limit smaller smaller_in_class table_refusal
    plan_refusal count_too_large unit_refusal redesignation_refusal refusal_by refusal_at designated_before record_refusal left_to_right
    verdict
computing = 0

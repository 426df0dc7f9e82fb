-- What it takes to compute with the definitions of this crate and of those below it: `unfolding computing` opens them all.
use Prim.Native.Nat.{ℕ}
use Rattle.single_plan.specs.SinglePlan.{result_under}
use Rattle.tally.proofs.Computing as tally
use Rattle.regrade.specs.Regrading.{cusums_behind, cusums_before, regraded_portion, regraded_code}
use Rattle.regrade.specs.Outcome.{sheet_under, second_plan_wrong, regraded, regrade_by, regrade_outcome}

unfoldable pub computing : ℕ
unfolding tally.computing result_under cusums_behind cusums_before regraded_portion regraded_code sheet_under second_plan_wrong regraded regrade_by
    regrade_outcome
computing = 0

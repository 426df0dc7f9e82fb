-- What it takes to compute with the definitions of this crate: `unfolding computing` opens them all.
use Prim.Native.Nat.{ℕ}
use Rattle.cusum.specs.Step.{raw_value, above_limit, cusum_of, overshoot_of, fails, new_cusum, overshoot}

unfoldable pub computing : ℕ
unfolding raw_value above_limit cusum_of overshoot_of fails new_cusum overshoot
computing = 0

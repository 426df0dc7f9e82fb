-- What it takes to compute with the definitions of this crate and of those below it: `unfolding computing` opens them all.
use Prim.Native.Nat.{ℕ}
use Rattle.layout.specs.Layout.{plan_of, mark_of, mark_at, size_of, sample_unit_at, entry_of, offset, entry_at, units_in, units_before}
use Rattle.units.proofs.Computing as units

unfoldable pub computing : ℕ
unfolding units.computing plan_of mark_of mark_at size_of sample_unit_at entry_of offset entry_at units_in units_before
computing = 0

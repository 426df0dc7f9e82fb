-- What it takes to compute with the definitions of this crate and of those below it: `unfolding computing` opens them all.
use Prim.Native.Nat.{ℕ}
use Rattle.recording.specs.Sheet.{sheet_of, result_with, result_of}
use Rattle.results.proofs.Computing as results
use Rattle.rules.proofs.Computing as rules
use Rattle.layout.proofs.Computing as layout

unfoldable pub computing : ℕ
unfolding results.computing rules.computing layout.computing sheet_of result_with result_of
computing = 0

-- What it takes to compute with the definitions of this crate and of those below it: `unfolding computing` opens them all.
use Prim.Native.Nat.{ℕ}
use Rattle.encoding.specs.Bytes.{bytes_of}
use Rattle.results.specs.Record.{class_bytes, result_bytes}
use Rattle.results.specs.Written.{bytes_by, written}
use Rattle.units.proofs.Computing as units

unfoldable pub computing : ℕ
unfolding units.computing bytes_of class_bytes result_bytes bytes_by written
computing = 0

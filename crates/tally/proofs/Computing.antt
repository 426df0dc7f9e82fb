-- What it takes to compute with the definitions of this crate and of those below it: `unfolding computing` opens them all.
use Prim.Native.Nat.{ℕ}
use Rattle.tally.specs.Outcome.{acceptance, outcome_by, outcome, records_of, records_in}
use Rattle.recording.proofs.Computing as recording
use Rattle.sheet.proofs.Computing as sheet

unfoldable pub computing : ℕ
unfolding recording.computing sheet.computing acceptance outcome_by outcome records_of records_in
computing = 0

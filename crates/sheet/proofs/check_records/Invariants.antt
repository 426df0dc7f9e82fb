-- `check_records` is `check_from` from record 0. The loop's invariant: the place is that of the next record (`Stands`).
-- The measure is what is left of the sheet; a record has two bytes or more.
use Prim.Native.Nat.{◌-◌}
use lib.ListN.{length}
use Rattle.sheet.proofs.Checking.{Stands}
use Rattle.sheet.proofs.check_records.Given as goal

abbrev pub invariant-loop-place : goal.invariant-loop-place
invariant-loop-place l = Stands l.bytes l.place l.designated

abbrev pub decreases-loop-place : goal.decreases-loop-place
decreases-loop-place l = length l.bytes - l.place.at

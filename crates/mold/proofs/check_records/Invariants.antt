-- The records before this one pass.
use Rattle.mold.proofs.Records.{Stands}
use Rattle.mold.proofs.check_records.Given as goal

abbrev pub invariant-loop-units : goal.invariant-loop-units
invariant-loop-units l = Stands l.bytes l.units-counter

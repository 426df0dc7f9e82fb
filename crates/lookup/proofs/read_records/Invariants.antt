-- The loop's invariant: what is found in the records before the rest.
use Rattle.std.proofs.Common.{length}
use Rattle.lookup.proofs.SoFar.{Reads}
use Rattle.lookup.proofs.read_records.Given as goal

abbrev pub invariant-loop-record : goal.invariant-loop-record
invariant-loop-record l = Reads l.results l.code l.first l.next_worse l.rest

abbrev pub decreases-loop-record : goal.decreases-loop-record
decreases-loop-record l = length l.rest

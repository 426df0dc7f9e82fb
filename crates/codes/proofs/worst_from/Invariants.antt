-- The loop's invariant: `worst` is the worst of the records before the rest.
use Rattle.std.proofs.Common.{length}
use Rattle.codes.proofs.OneCode.{Read}
use Rattle.codes.proofs.worst_from.Given as goal

abbrev pub invariant-loop-next : goal.invariant-loop-next
invariant-loop-next l = Read l.results l.code l.rest l.worst

abbrev pub decreases-loop-next : goal.decreases-loop-next
decreases-loop-next l = length l.rest

-- The loop's invariant: `worst` is the worst of the records before the rest.
use Rattle.codes.proofs.OneCode.{read_start, read_next, read_end}
use Rattle.codes.proofs.worst_from.Goals as goal

pub loop-next-init : goal.loop-next-init
loop-next-init c = read_start c.requires c.records_of.ensures.records

pub loop-next-preserved : goal.loop-next-preserved
loop-next-preserved c = read_next c.loop-next.invariant c.in-Some.ensures c.worse_of-worst.ensures

pub returns : goal.returns
returns c = read_end c.loop-next.invariant c.in_default.ensures

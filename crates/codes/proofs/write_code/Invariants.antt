-- The loop's invariant: the grade is written in the records of the code before this one.
use Rattle.std.proofs.Common.{◌-◌}
use Rattle.codes.specs.Codes.{result_records}
use Rattle.codes.proofs.OneCode.{Written}
use Rattle.codes.proofs.write_code.Given as goal

abbrev pub invariant-loop-next : goal.invariant-loop-next
invariant-loop-next l = Written l.initial.results l.code l.grade l.from l.results

abbrev pub decreases-loop-next : goal.decreases-loop-next
decreases-loop-next l = result_records l.results - l.from

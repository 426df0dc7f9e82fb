-- The loop's invariant: the codes of the records before this one are graded in every record.
use Rattle.codes.proofs.GradingPass.{Passed}
use Rattle.codes.proofs.grade_codes.Given as goal

abbrev pub invariant-loop-first : goal.invariant-loop-first
invariant-loop-first l = Passed l.initial.results l.first l.results

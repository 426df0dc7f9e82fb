-- The loop's invariant: no record of the rows that are passed has the code.
use Rattle.std.proofs.Common.{◌*◌}
use Rattle.codes.specs.OneCode.{NoneWith}
use Rattle.codes.proofs.next_with.Given as goal

abbrev pub invariant-loop-row : goal.invariant-loop-row
invariant-loop-row l = NoneWith l.fn.records l.code (8 * l.row)

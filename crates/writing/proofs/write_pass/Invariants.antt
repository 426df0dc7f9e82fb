-- The loop's invariant: the pass, graded once or again, has gone on from the opening to the position.
use Prim.Native.Nat.{◌-◌}
use Rattle.writing.proofs.Passes.{Going}
use Rattle.writing.proofs.write_pass.Given as goal

abbrev pub invariant-loop-position : goal.invariant-loop-position
invariant-loop-position g l =
    Going g.C.Course.again l.sheet.bytes.now l.sheet.records l.sheet.table.now l.designated l.initial.results l.position l.results

abbrev pub decreases-loop-position : goal.decreases-loop-position
decreases-loop-position g l = l.sheet.records - l.position.place.index

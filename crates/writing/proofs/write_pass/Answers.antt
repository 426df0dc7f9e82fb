-- The laws of the course's going on: from the opening, past units that meet, past one record more, to the end.
use native.Mathlib.Omega.{arith}
use Rattle.writing.proofs.Passes.{going_first, going_passable, going_met, next_ready, next_done, going_done}
use Rattle.writing.proofs.write_pass.Goals as goal

pub loop-position-init : goal.loop-position-init
loop-position-init g c =
    going_first _ _ _ _ c.args.results.now g.C.Course.again c.requires c.first.ensures c.opening.ensures

pub past_meeting-position-requires : goal.past_meeting-position-requires
past_meeting-position-requires g c =
    going_passable _ _ c.args.sheet.now.table.now c.args.designated c.args.results.now _ _ g.C.Course.again c.loop-position.invariant

pub returns-then-sheet-position : goal.returns-then-sheet-position
returns-then-sheet-position g c =
    going_done _ _ _ _ _ _ _ g.C.Course.again
    (going_met _ _ _ _ _ _ _ g.C.Course.again c.loop-position.invariant _ _ c.past_meeting-position.ensures).0 c.if-sheet-position.true

pub write_next-position-requires : goal.write_next-position-requires
write_next-position-requires g c =
    next_ready _ _ _ c.args.designated c.args.results.now _ _ g.C.Course.again
    (going_met _ _ _ _ _ _ _ g.C.Course.again c.loop-position.invariant _ _ c.past_meeting-position.ensures).0 (omega (arith, c.if-sheet-position.false))

pub loop-position-smaller : goal.loop-position-smaller
loop-position-smaller g c =
    let met = going_met _ _ _ c.args.designated c.args.results.now _ _ g.C.Course.again c.loop-position.invariant _ _ c.past_meeting-position.ensures in
    let more =
    next_done _ _ _ c.args.designated c.args.results.now _ _ g.C.Course.again met.0 (omega (arith, c.if-sheet-position.false)) _ _
    c.write_next-position.ensures (omega arith) in
    omega (arith, met.1, more.1, c.if-sheet-position.false)

pub loop-position-preserved : goal.loop-position-preserved
loop-position-preserved g c =
    (next_done _ _ _ c.args.designated c.args.results.now _ _ g.C.Course.again
    (going_met _ _ _ _ _ _ _ g.C.Course.again c.loop-position.invariant _ _ c.past_meeting-position.ensures).0
    (omega (arith, c.if-sheet-position.false)) _ _ c.write_next-position.ensures (omega arith)).0

pub returns : goal.returns
returns g c = going_done _ _ _ _ _ _ _ g.C.Course.again c.loop-position.invariant (omega arith)

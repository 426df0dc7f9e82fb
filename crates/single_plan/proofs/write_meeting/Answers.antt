-- From where the loop stands past one record more, by the law of its kind.
use mathlib.Core.Path.{refl, sym, ◌∙◌, ap}
use native.Mathlib.Omega.{arith}
use lib.Seq.{sets}
use Prim.Native.Nat.{◌*◌}
use Rattle.units.specs.Unit.{starting}
use Rattle.units.specs.declared.Grading.{Grading}
use Rattle.results.specs.Record.{result_size, result_bytes}
use Rattle.codes.specs.Codes.{ungraded}
use Rattle.single_plan.specs.SinglePlan.{result_under}
use Rattle.single_plan.proofs.Passing.{met_is, mark_within, record_within, fits_past, room_for_record, past_unit, past_break, further_none}
use Rattle.single_plan.proofs.write_meeting.Goals as goal

pub loop-here-init : goal.loop-here-init
loop-here-init c = λ table same_row. further_none c.requires.walk c.args.results.now

pub mark_at-mark-requires : goal.mark_at-mark-requires
mark_at-mark-requires c = mark_within (c.loop-here.invariant _ refl).walk c.loop-here-test.true

pub entry_at-requires : goal.entry_at-requires
entry_at-requires c = record_within (c.loop-here.invariant _ refl).walk c.loop-here-test.true c.mark_at-mark.ensures

pub write_graded-requires : goal.write_graded-requires
write_graded-requires c =
    room_for_record (c.loop-here.invariant _ refl).walk c.loop-here-test.true c.mark_at-mark.ensures c.entry_at.ensures c.in-UnitRecord.is
    (omega (arith, c.requires.room, (c.loop-here.invariant _ refl).same_length))

pub past-requires : goal.past-requires
past-requires c =
    fits_past (c.loop-here.invariant _ refl).walk c.loop-here-test.true c.mark_at-mark.ensures (omega (arith, c.well_formed))

pub past-requires-in-Break : goal.past-requires-in-Break
past-requires-in-Break c =
    fits_past (c.loop-here.invariant _ refl).walk c.loop-here-test.true c.mark_at-mark.ensures (omega (arith, c.well_formed))

pub loop-here-preserved-in-UnitRecord : goal.loop-here-preserved-in-UnitRecord
loop-here-preserved-in-UnitRecord c = λ table same_row.
    let unit = c.in-UnitRecord.unit in
    let start = result_size * c.loop-here.here.place.units in
    let is_row = c.row_of-row.ensures ∙ sym same_row in
    let met = met_is table _ _ unit c.requires.planned is_row c.step_classes-stepped.ensures c.if-stepped.false in
    past_unit (c.loop-here.invariant table same_row) c.loop-here-test.true c.mark_at-mark.ensures c.past.ensures c.entry_at.ensures
    c.in-UnitRecord.is (ap (λ (g : Grading). g.cusums) met) (λ stopping. sym (ap (λ (g : Grading). g.fails) met))
    (c.write_graded.ensures
    ∙ ap (λ (g : Grading). sets c.loop-here.results start (result_bytes ungraded (result_under c.args.designated unit g))) met)

pub loop-here-preserved : goal.loop-here-preserved
loop-here-preserved c = λ table same_row.
    past_break (c.loop-here.invariant table same_row) c.loop-here-test.true c.mark_at-mark.ensures c.past-in-Break.ensures c.entry_at.ensures
    c.in-Break.is (c.starts.ensures ∙ ap starting (c.row_of-row.ensures ∙ sym same_row))

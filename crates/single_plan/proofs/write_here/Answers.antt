-- Each kind of record by its law, from where the writing stands.
use mathlib.Core.Path.{refl, ◌∙◌, ap}
use mathlib.Core.Bool.{false≢true}
use native.Mathlib.Omega.{arith}
use Rattle.units.specs.Unit.{starting}
use Rattle.units.specs.declared.Grading.{Grading}
use Rattle.single_plan.proofs.Passing.{mark_within, record_within, fits_past, room_for_record, past_unit, past_redesignation, past_break, further_none}
use Rattle.single_plan.proofs.write_here.Goals as goal
use Rattle.single_plan.proofs.write_here.Goals.{in-UnitRecord, in-Redesignation, in-Break}

pub mark_at-mark-requires : goal.mark_at-mark-requires
mark_at-mark-requires c = mark_within c.requires.0.walk c.requires.1

pub entry_at-requires : goal.entry_at-requires
entry_at-requires c = record_within c.requires.0.walk c.requires.1 c.mark_at-mark.ensures

pub write_unit-requires : goal.write_unit-requires
write_unit-requires c = (
  room_for_record c.requires.0.walk c.requires.1 c.mark_at-mark.ensures c.entry_at.ensures c.in-UnitRecord.is c.requires.0.room,
  c.requires.0.planned,
)

pub past-requires : goal.past-requires
past-requires c =
    fits_past c.requires.0.walk c.requires.1 c.mark_at-mark.ensures (omega (arith, c.well_formed))

pub returns-clause-further : goal.returns-clause-further
returns-clause-further c =
    let none_passed = further_none c.requires.0.walk c.args.results.now in
    elim c.match-entry_at.branch [
      | in-UnitRecord w ↦
          rw (w.results-is, w.cusums-is)
          (past_unit none_passed c.requires.1 c.mark_at-mark.ensures c.past.ensures c.entry_at.ensures w.in-UnitRecord.is
          (ap (λ (g : Grading). g.cusums) w.write_unit.ensures.grading) (λ stopping. absurd (false≢true stopping)) w.write_unit.ensures.buffer)
      | in-Redesignation w ↦
          rw (w.results-is, w.cusums-is)
          (past_redesignation none_passed c.requires.1 c.mark_at-mark.ensures c.past.ensures c.entry_at.ensures w.in-Redesignation.is refl)
      | in-Break w ↦
          rw (w.results-is, w.cusums-is)
          (past_break none_passed c.requires.1 c.mark_at-mark.ensures c.past.ensures c.entry_at.ensures w.in-Break.is (w.starts-cusums.ensures ∙ ap starting w.row_of.ensures))
    ]

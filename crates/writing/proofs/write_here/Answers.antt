-- By what the record reads as: a unit is written, a redesignation and a break write nothing; the place and the state go past each.
use mathlib.Core.Path.{refl, ◌∙◌}
use native.Mathlib.Omega.{arith}
use Rattle.units.specs.Records.{units_of}
use Rattle.rules.specs.StepThree.{next}
use Rattle.writing.proofs.Passing.{mark_inside, unit_here, room_past_it, position_past_it, nothing_written}
use Rattle.writing.proofs.write_here.Goals as goal
use Rattle.writing.proofs.write_here.Goals.{in-UnitRecord, in-Redesignation, in-Break}

pub mark_at-mark-requires : goal.mark_at-mark-requires
mark_at-mark-requires c = mark_inside c.requires.stands

pub write_unit-state-requires : goal.write_unit-state-requires
write_unit-state-requires c =
    unit_here c.requires c.mark_at-mark.ensures c.entry_at.ensures c.in-UnitRecord.is

pub past-requires : goal.past-requires
past-requires c = room_past_it c.requires c.mark_at-mark.ensures c.entry_at.ensures (omega (arith, c.well_formed))

pub returns-clause-position : goal.returns-clause-position
unfolding next
returns-clause-position c =
    elim c.match-entry_at.branch [
      | in-UnitRecord w ↦
          position_past_it c.requires c.mark_at-mark.ensures c.entry_at.ensures w.in-UnitRecord.is c.past.ensures
          (w.state-is ∙ w.write_unit-state.ensures.state)
      | in-Redesignation w ↦
          position_past_it c.requires c.mark_at-mark.ensures c.entry_at.ensures w.in-Redesignation.is c.past.ensures
          (w.state-is ∙ w.after_redesignation-state.ensures)
      | in-Break w ↦
          position_past_it c.requires c.mark_at-mark.ensures c.entry_at.ensures w.in-Break.is c.past.ensures
          (w.state-is ∙ w.after_break-state.ensures)
    ]

pub returns-clause-buffer : goal.returns-clause-buffer
unfolding units_of
returns-clause-buffer c =
    elim c.match-entry_at.branch [
      | in-UnitRecord w ↦ rw w.results-is w.write_unit-state.ensures.buffer
      | in-Redesignation w ↦
          rw w.results-is (nothing_written c.requires c.mark_at-mark.ensures c.entry_at.ensures w.in-Redesignation.is refl c.args.results.now)
      | in-Break w ↦
          rw w.results-is (nothing_written c.requires c.mark_at-mark.ensures c.entry_at.ensures w.in-Break.is refl c.args.results.now)
    ]

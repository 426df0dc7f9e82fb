-- The unit is graded under the designated plan, its record is added, and nothing is recovered.
use Rattle.writing.proofs.Writing.{room_for_record, planned_here, unit_by_plan}
use Rattle.writing.proofs.write_designated.Goals as goal

pub write_unit-grading-requires : goal.write_unit-grading-requires
write_unit-grading-requires c = rw c.reached-here.ensures (room_for_record c.requires.0, planned_here c.requires.0)

pub returns-clause-state : goal.returns-clause-state
returns-clause-state c =
    let written = c.write_unit-grading.ensures in
    (unit_by_plan c.args.results.now c.requires.0 c.requires.1 c.reached-here.ensures written.grading written.buffer c.after_unit.ensures).0

pub returns-clause-buffer : goal.returns-clause-buffer
returns-clause-buffer c =
    let written = c.write_unit-grading.ensures in
    (unit_by_plan c.args.results.now c.requires.0 c.requires.1 c.reached-here.ensures written.grading written.buffer c.after_unit.ensures).1

-- The unit is graded under the lower plan and its record is added; where step 3 ends, the three units of the finished run are recovered.
use native.Mathlib.Omega.{arith}
use Rattle.writing.proofs.Writing.{room_for_record, state_behind, three_to_recover, written_going_on, written_at_end}
use Rattle.writing.proofs.write_step_three.Goals as goal
use Rattle.writing.proofs.write_step_three.Goals.{then-ends_step_three, else-ends_step_three}

pub overflow_mul-place : goal.overflow_mul-place
overflow_mul-place c =
    let room = room_for_record c.requires.0 in
    omega arith

pub write_at-requires : goal.write_at-requires
write_at-requires c = room_for_record c.requires.0

pub recover_three-requires : goal.recover_three-requires
recover_three-requires c =
    three_to_recover c.args.results.now c.requires.0 c.requires.1 c.in_force-lower.ensures c.step_in_force-stepped.ensures
    c.graded_by-grading.ensures c.qualifies_with-qualifies.ensures
    c.ends_step_three.ensures c.if-ends_step_three.true _ (omega arith)

pub returns-clause-state : goal.returns-clause-state
returns-clause-state c =
    state_behind c.args.results.now c.requires.0 c.requires.1 c.in_force-lower.ensures c.step_in_force-stepped.ensures
    c.graded_by-grading.ensures c.qualifies_with-qualifies.ensures c.after_unit.ensures

pub returns-clause-buffer : goal.returns-clause-buffer
returns-clause-buffer c =
    elim c.if-ends_step_three.branch [
      | then-ends_step_three w ↦
          rw w.results-is
          (written_at_end c.args.results.now c.requires.0 c.requires.1 c.in_force-lower.ensures c.step_in_force-stepped.ensures
          c.graded_by-grading.ensures c.qualifies_with-qualifies.ensures c.result_of.ensures c.write_at.ensures
          c.ends_step_three.ensures w.if-ends_step_three.true w.recover_three.ensures)
      | else-ends_step_three w ↦
          rw w.results-is
          (written_going_on c.args.results.now c.requires.0 c.requires.1 c.in_force-lower.ensures c.step_in_force-stepped.ensures
          c.graded_by-grading.ensures c.qualifies_with-qualifies.ensures c.result_of.ensures c.write_at.ensures
          c.ends_step_three.ensures w.if-ends_step_three.false)
    ]

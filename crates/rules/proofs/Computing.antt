-- What it takes to compute with the definitions of this crate and of those below it: `unfolding computing` opens them all.
use Rattle.std.proofs.Common.{ℕ}
use Rattle.rules.specs.StepThree.{in_step_three, in_force_in, two_in_a_row, worse_of_two, failure_after, ends_step_three, with_unit, without_run, keeps_step_three, restarted, graded, qualifies_with, after_unit, after_redesignation, after_break, next, record_ends_step_three}
use Rattle.rules.specs.Sheet.{standing_of, before, step_three_ends_at, in_finished_run, recovered, portion_grade, standing, code_grade}
use Rattle.units.proofs.Computing as units

unfoldable pub computing : ℕ
unfolding units.computing in_step_three in_force_in two_in_a_row worse_of_two failure_after ends_step_three with_unit without_run keeps_step_three
    restarted graded qualifies_with after_unit after_redesignation after_break next record_ends_step_three standing_of before
    step_three_ends_at in_finished_run recovered portion_grade standing code_grade
computing = 0

-- The check's refusal; number 18 by that of the second plan; number 13 by its test; else the writing pass and then the code grading,
-- which leave what the outcome says.
use Rattle.std.proofs.Common.{◌≡◌, ◌∙◌, false, arith, rules}
use Rattle.std.proofs.lemmas.Result.{err_from_is_err_and}
use Rattle.outcome.proofs.Placed.{Placed, passed, met}
use Rattle.tally.proofs.Cases.{units_few}
use Rattle.tally.proofs.Gradings.{refused, wrong_beside, too_short, ready, done}
use Rattle.regrade.specs.Outcome.{second_plan_wrong}
use Rattle.regrade.proofs.Cases.{second_plan, is_graded, regradable, gradable}
use Rattle.regrade.proofs.SecondPlan.{wrong_by, right_by, plan_length}
use Rattle.regrade.proofs.regraded.Goals as goal
use Rattle.regrade.proofs.regraded.Goals.{In_ok-map_err}

pub returns-in_err-checked : goal.returns-in_err-checked
returns-in_err-checked c =
    let left = err_from_is_err_and c.from_residual.result c.from_residual.ensures.1 in
    rw (left.1, left.2) (refused _ _ _ c.in_err-checked.ensures ∙ is_graded _ _ _)

pub returns-in_err-map_err : goal.returns-in_err-map_err
returns-in_err-map_err c =
    let placed : Placed 0 c.check_second_plan.result c.map_err.result = search rules in
    let (cause, positive, number, leaves) = met _ _ _ placed _ c.in_err-map_err.was _ c.from_residual-in_err-map_err.ensures.1 in
    let wrong = wrong_by c.args.plan.now c.check_second_plan.ensures (omega (arith, number, positive)) in
    rw (leaves, ← number, wrong.1) (wrong_beside _ _ _ c.in_ok-checked.ensures wrong.0 ∙ is_graded _ _ _)

right : (c : In_ok-map_err) → second_plan_wrong c.args.plan.now ≡ false
right c =
    let placed : Placed 0 c.check_second_plan.result c.map_err.result = search rules in
    right_by c.args.plan.now c.check_second_plan.ensures (passed _ _ _ placed c.in_ok-map_err.was)

pub overflow_mul-checked : goal.overflow_mul-checked
overflow_mul-checked c = omega (arith, units_few _ c.in_ok-checked.ensures)

pub returns-then-results-checked : goal.returns-then-results-checked
returns-then-results-checked c =
    let given = right (goal.at.returns-then-results-checked c).In_ok-map_err in
    rw c.at.ensures (too_short _ _ _ c.in_ok-checked.ensures given c.if-results-checked.true ∙ is_graded _ _ _)

pub plan_of-requires : goal.plan_of-requires
plan_of-requires c = omega (arith, plan_length _ (right (goal.at.plan_of-requires c).In_ok-map_err))

pub write_regraded-requires : goal.write_regraded-requires
write_regraded-requires c =
    let given = right (goal.at.write_regraded-requires c).In_ok-map_err in
    rw c.plan_of.ensures (regradable _ _ c.in_ok-checked.ensures given c.if-results-checked.false)

pub grade_codes-requires : goal.grade_codes-requires
grade_codes-requires c =
    let given = right (goal.at.grade_codes-requires c).In_ok-map_err in
    ready (second_plan _ _) _ c.args.results.now c.in_ok-checked.ensures given c.if-results-checked.false
    (gradable _ _ c.in_ok-checked.ensures given (λ at. omega (arith, c.type_inv.bytes at))) _
    (rw c.plan_of.ensures at c.write_regraded.ensures)

pub returns : goal.returns
returns c =
    let given = right (goal.at.returns c).In_ok-map_err in
    done _ _ _ c.in_ok-checked.ensures given c.if-results-checked.false
    (gradable _ _ c.in_ok-checked.ensures given (λ at. omega (arith, c.type_inv.bytes at))) _
    (rw c.plan_of.ensures at c.write_regraded.ensures) _ c.grade_codes.ensures
    ∙ is_graded _ _ _

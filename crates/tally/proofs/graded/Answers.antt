-- The check's refusal; number 13 by its test; else the writing pass and then the code grading, which leave what the outcome says.
use Rattle.std.proofs.Common.{refl, ◌∙◌, ap, arith}
use Rattle.std.proofs.lemmas.Result.{err_from_is_err_and}
use Rattle.units.specs.Words.{table_of}
use Rattle.units.specs.declared.Plan.{Plan}
use Rattle.tally.proofs.Gradings.{refused, too_short, ready, done}
use Rattle.tally.proofs.Cases.{own_plan, is_graded, units_few, plan_here, writable, gradable}
use Rattle.tally.proofs.graded.Goals as goal

pub returns-in_err-checked : goal.returns-in_err-checked
returns-in_err-checked c =
    let left = err_from_is_err_and c.from_residual.result c.from_residual.ensures.1 in
    rw (left.1, left.2) (refused _ _ _ c.in_err-checked.ensures ∙ is_graded _ _)

pub overflow_mul-checked : goal.overflow_mul-checked
overflow_mul-checked c = omega (arith, units_few _ c.in_ok-checked.ensures)

pub returns-then-results-checked : goal.returns-then-results-checked
returns-then-results-checked c = rw c.at.ensures (too_short _ _ _ c.in_ok-checked.ensures refl c.if-results-checked.true ∙ is_graded _ _)

pub plan_of-plan-requires : goal.plan_of-plan-requires
plan_of-plan-requires c = plan_here _ c.in_ok-checked.ensures

pub write_records-requires : goal.write_records-requires
write_records-requires c =
    let same = c.plan_of-plan.ensures in
    writable _ c.in_ok-checked.ensures c.if-results-checked.false (c.table-table.ensures ∙ ap table_of same)
    (ap (λ (p : Plan). p.designated) same)

pub grade_codes-requires : goal.grade_codes-requires
grade_codes-requires c =
    ready (own_plan _) _ c.args.results.now c.in_ok-checked.ensures refl c.if-results-checked.false
    (gradable _ c.in_ok-checked.ensures (λ at. omega (arith, c.type_inv.bytes at))) _ c.write_records.ensures

pub returns : goal.returns
returns c =
    done _ _ _ c.in_ok-checked.ensures refl c.if-results-checked.false
    (gradable _ c.in_ok-checked.ensures (λ at. omega (arith, c.type_inv.bytes at))) _ c.write_records.ensures _ c.grade_codes.ensures
    ∙ is_graded _ _

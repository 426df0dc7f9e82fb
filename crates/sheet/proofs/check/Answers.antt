-- The plan's refusal, or what the check of the records comes to.
use Rattle.std.proofs.Common.{sym, ◌∙◌, arith, rules, ne_eqb}
use Rattle.outcome.specs.Grounds.{refusal_number}
use Rattle.units.specs.Conditions.{pick}
use Rattle.sheet.specs.Refusals.{verdict}
use Rattle.sheet.proofs.Grounds.{plan_whole}
use Rattle.outcome.proofs.Placed.{Placed, passed, met}
use Rattle.sheet.proofs.check.Goals as goal

pub returns-in_err-map_err : goal.returns-in_err-map_err
unfolding verdict pick
returns-in_err-map_err c =
    let placed : Placed 0 c.check_plan.result c.map_err.result = search rules in
    let (cause, positive, number, leaves) = met _ _ _ placed _ c.in_err-map_err.was _ c.from_residual.ensures.1 in
    rw (leaves, ← c.check_plan.ensures, ne_eqb (refusal_number c.check_plan.result) 0 (λ none. omega arith), number)

pub check_records-requires : goal.check_records-requires
check_records-requires c =
    let placed : Placed 0 c.check_plan.result c.map_err.result = search rules in
    plan_whole _ (sym c.check_plan.ensures ∙ passed _ _ _ placed c.in_ok-map_err.was)

pub returns : goal.returns
unfolding verdict pick
returns c =
    let placed : Placed 0 c.check_plan.result c.map_err.result = search rules in
    rw (← c.check_plan.ensures, passed _ _ _ placed c.in_ok-map_err.was) c.check_records.ensures

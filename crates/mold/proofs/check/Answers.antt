-- The refusal of the opening, else what its records come to.
use Rattle.std.proofs.Common.{length, sym, ◌∙◌, arith, rules, ne_eqb}
use Rattle.outcome.specs.Grounds.{refusal_number}
use Rattle.units.specs.Conditions.{pick}
use Rattle.mold.specs.Refusals.{checked}
use Rattle.mold.proofs.Checking.{opening_passed}
use Rattle.outcome.proofs.Placed.{passed, met_answer}
use Rattle.mold.proofs.check.Goals as goal

pub returns-in_err-map_err : goal.returns-in_err-map_err
unfolding checked pick
returns-in_err-map_err c =
    let found = c.check_opening.result in
    let (some, is) = met_answer 0 found _ (search rules) _ c.in_err-map_err.was _ c.from_residual.ensures.1 (length c.args.bytes.now) in
    is ∙ rw (← c.check_opening.ensures, ne_eqb (refusal_number found) 0 (λ none. omega arith))

pub check_records-requires : goal.check_records-requires
check_records-requires c =
    (opening_passed _ (sym c.check_opening.ensures ∙ passed 0 c.check_opening.result _ (search rules) c.in_ok-map_err.was)).0

pub returns : goal.returns
unfolding checked pick
returns c =
    rw (c.check_records.ensures, ← c.check_opening.ensures, passed 0 c.check_opening.result _ (search rules) c.in_ok-map_err.was)

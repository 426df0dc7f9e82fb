-- Each return is a case of `mold_outcome`.
use Rattle.std.proofs.Common.{arith}
use Rattle.std.proofs.lemmas.Result.{err_from_is_err_and}
use Rattle.outcome.proofs.Placed.{number_positive}
use Rattle.mold.proofs.Cases.{outcome_refused, passed_whole, outcome_short, outcome_graded}
use Rattle.mold.proofs.graded.Goals as goal

pub returns-in_err-units : goal.returns-in_err-units
returns-in_err-units c =
    let left = err_from_is_err_and c.from_residual.result c.from_residual.ensures.1 in
    rw (left.1, left.2) (outcome_refused _ _ _ c.in_err-units.ensures (number_positive _))

pub overflow_mul-units : goal.overflow_mul-units
overflow_mul-units c = let (level, whole) = passed_whole _ _ c.in_ok-units.ensures in omega (arith, whole, c.well_formed)

pub returns-then-results-units : goal.returns-then-results-units
returns-then-results-units c = rw c.at.ensures (outcome_short _ _ c.in_ok-units.ensures _ c.if-results-units.true)

pub write_units-requires : goal.write_units-requires
write_units-requires c = let (level, whole) = passed_whole _ _ c.in_ok-units.ensures in (level, whole, c.if-results-units.false)

pub returns : goal.returns
returns c = rw c.write_units.ensures (outcome_graded _ _ c.in_ok-units.ensures _ c.if-results-units.false)

-- `check_records` is `check_from` from record 0: its loop passes whole records, and what is left behind them is a record cut short.
use Rattle.std.proofs.Common.{◌-◌, length, sym, ◌∙◌, arith, rules, eqb-true}
use Rattle.std.proofs.lemmas.Bool.{eqb-false}
use Rattle.mold.specs.Layout.{offset}
use Rattle.mold.proofs.Checking.{unit_passed}
use Rattle.outcome.proofs.Placed.{passed, met_answer}
use Rattle.mold.proofs.Records.{all_stand, next_refused, next_passed, whole, rest_size, left, none_left}
use Rattle.mold.proofs.check_records.Goals as goal

pub loop-units-preserved : goal.loop-units-preserved
loop-units-preserved c =
    let cut = c.as_chunks.ensures in
    next_passed (whole _ _ cut.front_len cut.front _ _ c.loop-units-test.true) c.loop-units.invariant c.check_unit.ensures
    (passed (offset c.loop-units.units-counter) _ _ (search rules) c.in_ok-map_err.was)

pub returns-in_err-map_err : goal.returns-in_err-map_err
returns-in_err-map_err c =
    let cut = c.as_chunks.ensures in
    next_refused (whole _ _ cut.front_len cut.front _ _ c.loop-units-test.true) c.loop-units.invariant c.check_unit.ensures
    (met_answer (offset c.loop-units.units-counter) _ _ (search rules) _ c.in_err-map_err.was _ c.from_residual.ensures.1 _)

pub returns-in_err-map_err-2 : goal.returns-in_err-map_err-2
returns-in_err-map_err-2 c =
    let cut = c.as_chunks.ensures in
    let some = eqb-false _ 0 (sym c.if-not-is_empty.ensures) in
    -- by this `search` knows the place in the code for that of the next record
    let size = rest_size _ _ cut.front_len c.requires cut.back in
    next_refused (left _ _ cut.front_len c.requires cut.back some) (all_stand _ _ c.loop-units.invariant (omega arith))
    c.check_unit-then-not-is_empty.ensures
    (met_answer (offset (length c.as_chunks.result.0.now)) _ _ (search rules) _ c.in_err-map_err-2.was _ c.from_residual-in_err-map_err-2.ensures.1 _)

pub returns-in_ok-map_err-2 : goal.returns-in_ok-map_err-2
returns-in_ok-map_err-2 c =
    let rest = c.as_chunks.result.1.now in
    let fits = unit_passed rest 0 _
    (sym c.check_unit-then-not-is_empty.ensures ∙ passed (length c.args.bytes.now - length rest) _ _ (search rules) c.in_ok-map_err-2.was) in
    absurd (omega (arith, c.as_chunks.ensures.back_len))

pub returns-else-not-is_empty : goal.returns-else-not-is_empty
returns-else-not-is_empty c =
    let cut = c.as_chunks.ensures in
    let none = eqb-true _ 0 (sym c.if-not-is_empty.ensures) in
    none_left _ _ cut.front_len c.requires cut.back none (all_stand _ _ c.loop-units.invariant (omega arith))

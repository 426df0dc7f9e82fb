-- The loop's invariant: the place is that of the next record (`Stands`). The measure is what is left of the sheet; a record has two bytes
-- or more.
use Rattle.std.proofs.Common.{arith, rules}
use Rattle.sheet.proofs.Checking.{GoesOn, stands_first, stands_refused, stands_on, stands_short, stands_done}
use Rattle.outcome.proofs.Placed.{Placed, passed, met}
use Rattle.sheet.proofs.check_records.Goals as goal
use Rattle.sheet.proofs.check_records.Goals.{In_ok-map_err}

pub loop-place-init : goal.loop-place-init
loop-place-init c = stands_first _ c.requires _ c.first-place.ensures

pub returns-in_err-map_err : goal.returns-in_err-map_err
returns-in_err-map_err c =
    let placed : Placed c.loop-place.place.at c.check_record.result c.map_err.result = search rules in
    let (cause, positive, number, leaves) = met _ _ _ placed _ c.in_err-map_err.was _ c.from_residual.ensures.1 in
    rw (leaves, ← number)
    (stands_refused _ _ _ c.loop-place.invariant (omega (arith, c.loop-place-test.true)) _ c.mark_at-mark.ensures _ c.check_record.ensures
    (λ none. omega arith))

passes : (c : In_ok-map_err) → GoesOn c.args.bytes.now c.loop-place.place c.loop-place.designated c.mark_at-mark.result
passes c =
    let placed : Placed c.loop-place.place.at c.check_record.result c.map_err.result = search rules in
    stands_on _ _ _ c.loop-place.invariant (omega (arith, c.loop-place-test.true)) _ c.mark_at-mark.ensures _ c.check_record.ensures
    (passed _ _ _ placed c.in_ok-map_err.was)

pub designated_after-designated-requires : goal.designated_after-designated-requires
designated_after-designated-requires c = (passes (goal.at.designated_after-designated-requires c).In_ok-map_err).whole

pub past-place-requires : goal.past-place-requires
past-place-requires c = (passes (goal.at.past-place-requires c).In_ok-map_err).room (omega (arith, c.well_formed))

pub loop-place-smaller : goal.loop-place-smaller
loop-place-smaller c = (passes (goal.at.loop-place-smaller c).In_ok-map_err).less _ c.past-place.ensures

pub loop-place-preserved : goal.loop-place-preserved
loop-place-preserved c = (passes (goal.at.loop-place-preserved c).In_ok-map_err).on _ _ c.past-place.ensures c.designated_after-designated.ensures

pub returns-then-place-bytes : goal.returns-then-place-bytes
returns-then-place-bytes c =
    let loop = c.loop-place in
    rw c.at.ensures (stands_short _ _ _ loop.invariant c.if-place-bytes.true (omega (arith, loop.invariant.within, c.loop-place-test.false)))

pub returns : goal.returns
returns c = stands_done _ _ _ c.loop-place.invariant c.if-place-bytes.false

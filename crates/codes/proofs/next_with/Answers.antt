-- Each row, and what is behind the rows, is a part of the records, and no record before it has the code.
use Rattle.std.proofs.Common.{arith}
use Rattle.codes.proofs.Parts.{found_in, none_in, row_lies, rest_many, rest_lies}
use Rattle.codes.proofs.next_with.Goals as goal

pub returns-in-Some : goal.returns-in-Some
returns-in-Some c =
    let cut = c.as_chunks.ensures in
    found_in (row_lies _ _ cut.front_len cut.front c.loop-row-test.true) c.loop-row.invariant c.in-Some.ensures

pub loop-row-preserved : goal.loop-row-preserved
loop-row-preserved c =
    let cut = c.as_chunks.ensures in
    none_in (row_lies _ _ cut.front_len cut.front c.loop-row-test.true) c.loop-row.invariant (omega arith) c.in_default.ensures

pub returns-in_err-next : goal.returns-in_err-next
returns-in_err-next c =
    let cut = c.as_chunks.ensures in
    rw c.from_residual.ensures
    (none_in (rest_lies _ _ cut.front_len cut.back) (λ j below. c.loop-row.invariant j (omega arith)) (rest_many _ _ cut.front_len cut.back)
    c.in_err-next.ensures)

pub returns : goal.returns
returns c =
    let cut = c.as_chunks.ensures in
    found_in (rest_lies _ _ cut.front_len cut.back) (λ j below. c.loop-row.invariant j (omega arith)) c.in_ok-next.ensures

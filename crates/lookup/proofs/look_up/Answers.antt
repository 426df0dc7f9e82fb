-- By the case of the look-up: the reading gives the first of the worst portions, and the part is that record, where it is in memory.
use Rattle.std.proofs.Common.{sym}
use Rattle.lookup.proofs.Cases.{refused_is, reading_found, reading_none, found_part, found_handed, handed_nothing}
use Rattle.lookup.proofs.look_up.Goals as goal

pub returns-then-results-ne0 : goal.returns-then-results-ne0
returns-then-results-ne0 c =
    let results = c.args.results in
    let is = refused_is results.now c.args.code c.if-results-ne0.true in
    record { place = sym is; back = handed_nothing results.now c.args.code 19 results.ref_ptr is }

pub returns-in_default : goal.returns-in_default
returns-in_default c =
    let results = c.args.results in
    let is = reading_none results.now c.args.code c.if-results-ne0.false c.read_records.ensures c.in_default.is in
    record { place = sym is; back = handed_nothing results.now c.args.code 1 results.ref_ptr is }

pub returns : goal.returns
returns c =
    let results = c.args.results in
    let is = reading_found results.now c.args.code c.if-results-ne0.false c.read_records.ensures c.in-Some.is in
    record { place = found_part results.now c.args.code _ is; back = found_handed results.now c.args.code _ is results.ref_ptr }

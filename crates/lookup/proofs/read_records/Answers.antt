-- The loop's invariant: what is found in the records before the rest.
use Rattle.std.proofs.Common.{◌∙◌, sym, eqb-true}
use Rattle.std.proofs.lemmas.Bool.{eqb-false}
use Rattle.lookup.proofs.SoFar.{reads_end, reads_no_worse, reads_others, reads_worse, reads_ends}
use Rattle.lookup.proofs.read_records.Goals as goal

pub returns-then-grade-ge-SUBSTANDARD : goal.returns-then-grade-ge-SUBSTANDARD
returns-then-grade-ge-SUBSTANDARD c =
    let own = eqb-true _ _ (sym c.has_code.ensures ∙ c.if-has_code.true) in
    reads_ends c.loop-record.invariant c.in-Some.ensures.cases.0 _ c.records_of-records.ensures.many own c.if-grade-ge-SUBSTANDARD.true

pub loop-record-preserved-else-grade-ge-SUBSTANDARD : goal.loop-record-preserved-else-grade-ge-SUBSTANDARD
loop-record-preserved-else-grade-ge-SUBSTANDARD c =
    let own = eqb-true _ _ (sym c.has_code.ensures ∙ c.if-has_code.true) in
    reads_worse c.loop-record.invariant c.in-Some.ensures.cases.0 _ c.records_of-records.ensures.many own c.if-next_worse-grade.true
    c.if-grade-ge-SUBSTANDARD.false

pub loop-record-preserved-else-next_worse-grade : goal.loop-record-preserved-else-next_worse-grade
loop-record-preserved-else-next_worse-grade c = reads_no_worse c.loop-record.invariant c.in-Some.ensures.cases.0 c.if-next_worse-grade.false

pub loop-record-preserved : goal.loop-record-preserved
loop-record-preserved c =
    let other = eqb-false _ _ (sym c.has_code.ensures ∙ c.if-has_code.false) in
    rw c.unwrap_or.ensures (reads_others c.loop-record.invariant c.in-Some.ensures.cases.0 _ other c.next_with.ensures)

pub returns : goal.returns
returns c = reads_end _ c.loop-record.invariant c.records_of-records.ensures.many c.in_default.ensures.cases

-- The loop's invariant: the codes of the records before this one are graded in every record.
use Rattle.std.proofs.Common.{◌∙◌}
use Rattle.codes.proofs.GradingPass.{pass_start, first_met, pass_met, pass_written, pass_end}
use Rattle.codes.proofs.grade_codes.Goals as goal
use Rattle.codes.proofs.grade_codes.Goals.{then-record, else-record}

pub loop-first-init : goal.loop-first-init
loop-first-init c = pass_start _ c.requires

pub worst_from-grade-requires : goal.worst_from-grade-requires
worst_from-grade-requires c =
    first_met c.requires c.loop-first.invariant c.loop-first-test.true c.records_of.ensures.records c.number_at-code.ensures c.if-record.true

pub write_code-requires : goal.write_code-requires
write_code-requires c =
    first_met c.requires c.loop-first.invariant c.loop-first-test.true c.records_of.ensures.records c.number_at-code.ensures c.if-record.true

pub loop-first-preserved : goal.loop-first-preserved
loop-first-preserved c =
    let passed = c.loop-first.invariant in
    let are = c.records_of.ensures.records in
    elim c.if-record.branch [
      | then-record w ↦
          pass_written c.requires passed c.loop-first-test.true are w.number_at-code.ensures w.worst_from-grade.ensures (w.results-is ∙ w.write_code.ensures)
      | else-record w ↦ pass_met c.requires passed c.loop-first-test.true are w.results-is w.if-record.false
    ]

pub returns : goal.returns
returns c = pass_end c.loop-first.invariant c.loop-first-test.false

-- By the law of a sheet that is not too long: what its outcome says.
use Rattle.text.proofs.Printed.{printed_text}
use Rattle.lines.specs.Lines.{empty_results}
use Rattle.regrade_lines.specs.RegradeLines.{sheet_for}
use Rattle.regrade_lines.proofs.FewUnits.{few_units}
use Rattle.regrade_lines.proofs.print_regrading_into.Goals as goal

pub print_answer-requires : goal.print_answer-requires
unfolding empty_results
print_answer-requires c =
    let args = c.args in
    let regrade = c.regrade-answer in
    λ accepted. few_units args.sheet.now args.plan.now regrade.result regrade.new.results regrade.ensures

pub returns : goal.returns
unfolding empty_results
returns c =
    let args = c.args in
    let regrade = c.regrade-answer in
    rw (printed_text (sheet_for args.plan.now) args.sheet.now regrade.result regrade.new.results regrade.ensures c.if-sheet-gt-LARGEST_INPUT.false)
    c.print_answer.ensures

-- By the law of a sheet that is not too long: what its outcome says.
use Rattle.std.proofs.Common.{arith}
use Rattle.text.proofs.Printed.{printed_text}
use Rattle.mold_lines.specs.MoldLines.{empty_mold_results, mold_sheet}
use Rattle.mold_lines.proofs.Inside.{mold_inside}
use Rattle.mold_lines.proofs.print_mold_into.Goals as goal

pub print_answer-requires-clause-there : goal.print_answer-requires-clause-there
unfolding empty_mold_results
print_answer-requires-clause-there c =
    let grade = c.grade_mold-answer in
    λ accepted unit below.
    let inside = mold_inside c.args.input.now grade.result grade.new.results grade.ensures accepted in
    (omega arith, omega arith)

pub print_answer-requires-clause-lines_fit : goal.print_answer-requires-clause-lines_fit
unfolding empty_mold_results
print_answer-requires-clause-lines_fit c =
    let grade = c.grade_mold-answer in
    λ accepted. omega (arith, (mold_inside c.args.input.now grade.result grade.new.results grade.ensures accepted).2)

pub returns : goal.returns
unfolding empty_mold_results
returns c =
    let grade = c.grade_mold-answer in
    rw (printed_text mold_sheet c.args.input.now grade.result grade.new.results grade.ensures c.if-input-gt-LARGEST_INPUT.false) c.print_answer.ensures

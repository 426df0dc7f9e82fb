-- By the law of a sheet that is not too long: what its outcome says.
use Rattle.text.proofs.Printed.{printed_text}
use Rattle.lines.specs.Lines.{empty_results, tally_sheet}
use Rattle.lines.proofs.Printed.{few_units}
use Rattle.lines.proofs.print_into.Goals as goal

pub print_answer-requires : goal.print_answer-requires
unfolding empty_results
print_answer-requires c =
    let input = c.args.input.now in
    let grade = c.grade-answer in
    λ accepted. few_units input grade.result grade.new.results grade.ensures

pub returns : goal.returns
unfolding empty_results
returns c =
    let within = c.if-input-gt-LARGEST_INPUT.false in
    let input = c.args.input.now in
    let grade = c.grade-answer in
    rw (printed_text tally_sheet input grade.result grade.new.results grade.ensures within) c.print_answer.ensures

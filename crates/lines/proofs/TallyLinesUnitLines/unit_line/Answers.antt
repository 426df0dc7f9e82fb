-- Its four parts, one behind the other, and none too long.
use Rattle.std.proofs.Common.{◌+◌, arith}
use Rattle.text.specs.Text.{rest_of_line, line_with}
use Rattle.text.specs.Wrote.{Wrote}
use Rattle.text.proofs.Decimals.{length_word, length_number}
use Rattle.text.proofs.Pages.{joined}
use Rattle.lines.specs.Lines.{line_of}
use Rattle.lines.proofs.TallyLinesUnitLines.unit_line.Goals as goal

pub returns : goal.returns
unfolding rest_of_line line_with line_of
returns c =
    let args = c.args in
    let number = length_word (args.unit + 1) (omega arith) in
    let code = length_number c.from.result (omega (arith, c.from.ensures)) in
    let line : Wrote args.page.now (line_of args.self.now.results.now args.unit) c.cusum_fields.new.page =
    rw (← c.number_at-code.ensures, ← c.from.ensures)
    (joined c.decimal.ensures (joined c.number_field.ensures (joined c.letter_fields.ensures c.cusum_fields.ensures.wrote)))
    in
    record { line = line; short = omega arith }

-- Its five parts, one behind the other, and none too long.
use Rattle.std.proofs.Common.{◌+◌, arith}
use Rattle.text.specs.Text.{rest_of_line, line_with}
use Rattle.text.specs.Wrote.{Wrote}
use Rattle.text.proofs.Decimals.{length_word, length_number, length_cusum}
use Rattle.text.proofs.Pages.{joined}
use Rattle.mold_lines.specs.MoldLines.{mold_line_of}
use Rattle.mold_lines.proofs.MoldLinesUnitLines.unit_line.Goals as goal

pub returns : goal.returns
unfolding rest_of_line line_with mold_line_of
returns c =
    let args = c.args in
    let lines = args.self.now in
    let number = length_word (args.unit + 1) (omega arith) in
    let code = length_number c.from.result (omega (arith, c.from.ensures)) in
    let cusum = length_cusum c.number_at-tenths.result (omega arith) in
    let line : Wrote args.page.now (mold_line_of lines.sheet.now lines.results.now args.unit) c.byte.new.self =
    rw (← c.mold_unit_at-code.ensures, ← c.from.ensures, ← c.met_letter-met.ensures, ← c.number_at-tenths.ensures)
    (joined c.decimal.ensures
    (joined c.number_field.ensures (joined c.bytes.ensures (joined c.tenths_field.ensures c.byte.ensures))))
    in
    record { line = line; short = omega arith }

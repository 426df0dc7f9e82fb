-- With the fields from the class on and the newline all is written, and no field that is written was too long.
use Rattle.std.proofs.Common.{arith}
use Rattle.text.proofs.Decimals.{length_cusum}
use Rattle.text.proofs.Pages.{joined}
use Rattle.lines.specs.Lines.{cusum_field}
use Rattle.lines.proofs.Classes.{fields_left}
use Rattle.lines.proofs.TallyLines.cusum_fields.Goals as goal

pub loop-class-preserved : goal.loop-class-preserved
loop-class-preserved c =
    let left = fields_left (cusum_field c.args.self.now.results.now c.args.unit) c.loop-class.class c.loop-class-test.true in
    let field = rw c.number_at-tenths.ensures at c.tenths_field.ensures in record {
      due = λ after rest. c.loop-class.invariant.due after (rw left (joined field rest));
      short = omega (arith, length_cusum c.number_at-tenths.result (omega arith));
    }

-- The lines of the units passed are written, and none is longer than `line_size`.
use Rattle.std.proofs.Common.{ap, ◌∙◌, length, arith, length-append}
use Rattle.text.proofs.Pages.{joined, lines_more}
use Rattle.text.proofs.unit_lines.Goals as goal

pub loop-unit-preserved : goal.loop-unit-preserved
loop-unit-preserved g c =
    let line = g.L.UnitLines.line c.args.lines.now in
    let more = lines_more line c.loop-unit.unit in record {
      wrote = rw more (joined c.loop-unit.invariant.wrote c.unit_line.ensures.line);
      short = omega (arith, ap length more ∙ length-append _ (line c.loop-unit.unit), c.unit_line.ensures.short);
    }

-- The lines of the units passed are written, and none is longer than `line_size`.
use Rattle.std.proofs.Common.{◌*◌, ◌≤◌, length}
use Rattle.text.specs.Text.{lines_by}
use Rattle.text.specs.Wrote.{Wrote}
use Rattle.text.proofs.unit_lines.Given as goal

abbrev pub invariant-loop-unit : goal.invariant-loop-unit
invariant-loop-unit g l =
    let passed = lines_by (g.L.UnitLines.line l.lines) l.unit in record {
      wrote : Wrote l.initial.page passed l.page;
      short : length passed ≤ g.L.UnitLines.line_size * l.unit;
    }

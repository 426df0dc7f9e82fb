-- With the fields from the class on and the newline all is written, and no field that is written was too long.
use Rattle.std.proofs.Common.{◌+◌, ◌*◌, ◌≤◌, length, drop, map}
use Rattle.text.specs.declared.page.Page.{Page}
use Rattle.text.specs.Text.{rest_of_line}
use Rattle.text.specs.Wrote.{behind, Wrote, cusum_size}
use Rattle.units.specs.Words.{classes}
use Rattle.lines.specs.Lines.{cusum_field, cusum_fields}
use Rattle.lines.proofs.TallyLines.cusum_fields.Given as goal

abbrev pub invariant-loop-class : goal.invariant-loop-class
invariant-loop-class l =
    let left = rest_of_line (map (cusum_field l.self.results.now l.unit) (drop l.class classes)) in record {
      due : (after : Page) → Wrote l.page left after → Wrote l.initial.page (rest_of_line (cusum_fields l.self.results.now l.unit)) after;
      short : length (behind l.initial.page) ≤ length (behind l.page) + (cusum_size + 1) * l.class;
    }

-- What is printed for a regrading, for every sheet and every second plan; and the lines of one regrading in full, which stand as comments
-- beside its result bytes in `RegradeSheets`, and of a refusal with 18.
use Rattle.std.specs.Prelude.{ℕ, ◌≡◌, List, take}
use Rattle.text.specs.Ascii.{ascii}
use Rattle.text.specs.TextCases.{TextCases}
use Rattle.lines.specs.Lines.{line_of}
use Rattle.computed.specs.Printed.{empty_buffer}
use Rattle.regrade.specs.Outcome.{regrade_outcome}
use Rattle.regrade_lines.specs.RegradeLines.{regrade_printed}
use Rattle.regrade_demands.specs.RegradeSheets.{buyer_b, two_failures_before_redesignation}

pub record RegradeText : Type 0 where
  -- as for a tally sheet, whatever the second plan: number 15, a refusal, or a line a unit
  pub cases : (plan : List ℕ) → TextCases (record { outcome = λ sheet. regrade_outcome sheet plan; buffer = empty_buffer; line = λ sheet. line_of }) (λ sheet. regrade_printed sheet plan)
  -- standing is m or f
  pub two_failures_holds : regrade_printed two_failures_before_redesignation buyer_b
      ≡ ascii "1 1 C C f B 0.0 0.0 0.0 6.0\n2 2 C C f B 0.0 0.0 0.0 6.0\n3 3 B B m B 0.0 0.0 0.0 5.5\n4 2 B C m B 0.0 0.0 0.0 5.0\n"
  pub refused_18 : regrade_printed two_failures_before_redesignation (take 74 buyer_b) ≡ ascii "refused 18 0\n"

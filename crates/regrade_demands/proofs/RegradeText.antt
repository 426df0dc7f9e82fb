-- What is printed: for every input as for sheets of any kind; the examples from their outcomes, and the lines by computation.
use Prim.Native.Nat.{ℕ, ◌*◌, ◌≤◌}
use mathlib.Core.Path.{◌≡◌, refl, sym, ◌∙◌}
use mathlib.Core.List.{List, ◌++◌}
use native.Mathlib.Omega.{arith}
use lib.ListN.{length, drop, take, length-replicate}
use Rattle.text.specs.Ascii.{ascii}
use Rattle.text.specs.Text.{digits, decimal, one_decimal, rest_of_line, line_with, lines_by}
use Rattle.text.proofs.Printed.{lines_printed, text_cases}
use Rattle.results.specs.Record.{result_size}
use Rattle.lines.specs.Lines.{line_of, lines_of, empty_results}
use Rattle.computed.specs.Printed.{empty_buffer}
use Rattle.regrade.specs.Outcome.{regrade_outcome}
use Rattle.regrade.proofs.Computing.{computing}
use Rattle.outcome.specs.Outcome.{refusal}
use Rattle.regrade_lines.specs.RegradeLines.{sheet_for}
use Rattle.regrade_demands.specs.RegradeSheets.{recorded_plan, buyer_a, buyer_b, two_failures_before_redesignation, two_failures_before_redesignation_results}
use Rattle.regrade_demands.specs.RegradeText.{RegradeText}
use Rattle.regrade_demands.proofs.RegradeSheets.{regrade_sheets}

two_failures_lines : (rest : List ℕ) → lines_of (two_failures_before_redesignation_results ++ rest) 4
    ≡ ascii "1 1 C C f B 0.0 0.0 0.0 6.0\n2 2 C C f B 0.0 0.0 0.0 6.0\n3 3 B B m B 0.0 0.0 0.0 5.5\n4 2 B C m B 0.0 0.0 0.0 5.0\n"
unfolding two_failures_before_redesignation_results digits decimal one_decimal rest_of_line line_with lines_by line_of
two_failures_lines rest = refl

room : result_size * 4 ≤ length empty_results
unfolding empty_results
room = omega (arith, length-replicate {A = ℕ} 32000 0)

within : length two_failures_before_redesignation ≤ 65536
unfolding recorded_plan two_failures_before_redesignation
within = omega arith

cut_short : (buffer : List ℕ) → regrade_outcome two_failures_before_redesignation (take 74 buyer_b) buffer ≡ refusal 18 0 buffer
unfolding computing recorded_plan buyer_a buyer_b two_failures_before_redesignation
cut_short buffer = refl

refused_line_holds : ascii "refused " ++ decimal 18 ++ ascii " " ++ decimal 0 ++ ascii "\n" ≡ ascii "refused 18 0\n"
unfolding decimal digits
refused_line_holds = refl

pub regrade_text : RegradeText
unfolding empty_buffer empty_results
regrade_text =
    record {
      cases = λ plan. text_cases (sheet_for plan);
      two_failures_holds =
          lines_printed (sheet_for buyer_b) two_failures_before_redesignation _ _
          (sym (regrade_sheets.fewer_defects.two_failures_before_redesignation_holds empty_results room)) within refl
          ∙ two_failures_lines (drop (result_size * 4) empty_results);
      refused_18 =
          (text_cases (sheet_for (take 74 buyer_b))).refused two_failures_before_redesignation 18 0 within (omega arith) (cut_short empty_results) ∙ refused_line_holds;
    }

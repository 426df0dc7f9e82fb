-- What is printed: for every input as for sheets of any kind; the example from its outcome, and the lines of its records by computation.
use Prim.Native.Nat.{ℕ, ◌*◌, ◌≤◌}
use mathlib.Core.Path.{◌≡◌, refl, sym, ◌∙◌}
use mathlib.Core.List.{List, ◌++◌}
use native.Mathlib.Omega.{arith}
use lib.ListN.{length, drop, length-replicate}
use Rattle.text.specs.Ascii.{ascii}
use Rattle.text.specs.Text.{digits, decimal, one_decimal, rest_of_line, line_with, lines_by}
use Rattle.text.proofs.Printed.{lines_printed, text_cases}
use Rattle.mold.specs.Layout.{mold_unit_at}
use Rattle.mold.specs.Results.{result_size}
use Rattle.mold_lines.specs.MoldLines.{mold_line_of, empty_mold_results, mold_sheet}
use Rattle.mold_demands.specs.MoldSheets.{manual_example, manual_example_results}
use Rattle.mold_demands.specs.MoldText.{empty_mold_buffer, MoldText}
use Rattle.mold_demands.proofs.MoldSheets.{mold_sheets}

example_lines : (rest : List ℕ) → lines_by (mold_line_of manual_example (manual_example_results ++ rest)) 5
    ≡ ascii "1 1 m 0.0\n2 2 m 0.0\n3 3 m 0.0\n4 4 f 2.0\n5 5 m 2.0\n"
unfolding manual_example manual_example_results digits decimal one_decimal rest_of_line line_with lines_by mold_line_of mold_unit_at
example_lines rest = refl

room : result_size * 5 ≤ length empty_mold_results
unfolding empty_mold_results
room = omega (arith, length-replicate {A = ℕ} 5000 0)

pub mold_text : MoldText
unfolding empty_mold_buffer empty_mold_results manual_example
mold_text =
    record {
      cases = text_cases mold_sheet;
      example =
          lines_printed mold_sheet manual_example _ _ (sym (mold_sheets.levels.manual_example_holds empty_mold_results room)) (omega arith) refl
          ∙ example_lines (drop (result_size * 5) empty_mold_results);
    }

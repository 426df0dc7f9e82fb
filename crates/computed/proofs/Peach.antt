-- P10 as printed: the seven lines of the peach sheet, from its result records and from its bytes; and P1 to P10 together.
-- The records' lines by computation, whatever stands behind them in the buffer; the sheet's, as case P10 gives the buffer.
use Prim.Native.Nat.{ℕ, ◌*◌, ◌≤◌}
use mathlib.Core.Path.{◌≡◌, refl, sym, ◌∙◌}
use mathlib.Core.List.{List, [], ◌++◌}
use native.Mathlib.Omega.{arith}
use lib.ListN.{length, length-replicate}
use Rattle.sheet.specs.Refusals.{most_units}
use Rattle.results.specs.Record.{result_size}
use Rattle.computed.specs.WorkedCases.{peach_plan, peach_units, peach, peach_results}
use Rattle.computed.proofs.WorkedCases.{worked_cases}
use Rattle.text.specs.Text.{digits, decimal, one_decimal, rest_of_line, line_with, lines_by}
use Rattle.lines.specs.Lines.{line_of, lines_of, empty_results, tally_sheet}
use Rattle.computed.specs.Peach.{peach_lines, PeachPrinted, SmallSheets}
use Rattle.text.proofs.Printed.{lines_printed}

seven_lines : (rest : List ℕ) → lines_of (peach_results ++ rest) 7 ≡ peach_lines
unfolding peach_results peach_lines digits decimal one_decimal rest_of_line line_with line_of lines_by
seven_lines rest = refl

-- the buffer that is printed from has room for every sheet
pub room : (units : ℕ) → units ≤ most_units → result_size * units ≤ length empty_results
unfolding empty_results
room units most = omega (arith, length-replicate {A = ℕ} (result_size * most_units) 0)

pub peach_printed : PeachPrinted
unfolding peach_plan peach_units peach peach_results
peach_printed =
    record {
      records_lines = seven_lines [];
      sheet_lines = lines_printed tally_sheet peach _ _ (sym (worked_cases.p10 empty_results (room 7 (omega arith)))) (omega arith) refl ∙ seven_lines _;
    }

pub small_sheets : SmallSheets
small_sheets = record { worked = worked_cases; printed_lines = peach_printed }

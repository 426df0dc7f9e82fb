-- What is printed: for every input as for sheets of any kind; for the sheets from their outcomes, and the lines of their records by
-- computation. A number in decimal by induction, a digit at a time.
use Prim.Native.Nat.{ℕ, zero, suc, ◌+◌, ◌*◌, ◌/◌, ◌%◌, ◌<◌}
use mathlib.Core.Path.{◌≡◌, refl, sym, ◌∙◌, subst}
use mathlib.Core.Bool.{Bool, true, false}
use mathlib.Core.List.{List, ◌++◌}
use native.Mathlib.Omega.{arith}
use lib.Dec.{ltb, lit<}
use borrow.Author.Tests.{ltb-true, ltb-false}
use Rattle.text.specs.Ascii.{ascii}
use Rattle.text.specs.Text.{digits, decimal, one_decimal, rest_of_line, line_with, refused_line, lines_by}
use Rattle.lines.specs.Lines.{line_of, lines_of, empty_results, tally_sheet}
use Rattle.text.proofs.Decimals as decimals
use Rattle.text.proofs.Printed.{lines_printed, refusal_printed, text_cases}
use Rattle.computed.specs.WorkedCases.{peach_plan}
use Rattle.computed.specs.FurtherSheets.{PrintedSheets, repeated, recovery_without_plan, recovery_without_plan_results, recovery_without_plan_lines, cusums_of_two_bytes, cusums_of_two_bytes_results, cusums_of_two_bytes_lines, grounds8_and9, ground12, twelve_units_results, twelve_units_lines}
use Rattle.computed.specs.Printed.{empty_buffer, InDecimal, PrintedText}
use Rattle.computed.proofs.FurtherSheets.{further_sheets}
use Rattle.computed.proofs.Peach.{room}

-- ---- numbers

in_decimal : (most value : ℕ) → value < most → InDecimal (decimal value) value
in_decimal zero value below = absurd (omega arith)
in_decimal (suc most) value below = go (ltb value 10) refl (in_decimal most (value / 10))
  where
    go : (one : Bool) → ltb value 10 ≡ one → (value / 10 < most → InDecimal (decimal (value / 10)) (value / 10)) → InDecimal (decimal value) value
    go true test shorter =
        let one = ltb-true value 10 test in
        rw (decimals.one_digit value one) (InDecimal.one_digit value one)
    go false test shorter =
        let more = ltb-false value 10 test in
        let whole : 10 * (value / 10) + value % 10 ≡ value = omega arith in
        subst (InDecimal (decimal value)) whole
        (rw (decimals.more_digits value more)
        (InDecimal.more_digits (decimal (value / 10)) (value / 10) (value % 10) (omega arith) (omega arith) (shorter (omega arith))))

-- ---- sheets

without_plan_lines : (rest : List ℕ) → lines_of (recovery_without_plan_results ++ rest) 7 ≡ recovery_without_plan_lines
unfolding recovery_without_plan_results recovery_without_plan_lines digits decimal one_decimal rest_of_line line_with line_of lines_by
without_plan_lines rest = refl

two_bytes_lines : (rest : List ℕ) → lines_of (cusums_of_two_bytes_results ++ rest) 3 ≡ cusums_of_two_bytes_lines
unfolding cusums_of_two_bytes_results cusums_of_two_bytes_lines digits decimal one_decimal rest_of_line line_with line_of lines_by
two_bytes_lines rest = refl

twelve_lines : lines_of twelve_units_results 12 ≡ twelve_units_lines
unfolding twelve_units_results twelve_units_lines digits decimal one_decimal rest_of_line line_with line_of lines_by
twelve_lines = refl

two_refusals : (refused_line 8 89 ≡ ascii "refused 8 89\n") × (refused_line 12 14075 ≡ ascii "refused 12 14075\n")
unfolding digits decimal rest_of_line line_with refused_line
two_refusals = (refl, refl)

printed_sheets : PrintedSheets
unfolding peach_plan recovery_without_plan cusums_of_two_bytes grounds8_and9 repeated ground12
printed_sheets =
    record {
      recovery_without_plan_holds =
          lines_printed tally_sheet recovery_without_plan _ _ (sym (further_sheets.step_three_holds.recovery_without_plan_holds empty_results (room 7 (lit< tt)))) (lit< tt) refl
          ∙ without_plan_lines _;
      cusums_of_two_bytes_holds =
          lines_printed tally_sheet cusums_of_two_bytes _ _ (sym (further_sheets.units.cusums_of_two_bytes_holds empty_results (room 3 (lit< tt)))) (lit< tt) refl
          ∙ two_bytes_lines _;
      grounds_8_and_9 =
          refusal_printed tally_sheet grounds8_and9 _ _ (sym (further_sheets.refusals.grounds_8_and_9 empty_results)) (lit< tt) (λ none. omega arith)
          ∙ two_refusals.0;
      ground_12 =
          refusal_printed tally_sheet ground12 _ _ (sym (further_sheets.full.ground_12 empty_results)) (lit< tt) (λ none. omega arith) ∙ two_refusals.1;
      twelve_units = twelve_lines;
    }

-- ---- every input

pub printed_text : PrintedText
unfolding empty_buffer empty_results
printed_text =
    record {
      cases = text_cases tally_sheet;
      decimals = λ value. in_decimal (suc value) value (omega arith);
      sheets = printed_sheets;
    }

-- How long a line of a mold sheet is, by the lengths of texts one behind the other; and that the units and records of an accepted sheet lie
-- inside the sheet and the buffer that it is graded into.
use Rattle.std.proofs.Common.{◌≡◌, ℕ, ◌+◌, ◌-◌, ◌*◌, ◌/◌, ◌^◌, ◌<◌, ◌≤◌, List, length, ap, ◌∙◌, arith, length-append, length-drop}
use lib.ListN.{length-replicate}
use Rattle.outcome.specs.declared.Answer.{Answer}
use Rattle.outcome.specs.Outcome.{Outcome}
use Rattle.encoding.specs.Bytes.{byte}
use Rattle.sheet.specs.Refusals.{most_units}
use Rattle.text.specs.Text.{decimal, one_decimal, rest_of_line, line_with}
use Rattle.text.specs.Wrote.{word_size, number_digits}
use Rattle.text.proofs.Decimals.{length_decimal, length_tenths}
use Rattle.mold.specs.Layout.{code_offset, offset, mold_unit_at, unit_in}
use Rattle.mold.specs.Results.{cusum_offset, result_size, cusum_in}
use Rattle.mold.specs.Outcome.{mold_outcome}
use Rattle.mold.proofs.Accepted.{mold_accepted}
use Rattle.mold.proofs.Written.{length_written}
use Rattle.mold_lines.specs.MoldLines.{result_fields, mold_line_of, empty_mold_results, mold_line_size}

pub length_fields : (results : List ℕ) (j : ℕ) → length (rest_of_line (result_fields results j)) ≡ 2 + (1 + length (one_decimal (cusum_in results j))) + 1
unfolding rest_of_line
length_fields results j = simp length-append (omega arith)

pub length_line : (sheet results : List ℕ) (j : ℕ)
    → length (mold_line_of sheet results j)
    ≡ length (decimal (j + 1)) + (1 + length (decimal (unit_in sheet j).code)) + length (rest_of_line (result_fields results j))
unfolding mold_line_of line_with rest_of_line
length_line sheet results j = simp length-append (omega arith)

-- no line is too long
pub short_line : (sheet results : List ℕ) → ((at : ℕ) → byte sheet at < 256) → ((at : ℕ) → byte results at < 256)
    → (j : ℕ) → j + 1 < 10 ^ word_size → length (mold_line_of sheet results j) ≤ mold_line_size
unfolding mold_unit_at
short_line sheet results sheet_bytes result_bytes_holds j below =
    let code_at = offset j + code_offset in
    let cusum_at = result_size * j + cusum_offset in
    let tenths = cusum_in results j in
    let number = length_decimal word_size (j + 1) (omega arith) below in
    let code = length_decimal number_digits (unit_in sheet j).code (omega arith) (omega (arith, sheet_bytes code_at, sheet_bytes (code_at + 1))) in
    let whole = length_decimal (number_digits - 1) (tenths / 10) (omega arith) (omega (arith, result_bytes_holds cusum_at, result_bytes_holds (cusum_at + 1))) in
    omega (arith, length_line sheet results j, length_fields results j, number, code, length_tenths tenths, whole)

-- ---- an accepted sheet

-- its units and records lie inside
pub mold_inside : (input : List ℕ) (answer : Answer) (results : List ℕ)
    → ◌≡◌ {A = Outcome} (record { answer = answer; buffer = results }) (mold_outcome input empty_mold_results) → answer.number ≡ 0
    → (offset answer.units ≤ length input) × (result_size * answer.units ≤ length results) × (answer.units ≤ most_units)
unfolding empty_mold_results
mold_inside input answer results promise accepted =
    let sheet = mold_accepted input empty_mold_results answer results (record { promise = promise; accepted = accepted }) in
    let size : length results ≡ length empty_mold_results
    = ap length sheet.filled ∙ simp (length-append, length-drop, length_written input answer.units) (omega (arith, sheet.room)) in (
      omega (arith, sheet.facts.end),
      omega (arith, size, sheet.room),
      omega (arith, sheet.room, length-replicate {A = ℕ} (result_size * most_units) 0),
    )

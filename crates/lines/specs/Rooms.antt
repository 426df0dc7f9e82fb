-- For contracts of private functions: parts of a line, and the room that a line asks for.
use Rattle.std.specs.Prelude.{ℕ, ◌+◌, ◌*◌, ◌≤◌, List, [], ◌∷◌, length}
use Rattle.units.specs.Words.{classes}
use Rattle.results.specs.Record.{result_size, portion_grade_in, code_grade_in, plan_grade_in, standing_in}
use Rattle.text.specs.Text.{space}
use Rattle.text.specs.Wrote.{word_size, number_digits, cusum_size}
use Rattle.lines.specs.Lines.{grade_letter, standing_letter}

-- the record of unit j stands in the result buffer
abbrev pub HasRecord : List ℕ → ℕ → Type 0
HasRecord results j = result_size * j + result_size ≤ length results

-- the letters in the line of unit j, each behind a space
abbrev pub letter_fields : List ℕ → ℕ → List ℕ
letter_fields results j =
    space ∷ grade_letter (portion_grade_in results j) ∷ space ∷ grade_letter (code_grade_in results j)
    ∷ space ∷ standing_letter (standing_in results j) ∷ space ∷ grade_letter (plan_grade_in results j) ∷ []

-- portion grade, code grade, standing and plan grade
abbrev pub letters : ℕ
letters = 4

-- no CuSums are longer, with a space before each and the newline
abbrev pub cusums_size : ℕ
cusums_size = length classes * (cusum_size + 1) + 1

-- no unit's line is longer: unit number, code, letters and CuSums, with one byte behind each
abbrev pub line_size : ℕ
line_size = word_size + 1 + number_digits + 1 + letters * (1 + 1) + length classes * (cusum_size + 1)

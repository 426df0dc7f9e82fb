-- What is printed for a mold sheet, for every input; and the manual's example with what stands in the manual.
use Rattle.std.specs.Prelude.{ℕ, ◌≡◌, List, replicate}
use Rattle.text.specs.Ascii.{ascii}
use Rattle.text.specs.TextCases.{TextCases}
use Rattle.mold.specs.Outcome.{mold_outcome}
use Rattle.mold_lines.specs.MoldLines.{mold_line_of, mold_printed}
use Rattle.mold_demands.specs.MoldSheets.{manual_example}

-- the result buffer that a mold sheet is graded into: 5 bytes for each of 1,000 units, filled with zeros
unfoldable pub empty_mold_buffer : List ℕ
empty_mold_buffer = replicate 5000 0

pub record MoldText : Type 0 where
  -- as for a tally sheet: number 15, a refusal, or a line a unit
  pub cases : TextCases (record { outcome = mold_outcome; buffer = empty_mold_buffer; line = mold_line_of }) mold_printed
  -- source document 000, how to compute CuSum values, example 2: 0 meets, 0 meets, 0 meets, 2 fails, 2 meets
  pub example : mold_printed manual_example ≡ ascii "1 1 m 0.0\n2 2 m 0.0\n3 3 m 0.0\n4 4 f 2.0\n5 5 m 2.0\n"

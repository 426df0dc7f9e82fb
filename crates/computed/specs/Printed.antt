-- What is printed, said a second time in the words of paper 01 ("The printing program"), for every input; and some sheets with the text
-- that the independent grader prints for them.
use Rattle.std.specs.Prelude.{ℕ, ◌+◌, ◌*◌, ◌<◌, List, [], ◌∷◌, ◌++◌, replicate}
use Prim.Native.Char.{code}
use Rattle.tally.specs.Outcome.{outcome}
use Rattle.text.specs.Text.{decimal}
use Rattle.text.specs.TextCases.{TextCases}
use Rattle.lines.specs.Lines.{line_of, printed}
use Rattle.computed.specs.FurtherSheets.{PrintedSheets}

-- the result buffer that a sheet is graded into: 32 bytes for each of 1,000 units, filled with zeros
unfoldable pub empty_buffer : List ℕ
empty_buffer = replicate 32000 0

-- a text is a number in decimal: one digit, or the digits of a number above zero and the last digit
pub data InDecimal : List ℕ → ℕ → Type 0 where
  one_digit : (last : ℕ) → last < 10 → InDecimal ((code "0" + last) ∷ []) last
  more_digits : (text : List ℕ) (tens last : ℕ) → 0 < tens → last < 10 → InDecimal text tens
      → InDecimal (text ++ ((code "0" + last) ∷ [])) (10 * tens + last)

pub record PrintedText : Type 0 where
  -- number 15, a refusal, or the lines of an accepted sheet
  pub cases : TextCases (record { outcome = outcome; buffer = empty_buffer; line = λ sheet. line_of }) printed
  -- numbers are "in decimal"
  pub decimals : (value : ℕ) → InDecimal (decimal value) value
  -- sheets, and lines with every letter and with many digits
  pub sheets : PrintedSheets

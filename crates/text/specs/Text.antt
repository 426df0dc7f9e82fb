-- What is printed, as bytes in ASCII: fields and lines, for sheets of every kind.
use Rattle.std.specs.Prelude.{ℕ, zero, suc, ◌+◌, ◌/◌, ◌%◌, cond, List, [], ◌∷◌, ◌++◌, eqb, ltb, length, drop}
use Prim.Native.Char.{code}
use Rattle.outcome.specs.declared.Answer.{Answer}
use Rattle.outcome.specs.Outcome.{Outcome}
use Rattle.text.specs.Ascii.{ascii}

abbrev pub newline : ℕ
newline = code "\n"

abbrev pub space : ℕ
space = code " "

abbrev pub point : ℕ
point = code "."

abbrev pub digit : ℕ → ℕ
digit value = code "0" + value

-- ---- fields

-- the digits of a number, the highest first and no zero in front, if it has no more than so many places
unfoldable pub digits : ℕ → ℕ → List ℕ
digits zero value = []
digits (suc places) value = cond (ltb value 10) (digit value ∷ []) (digits places (value / 10) ++ (digit (value % 10) ∷ []))

-- a number in decimal; it never has more than its value and one places
unfoldable pub decimal : ℕ → List ℕ
decimal value = digits (suc value) value

-- a number of tenths with one decimal
unfoldable pub one_decimal : ℕ → List ℕ
one_decimal tenths = decimal (tenths / 10) ++ (point ∷ digit (tenths % 10) ∷ [])

-- ---- lines

-- what follows the first field of a line: each further field behind a space, and at last a newline
unfoldable pub rest_of_line : List (List ℕ) → List ℕ
rest_of_line [] = newline ∷ []
rest_of_line (field ∷ fields) = (space ∷ field) ++ rest_of_line fields

-- fields parted by one space, and a newline
unfoldable pub line_with : List ℕ → List (List ℕ) → List ℕ
line_with first others = first ++ rest_of_line others

-- a line for each of n units, the first being 0
unfoldable pub lines_by : (ℕ → List ℕ) → ℕ → List ℕ
lines_by line zero = []
lines_by line (suc n) = lines_by line n ++ line n

unfoldable pub refused_line : ℕ → ℕ → List ℕ
refused_line number offset = line_with (ascii "refused") (decimal number ∷ decimal offset ∷ [])

-- ---- the whole text

-- a line a unit; a refused sheet prints only "refused", number and offset
unfoldable pub text_by : Answer → (ℕ → List ℕ) → List ℕ
text_by answer line = cond (eqb answer.number 0) (lines_by line answer.units) (refused_line answer.number answer.offset)

-- input above 65,536 bytes is number 15, offset 65536
abbrev pub largest_input : ℕ
largest_input = 65536

abbrev pub too_much_input : ℕ
too_much_input = 15

-- a kind of sheet: its outcome, the result buffer that is graded into, and the line of a unit by the sheet and its results
pub record SheetKind : Type 0 where
  pub outcome : List ℕ → List ℕ → Outcome
  pub buffer : List ℕ
  pub line : List ℕ → List ℕ → ℕ → List ℕ

-- for an input of any length: number 15 before all else
unfoldable pub printed_as : SheetKind → List ℕ → List ℕ
printed_as kind input =
    let given = kind.outcome input kind.buffer in
    cond (ltb largest_input (length input)) (refused_line too_much_input largest_input) (text_by given.answer (kind.line input given.buffer))

-- the printing function's answer, the size of the printed text, and the caller's text as it is left
pub record Printing : Type 0 where
  pub size : ℕ
  pub text : List ℕ

-- what is printed stands first, and the bytes behind it are kept
unfoldable pub leaving : List ℕ → List ℕ → Printing
leaving printed text = record { size = length printed; text = printed ++ drop (length printed) text }

-- What is printed for a mold sheet, as bytes in ASCII: a line a unit, or the refusal. The papers have no line for a mold sheet: it has the
-- fields of a tally sheet's line that a mold unit has.
use Rattle.std.specs.Prelude.{ℕ, ◌+◌, ◌*◌, List, [], ◌∷◌, get_or, replicate}
use Prim.Native.Char.{code}
use Rattle.sheet.specs.Refusals.{most_units}
use Rattle.text.specs.Ascii.{ascii}
use Rattle.text.specs.Text.{decimal, one_decimal, line_with, SheetKind, printed_as, Printing, leaving}
use Rattle.text.specs.Wrote.{word_size, number_digits, cusum_size}
use Rattle.mold.specs.Layout.{unit_in}
use Rattle.mold.specs.Results.{result_size, met_in, cusum_in}
use Rattle.mold.specs.Outcome.{mold_outcome}

-- f for 0, else m
abbrev pub met_letter : ℕ → ℕ
met_letter met = get_or (ascii "f") met (code "m")

-- m or f, and CuSum with one decimal
abbrev pub result_fields : List ℕ → ℕ → List (List ℕ)
result_fields results j = (met_letter (met_in results j) ∷ []) ∷ one_decimal (cusum_in results j) ∷ []

-- unit j, the first being 0: unit number from 1, code, and those
unfoldable pub mold_line_of : List ℕ → List ℕ → ℕ → List ℕ
mold_line_of sheet results j = line_with (decimal (j + 1)) (decimal (unit_in sheet j).code ∷ result_fields results j)

-- a result buffer for the most units that a sheet has, filled with zeros
unfoldable pub empty_mold_results : List ℕ
empty_mold_results = replicate (result_size * most_units) 0

-- the mold sheet as it is printed
abbrev pub mold_sheet : SheetKind
mold_sheet = record { outcome = mold_outcome; buffer = empty_mold_results; line = mold_line_of }

-- for an input of any length
abbrev pub mold_printed : List ℕ → List ℕ
mold_printed = printed_as mold_sheet

-- the caller's text as it is left
abbrev pub mold_printing : List ℕ → List ℕ → Printing
mold_printing input text = leaving (mold_printed input) text

-- for contracts of private functions: no line is longer
abbrev pub mold_line_size : ℕ
mold_line_size = word_size + 1 + number_digits + 1 + 1 + 1 + cusum_size + 1

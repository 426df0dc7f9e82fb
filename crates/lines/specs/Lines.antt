-- What the printing program prints, as bytes in ASCII: a line a unit, or the refusal.
use Rattle.std.specs.Prelude.{ℕ, ◌+◌, ◌*◌, List, [], ◌∷◌, map, get_or, replicate}
use Prim.Native.Char.{code}
use Rattle.units.specs.Words.{classes}
use Rattle.sheet.specs.Refusals.{most_units}
use Rattle.results.specs.Record.{result_size, code_in, portion_grade_in, code_grade_in, plan_grade_in, standing_in, cusum_in}
use Rattle.tally.specs.Outcome.{outcome}
use Rattle.text.specs.Ascii.{ascii}
use Rattle.text.specs.Text.{decimal, one_decimal, line_with, lines_by, SheetKind, printed_as, Printing, leaving}

-- a grade: A, B, C, else S
abbrev pub grade_letter : ℕ → ℕ
grade_letter grade = get_or (ascii "ABC") grade (code "S")

-- a standing: m, f, u, else r
abbrev pub standing_letter : ℕ → ℕ
standing_letter standing = get_or (ascii "mfu") standing (code "r")

-- ---- lines

-- the CuSum of a class of unit j, and those of all classes
abbrev pub cusum_field : List ℕ → ℕ → ℕ → List ℕ
cusum_field results j class = one_decimal (cusum_in results j class)

abbrev pub cusum_fields : List ℕ → ℕ → List (List ℕ)
cusum_fields results j = map (cusum_field results j) classes

-- unit j, the first being 0: unit number from 1, code, portion grade, code grade, standing, plan grade, a CuSum for each class
unfoldable pub line_of : List ℕ → ℕ → List ℕ
line_of results j =
    line_with
    (decimal (j + 1))
    (decimal (code_in results j)
    ∷ (grade_letter (portion_grade_in results j) ∷ [])
    ∷ (grade_letter (code_grade_in results j) ∷ [])
    ∷ (standing_letter (standing_in results j) ∷ [])
    ∷ (grade_letter (plan_grade_in results j) ∷ [])
    ∷ cusum_fields results j)

-- a line for each of n units
abbrev pub lines_of : List ℕ → ℕ → List ℕ
lines_of results = lines_by (line_of results)

-- ---- the whole text

-- a result buffer for the most units that a sheet has, filled with zeros
unfoldable pub empty_results : List ℕ
empty_results = replicate (result_size * most_units) 0

-- the tally sheet as it is printed; its results have all that stands in a line
abbrev pub tally_sheet : SheetKind
tally_sheet = record { outcome = outcome; buffer = empty_results; line = λ sheet. line_of }

-- for an input of any length
abbrev pub printed : List ℕ → List ℕ
printed = printed_as tally_sheet

-- the caller's text as it is left
abbrev pub printing : List ℕ → List ℕ → Printing
printing input text = leaving (printed input) text

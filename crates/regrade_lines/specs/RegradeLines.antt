-- What is printed for a sheet that is graded again under a second plan, as bytes in ASCII: the lines of the printing program, or the refusal.
use Rattle.std.specs.Prelude.{ℕ, List}
use Rattle.text.specs.Text.{SheetKind, printed_as, Printing, leaving}
use Rattle.lines.specs.Lines.{line_of, empty_results}
use Rattle.regrade.specs.Outcome.{regrade_outcome}

-- a recorded sheet for this second plan, as it is printed
abbrev pub sheet_for : List ℕ → SheetKind
sheet_for plan = record { outcome = λ sheet. regrade_outcome sheet plan; buffer = empty_results; line = λ sheet. line_of }

-- for a sheet and a second plan of any length; number 15 is about the sheet alone
abbrev pub regrade_printed : List ℕ → List ℕ → List ℕ
regrade_printed sheet plan = printed_as (sheet_for plan) sheet

-- the caller's text as it is left
abbrev pub regrade_printing : List ℕ → List ℕ → List ℕ → Printing
regrade_printing sheet plan text = leaving (regrade_printed sheet plan) text

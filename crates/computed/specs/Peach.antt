-- P10 as printed: the seven lines of the peach sheet of paper 01 ("The printing program"); and P1 to P10 as a single group.
use Rattle.std.specs.Prelude.{ℕ, ◌≡◌, List, ◌++◌}
use Rattle.computed.specs.WorkedCases.{WorkedCases, peach, peach_results}
use Rattle.text.specs.Ascii.{ascii}
use Rattle.lines.specs.Lines.{lines_of, printed}

-- the seven lines as the paper has them
unfoldable pub peach_lines : List ℕ
peach_lines =
    ascii "1 1 A A m A 0.0 0.0 0.0 2.0\n"
    ++ ascii "2 2 B B f A 0.0 0.5 1.0 4.0\n"
    ++ ascii "3 3 B B f A 0.0 0.0 1.0 4.0\n"
    ++ ascii "4 4 A A r B 0.0 0.0 0.0 0.0\n"
    ++ ascii "5 5 A B r B 0.0 0.0 0.0 0.0\n"
    ++ ascii "6 5 B B u B 0.0 0.0 0.0 0.0\n"
    ++ ascii "7 7 B B m A 0.5 0.0 0.0 0.0\n"

-- the lines of the seven records, and what is printed for the sheet
pub record PeachPrinted : Type 0 where
  pub records_lines : lines_of peach_results 7 ≡ peach_lines
  pub sheet_lines : printed peach ≡ peach_lines

-- P1 to P10 as a single group: the worked cases over the rules and over bytes, and the printed lines of P10
pub record SmallSheets : Type 0 where
  pub worked : WorkedCases
  pub printed_lines : PeachPrinted

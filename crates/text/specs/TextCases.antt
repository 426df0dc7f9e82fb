-- What is printed for any input, said a second time in the words of paper 01 ("The printing program"), for sheets of any kind.
use Rattle.std.specs.Prelude.{ℕ, ◌<◌, ◌≤◌, ◌≡◌, List, ◌++◌, length}
use Rattle.outcome.specs.Outcome.{refusal}
use Rattle.text.specs.Ascii.{ascii}
use Rattle.text.specs.Text.{decimal, lines_by, text_by, SheetKind}

pub record TextCases (kind : SheetKind) (printed : List ℕ → List ℕ) : Type 0 where
  -- "Input above 65,536 bytes is number 15, offset 65536, before all else."
  pub too_much : (input : List ℕ) → 65536 < length input → printed input ≡ ascii "refused 15 65536\n"
  -- for any other input it is what its outcome says
  pub any_other : (input : List ℕ) → length input ≤ 65536
      → printed input ≡ text_by (kind.outcome input kind.buffer).answer (kind.line input (kind.outcome input kind.buffer).buffer)
  -- "A refused sheet prints only "refused", number and offset."
  pub refused : (input : List ℕ) (number offset : ℕ) → length input ≤ 65536 → 0 < number
      → kind.outcome input kind.buffer ≡ refusal number offset kind.buffer
      → printed input ≡ ascii "refused " ++ decimal number ++ ascii " " ++ decimal offset ++ ascii "\n"
  -- an accepted one "a line a unit, no header"
  pub accepted : (input results : List ℕ) (units offset : ℕ) → length input ≤ 65536
      → kind.outcome input kind.buffer ≡ record { answer = record { number = 0; units = units; offset = offset }; buffer = results }
      → printed input ≡ lines_by (kind.line input results) units

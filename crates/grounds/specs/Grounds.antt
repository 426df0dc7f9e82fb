-- A table of grounds, for sheets of every kind, and which of its rows is returned: a row is told by what stands in the bytes, and the
-- first row met by its place. Nothing here computes a refusal.
use Rattle.std.specs.Prelude.{ℕ, ◌<◌, ◌≡◌, List, ◌⊎◌}
use Rattle.outcome.specs.declared.Answer.{Answer}
use Rattle.units.specs.Conditions.{place_of}

-- ---- the table

pub record Grounds : Type 1 where
  -- the numbers from the first row of the table to its last
  pub rows : List ℕ
  -- a row of the opening applies, one of record i, and one behind the records, each by its number: of the result buffer, and of what is looked
  -- at between the two
  pub OpeningRow : ℕ → Type 0
  pub RecordRow : ℕ → ℕ → Type 0
  pub LastRow : ℕ → Type 0
  -- where record i stands, and where the sheet ends
  pub offset : ℕ → ℕ
  pub end : ℕ

-- a ground applies, by its number and its place: 0 for the opening, a record's mark, the sheet's length for what is looked at behind the
-- records
pub data Ground (grounds : Grounds) : ℕ → ℕ → Type 0 where
  of_opening : {number : ℕ} → grounds.OpeningRow number → Ground grounds number 0
  of_record : {number : ℕ} (i : ℕ) → grounds.offset i < grounds.end → grounds.RecordRow i number → Ground grounds number (grounds.offset i)
  of_last : {number : ℕ} → grounds.LastRow number → Ground grounds number grounds.end

-- ---- the order

-- how many rows stand above that of a number
unfoldable pub rows_above : List ℕ → ℕ → ℕ
unfolding place_of
rows_above rows number = place_of rows number

-- "records are checked left to right, each wholly before the next": the earlier of two grounds has the smaller offset, or at the same
-- place the upper row. The opening comes before the records, and the last rows behind them
abbrev pub Earlier : List ℕ → ℕ → ℕ → ℕ → ℕ → Type 0
Earlier rows number' at' number at = (at' < at) ⊎ ((at' ≡ at) × (rows_above rows number' < rows_above rows number))

-- "the first row met": it applies, and none earlier does
pub record FirstRowMet (grounds : Grounds) (number at : ℕ) : Type 0 where
  pub applies : Ground grounds number at
  pub none_earlier : (number' at' : ℕ) → Earlier grounds.rows number' at' number at → Ground grounds number' at' → ⊥

-- ---- the statement: of an answer, and of what is whole where a sheet is accepted with so many units

pub record RefusedByGround (grounds : Grounds) (Whole : ℕ → Type 0) (answer : Answer) : Type 0 where
  -- a refusal has a ground: the first row met, with its number and offset
  pub refused : (answer.number ≡ 0 → ⊥) → FirstRowMet grounds answer.number answer.offset
  -- an acceptance has none: a sheet is refused exactly if a ground applies
  pub accepted : answer.number ≡ 0 → (number at : ℕ) → Ground grounds number at → ⊥
  pub accepted_whole : answer.number ≡ 0 → Whole answer.units
  -- "the first row met is returned", whichever it is
  pub returned : (number at : ℕ) → FirstRowMet grounds number at → (answer.number ≡ number) × (answer.offset ≡ at)

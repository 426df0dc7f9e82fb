-- The best lower grade, told by what it is and not by how it is found.
use Rattle.std.specs.Prelude.{ℕ, ◌+◌, ◌<◌, ◌≤◌, List, length}
use Rattle.units.specs.Words.{substandard, classes, Table, numbers_of, count_tenths}

-- a grade admits the counts: its T+L is not exceeded by ten times the count in any class
abbrev pub Admits : Table → ℕ → List ℕ → Type 0
Admits table grade tenths =
    (class : ℕ) → class < length classes → count_tenths tenths class ≤ (numbers_of table grade class).tolerance + (numbers_of table grade class).limit

-- a grade is the best that is lower than another and admits the counts; it is Substandard exactly if no lower grade admits them
pub record BestLower (table : Table) (grade : ℕ) (tenths : List ℕ) (best : ℕ) : Type 0 where
  pub lower : grade < best
  pub grade_or_none : best ≤ substandard
  pub admits : best < substandard → Admits table best tenths
  pub none_better : (better : ℕ) → grade < better → better < best → Admits table better tenths → ⊥

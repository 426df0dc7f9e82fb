-- The grounds on which a lot is refused, by what stands in the bytes, and which of them is returned. Nothing here computes a refusal.
use Rattle.std.specs.Prelude.{ℕ, ◌<◌, ◌≡◌, List, [], ◌∷◌, ◌⊎◌, length}
use Rattle.grounds.specs.Grounds.{rows_above}
use Rattle.lots.specs.Answer.{lot_answer}
use Rattle.lots.specs.declared.LotAnswer.{LotAnswer}
use Rattle.lots_demands.specs.LotFields.{mark_at, sample_units_at, aql_at, count_at, prerequisite_at}
use Rattle.lots_demands.specs.LotTable.{ListedSampleUnits, ListedAql}

-- ---- the rows of the table of grounds. On fewer than 36 bytes those behind 7 read 0 where none stands; 6 or 7 then comes first

-- 6: "under 2 bytes or a wrong mark", 4C 54
abbrev pub NoLotMark : List ℕ → Type 0
NoLotMark lot = (length lot < 2) ⊎ (mark_at lot ≡ 0x4C54 → ⊥)

-- 7: "length not 36"
abbrev pub WrongLength : List ℕ → Type 0
WrongLength lot = length lot ≡ 36 → ⊥

-- 20: "sample units not one of the four"
abbrev pub UnlistedSampleUnits : List ℕ → Type 0
UnlistedSampleUnits lot = ListedSampleUnits (sample_units_at lot) → ⊥

-- 21: "an AQL not listed"
pub record UnlistedAql (lot : List ℕ) : Type 0 where
  pub grade : ℕ
  pub class : ℕ
  pub is_grade : grade < 3
  pub is_class : class < 4
  pub unlisted : ListedAql (aql_at lot grade class) → ⊥

-- 22: "an AQL falling from A to B or B to C"
pub record FallingAql (lot : List ℕ) : Type 0 where
  pub class : ℕ
  pub is_class : class < 4
  pub falls : (aql_at lot 1 class < aql_at lot 0 class) ⊎ (aql_at lot 2 class < aql_at lot 1 class)

-- 8: a count above 2,000
pub record CountAbove (lot : List ℕ) : Type 0 where
  pub kind : ℕ
  pub is_kind : kind < 4
  pub above : 2000 < count_at lot kind

-- 9: "(prerequisite)", above 3
abbrev pub PrerequisiteAbove : List ℕ → Type 0
PrerequisiteAbove lot = 3 < prerequisite_at lot

-- ---- the table of grounds: number, condition

pub data LotRow (lot : List ℕ) : ℕ → Type 0 where
  row6 : NoLotMark lot → LotRow lot 6
  row7 : WrongLength lot → LotRow lot 7
  row20 : UnlistedSampleUnits lot → LotRow lot 20
  row21 : UnlistedAql lot → LotRow lot 21
  row22 : FallingAql lot → LotRow lot 22
  row8 : CountAbove lot → LotRow lot 8
  row9 : PrerequisiteAbove lot → LotRow lot 9

-- 20, 21 and 22 "come in that order after 6 [..] and 7 [..], and before 8 and 9"
abbrev pub lot_rows : List ℕ
lot_rows = 6 ∷ 7 ∷ 20 ∷ 21 ∷ 22 ∷ 8 ∷ 9 ∷ []

-- "the first row met": it applies, and none above it does
pub record FirstLotRow (lot : List ℕ) (number : ℕ) : Type 0 where
  pub applies : LotRow lot number
  pub none_above_holds : (other : ℕ) → rows_above lot_rows other < rows_above lot_rows number → LotRow lot other → ⊥

-- ---- the statement

pub record LotAnswered (lot : List ℕ) (answer : LotAnswer) : Type 0 where
  -- a refusal has a ground, the first row met; its grade is 3
  pub refused : (answer.number ≡ 0 → ⊥) → FirstLotRow lot answer.number
  pub refused_grade : (answer.number ≡ 0 → ⊥) → answer.grade ≡ 3
  -- an acceptance has none: a lot is refused exactly if a ground applies
  pub accepted : answer.number ≡ 0 → (number : ℕ) → LotRow lot number → ⊥
  -- "the first row met is returned", whichever it is
  pub returned : (number : ℕ) → FirstLotRow lot number → answer.number ≡ number
  -- "every offset here is 0"
  pub at_start_holds : answer.offset ≡ 0

-- for every slice, as the promises of `grade_lot` and `hatmuyon_grade_lot` say
abbrev pub LotRefusals : Type 0
LotRefusals = (lot : List ℕ) (answer : LotAnswer) → answer ≡ lot_answer lot → LotAnswered lot answer

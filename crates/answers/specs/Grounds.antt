-- Demand 2, the grounds: "no sheet is refused unless a listed ground applies". The table of paper 01, "Where a sheet is turned away",
-- said a second time: each row by what stands in the bytes; which is returned is said in `Grounds` of the crate grounds. The rows
-- take from the definitions that the code meets how many grades and classes a plan has, sizes and offsets, all of which `Bytes` gives in the
-- paper's numbers; the answer and the `outcome` are what the promise of `grade` speaks of.
use Rattle.std.specs.Prelude.{ℕ, ◌+◌, ◌*◌, ◌≤◌, ◌<◌, ◌≡◌, List, [], ◌∷◌, ◌⊎◌, length}
use Rattle.encoding.specs.Bytes.{byte, number}
use Rattle.units.specs.Words.{planned_grades, classes}
use Rattle.layout.specs.Layout.{grade_offset, table_offset, tolerance_offset, limit_offset, plan_numbers_size, plan_size, kinds, count_offset, prerequisite_offset, recoverable_offset, unit_size, redesignation_size, offset, units_before}
use Rattle.grounds.specs.Grounds.{Grounds, RefusedByGround}
use Rattle.results.specs.Record.{result_size}
use Rattle.outcome.specs.declared.Answer.{Answer}
use Rattle.outcome.specs.Outcome.{Outcome}
use Rattle.tally.specs.Outcome.{outcome}

-- ---- the plan

-- where S, T and L of a class in the plan of a grade stand
abbrev pub numbers_offset : ℕ → ℕ → ℕ
numbers_offset grade class = table_offset + plan_numbers_size * (length classes * grade + class)

-- S of a class in the plan of a grade, as it stands in the bytes
abbrev pub start_in : List ℕ → ℕ → ℕ → ℕ
start_in bytes grade class = number bytes (numbers_offset grade class)

-- T, behind it
abbrev pub tolerance_in : List ℕ → ℕ → ℕ → ℕ
tolerance_in bytes grade class = number bytes (numbers_offset grade class + tolerance_offset)

-- L, behind that
abbrev pub limit_in : List ℕ → ℕ → ℕ → ℕ
limit_in bytes grade class = number bytes (numbers_offset grade class + limit_offset)

-- somewhere in the plan's table, at a grade and a class
pub record InTable (Condition : ℕ → ℕ → Type 0) : Type 0 where
  pub grade : ℕ
  pub class : ℕ
  pub a_grade : grade < length planned_grades
  pub a_class : class < length classes
  pub holds : Condition grade class

-- 1: "shorter than 75 bytes, or first mark not 50 4C"
abbrev pub NoPlanRecord : List ℕ → Type 0
NoPlanRecord bytes = (length bytes < plan_size) ⊎ (number bytes 0 ≡ 0x504C → ⊥)

-- 2: "designated grade above 2"
abbrev pub DesignatedAbove : List ℕ → Type 0
DesignatedAbove bytes = 2 < byte bytes grade_offset

-- 3: "an S, T or L above 9,999"
abbrev pub NumberAbove : List ℕ → Type 0
NumberAbove bytes =
    InTable (λ grade class.
    (9999 < start_in bytes grade class) ⊎ ((9999 < tolerance_in bytes grade class) ⊎ (9999 < limit_in bytes grade class)))

-- 4: "an S above its L"
abbrev pub StartAboveLimit : List ℕ → Type 0
StartAboveLimit bytes = InTable (λ grade class. limit_in bytes grade class < start_in bytes grade class)

-- T or T+L of a class smaller at a lower grade than at a better one
abbrev pub SmallerAt : List ℕ → ℕ → ℕ → ℕ → Type 0
SmallerAt bytes class lower better =
    (tolerance_in bytes lower class < tolerance_in bytes better class)
    ⊎ (tolerance_in bytes lower class + limit_in bytes lower class < tolerance_in bytes better class + limit_in bytes better class)

-- 5: "in a class, T or T+L smaller at B than at A, or at C than at B"
pub record SmallerLower (bytes : List ℕ) : Type 0 where
  pub class : ℕ
  pub a_class : class < length classes
  pub smaller : SmallerAt bytes class 1 0 ⊎ SmallerAt bytes class 2 1

-- ---- record i, at `offset bytes i`

-- a sample unit, 53 55
abbrev pub IsUnit : List ℕ → ℕ → Type 0
IsUnit bytes i = number bytes (offset bytes i) ≡ 0x5355

-- a redesignation, 52 44
abbrev pub IsRedesignation : List ℕ → ℕ → Type 0
IsRedesignation bytes i = number bytes (offset bytes i) ≡ 0x5244

-- a break in production, 42 4B
abbrev pub IsBreak : List ℕ → ℕ → Type 0
IsBreak bytes i = number bytes (offset bytes i) ≡ 0x424B

-- the new grade of a redesignation
abbrev pub new_grade : List ℕ → ℕ → ℕ
new_grade bytes i = byte bytes (offset bytes i + grade_offset)

-- 6: "one byte left, or a mark not of a unit, redesignation or break"
abbrev pub MarkUnknown : List ℕ → ℕ → Type 0
MarkUnknown bytes i =
    (length bytes ≡ offset bytes i + 1) ⊎ ((IsUnit bytes i → ⊥) × (IsRedesignation bytes i → ⊥) × (IsBreak bytes i → ⊥))

-- 7: "record cut short" (a break is no longer than its mark)
abbrev pub CutShort : List ℕ → ℕ → Type 0
CutShort bytes i =
    (IsUnit bytes i × (length bytes < offset bytes i + unit_size))
    ⊎ (IsRedesignation bytes i × (length bytes < offset bytes i + redesignation_size))

-- 12: "a unit after the 1,000th"
abbrev pub UnitTooMany : List ℕ → ℕ → Type 0
UnitTooMany bytes i = IsUnit bytes i × (1000 ≤ units_before bytes i)

-- 8: "a count above 2,000"
pub record CountAbove (bytes : List ℕ) (i : ℕ) : Type 0 where
  pub is_unit : IsUnit bytes i
  pub kind : ℕ
  pub a_kind : kind < kinds
  pub above : 2000 < number bytes (offset bytes i + count_offset kind)

-- 9: "prerequisite above 3 or recoverable above 1"
abbrev pub FieldAbove : List ℕ → ℕ → Type 0
FieldAbove bytes i =
    IsUnit bytes i
    × ((3 < byte bytes (offset bytes i + prerequisite_offset)) ⊎ (1 < byte bytes (offset bytes i + recoverable_offset)))

-- 10: "new grade above 2"
abbrev pub NewGradeAbove : List ℕ → ℕ → Type 0
NewGradeAbove bytes i = IsRedesignation bytes i × (2 < new_grade bytes i)

-- a grade is the one designated just before record i: the new grade of the latest redesignation before it, or that of the plan if
-- there is none
pub data DesignatedJustBefore (bytes : List ℕ) (i : ℕ) : ℕ → Type 0 where
  by_the_plan : ((j : ℕ) → j < i → IsRedesignation bytes j → ⊥) → DesignatedJustBefore bytes i (byte bytes grade_offset)
  by_a_redesignation : (j : ℕ) → j < i → IsRedesignation bytes j → ((k : ℕ) → j < k → k < i → IsRedesignation bytes k → ⊥)
      → DesignatedJustBefore bytes i (new_grade bytes j)

-- 11: "new grade equals the one designated just before this record"
abbrev pub NewGradeSame : List ℕ → ℕ → Type 0
NewGradeSame bytes i = IsRedesignation bytes i × DesignatedJustBefore bytes i (new_grade bytes i)

-- ---- the result buffer

-- the sheet is filled by so many records
abbrev pub FilledBy : List ℕ → ℕ → Type 0
FilledBy bytes records = offset bytes records ≡ length bytes

-- 13: shorter than 32 times the units ("Number 13 counts 32 bytes a unit")
pub record BufferShort (bytes buffer : List ℕ) : Type 0 where
  pub records : ℕ
  pub filled : FilledBy bytes records
  pub short : length buffer < result_size * units_before bytes records

-- ---- the table: place, number, condition

pub data PlanRow (bytes : List ℕ) : ℕ → Type 0 where
  row1 : NoPlanRecord bytes → PlanRow bytes 1
  row2 : DesignatedAbove bytes → PlanRow bytes 2
  row3 : NumberAbove bytes → PlanRow bytes 3
  row4 : StartAboveLimit bytes → PlanRow bytes 4
  row5 : SmallerLower bytes → PlanRow bytes 5

pub data RecordRow (bytes : List ℕ) (i : ℕ) : ℕ → Type 0 where
  row6 : MarkUnknown bytes i → RecordRow bytes i 6
  row7 : CutShort bytes i → RecordRow bytes i 7
  row12 : UnitTooMany bytes i → RecordRow bytes i 12
  row8 : CountAbove bytes i → RecordRow bytes i 8
  row9 : FieldAbove bytes i → RecordRow bytes i 9
  row10 : NewGradeAbove bytes i → RecordRow bytes i 10
  row11 : NewGradeSame bytes i → RecordRow bytes i 11

pub data BufferRow (bytes buffer : List ℕ) : ℕ → Type 0 where
  row13 : BufferShort bytes buffer → BufferRow bytes buffer 13

-- the numbers from the first row of the table to its last, for gradings and regradings; 18, between the records and the result buffer, is a
-- row of regradings alone. "Number 14 is not used again."
abbrev pub rows : List ℕ
rows = 1 ∷ 2 ∷ 3 ∷ 4 ∷ 5 ∷ 6 ∷ 7 ∷ 12 ∷ 8 ∷ 9 ∷ 10 ∷ 11 ∷ 18 ∷ 13 ∷ []

-- the plan opens the sheet
abbrev pub sheet_grounds : List ℕ → List ℕ → Grounds
sheet_grounds bytes buffer =
    record {
      rows = rows;
      OpeningRow = PlanRow bytes;
      RecordRow = RecordRow bytes;
      LastRow = BufferRow bytes buffer;
      offset = offset bytes;
      end = length bytes;
    }

-- ---- the statement

-- records fill the sheet to its end, and the units counted are those among them
pub record WholeSheet (bytes : List ℕ) (units : ℕ) : Type 0 where
  pub records : ℕ
  pub filled : FilledBy bytes records
  pub counted : units ≡ units_before bytes records

-- for every sheet and every buffer, as the promise of `grade` says
abbrev pub Demand2Grounds : Type 0
Demand2Grounds =
    (bytes buffer : List ℕ) (answer : Answer) (results : List ℕ)
    → ◌≡◌ {A = Outcome} (record { answer = answer; buffer = results }) (outcome bytes buffer)
    → RefusedByGround (sheet_grounds bytes buffer) (WholeSheet bytes) answer

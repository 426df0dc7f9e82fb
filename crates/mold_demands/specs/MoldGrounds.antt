-- The grounds on which a mold sheet is refused, by what stands in the bytes; which is returned is said in `Grounds` of the crate grounds.
use Rattle.std.specs.Prelude.{ℕ, ◌+◌, ◌*◌, ◌≤◌, ◌<◌, ◌≡◌, List, [], ◌∷◌, ◌⊎◌, length}
use Rattle.outcome.specs.declared.Answer.{Answer}
use Rattle.outcome.specs.Outcome.{Outcome}
use Rattle.encoding.specs.Bytes.{byte, number}
use Rattle.grounds.specs.Grounds.{Grounds, RefusedByGround}
use Rattle.mold.specs.Layout.{opening_size, unit_size, fields_offset, level_row, offset}
use Rattle.mold.specs.Results.{result_size}
use Rattle.mold.specs.Outcome.{mold_outcome}

-- ---- the opening

-- 1: "under 3 bytes or a wrong mark"
abbrev pub NoOpening : List ℕ → Type 0
NoOpening bytes = (length bytes < opening_size) ⊎ (number bytes 0 ≡ 0x4D44 → ⊥)

-- 16: "level row above 5"
abbrev pub LevelAbove : List ℕ → Type 0
LevelAbove bytes = 5 < level_row bytes

-- ---- record i, at `offset i`: behind i units

-- a unit, 4D 55
abbrev pub IsMoldUnit : List ℕ → ℕ → Type 0
IsMoldUnit bytes i = number bytes (offset i) ≡ 0x4D55

-- 6: one byte left, or "any mark but 4D 55"
abbrev pub NoUnitMark : List ℕ → ℕ → Type 0
NoUnitMark bytes i = (length bytes ≡ offset i + 1) ⊎ (IsMoldUnit bytes i → ⊥)

-- 7: "record cut short"
abbrev pub UnitCutShort : List ℕ → ℕ → Type 0
UnitCutShort bytes i = IsMoldUnit bytes i × (length bytes < offset i + unit_size)

-- 12: "a unit after the 1,000th"
abbrev pub MoldUnitTooMany : List ℕ → ℕ → Type 0
MoldUnitTooMany bytes i = IsMoldUnit bytes i × (1000 ≤ i)

-- 17: "positive fields above 25"
abbrev pub FieldsAbove : List ℕ → ℕ → Type 0
FieldsAbove bytes i = IsMoldUnit bytes i × (25 < byte bytes (offset i + fields_offset))

-- ---- the result buffer

-- the sheet is filled by so many units
abbrev pub FilledByUnits : List ℕ → ℕ → Type 0
FilledByUnits bytes units = offset units ≡ length bytes

-- 13, "with 5 bytes a unit"
pub record MoldBufferShort (bytes buffer : List ℕ) : Type 0 where
  pub units : ℕ
  pub filled : FilledByUnits bytes units
  pub short : length buffer < result_size * units

-- ---- the table: place, number, condition

pub data MoldOpeningRow (bytes : List ℕ) : ℕ → Type 0 where
  row1 : NoOpening bytes → MoldOpeningRow bytes 1
  row16 : LevelAbove bytes → MoldOpeningRow bytes 16

pub data MoldRecordRow (bytes : List ℕ) (i : ℕ) : ℕ → Type 0 where
  row6 : NoUnitMark bytes i → MoldRecordRow bytes i 6
  row7 : UnitCutShort bytes i → MoldRecordRow bytes i 7
  row12 : MoldUnitTooMany bytes i → MoldRecordRow bytes i 12
  row17 : FieldsAbove bytes i → MoldRecordRow bytes i 17

pub data MoldBufferRow (bytes buffer : List ℕ) : ℕ → Type 0 where
  row13 : MoldBufferShort bytes buffer → MoldBufferRow bytes buffer 13

-- the numbers from the first row of the table to its last
abbrev pub mold_rows : List ℕ
mold_rows = 1 ∷ 16 ∷ 6 ∷ 7 ∷ 12 ∷ 17 ∷ 13 ∷ []

abbrev pub mold_grounds : List ℕ → List ℕ → Grounds
mold_grounds bytes buffer =
    record {
      rows = mold_rows;
      OpeningRow = MoldOpeningRow bytes;
      RecordRow = MoldRecordRow bytes;
      LastRow = MoldBufferRow bytes buffer;
      offset = offset;
      end = length bytes;
    }

-- ---- the statement

-- so many units fill the sheet to its end, each with its mark
pub record WholeMoldSheet (bytes : List ℕ) (units : ℕ) : Type 0 where
  pub filled : FilledByUnits bytes units
  pub all_units : (i : ℕ) → i < units → IsMoldUnit bytes i

-- for every sheet and every buffer, as the promise of `grade_mold` says
abbrev pub MoldRefusals : Type 0
MoldRefusals =
    (bytes buffer : List ℕ) (answer : Answer) (results : List ℕ)
    → ◌≡◌ {A = Outcome} (record { answer = answer; buffer = results }) (mold_outcome bytes buffer)
    → RefusedByGround (mold_grounds bytes buffer) (WholeMoldSheet bytes) answer

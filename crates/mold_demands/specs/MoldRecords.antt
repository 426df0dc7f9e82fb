-- Demand 2 for mold sheets: an accepted sheet gets, unit by unit, exactly the CuSums of rule 2, and whether each unit meets. The course of
-- the CuSums is told from the sheet, and then that it is what is recorded.
use Rattle.std.specs.Prelude.{ℕ, suc, ◌+◌, ◌*◌, ◌≤◌, ◌<◌, ◌≡◌, List}
use Rattle.outcome.specs.declared.Answer.{Answer}
use Rattle.encoding.specs.Bytes.{byte}
use Rattle.grounds.specs.Tells.{Tells}
use Rattle.mold.specs.Layout.{fields_offset, offset}
use Rattle.mold.specs.Grading.{numbers_of, fails_at}
use Rattle.mold.specs.Results.{mark_in, met_in, cusum_in}
use Rattle.mold.specs.Outcome.{MoldAcceptedAs}

-- ten times the positive fields of unit i
abbrev pub ten_fields : List ℕ → ℕ → ℕ
ten_fields bytes i = 10 * byte bytes (offset i + fields_offset)

module _ (bytes : List ℕ) where
  -- the raw value of unit i is above L, from an old CuSum: old CuSum + ten times the positive fields - T
  abbrev pub RawAboveLimit : ℕ → ℕ → Type 0
  RawAboveLimit old i = (numbers_of bytes).tolerance + (numbers_of bytes).limit < old + ten_fields bytes i

  -- "The CuSum step is the old one": the CuSum before each unit, from the opening on
  pub record MoldCourse (cusum : ℕ → ℕ) : Type 0 where
    -- rule 1: it begins at S
    pub opening : cusum 0 ≡ (numbers_of bytes).start
    -- rule 2: if the raw value is above L, the CuSum becomes L
    pub above : (i : ℕ) → RawAboveLimit (cusum i) i → cusum (suc i) ≡ (numbers_of bytes).limit
    -- if it is below zero, 0
    pub below : (i : ℕ) → cusum i + ten_fields bytes i < (numbers_of bytes).tolerance → cusum (suc i) ≡ 0
    -- otherwise it is the CuSum
    pub between : (i : ℕ) → (numbers_of bytes).tolerance ≤ cusum i + ten_fields bytes i → (RawAboveLimit (cusum i) i → ⊥)
        → (numbers_of bytes).tolerance + cusum (suc i) ≡ cusum i + ten_fields bytes i

-- "The result is mark 4D 52, 1 for met or 0"; "A unit meets or fails"; the CuSum that the unit makes is the one before the next
pub record MoldRecorded (bytes results : List ℕ) (cusum : ℕ → ℕ) (i : ℕ) : Type 0 where
  pub mark : mark_in results i ≡ 0x4D52
  pub failed : RawAboveLimit bytes (cusum i) i → met_in results i ≡ 0
  pub met : (RawAboveLimit bytes (cusum i) i → ⊥) → met_in results i ≡ 1
  pub cusum_recorded : cusum_in results i ≡ cusum (suc i)

-- of an accepted sheet and the result buffer as it is left
pub record MoldGradedByRules (bytes results : List ℕ) (units : ℕ) : Type 0 where
  pub cusum : ℕ → ℕ
  pub rules : MoldCourse bytes cusum
  -- every other course that follows the rules is the same
  pub only_course : (other : ℕ → ℕ) → MoldCourse bytes other → (i : ℕ) → other i ≡ cusum i
  pub recorded : (i : ℕ) → i < units → MoldRecorded bytes results cusum i
  -- a word of demand 3: a unit fails, told from the sheet, exactly if its raw value is above L
  pub fails : (i : ℕ) → Tells (fails_at bytes i) (RawAboveLimit bytes (cusum i) i)

-- for every accepted mold sheet
abbrev pub MoldGraded : Type 0
MoldGraded =
    (bytes buffer : List ℕ) (answer : Answer) (results : List ℕ) → MoldAcceptedAs bytes buffer answer results
    → MoldGradedByRules bytes results answer.units

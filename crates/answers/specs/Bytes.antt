-- The layout in the papers' own numbers: "The tally sheet in bytes" of paper 01 and A.1 of paper 02, sentence by sentence, in literals.
-- The other statements call sizes, offsets and fields by the names that definitions and code use, too; a number that is wrong in both
-- alike is refused here.
use Rattle.std.specs.Prelude.{ℕ, suc, ◌+◌, ◌*◌, ◌≡◌, List, length}
use Rattle.encoding.specs.Bytes.{byte, number}
use Rattle.units.specs.Words.{planned_grades, classes}
use Rattle.layout.specs.Layout.{mark_size, grade_offset, plan_size, code_offset, counts_offset, kinds, count_offset, prerequisite_offset, recoverable_offset, unit_size, redesignation_size, offset, units_before}
use Rattle.results.specs.Record.{result_size, mark_in, code_in, portion_grade_in, code_grade_in, plan_grade_in, standing_in, cusum_in, overshoot_in}
use Rattle.answers.specs.Grounds.{start_in, tolerance_in, limit_in}

-- how long each record is, and how many of each there are
pub record Sizes : Type 0 where
  -- "Plan, 50 4C, 75 bytes"
  pub plan : plan_size ≡ 75
  -- "Sample unit, 53 55, 14 bytes"
  pub unit : unit_size ≡ 14
  -- "Redesignation, 52 44, 3 bytes"
  pub redesignation : redesignation_size ≡ 3
  -- "Break in production, 42 4B, 2 bytes": its mark alone
  pub break_in_production : mark_size ≡ 2
  -- "Result, 47 52"; "The result record grows from 16 to 32 bytes"
  pub result : result_size ≡ 32
  -- "a table of three grades by four classes"
  pub three_grades : length planned_grades ≡ 3
  pub four_classes : length classes ≡ 4
  -- "counts of critical, severe, major, minor"
  pub four_kinds : kinds ≡ 4

-- where the fields of plan, sample unit and redesignation stand, from the mark on
pub record Fields : Type 0 where
  -- plan: "designated grade (1 byte)"; redesignation: "new designated grade (1)"
  pub grade_behind_mark : grade_offset ≡ 2
  -- "then for grades A, B, C, within each the four classes, within each S, T, L (2 bytes each, tenths)"
  pub start : (bytes : List ℕ) (grade class : ℕ) → start_in bytes grade class ≡ number bytes (3 + 24 * grade + 6 * class)
  pub tolerance : (bytes : List ℕ) (grade class : ℕ) → tolerance_in bytes grade class ≡ number bytes (3 + 24 * grade + 6 * class + 2)
  pub limit : (bytes : List ℕ) (grade class : ℕ) → limit_in bytes grade class ≡ number bytes (3 + 24 * grade + 6 * class + 4)
  -- "production code (2)"
  pub code : code_offset ≡ 2
  -- "counts of critical, severe, major, minor (2 each)"
  pub counts : counts_offset ≡ 4
  pub critical : count_offset 0 ≡ 4
  pub severe : count_offset 1 ≡ 6
  pub major : count_offset 2 ≡ 8
  pub minor : count_offset 3 ≡ 10
  -- "prerequisite grade (1, from 0 to 3), recoverable (1: 1 if the portion is separately coded and within reach, else 0)"
  pub prerequisite : prerequisite_offset ≡ 12
  pub recoverable : recoverable_offset ≡ 13

-- where the records of a sheet stand, and how many units before each: the first stands behind the plan, each other behind the one before
-- it. "Every record opens with a two-byte mark"
pub record Records (bytes : List ℕ) : Type 0 where
  pub first : offset bytes 0 ≡ 75
  pub no_unit_yet : units_before bytes 0 ≡ 0
  pub behind_unit : (i : ℕ) → number bytes (offset bytes i) ≡ 0x5355
      → (offset bytes (suc i) ≡ offset bytes i + 14) × (units_before bytes (suc i) ≡ units_before bytes i + 1)
  pub behind_redesignation : (i : ℕ) → number bytes (offset bytes i) ≡ 0x5244
      → (offset bytes (suc i) ≡ offset bytes i + 3) × (units_before bytes (suc i) ≡ units_before bytes i)
  pub behind_break : (i : ℕ) → number bytes (offset bytes i) ≡ 0x424B
      → (offset bytes (suc i) ≡ offset bytes i + 2) × (units_before bytes (suc i) ≡ units_before bytes i)

-- where the result of unit j stands, from 0 on: "each result record is written into the rest of the buffer after those before it"
pub record Results (results : List ℕ) (j : ℕ) : Type 0 where
  pub mark : mark_in results j ≡ number results (32 * j)
  -- "code (2), portion grade (1), code grade (1), grade of the plan in force for this unit (1, or 3 if none), standing (1)"
  pub code : code_in results j ≡ number results (32 * j + 2)
  pub portion_grade_holds : portion_grade_in results j ≡ byte results (32 * j + 4)
  pub code_grade_holds : code_grade_in results j ≡ byte results (32 * j + 5)
  pub plan_grade_holds : plan_grade_in results j ≡ byte results (32 * j + 6)
  pub standing : standing_in results j ≡ byte results (32 * j + 7)
  -- "four CuSums (2 each, tenths)"
  pub cusums : (class : ℕ) → cusum_in results j class ≡ number results (32 * j + 8 + 2 * class)
  -- "after the CuSums come four overshoots in tenths, four bytes each, high byte first"
  pub overshoots : (class : ℕ) → overshoot_in results j class
      ≡ 16777216 * byte results (32 * j + 16 + 4 * class) + 65536 * byte results (32 * j + 17 + 4 * class)
      + 256 * byte results (32 * j + 18 + 4 * class) + byte results (32 * j + 19 + 4 * class)

pub record PaperLayout : Type 0 where
  -- "Numbers of two bytes have the high byte first"
  pub high_byte_first : (bytes : List ℕ) (at : ℕ) → number bytes at ≡ 256 * byte bytes at + byte bytes (at + 1)
  pub sizes : Sizes
  pub fields : Fields
  pub records : (bytes : List ℕ) → Records bytes
  pub results : (results : List ℕ) (j : ℕ) → Results results j

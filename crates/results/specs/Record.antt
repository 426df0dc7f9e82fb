-- The result record of a unit in bytes: mark 47 52, production code (2), portion grade (1), code grade (1), grade of the plan in
-- force (1, or 3 if none), standing (1), the CuSum of each class (2 each, tenths), the overshoot of each class (4 each, tenths).
use Rattle.std.specs.Prelude.{ℕ, ◌+◌, ◌*◌, List, [], ◌∷◌, ◌++◌, length}
use Rattle.encoding.specs.Bytes.{byte, number, high, low, wide_number, bytes_of}
use Rattle.units.specs.Words.{classes, tenths_in, overshoot_for}
use Rattle.results.specs.declared.ResultRecord.{ResultRecord}

-- ---- offsets of the fields, and size of the record

abbrev pub mark_offset : ℕ
mark_offset = 0

abbrev pub code_offset : ℕ
code_offset = 2

abbrev pub portion_grade_offset : ℕ
portion_grade_offset = 4

abbrev pub code_grade_offset : ℕ
code_grade_offset = 5

abbrev pub plan_grade_offset : ℕ
plan_grade_offset = 6

abbrev pub standing_offset : ℕ
standing_offset = 7

abbrev pub cusums_offset : ℕ
cusums_offset = 8

-- bytes of a CuSum, and of an overshoot
abbrev pub cusum_width : ℕ
cusum_width = 2

abbrev pub overshoot_width : ℕ
overshoot_width = 4

abbrev pub overshoots_offset : ℕ
overshoots_offset = cusums_offset + cusum_width * length classes

abbrev pub result_size : ℕ
result_size = overshoots_offset + overshoot_width * length classes

-- ---- its bytes

-- a number of each class in so many bytes, class by class
unfoldable pub class_bytes : ℕ → (ℕ → ℕ) → List ℕ → List ℕ
class_bytes width value [] = []
class_bytes width value (class ∷ others) = bytes_of width (value class) ++ class_bytes width value others

-- a record with a code grade, which is known last of all
unfoldable pub result_bytes : ℕ → ResultRecord → List ℕ
result_bytes code_grade result =
    0x47 ∷ 0x52 ∷ high result.code ∷ low result.code
    ∷ result.portion ∷ code_grade ∷ result.plan ∷ result.standing
    ∷ (class_bytes cusum_width (tenths_in result.cusums) classes ++ class_bytes overshoot_width (overshoot_for result.overshoots) classes)

-- ---- a field of the record of unit j, read back from the result buffer

abbrev pub mark_in : List ℕ → ℕ → ℕ
mark_in results j = number results (result_size * j + mark_offset)

abbrev pub code_in : List ℕ → ℕ → ℕ
code_in results j = number results (result_size * j + code_offset)

abbrev pub portion_grade_in : List ℕ → ℕ → ℕ
portion_grade_in results j = byte results (result_size * j + portion_grade_offset)

abbrev pub code_grade_in : List ℕ → ℕ → ℕ
code_grade_in results j = byte results (result_size * j + code_grade_offset)

-- the grade of the plan in force, and the standing
abbrev pub plan_grade_in : List ℕ → ℕ → ℕ
plan_grade_in results j = byte results (result_size * j + plan_grade_offset)

abbrev pub standing_in : List ℕ → ℕ → ℕ
standing_in results j = byte results (result_size * j + standing_offset)

-- the CuSum of a class
abbrev pub cusum_in : List ℕ → ℕ → ℕ → ℕ
cusum_in results j class = number results (result_size * j + (cusums_offset + cusum_width * class))

-- and its overshoot
abbrev pub overshoot_in : List ℕ → ℕ → ℕ → ℕ
overshoot_in results j class = wide_number overshoot_width results (result_size * j + (overshoots_offset + overshoot_width * class))

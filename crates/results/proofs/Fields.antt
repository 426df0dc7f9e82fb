-- The fields of a result record, read back from its bytes. Those before the CuSums by computation; the CuSum and the overshoot of a
-- class by one induction on the list of classes, for any width: in it a class stands at its own place.
use Prim.Native.Nat.{ℕ, zero, suc, ◌+◌, ◌*◌, ◌^◌, ◌<◌}
use mathlib.Core.Path.{◌≡◌, refl, ◌∙◌, ap}
use mathlib.Core.List.{List, [], ◌∷◌, ◌++◌, append_assoc}
use native.Mathlib.Nat.{mul-zero, mul-suc}
use native.Mathlib.Omega.{arith}
use lib.ListN.{length, take, get_or}
use Rattle.encoding.specs.Bytes.{byte, number, wide_number, bytes_of}
use Rattle.encoding.proofs.Numbers.{number_behind, high_low, wide_behind, number_is_wide, length_bytes, bytes_read}
use Rattle.units.specs.Words.{classes, tenths_in, overshoot_for}
use Rattle.units.proofs.Classes.{class_at}
use Rattle.results.specs.declared.ResultRecord.{ResultRecord}
use Rattle.results.specs.Record.{result_size, mark_offset, code_offset, portion_grade_offset, code_grade_offset, plan_grade_offset, standing_offset, cusums_offset, cusum_width, overshoots_offset, overshoot_width, class_bytes, result_bytes}

-- ---- a number of each class

class_at_place : (width : ℕ) (value : ℕ → ℕ) (kept rest : List ℕ) (k : ℕ) → k < length kept → value (get_or kept k 0) < 256 ^ width
    → wide_number width (class_bytes width value kept ++ rest) (width * k) ≡ value (get_or kept k 0)
unfolding class_bytes
class_at_place width value [] rest k inside small = absurd (omega arith)
class_at_place width value (class ∷ others) rest zero inside small =
    rw (mul-zero width, append_assoc) (bytes_read width (value class) (class_bytes width value others ++ rest) small)
class_at_place width value (class ∷ others) rest (suc k) inside small =
    let behind : width * suc k ≡ length (bytes_of width (value class)) + width * k = omega (arith, mul-suc width k, length_bytes width (value class)) in
    rw (behind, append_assoc)
    (wide_behind width (bytes_of width (value class)) (class_bytes width value others ++ rest) (width * k)
    ∙ class_at_place width value others rest k (omega arith) small)

-- of a class of the list of classes
class_read : (width : ℕ) (value : ℕ → ℕ) (rest : List ℕ) (class : ℕ) → class < length classes → value class < 256 ^ width
    → wide_number width (class_bytes width value classes ++ rest) (width * class) ≡ value class
class_read width value rest class inside small =
    let own : get_or classes class 0 ≡ class = class_at class inside in
    class_at_place width value classes rest class inside (rw own small) ∙ ap value own

-- ---- the fields

module _ (code_grade : ℕ) (result : ResultRecord) where
  pub length_result : length (result_bytes code_grade result) ≡ result_size
  unfolding result_bytes class_bytes bytes_of
  length_result = refl

  module _ (rest : List ℕ) where
    pub mark_read : number (result_bytes code_grade result ++ rest) mark_offset ≡ 0x4752
    unfolding result_bytes
    mark_read = refl

    pub portion_read : byte (result_bytes code_grade result ++ rest) portion_grade_offset ≡ result.portion
    unfolding result_bytes
    portion_read = refl

    pub code_grade_read : byte (result_bytes code_grade result ++ rest) code_grade_offset ≡ code_grade
    unfolding result_bytes
    code_grade_read = refl

    pub plan_read : byte (result_bytes code_grade result ++ rest) plan_grade_offset ≡ result.plan
    unfolding result_bytes
    plan_read = refl

    pub standing_read : byte (result_bytes code_grade result ++ rest) standing_offset ≡ result.standing
    unfolding result_bytes
    standing_read = refl

    pub code_read : result.code < 65536 → number (result_bytes code_grade result ++ rest) code_offset ≡ result.code
    unfolding result_bytes
    code_read small = high_low result.code [] small

    -- the bytes before the CuSums, and those of CuSums and overshoots
    abbrev front : List ℕ
    front = take cusums_offset (result_bytes code_grade result)

    abbrev cusum_bytes : List ℕ
    cusum_bytes = class_bytes cusum_width (tenths_in result.cusums) classes

    abbrev overshoot_bytes : List ℕ
    overshoot_bytes = class_bytes overshoot_width (overshoot_for result.overshoots) classes

    pub cusum_read : (class : ℕ) → class < length classes → tenths_in result.cusums class < 65536
        → number (result_bytes code_grade result ++ rest) (cusums_offset + cusum_width * class) ≡ tenths_in result.cusums class
    unfolding result_bytes
    cusum_read class inside small =
        number_behind front ((cusum_bytes ++ overshoot_bytes) ++ rest) (cusum_width * class)
        ∙ number_is_wide ((cusum_bytes ++ overshoot_bytes) ++ rest) (cusum_width * class)
        ∙ ap (λ (bytes : List ℕ). wide_number cusum_width bytes (cusum_width * class)) (append_assoc cusum_bytes overshoot_bytes rest)
        ∙ class_read cusum_width (tenths_in result.cusums) (overshoot_bytes ++ rest) class inside small

    pub overshoot_read : (class : ℕ) → class < length classes → overshoot_for result.overshoots class < 256 ^ overshoot_width
        → wide_number overshoot_width (result_bytes code_grade result ++ rest) (overshoots_offset + overshoot_width * class)
        ≡ overshoot_for result.overshoots class
    unfolding result_bytes class_bytes bytes_of
    overshoot_read class inside small =
        wide_behind overshoot_width (front ++ cusum_bytes) (overshoot_bytes ++ rest) (overshoot_width * class)
        ∙ class_read overshoot_width (overshoot_for result.overshoots) rest class inside small

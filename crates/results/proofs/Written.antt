-- What records write, whatever is recorded of a unit: that it depends on what is recorded of the units alone, how long it is, what one
-- record more adds, where the result record of a unit stands in it and what is read there. By induction on the records.
use Prim.Native.Nat.{ℕ, zero, suc, ◌+◌, ◌*◌, ◌^◌, ◌≤◌, ◌<◌}
use mathlib.Core.Path.{◌≡◌, refl, sym, ◌∙◌, ap, ap₂}
use mathlib.Core.Logic.{◌⊎◌, inl, inr}
use mathlib.Core.List.{List, [], ◌++◌, append_assoc, append-nil}
use native.Mathlib.Nat.{eq-or-lt_of_le, le_of_suc-le-suc}
use native.Mathlib.Omega.{arith}
use lib.ListN.{length, drop, length-append}
use lib.Seq.{sets}
use Rattle.encoding.specs.Bytes.{byte, number, wide_number}
use Rattle.encoding.proofs.Numbers.{byte_behind, number_behind, wide_behind}
use Rattle.units.specs.Words.{classes, tenths_in, overshoot_for}
use Rattle.units.specs.Records.{units_of, units_among}
use Rattle.units.specs.declared.SampleUnit.{SampleUnit}
use Rattle.units.specs.declared.Entry.{Entry}
use Rattle.units.specs.declared.Entry.TheVariants.{UnitRecord, Redesignation, Break}
use Rattle.units.proofs.Records.{units_next}
use Rattle.results.specs.declared.ResultRecord.{ResultRecord}
use Rattle.results.specs.Record.{result_size, mark_offset, code_offset, portion_grade_offset, code_grade_offset, plan_grade_offset, standing_offset, cusums_offset, cusum_width, overshoots_offset, overshoot_width, result_bytes, mark_in, code_in, portion_grade_in, code_grade_in, plan_grade_in, standing_in, cusum_in, overshoot_in}
use Rattle.results.specs.Written.{bytes_by, written}
use Rattle.results.proofs.Stores.{appended}
use Rattle.results.proofs.Fields.{length_result, mark_read, portion_read, code_grade_read, plan_read, standing_read, code_read, cusum_read, overshoot_read}

-- two recordings that agree on the units among the first n records write the same
module _ (recording other : ℕ → SampleUnit → ResultRecord) (grades : ℕ → ℕ) where
  bytes_alike : (i : ℕ) (record_i : Entry) → ((unit : SampleUnit) → record_i ≡ UnitRecord unit → recording i unit ≡ other i unit)
      → bytes_by recording grades i record_i ≡ bytes_by other grades i record_i
  unfolding bytes_by
  bytes_alike i (UnitRecord unit) same = ap (result_bytes (grades unit.code)) (same unit refl)
  bytes_alike i (Redesignation new) same = refl
  bytes_alike i Break same = refl

  pub written_alike : (entry : ℕ → Entry) (n : ℕ)
      → ((i : ℕ) → i < n → (unit : SampleUnit) → entry i ≡ UnitRecord unit → recording i unit ≡ other i unit)
      → written recording grades entry n ≡ written other grades entry n
  unfolding written
  written_alike entry zero same = refl
  written_alike entry (suc n) same =
      ap₂ ◌++◌ (written_alike entry n (λ i below. same i (omega arith))) (bytes_alike n (entry n) (same n (omega arith)))

module _ (recording : ℕ → SampleUnit → ResultRecord) (grades : ℕ → ℕ) where
  length_bytes : (i : ℕ) (record_i : Entry) → length (bytes_by recording grades i record_i) ≡ result_size * units_of record_i
  unfolding bytes_by units_of
  length_bytes i (UnitRecord unit) = length_result (grades unit.code) (recording i unit)
  length_bytes i (Redesignation new) = refl
  length_bytes i Break = refl

  module _ (entry : ℕ → Entry) where
    -- a result record for each unit
    pub length_written : (n : ℕ) → length (written recording grades entry n) ≡ result_size * units_among entry n
    unfolding written units_among
    length_written zero = refl
    length_written (suc n) =
        length-append (written recording grades entry n) (bytes_by recording grades n (entry n))
        ∙ omega (arith, length_written n, length_bytes n (entry n))

    -- ---- one record more

    pub written_none : (n : ℕ) → units_of (entry n) ≡ 0 → written recording grades entry (suc n) ≡ written recording grades entry n
    unfolding written bytes_by units_of
    written_none n none = go (entry n) none
      where
        go : (last : Entry) → units_of last ≡ 0
            → written recording grades entry n ++ bytes_by recording grades n last ≡ written recording grades entry n
        go (UnitRecord unit) none = absurd (omega arith)
        go (Redesignation new) none = append-nil (written recording grades entry n)
        go Break none = append-nil (written recording grades entry n)

    module _ (n : ℕ) (unit : SampleUnit) (is_unit : entry n ≡ UnitRecord unit) where
      pub written_unit : written recording grades entry (suc n)
          ≡ written recording grades entry n ++ result_bytes (grades unit.code) (recording n unit)
      unfolding written bytes_by
      written_unit = ap (λ (last : Entry). written recording grades entry n ++ bytes_by recording grades n last) is_unit

      -- a result record of the unit stored behind what those before it wrote
      pub unit_added : (old : List ℕ) → result_size * units_among entry (suc n) ≤ length old → (code_grade : ℕ) (result : ResultRecord)
          → sets (written recording grades entry n ++ drop (result_size * units_among entry n) old) (result_size * units_among entry n)
          (result_bytes code_grade result)
          ≡ written recording grades entry n ++ (result_bytes code_grade result ++ drop (result_size * units_among entry (suc n)) old)
      unit_added old room code_grade result =
          let before = written recording grades entry n in
          let bytes = result_bytes code_grade result in
          let start : length before ≡ result_size * units_among entry n = length_written n in
          let end : length before + length bytes ≡ result_size * units_among entry (suc n) =
          omega (arith, length_written n, length_result code_grade result, units_next entry n unit is_unit) in
          rw (← start, ← end) (appended before bytes old (omega (arith, end)) ∙ append_assoc before bytes (drop (length before + length bytes) old))

    -- and its own result record: what one record more writes, and behind it the rest of what was there
    pub own_added : (n : ℕ) (unit : SampleUnit) → entry n ≡ UnitRecord unit → (old : List ℕ) → result_size * units_among entry (suc n) ≤ length old
        → sets (written recording grades entry n ++ drop (result_size * units_among entry n) old) (result_size * units_among entry n)
        (result_bytes (grades unit.code) (recording n unit))
        ≡ written recording grades entry (suc n) ++ drop (result_size * units_among entry (suc n)) old
    own_added n unit is_unit old room =
        let bytes = result_bytes (grades unit.code) (recording n unit) in
        let behind = drop (result_size * units_among entry (suc n)) old in
        unit_added n unit is_unit old room (grades unit.code) (recording n unit)
        ∙ sym (append_assoc (written recording grades entry n) bytes behind)
        ∙ sym (ap (λ (w : List ℕ). w ++ behind) (written_unit n unit is_unit))

    -- a record that is no unit adds nothing
    pub none_added : (n : ℕ) → units_of (entry n) ≡ 0 → (old : List ℕ)
        → written recording grades entry n ++ drop (result_size * units_among entry n) old
        ≡ written recording grades entry (suc n) ++ drop (result_size * units_among entry (suc n)) old
    unfolding units_among
    none_added n none old =
        let same : units_among entry n + units_of (entry n) ≡ units_among entry n = omega (arith, none) in
        ap₂ (λ (w : List ℕ) (units : ℕ). w ++ drop (result_size * units) old) (sym (written_none n none)) (sym same)

    -- ---- where each result record stands

    -- what n records write begins with what those before record i write, then what record i writes
    pub written_around : (i n : ℕ) → i < n
        → (rest : List ℕ)
        × (written recording grades entry n ≡ written recording grades entry i ++ (bytes_by recording grades i (entry i) ++ rest))
    unfolding written
    written_around i zero below = absurd (omega arith)
    written_around i (suc n) below = go (eq-or-lt_of_le (le_of_suc-le-suc below)) (written_around i n)
      where
        go : (i ≡ n) ⊎ (i < n)
            → (i < n → (rest : List ℕ)
            × (written recording grades entry n ≡ written recording grades entry i ++ (bytes_by recording grades i (entry i) ++ rest)))
            → (rest : List ℕ)
            × (written recording grades entry n ++ bytes_by recording grades n (entry n)
            ≡ written recording grades entry i ++ (bytes_by recording grades i (entry i) ++ rest))
        go (inl last) earlier = ([], rw (last, append-nil))
        go (inr before) earlier =
            let (rest, around) = earlier before in (
              rest ++ bytes_by recording grades n (entry n),
              ap (λ (bytes : List ℕ). bytes ++ bytes_by recording grades n (entry n)) around ∙ simp append_assoc,
            )

    -- ---- the result record of the unit that is record i, read back from what n records write, whatever stands behind that

    module _ (n : ℕ) (rest : List ℕ) (i : ℕ) (inside : i < n) (unit : SampleUnit) (is_unit : entry i ≡ UnitRecord unit) where
      own_record : (more : List ℕ)
          × (written recording grades entry n ++ rest
          ≡ written recording grades entry i ++ (result_bytes (grades unit.code) (recording i unit) ++ more))
      unfolding bytes_by
      own_record =
          let (more, around) = written_around i n inside in (
            more ++ rest,
            ap (λ (bytes : List ℕ). bytes ++ rest)
                (around
                ∙ ap (λ (own : Entry). written recording grades entry i ++ (bytes_by recording grades i own ++ more)) is_unit)
                ∙ simp append_assoc,
          )

      -- by any way of reading that takes no notice of bytes before it
      pub read_written : (read : List ℕ → ℕ → ℕ) → ((xs ys : List ℕ) (at : ℕ) → read (xs ++ ys) (length xs + at) ≡ read ys at)
          → (place value : ℕ) → ((more : List ℕ) → read (result_bytes (grades unit.code) (recording i unit) ++ more) place ≡ value)
          → read (written recording grades entry n ++ rest) (result_size * units_among entry i + place) ≡ value
      read_written read behind place value known =
          let (more, own) = own_record in
          ap₂ (λ (bytes : List ℕ) (start : ℕ). read bytes (start + place)) own (sym (length_written i))
          ∙ behind (written recording grades entry i) (result_bytes (grades unit.code) (recording i unit) ++ more) place
          ∙ known more

      pub mark_written : mark_in (written recording grades entry n ++ rest) (units_among entry i) ≡ 0x4752
      mark_written = read_written number number_behind mark_offset _ (mark_read (grades unit.code) (recording i unit))

      pub portion_written : portion_grade_in (written recording grades entry n ++ rest) (units_among entry i) ≡ (recording i unit).portion
      portion_written = read_written byte byte_behind portion_grade_offset _ (portion_read (grades unit.code) (recording i unit))

      pub code_grade_written : code_grade_in (written recording grades entry n ++ rest) (units_among entry i) ≡ grades unit.code
      code_grade_written = read_written byte byte_behind code_grade_offset _ (code_grade_read (grades unit.code) (recording i unit))

      pub plan_written : plan_grade_in (written recording grades entry n ++ rest) (units_among entry i) ≡ (recording i unit).plan
      plan_written = read_written byte byte_behind plan_grade_offset _ (plan_read (grades unit.code) (recording i unit))

      pub standing_written : standing_in (written recording grades entry n ++ rest) (units_among entry i) ≡ (recording i unit).standing
      standing_written = read_written byte byte_behind standing_offset _ (standing_read (grades unit.code) (recording i unit))

      pub code_written : (recording i unit).code < 65536
          → code_in (written recording grades entry n ++ rest) (units_among entry i) ≡ (recording i unit).code
      code_written small =
          read_written number number_behind code_offset _ (λ more. code_read (grades unit.code) (recording i unit) more small)

      pub cusum_written : (class : ℕ) → class < length classes → tenths_in (recording i unit).cusums class < 65536
          → cusum_in (written recording grades entry n ++ rest) (units_among entry i) class ≡ tenths_in (recording i unit).cusums class
      cusum_written class known small =
          read_written number number_behind (cusums_offset + cusum_width * class) _
          (λ more. cusum_read (grades unit.code) (recording i unit) more class known small)

      pub overshoot_written : (class : ℕ) → class < length classes → overshoot_for (recording i unit).overshoots class < 256 ^ overshoot_width
          → overshoot_in (written recording grades entry n ++ rest) (units_among entry i) class ≡ overshoot_for (recording i unit).overshoots class
      overshoot_written class known small =
          read_written (wide_number overshoot_width) (wide_behind overshoot_width) (overshoots_offset + overshoot_width * class) _
          (λ more. overshoot_read (grades unit.code) (recording i unit) more class known small)

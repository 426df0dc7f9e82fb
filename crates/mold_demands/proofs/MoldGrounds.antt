-- The grounds of mold sheets: the answer is the first row met, and acceptance is that none is. Each row is told by its test; the rows
-- behind 6 know the mark.
use Prim.Native.Nat.{ℕ, ◌+◌, ◌*◌, ◌≤◌, ◌<◌}
use mathlib.Core.Path.{◌≡◌, refl, ap, subst⁻¹}
use mathlib.Core.Bool.{Bool, true, false}
use mathlib.Core.List.{List}
use mathlib.Core.Logic.{inl, inr}
use native.Mathlib.Omega.{arith}
use lib.Dec.{ltb, leb, eqb, lit<}
use lib.ListN.{length}
use borrow.Author.Tests.{eqb-true}
use Rattle.outcome.specs.declared.Answer.{Answer}
use Rattle.outcome.specs.Outcome.{Outcome, refused_as}
use Rattle.encoding.specs.Bytes.{byte, number}
use Rattle.layout.specs.Layout.{mark_size}
use Rattle.sheet.specs.Refusals.{refused_if}
use Rattle.sheet.proofs.Grounds.{ground_passed}
use Rattle.grounds.specs.Grounds.{rows_above, RefusedByGround}
use Rattle.grounds.specs.Tells.{Tells}
use Rattle.grounds.proofs.Tells.{tells_lt, tells_le, tells_eq, tells_as, tells_not, tells_or}
use Rattle.grounds.proofs.FirstRow.{First, InRows, first_row, first_past}
use Rattle.grounds.proofs.Decided.{Computes, refused_by_check, refused_by_buffer, accepted_by}
use Rattle.mold.specs.Layout.{opening_size, unit_size, fields_offset, level_row, offset, mold_unit_at}
use Rattle.mold.specs.Refusals.{no_opening, opening_refusal, no_unit_mark, unit_refusal, record_refusal, checked}
use Rattle.mold.specs.Results.{result_size}
use Rattle.mold.proofs.Checking.{Facts, Says, checked_says}
use Rattle.mold_demands.specs.MoldGrounds.{NoOpening, LevelAbove, IsMoldUnit, NoUnitMark, WholeMoldSheet, MoldOpeningRow, row1, row16, MoldRecordRow, row6, row7, row12, row17, MoldBufferRow, row13, mold_rows, mold_grounds, MoldRefusals}
use Rattle.mold.proofs.Accepted.{Case, by_check, without_room, graded, outcome_case}

-- ---- the opening

module _ (bytes : List ℕ) where
  opening_in_rows : (n : ℕ) → MoldOpeningRow bytes n → InRows mold_rows n
  unfolding rows_above
  opening_in_rows n (row1 h) = (lit< tt, refl)
  opening_in_rows n (row16 h) = (lit< tt, refl)

  opening_rows : (n : ℕ) → MoldOpeningRow bytes n → rows_above mold_rows n < 2
  unfolding rows_above
  opening_rows n (row1 h) = omega arith
  opening_rows n (row16 h) = omega arith

  condition1 : MoldOpeningRow bytes 1 → NoOpening bytes
  condition1 (row1 h) = h

  condition16 : MoldOpeningRow bytes 16 → LevelAbove bytes
  condition16 (row16 h) = h

  opening_first : First mold_rows (MoldOpeningRow bytes) 0 (opening_refusal bytes)
  unfolding opening_refusal no_opening rows_above
  opening_first =
      first_row mold_rows opening_in_rows _ 1 _ (lit< tt, refl)
      (tells_as row1 condition1 (tells_or (tells_lt (length bytes) opening_size) (tells_not (tells_eq (number bytes 0) 0x4D44))))
      (first_row mold_rows opening_in_rows _ 16 _ (lit< tt, refl) (tells_as row16 condition16 (tells_lt 5 (level_row bytes)))
      (inl (refl, λ n behind applies. let before = opening_rows n applies in omega arith)))

-- ---- a record

module _ (bytes : List ℕ) (i : ℕ) where
  record_in_rows : (n : ℕ) → MoldRecordRow bytes i n → InRows mold_rows n
  unfolding rows_above
  record_in_rows n (row6 h) = (lit< tt, refl)
  record_in_rows n (row7 h) = (lit< tt, refl)
  record_in_rows n (row12 h) = (lit< tt, refl)
  record_in_rows n (row17 h) = (lit< tt, refl)

  record_rows : (n : ℕ) → MoldRecordRow bytes i n → (2 ≤ rows_above mold_rows n) × (rows_above mold_rows n < 6)
  unfolding rows_above
  record_rows n (row6 h) = (omega arith, omega arith)
  record_rows n (row7 h) = (omega arith, omega arith)
  record_rows n (row12 h) = (omega arith, omega arith)
  record_rows n (row17 h) = (omega arith, omega arith)

  condition7 : MoldRecordRow bytes i 7 → length bytes < offset i + unit_size
  condition7 (row7 (is_unit, h)) = h

  condition12 : MoldRecordRow bytes i 12 → 1000 ≤ i
  condition12 (row12 (is_unit, h)) = h

  condition17 : MoldRecordRow bytes i 17 → 25 < byte bytes (offset i + fields_offset)
  condition17 (row17 (is_unit, h)) = h

  module _ (inside : offset i < length bytes) where
    -- one byte left, or another mark
    tells_6 : Tells (no_unit_mark bytes (offset i)) (NoUnitMark bytes i)
    unfolding no_unit_mark
    tells_6 =
        tells_or
        (tells_as (λ short. omega arith) (λ one. omega arith) (tells_lt (length bytes) (offset i + mark_size)))
        (tells_not (tells_eq (number bytes (offset i)) 0x4D55))

    -- behind a mark
    past_6 : (NoUnitMark bytes i → ⊥) → (n : ℕ) → MoldRecordRow bytes i n → 3 ≤ rows_above mold_rows n
    unfolding rows_above
    past_6 marked n (row6 h) = absurd (marked h)
    past_6 marked n (row7 h) = omega arith
    past_6 marked n (row12 h) = omega arith
    past_6 marked n (row17 h) = omega arith

    is_unit : (NoUnitMark bytes i → ⊥) → IsMoldUnit bytes i
    is_unit marked = go (eqb (number bytes (offset i)) 0x4D55) refl
      where
        go : (same : Bool) → eqb (number bytes (offset i)) 0x4D55 ≡ same → IsMoldUnit bytes i
        go true e = eqb-true _ _ e
        go false e = absurd (marked (inr ((tells_eq (number bytes (offset i)) 0x4D55).not_so e)))

    record_first : First mold_rows (MoldRecordRow bytes i) 2 (record_refusal bytes i)
    unfolding unit_refusal refused_if mold_unit_at rows_above
    record_first = go (no_unit_mark bytes (offset i)) refl
      where
        rest : ℕ
        rest =
            refused_if (ltb (length bytes) (offset i + unit_size)) 7
            (refused_if (leb 1000 i) 12
            (refused_if (ltb 25 (byte bytes (offset i + fields_offset))) 17
            0))

        go : (test : Bool) → no_unit_mark bytes (offset i) ≡ test → First mold_rows (MoldRecordRow bytes i) 2 (refused_if test 6 rest)
        go true e = inr (row6 (tells_6.so e), λ n from above applies. omega arith)
        go false e =
            let marked = tells_6.not_so e in
            let unit = is_unit marked in
            first_past mold_rows record_in_rows 2 3 _ (λ n applies from. past_6 marked n applies)
            (first_row mold_rows record_in_rows _ 7 _ (lit< tt, refl)
            (tells_as (λ h. row7 (unit, h)) condition7 (tells_lt (length bytes) (offset i + unit_size)))
            (first_row mold_rows record_in_rows _ 12 _ (lit< tt, refl) (tells_as (λ h. row12 (unit, h)) condition12 (tells_le 1000 i))
            (first_row mold_rows record_in_rows _ 17 _ (lit< tt, refl)
            (tells_as (λ h. row17 (unit, h)) condition17 (tells_lt 25 (byte bytes (offset i + fields_offset))))
            (inl (refl, λ n behind applies. let last = (record_rows n applies).1 in omega arith)))))

-- ---- the answer

module _ (bytes buffer : List ℕ) where
  buffer_in_rows : (n : ℕ) → MoldBufferRow bytes buffer n → InRows mold_rows n
  unfolding rows_above
  buffer_in_rows n (row13 h) = (lit< tt, refl)

  buffer_rows : (n : ℕ) → MoldBufferRow bytes buffer n → 6 ≤ rows_above mold_rows n
  unfolding rows_above
  buffer_rows n (row13 h) = omega arith

  computes : Computes (mold_grounds bytes buffer) 2 6 (opening_refusal bytes) (record_refusal bytes)
  computes =
      record {
        opening_in_rows = opening_in_rows bytes;
        record_in_rows = record_in_rows bytes;
        buffer_in_rows = buffer_in_rows;
        opening_rows = λ n applies. omega (arith, opening_rows bytes n applies);
        record_rows = λ i n applies. (record_rows bytes i n applies).0;
        buffer_rows = buffer_rows;
        opening_first = opening_first bytes;
        record_first = record_first bytes;
        behind_opening = λ i. omega arith;
        in_order = λ i j before. omega arith;
        own_place = λ i j same. omega arith;
      }

  abbrev Judged : Answer → Type 0
  Judged answer = RefusedByGround (mold_grounds bytes buffer) (WholeMoldSheet bytes) answer

  by_says : (answer : Answer) → (answer.number ≡ 0 → ⊥) → Says bytes answer → Judged answer
  by_says answer other (inl (is, facts)) = absurd (other (ap (λ (given : Answer). given.number) is))
  by_says answer other (inr (refused, units, which)) = refused_by_check computes (WholeMoldSheet bytes) answer refused which

  module _ (units : ℕ) (facts : Facts bytes units) where
    passes : (j : ℕ) → j < units → record_refusal bytes j ≡ 0
    passes j before = (facts.within j before).1

    -- each record is a unit
    whole : WholeMoldSheet bytes units
    unfolding unit_refusal
    whole =
        record {
          filled = facts.end;
          all_units = λ i before.
              let (inside, passed) = facts.within i before in
              is_unit bytes i inside ((tells_6 bytes i inside).not_so (ground_passed _ 6 _ (lit< tt) passed).0);
        }

    short : length buffer < result_size * units → Judged (refused_as 13 (length bytes))
    unfolding rows_above
    short less =
        refused_by_buffer computes (WholeMoldSheet bytes) units facts.opening facts.end passes
        (refused_as 13 (length bytes)) (λ e. omega arith) refl
        (row13 (record { units = units; filled = facts.end; short = less })) (λ n applies above. omega (arith, buffer_rows n applies))

    has_room : result_size * units ≤ length buffer → (n : ℕ) → MoldBufferRow bytes buffer n → ⊥
    has_room room n (row13 h) = omega (arith, h.filled, h.short, facts.end)

  judged_case : (given : Outcome) → Case bytes buffer given → Judged given.answer
  judged_case given (by_check refused) = by_says (checked bytes) refused (checked_says bytes)
  judged_case given (without_room units facts less) = short units facts less
  judged_case given (graded units facts room) =
      accepted_by computes (WholeMoldSheet bytes) units facts.opening facts.end (passes units facts)
      given.answer refl (has_room units facts room) (whole units facts)

pub mold_refusals : MoldRefusals
mold_refusals bytes buffer answer results promise =
    subst⁻¹ (λ (given : Outcome). Judged bytes buffer given.answer) promise (judged_case bytes buffer _ (outcome_case bytes buffer))

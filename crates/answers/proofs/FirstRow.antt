-- The first row met at one place: of the plan, and of a record. Row by row; the rows that a record can be in go by its mark.
use Prim.Native.Nat.{ℕ, ◌+◌, ◌≤◌, ◌<◌}
use mathlib.Core.Path.{◌≡◌, refl}
use mathlib.Core.Bool.{Bool, true, false}
use mathlib.Core.List.{List}
use mathlib.Core.Logic.{◌⊎◌, inl, inr, ⊎_elim}
use native.Mathlib.Omega.{arith}
use lib.Dec.{ltb, lit<}
use lib.ListN.{length}
use borrow.Author.Tests.{ltb-true, ltb-false}
use Rattle.std.proofs.Common.{Option}
use Rattle.encoding.specs.Bytes.{byte, number}
use Rattle.layout.specs.Layout.{mark_size, grade_offset, kinds, count_offset, prerequisite_offset, recoverable_offset, unit_size, redesignation_size, offset, mark, units_before}
use Rattle.layout.specs.declared.Mark.{Mark}
use Rattle.sheet.specs.Refusals.{refused_if, table_refusal, plan_refusal, unit_refusal, redesignation_refusal, refusal_by, refusal_at, designated_before, record_refusal}
use Rattle.answers.specs.Grounds.{NoPlanRecord, DesignatedAbove, DesignatedJustBefore, NumberAbove, StartAboveLimit, SmallerLower, IsUnit, IsRedesignation, IsBreak, new_grade, PlanRow, row1, row2, row3, row4, row5, RecordRow, row6, row7, row8, row9, row10, row11, row12, rows}
use Rattle.grounds.specs.Grounds.{rows_above}
use Rattle.grounds.proofs.FirstRow.{First, InRows, first_row, first_past}
use Rattle.grounds.proofs.Tells.{tells_lt, tells_le, tells_as, tells_or}
use Rattle.answers.proofs.Rows.{tells_1, tells_3, tells_4, tells_5, Marked, as_unit, as_redesignation, as_break, as_none, marked, tells_8, tells_11}

-- ---- the plan

module _ (bytes : List ℕ) where
  pub plan_in_rows : (n : ℕ) → PlanRow bytes n → InRows rows n
  unfolding rows_above
  plan_in_rows n (row1 h) = (lit< tt, refl)
  plan_in_rows n (row2 h) = (lit< tt, refl)
  plan_in_rows n (row3 h) = (lit< tt, refl)
  plan_in_rows n (row4 h) = (lit< tt, refl)
  plan_in_rows n (row5 h) = (lit< tt, refl)

  pub plan_rows : (n : ℕ) → PlanRow bytes n → rows_above rows n ≤ 4
  unfolding rows_above
  plan_rows n (row1 h) = omega arith
  plan_rows n (row2 h) = omega arith
  plan_rows n (row3 h) = omega arith
  plan_rows n (row4 h) = omega arith
  plan_rows n (row5 h) = omega arith

  condition1 : PlanRow bytes 1 → NoPlanRecord bytes
  condition1 (row1 h) = h

  condition2 : PlanRow bytes 2 → DesignatedAbove bytes
  condition2 (row2 h) = h

  condition3 : PlanRow bytes 3 → NumberAbove bytes
  condition3 (row3 h) = h

  condition4 : PlanRow bytes 4 → StartAboveLimit bytes
  condition4 (row4 h) = h

  condition5 : PlanRow bytes 5 → SmallerLower bytes
  condition5 (row5 h) = h

  pub plan_first : First rows (PlanRow bytes) 0 (plan_refusal bytes)
  unfolding plan_refusal table_refusal rows_above
  plan_first =
      first_row rows plan_in_rows _ 1 _ (lit< tt, refl) (tells_as row1 condition1 (tells_1 bytes))
      (first_row rows plan_in_rows _ 2 _ (lit< tt, refl) (tells_as row2 condition2 (tells_lt 2 (byte bytes grade_offset)))
      (first_row rows plan_in_rows _ 3 _ (lit< tt, refl) (tells_as row3 condition3 (tells_3 bytes))
      (first_row rows plan_in_rows _ 4 _ (lit< tt, refl) (tells_as row4 condition4 (tells_4 bytes))
      (first_row rows plan_in_rows _ 5 _ (lit< tt, refl) (tells_as row5 condition5 (tells_5 bytes))
      (inl (refl, λ n behind applies. let before = plan_rows n applies in omega arith))))))

  -- a plan to which no row applies passes the check
  pub plan_not_refused : ((number : ℕ) → PlanRow bytes number → ⊥) → plan_refusal bytes ≡ 0
  plan_not_refused none = ⊎_elim (λ (passes, others). passes) (λ (applies, first). absurd (none (plan_refusal bytes) applies)) plan_first

-- ---- a record

module _ (bytes : List ℕ) (i : ℕ) where
  pub record_in_rows : (n : ℕ) → RecordRow bytes i n → InRows rows n
  unfolding rows_above
  record_in_rows n (row6 h) = (lit< tt, refl)
  record_in_rows n (row7 h) = (lit< tt, refl)
  record_in_rows n (row12 h) = (lit< tt, refl)
  record_in_rows n (row8 h) = (lit< tt, refl)
  record_in_rows n (row9 h) = (lit< tt, refl)
  record_in_rows n (row10 h) = (lit< tt, refl)
  record_in_rows n (row11 h) = (lit< tt, refl)

  pub record_rows : (n : ℕ) → RecordRow bytes i n → (5 ≤ rows_above rows n) × (rows_above rows n ≤ 11)
  unfolding rows_above
  record_rows n (row6 h) = (omega arith, omega arith)
  record_rows n (row7 h) = (omega arith, omega arith)
  record_rows n (row12 h) = (omega arith, omega arith)
  record_rows n (row8 h) = (omega arith, omega arith)
  record_rows n (row9 h) = (omega arith, omega arith)
  record_rows n (row10 h) = (omega arith, omega arith)
  record_rows n (row11 h) = (omega arith, omega arith)

  abbrev at : ℕ
  at = offset bytes i

  -- which rows a record can be in, by its mark
  module _ (marked : at + mark_size ≤ length bytes) where
    unit_rows : IsUnit bytes i → (n : ℕ) → RecordRow bytes i n → (6 ≤ rows_above rows n) × (rows_above rows n ≤ 9)
    unfolding rows_above
    unit_rows e n (row6 (inl one)) = absurd (omega arith)
    unit_rows e n (row6 (inr (u, r, b))) = absurd (u e)
    unit_rows e n (row7 h) = (omega arith, omega arith)
    unit_rows e n (row12 h) = (omega arith, omega arith)
    unit_rows e n (row8 h) = (omega arith, omega arith)
    unit_rows e n (row9 h) = (omega arith, omega arith)
    unit_rows e n (row10 (other, h)) = absurd (omega arith)
    unit_rows e n (row11 (other, h)) = absurd (omega arith)

    redesignation_rows : IsRedesignation bytes i → (n : ℕ) → RecordRow bytes i n → (rows_above rows n ≡ 6) ⊎ (10 ≤ rows_above rows n)
    unfolding rows_above
    redesignation_rows e n (row6 (inl one)) = absurd (omega arith)
    redesignation_rows e n (row6 (inr (u, r, b))) = absurd (r e)
    redesignation_rows e n (row7 h) = inl refl
    redesignation_rows e n (row12 (other, h)) = absurd (omega arith)
    redesignation_rows e n (row8 h) = absurd (omega (arith, h.is_unit))
    redesignation_rows e n (row9 (other, h)) = absurd (omega arith)
    redesignation_rows e n (row10 h) = inr (omega arith)
    redesignation_rows e n (row11 h) = inr (omega arith)

    break_rows : IsBreak bytes i → (n : ℕ) → RecordRow bytes i n → ⊥
    break_rows e n (row6 (inl one)) = omega arith
    break_rows e n (row6 (inr (u, r, b))) = b e
    break_rows e n (row7 (inl (other, h))) = omega arith
    break_rows e n (row7 (inr (other, h))) = omega arith
    break_rows e n (row12 (other, h)) = omega arith
    break_rows e n (row8 h) = omega (arith, h.is_unit)
    break_rows e n (row9 (other, h)) = omega arith
    break_rows e n (row10 (other, h)) = omega arith
    break_rows e n (row11 (other, h)) = omega arith

  -- the condition of a row, where the mark is known
  unit_cut : IsUnit bytes i → RecordRow bytes i 7 → length bytes < at + unit_size
  unit_cut e (row7 (inl (is_unit, h))) = h
  unit_cut e (row7 (inr (other, h))) = absurd (omega arith)

  redesignation_cut : IsRedesignation bytes i → RecordRow bytes i 7 → length bytes < at + redesignation_size
  redesignation_cut e (row7 (inl (other, h))) = absurd (omega arith)
  redesignation_cut e (row7 (inr (is_new, h))) = h

  condition12 : RecordRow bytes i 12 → 1000 ≤ units_before bytes i
  condition12 (row12 (is_unit, h)) = h

  condition8 : RecordRow bytes i 8 → (kind : ℕ) × (kind < kinds) × (2000 < number bytes (at + count_offset kind))
  condition8 (row8 h) = (h.kind, h.a_kind, h.above)

  condition9 : RecordRow bytes i 9 → (3 < byte bytes (at + prerequisite_offset)) ⊎ (1 < byte bytes (at + recoverable_offset))
  condition9 (row9 (is_unit, h)) = h

  condition10 : RecordRow bytes i 10 → 2 < new_grade bytes i
  condition10 (row10 (is_new, h)) = h

  condition11 : RecordRow bytes i 11 → DesignatedJustBefore bytes i (new_grade bytes i)
  condition11 (row11 (is_new, h)) = h

  record_by : at + mark_size ≤ length bytes → (m : Option Mark) → Marked (number bytes at) m
      → First rows (RecordRow bytes i) 5 (refusal_by bytes at (units_before bytes i) (designated_before bytes i) m)
  unfolding refusal_by unit_refusal redesignation_refusal rows_above
  record_by whole m (as_unit e) =
      first_past rows record_in_rows 5 6 _ (λ n applies from. (unit_rows whole e n applies).0)
      (first_row rows record_in_rows _ 7 _ (lit< tt, refl) (tells_as (λ h. row7 (inl (e, h))) (unit_cut e) (tells_lt (length bytes) (at + unit_size)))
      (first_row rows record_in_rows _ 12 _ (lit< tt, refl) (tells_as (λ h. row12 (e, h)) condition12 (tells_le 1000 (units_before bytes i)))
      (first_row rows record_in_rows _ 8 _ (lit< tt, refl)
      (tells_as (λ (kind, inside, h). row8 (record { is_unit = e; kind = kind; a_kind = inside; above = h })) condition8 (tells_8 bytes at))
      (first_row rows record_in_rows _ 9 _ (lit< tt, refl)
      (tells_as (λ h. row9 (e, h)) condition9
      (tells_or (tells_lt 3 (byte bytes (at + prerequisite_offset))) (tells_lt 1 (byte bytes (at + recoverable_offset)))))
      (inl (refl, λ n behind applies. let last = (unit_rows whole e n applies).1 in omega arith))))))
  record_by whole m (as_redesignation e) =
      first_past rows record_in_rows 5 6 _
      (λ n applies from. ⊎_elim (λ same. omega arith) (λ later. omega arith) (redesignation_rows whole e n applies))
      (first_row rows record_in_rows _ 7 _ (lit< tt, refl)
      (tells_as (λ h. row7 (inr (e, h))) (redesignation_cut e) (tells_lt (length bytes) (at + redesignation_size)))
      (first_past rows record_in_rows 7 10 _
      (λ n applies from. ⊎_elim (λ same. absurd (omega arith)) (λ later. later) (redesignation_rows whole e n applies))
      (first_row rows record_in_rows _ 10 _ (lit< tt, refl) (tells_as (λ h. row10 (e, h)) condition10 (tells_lt 2 (new_grade bytes i)))
      (first_row rows record_in_rows _ 11 _ (lit< tt, refl) (tells_as (λ h. row11 (e, h)) condition11 (tells_11 bytes i (new_grade bytes i)))
      (inl (refl, λ n behind applies. let last = (record_rows n applies).1 in omega arith))))))
  record_by whole m (as_break e) = inl (refl, λ n from applies. break_rows whole e n applies)
  record_by whole m (as_none u r b) = inr (row6 (inr (u, r, b)), λ n from above applies. omega arith)

  pub record_first : at < length bytes → First rows (RecordRow bytes i) 5 (record_refusal bytes i)
  unfolding record_refusal refusal_at refused_if rows_above
  record_first inside = go (ltb (length bytes) (at + mark_size)) refl
    where
      go : (test : Bool) → ltb (length bytes) (at + mark_size) ≡ test
          → First rows (RecordRow bytes i) 5 (refused_if test 6 (refusal_by bytes at (units_before bytes i) (designated_before bytes i) (mark bytes i)))
      go true e =
          let short = ltb-true (length bytes) (at + mark_size) e in
          inr (row6 (inl (omega arith)), λ n from above applies. omega arith)
      go false e = record_by (ltb-false (length bytes) (at + mark_size) e) (mark bytes i) (marked bytes i)

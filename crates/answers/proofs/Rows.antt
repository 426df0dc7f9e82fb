-- Each row of the table against the test of its refusal, which tells exactly whether the row applies.
-- The plan's cells by grade and class; the grade designated just before a record by induction on the records.
use Prim.Native.Nat.{ℕ, zero, suc, ◌+◌, ◌*◌, ◌/◌, ◌%◌, ◌<◌}
use mathlib.Core.Path.{◌≡◌, refl, ◌∙◌, ap, subst, subst⁻¹}
use mathlib.Core.Bool.{Bool, true, false}
use mathlib.Core.List.{List}
use mathlib.Core.Logic.{◌⊎◌, inl, inr, ⊎_elim}
use native.Mathlib.Nat.{eq-or-lt_of_le, le_of_suc-le-suc}
use native.Mathlib.Omega.{arith}
use lib.Dec.{ltb, eqb, lit<}
use lib.ListN.{length}
use borrow.Author.Tests.{eqb-true, eqb-false}
use Rattle.std.proofs.Common.{Option, Some, None}
use Rattle.cusum.specs.declared.PlanNumbers.{PlanNumbers}
use Rattle.encoding.specs.Bytes.{number}
use Rattle.units.specs.Conditions.{any, pick}
use Rattle.units.specs.Words.{substandard, classes, no_numbers, cell_of, numbers_of, table_of}
use Rattle.units.specs.Records.{designated_by}
use Rattle.units.proofs.Lists.{map_at}
use Rattle.units.proofs.Classes.{cell_at}
use Rattle.layout.specs.Layout.{table_offset, plan_numbers_size, table_size, plan_size, kinds, count_offset, plan_numbers_at, plan_of, sample_unit_at, mark_of, mark_at, offset, mark, entry_of, entry_at}
use Rattle.layout.specs.declared.Mark.{Mark}
use Rattle.layout.specs.declared.Mark.TheVariants.{UnitMark, RedesignationMark, BreakMark}
use Rattle.sheet.specs.Refusals.{no_plan_record, any_numbers, too_large, start_above_limit, smaller, smaller_in_class, count_too_large, designated_before}
use Rattle.answers.specs.Grounds as table
use Rattle.grounds.specs.Tells.{Tells}
use Rattle.grounds.proofs.Tells.{tells_lt, tells_eq, tells_as, tells_not, tells_or, tells_any}

-- ---- the plan

module _ (bytes : List ℕ) where
  pub tells_1 : Tells (no_plan_record bytes) (table.NoPlanRecord bytes)
  unfolding no_plan_record
  tells_1 = tells_or (tells_lt (length bytes) plan_size) (tells_not (tells_eq (number bytes 0) 0x504C))

  cell_numbers : (cell : ℕ) → cell < table_size → cell_of (plan_of bytes) cell ≡ plan_numbers_at bytes (table_offset + plan_numbers_size * cell)
  unfolding plan_of
  cell_numbers cell inside = map_at table_size (λ k. plan_numbers_at bytes (table_offset + plan_numbers_size * k)) no_numbers cell inside

  -- S, T and L of a grade and class
  pub numbers_there : (grade class : ℕ) → grade < substandard → class < length classes
      → numbers_of (table_of (plan_of bytes)) grade class ≡ plan_numbers_at bytes (table.numbers_offset grade class)
  numbers_there grade class g k = cell_at (plan_of bytes) grade class g k ∙ cell_numbers (length classes * grade + class) (omega arith)

  -- a condition of S, T and L anywhere in the table
  tells_table : (condition : PlanNumbers → Bool) (Condition : PlanNumbers → Type 0) → ((numbers : PlanNumbers) → Tells (condition numbers) (Condition numbers))
      → Tells (any_numbers condition (plan_of bytes)) (table.InTable (λ grade class. Condition (plan_numbers_at bytes (table.numbers_offset grade class))))
  unfolding any_numbers
  tells_table condition Condition each = tells_as to from (tells_any table_size _ _ (λ cell inside. each (cell_of (plan_of bytes) cell)))
    where
      to : (cell : ℕ) × (cell < table_size) × Condition (cell_of (plan_of bytes) cell)
          → table.InTable (λ grade class. Condition (plan_numbers_at bytes (table.numbers_offset grade class)))
      to (cell, inside, here) =
          let grade = cell / length classes in
          let class = cell % length classes in
          let same : cell ≡ length classes * grade + class = omega arith in
          record {
            grade = grade;
            class = class;
            a_grade = omega arith;
            a_class = omega arith;
            holds = subst (λ (k : ℕ). Condition (plan_numbers_at bytes (table_offset + plan_numbers_size * k))) same
                (subst Condition (cell_numbers cell inside) here);
          }

      from : table.InTable (λ grade class. Condition (plan_numbers_at bytes (table.numbers_offset grade class)))
          → (cell : ℕ) × (cell < table_size) × Condition (cell_of (plan_of bytes) cell)
      from found =
          let cell = length classes * found.grade + found.class in
          let inside : cell < table_size = omega (arith, found.a_grade, found.a_class) in
          (cell, inside, subst⁻¹ Condition (cell_numbers cell inside) found.holds)

  pub tells_3 : Tells (any_numbers too_large (plan_of bytes)) (table.NumberAbove bytes)
  unfolding too_large
  tells_3 =
      tells_table too_large (λ numbers. (9999 < numbers.start) ⊎ ((9999 < numbers.tolerance) ⊎ (9999 < numbers.limit)))
      (λ numbers. tells_or (tells_lt 9999 numbers.start) (tells_or (tells_lt 9999 numbers.tolerance) (tells_lt 9999 numbers.limit)))

  pub tells_4 : Tells (any_numbers start_above_limit (plan_of bytes)) (table.StartAboveLimit bytes)
  unfolding start_above_limit
  tells_4 = tells_table start_above_limit (λ numbers. numbers.limit < numbers.start) (λ numbers. tells_lt numbers.limit numbers.start)

  tells_smaller : (class lower better : ℕ) → class < length classes → lower < substandard → better < substandard
      → Tells (smaller (numbers_of (table_of (plan_of bytes)) better class) (numbers_of (table_of (plan_of bytes)) lower class))
      (table.SmallerAt bytes class lower better)
  unfolding smaller
  tells_smaller class lower better k l b =
      rw (numbers_there lower class l k, numbers_there better class b k)
      (tells_or (tells_lt (table.tolerance_in bytes lower class) (table.tolerance_in bytes better class))
      (tells_lt (table.tolerance_in bytes lower class + table.limit_in bytes lower class)
      (table.tolerance_in bytes better class + table.limit_in bytes better class)))

  pub tells_5 : Tells (any (smaller_in_class (plan_of bytes)) classes) (table.SmallerLower bytes)
  unfolding smaller_in_class
  tells_5 =
      tells_as
      (λ (class, inside, here). record { class = class; a_class = inside; smaller = here })
      (λ (found : table.SmallerLower bytes). (found.class, found.a_class, found.smaller))
      (tells_any (length classes) _ (λ class. table.SmallerAt bytes class 1 0 ⊎ table.SmallerAt bytes class 2 1)
      (λ class inside.
      tells_or (tells_smaller class 1 0 inside (lit< tt) (lit< tt)) (tells_smaller class 2 1 inside (lit< tt) (lit< tt))))

-- ---- a record

-- a mark by its two bytes
pub data Marked (two : ℕ) : Option Mark → Type 0 where
  as_unit : two ≡ 0x5355 → Marked two (Some UnitMark)
  as_redesignation : two ≡ 0x5244 → Marked two (Some RedesignationMark)
  as_break : two ≡ 0x424B → Marked two (Some BreakMark)
  as_none : (two ≡ 0x5355 → ⊥) → (two ≡ 0x5244 → ⊥) → (two ≡ 0x424B → ⊥) → Marked two None

marked_by : (two : ℕ) → Marked two (mark_of two)
unfolding mark_of pick
marked_by two = go (eqb two 0x5355) refl (eqb two 0x5244) refl (eqb two 0x424B) refl
  where
    go : (u : Bool) → eqb two 0x5355 ≡ u → (r : Bool) → eqb two 0x5244 ≡ r → (b : Bool) → eqb two 0x424B ≡ b
        → Marked two (pick u (Some UnitMark) (pick r (Some RedesignationMark) (pick b (Some BreakMark) None)))
    go true eu r er b eb = as_unit (eqb-true two 0x5355 eu)
    go false eu true er b eb = as_redesignation (eqb-true two 0x5244 er)
    go false eu false er true eb = as_break (eqb-true two 0x424B eb)
    go false eu false er false eb = as_none (eqb-false two 0x5355 eu) (eqb-false two 0x5244 er) (eqb-false two 0x424B eb)

unit_bytes : {two : ℕ} → Marked two (Some UnitMark) → two ≡ 0x5355
unit_bytes (as_unit e) = e

redesignation_bytes : {two : ℕ} → Marked two (Some RedesignationMark) → two ≡ 0x5244
redesignation_bytes (as_redesignation e) = e

module _ (bytes : List ℕ) where
  pub marked : (i : ℕ) → Marked (number bytes (offset bytes i)) (mark bytes i)
  unfolding mark_at
  marked i = marked_by (number bytes (offset bytes i))

  -- the mark of a record from its bytes, and back
  pub is_unit_mark : (i : ℕ) → table.IsUnit bytes i → mark bytes i ≡ Some UnitMark
  unfolding mark_at mark_of pick
  is_unit_mark i = ap mark_of

  pub is_redesignation_mark : (i : ℕ) → table.IsRedesignation bytes i → mark bytes i ≡ Some RedesignationMark
  unfolding mark_at mark_of pick
  is_redesignation_mark i = ap mark_of

  pub is_break_mark : (i : ℕ) → table.IsBreak bytes i → mark bytes i ≡ Some BreakMark
  unfolding mark_at mark_of pick
  is_break_mark i = ap mark_of

  pub unit_mark_is : (i : ℕ) → mark bytes i ≡ Some UnitMark → table.IsUnit bytes i
  unit_mark_is i e = unit_bytes (subst (Marked (number bytes (offset bytes i))) e (marked i))

  pub redesignation_mark_is : (i : ℕ) → mark bytes i ≡ Some RedesignationMark → table.IsRedesignation bytes i
  redesignation_mark_is i e = redesignation_bytes (subst (Marked (number bytes (offset bytes i))) e (marked i))

  -- 8, of the unit at an offset
  pub tells_8 : (at : ℕ) → Tells (count_too_large (sample_unit_at bytes at)) ((kind : ℕ) × (kind < kinds) × (2000 < number bytes (at + count_offset kind)))
  unfolding count_too_large sample_unit_at
  tells_8 at =
      tells_as
      (⊎_elim (λ h. (0, lit< tt, h)) (⊎_elim (λ h. (1, lit< tt, h)) (⊎_elim (λ h. (2, lit< tt, h)) (λ h. (3, lit< tt, h)))))
      (λ (kind, inside, above). from kind inside above)
      (tells_or (above 0) (tells_or (above 1) (tells_or (above 2) (above 3))))
    where
      above : (kind : ℕ) → Tells (ltb 2000 (number bytes (at + count_offset kind))) (2000 < number bytes (at + count_offset kind))
      above kind = tells_lt 2000 (number bytes (at + count_offset kind))

      from : (kind : ℕ) → kind < kinds → 2000 < number bytes (at + count_offset kind)
          → (2000 < number bytes (at + count_offset 0)) ⊎ ((2000 < number bytes (at + count_offset 1))
          ⊎ ((2000 < number bytes (at + count_offset 2)) ⊎ (2000 < number bytes (at + count_offset 3))))
      from zero inside h = inl h
      from (suc zero) inside h = inr (inl h)
      from (suc (suc zero)) inside h = inr (inr (inl h))
      from (suc (suc (suc zero))) inside h = inr (inr (inr h))
      from (suc (suc (suc (suc k)))) inside h = absurd (omega arith)

  -- ---- the grade designated just before a record

  -- of the record before: a redesignation names it, any other keeps it
  next_designated : (i : ℕ) → (m : Option Mark) → Marked (number bytes (offset bytes i)) m → (designated : ℕ)
      → (table.IsRedesignation bytes i × (designated_by designated (entry_of bytes (offset bytes i) m) ≡ table.new_grade bytes i))
      ⊎ ((table.IsRedesignation bytes i → ⊥) × (designated_by designated (entry_of bytes (offset bytes i) m) ≡ designated))
  unfolding designated_by entry_of
  next_designated i m (as_unit e) designated = inr (λ other. omega arith, refl)
  next_designated i m (as_redesignation e) designated = inl (e, refl)
  next_designated i m (as_break e) designated = inr (λ other. omega arith, refl)
  next_designated i m (as_none u r b) designated = inr (r, refl)

  pub designated_just_before : (i : ℕ) → table.DesignatedJustBefore bytes i (designated_before bytes i)
  unfolding designated_before plan_of entry_at
  designated_just_before zero = table.by_the_plan (λ j h. absurd (omega arith))
  designated_just_before (suc i) = go (next_designated i (mark bytes i) (marked i) (designated_before bytes i)) (designated_just_before i)
    where
      -- none before record i, nor record i, is none before the next
      none_yet : (table.IsRedesignation bytes i → ⊥) → (k : ℕ) → (k < i → table.IsRedesignation bytes k → ⊥)
          → k < suc i → table.IsRedesignation bytes k → ⊥
      none_yet other k none h =
          ⊎_elim (λ same. subst⁻¹ (λ (l : ℕ). table.IsRedesignation bytes l → ⊥) same other) none (eq-or-lt_of_le (le_of_suc-le-suc h))

      longer : {grade : ℕ} → (table.IsRedesignation bytes i → ⊥) → table.DesignatedJustBefore bytes i grade
          → table.DesignatedJustBefore bytes (suc i) grade
      longer other (table.by_the_plan none) = table.by_the_plan (λ k. none_yet other k (none k))
      longer other (table.by_a_redesignation j before is_new none) =
          table.by_a_redesignation j (omega arith) is_new (λ k from. none_yet other k (none k from))

      go : (table.IsRedesignation bytes i × (designated_by (designated_before bytes i) (entry_at bytes i) ≡ table.new_grade bytes i))
          ⊎ ((table.IsRedesignation bytes i → ⊥) × (designated_by (designated_before bytes i) (entry_at bytes i) ≡ designated_before bytes i))
          → table.DesignatedJustBefore bytes i (designated_before bytes i)
          → table.DesignatedJustBefore bytes (suc i) (designated_by (designated_before bytes i) (entry_at bytes i))
      go (inl (is_new, named)) earlier =
          subst⁻¹ (table.DesignatedJustBefore bytes (suc i)) named (table.by_a_redesignation i (omega arith) is_new (λ k from h. absurd (omega arith)))
      go (inr (other, kept)) earlier = subst⁻¹ (table.DesignatedJustBefore bytes (suc i)) kept (longer other earlier)

  -- two grades designated just before one record are the same
  pub one_designated : {i grade grade' : ℕ} → table.DesignatedJustBefore bytes i grade → table.DesignatedJustBefore bytes i grade' → grade ≡ grade'
  one_designated (table.by_the_plan none) (table.by_the_plan none') = refl
  one_designated (table.by_the_plan none) (table.by_a_redesignation j before is_new none') = absurd (none j before is_new)
  one_designated (table.by_a_redesignation j before is_new none) (table.by_the_plan none') = absurd (none' j before is_new)
  one_designated (table.by_a_redesignation j before is_new none) (table.by_a_redesignation j' before' is_new' none') =
      go (ltb j j') refl (ltb j' j) refl
    where
      go : (t : Bool) → ltb j j' ≡ t → (t' : Bool) → ltb j' j ≡ t' → table.new_grade bytes j ≡ table.new_grade bytes j'
      go true e t' e' = absurd (none j' ((tells_lt j j').so e) before' is_new')
      go false e true e' = absurd (none' j ((tells_lt j' j).so e') before is_new)
      go false e false e' =
          let same : j ≡ j' = omega (arith, (tells_lt j j').not_so e, (tells_lt j' j).not_so e') in
          ap (table.new_grade bytes) same

  -- 11
  pub tells_11 : (i new : ℕ) → Tells (eqb new (designated_before bytes i)) (table.DesignatedJustBefore bytes i new)
  tells_11 i new =
      tells_as
      (λ same. subst⁻¹ (table.DesignatedJustBefore bytes i) same (designated_just_before i))
      (λ before. one_designated before (designated_just_before i))
      (tells_eq new (designated_before bytes i))

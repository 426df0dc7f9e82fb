-- Which row is returned: the first met at the first place where one is. From what the check of a sheet computes at each place, and the
-- places in their order.
use Prim.Native.Nat.{ℕ, ◌≤◌, ◌<◌}
use mathlib.Core.Path.{◌≡◌, refl, sym, subst, subst⁻¹}
use mathlib.Core.Bool.{Bool, true, false}
use mathlib.Core.Logic.{◌⊎◌, inl, inr}
use native.Mathlib.Omega.{arith}
use lib.Dec.{ltb}
use borrow.Author.Tests.{ltb-true, ltb-false}
use Rattle.outcome.specs.declared.Answer.{Answer}
use Rattle.sheet.proofs.LeftToRight.{Stops}
use Rattle.grounds.specs.Grounds.{Grounds, Ground, of_opening, of_record, of_last, rows_above, Earlier, FirstRowMet, RefusedByGround}
use Rattle.grounds.proofs.FirstRow.{First, InRows, own_row, first_none, first_met}

-- what a check computes: the refusal of the opening and of record i, each the first row met at its place. The rows of records and of the
-- result buffer begin at these
pub record Computes (grounds : Grounds) (records_from buffer_from opening : ℕ) (refusal : ℕ → ℕ) : Type 0 where
  pub opening_in_rows : (n : ℕ) → grounds.OpeningRow n → InRows grounds.rows n
  pub record_in_rows : (i n : ℕ) → grounds.RecordRow i n → InRows grounds.rows n
  pub buffer_in_rows : (n : ℕ) → grounds.LastRow n → InRows grounds.rows n
  pub opening_rows : (n : ℕ) → grounds.OpeningRow n → rows_above grounds.rows n < buffer_from
  pub record_rows : (i n : ℕ) → grounds.RecordRow i n → records_from ≤ rows_above grounds.rows n
  pub buffer_rows : (n : ℕ) → grounds.LastRow n → buffer_from ≤ rows_above grounds.rows n
  pub opening_first : First grounds.rows grounds.OpeningRow 0 opening
  pub record_first : (i : ℕ) → grounds.offset i < grounds.end → First grounds.rows (grounds.RecordRow i) records_from (refusal i)
  -- records stand behind the opening, each at a place of its own, in the order of their numbers
  pub behind_opening : (i : ℕ) → 0 < grounds.offset i
  pub in_order : (i j : ℕ) → grounds.offset i < grounds.offset j → i < j
  pub own_place : (i j : ℕ) → grounds.offset i ≡ grounds.offset j → i ≡ j

module _ {grounds : Grounds} {records_from buffer_from opening : ℕ} {refusal : ℕ → ℕ}
    (computes : Computes grounds records_from buffer_from opening refusal) (Whole : ℕ → Type 0) where
  abbrev row : ℕ → ℕ
  row number = rows_above grounds.rows number

  abbrev Judged : Answer → Type 0
  Judged answer = RefusedByGround grounds Whole answer

  -- ---- one first row, and so one answer

  ground_in_rows : (n at : ℕ) → Ground grounds n at → InRows grounds.rows n
  ground_in_rows n at (of_opening h) = computes.opening_in_rows n h
  ground_in_rows n at (of_record i inside h) = computes.record_in_rows i n h
  ground_in_rows n at (of_last h) = computes.buffer_in_rows n h

  -- two first rows are the same
  one_first : (number at number' at' : ℕ) → FirstRowMet grounds number at → FirstRowMet grounds number' at' → (number ≡ number') × (at ≡ at')
  one_first number at number' at' first first' =
      go (ltb at at') refl (ltb at' at) refl (ltb (row number) (row number')) refl (ltb (row number') (row number)) refl
    where
      go : (p : Bool) → ltb at at' ≡ p → (p' : Bool) → ltb at' at ≡ p' → (r : Bool) → ltb (row number) (row number') ≡ r
          → (r' : Bool) → ltb (row number') (row number) ≡ r' → (number ≡ number') × (at ≡ at')
      go true e p' e' r f r' f' = absurd (first'.none_earlier number at (inl (ltb-true at at' e)) first.applies)
      go false e true e' r f r' f' = absurd (first.none_earlier number' at' (inl (ltb-true at' at e')) first'.applies)
      go false e false e' r f r' f' =
          let same : at ≡ at' = omega (arith, ltb-false at at' e, ltb-false at' at e') in (rows_same same r f r' f', same)
        where
          rows_same : at ≡ at' → (r : Bool) → ltb (row number) (row number') ≡ r → (r' : Bool) → ltb (row number') (row number) ≡ r' → number ≡ number'
          rows_same same true f r' f' =
              absurd (first'.none_earlier number at (inr (same, ltb-true (row number) (row number') f)) first.applies)
          rows_same same false f true f' =
              absurd (first.none_earlier number' at' (inr (sym same, ltb-true (row number') (row number) f')) first'.applies)
          rows_same same false f false f' =
              own_row grounds.rows number number'
              (ground_in_rows number at first.applies) (ground_in_rows number' at' first'.applies)
              (omega (arith, ltb-false (row number) (row number') f, ltb-false (row number') (row number) f'))

  -- a refusal by it
  refused_by : (answer : Answer) → (answer.number ≡ 0 → ⊥) → FirstRowMet grounds answer.number answer.offset → Judged answer
  refused_by answer refused first =
      record {
        refused = λ other. first;
        accepted = λ e. absurd (refused e);
        accepted_whole = λ e. absurd (refused e);
        returned = λ number at first'. one_first answer.number answer.offset number at first first';
      }

  -- ---- the places in order

  no_opening_row : opening ≡ 0 → (n : ℕ) → grounds.OpeningRow n → ⊥
  no_opening_row passed n applies =
      first_none grounds.rows computes.opening_in_rows 0 opening computes.opening_first passed n (omega arith) applies

  no_record_row : (i : ℕ) → grounds.offset i < grounds.end → refusal i ≡ 0 → (n : ℕ) → grounds.RecordRow i n → ⊥
  no_record_row i inside passed n applies =
      first_none grounds.rows (computes.record_in_rows i) records_from (refusal i) (computes.record_first i inside) passed n
      (computes.record_rows i n applies) applies

  -- of the opening
  opening_refused : (number : ℕ) → number ≡ opening → (number ≡ 0 → ⊥) → FirstRowMet grounds number 0
  opening_refused number is_refusal refused =
      let first = subst⁻¹ (First grounds.rows grounds.OpeningRow 0) is_refusal computes.opening_first in
      let (met, others) = first_met grounds.rows computes.opening_in_rows 0 number first refused in
      record { applies = of_opening met; none_earlier = λ n at earlier applies. go met others n at applies earlier }
    where
      go : grounds.OpeningRow number → ((n : ℕ) → 0 ≤ row n → row n < row number → grounds.OpeningRow n → ⊥)
          → (n at : ℕ) → Ground grounds n at → Earlier grounds.rows n at number 0 → ⊥
      go met others n at (of_opening h) (inl before) = omega arith
      go met others n at (of_opening h) (inr (same, above)) = others n (omega arith) above h
      go met others n at (of_record i inside h) (inl before) = omega arith
      go met others n at (of_record i inside h) (inr (same, above)) = omega (arith, computes.behind_opening i)
      go met others n at (of_last h) (inl before) = omega arith
      go met others n at (of_last h) (inr (same, above)) = omega (arith, computes.buffer_rows n h, computes.opening_rows number met)

  -- of a record
  record_refused : (number stop : ℕ) → opening ≡ 0 → grounds.offset stop < grounds.end → number ≡ refusal stop
      → (number ≡ 0 → ⊥) → ((j : ℕ) → j < stop → refusal j ≡ 0) → FirstRowMet grounds number (grounds.offset stop)
  record_refused number stop passed inside is_refusal refused passed_before =
      let first = subst⁻¹ (First grounds.rows (grounds.RecordRow stop) records_from) is_refusal (computes.record_first stop inside) in
      let (met, others) = first_met grounds.rows (computes.record_in_rows stop) records_from number first refused in
      record { applies = of_record stop inside met; none_earlier = λ n at earlier applies. go others n at applies earlier }
    where
      go : ((n : ℕ) → records_from ≤ row n → row n < row number → grounds.RecordRow stop n → ⊥)
          → (n at : ℕ) → Ground grounds n at → Earlier grounds.rows n at number (grounds.offset stop) → ⊥
      go others n at (of_opening h) earlier = no_opening_row passed n h
      go others n at (of_record i within h) (inl before) = no_record_row i within (passed_before i (computes.in_order i stop before)) n h
      go others n at (of_record i within h) (inr (same, above)) =
          others n (computes.record_rows i n h) above (subst (λ (j : ℕ). grounds.RecordRow j n) (computes.own_place i stop same) h)
      go others n at (of_last h) (inl before) = omega arith
      go others n at (of_last h) (inr (same, above)) = omega arith

  -- a refusal of the check: that of the opening, or that of the first record refused
  pub refused_by_check : (answer : Answer) → (answer.number ≡ 0 → ⊥)
      → ((answer.number ≡ opening) × (answer.offset ≡ 0))
      ⊎ ((opening ≡ 0) × Stops grounds.end grounds.offset refusal answer.number answer.offset) → Judged answer
  refused_by_check answer refused (inl (by_opening, at_start_holds)) =
      refused_by answer refused
      (subst⁻¹ (FirstRowMet grounds answer.number) at_start_holds (opening_refused answer.number by_opening refused))
  refused_by_check answer refused (inr (passed, stops)) =
      refused_by answer refused
      (subst⁻¹ (FirstRowMet grounds answer.number) stops.at_offset
      (record_refused answer.number stops.stop passed stops.inside stops.refused_by refused stops.earlier))

  -- where the opening and the records that fill the sheet pass
  module _ (records : ℕ) (passed : opening ≡ 0) (filled : grounds.offset records ≡ grounds.end)
      (within : (j : ℕ) → j < records → refusal j ≡ 0) where
    passed_record : (i : ℕ) → grounds.offset i < grounds.end → (n : ℕ) → grounds.RecordRow i n → ⊥
    passed_record i inside n = no_record_row i inside (within i (computes.in_order i records (omega (arith, filled)))) n

    buffer_refused : (number : ℕ) → grounds.LastRow number → ((n : ℕ) → grounds.LastRow n → row n < row number → ⊥)
        → FirstRowMet grounds number grounds.end
    buffer_refused number met others = record { applies = of_last met; none_earlier = λ n at earlier applies. go n at applies earlier }
      where
        go : (n at : ℕ) → Ground grounds n at → Earlier grounds.rows n at number grounds.end → ⊥
        go n at (of_opening h) earlier = no_opening_row passed n h
        go n at (of_record i inside h) earlier = passed_record i inside n h
        go n at (of_last h) (inl before) = omega arith
        go n at (of_last h) (inr (same, above)) = others n h above

    -- a refusal by the first row of the result buffer that applies
    pub refused_by_buffer : (answer : Answer) → (answer.number ≡ 0 → ⊥) → answer.offset ≡ grounds.end → grounds.LastRow answer.number
        → ((n : ℕ) → grounds.LastRow n → row n < row answer.number → ⊥) → Judged answer
    refused_by_buffer answer refused at_end met others =
        refused_by answer refused (subst⁻¹ (FirstRowMet grounds answer.number) at_end (buffer_refused answer.number met others))

    -- an acceptance, where none applies
    pub accepted_by : (answer : Answer) → answer.number ≡ 0 → ((n : ℕ) → grounds.LastRow n → ⊥) → Whole answer.units → Judged answer
    accepted_by answer accepted room whole =
        record {
          refused = λ other. absurd (other accepted);
          accepted = λ e. none;
          accepted_whole = λ e. whole;
          returned = λ number at first. absurd (none number at first.applies);
        }
      where
        none : (n at : ℕ) → Ground grounds n at → ⊥
        none n at (of_opening h) = no_opening_row passed n h
        none n at (of_record i inside h) = passed_record i inside n h
        none n at (of_last h) = room n h

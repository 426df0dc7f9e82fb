-- Demand 2, the grounds: the answer is the first row met, and acceptance is that none is.
-- What the check computes, with the first row of each place, whatever rows come behind the records; then by the cases of the answer.
use Prim.Native.Nat.{ℕ, ◌*◌, ◌≤◌, ◌<◌}
use mathlib.Core.Path.{◌≡◌, refl, sym, ◌∙◌, ap, subst, subst⁻¹}
use mathlib.Core.List.{List}
use native.Mathlib.Omega.{arith}
use lib.Dec.{lit<}
use lib.ListN.{length}
use Rattle.layout.specs.Layout.{offset, units_before}
use Rattle.layout.proofs.Offsets.{offset_order, offset_same, offset_ge}
use Rattle.sheet.specs.Refusals.{plan_refusal, record_refusal}
use Rattle.sheet.specs.Verdict.{Verdict}
use Rattle.sheet.proofs.Accepted.{Facts, Says, verdict_says}
use Rattle.results.specs.Record.{result_size}
use Rattle.outcome.specs.declared.Answer.{Answer}
use Rattle.outcome.specs.Outcome.{Outcome, refused_as}
use Rattle.grounds.specs.Grounds.{Grounds, rows_above, RefusedByGround}
use Rattle.grounds.proofs.FirstRow.{InRows}
use Rattle.grounds.proofs.Decided.{Computes, refused_by_check, refused_by_buffer, accepted_by}
use Rattle.answers.specs.Grounds.{FilledBy, BufferShort, PlanRow, RecordRow, BufferRow, row13, rows, sheet_grounds, WholeSheet, Demand2Grounds}
use Rattle.answers.proofs.FirstRow.{plan_in_rows, plan_rows, plan_first, record_in_rows, record_rows, record_first}
use Rattle.answers.proofs.Cases.{Case, by_check, without_room, with_room, outcome_case}

-- ---- whatever rows come behind the records

abbrev pub grounds_behind : List ℕ → (ℕ → Type 0) → Grounds
grounds_behind bytes Row =
    record {
      rows = rows;
      OpeningRow = PlanRow bytes;
      RecordRow = RecordRow bytes;
      LastRow = Row;
      offset = offset bytes;
      end = length bytes;
    }

-- what is asked of them: 13 is the first that can apply where the sheet passes, and with room none does
pub record RowsBehind (bytes buffer : List ℕ) (Passed Row : ℕ → Type 0) : Type 0 where
  pub in_rows : (n : ℕ) → Row n → InRows rows n
  pub behind_records : (n : ℕ) → Row n → 12 ≤ rows_above rows n
  pub facts : (records : ℕ) → Passed records → Facts bytes records
  pub short : BufferShort bytes buffer → Row 13
  pub from_13 : (records : ℕ) → Passed records → (n : ℕ) → Row n → rows_above rows 13 ≤ rows_above rows n
  pub none : (records : ℕ) → Passed records → result_size * units_before bytes records ≤ length buffer → (n : ℕ) → Row n → ⊥

module _ (bytes buffer : List ℕ) {Passed Row : ℕ → Type 0} (behind : RowsBehind bytes buffer Passed Row) where
  computes : Computes (grounds_behind bytes Row) 5 12 (plan_refusal bytes) (record_refusal bytes)
  computes =
      record {
        opening_in_rows = plan_in_rows bytes;
        record_in_rows = record_in_rows bytes;
        buffer_in_rows = behind.in_rows;
        opening_rows = λ n applies. omega (arith, plan_rows bytes n applies);
        record_rows = λ i n applies. (record_rows bytes i n applies).0;
        buffer_rows = behind.behind_records;
        opening_first = plan_first bytes;
        record_first = record_first bytes;
        behind_opening = λ i. omega (arith, offset_ge bytes i);
        in_order = offset_order bytes;
        own_place = offset_same bytes;
      }

  abbrev Judged : Answer → Type 0
  Judged answer = RefusedByGround (grounds_behind bytes Row) (WholeSheet bytes) answer

  -- refused by the first of these rows that applies
  pub refused_behind : (records : ℕ) → Facts bytes records → (number : ℕ) → (number ≡ 0 → ⊥) → Row number
      → ((n : ℕ) → Row n → rows_above rows n < rows_above rows number → ⊥) → Judged (refused_as number (length bytes))
  refused_behind records facts number refused =
      refused_by_buffer computes (WholeSheet bytes) records facts.plan facts.end (λ j before. (facts.within j before).1)
      (refused_as number (length bytes)) refused refl

  pub judged_case : (answer : Answer) → Case bytes buffer Passed answer → Judged answer
  unfolding Says
  judged_case answer (by_check number at says) =
      let (refused, which) = subst (λ (v : Verdict). Says bytes v) says (verdict_says bytes) in
      refused_by_check computes (WholeSheet bytes) (refused_as number at) refused which
  judged_case answer (without_room records passed less) =
      let facts = behind.facts records passed in
      refused_behind records facts 13 (λ e. omega arith) (behind.short (record { records = records; filled = facts.end; short = less }))
      (λ n applies above. omega (arith, behind.from_13 records passed n applies))
  judged_case answer (with_room records units passed counted room) =
      let facts = behind.facts records passed in
      accepted_by computes (WholeSheet bytes) records facts.plan facts.end (λ j before. (facts.within j before).1)
      answer refl (behind.none records passed room) (record { records = records; filled = facts.end; counted = counted })

-- ---- 13

module _ (bytes : List ℕ) (records : ℕ) (facts : Facts bytes records) where
  same_records : (k : ℕ) → FilledBy bytes k → k ≡ records
  same_records k filled = offset_same bytes k records (filled ∙ sym facts.end)

  pub not_short : (buffer : List ℕ) → result_size * units_before bytes records ≤ length buffer → BufferShort bytes buffer → ⊥
  not_short buffer room h = omega (arith, h.short, ap (units_before bytes) (same_records h.records h.filled))

-- ---- of a grading

module _ (bytes buffer : List ℕ) where
  in_rows : (n : ℕ) → BufferRow bytes buffer n → InRows rows n
  unfolding rows_above
  in_rows n (row13 h) = (lit< tt, refl)

  from_13 : (n : ℕ) → BufferRow bytes buffer n → rows_above rows 13 ≤ rows_above rows n
  unfolding rows_above
  from_13 n (row13 h) = omega arith

  behind_records : (n : ℕ) → BufferRow bytes buffer n → 12 ≤ rows_above rows n
  unfolding rows_above
  behind_records n applies = omega (arith, from_13 n applies)

  has_room : (records : ℕ) → Facts bytes records → result_size * units_before bytes records ≤ length buffer → (n : ℕ) → BufferRow bytes buffer n → ⊥
  has_room records facts room n (row13 h) = not_short bytes records facts buffer room h

  behind : RowsBehind bytes buffer (Facts bytes) (BufferRow bytes buffer)
  behind =
      record {
        in_rows = in_rows;
        behind_records = behind_records;
        facts = λ records passed. passed;
        short = row13;
        from_13 = λ records passed. from_13;
        none = has_room;
      }

pub demand2_grounds : Demand2Grounds
demand2_grounds bytes buffer answer results promise =
    subst⁻¹ (λ (given : Outcome). RefusedByGround (sheet_grounds bytes buffer) (WholeSheet bytes) given.answer) promise
    (judged_case bytes buffer (behind bytes buffer) _ (outcome_case bytes buffer))

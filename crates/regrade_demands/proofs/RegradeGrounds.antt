-- The grounds of regradings: the answer is the first row met, and acceptance is that none is. The test of 18 tells whether the second plan
-- has a ground of its own; the rest is the law of a sheet with any rows behind its records, by the cases of the answer.
use Prim.Native.Nat.{ℕ, ◌*◌, ◌≤◌}
use mathlib.Core.Path.{◌≡◌, refl, subst⁻¹}
use mathlib.Core.Bool.{false}
use mathlib.Core.List.{List}
use mathlib.Core.Logic.{◌⊎◌, inl, inr, ⊎_elim}
use native.Mathlib.Omega.{arith}
use lib.Dec.{lit<}
use lib.ListN.{length}
use borrow.Author.Tests.{ne_eqb}
use Rattle.layout.specs.Layout.{plan_size, units_before}
use Rattle.sheet.specs.Refusals.{plan_refusal}
use Rattle.results.specs.Record.{result_size}
use Rattle.outcome.specs.declared.Answer.{Answer}
use Rattle.outcome.specs.Outcome.{Outcome, refused_as}
use Rattle.grounds.specs.Grounds.{rows_above, RefusedByGround}
use Rattle.grounds.specs.Tells.{Tells}
use Rattle.grounds.proofs.FirstRow.{InRows, tells_some_row}
use Rattle.grounds.proofs.Tells.{tells_eq, tells_as, tells_not, tells_or}
use Rattle.answers.specs.Grounds.{PlanRow, rows, WholeSheet}
use Rattle.answers.proofs.FirstRow.{plan_in_rows, plan_first}
use Rattle.answers.proofs.Cases.{to_13}
use Rattle.answers.proofs.Grounds.{RowsBehind, refused_behind, judged_case, not_short}
use Rattle.regrade.specs.Outcome.{second_plan_wrong}
use Rattle.regrade_demands.specs.RegradeGrounds.{SecondPlanWrong, other_length, plan_ground, LastRow, row18, row13, regrade_grounds, where_looked_at, RegradeRefused, RegradeRefusals}
use Rattle.regrade_demands.proofs.RegradeCases.{PassedUnder, RegradeCase, wrong_plan, as_graded, regrade_case}

-- ---- 18

module _ (plan : List ℕ) where
  ground_of_18 : SecondPlanWrong plan → (length plan ≡ plan_size → ⊥) ⊎ ((n : ℕ) × PlanRow plan n)
  ground_of_18 (other_length other) = inl other
  ground_of_18 (plan_ground applies) = inr (_, applies)

  tells_18 : Tells (second_plan_wrong plan) (SecondPlanWrong plan)
  unfolding second_plan_wrong
  tells_18 =
      tells_as (⊎_elim other_length (λ (n, applies). plan_ground applies)) ground_of_18
      (tells_or (tells_not (tells_eq (length plan) plan_size)) (tells_some_row rows (plan_in_rows plan) (plan_refusal plan) (plan_first plan)))

-- ---- the rows behind the records

module _ (bytes plan buffer : List ℕ) where
  in_rows : (n : ℕ) → LastRow bytes plan buffer n → InRows rows n
  unfolding rows_above
  in_rows n (row18 h) = (lit< tt, refl)
  in_rows n (row13 h) = (lit< tt, refl)

  behind_records : (n : ℕ) → LastRow bytes plan buffer n → 12 ≤ rows_above rows n
  unfolding rows_above
  behind_records n (row18 h) = omega arith
  behind_records n (row13 h) = omega arith

  from_13 : second_plan_wrong plan ≡ false → (n : ℕ) → LastRow bytes plan buffer n → rows_above rows 13 ≤ rows_above rows n
  unfolding rows_above
  from_13 right n (row18 h) = absurd ((tells_18 plan).not_so right h)
  from_13 right n (row13 h) = omega arith

  has_room : (records : ℕ) → PassedUnder bytes plan records → result_size * units_before bytes records ≤ length buffer
      → (n : ℕ) → LastRow bytes plan buffer n → ⊥
  has_room records (facts, right) room n (row18 h) = (tells_18 plan).not_so right h
  has_room records (facts, right) room n (row13 h) = not_short bytes records facts buffer room h

  behind : RowsBehind bytes buffer (PassedUnder bytes plan) (LastRow bytes plan buffer)
  behind =
      record {
        in_rows = in_rows;
        behind_records = behind_records;
        facts = λ records (facts, right). facts;
        short = row13;
        from_13 = λ records (facts, right). from_13 right;
        none = has_room;
      }

  -- ---- the answer

  abbrev Judged : Answer → Type 0
  Judged answer = RefusedByGround (regrade_grounds bytes plan buffer) (WholeSheet bytes) answer

  -- 18 is looked at behind the records, any other number at its offset
  place_of_18 : where_looked_at bytes (refused_as 18 0) ≡ refused_as 18 (length bytes)
  place_of_18 = refl

  in_order : (answer : Answer) → (answer.number ≡ 18 → ⊥) → where_looked_at bytes answer ≡ answer
  in_order answer other = rw (ne_eqb answer.number 18 other) refl

  refused_case : (answer : Answer) → RegradeCase bytes plan buffer answer → RegradeRefused bytes plan buffer answer
  unfolding rows_above
  refused_case answer (wrong_plan records facts wrong) =
      record {
        by_ground = subst⁻¹ Judged place_of_18
            (refused_behind bytes buffer behind records facts 18 (λ e. omega arith) (row18 ((tells_18 plan).so wrong))
            (λ n applies above. omega (arith, behind_records n applies)));
        offset_of_18 = λ is_18. refl;
      }
  refused_case answer (as_graded by) =
      let at_most = to_13 bytes buffer answer by in
      record {
        by_ground = subst⁻¹ Judged (in_order answer (λ is_18. omega arith)) (judged_case bytes buffer behind answer by);
        offset_of_18 = λ is_18. absurd (omega arith);
      }

pub regrade_refusals : RegradeRefusals
regrade_refusals bytes plan buffer answer results promise =
    subst⁻¹ (λ (given : Outcome). RegradeRefused bytes plan buffer given.answer) promise
    (refused_case bytes plan buffer _ (regrade_case bytes plan buffer))

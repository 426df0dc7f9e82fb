-- The instances, each from its theorem. What a theorem asks of the lot is computed: its tests, and bytes that two lots share.
use Prim.Native.Nat.{ℕ, zero, suc, ◌≤◌, ◌<◌}
use mathlib.Core.Path.{◌≡◌, refl, sym, ◌∙◌, subst}
use mathlib.Core.Bool.{true}
use mathlib.Core.List.{List}
use mathlib.Core.Logic.{◌⊎◌, inl, inr, ⊎_elim}
use native.Mathlib.Nat.{eq-or-lt_of_le}
use native.Mathlib.Omega.{arith}
use lib.Dec.{eqb}
use lib.ListN.{length, get_or-eq_default}
use borrow.Author.Tests.{eqb-true}
use Rattle.encoding.specs.Bytes.{byte}
use Rattle.units.specs.Conditions.{all}
use Rattle.units.specs.Words.{up_from}
use Rattle.units.proofs.Lists.{all_each}
use Rattle.lots.specs.Answer.{lot_answer}
use Rattle.lots.specs.declared.LotAnswer.{LotAnswer}
use Rattle.lots.proofs.Computing.{computing}
use Rattle.lots_demands.specs.LotGrounds.{LotRow, row22, FirstLotRow}
use Rattle.lots_demands.specs.LotGrades.{DefectGrade, ClassGrade, WorseOf}
use Rattle.lots_demands.specs.LotFewerDefects.{AlikeLots, NoMoreDefects}
use Rattle.lots_demands.specs.ComputedLots.{unlisted_aql_before_fall, critical_b_and_severe_c, prerequisite_worse, at_number_at29_units_aql125, above_number_at29_units_aql125}
use Rattle.lots_demands.specs.LotInstances.{own_grades, LotInstances}
use Rattle.lots_demands.proofs.LotTable.{lot_table}
use Rattle.lots_demands.proofs.LotRows.{tells_22}
use Rattle.lots_demands.proofs.LotGrounds.{lot_refusals}
use Rattle.lots_demands.proofs.LotGrades.{defect_grade_is, class_grade_is, lot_grades}
use Rattle.lots_demands.proofs.LotFewerDefects.{lot_fewer_defects}

-- ---- two grounds

is_21 : (lot_answer unlisted_aql_before_fall).number ≡ 21
unfolding computing unlisted_aql_before_fall
is_21 = refl

first_row : FirstLotRow unlisted_aql_before_fall 21
first_row =
    subst (FirstLotRow unlisted_aql_before_fall) is_21
    ((lot_refusals unlisted_aql_before_fall (lot_answer unlisted_aql_before_fall) refl).refused (λ zero. omega (arith, is_21)))

falls_too : LotRow unlisted_aql_before_fall 22
unfolding computing unlisted_aql_before_fall
falls_too = row22 ((tells_22 unlisted_aql_before_fall).so refl)

refused : (answer : LotAnswer) → answer ≡ lot_answer unlisted_aql_before_fall → (answer.number ≡ 21) × (answer.grade ≡ 3) × (answer.offset ≡ 0)
refused answer promise =
    let answered = lot_refusals unlisted_aql_before_fall answer promise in
    let number = answered.returned 21 first_row in
    (number, answered.refused_grade (λ zero. omega (arith, number)), answered.at_start_holds)

-- ---- grades

defect_grade_holds : DefectGrade critical_b_and_severe_c 2
unfolding computing critical_b_and_severe_c
defect_grade_holds = defect_grade_is critical_b_and_severe_c

defect_grade_better : DefectGrade prerequisite_worse 1
unfolding computing prerequisite_worse
defect_grade_better = defect_grade_is prerequisite_worse

own : (class : ℕ) → class < 4 → ClassGrade critical_b_and_severe_c class (own_grades class)
unfolding computing critical_b_and_severe_c
own zero k = class_grade_is critical_b_and_severe_c 0 k
own (suc zero) k = class_grade_is critical_b_and_severe_c 1 k
own (suc (suc zero)) k = class_grade_is critical_b_and_severe_c 2 k
own (suc (suc (suc zero))) k = class_grade_is critical_b_and_severe_c 3 k
own (suc (suc (suc (suc class)))) k = absurd (omega arith)

-- the worse of two grades by their order
worse_first : (first second grade : ℕ) → second ≤ first → WorseOf first second grade → grade ≡ first
worse_first first second grade below worse = ⊎_elim (λ same. same) (λ same. omega (arith, worse.first_not_worse)) worse.one_of

worse_second : (first second grade : ℕ) → first ≤ second → WorseOf first second grade → grade ≡ second
worse_second first second grade below worse = ⊎_elim (λ same. omega (arith, worse.second_not_worse)) (λ same. same) worse.one_of

graded : (answer : LotAnswer) → answer ≡ lot_answer critical_b_and_severe_c → answer.number ≡ 0 → answer.grade ≡ 2
unfolding computing critical_b_and_severe_c
graded answer promise accepted =
    worse_first 2 0 answer.grade (omega arith) ((lot_grades critical_b_and_severe_c answer promise accepted).worse_of 2 defect_grade_holds)

by_prerequisite : (answer : LotAnswer) → answer ≡ lot_answer prerequisite_worse → answer.number ≡ 0 → answer.grade ≡ 2
unfolding computing prerequisite_worse
by_prerequisite answer promise accepted =
    worse_second 1 2 answer.grade (omega arith) ((lot_grades prerequisite_worse answer promise accepted).worse_of 1 defect_grade_better)

-- ---- one minor defect more

-- bytes that two lots of 36 share
shared : (lot lot' : List ℕ) → length lot ≡ 36 → length lot' ≡ 36 → all (λ at. eqb (byte lot at) (byte lot' at)) (up_from 0 27) ≡ true
    → byte lot 35 ≡ byte lot' 35 → AlikeLots lot lot'
shared lot lot' whole whole' before last = record { same_length = whole ∙ sym whole'; same_bytes = λ at. ⊎_elim (in_front at) (behind at) }
  where
    in_front : (at : ℕ) → at < 27 → byte lot at ≡ byte lot' at
    in_front at inside = eqb-true (byte lot at) (byte lot' at) (all_each 27 (λ at. eqb (byte lot at) (byte lot' at)) before at inside)

    behind_end : (list : List ℕ) (at : ℕ) → length list ≡ 36 → 35 < at → byte list at ≡ 0
    behind_end list at whole past = get_or-eq_default list 0 (omega arith)

    behind : (at : ℕ) → 34 < at → byte lot at ≡ byte lot' at
    behind at past = go (eq-or-lt_of_le past)
      where
        go : (35 ≡ at) ⊎ (35 < at) → byte lot at ≡ byte lot' at
        go (inl same) = rw (← same) last
        go (inr later) = behind_end lot at whole later ∙ sym (behind_end lot' at whole' later)

alike : AlikeLots at_number_at29_units_aql125 above_number_at29_units_aql125
unfolding computing at_number_at29_units_aql125 above_number_at29_units_aql125
alike = shared at_number_at29_units_aql125 above_number_at29_units_aql125 refl refl refl refl

fewer : NoMoreDefects at_number_at29_units_aql125 above_number_at29_units_aql125
unfolding at_number_at29_units_aql125 above_number_at29_units_aql125
fewer zero k = omega arith
fewer (suc zero) k = omega arith
fewer (suc (suc zero)) k = omega arith
fewer (suc (suc (suc zero))) k = omega arith
fewer (suc (suc (suc (suc kind)))) k = absurd (omega arith)

pub lot_instances : LotInstances
unfolding computing critical_b_and_severe_c
lot_instances =
    record {
      first_row = first_row;
      falls_too = falls_too;
      refused = refused;
      defect_grade_holds = defect_grade_holds;
      critical_is_b = own 0 (omega arith);
      severe_is_c = own 1 (omega arith);
      graded = graded;
      lowest_of = λ answer promise accepted. (lot_grades critical_b_and_severe_c answer promise accepted).lowest_of own_grades own;
      defect_grade_better = defect_grade_better;
      by_prerequisite = by_prerequisite;
      fewer_minor = λ grade grade' first second.
          lot_fewer_defects at_number_at29_units_aql125 above_number_at29_units_aql125 grade grade' first second alike fewer;
      larger_aql = lot_table.larger_aql 29 40 50 (inr (inr (inr (inl refl)))) (inr (inr (inr (inl refl)))) (inr (inr (inr (inr (inl refl))))) (omega arith);
    }

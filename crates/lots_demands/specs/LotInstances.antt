-- Lots once more, proved from the theorems and not by computing the answer: statements for fewer lots, or without one of the parts used
-- here, would no longer give these.
use Rattle.std.specs.Prelude.{ℕ, zero, suc, ◌≤◌, ◌≡◌}
use Rattle.lots.specs.Acceptance.{acceptance_number}
use Rattle.lots.specs.Answer.{lot_answer}
use Rattle.lots.specs.declared.LotAnswer.{LotAnswer}
use Rattle.lots_demands.specs.LotGrounds.{LotRow, FirstLotRow}
use Rattle.lots_demands.specs.LotGrades.{DefectGrade, ClassGrade, LowestOf}
use Rattle.lots_demands.specs.LotFewerDefects.{AcceptedWith}
use Rattle.lots_demands.specs.ComputedLots.{unlisted_aql_before_fall, critical_b_and_severe_c, prerequisite_worse, at_number_at29_units_aql125, above_number_at29_units_aql125}

-- the grades of critical, severe, major and total in a lot that is B by critical and C by severe
abbrev pub own_grades : ℕ → ℕ
own_grades zero = 1
own_grades (suc zero) = 2
own_grades (suc (suc class)) = 0

pub record LotInstances : Type 0 where
  -- an AQL that is not listed, and one that falls in an earlier class: 21 is the first row met, and is returned
  pub first_row : FirstLotRow unlisted_aql_before_fall 21
  pub falls_too : LotRow unlisted_aql_before_fall 22
  pub refused : (answer : LotAnswer) → answer ≡ lot_answer unlisted_aql_before_fall → (answer.number ≡ 21) × (answer.grade ≡ 3) × (answer.offset ≡ 0)
  -- critical is B and severe C: C is the best that admits all classes, and the lowest of the classes' own grades
  pub defect_grade_holds : DefectGrade critical_b_and_severe_c 2
  pub critical_is_b : ClassGrade critical_b_and_severe_c 0 1
  pub severe_is_c : ClassGrade critical_b_and_severe_c 1 2
  pub graded : (answer : LotAnswer) → answer ≡ lot_answer critical_b_and_severe_c → answer.number ≡ 0 → answer.grade ≡ 2
  pub lowest_of : (answer : LotAnswer) → answer ≡ lot_answer critical_b_and_severe_c → answer.number ≡ 0
      → LowestOf critical_b_and_severe_c own_grades answer.grade
  -- B by defects, and C by the prerequisite
  pub defect_grade_better : DefectGrade prerequisite_worse 1
  pub by_prerequisite : (answer : LotAnswer) → answer ≡ lot_answer prerequisite_worse → answer.number ≡ 0 → answer.grade ≡ 2
  -- 29 defects and 30, alike but for one minor: the first never grades lower (computed, they are A and S)
  pub fewer_minor : (grade grade' : ℕ) → AcceptedWith at_number_at29_units_aql125 grade → AcceptedWith above_number_at29_units_aql125 grade' → grade ≤ grade'
  -- at 29 units, AQL 4.0 and 5.0
  pub larger_aql : acceptance_number 29 40 ≤ acceptance_number 29 50

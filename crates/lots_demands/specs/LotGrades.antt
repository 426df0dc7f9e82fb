-- The grade of an accepted lot, told by what it is and not by how it is found.
use Rattle.std.specs.Prelude.{ℕ, ◌≤◌, ◌<◌, ◌≡◌, List, ◌⊎◌, ◌↔◌}
use Rattle.lots.specs.Acceptance.{acceptance_number}
use Rattle.lots.specs.Answer.{lot_answer}
use Rattle.lots.specs.declared.LotAnswer.{LotAnswer}
use Rattle.lots_demands.specs.LotFields.{sample_units_at, aql_at, class_count, prerequisite_at}

-- "A grade admits a class whose count is not above its acceptance number."
abbrev pub Admits : List ℕ → ℕ → ℕ → Type 0
Admits lot grade class = class_count lot class ≤ acceptance_number (sample_units_at lot) (aql_at lot grade class)

abbrev pub AdmitsAll : List ℕ → ℕ → Type 0
AdmitsAll lot grade = (class : ℕ) → class < 4 → Admits lot grade class

-- a grade is the best of A, B and C, 0 to 2, that has a property, and Substandard, 3, exactly if none has
pub record BestWith (Has : ℕ → Type 0) (grade : ℕ) : Type 0 where
  pub has : grade < 3 → Has grade
  pub none_better : (better : ℕ) → better < grade → better < 3 → Has better → ⊥
  pub substandard : (grade ≡ 3) ↔ ((other : ℕ) → other < 3 → Has other → ⊥)

-- "The defect grade is the best that admits all classes, and Substandard exactly if none does"
abbrev pub DefectGrade : List ℕ → ℕ → Type 0
DefectGrade lot = BestWith (AdmitsAll lot)

-- the grade of a class by itself: the best that admits it
abbrev pub ClassGrade : List ℕ → ℕ → ℕ → Type 0
ClassGrade lot class = BestWith (λ grade. Admits lot grade class)

-- the worse of two grades is one of them, and neither is worse
pub record WorseOf (first second grade : ℕ) : Type 0 where
  pub one_of : (grade ≡ first) ⊎ (grade ≡ second)
  pub first_not_worse : first ≤ grade
  pub second_not_worse : second ≤ grade

-- the lowest of the grades of the classes and of the prerequisite grade
pub record LowestOf (lot : List ℕ) (class_grade : ℕ → ℕ) (grade : ℕ) : Type 0 where
  pub one_of : (grade ≡ prerequisite_at lot) ⊎ ((class : ℕ) × (class < 4) × (grade ≡ class_grade class))
  pub no_class_lower : (class : ℕ) → class < 4 → class_grade class ≤ grade
  pub prerequisite_not_lower : prerequisite_at lot ≤ grade

pub record LotGraded (lot : List ℕ) (grade : ℕ) : Type 0 where
  -- there is a defect grade, and whichever it is: "the lot grade is the worse of it and the prerequisite"
  pub has_defect_grade : (defect : ℕ) × DefectGrade lot defect
  pub worse_of : (defect : ℕ) → DefectGrade lot defect → WorseOf defect (prerequisite_at lot) grade
  -- steps 8 and 9 of source document 003: each class has its grade, and the lot "the lowest grade given to any prerequisite or
  -- classification of defects"
  pub has_class_grades : (class : ℕ) → class < 4 → (graded : ℕ) × ClassGrade lot class graded
  pub lowest_of : (class_grade : ℕ → ℕ) → ((class : ℕ) → class < 4 → ClassGrade lot class (class_grade class)) → LowestOf lot class_grade grade

-- for every lot that is accepted, as the promises of `grade_lot` and `hatmuyon_grade_lot` say
abbrev pub LotGrades : Type 0
LotGrades = (lot : List ℕ) (answer : LotAnswer) → answer ≡ lot_answer lot → answer.number ≡ 0 → LotGraded lot answer.grade

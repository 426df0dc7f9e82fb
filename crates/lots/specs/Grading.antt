-- The grade of a lot: plain counts against acceptance numbers, class by class.
use Rattle.std.specs.Prelude.{ℕ, Bool, cond, List, leb}
use Rattle.units.specs.Conditions.{all}
use Rattle.units.specs.Words.{substandard, worse}
use Rattle.lots.specs.Layout.{classes, sample_units, aql_of, count_of_class, prerequisite}
use Rattle.lots.specs.Acceptance.{acceptance_number}

module _ (lot : List ℕ) where
  -- "A grade admits a class whose count is not above its acceptance number."
  unfoldable pub admits_class : ℕ → ℕ → Bool
  admits_class grade class = leb (count_of_class lot class).0 (acceptance_number (sample_units lot) (aql_of lot grade class))

  unfoldable pub admits : ℕ → Bool
  admits grade = all (admits_class grade) classes

  -- "The defect grade is the best that admits all classes, and Substandard exactly if none does"
  unfoldable pub defect_grade : ℕ
  defect_grade = cond (admits 0) 0 (cond (admits 1) 1 (cond (admits 2) 2 substandard))

  -- "the lot grade is the worse of it and the prerequisite"
  unfoldable pub lot_grade : ℕ
  lot_grade = worse defect_grade (prerequisite lot)

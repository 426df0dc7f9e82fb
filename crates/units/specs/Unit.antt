-- Grading a unit, rules 1 to 4, and whether it qualifies: under the plan of a grade, from the CuSums before it, by its counts,
-- which are in tenths throughout, as CuSums are.
use Rattle.std.specs.Prelude.{ℕ, ◌+◌, Bool, cond, ◌&&◌, List, map, ltb, leb, eqb}
use Rattle.cusum.specs.declared.PlanNumbers.{PlanNumbers}
use Rattle.cusum.specs.declared.Cusum.{Cusum}
use Rattle.cusum.specs.Step.{start_of, fails, new_cusum, overshoot}
use Rattle.units.specs.Conditions.{any, all}
use Rattle.units.specs.Words.{substandard, has_plan, worse, classes, Table, row_of, in_class, numbers_of, count_tenths, tenths_in}
use Rattle.units.specs.declared.Grading.{Grading}
use Rattle.units.specs.declared.SteppedClasses.{SteppedClasses}

-- rule 1: every CuSum begins at the S of its own class and plan
unfoldable pub starting : List PlanNumbers → List Cusum
starting row = map (λ class. start_of (in_class row class)) classes

module _ (table : Table) where
  -- a class fails under the plan in force; where there is none, no class fails
  unfoldable pub class_fails : ℕ → List Cusum → List ℕ → ℕ → Bool
  class_fails grade cusums tenths class =
      has_plan grade && fails (numbers_of table grade class) (tenths_in cusums class) (count_tenths tenths class)

  -- the new CuSum of a class; where there is no plan, zero
  unfoldable pub class_cusum : ℕ → List Cusum → List ℕ → ℕ → ℕ
  class_cusum grade cusums tenths class =
      cond (has_plan grade) (new_cusum (numbers_of table grade class) (tenths_in cusums class) (count_tenths tenths class)) 0

  unfoldable pub new_cusums : ℕ → List Cusum → List ℕ → List Cusum
  new_cusums grade cusums tenths = map (λ class. record { tenths = class_cusum grade cusums tenths class }) classes

  -- the overshoot of a class; where there is no plan, zero
  unfoldable pub class_overshoot : ℕ → List Cusum → List ℕ → ℕ → ℕ
  class_overshoot grade cusums tenths class =
      cond (has_plan grade) (overshoot (numbers_of table grade class) (tenths_in cusums class) (count_tenths tenths class)) 0

  unfoldable pub new_overshoots : ℕ → List Cusum → List ℕ → List ℕ
  new_overshoots grade cusums tenths = map (class_overshoot grade cusums tenths) classes

  -- rule 3: the unit fails if a class fails
  unfoldable pub unit_fails : ℕ → List Cusum → List ℕ → Bool
  unit_fails grade cusums tenths = any (class_fails grade cusums tenths) classes

-- ten times the count is in no class above a bound that goes by the class's S, T and L
unfoldable pub none_above : (PlanNumbers → ℕ) → List PlanNumbers → List ℕ → Bool
none_above bound row tenths = all (λ class. leb (count_tenths tenths class) (bound (in_class row class))) classes

-- a plan admits the counts if its T+L is not exceeded by ten times the count in any class
unfoldable pub admits : List PlanNumbers → List ℕ → Bool
admits = none_above (λ numbers. numbers.tolerance + numbers.limit)

module _ (table : Table) where
  -- the best grade lower than this one that admits the counts; Substandard exactly if none does
  unfoldable pub best_lower : ℕ → List ℕ → ℕ
  best_lower grade tenths =
      cond (ltb grade 1 && admits (row_of table 1) tenths) 1
      (cond (ltb grade 2 && admits (row_of table 2) tenths) 2
      substandard)

  -- the grade of the plan in force if the unit meets it, else the best lower grade; where there is no plan, Substandard
  unfoldable pub defect_grade : ℕ → List Cusum → List ℕ → ℕ
  defect_grade grade cusums tenths = cond (unit_fails table grade cusums tenths) (best_lower grade tenths) grade

-- rule 4: the portion grade is the worse of defect grade and prerequisite grade; a recovered portion gets the worse of designated
-- grade and prerequisite grade
unfoldable pub portion_grade_of : ℕ → ℕ → ℕ → Bool → ℕ
portion_grade_of designated defect_grade prerequisite recovered = worse (cond recovered designated defect_grade) prerequisite

-- all CuSums are zero
unfoldable pub all_zero : List Cusum → Bool
all_zero cusums = all (λ class. eqb (tenths_in cusums class) 0) classes

-- no count exceeds the T of its class
unfoldable pub within_tolerance : List PlanNumbers → List ℕ → Bool
within_tolerance = none_above (λ numbers. numbers.tolerance)

-- a unit in step 3 qualifies if all its CuSums are zero (so they are where there is no plan) and no count exceeds the designated T of
-- its class
unfoldable pub qualifies : Table → ℕ → List Cusum → List ℕ → Bool
qualifies table designated cusums tenths = all_zero cusums && within_tolerance (row_of table designated) tenths

-- a unit graded under the plan of a grade: that grade, the CuSums before the unit, its counts
abbrev pub grading_of : Table → ℕ → List Cusum → List ℕ → Grading
grading_of table grade cusums tenths =
    record {
      cusums = new_cusums table grade cusums tenths;
      overshoots = new_overshoots table grade cusums tenths;
      fails = unit_fails table grade cusums tenths;
      grade = defect_grade table grade cusums tenths;
    }

-- for contracts: rule 2 in every class at once, under the plan of a grade, and under a row of the table
abbrev pub stepped_under : Table → ℕ → List Cusum → List ℕ → SteppedClasses
stepped_under table grade cusums tenths =
    record {
      cusums = new_cusums table grade cusums tenths;
      overshoots = new_overshoots table grade cusums tenths;
      fails = unit_fails table grade cusums tenths;
    }

unfoldable pub stepped_in : List PlanNumbers → List Cusum → List ℕ → SteppedClasses
stepped_in row cusums tenths =
    record {
      cusums = map (λ class. record { tenths = new_cusum (in_class row class) (tenths_in cusums class) (count_tenths tenths class) }) classes;
      overshoots = map (λ class. overshoot (in_class row class) (tenths_in cusums class) (count_tenths tenths class)) classes;
      fails = any (λ class. fails (in_class row class) (tenths_in cusums class) (count_tenths tenths class)) classes;
    }

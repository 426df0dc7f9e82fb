-- The line and its words: grades, classes, the plan's table, a sample unit's counts by class, the CuSum and the overshoot of a class.
use Rattle.std.specs.Prelude.{ℕ, zero, suc, ◌+◌, ◌*◌, max, Bool, List, [], ◌∷◌, map, ltb, get_or, length}
use Rattle.cusum.specs.Counts.{defect_tenths}
use Rattle.cusum.specs.declared.Defects.{Defects}
use Rattle.cusum.specs.declared.PlanNumbers.{PlanNumbers}
use Rattle.cusum.specs.declared.Cusum.{Cusum}
use Rattle.units.specs.declared.Plan.{Plan}
use Rattle.units.specs.declared.SampleUnit.{SampleUnit}

-- grades run A, B, C, Substandard, best first, coded 0, 1, 2, 3; the designated grade is A, B or C
abbrev pub substandard : ℕ
substandard = 3

-- there is a plan for A, B and C, and none for Substandard
unfoldable pub has_plan : ℕ → Bool
has_plan grade = ltb grade substandard

-- the grades that have a plan
abbrev pub planned_grades : List ℕ
planned_grades = 0 ∷ 1 ∷ 2 ∷ []

-- the worse of two grades
abbrev pub worse : ℕ → ℕ → ℕ
worse = max

-- classes are critical, severe, major and total, always in that order
abbrev pub classes : List ℕ
classes = 0 ∷ 1 ∷ 2 ∷ 3 ∷ []

-- the plan is a table of three grades by four classes: a row for each grade, in it S, T and L for each class
abbrev pub Table : Type 0
Table = List (List PlanNumbers)

-- what stands for S, T and L where there is no plan
abbrev pub no_numbers : PlanNumbers
no_numbers = record { start = 0; tolerance = 0; limit = 0 }

-- in every class
abbrev pub no_row : List PlanNumbers
no_row = map (λ class. no_numbers) classes

-- the plan of a grade
abbrev pub row_of : Table → ℕ → List PlanNumbers
row_of table grade = get_or table grade no_row

-- S, T and L of a class
abbrev pub in_class : List PlanNumbers → ℕ → PlanNumbers
in_class row class = get_or row class no_numbers

-- S, T and L of a class in the plan of a grade
abbrev pub numbers_of : Table → ℕ → ℕ → PlanNumbers
numbers_of table grade class = in_class (row_of table grade) class

-- a plan holds the cells of its table one after the other, grade by grade and in each class by class
abbrev pub cell_of : Plan → ℕ → PlanNumbers
cell_of plan cell = get_or plan.numbers cell no_numbers

-- so many numbers, one after the other from the first, as the grades that have a plan, the classes and the cells are numbered
abbrev pub up_from : ℕ → ℕ → List ℕ
up_from first zero = []
up_from first (suc size) = first ∷ up_from (suc first) size

-- the table of a plan
abbrev pub table_of : Plan → Table
table_of plan = map (λ grade. map (λ class. cell_of plan (length classes * grade + class)) classes) planned_grades

-- total is the sum of critical, severe, major and minor (here a count has no largest; the code sums tenths)
abbrev pub total : SampleUnit → Defects
total unit = record { 0 = unit.critical.0 + unit.severe.0 + unit.major.0 + unit.minor.0 }

-- a unit's counts by class
abbrev pub counts_of : SampleUnit → List Defects
counts_of unit = unit.critical ∷ unit.severe ∷ unit.major ∷ total unit ∷ []

-- the same in tenths, as S, T and L are kept: a defect is ten tenths
abbrev pub tenths_of : SampleUnit → List ℕ
tenths_of unit = map defect_tenths (counts_of unit)

-- the count of a class, in tenths
abbrev pub count_tenths : List ℕ → ℕ → ℕ
count_tenths tenths class = get_or tenths class 0

-- the CuSum where no plan is in force
abbrev pub zero_cusum : Cusum
zero_cusum = record { tenths = 0 }

-- the CuSum of a class, in tenths
abbrev pub tenths_in : List Cusum → ℕ → ℕ
tenths_in cusums class = (get_or cusums class zero_cusum).tenths

-- the overshoots where no plan is in force, and where every class met
abbrev pub no_overshoots : List ℕ
no_overshoots = map (λ class. 0) classes

-- the overshoot of a class, in tenths
abbrev pub overshoot_for : List ℕ → ℕ → ℕ
overshoot_for overshoots class = get_or overshoots class 0

-- Demand 2: an accepted sheet gets, unit by unit, exactly the CuSums, overshoots, portion grades, recoveries and code grades of the
-- rules. (No sheet is refused unless a listed ground applies: `Demand2Grounds` in `Grounds`.)
use Rattle.std.specs.Prelude.{ℕ, suc, ◌+◌, ◌<◌, ◌≤◌, ◌≡◌, true, false, List, [], ◌∷◌, ◌++◌, ◌↔◌, length, Some}
use Rattle.encoding.specs.Bytes.{byte, number}
use Rattle.units.specs.Words.{substandard, classes, worse}
use Rattle.rules.specs.Sheet.{in_force_at}
use Rattle.anchors.specs.TwoInARow.{second_in_a_row}
use Rattle.anchors.specs.Anchor.{class_fails_at, restart_at, tenths_from}
use Rattle.layout.specs.Layout.{code_offset, offset, mark, units_before}
use Rattle.layout.specs.declared.Mark.TheVariants.{RedesignationMark}
use Rattle.results.specs.Record.{mark_in, code_in, plan_grade_in, standing_in}
use Rattle.outcome.specs.declared.Answer.{Answer}
use Rattle.tally.specs.Outcome.{records_in}
use Rattle.tally.specs.Accepted.{AcceptedAs, sheet_in, UnitAt, recorded_cusum, recorded_overshoot, recorded_portion_grade, recorded_code_grade, numbers_in_force}
use Rattle.grounds.specs.Tells.{Tells}
use Rattle.answers.specs.Grounds.{start_in, tolerance_in, limit_in, IsUnit, IsRedesignation}
use Rattle.courses.specs.Course.{Course, ten_times_count, prerequisite, ClassFails, UnitFails, SecondFails, Recovered, Restart, Rules, LowerPlans, SameBefore, SameAt}

-- ---- what is recorded of a unit

-- for the unit that is record i: mark and code of the result record, grade of the plan in force, standing
abbrev pub recorded_mark : List ℕ → List ℕ → ℕ → ℕ
recorded_mark bytes results i = mark_in results (units_before bytes i)

abbrev pub recorded_code : List ℕ → List ℕ → ℕ → ℕ
recorded_code bytes results i = code_in results (units_before bytes i)

abbrev pub recorded_plan_grade : List ℕ → List ℕ → ℕ → ℕ
recorded_plan_grade bytes results i = plan_grade_in results (units_before bytes i)

abbrev pub recorded_standing : List ℕ → List ℕ → ℕ → ℕ
recorded_standing bytes results i = standing_in results (units_before bytes i)

-- the production code of the unit that is record i
abbrev pub code_of : List ℕ → ℕ → ℕ
code_of bytes i = number bytes (offset bytes i + code_offset)

pub record UnitRecorded (bytes results : List ℕ) (course : Course) (i : ℕ) : Type 0 where
  pub mark : recorded_mark bytes results i ≡ 0x4752
  -- (that the sheet is made of bytes, as every sheet is, the other fields need not know)
  pub code : ((place : ℕ) → byte bytes place < 256) → recorded_code bytes results i ≡ code_of bytes i
  pub plan_grade_holds : recorded_plan_grade bytes results i ≡ course.plan_grade i
  pub cusums : (class : ℕ) → class < length classes → recorded_cusum bytes results i class ≡ course.new_cusum i class
  pub overshoots : (class : ℕ) → class < length classes → recorded_overshoot bytes results i class ≡ course.overshoot i class
  -- a class fails exactly if its overshoot is above zero
  pub overshoot_tells : (class : ℕ) → class < length classes → ClassFails bytes course i class ↔ (0 < recorded_overshoot bytes results i class)
  -- and no class is over by more than its own defects at this unit
  pub overshoot_at_most : (class : ℕ) → class < length classes → recorded_overshoot bytes results i class ≤ ten_times_count bytes i class
  -- rule 4: the portion grade is the worse of defect grade and prerequisite grade; of a recovered portion the worse of designated grade
  -- and prerequisite grade
  pub portion : (Recovered bytes course i → ⊥) → recorded_portion_grade bytes results i ≡ worse (course.defect_grade i) (prerequisite bytes i)
  pub recovered_portion : Recovered bytes course i → recorded_portion_grade bytes results i ≡ worse (course.designated i) (prerequisite bytes i)
  -- standing: 0 met the designated plan, 1 failed it, 2 in step 3 and not recovered, 3 recovered
  pub standing_met : course.in_step_three i ≡ false → (UnitFails bytes course i → ⊥) → recorded_standing bytes results i ≡ 0
  pub standing_failed : course.in_step_three i ≡ false → UnitFails bytes course i → recorded_standing bytes results i ≡ 1
  pub standing_not_recovered : course.in_step_three i ≡ true → (Recovered bytes course i → ⊥) → recorded_standing bytes results i ≡ 2
  pub standing_recovered : Recovered bytes course i → recorded_standing bytes results i ≡ 3

-- ---- the code grade

-- a unit with the same code, anywhere on the sheet, whose portion grade is the code grade
pub record HasCodeGrade (bytes results : List ℕ) (i : ℕ) : Type 0 where
  pub index : ℕ
  pub unit : UnitAt bytes index
  pub same_code : code_of bytes index ≡ code_of bytes i
  pub same_grade : recorded_portion_grade bytes results index ≡ recorded_code_grade bytes results i

-- the code grade is the worst portion grade among all units of the sheet with that code, adjoining or not
pub record WorstOfCode (bytes results : List ℕ) (i : ℕ) : Type 0 where
  pub none_worse : (j : ℕ) → UnitAt bytes j → code_of bytes j ≡ code_of bytes i → recorded_portion_grade bytes results j ≤ recorded_code_grade bytes results i
  pub one_has_it : HasCodeGrade bytes results i

-- ---- the demand

-- words for records that the demands take from the definitions mean what the bytes say: a record of the sheet is one that begins before
-- the sheet's end, and a unit and a redesignation are told by their marks
pub record SameRecords (bytes : List ℕ) : Type 0 where
  pub inside : (i : ℕ) → (i < records_in bytes) ↔ (offset bytes i < length bytes)
  pub unit : (i : ℕ) → UnitAt bytes i ↔ ((offset bytes i < length bytes) × IsUnit bytes i)
  pub redesignation : (i : ℕ) → (mark bytes i ≡ Some RedesignationMark) ↔ IsRedesignation bytes i

-- words that demand 3 takes from the definitions mean what the course says: a class fails, the second of two failures of the designated
-- plan, a restart, the grade of the plan in force, its S, T and L; and what the bytes say: the counts of a class from a record on
pub record SameWords (bytes : List ℕ) (course : Course) : Type 0 where
  pub class_fails_holds : (i class : ℕ) → UnitAt bytes i → class < length classes → Tells (class_fails_at (sheet_in bytes) class i) (ClassFails bytes course i class)
  pub only_units_fail : (i class : ℕ) → (UnitAt bytes i → ⊥) → class_fails_at (sheet_in bytes) class i ≡ false
  pub second_fails : (i : ℕ) → Tells (second_in_a_row (sheet_in bytes) i) (SecondFails bytes course i)
  pub restart : (i : ℕ) → i < records_in bytes → Tells (restart_at (sheet_in bytes) i) (Restart bytes course i)
  pub plan_grade_holds : (i : ℕ) → in_force_at (sheet_in bytes) i ≡ course.plan_grade i
  pub numbers : (i class : ℕ) → course.plan_grade i < substandard → class < length classes →
      let numbers = numbers_in_force bytes i class in
      let grade = course.plan_grade i in
      (numbers.start ≡ start_in bytes grade class) × (numbers.tolerance ≡ tolerance_in bytes grade class) × (numbers.limit ≡ limit_in bytes grade class)
  -- the counts from a record on, in tenths: of a unit ten times its count in the class, of any other record none, and so on record by
  -- record
  pub tenths_of_unit : (i class : ℕ) → UnitAt bytes i → tenths_from (sheet_in bytes) class i 1 ≡ ten_times_count bytes i class ∷ []
  pub tenths_of_other : (i class : ℕ) → (UnitAt bytes i → ⊥) → tenths_from (sheet_in bytes) class i 1 ≡ []
  pub tenths_of_none : (class from : ℕ) → tenths_from (sheet_in bytes) class from 0 ≡ []
  pub tenths_go_on : (class from records : ℕ) →
      let tenths = tenths_from (sheet_in bytes) class in
      tenths from (suc records) ≡ tenths from records ++ tenths (from + records) 1

-- of an accepted sheet and the result buffer as it is left: its course follows the rules, with what they come to where another lower plan
-- starts; every other that follows them agrees with it at every unit, and before every record and behind the last; and it is what is
-- recorded
pub record GradedByRules (bytes results : List ℕ) : Type 0 where
  pub course : Course
  pub rules : Rules bytes course
  pub lower_plans : LowerPlans bytes course
  pub only_course : (other : Course) → Rules bytes other → (i : ℕ) → UnitAt bytes i → SameAt course other i
  pub only_course_before : (other : Course) → Rules bytes other → (i : ℕ) → i ≤ records_in bytes → SameBefore course other i
  pub recorded : (i : ℕ) → UnitAt bytes i → UnitRecorded bytes results course i
  pub code_grades : (i : ℕ) → UnitAt bytes i → WorstOfCode bytes results i
  pub same_records : SameRecords bytes
  pub same_words : SameWords bytes course

-- for every accepted sheet
abbrev pub Demand2Records : Type 0
Demand2Records =
    (bytes buffer : List ℕ) (answer : Answer) (results : List ℕ) → AcceptedAs bytes buffer answer results → GradedByRules bytes results

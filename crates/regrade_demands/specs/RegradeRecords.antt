-- Demand 2 for regradings: what an accepted one gets, unit by unit, said a second time by what stands in the bytes of the sheet and of the
-- second plan and by place, without the functions that grade. "Failed units stay in their order", those that failed when they were recorded
-- and those that fail now: each has its record at its own place, and its CuSums go on.
use Rattle.std.specs.Prelude.{ℕ, suc, ◌+◌, ◌<◌, ◌≤◌, ◌≡◌, false, List, [], ◌∷◌, ◌++◌, ◌↔◌, length}
use Rattle.encoding.specs.Bytes.{byte}
use Rattle.units.specs.Words.{substandard, classes, worse}
use Rattle.outcome.specs.declared.Answer.{Answer}
use Rattle.grounds.specs.Tells.{Tells}
use Rattle.anchors.specs.Anchor.{tenths_from}
use Rattle.tally.specs.Outcome.{records_in}
use Rattle.tally.specs.Accepted.{UnitAt, recorded_cusum, recorded_overshoot, recorded_portion_grade}
use Rattle.answers.specs.Grounds.{tolerance_in, limit_in, IsRedesignation, IsBreak}
use Rattle.courses.specs.Course.{ten_times_count, prerequisite}
use Rattle.courses.specs.Demand2.{recorded_mark, recorded_code, recorded_plan_grade, recorded_standing, code_of, WorstOfCode, SameRecords}
use Rattle.regrade_demands.specs.RegradeAccepted.{RegradedAs, regraded_sheet, second_designated, second_start, second_tolerance, second_limit, second_numbers, fails_regraded_at}

-- before record i the CuSum of each class; of the unit that is record i its CuSums, its overshoots and its defect grade. CuSums and
-- overshoots are tenths
pub record RegradeCourse : Type 0 where
  pub cusum : ℕ → ℕ → ℕ
  pub new_cusum : ℕ → ℕ → ℕ
  pub overshoot : ℕ → ℕ → ℕ
  pub defect_grade : ℕ → ℕ

-- rule 2 in a class, by old CuSum + ten times the count; the raw value is this less T. Above L the class fails and the CuSum becomes L, below
-- zero it becomes 0, otherwise it is the raw value; the overshoot is raw value less L, or zero where the class met
pub record RuleTwoBy (reached tolerance limit new over : ℕ) : Type 0 where
  pub fails : tolerance + limit < reached → new ≡ limit
  pub below : reached < tolerance → new ≡ 0
  pub between : tolerance ≤ reached → reached ≤ tolerance + limit → new + tolerance ≡ reached
  pub over_by : tolerance + limit < reached → over + (tolerance + limit) ≡ reached
  pub not_over : reached ≤ tolerance + limit → over ≡ 0

module _ (bytes plan : List ℕ) (course : RegradeCourse) where
  -- old CuSum + ten times the count; the raw value is this less T
  abbrev pub reached_regraded : ℕ → ℕ → ℕ
  reached_regraded i class = course.cusum i class + ten_times_count bytes i class

  -- a class fails at a unit: the raw value is above L
  abbrev pub ClassFailsRegraded : ℕ → ℕ → Type 0
  ClassFailsRegraded i class = second_tolerance plan class + second_limit plan class < reached_regraded i class

  -- rule 3: a unit fails if a class fails
  pub record UnitFailsRegraded (i : ℕ) : Type 0 where
    pub class : ℕ
    pub a_class : class < length classes
    pub fails : ClassFailsRegraded i class

  -- a grade of the second plan admits the counts: its T+L is not exceeded by ten times the count in any class
  abbrev pub AdmitsUnder : ℕ → ℕ → Type 0
  AdmitsUnder i grade = (class : ℕ) → class < length classes → ten_times_count bytes i class ≤ tolerance_in plan grade class + limit_in plan grade class

  -- a grade is the best lower one that admits the counts; it is Substandard exactly if none does
  pub record BestLowerUnder (i grade : ℕ) : Type 0 where
    pub lower : second_designated plan < grade
    pub a_grade : grade ≤ substandard
    pub admits : grade < substandard → AdmitsUnder i grade
    pub none_better : (better : ℕ) → second_designated plan < better → better < grade → AdmitsUnder i better → ⊥

  -- rule 3: the defect grade of a unit that meets is the designated one, of a unit that fails the best lower one
  pub record RuleThreeUnder (i : ℕ) : Type 0 where
    pub meets : (UnitFailsRegraded i → ⊥) → course.defect_grade i ≡ second_designated plan
    pub fails : UnitFailsRegraded i → BestLowerUnder i (course.defect_grade i)

  -- which course a sheet takes under the second plan, record by record
  pub record RegradeRules : Type 0 where
    -- the opening: every class at its S
    pub opening : (class : ℕ) → class < length classes → course.cusum 0 class ≡ second_start plan class
    -- units, graded by rules 2 and 3 under the second plan's designated grade
    pub rule_two : (i class : ℕ) → UnitAt bytes i → class < length classes
        → RuleTwoBy (reached_regraded i class) (second_tolerance plan class) (second_limit plan class) (course.new_cusum i class) (course.overshoot i class)
    pub rule_three : (i : ℕ) → UnitAt bytes i → RuleThreeUnder i
    -- behind a unit its CuSums go on, whether it failed or not and whatever failed before it: "the rule of two in a row doesn't apply"
    pub unit_goes_on : (i class : ℕ) → UnitAt bytes i → class < length classes → course.cusum (suc i) class ≡ course.new_cusum i class
    -- "breaks restart"
    pub break_restarts : (i class : ℕ) → IsBreak bytes i → class < length classes → course.cusum (suc i) class ≡ second_start plan class
    -- "redesignations are passed over"
    pub redesignation_passed : (i class : ℕ) → IsRedesignation bytes i → class < length classes → course.cusum (suc i) class ≡ course.cusum i class

-- what is recorded of the unit that is record i
pub record RegradeRecorded (bytes plan results : List ℕ) (course : RegradeCourse) (i : ℕ) : Type 0 where
  pub mark : recorded_mark bytes results i ≡ 0x4752
  -- (that the sheet is made of bytes, as every sheet is, the other fields need not know)
  pub code : ((place : ℕ) → byte bytes place < 256) → recorded_code bytes results i ≡ code_of bytes i
  pub plan_grade_holds : recorded_plan_grade bytes results i ≡ second_designated plan
  pub cusums : (class : ℕ) → class < length classes → recorded_cusum bytes results i class ≡ course.new_cusum i class
  pub overshoots : (class : ℕ) → class < length classes → recorded_overshoot bytes results i class ≡ course.overshoot i class
  -- a class fails exactly if its overshoot is above zero
  pub overshoot_tells : (class : ℕ) → class < length classes → ClassFailsRegraded bytes plan course i class ↔ (0 < recorded_overshoot bytes results i class)
  -- and no class is over by more than its own defects at this unit
  pub overshoot_at_most : (class : ℕ) → class < length classes → recorded_overshoot bytes results i class ≤ ten_times_count bytes i class
  -- rule 4, "Prerequisites and codes count as before": no portion is recovered
  pub portion : recorded_portion_grade bytes results i ≡ worse (course.defect_grade i) (prerequisite bytes i)
  -- "standing is 0 or 1": met, failed
  pub standing_met : (UnitFailsRegraded bytes plan course i → ⊥) → recorded_standing bytes results i ≡ 0
  pub standing_failed : UnitFailsRegraded bytes plan course i → recorded_standing bytes results i ≡ 1

-- two courses agree at the unit that is record i
pub record SameRegradedAt (course other : RegradeCourse) (i : ℕ) : Type 0 where
  pub new_cusums_holds : (class : ℕ) → class < length classes → course.new_cusum i class ≡ other.new_cusum i class
  pub overshoots : (class : ℕ) → class < length classes → course.overshoot i class ≡ other.overshoot i class
  pub defect_grade_holds : course.defect_grade i ≡ other.defect_grade i

-- of an accepted regrading and the result buffer as it is left
pub record RegradedByRules (bytes plan results : List ℕ) : Type 0 where
  pub course : RegradeCourse
  pub rules : RegradeRules bytes plan course
  -- every other course that follows the rules agrees with it before every record and behind the last, and at every unit
  pub only_course_before : (other : RegradeCourse) → RegradeRules bytes plan other → (i class : ℕ) → i ≤ records_in bytes → class < length classes
      → course.cusum i class ≡ other.cusum i class
  pub only_course : (other : RegradeCourse) → RegradeRules bytes plan other → (i : ℕ) → UnitAt bytes i → SameRegradedAt course other i
  pub recorded : (i : ℕ) → UnitAt bytes i → RegradeRecorded bytes plan results course i
  -- "Prerequisites and codes count as before": the worst portion grade among all units of the sheet with that code
  pub code_grades : (i : ℕ) → UnitAt bytes i → WorstOfCode bytes results i
  -- words of demand 3 mean what the course says and what the bytes say: a class fails; S, T and L; the counts of a class; records and units
  pub class_fails_holds : (i class : ℕ) → UnitAt bytes i → class < length classes
      → Tells (fails_regraded_at (regraded_sheet bytes plan) class i) (ClassFailsRegraded bytes plan course i class)
  pub only_units_fail : (i class : ℕ) → (UnitAt bytes i → ⊥) → fails_regraded_at (regraded_sheet bytes plan) class i ≡ false
  pub numbers : (class : ℕ) → class < length classes →
      let numbers = second_numbers bytes plan class in
      (numbers.start ≡ second_start plan class) × (numbers.tolerance ≡ second_tolerance plan class) × (numbers.limit ≡ second_limit plan class)
  -- the counts of a class from a record on: none of no record, and one for each further record that is a unit
  pub tenths_of_none : (class from : ℕ) → tenths_from (regraded_sheet bytes plan) class from 0 ≡ []
  pub tenths_go_on : (class from records : ℕ) →
      let tenths = tenths_from (regraded_sheet bytes plan) class in
      tenths from (suc records) ≡ tenths from records ++ tenths (from + records) 1
  pub tenths_of_unit : (i class : ℕ) → UnitAt bytes i → tenths_from (regraded_sheet bytes plan) class i 1 ≡ ten_times_count bytes i class ∷ []
  pub tenths_of_other : (i class : ℕ) → (UnitAt bytes i → ⊥) → tenths_from (regraded_sheet bytes plan) class i 1 ≡ []
  -- which records the sheet has, and which of them are units
  pub same_records : SameRecords bytes

-- for every accepted regrading
abbrev pub RegradeGraded : Type 0
RegradeGraded =
    (bytes plan buffer : List ℕ) (answer : Answer) (results : List ℕ) → RegradedAs bytes plan buffer answer results → RegradedByRules bytes plan results

-- Each demand once more on concrete sheets of several units and in every class, written out here and proved from the demand's own
-- theorem: a demand stated for fewer sheets, records, units or classes, or without one of the parts used here, would no longer give these.
use Rattle.std.specs.Prelude.{ℕ, zero, suc, ◌+◌, ◌*◌, ◌<◌, ◌≤◌, ◌≡◌, Bool, true, false, List, [], ◌∷◌, ◌++◌, ◌↔◌, length, drop, pos}
use Rattle.cusum.specs.LargestForm.{largest_form, anchor_value}
use Rattle.units.specs.Words.{substandard, classes, worse, tenths_in}
use Rattle.units.specs.declared.SampleUnit.{SampleUnit}
use Rattle.units.specs.declared.Entry.{Entry}
use Rattle.units.specs.declared.Entry.TheVariants.{UnitRecord, Break}
use Rattle.rules.specs.Sheet.{Sheet, before, graded_at}
use Rattle.anchors.specs.TwoInARow.{second_in_a_row}
use Rattle.anchors.specs.Anchor.{class_fails_at, tenths_from, Anchor, Latest}
use Rattle.results.specs.Record.{result_size}
use Rattle.tally.specs.Accepted.{sheet_in, recorded_cusum, recorded_overshoot, recorded_portion_grade, recorded_code_grade, numbers_in_force}
use Rattle.regrade.specs.Regrading.{cusums_before, regraded_at}
use Rattle.lookup.specs.declared.Part.{Part}
use Rattle.lookup.specs.Lookup.{lookup}
use Rattle.answers.specs.Grounds.{tolerance_in, limit_in}
use Rattle.answers.specs.AnswerInstances.{AnswerInstances}
use Rattle.courses.specs.Course.{Course, ten_times_count, prerequisite, ClassFails, UnitFails, SecondFailsLower, Qualifies, ThreeQualify, Recovered, Rules}
use Rattle.courses.specs.Demand2.{recorded_mark, recorded_code, recorded_plan_grade, recorded_standing, code_of}
use Rattle.demands.specs.Demand3.{AnchorAt}
use Rattle.demands.specs.CusumsFit.{sheet_behind}
use Rattle.demands.specs.LookupGraded.{unit_records, LookupInSheet}
use Rattle.regrade_demands.specs.RegradeRecords.{RegradeCourse, RegradeRules}
use Rattle.regrade_demands.specs.RegradeSheets.{largest_cusums_regraded, two_failures_before_redesignation}
use Rattle.regrade_demands.specs.RegradeInstances.{more_left}
use Rattle.computed.specs.WorkedCases.{peach, peach_results}
use Rattle.computed.specs.FurtherSheets.{break_between_failures, break_between_failures_results, every_kind_of_record, every_kind_of_record_results, every_lower_plan, every_lower_plan_results, one_minor_defect_fewer, one_minor_defect_fewer_results, one_severe_defect_fewer, one_severe_defect_fewer_results, raw_value_at_limit, raw_value_at_limit_results, no_defect_in_place_of_one, no_defect_in_place_of_one_results, largest_plan, largest_cusums}

-- ---- the sheets

-- a buffer as it is left: the result records of so many units, and the bytes behind them as they were
abbrev pub left : List ℕ → ℕ → List ℕ → List ℕ
left results units buffer = results ++ drop (result_size * units) buffer

-- the peach sheet, whose seven records are units, and the sheet with every kind of record: units are its records 0, 1, 3, 5, 6 and 8, of
-- which the last has no plan; records 2 and 4 are redesignations, the first keeps step 3 and the second ends it; record 7 is a break
abbrev pub peach_left : List ℕ → List ℕ
peach_left buffer = left peach_results 7 buffer

abbrev pub every_kind_left : List ℕ → List ℕ
every_kind_left buffer = left every_kind_of_record_results 6 buffer

-- the sheet of seven units with every lower plan: its records 0 and 1 fail A, records 2 and 3 B, records 4 and 5 C, and record 6 has none
abbrev pub lower_plans_left : List ℕ → List ℕ
lower_plans_left buffer = left every_lower_plan_results 7 buffer

-- the standings of a unit
pub data Standing : Type 0 where
  met failed not_recovered recovered : Standing

-- their units, each with its standing
abbrev pub peach_standings : List (ℕ × Standing)
peach_standings = (0, met) ∷ (1, failed) ∷ (2, failed) ∷ (3, recovered) ∷ (4, recovered) ∷ (5, not_recovered) ∷ (6, met) ∷ []

abbrev pub every_kind_standings : List (ℕ × Standing)
every_kind_standings = (0, failed) ∷ (1, failed) ∷ (3, not_recovered) ∷ (5, failed) ∷ (6, failed) ∷ (8, not_recovered) ∷ []

-- those with a plan in force
abbrev pub peach_planned : List ℕ
peach_planned = 0 ∷ 1 ∷ 2 ∷ 3 ∷ 4 ∷ 5 ∷ 6 ∷ []

abbrev pub lower_plans_planned : List ℕ
lower_plans_planned = 0 ∷ 1 ∷ 2 ∷ 3 ∷ 4 ∷ 5 ∷ []

abbrev pub every_kind_planned : List ℕ
every_kind_planned = 0 ∷ 1 ∷ 3 ∷ 5 ∷ 6 ∷ []

-- a statement for each member of a list
abbrev pub Each : {A : Type 0} → List A → (A → Type 0) → Type 0
Each [] P = Unit
Each (member ∷ members) P = P member × Each members P

-- ---- demand 2

-- how a standing is recorded: 0 met the designated plan, 1 failed it, 2 in step 3 and not recovered, 3 recovered
unfoldable pub standing_byte : Standing → ℕ
standing_byte met = 0
standing_byte failed = 1
standing_byte not_recovered = 2
standing_byte recovered = 3

-- and what it says of the unit that is record i
unfoldable pub StandingSays : List ℕ → Course → ℕ → Standing → Type 0
StandingSays bytes course i met = (course.in_step_three i ≡ false) × (UnitFails bytes course i → ⊥)
StandingSays bytes course i failed = (course.in_step_three i ≡ false) × ((UnitFails bytes course i → ⊥) → ⊥)
StandingSays bytes course i not_recovered = (course.in_step_three i ≡ true) × (Recovered bytes course i → ⊥)
StandingSays bytes course i recovered = (Recovered bytes course i → ⊥) → ⊥

-- the portion grade is the worse of this and the prerequisite grade
unfoldable pub grade_by : Course → ℕ → Standing → ℕ
grade_by course i met = course.defect_grade i
grade_by course i failed = course.defect_grade i
grade_by course i not_recovered = course.defect_grade i
grade_by course i recovered = course.designated i

-- what a course says of the unit that is record i, and what is recorded of it
pub record UnitInstance (bytes results : List ℕ) (course : Course) (i : ℕ) (given : Standing) : Type 0 where
  pub mark : recorded_mark bytes results i ≡ 0x4752
  pub code : recorded_code bytes results i ≡ code_of bytes i
  pub plan_grade_holds : recorded_plan_grade bytes results i ≡ course.plan_grade i
  pub cusums : (class : ℕ) → class < length classes → recorded_cusum bytes results i class ≡ course.new_cusum i class
  pub overshoots : (class : ℕ) → class < length classes → recorded_overshoot bytes results i class ≡ course.overshoot i class
  pub standing : recorded_standing bytes results i ≡ standing_byte given
  pub standing_says : StandingSays bytes course i given
  pub portion : recorded_portion_grade bytes results i ≡ worse (grade_by course i given) (prerequisite bytes i)
  -- rule 2 in every class: above T+L the new CuSum is L and the overshoot what is above, below T the CuSum is zero, between it is the
  -- raw value
  pub above : (class : ℕ) → class < length classes → course.plan_grade i < substandard
      → tolerance_in bytes (course.plan_grade i) class + limit_in bytes (course.plan_grade i) class < course.cusum i class + ten_times_count bytes i class
      → (course.new_cusum i class ≡ limit_in bytes (course.plan_grade i) class)
      × (course.overshoot i class + (tolerance_in bytes (course.plan_grade i) class + limit_in bytes (course.plan_grade i) class)
      ≡ course.cusum i class + ten_times_count bytes i class)
  pub below : (class : ℕ) → class < length classes → course.plan_grade i < substandard
      → course.cusum i class + ten_times_count bytes i class < tolerance_in bytes (course.plan_grade i) class → course.new_cusum i class ≡ 0
  pub between : (class : ℕ) → class < length classes → course.plan_grade i < substandard
      → tolerance_in bytes (course.plan_grade i) class ≤ course.cusum i class + ten_times_count bytes i class
      → course.cusum i class + ten_times_count bytes i class ≤ tolerance_in bytes (course.plan_grade i) class + limit_in bytes (course.plan_grade i) class
      → course.new_cusum i class + tolerance_in bytes (course.plan_grade i) class ≡ course.cusum i class + ten_times_count bytes i class
  -- not above T+L nothing is over; without a plan CuSum and overshoot are zero
  pub not_above : (class : ℕ) → class < length classes → course.plan_grade i < substandard
      → course.cusum i class + ten_times_count bytes i class ≤ tolerance_in bytes (course.plan_grade i) class + limit_in bytes (course.plan_grade i) class
      → course.overshoot i class ≡ 0
  pub without_plan : (class : ℕ) → class < length classes → course.plan_grade i ≡ substandard → (course.new_cusum i class ≡ 0) × (course.overshoot i class ≡ 0)
  -- a class fails exactly if its recorded overshoot is above zero, and none is over by more than its own defects at this unit
  pub overshoot_tells : (class : ℕ) → class < length classes → ClassFails bytes course i class ↔ (0 < recorded_overshoot bytes results i class)
  pub overshoot_at_most : (class : ℕ) → class < length classes → recorded_overshoot bytes results i class ≤ ten_times_count bytes i class

-- an accepted sheet with the buffer as it is left: a course by the rules, which is what is recorded of each of its units
pub record CourseInstance (bytes results : List ℕ) (standings : List (ℕ × Standing)) : Type 0 where
  pub course : Course
  pub rules : Rules bytes course
  pub units : Each standings (λ (i, standing). UnitInstance bytes results course i standing)

-- behind record i, a unit in step 3, another lower plan is recorded: of this course it is the second of two failures of the lower plan,
-- both at the same one, and does not qualify, no run has it in it, step 3 and the designated grade stay, and the new grade is worse
pub record LowerPlanInstance (bytes results : List ℕ) (course : Course) (i : ℕ) : Type 0 where
  pub second_fails : (SecondFailsLower bytes course i → ⊥) → ⊥
  pub same_plan : (first : ℕ) → i ≡ suc first → course.plan_grade i ≡ course.plan_grade first
  pub not_qualifying : Qualifies bytes course i → ⊥
  pub no_run : (first : ℕ) → ThreeQualify bytes course first → first ≤ i → i ≤ first + 2 → ⊥
  pub step_three_stays : course.in_step_three (suc i) ≡ true
  pub designated_stays : course.designated (suc i) ≡ course.designated i
  pub worse_grade : recorded_plan_grade bytes results i < recorded_plan_grade bytes results (suc i)

pub record LowerPlansInstance (bytes results : List ℕ) (starts : List ℕ) : Type 0 where
  pub course : Course
  pub rules : Rules bytes course
  pub lower_plans : Each starts (LowerPlanInstance bytes results course)

-- a code of records i and j and no other: the code grade of either is the worse of their portion grades
pub record CodeInstance (bytes results : List ℕ) (i j : ℕ) : Type 0 where
  pub first : recorded_code_grade bytes results i ≡ worse (recorded_portion_grade bytes results i) (recorded_portion_grade bytes results j)
  pub second : recorded_code_grade bytes results j ≡ worse (recorded_portion_grade bytes results i) (recorded_portion_grade bytes results j)

-- ---- demand 3

-- a sheet at each of its units with a plan and in every class, in every buffer with room for its result records
pub record LargestInstance (bytes results : List ℕ) (units : ℕ) (planned : List ℕ) : Type 0 where
  -- there is a latest anchor
  pub an_anchor : Each planned (λ i. (class : ℕ) → class < length classes → AnchorAt bytes i class)
  -- and from the latest anchor, wherever it lies, the recorded CuSum is the largest of its form
  pub largest_of : (buffer : List ℕ) → result_size * units ≤ length buffer
      → Each planned (λ i. (class : ℕ) → class < length classes
      → (from records : ℕ) (at_failure : Bool) → from + records ≡ suc i
      → Anchor (sheet_in bytes) class i from at_failure → Latest (sheet_in bytes) class i from
      → pos (recorded_cusum bytes (left results units buffer) i class)
      ≡ largest_form (numbers_in_force bytes i class) (anchor_value (numbers_in_force bytes i class) at_failure) (tenths_from (sheet_in bytes) class from records))

-- one unit and class in numbers: its latest anchor, the counts since it in tenths, their largest form, and so the CuSum that is recorded
pub record LargestNumber (bytes results : List ℕ) (i class from : ℕ) (at_failure : Bool) (counts : List ℕ) (tenths : ℕ) : Type 0 where
  pub is_anchor : Anchor (sheet_in bytes) class i from at_failure
  pub latest : Latest (sheet_in bytes) class i from
  pub since : tenths_from (sheet_in bytes) class from (length counts) ≡ counts
  pub largest : largest_form (numbers_in_force bytes i class) (anchor_value (numbers_in_force bytes i class) at_failure) counts ≡ pos tenths
  pub recorded : recorded_cusum bytes results i class ≡ tenths

-- two sheets alike except that the first has a defect fewer, at these units: no CuSum is higher and no overshoot larger, in any class,
-- and no class fails anew
pub record NoHigherInstance (bytes bytes' results results' : List ℕ) (units : List ℕ) : Type 0 where
  pub cusums : Each units (λ i. (class : ℕ) → class < length classes → recorded_cusum bytes results i class ≤ recorded_cusum bytes' results' i class)
  pub overshoots : Each units (λ i. (class : ℕ) → class < length classes
      → recorded_overshoot bytes results i class ≤ recorded_overshoot bytes' results' i class)
  pub failures : Each units (λ i. (class : ℕ) → class < length classes
      → class_fails_at (sheet_in bytes) class i ≡ true → class_fails_at (sheet_in bytes') class i ≡ true)

-- no portion and no code grades lower
pub record NoLowerInstance (bytes bytes' results results' : List ℕ) (units : List ℕ) : Type 0 where
  pub portions : Each units (λ i. recorded_portion_grade bytes results i ≤ recorded_portion_grade bytes' results' i)
  pub codes : Each units (λ i. recorded_code_grade bytes results i ≤ recorded_code_grade bytes' results' i)

-- the sheet with a break between failures, and the same with one minor defect fewer in its last unit; units are records 0, 2 and 3
pub record FewerInstance (buffer buffer' : List ℕ) : Type 0 where
  pub no_higher : NoHigherInstance one_minor_defect_fewer break_between_failures
      (left one_minor_defect_fewer_results 3 buffer) (left break_between_failures_results 3 buffer') (0 ∷ 2 ∷ 3 ∷ [])
  pub no_lower : NoLowerInstance one_minor_defect_fewer break_between_failures
      (left one_minor_defect_fewer_results 3 buffer) (left break_between_failures_results 3 buffer') (0 ∷ 2 ∷ 3 ∷ [])
  -- both fail in total at records 0 and 2; at record 3 the first has the smaller CuSum in total
  pub fails : (class_fails_at (sheet_in one_minor_defect_fewer) 3 0 ≡ true) × (class_fails_at (sheet_in one_minor_defect_fewer) 3 2 ≡ true)
  pub smaller : recorded_cusum one_minor_defect_fewer (left one_minor_defect_fewer_results 3 buffer) 3 3
      < recorded_cusum break_between_failures (left break_between_failures_results 3 buffer') 3 3

-- the peach sheet, of which records 1 and 2 fail in a row, and the same with one severe defect fewer in its second unit: up to and
-- including record 2
pub record FewerTwiceInstance (buffer buffer' : List ℕ) : Type 0 where
  pub two_in_a_row_holds : second_in_a_row (sheet_in peach) 2 ≡ true
  pub no_higher : NoHigherInstance one_severe_defect_fewer peach (left one_severe_defect_fewer_results 7 buffer) (peach_left buffer') (0 ∷ 1 ∷ 2 ∷ [])
  -- both fail in total at records 1 and 2; at record 1 the first has the smaller CuSum in severe
  pub fails : (class_fails_at (sheet_in one_severe_defect_fewer) 3 1 ≡ true) × (class_fails_at (sheet_in one_severe_defect_fewer) 3 2 ≡ true)
  pub smaller : recorded_cusum one_severe_defect_fewer (left one_severe_defect_fewer_results 7 buffer) 1 1 < recorded_cusum peach (peach_left buffer') 1 1
  -- and there it is over by 3.0 in total, the peach sheet by 4.0
  pub less_over : (recorded_overshoot one_severe_defect_fewer (left one_severe_defect_fewer_results 7 buffer) 1 3 ≡ 30)
      × (recorded_overshoot peach (peach_left buffer') 1 3 ≡ 40)

-- two units of which the second is a tenth over L in total, and the same without its only defect: it meets
pub record FewerMeetsInstance (buffer buffer' : List ℕ) : Type 0 where
  pub no_higher : NoHigherInstance no_defect_in_place_of_one raw_value_at_limit
      (left no_defect_in_place_of_one_results 2 buffer) (left raw_value_at_limit_results 2 buffer') (0 ∷ 1 ∷ [])
  pub not_over : recorded_overshoot no_defect_in_place_of_one (left no_defect_in_place_of_one_results 2 buffer) 1 3 ≡ 0
  pub over : recorded_overshoot raw_value_at_limit (left raw_value_at_limit_results 2 buffer') 1 3 ≡ 1

-- ---- CuSums fit in two bytes

-- a unit with more defects than two bytes can count
abbrev pub many_defects : SampleUnit
many_defects =
    record {
      code = 1;
      critical = record { 0 = 1000000 };
      severe = record { 0 = 2000000 };
      major = record { 0 = 3000000 };
      minor = record { 0 = 4000000 };
      prerequisite = 0;
      recoverable = false;
    }

-- such units, a break behind each, so that step 3 never begins and the designated plan stays in force
unfoldable pub units_and_breaks : ℕ → Entry
units_and_breaks zero = UnitRecord many_defects
units_and_breaks (suc zero) = Break
units_and_breaks (suc (suc i)) = units_and_breaks i

-- behind the plan with the largest S and L, more of them than a sheet may have
abbrev pub many_units : List ℕ → Sheet
many_units plan = sheet_behind plan units_and_breaks 4000

-- that plan as it opens a sheet, and as a second plan: no CuSum of any class is above two bytes, before any of these records and of such a unit.
-- Nor is one in the sheet and in the regrading of three units under it, by any course that follows the rules
pub record FitInstance : Type 0 where
  pub before_record : (i class : ℕ) → class < length classes → tenths_in (before (many_units largest_cusums) i).cusums class < 65536
  pub of_unit : (i class : ℕ) → class < length classes → tenths_in (graded_at (many_units largest_cusums) i many_defects).cusums class < 65536
  pub before_record_regraded : (i class : ℕ) → class < length classes → tenths_in (cusums_before (many_units largest_plan) i) class < 65536
  pub of_unit_regraded : (i class : ℕ) → class < length classes → tenths_in (regraded_at (many_units largest_plan) i many_defects).cusums class < 65536
  pub in_grading : (course : Course) → Rules largest_cusums course → (class : ℕ) → class < length classes
      → (course.new_cusum 1 class < 65536) × (course.plan_grade 2 < substandard → course.cusum 2 class < 65536)
  pub in_regrading : (course : RegradeCourse) → RegradeRules largest_cusums_regraded largest_plan course → (class : ℕ) → class < length classes
      → (course.new_cusum 1 class < 65536) × (course.cusum 2 class < 65536)

-- ---- look-ups

-- a code of a sheet is looked up in its results: the answer, and what it says of the sheet
pub record LookupInstance (bytes results : List ℕ) (code : ℕ) (answer part : Part) : Type 0 where
  pub answered : part ≡ answer
  pub in_sheet : LookupInSheet bytes results code part

-- ---- together

pub record Instances : Type 0 where
  -- demand 1, and the grounds of demand 2
  pub answers : AnswerInstances
  -- demand 2, the records, in every buffer with room: the courses of two sheets; code 5 of the one, code 300, met again apart, of the other
  pub course : (buffer : List ℕ) → result_size * 7 ≤ length buffer → CourseInstance peach (peach_left buffer) peach_standings
  pub every_kind_course : (buffer : List ℕ) → result_size * 6 ≤ length buffer
      → CourseInstance every_kind_of_record (every_kind_left buffer) every_kind_standings
  -- behind records 3 and 5 another lower plan starts
  pub lower_plans : (buffer : List ℕ) → result_size * 7 ≤ length buffer → LowerPlansInstance every_lower_plan (lower_plans_left buffer) (3 ∷ 5 ∷ [])
  pub code_grades : (buffer : List ℕ) → result_size * 7 ≤ length buffer → CodeInstance peach (peach_left buffer) 4 5
  pub code_met_again_holds : (buffer : List ℕ) → result_size * 6 ≤ length buffer → CodeInstance every_kind_of_record (every_kind_left buffer) 0 8
  -- demand 3, the largest form
  pub largest_form_holds : LargestInstance peach peach_results 7 peach_planned
  pub every_kind_largest : LargestInstance every_kind_of_record every_kind_of_record_results 6 every_kind_planned
  pub lower_plans_largest : LargestInstance every_lower_plan every_lower_plan_results 7 lower_plans_planned
  -- in major at record 4, from the S behind record 3, where another lower plan starts: 1 + (7 - 6)
  pub largest_started : (buffer : List ℕ) → result_size * 7 ≤ length buffer
      → LargestNumber every_lower_plan (lower_plans_left buffer) 4 2 4 false (70 ∷ []) 20
  -- in major at record 6, from the S at record 4, a redesignation: of 1 + (0 - 6) + (9 - 6), (0 - 6) + (9 - 6) and 9 - 6 the last, a run
  pub largest_run : (buffer : List ℕ) → result_size * 6 ≤ length buffer
      → LargestNumber every_kind_of_record (every_kind_left buffer) 6 2 5 false (0 ∷ 90 ∷ []) 30
  -- in total at record 3, from the L at record 2, a failure: 4 + (5 - 6)
  pub largest_anchored : (buffer : List ℕ) → result_size * 3 ≤ length buffer
      → LargestNumber one_minor_defect_fewer (left one_minor_defect_fewer_results 3 buffer) 3 3 3 true (50 ∷ []) 30
  -- demand 3, fewer defects, in every two buffers with room
  pub fewer_defects : (buffer buffer' : List ℕ) → result_size * 3 ≤ length buffer → result_size * 3 ≤ length buffer' → FewerInstance buffer buffer'
  pub fewer_defects_twice : (buffer buffer' : List ℕ) → result_size * 7 ≤ length buffer → result_size * 7 ≤ length buffer'
      → FewerTwiceInstance buffer buffer'
  pub fewer_defects_meets : (buffer buffer' : List ℕ) → result_size * 2 ≤ length buffer → result_size * 2 ≤ length buffer'
      → FewerMeetsInstance buffer buffer'
  -- CuSums fit in two bytes
  pub cusums_fit : FitInstance
  -- look-ups in the results of the peach sheet: code 5 is found at offset 160, in the record of its second unit; code 6 is not on the sheet
  pub code_found : (buffer : List ℕ) → result_size * 7 ≤ length buffer → (part : Part) → part ≡ lookup (unit_records (peach_left buffer) 7) 5
      → LookupInstance peach (peach_left buffer) 5 (record { number = 0; offset = 160; length = 32 }) part
  pub code_not_found : (buffer : List ℕ) → result_size * 7 ≤ length buffer → (part : Part) → part ≡ lookup (unit_records (peach_left buffer) 7) 6
      → LookupInstance peach (peach_left buffer) 6 (record { number = 1; offset = 0; length = 0 }) part
  -- and in those of a regrading of four units, with a redesignation and a break among its records: code 3 is found at offset 64, in the
  -- record of the third
  pub code_found_regraded : (buffer : List ℕ) → result_size * 4 ≤ length buffer
      → (part : Part) → part ≡ lookup (unit_records (more_left buffer) 4) 3
      → LookupInstance two_failures_before_redesignation (more_left buffer) 3 (record { number = 0; offset = 64; length = 32 }) part

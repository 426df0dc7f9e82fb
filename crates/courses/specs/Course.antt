-- The rules of grading, said a second time: by what stands in the bytes of the sheet and by place, without the functions that grade.
-- A course tells what holds before each record and of each unit; the rules say which course a sheet takes, record by record.
use Rattle.std.specs.Prelude.{ℕ, zero, suc, ◌+◌, ◌*◌, ◌<◌, ◌≤◌, ◌≡◌, Bool, true, false, List, [], ◌∷◌, ◌⊎◌, length, get_or}
use Rattle.encoding.specs.Bytes.{byte, number}
use Rattle.units.specs.Words.{substandard, classes, worse}
use Rattle.layout.specs.Layout.{count_offset, prerequisite_offset, recoverable_offset, offset}
use Rattle.tally.specs.Accepted.{UnitAt}
use Rattle.answers.specs.Grounds.{start_in, tolerance_in, limit_in, IsRedesignation, IsBreak, new_grade, DesignatedJustBefore}

-- before record i: whether step 3 stands, the designated grade, the grade of the plan in force (3 if none), the CuSum of each class.
-- Of the unit that is record i: its CuSums, its overshoots and its defect grade. CuSums and overshoots are tenths
pub record Course : Type 0 where
  pub in_step_three : ℕ → Bool
  pub designated : ℕ → ℕ
  pub plan_grade : ℕ → ℕ
  pub cusum : ℕ → ℕ → ℕ
  pub new_cusum : ℕ → ℕ → ℕ
  pub overshoot : ℕ → ℕ → ℕ
  pub defect_grade : ℕ → ℕ

-- ---- a unit's counts

-- of a kind: critical, severe, major, minor
abbrev pub kind_count : List ℕ → ℕ → ℕ → ℕ
kind_count bytes i kind = number bytes (offset bytes i + count_offset kind)

-- of a class: critical, severe, major, and total, which is the sum of all four kinds
abbrev pub class_counts : List ℕ → ℕ → List ℕ
class_counts bytes i =
    kind_count bytes i 0 ∷ kind_count bytes i 1 ∷ kind_count bytes i 2
    ∷ (kind_count bytes i 0 + kind_count bytes i 1 + kind_count bytes i 2 + kind_count bytes i 3) ∷ []

-- ten times the count of a class
abbrev pub ten_times_count : List ℕ → ℕ → ℕ → ℕ
ten_times_count bytes i class = 10 * get_or (class_counts bytes i) class 0

-- the prerequisite grade of the unit that is record i
abbrev pub prerequisite : List ℕ → ℕ → ℕ
prerequisite bytes i = byte bytes (offset bytes i + prerequisite_offset)

-- a grade admits the counts: its T+L is not exceeded by ten times the count in any class
abbrev pub GradeAdmits : List ℕ → ℕ → ℕ → Type 0
GradeAdmits bytes i grade =
    (class : ℕ) → class < length classes → ten_times_count bytes i class ≤ tolerance_in bytes grade class + limit_in bytes grade class

module _ (bytes : List ℕ) (course : Course) where
  -- ---- the words

  -- old CuSum + ten times the count; the raw value is this less T
  abbrev pub reached : ℕ → ℕ → ℕ
  reached i class = course.cusum i class + ten_times_count bytes i class

  -- T and L of a class in the plan in force
  abbrev pub tolerance_at : ℕ → ℕ → ℕ
  tolerance_at i class = tolerance_in bytes (course.plan_grade i) class

  abbrev pub limit_at : ℕ → ℕ → ℕ
  limit_at i class = limit_in bytes (course.plan_grade i) class

  -- a class fails at a unit: there is a plan in force, and the raw value is above its L
  pub record ClassFails (i class : ℕ) : Type 0 where
    pub planned : course.plan_grade i < substandard
    pub above : tolerance_at i class + limit_at i class < reached i class

  -- rule 3: a unit fails if a class fails. Its prerequisite has no part in it (rule 4)
  pub record UnitFails (i : ℕ) : Type 0 where
    pub class : ℕ
    pub a_class : class < length classes
    pub fails : ClassFails i class

  -- record i is a unit that fails the plan in force, in step 3 or outside it
  pub record FailsInForce (step_three : Bool) (i : ℕ) : Type 0 where
    pub unit : UnitAt bytes i
    pub step_three_holds : course.in_step_three i ≡ step_three
    pub fails : UnitFails i

  -- that is the designated plan outside step 3, in it the lower plan
  abbrev pub FailsDesignated : ℕ → Type 0
  FailsDesignated = FailsInForce false

  abbrev pub FailsLower : ℕ → Type 0
  FailsLower = FailsInForce true

  -- two units in a row fail the designated plan, in the same class or not, and record i is the second: they are neighbours, so that a
  -- break or a redesignation between them forgets the first failure, and so does a unit that meets
  pub record SecondFails (i : ℕ) : Type 0 where
    pub first : ℕ
    pub next : i ≡ suc first
    pub first_fails : FailsDesignated first
    pub second_fails : FailsDesignated i

  -- two units in a row fail the lower plan, and record i is the second: neighbours again. Both come after the latest start of a lower
  -- plan: the first is not itself such a second, nor the failure that began step 3, which is one of the designated plan
  unfoldable pub SecondFailsLower : ℕ → Type 0
  SecondFailsLower zero = ⊥
  SecondFailsLower (suc first) = FailsLower first × (SecondFailsLower first → ⊥) × FailsLower (suc first)

  -- a unit in step 3 qualifies: all its CuSums are zero, as they are where there is no plan, and no count exceeds the designated T of
  -- its class
  pub record Qualifies (i : ℕ) : Type 0 where
    pub unit : UnitAt bytes i
    pub in_step_three_holds : course.in_step_three i ≡ true
    pub zero : (class : ℕ) → class < length classes → course.new_cusum i class ≡ 0
    pub within : (class : ℕ) → class < length classes → ten_times_count bytes i class ≤ tolerance_in bytes (course.designated i) class

  -- three in a row that qualify, from record `first` on: neighbours, so that any other record between them sets the run to none
  pub record ThreeQualify (first : ℕ) : Type 0 where
    pub one : Qualifies first
    pub two : Qualifies (suc first)
    pub three : Qualifies (suc (suc first))

  -- record i is the third of them
  pub record ThirdQualifies (i : ℕ) : Type 0 where
    pub first : ℕ
    pub last : i ≡ suc (suc first)
    pub in_a_row : ThreeQualify first

  -- it is one of them
  pub record AmongThree (i : ℕ) : Type 0 where
    pub first : ℕ
    pub from : first ≤ i
    pub to : i ≤ first + 2
    pub in_a_row : ThreeQualify first

  -- a portion is recovered: it is marked recoverable, and its unit is one of the three
  pub record Recovered (i : ℕ) : Type 0 where
    -- 1: "the portion is separately coded and within reach"
    pub marked : byte bytes (offset bytes i + recoverable_offset) ≡ 1
    pub among_three : AmongThree i

  -- a redesignation keeps step 3 and its CuSums: step 3 stands, and the new grade is better than the lower one
  abbrev pub KeepsStepThree : ℕ → Type 0
  KeepsStepThree i = (course.in_step_three i ≡ true) × (new_grade bytes i < course.plan_grade i)

  -- the restarts: a break, the start of step 3, that of another lower plan, the end of step 3, and every redesignation but one that
  -- keeps step 3
  pub data Restart (i : ℕ) : Type 0 where
    at_break : IsBreak bytes i → Restart i
    step_three_begins : SecondFails i → Restart i
    another_lower_plan : SecondFailsLower i → Restart i
    step_three_ends : ThirdQualifies i → Restart i
    at_redesignation : IsRedesignation bytes i → (KeepsStepThree i → ⊥) → Restart i

  -- ---- grading a unit, in a class

  -- rule 2. With a plan in force: a raw value above L fails, and the CuSum becomes L; below zero it becomes 0; otherwise it is the raw
  -- value. The overshoot is "raw value less L, or zero where the class met". Without a plan both are zero
  pub record RuleTwo (i class : ℕ) : Type 0 where
    pub fails : ClassFails i class → course.new_cusum i class ≡ limit_at i class
    pub below : course.plan_grade i < substandard → reached i class < tolerance_at i class → course.new_cusum i class ≡ 0
    pub between : course.plan_grade i < substandard → tolerance_at i class ≤ reached i class
        → reached i class ≤ tolerance_at i class + limit_at i class → course.new_cusum i class + tolerance_at i class ≡ reached i class
    pub over : ClassFails i class → course.overshoot i class + (tolerance_at i class + limit_at i class) ≡ reached i class
    pub not_over : (ClassFails i class → ⊥) → course.overshoot i class ≡ 0
    pub no_plan : course.plan_grade i ≡ substandard → (course.new_cusum i class ≡ 0) × (course.overshoot i class ≡ 0)

  -- a grade is the best that is lower than that of the plan in force and admits the counts; it is Substandard exactly if none does
  pub record BestLowerGrade (i grade : ℕ) : Type 0 where
    pub lower : course.plan_grade i < grade
    pub a_grade : grade ≤ substandard
    pub admits : grade < substandard → GradeAdmits bytes i grade
    pub none_better : (better : ℕ) → course.plan_grade i < better → better < grade → GradeAdmits bytes i better → ⊥

  -- rule 3: the defect grade is that of the plan in force if the unit meets it, else the best lower grade. Without a plan no class fails,
  -- and it is 3, Substandard
  pub record RuleThree (i : ℕ) : Type 0 where
    pub meets : (UnitFails i → ⊥) → course.defect_grade i ≡ course.plan_grade i
    pub fails : UnitFails i → BestLowerGrade i (course.defect_grade i)

  -- ---- the rules

  pub record Rules : Type 0 where
    -- the designated grade is the new grade of the latest redesignation, or that of the plan
    pub designated : (i : ℕ) → DesignatedJustBefore bytes i (course.designated i)
    -- the opening: outside step 3, and every class of the designated plan at its S (rule 1)
    pub opening : course.in_step_three 0 ≡ false
    pub opening_cusums : (class : ℕ) → class < length classes → course.cusum 0 class ≡ start_in bytes (course.designated 0) class
    -- units
    pub rule_two : (i class : ℕ) → UnitAt bytes i → class < length classes → RuleTwo i class
    pub rule_three : (i : ℕ) → UnitAt bytes i → RuleThree i
    -- the plan in force: outside step 3 the designated one; after the second of two failures of the designated or of the lower plan that
    -- of the worse of the two defect grades, which stays until the next such second failure or the end of step 3
    pub designated_plan : (i : ℕ) → course.in_step_three i ≡ false → course.plan_grade i ≡ course.designated i
    pub lower_plan : (i : ℕ) → SecondFails (suc i) ⊎ SecondFailsLower (suc i)
        → course.plan_grade (suc (suc i)) ≡ worse (course.defect_grade i) (course.defect_grade (suc i))
    pub lower_stays : (i : ℕ) → course.in_step_three i ≡ true → course.in_step_three (suc i) ≡ true → (SecondFailsLower i → ⊥)
        → course.plan_grade (suc i) ≡ course.plan_grade i
    -- step 3 begins after the second of two failures of the designated plan and nowhere else
    pub begins : (i : ℕ) → SecondFails i → course.in_step_three (suc i) ≡ true
    pub not_begun : (i : ℕ) → course.in_step_three i ≡ false → (SecondFails i → ⊥) → course.in_step_three (suc i) ≡ false
    -- a unit ends it if it is the third in a row that qualifies, a break never, a redesignation unless its grade is better than the lower
    pub ends : (i : ℕ) → ThirdQualifies i → course.in_step_three (suc i) ≡ false
    pub unit_stays : (i : ℕ) → UnitAt bytes i → course.in_step_three i ≡ true → (ThirdQualifies i → ⊥) → course.in_step_three (suc i) ≡ true
    pub break_stays : (i : ℕ) → IsBreak bytes i → course.in_step_three i ≡ true → course.in_step_three (suc i) ≡ true
    pub redesignation_stays : (i : ℕ) → IsRedesignation bytes i → KeepsStepThree i → course.in_step_three (suc i) ≡ true
    pub redesignation_ends : (i : ℕ) → IsRedesignation bytes i → (KeepsStepThree i → ⊥) → course.in_step_three (suc i) ≡ false
    -- after a restart every class of the plan then in force is at its S; else the CuSums go on
    pub restarts : (i class : ℕ) → Restart i → course.plan_grade (suc i) < substandard → class < length classes
        → course.cusum (suc i) class ≡ start_in bytes (course.plan_grade (suc i)) class
    pub unit_goes_on : (i class : ℕ) → UnitAt bytes i → (Restart i → ⊥) → class < length classes → course.cusum (suc i) class ≡ course.new_cusum i class
    pub redesignation_goes_on : (i class : ℕ) → IsRedesignation bytes i → (Restart i → ⊥) → class < length classes
        → course.cusum (suc i) class ≡ course.cusum i class

-- what the rules come to, on an accepted sheet, where another lower plan starts behind record i, the second of two failures of the lower
-- plan. (Which grade that is, `lower_plan` says; that every class is at its S, `restarts`; where no lower plan starts, `lower_stays`.)
pub record LowerPlans (bytes : List ℕ) (course : Course) : Type 0 where
  -- both failures are at the same plan
  pub same_plan : (i : ℕ) → SecondFailsLower bytes course (suc i) → course.plan_grade (suc i) ≡ course.plan_grade i
  -- the new lower grade is worse
  pub worse_grade : (i : ℕ) → SecondFailsLower bytes course i → course.plan_grade i < course.plan_grade (suc i)
  -- step 3 stands on, and the designated grade stays
  pub step_three_stays : (i : ℕ) → SecondFailsLower bytes course i → course.in_step_three (suc i) ≡ true
  pub designated_stays : (i : ℕ) → SecondFailsLower bytes course i → course.designated (suc i) ≡ course.designated i
  -- a unit that fails does not qualify, so that the run of qualifying units is none: no three in a row have it among them
  pub failing_not_qualifying : (i : ℕ) → UnitFails bytes course i → Qualifies bytes course i → ⊥
  pub no_run : (i first : ℕ) → SecondFailsLower bytes course i → ThreeQualify bytes course first → first ≤ i → i ≤ first + 2 → ⊥

-- two courses agree before record i; its CuSums count only under a plan
pub record SameBefore (course other : Course) (i : ℕ) : Type 0 where
  pub step_three_holds : course.in_step_three i ≡ other.in_step_three i
  pub designated : course.designated i ≡ other.designated i
  pub plan_grade_holds : course.plan_grade i ≡ other.plan_grade i
  pub cusums : course.plan_grade i < substandard → (class : ℕ) → class < length classes → course.cusum i class ≡ other.cusum i class

-- two courses agree at the unit that is record i; the CuSums before it count only under a plan
pub record SameAt (course other : Course) (i : ℕ) : Type 0 where
  pub step_three_holds : course.in_step_three i ≡ other.in_step_three i
  pub designated : course.designated i ≡ other.designated i
  pub plan_grade_holds : course.plan_grade i ≡ other.plan_grade i
  pub old_cusums : course.plan_grade i < substandard → (class : ℕ) → class < length classes → course.cusum i class ≡ other.cusum i class
  pub new_cusums_holds : (class : ℕ) → class < length classes → course.new_cusum i class ≡ other.new_cusum i class
  pub overshoots : (class : ℕ) → class < length classes → course.overshoot i class ≡ other.overshoot i class
  pub defect_grade_holds : course.defect_grade i ≡ other.defect_grade i

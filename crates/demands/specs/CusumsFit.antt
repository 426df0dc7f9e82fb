-- The overfull CuSum (paper 02, A.7): "no accepted plan and no counts lead to it". No CuSum is too large for the two bytes that a result
-- record has for it, so that none is cut off and there is nothing to refuse. First over the rules, behind an accepted plan and with any records
-- at all: with more units than a sheet may have, and with counts that no two bytes hold. And so of every grading and of every regrading.
use Rattle.std.specs.Prelude.{ℕ, ◌+◌, ◌*◌, ◌<◌, ◌≤◌, ◌≡◌, List, length}
use Rattle.cusum.specs.Step.{largest_tenths}
use Rattle.cusum.specs.declared.Cusum.{Cusum}
use Rattle.cusum.proofs.Cusum.largest.Statement as largest
use Rattle.units.specs.Words.{substandard, classes, table_of, tenths_in}
use Rattle.units.specs.declared.SampleUnit.{SampleUnit}
use Rattle.units.specs.declared.Entry.{Entry}
use Rattle.rules.specs.Sheet.{Sheet, before, graded_at}
use Rattle.layout.specs.Layout.{plan_of}
use Rattle.outcome.specs.declared.Answer.{Answer}
use Rattle.tally.specs.Outcome.{records_in}
use Rattle.tally.specs.Accepted.{AcceptedAs, UnitAt}
use Rattle.regrade.specs.Regrading.{cusums_before, regraded_at}
use Rattle.answers.specs.Grounds.{PlanRow}
use Rattle.courses.specs.Course.{Course, Rules}
use Rattle.regrade_demands.specs.RegradeAccepted.{RegradedAs}
use Rattle.regrade_demands.specs.RegradeRecords.{RegradeCourse, RegradeRules}

-- ---- behind an accepted plan

-- an accepted plan: none of the grounds 1 to 5 applies. It is read from the start of the bytes, which may be a sheet or a second plan
abbrev pub AcceptedPlan : List ℕ → Type 0
AcceptedPlan bytes = (number : ℕ) → PlanRow bytes number → ⊥

-- behind it any records, in any order: units with any counts, redesignations to any grade, breaks. (A CuSum does not go by how many there
-- are in all.)
abbrev pub sheet_behind : List ℕ → (ℕ → Entry) → ℕ → Sheet
sheet_behind plan entry size = record { table = table_of (plan_of plan); designated = (plan_of plan).designated; entry = entry; size = size }

-- none of these is "a CuSum too large for two bytes"
abbrev pub AllFit : List Cusum → Type 0
AllFit cusums = (class : ℕ) → class < length classes → tenths_in cusums class ≤ largest_tenths

-- CuSums at a record, whichever it is, behind whichever accepted plan and among whichever records
abbrev pub FitBehindPlan : (Sheet → ℕ → List Cusum) → Type 0
FitBehindPlan cusums = (plan : List ℕ) → AcceptedPlan plan → (entry : ℕ → Entry) (size i : ℕ) → AllFit (cusums (sheet_behind plan entry size) i)

-- ---- of a grading and of a regrading, told by place

-- the CuSums of a course: before every record and behind the last, where a plan is in force, and of every unit
pub record FitInCourse (bytes : List ℕ) (course : Course) : Type 0 where
  pub before_record : (i class : ℕ) → i ≤ records_in bytes → course.plan_grade i < substandard → class < length classes
      → course.cusum i class ≤ largest_tenths
  pub of_unit : (i class : ℕ) → UnitAt bytes i → class < length classes → course.new_cusum i class ≤ largest_tenths

-- by whatever course follows the rules of an accepted sheet
abbrev pub FitInGrading : Type 0
FitInGrading =
    (bytes buffer : List ℕ) (answer : Answer) (results : List ℕ) → AcceptedAs bytes buffer answer results
    → (course : Course) → Rules bytes course → FitInCourse bytes course

-- the same of a regrading, where a plan always is in force
pub record FitInRegradeCourse (bytes : List ℕ) (course : RegradeCourse) : Type 0 where
  pub before_record : (i class : ℕ) → i ≤ records_in bytes → class < length classes → course.cusum i class ≤ largest_tenths
  pub of_regraded_unit : (i class : ℕ) → UnitAt bytes i → class < length classes → course.new_cusum i class ≤ largest_tenths

abbrev pub FitInRegrading : Type 0
FitInRegrading =
    (bytes plan buffer : List ℕ) (answer : Answer) (results : List ℕ) → RegradedAs bytes plan buffer answer results
    → (course : RegradeCourse) → RegradeRules bytes plan course → FitInRegradeCourse bytes course

-- ---- together

pub record CusumsFit : Type 2 where
  -- the most tenths that two bytes hold, in the code `Cusum::LARGEST_TENTHS`
  pub two_bytes_holds : largest_tenths + 1 ≡ 256 * 256
  pub promise_of_largest : {M : Type 1} → largest.statement M
  -- as sheets are graded: before every record, and of whatever unit stands there, whatever its counts
  pub before_record : FitBehindPlan (λ sheet i. (before sheet i).cusums)
  pub of_unit : (unit : SampleUnit) → FitBehindPlan (λ sheet i. (graded_at sheet i unit).cusums)
  -- as they are regraded, where the plan is the second one
  pub before_record_regraded : FitBehindPlan cusums_before
  pub of_unit_regraded : (unit : SampleUnit) → FitBehindPlan (λ sheet i. (regraded_at sheet i unit).cusums)
  -- and so no grading and no regrading leads to one
  pub in_grading : FitInGrading
  pub in_regrading : FitInRegrading

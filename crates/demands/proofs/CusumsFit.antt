-- Every CuSum fits in two bytes: it is at most its L, whatever the counts, and an L of an accepted plan is at most 9,999. Of an accepted sheet or
-- regrading by the course that the definitions take, with which every other that follows the rules agrees.
use Prim.Native.Nat.{ℕ}
use mathlib.Core.Path.{◌≡◌, refl}
use mathlib.Core.List.{List}
use native.Mathlib.Omega.{arith}
use Rattle.cusum.proofs.Cusum.largest.Met as largest
use Rattle.units.specs.Words.{tenths_of}
use Rattle.units.specs.Unit.{class_cusum, new_cusums}
use Rattle.units.specs.declared.SampleUnit.{SampleUnit}
use Rattle.units.specs.declared.Entry.{Entry}
use Rattle.units.proofs.Bounds.{new_cusum_le}
use Rattle.units.proofs.Classes.{at_class}
use Rattle.rules.specs.StepThree.{graded}
use Rattle.rules.specs.Sheet.{Sheet, before, in_force_at, graded_at}
use Rattle.rules.proofs.FailingUnits.{within_limit}
use Rattle.rules.proofs.GradedClasses.{cusum_graded}
use Rattle.layout.specs.Layout.{entry_at}
use Rattle.sheet.specs.Refusals.{plan_refusal}
use Rattle.sheet.proofs.Ranges.{limit_le, start_le_limit}
use Rattle.recording.specs.Sheet.{sheet_of}
use Rattle.tally.specs.Outcome.{records_in}
use Rattle.tally.specs.Accepted.{sheet_in}
use Rattle.tally.proofs.AcceptedSheet.{accepted_sheet}
use Rattle.regrade.specs.Regrading.{cusums_before, regraded_at}
use Rattle.regrade.specs.Outcome.{sheet_under}
use Rattle.answers.proofs.FirstRow.{plan_not_refused}
use Rattle.courses.proofs.CourseWords.{unit_in}
use Rattle.courses.proofs.Graded.{only_course, only_course_before}
use Rattle.regrade_demands.specs.RegradeAccepted.{regraded_sheet}
use Rattle.regrade_demands.proofs.RegradeRecorded as recorded
use Rattle.regrade_demands.proofs.RegradeRecords as regraded
use Rattle.demands.specs.CusumsFit.{sheet_behind, AllFit, FitInGrading, FitInRegrading, CusumsFit}

-- ---- behind a plan that the check passes

module _ (plan : List ℕ) (passes : plan_refusal plan ≡ 0) (entry : ℕ → Entry) (size i : ℕ) where
  abbrev sheet : Sheet
  sheet = sheet_behind plan entry size

  before_fits : AllFit (before (sheet_behind plan entry size) i).cusums
  before_fits class known =
      let grade = in_force_at sheet i in
      omega (arith, within_limit sheet class known i (start_le_limit plan passes grade class), limit_le plan passes grade class)

  unit_fits : (unit : SampleUnit) → AllFit (graded_at (sheet_behind plan entry size) i unit).cusums
  unfolding graded
  unit_fits unit class known =
      let grade = in_force_at sheet i in
      omega (arith, new_cusum_le sheet.table grade (before sheet i).cusums (tenths_of unit) class known, limit_le plan passes grade class)

  before_fits_regraded : AllFit (cusums_before (sheet_behind plan entry size) i)
  before_fits_regraded class known =
      let grade = sheet.designated in
      omega (arith, recorded.within_limit sheet class known (start_le_limit plan passes grade class) i, limit_le plan passes grade class)

  unit_fits_regraded : (unit : SampleUnit) → AllFit (regraded_at (sheet_behind plan entry size) i unit).cusums
  unit_fits_regraded unit class known =
      let grade = sheet.designated in
      omega (arith, new_cusum_le sheet.table grade (cusums_before sheet i) (tenths_of unit) class known, limit_le plan passes grade class)

-- ---- of a grading and of a regrading

in_grading : FitInGrading
unfolding sheet_in sheet_of
in_grading bytes buffer answer results accepted course rules =
    let facts = (accepted_sheet bytes buffer answer results accepted).facts in
    let n = records_in bytes in
    record {
      before_record = λ i class inside planned known.
          let same = only_course_before bytes facts course rules i inside in
          let fits = before_fits bytes facts.plan (entry_at bytes) n i class known in
          omega (arith, fits, same.cusums (omega (arith, planned, same.plan_grade_holds)) class known);
      of_unit = λ i class at known.
          let same = (only_course bytes facts course rules i at).new_cusums_holds class known in
          let fits = unit_fits bytes facts.plan (entry_at bytes) n i (unit_in bytes i) class known in
          omega (arith, fits, same, cusum_graded (sheet_in bytes) i (unit_in bytes i) class known);
    }

in_regrading : FitInRegrading
unfolding regraded_sheet sheet_under new_cusums
in_regrading bytes plan buffer answer results accepted course rules =
    let facts = recorded.its_facts bytes plan buffer answer results accepted in
    let second = recorded.second_passes bytes plan buffer answer results accepted in
    let n = records_in bytes in
    record {
      before_record = λ i class inside known.
          let same = regraded.same_before bytes plan facts second course rules i inside class known in
          omega (arith, before_fits_regraded plan second (entry_at bytes) n i class known, same);
      of_regraded_unit = λ i class at known.
          let sheet = regraded_sheet bytes plan in
          let same = (regraded.only_course bytes plan facts second course rules i at).new_cusums_holds class known in
          let is = at_class (class_cusum sheet.table sheet.designated (cusums_before sheet i) (tenths_of (unit_in bytes i))) class known in
          omega (arith, unit_fits_regraded plan second (entry_at bytes) n i (unit_in bytes i) class known, same, is);
    }

-- ---- together

pub cusums_fit : CusumsFit
cusums_fit =
    record {
      two_bytes_holds = refl;
      promise_of_largest = largest.met;
      before_record = λ plan accepted. before_fits plan (plan_not_refused plan accepted);
      of_unit = λ unit plan accepted entry size i. unit_fits plan (plan_not_refused plan accepted) entry size i unit;
      before_record_regraded = λ plan accepted. before_fits_regraded plan (plan_not_refused plan accepted);
      of_unit_regraded = λ unit plan accepted entry size i. unit_fits_regraded plan (plan_not_refused plan accepted) entry size i unit;
      in_grading = in_grading;
      in_regrading = in_regrading;
    }

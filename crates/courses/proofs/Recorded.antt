-- What the result buffer of an accepted sheet records of a unit: code, grades, standing, plan grade, CuSums and overshoots of the
-- rules; bounds. From where the result record of the unit stands in the buffer. A CuSum is never above its L, so that it is not too large for
-- its two bytes, nor an overshoot for its four: a class is over by no more than the unit's own defects.
use Prim.Native.Nat.{ℕ, ◌*◌, ◌≤◌, ◌<◌}
use mathlib.Core.Path.{◌≡◌, ◌∙◌}
use mathlib.Core.List.{List}
use native.Mathlib.Omega.{arith}
use lib.ListN.{length, drop}
use Rattle.encoding.specs.Bytes.{byte}
use Rattle.units.specs.Words.{substandard, classes, tenths_of, count_tenths}
use Rattle.units.specs.Unit.{class_cusum, class_overshoot}
use Rattle.units.specs.declared.SampleUnit.{SampleUnit}
use Rattle.units.proofs.Bounds.{class_cusum_le, class_overshoot_le}
use Rattle.rules.specs.Sheet.{before, in_force_at, portion_grade, standing, code_grade}
use Rattle.rules.proofs.Grades.{code_grade_at_most}
use Rattle.rules.proofs.GradedClasses.{cusum_graded, overshoot_graded}
use Rattle.rules.proofs.FailingUnits.{within_limit}
use Rattle.layout.specs.Layout.{sample_unit_at, offset, units_before}
use Rattle.layout.proofs.Units.{entry_unit}
use Rattle.sheet.proofs.Ranges.{designated_le, limit_le, start_le_limit, prerequisite_le, count_le}
use Rattle.results.specs.Record.{result_size, mark_in, code_in, plan_grade_in, standing_in}
use Rattle.recording.specs.Sheet.{sheet_of, result_with, result_of}
use Rattle.outcome.specs.declared.Answer.{Answer}
use Rattle.tally.specs.Outcome.{records_in}
use Rattle.tally.specs.Accepted.{AcceptedAs, sheet_in, UnitAt, recorded_cusum, recorded_overshoot, recorded_portion_grade, recorded_code_grade, numbers_in_force}
use Rattle.tally.proofs.AcceptedSheet.{AcceptedSheet, accepted_sheet}
use Rattle.tally.proofs.Entries.{code_fits, new_grades, portion_le}
use Rattle.courses.proofs.ReadBack.{ReadBack, read_back}

module _ (bytes buffer : List ℕ) (answer : Answer) (results : List ℕ) (accepted : AcceptedAs bytes buffer answer results) where
  sheet_accepted : AcceptedSheet bytes buffer answer results
  sheet_accepted = accepted_sheet bytes buffer answer results accepted

  -- what stands behind the result records
  abbrev behind : List ℕ
  behind = drop (result_size * units_before bytes (records_in bytes)) buffer

  module _ (i : ℕ) (at : UnitAt bytes i) where
    abbrev unit : SampleUnit
    unit = sample_unit_at bytes (offset bytes i)

    -- what was recorded of it, read from the buffer
    there : ReadBack bytes results i (result_of (sheet_in bytes) i (sample_unit_at bytes (offset bytes i))) (code_grade (sheet_in bytes) (sample_unit_at bytes (offset bytes i)).code)
    unfolding sheet_in sheet_of
    there = read_back bytes results (result_of (sheet_in bytes)) (code_grade (sheet_in bytes)) behind sheet_accepted.filled i at

    pub recorded_mark_holds : mark_in results (units_before bytes i) ≡ 0x4752
    recorded_mark_holds = there.mark

    pub recorded_portion_holds : recorded_portion_grade bytes results i ≡ portion_grade (sheet_in bytes) i (sample_unit_at bytes (offset bytes i))
    unfolding result_of result_with portion_grade
    recorded_portion_holds = there.portion

    pub recorded_code_grade_holds : recorded_code_grade bytes results i ≡ code_grade (sheet_in bytes) (sample_unit_at bytes (offset bytes i)).code
    recorded_code_grade_holds = there.code_grade_holds

    -- the grade of the plan in force, 3 if none
    pub recorded_plan_holds : plan_grade_in results (units_before bytes i) ≡ in_force_at (sheet_in bytes) i
    unfolding result_of result_with
    recorded_plan_holds = there.plan_grade_holds

    -- the standing, 3 exactly if the portion is recovered
    pub recorded_standing_holds : standing_in results (units_before bytes i) ≡ standing (sheet_in bytes) i (sample_unit_at bytes (offset bytes i))
    unfolding result_of result_with standing
    recorded_standing_holds = there.standing

    -- the code, where every byte of the sheet is below 256, as in every slice
    pub recorded_code_holds : ((place : ℕ) → byte bytes place < 256) → code_in results (units_before bytes i) ≡ (sample_unit_at bytes (offset bytes i)).code
    unfolding result_of result_with
    recorded_code_holds small = there.code (code_fits bytes small i unit (entry_unit bytes i at.is_unit))

    pub recorded_cusum_holds : (class : ℕ) → class < length classes
        → recorded_cusum bytes results i class
        ≡ class_cusum (sheet_in bytes).table (in_force_at (sheet_in bytes) i) (before (sheet_in bytes) i).cusums (tenths_of (sample_unit_at bytes (offset bytes i))) class
    unfolding result_of result_with sheet_in sheet_of
    recorded_cusum_holds class inside =
        let is = cusum_graded (sheet_in bytes) i unit class inside in
        let most = class_cusum_le (sheet_in bytes).table (in_force_at (sheet_in bytes) i) (before (sheet_in bytes) i).cusums (tenths_of unit) class in
        let fits = limit_le bytes sheet_accepted.facts.plan (in_force_at (sheet_in bytes) i) class in
        there.cusums class inside (omega (arith, is, most, fits)) ∙ is

    -- an overshoot is at most the unit's own defects
    pub overshoot_at_most : (class : ℕ) → class < length classes
        → class_overshoot (sheet_in bytes).table (in_force_at (sheet_in bytes) i) (before (sheet_in bytes) i).cusums (tenths_of (sample_unit_at bytes (offset bytes i))) class
        ≤ count_tenths (tenths_of (sample_unit_at bytes (offset bytes i))) class
    unfolding sheet_in sheet_of
    overshoot_at_most class inside =
        class_overshoot_le (sheet_in bytes).table (in_force_at (sheet_in bytes) i) (before (sheet_in bytes) i).cusums (tenths_of unit) class
        (λ planned. within_limit (sheet_in bytes) class inside i
        (start_le_limit bytes sheet_accepted.facts.plan (in_force_at (sheet_in bytes) i) class))

    pub recorded_overshoot_holds : (class : ℕ) → class < length classes
        → recorded_overshoot bytes results i class
        ≡ class_overshoot (sheet_in bytes).table (in_force_at (sheet_in bytes) i) (before (sheet_in bytes) i).cusums (tenths_of (sample_unit_at bytes (offset bytes i))) class
    unfolding result_of result_with
    recorded_overshoot_holds class inside =
        let is = overshoot_graded (sheet_in bytes) i unit class inside in
        let most = overshoot_at_most class inside in
        let counts = count_le bytes (records_in bytes) sheet_accepted.facts i at.is_unit class in
        there.overshoots class inside (omega (arith, is, most, counts)) ∙ is

    -- ---- bounds

    pub recorded_cusum_le : (class : ℕ) → class < length classes → recorded_cusum bytes results i class ≤ (numbers_in_force bytes i class).limit
    recorded_cusum_le class inside =
        rw (recorded_cusum_holds class inside)
        (class_cusum_le (sheet_in bytes).table (in_force_at (sheet_in bytes) i) (before (sheet_in bytes) i).cusums (tenths_of unit) class)

    pub recorded_portion_le : recorded_portion_grade bytes results i ≤ substandard
    unfolding sheet_in
    recorded_portion_le =
        rw recorded_portion_holds (portion_le bytes (records_in bytes) sheet_accepted.facts i unit (entry_unit bytes i at.is_unit))

    pub recorded_code_grade_le : recorded_code_grade bytes results i ≤ substandard
    unfolding sheet_in sheet_of
    recorded_code_grade_le =
        let facts = sheet_accepted.facts in
        rw recorded_code_grade_holds
        (code_grade_at_most (sheet_in bytes) (designated_le bytes facts.plan) (new_grades bytes (records_in bytes) facts)
        (prerequisite_le bytes (records_in bytes) facts) unit.code)

-- What the result buffer of an accepted regrading records of a unit. Fields are read back; no CuSum is above its L, so that each fits in its
-- two bytes and a class is over by no more than the unit's own defects, which fit in the overshoot's four.
use Prim.Native.Nat.{ℕ, zero, suc, ◌*◌, ◌≤◌, ◌<◌}
use mathlib.Core.Path.{◌≡◌, ◌∙◌}
use mathlib.Core.Bool.{cond}
use mathlib.Core.List.{List}
use native.Mathlib.Omega.{arith}
use lib.ListN.{length, drop}
use Rattle.encoding.specs.Bytes.{byte}
use Rattle.units.specs.Words.{substandard, classes, numbers_of, tenths_in, tenths_of, count_tenths}
use Rattle.units.specs.Unit.{class_cusum, class_overshoot, new_cusums, new_overshoots, unit_fails}
use Rattle.units.specs.declared.SampleUnit.{SampleUnit}
use Rattle.units.specs.declared.Entry.{Entry}
use Rattle.units.specs.declared.Entry.TheVariants.{UnitRecord, Redesignation, Break}
use Rattle.units.proofs.Bounds.{class_cusum_le, new_cusum_le, class_overshoot_le, defect_grade_at_most}
use Rattle.units.proofs.Classes.{at_class}
use Rattle.units.proofs.Lists.{map_at}
use Rattle.rules.specs.Sheet.{Sheet}
use Rattle.rules.proofs.FailingUnits.{starts_at}
use Rattle.layout.specs.Layout.{sample_unit_at, offset, units_before}
use Rattle.layout.proofs.Units.{entry_unit}
use Rattle.sheet.specs.Refusals.{plan_refusal}
use Rattle.sheet.proofs.Accepted.{Facts}
use Rattle.sheet.proofs.Ranges.{designated_le, limit_le, start_le_limit, prerequisite_le, count_le}
use Rattle.results.specs.Record.{result_size}
use Rattle.single_plan.specs.SinglePlan.{result_under}
use Rattle.outcome.specs.declared.Answer.{Answer}
use Rattle.tally.specs.Outcome.{records_in}
use Rattle.tally.specs.Accepted.{UnitAt, recorded_cusum, recorded_overshoot, recorded_portion_grade, recorded_code_grade}
use Rattle.tally.proofs.Entries.{code_fits}
use Rattle.regrade.specs.Regrading.{cusums_behind, cusums_before, regraded_result, regraded_portion, regraded_code}
use Rattle.regrade.specs.Outcome.{sheet_under}
use Rattle.regrade.proofs.AcceptedRegrading.{AcceptedRegrading, accepted_regrading}
use Rattle.regrade.proofs.SecondPlan.{plan_passes}
use Rattle.courses.specs.Demand2.{recorded_mark, recorded_code, recorded_plan_grade, recorded_standing, code_of}
use Rattle.courses.proofs.ReadBack.{ReadBack, read_back}
use Rattle.regrade_demands.specs.RegradeAccepted.{RegradedAs, regraded_sheet}

-- where S is at most L, no CuSum before a record is above L
pub within_limit : (sheet : Sheet) (class : ℕ) → class < length classes →
    let numbers = numbers_of sheet.table sheet.designated class in
    numbers.start ≤ numbers.limit → (i : ℕ) → tenths_in (cusums_before sheet i) class ≤ numbers.limit
unfolding cusums_before cusums_behind
within_limit sheet class known start_within zero = omega (arith, starts_at sheet.table class known sheet.designated)
within_limit sheet class known start_within (suc i) = go (sheet.entry i) (within_limit sheet class known start_within i)
  where
    go : (entry : Entry) → tenths_in (cusums_before sheet i) class ≤ (numbers_of sheet.table sheet.designated class).limit
        → tenths_in (cusums_behind sheet (cusums_before sheet i) entry) class ≤ (numbers_of sheet.table sheet.designated class).limit
    go (UnitRecord unit) earlier = new_cusum_le sheet.table sheet.designated (cusums_before sheet i) (tenths_of unit) class known
    go (Redesignation new) earlier = earlier
    go Break earlier = omega (arith, starts_at sheet.table class known sheet.designated)

module _ (bytes plan buffer : List ℕ) (answer : Answer) (results : List ℕ) (accepted : RegradedAs bytes plan buffer answer results) where
  by_check : AcceptedRegrading bytes plan buffer answer results
  by_check = accepted_regrading bytes plan buffer answer results accepted

  pub its_facts : Facts bytes (records_in bytes)
  its_facts = by_check.facts

  pub second_passes : plan_refusal plan ≡ 0
  second_passes = plan_passes plan by_check.right

  abbrev sheet : Sheet
  sheet = regraded_sheet bytes plan

  module _ (i : ℕ) (at : UnitAt bytes i) where
    abbrev unit : SampleUnit
    unit = sample_unit_at bytes (offset bytes i)

    there : ReadBack bytes results i (regraded_result sheet i unit) (regraded_code sheet unit.code)
    unfolding regraded_sheet sheet_under
    there =
        read_back bytes results (regraded_result sheet) (regraded_code sheet) (drop (result_size * units_before bytes (records_in bytes)) buffer)
        by_check.filled i at

    pub recorded_mark_holds : recorded_mark bytes results i ≡ 0x4752
    recorded_mark_holds = there.mark

    pub recorded_code_holds : ((place : ℕ) → byte bytes place < 256) → recorded_code bytes results i ≡ code_of bytes i
    unfolding result_under sample_unit_at
    recorded_code_holds small = there.code (code_fits bytes small i unit (entry_unit bytes i at.is_unit))

    pub recorded_plan_holds : recorded_plan_grade bytes results i ≡ (regraded_sheet bytes plan).designated
    unfolding result_under
    recorded_plan_holds = there.plan_grade_holds

    pub recorded_portion_holds : recorded_portion_grade bytes results i ≡ regraded_portion (regraded_sheet bytes plan) i (sample_unit_at bytes (offset bytes i))
    unfolding result_under regraded_portion
    recorded_portion_holds = there.portion

    pub recorded_portion_le : recorded_portion_grade bytes results i ≤ substandard
    unfolding regraded_portion regraded_sheet sheet_under
    recorded_portion_le =
        let designated = designated_le plan second_passes in
        let defects = defect_grade_at_most sheet.table sheet.designated (cusums_before sheet i) (tenths_of unit) (omega (arith, designated)) in
        let prerequisite = prerequisite_le bytes (records_in bytes) its_facts i unit (entry_unit bytes i at.is_unit) in
        rw recorded_portion_holds (omega (arith, defects, prerequisite))

    pub recorded_code_grade_holds : recorded_code_grade bytes results i ≡ regraded_code (regraded_sheet bytes plan) (sample_unit_at bytes (offset bytes i)).code
    recorded_code_grade_holds = there.code_grade_holds

    pub recorded_standing_holds : recorded_standing bytes results i
        ≡ cond (unit_fails (regraded_sheet bytes plan).table (regraded_sheet bytes plan).designated (cusums_before (regraded_sheet bytes plan) i)
        (tenths_of (sample_unit_at bytes (offset bytes i)))) 1 0
    unfolding result_under
    recorded_standing_holds = there.standing

    pub recorded_cusum_holds : (class : ℕ) → class < length classes
        → recorded_cusum bytes results i class
        ≡ class_cusum (regraded_sheet bytes plan).table (regraded_sheet bytes plan).designated (cusums_before (regraded_sheet bytes plan) i)
        (tenths_of (sample_unit_at bytes (offset bytes i))) class
    unfolding result_under new_cusums regraded_sheet sheet_under
    recorded_cusum_holds class known =
        let is = at_class (class_cusum sheet.table sheet.designated (cusums_before sheet i) (tenths_of unit)) class known in
        let most = class_cusum_le sheet.table sheet.designated (cusums_before sheet i) (tenths_of unit) class in
        let fits = limit_le plan second_passes sheet.designated class in
        there.cusums class known (omega (arith, is, most, fits)) ∙ is

    -- an overshoot is at most the unit's own defects
    pub overshoot_at_most : (class : ℕ) → class < length classes
        → class_overshoot (regraded_sheet bytes plan).table (regraded_sheet bytes plan).designated (cusums_before (regraded_sheet bytes plan) i)
        (tenths_of (sample_unit_at bytes (offset bytes i))) class
        ≤ count_tenths (tenths_of (sample_unit_at bytes (offset bytes i))) class
    unfolding regraded_sheet sheet_under
    overshoot_at_most class known =
        class_overshoot_le sheet.table sheet.designated (cusums_before sheet i) (tenths_of unit) class
        (λ planned. within_limit sheet class known (start_le_limit plan second_passes sheet.designated class) i)

    pub recorded_overshoot_holds : (class : ℕ) → class < length classes
        → recorded_overshoot bytes results i class
        ≡ class_overshoot (regraded_sheet bytes plan).table (regraded_sheet bytes plan).designated (cusums_before (regraded_sheet bytes plan) i)
        (tenths_of (sample_unit_at bytes (offset bytes i))) class
    unfolding result_under new_overshoots
    recorded_overshoot_holds class known =
        let is = map_at (length classes) (class_overshoot sheet.table sheet.designated (cusums_before sheet i) (tenths_of unit)) 0 class known in
        let most = overshoot_at_most class known in
        let counts = count_le bytes (records_in bytes) its_facts i at.is_unit class in
        there.overshoots class known (omega (arith, is, most, counts)) ∙ is

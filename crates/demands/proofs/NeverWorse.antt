-- Demand 3's second half, as recorded: no higher CuSum, no larger overshoot and no new failure up to two failures in a row; without
-- these no lower grade.
-- From the same laws over records: the second sheet is told with the plan and the number of records of the first.
use Prim.Native.Nat.{ℕ, ◌≤◌, ◌<◌}
use mathlib.Core.Path.{◌≡◌, refl, sym, subst⁻¹}
use mathlib.Core.Bool.{Bool, true, false}
use mathlib.Core.List.{List}
use native.Mathlib.Omega.{arith}
use lib.Dec.{leb}
use borrow.Author.Tests.{leb-true, leb-false}
use Rattle.units.specs.Words.{table_of, tenths_of}
use Rattle.units.specs.Unit.{class_cusum, class_overshoot}
use Rattle.rules.specs.Sheet.{Sheet, before, in_force_at, portion_grade, code_grade}
use Rattle.anchors.specs.Anchor.{class_fails_at}
use Rattle.anchors.specs.TwoInARow.{fails_in_force, second_in_a_row}
use Rattle.units.specs.Records.{is_unit_that}
use Rattle.units.specs.declared.SampleUnit.{SampleUnit}
use Rattle.units.specs.declared.Entry.TheVariants.{Break}
use Rattle.anchors.proofs.TwoFailures.{not_second}
use Rattle.anchors.proofs.Fellows.{Below}
use Rattle.anchors.proofs.SideBySide.{NoRedesignation, second, fewer_cusums, fewer_grades}
use Rattle.layout.specs.Layout.{plan_of, sample_unit_at, offset, entry_at}
use Rattle.recording.specs.Sheet.{sheet_of}
use Rattle.sheet.proofs.Accepted.{Facts}
use Rattle.layout.proofs.Offsets.{past_entry}
use Rattle.layout.proofs.Units.{entry_unit}
use Rattle.sheet.proofs.Ranges.{designated_le}
use Rattle.outcome.specs.declared.Answer.{Answer}
use Rattle.tally.specs.Outcome.{records_in}
use Rattle.tally.specs.Accepted.{sheet_in, UnitAt}
use Rattle.demands.specs.Demand3.{FewerDefects, NoHigherAt, NoLowerAt, Demand3FewerDefects}
use Rattle.tally.proofs.AcceptedSheet.{accepted_sheet}
use Rattle.courses.proofs.Recorded.{recorded_cusum_holds, recorded_overshoot_holds, recorded_portion_holds, recorded_code_grade_holds}
use Rattle.alike.proofs.AlikeSheets.{same_plans, unit_fellow, same_records, fellows_below, no_redesignations}

-- behind the last record no unit fails
never_behind : (bytes : List ℕ) (n : ℕ) → Facts bytes n → ((j : ℕ) → j < n → second_in_a_row (sheet_of bytes n) j ≡ false)
    → (j : ℕ) → second_in_a_row (sheet_of bytes n) j ≡ false
unfolding sheet_of
never_behind bytes n facts never j = go (leb n j) refl
  where
    go : (test : Bool) → leb n j ≡ test → second_in_a_row (sheet_of bytes n) j ≡ false
    go true e = not_second (sheet_of bytes n) j Break (past_entry bytes n facts.end j (leb-true n j e)) (unfold fails_in_force is_unit_that in refl)
    go false e = never j (leb-false n j e)

module _ (bytes bytes' buffer buffer' : List ℕ) (answer answer' : Answer) (results results' : List ℕ)
    (pair : FewerDefects bytes bytes' buffer buffer' answer answer' results results') where
  facts : Facts bytes (records_in bytes)
  facts = (accepted_sheet bytes buffer answer results pair.first).facts

  facts' : Facts bytes' (records_in bytes')
  facts' = (accepted_sheet bytes' buffer' answer' results' pair.second).facts

  fellows : (i : ℕ) → Below (entry_at bytes i) (entry_at bytes' i)
  fellows = fellows_below bytes bytes' pair.alike facts pair.no_more

  none : (i : ℕ) → NoRedesignation (entry_at bytes i)
  none = no_redesignations bytes facts pair.no_redesignation

  -- the second sheet, told with the plan and the number of records of the first
  abbrev fellow : Sheet
  fellow = second (table_of (plan_of bytes)) (plan_of bytes).designated (entry_at bytes) (entry_at bytes') (records_in bytes) fellows none

  is_fellow : sheet_in bytes' ≡ fellow
  unfolding sheet_in sheet_of
  is_fellow = λ k. record {
    table = table_of (sym (same_plans bytes bytes' pair.alike) k);
    designated = (sym (same_plans bytes bytes' pair.alike) k).designated;
    entry = entry_at bytes';
    size = sym (same_records bytes bytes' pair.alike (records_in bytes) (records_in bytes') facts facts') k;
  }

  other : (i : ℕ) → UnitAt bytes i → UnitAt bytes' i
  other = unit_fellow bytes bytes' pair.alike facts'

  module _ (i : ℕ) (at : UnitAt bytes i) where
    abbrev unit : SampleUnit
    unit = sample_unit_at bytes (offset bytes i)

    abbrev unit' : SampleUnit
    unit' = sample_unit_at bytes' (offset bytes' i)

    -- CuSums, overshoots and failures, over records
    compared : ((j : ℕ) → j < i → second_in_a_row (sheet_in bytes') j ≡ false) → (class : ℕ)
        → (class_cusum (sheet_in bytes).table (in_force_at (sheet_in bytes) i) (before (sheet_in bytes) i).cusums (tenths_of unit) class
        ≤ class_cusum (sheet_in bytes').table (in_force_at (sheet_in bytes') i) (before (sheet_in bytes') i).cusums (tenths_of unit') class)
        × (class_overshoot (sheet_in bytes).table (in_force_at (sheet_in bytes) i) (before (sheet_in bytes) i).cusums (tenths_of unit) class
        ≤ class_overshoot (sheet_in bytes').table (in_force_at (sheet_in bytes') i) (before (sheet_in bytes') i).cusums (tenths_of unit') class)
        × (class_fails_at (sheet_in bytes) class i ≡ true → class_fails_at (sheet_in bytes') class i ≡ true)
    unfolding sheet_in sheet_of
    compared =
        subst⁻¹ (λ (s : Sheet). ((j : ℕ) → j < i → second_in_a_row s j ≡ false) → (class : ℕ)
        → (class_cusum (sheet_in bytes).table (in_force_at (sheet_in bytes) i) (before (sheet_in bytes) i).cusums (tenths_of unit) class
        ≤ class_cusum s.table (in_force_at s i) (before s i).cusums (tenths_of unit') class)
        × (class_overshoot (sheet_in bytes).table (in_force_at (sheet_in bytes) i) (before (sheet_in bytes) i).cusums (tenths_of unit) class
        ≤ class_overshoot s.table (in_force_at s i) (before s i).cusums (tenths_of unit') class)
        × (class_fails_at (sheet_in bytes) class i ≡ true → class_fails_at s class i ≡ true)) is_fellow
        (fewer_cusums (table_of (plan_of bytes)) (plan_of bytes).designated (entry_at bytes) (entry_at bytes') (records_in bytes) fellows none i unit unit'
        (entry_unit bytes i at.is_unit) (entry_unit bytes' i (other i at).is_unit))

    no_higher : ((j : ℕ) → j < i → second_in_a_row (sheet_in bytes') j ≡ false) → NoHigherAt bytes bytes' results results' i
    no_higher never =
        record {
          cusums = λ class in_range.
              omega (
                arith,
                (compared never class).0,
                recorded_cusum_holds bytes buffer answer results pair.first i at class in_range,
                recorded_cusum_holds bytes' buffer' answer' results' pair.second i (other i at) class in_range,
              );
          overshoots = λ class in_range.
              omega (
                arith,
                (compared never class).1,
                recorded_overshoot_holds bytes buffer answer results pair.first i at class in_range,
                recorded_overshoot_holds bytes' buffer' answer' results' pair.second i (other i at) class in_range,
              );
          failures = λ class in_range. (compared never class).2;
        }

    -- grades, over records
    compared_grades : ((j : ℕ) → second_in_a_row (sheet_in bytes') j ≡ false)
        → (portion_grade (sheet_in bytes) i unit ≤ portion_grade (sheet_in bytes') i unit')
        × (code_grade (sheet_in bytes) unit.code ≤ code_grade (sheet_in bytes') unit'.code)
    unfolding sheet_in sheet_of
    compared_grades =
        let grade = designated_le bytes facts.plan in
        subst⁻¹ (λ (s : Sheet). ((j : ℕ) → second_in_a_row s j ≡ false)
        → (portion_grade (sheet_in bytes) i unit ≤ portion_grade s i unit') × (code_grade (sheet_in bytes) unit.code ≤ code_grade s unit'.code)) is_fellow
        (λ never. fewer_grades (table_of (plan_of bytes)) (plan_of bytes).designated (entry_at bytes) (entry_at bytes') (records_in bytes) fellows none
        (omega arith) never i unit unit' (entry_unit bytes i at.is_unit) (entry_unit bytes' i (other i at).is_unit))

    no_lower : ((j : ℕ) → j < records_in bytes' → second_in_a_row (sheet_in bytes') j ≡ false) → NoLowerAt bytes bytes' results results' i
    unfolding sheet_in
    no_lower never =
        let grades = compared_grades (never_behind bytes' (records_in bytes') facts' never) in
        record {
          portions =
              omega (
                arith,
                grades.0,
                recorded_portion_holds bytes buffer answer results pair.first i at,
                recorded_portion_holds bytes' buffer' answer' results' pair.second i (other i at),
              );
          codes =
              omega (
                arith,
                grades.1,
                recorded_code_grade_holds bytes buffer answer results pair.first i at,
                recorded_code_grade_holds bytes' buffer' answer' results' pair.second i (other i at),
              );
        }

-- THE SECOND HALF OF DEMAND 3
pub demand3_fewer_defects : Demand3FewerDefects
demand3_fewer_defects bytes bytes' buffer buffer' answer answer' results results' pair =
    record {
      up_to_two_in_a_row = λ i at. no_higher bytes bytes' buffer buffer' answer answer' results results' pair i at;
      never_two_in_a_row = λ never i at. no_lower bytes bytes' buffer buffer' answer answer' results results' pair i at never;
    }

-- Fewer defects never grade worse in a regrading, through the whole sheet: before every record no CuSum of the first sheet is higher, by
-- induction on the records, as a failure starts nothing; the rest follows unit by unit from the laws of a unit.
use Prim.Native.Nat.{ℕ, zero, suc, ◌≤◌}
use mathlib.Core.Path.{◌≡◌, sym, subst⁻¹, subst₂, ap}
use mathlib.Core.Bool.{true}
use mathlib.Core.List.{List}
use native.Mathlib.Omega.{arith}
use Rattle.cusum.specs.declared.Cusum.{Cusum}
use Rattle.units.specs.Words.{substandard, Table, row_of, tenths_of, table_of}
use Rattle.units.specs.Unit.{starting, class_cusum, class_overshoot}
use Rattle.units.specs.Records.{is_unit_that}
use Rattle.units.specs.declared.SampleUnit.{SampleUnit}
use Rattle.units.specs.declared.Entry.{Entry}
use Rattle.units.specs.declared.Entry.TheVariants.{UnitRecord, Redesignation, Break}
use Rattle.units.proofs.Monotone.{counts_fewer, NoHigher, same_no_higher, class_cusum_mono, class_overshoot_mono, cusums_mono, class_fails_mono, defect_grade_mono}
use Rattle.rules.specs.Sheet.{Sheet}
use Rattle.anchors.proofs.Fellows.{UnitBelow, Below, worst_mono}
use Rattle.layout.specs.Layout.{plan_of, sample_unit_at, offset, entry_at}
use Rattle.layout.proofs.Units.{entry_unit}
use Rattle.sheet.proofs.Accepted.{Facts}
use Rattle.sheet.proofs.Ranges.{designated_le}
use Rattle.outcome.specs.declared.Answer.{Answer}
use Rattle.tally.specs.Outcome.{records_in}
use Rattle.tally.specs.Accepted.{UnitAt}
use Rattle.regrade.specs.Regrading.{cusums_behind, cusums_before, regraded_portion, regraded_code}
use Rattle.regrade.specs.Outcome.{sheet_under}
use Rattle.alike.proofs.AlikeSheets.{unit_fellow, same_records, fellows_below}
use Rattle.regrade_demands.specs.RegradeAccepted.{regraded_sheet, fails_regraded_at}
use Rattle.regrade_demands.specs.RegradeFewer.{FewerRegraded, NoWorseAt, RegradeFewerDefects}
use Rattle.regrade_demands.proofs.RegradeRecorded.{its_facts, second_passes, recorded_portion_holds, recorded_code_grade_holds, recorded_cusum_holds, recorded_overshoot_holds}

-- ---- over records

module _ (table : Table) (designated : ℕ) (es fs : ℕ → Entry) (size : ℕ) (fellows : (i : ℕ) → Below (es i) (fs i)) where
  abbrev first : Sheet
  first = record { table = table; designated = designated; entry = es; size = size }

  abbrev second : Sheet
  second = record { table = table; designated = designated; entry = fs; size = size }

  behind : (cusums cusums' : List Cusum) (e e' : Entry) → NoHigher cusums cusums' → Below e e' → NoHigher (cusums_behind first cusums e) (cusums_behind second cusums' e')
  unfolding cusums_behind Below
  behind cusums cusums' (UnitRecord u) (UnitRecord v) lower below =
      cusums_mono table designated cusums cusums' (tenths_of u) (tenths_of v) lower (counts_fewer u v below.fewer)
  behind cusums cusums' (Redesignation new) (Redesignation new') lower below = lower
  behind cusums cusums' Break Break lower below = same_no_higher (starting (row_of table designated))
  behind cusums cusums' (UnitRecord u) (Redesignation new) lower below = absurd below
  behind cusums cusums' (UnitRecord u) Break lower below = absurd below
  behind cusums cusums' (Redesignation new) (UnitRecord v) lower below = absurd below
  behind cusums cusums' (Redesignation new) Break lower below = absurd below
  behind cusums cusums' Break (UnitRecord v) lower below = absurd below
  behind cusums cusums' Break (Redesignation new) lower below = absurd below

  no_higher : (i : ℕ) → NoHigher (cusums_before first i) (cusums_before second i)
  unfolding cusums_before
  no_higher zero = same_no_higher (starting (row_of table designated))
  no_higher (suc i) = behind (cusums_before first i) (cusums_before second i) (es i) (fs i) (no_higher i) (fellows i)

  -- CuSums, overshoots and failures
  fewer_cusums : (i : ℕ) (u v : SampleUnit) → es i ≡ UnitRecord u → fs i ≡ UnitRecord v → (class : ℕ)
      → (class_cusum table designated (cusums_before first i) (tenths_of u) class ≤ class_cusum table designated (cusums_before second i) (tenths_of v) class)
      × (class_overshoot table designated (cusums_before first i) (tenths_of u) class ≤ class_overshoot table designated (cusums_before second i) (tenths_of v) class)
      × (fails_regraded_at first class i ≡ true → fails_regraded_at second class i ≡ true)
  unfolding Below fails_regraded_at is_unit_that
  fewer_cusums i u v eu ev class =
      let below : Below (UnitRecord u) (UnitRecord v) = subst₂ Below eu ev (fellows i) in
      let fewer = counts_fewer u v below.fewer in
      rw (eu, ev) (
        class_cusum_mono table designated _ _ (tenths_of u) (tenths_of v) (no_higher i) fewer class,
        class_overshoot_mono table designated _ _ (tenths_of u) (tenths_of v) (no_higher i) fewer class,
        class_fails_mono table designated _ _ (tenths_of u) (tenths_of v) (no_higher i) fewer class,
      )

  module _ (a_grade : designated ≤ substandard) where
    portion_mono : (i : ℕ) (u v : SampleUnit) → UnitBelow u v → regraded_portion first i u ≤ regraded_portion second i v
    unfolding regraded_portion
    portion_mono i u v below =
        omega (
          arith,
          below.same_prerequisite,
          defect_grade_mono table designated (cusums_before first i) (cusums_before second i) (tenths_of u) (tenths_of v) (no_higher i)
              (counts_fewer u v below.fewer) a_grade,
        )

    -- portion and code grades
    fewer_grades : (i : ℕ) (u v : SampleUnit) → es i ≡ UnitRecord u → fs i ≡ UnitRecord v
        → (regraded_portion first i u ≤ regraded_portion second i v) × (regraded_code first u.code ≤ regraded_code second v.code)
    unfolding regraded_code Below
    fewer_grades i u v eu ev =
        let below : Below (UnitRecord u) (UnitRecord v) = subst₂ Below eu ev (fellows i) in (
          portion_mono i u v below,
          rw below.same_code (worst_mono es fs fellows (regraded_portion first) (regraded_portion second) portion_mono v.code size),
        )

-- ---- as recorded

module _ (bytes bytes' plan buffer buffer' : List ℕ) (answer answer' : Answer) (results results' : List ℕ)
    (pair : FewerRegraded bytes bytes' plan buffer buffer' answer answer' results results') where
  facts : Facts bytes (records_in bytes)
  facts = its_facts bytes plan buffer answer results pair.first

  facts' : Facts bytes' (records_in bytes')
  facts' = its_facts bytes' plan buffer' answer' results' pair.second

  fellows : (i : ℕ) → Below (entry_at bytes i) (entry_at bytes' i)
  fellows = fellows_below bytes bytes' pair.alike facts pair.no_more

  -- the second sheet has as many records as the first
  is_fellow : regraded_sheet bytes' plan ≡ second (table_of (plan_of plan)) (plan_of plan).designated (entry_at bytes) (entry_at bytes') (records_in bytes) fellows
  unfolding regraded_sheet sheet_under
  is_fellow = ap (sheet_under bytes' (plan_of plan)) (sym (same_records bytes bytes' pair.alike (records_in bytes) (records_in bytes') facts facts'))

  other : (i : ℕ) → UnitAt bytes i → UnitAt bytes' i
  other = unit_fellow bytes bytes' pair.alike facts'

  module _ (i : ℕ) (at : UnitAt bytes i) where
    abbrev unit : SampleUnit
    unit = sample_unit_at bytes (offset bytes i)

    abbrev unit' : SampleUnit
    unit' = sample_unit_at bytes' (offset bytes' i)

    abbrev Compared : Sheet → Sheet → Type 0
    Compared one two =
        ((class : ℕ)
        → (class_cusum one.table one.designated (cusums_before one i) (tenths_of unit) class
        ≤ class_cusum two.table two.designated (cusums_before two i) (tenths_of unit') class)
        × (class_overshoot one.table one.designated (cusums_before one i) (tenths_of unit) class
        ≤ class_overshoot two.table two.designated (cusums_before two i) (tenths_of unit') class)
        × (fails_regraded_at one class i ≡ true → fails_regraded_at two class i ≡ true))
        × ((regraded_portion one i unit ≤ regraded_portion two i unit') × (regraded_code one unit.code ≤ regraded_code two unit'.code))

    compared : Compared (regraded_sheet bytes plan) (regraded_sheet bytes' plan)
    compared =
        subst⁻¹ (Compared (regraded_sheet bytes plan)) is_fellow
        (unfold regraded_sheet sheet_under in (
          fewer_cusums (table_of (plan_of plan)) (plan_of plan).designated (entry_at bytes) (entry_at bytes') (records_in bytes) fellows i unit unit'
              (entry_unit bytes i at.is_unit) (entry_unit bytes' i (other i at).is_unit),
          fewer_grades (table_of (plan_of plan)) (plan_of plan).designated (entry_at bytes) (entry_at bytes') (records_in bytes) fellows
              (omega (arith, designated_le plan (second_passes bytes plan buffer answer results pair.first))) i unit unit'
              (entry_unit bytes i at.is_unit) (entry_unit bytes' i (other i at).is_unit),
        ))

    no_worse : NoWorseAt bytes bytes' plan results results' i
    no_worse =
        let (by_class, grades) = compared in
        record {
          cusums = λ class known.
              omega (
                arith,
                (by_class class).0,
                recorded_cusum_holds bytes plan buffer answer results pair.first i at class known,
                recorded_cusum_holds bytes' plan buffer' answer' results' pair.second i (other i at) class known,
              );
          overshoots = λ class known.
              omega (
                arith,
                (by_class class).1,
                recorded_overshoot_holds bytes plan buffer answer results pair.first i at class known,
                recorded_overshoot_holds bytes' plan buffer' answer' results' pair.second i (other i at) class known,
              );
          failures = λ class known. (by_class class).2;
          portions =
              omega (
                arith,
                grades.0,
                recorded_portion_holds bytes plan buffer answer results pair.first i at,
                recorded_portion_holds bytes' plan buffer' answer' results' pair.second i (other i at),
              );
          codes =
              omega (
                arith,
                grades.1,
                recorded_code_grade_holds bytes plan buffer answer results pair.first i at,
                recorded_code_grade_holds bytes' plan buffer' answer' results' pair.second i (other i at),
              );
        }

pub regrade_fewer_defects : RegradeFewerDefects
regrade_fewer_defects = no_worse

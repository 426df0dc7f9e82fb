-- The first half of demand 3 for regradings. Breaks are the restarts, and no other record: so the CuSum of a class at every unit is reached
-- from where its trail begins, by induction on the records. Where the latest anchor lies is the law over any restarts and failures.
use Prim.Native.Nat.{ℕ, zero, suc, ◌-◌, ◌<◌}
use mathlib.Core.Path.{◌≡◌, refl, sym, ◌∙◌, ap}
use mathlib.Core.Bool.{Bool, true, false, cond, false≢true}
use mathlib.Core.List.{List}
use mathlib.Core.Logic.{◌⊎◌, inl, inr}
use native.Mathlib.Omega.{arith}
use lib.ListN.{length}
use lib.IntN.{pos}
use Rattle.cusum.specs.declared.Cusum.{Cusum}
use Rattle.cusum.specs.declared.PlanNumbers.{PlanNumbers}
use Rattle.units.specs.Words.{classes, has_plan, numbers_of, tenths_of, tenths_in}
use Rattle.units.specs.Unit.{class_fails, class_cusum}
use Rattle.units.specs.Records.{is_unit_that}
use Rattle.units.specs.declared.SampleUnit.{SampleUnit}
use Rattle.units.specs.declared.Entry.{Entry}
use Rattle.units.specs.declared.Entry.TheVariants.{UnitRecord, Redesignation, Break}
use Rattle.rules.specs.Sheet.{Sheet}
use Rattle.rules.proofs.FailingUnits.{starts_at}
use Rattle.anchors.specs.Anchor.{tenths_at, AnchorBy, opening, restart, failure, LatestBy}
use Rattle.anchors.proofs.Trails.{Trail, from_start, trail_with, Reached, reached_start, one_other, at_unit, behind_unit, anchor_le, Found, found, trail_before, trail_at, largest_from_anchor}
use Rattle.layout.specs.Layout.{sample_unit_at, offset, entry_at}
use Rattle.layout.proofs.Units.{entry_unit}
use Rattle.sheet.proofs.Accepted.{Facts}
use Rattle.tally.specs.Outcome.{records_in}
use Rattle.tally.specs.Accepted.{UnitAt}
use Rattle.grounds.specs.Tells.{Tells}
use Rattle.grounds.proofs.Tells.{told, not_told}
use Rattle.answers.specs.Grounds.{IsRedesignation, IsBreak}
use Rattle.courses.proofs.CourseWords.{break_entry, redesignation_entry, kind}
use Rattle.regrade.specs.Regrading.{cusums_behind, cusums_before}
use Rattle.regrade.specs.Outcome.{sheet_under}
use Rattle.regrade.proofs.SecondPlan.{designated_planned}
use Rattle.regrade.proofs.AcceptedRegrading.{accepted_regrading}
use Rattle.regrade_demands.specs.RegradeAccepted.{regraded_sheet, fails_regraded_at}
use Rattle.regrade_demands.specs.RegradeLargest.{RegradeAnchor, at_opening, at_break, at_failure, RegradeAnchorAt, RegradeLargestForm}
use Rattle.regrade_demands.proofs.RegradeRecorded.{recorded_cusum_holds}

-- ---- over records

unfoldable is_break : Entry → Bool
is_break (UnitRecord unit) = false
is_break (Redesignation new) = false
is_break Break = true

-- the restarts
abbrev breaks : Sheet → ℕ → Bool
breaks sheet j = is_break (sheet.entry j)

module _ (sheet : Sheet) (class : ℕ) where
  -- a failing unit is no break
  failing_goes_on : (j : ℕ) → fails_regraded_at sheet class j ≡ true → breaks sheet j ≡ false
  unfolding fails_regraded_at is_unit_that is_break
  failing_goes_on j = go (sheet.entry j)
    where
      failing : SampleUnit → Bool
      failing unit = class_fails sheet.table sheet.designated (cusums_before sheet j) (tenths_of unit) class

      go : (entry : Entry) → is_unit_that failing entry ≡ true → is_break entry ≡ false
      go (UnitRecord unit) e = refl
      go (Redesignation new) e = refl
      go Break e = absurd (false≢true e)

  module _ (planned : has_plan sheet.designated ≡ true) (in_range : class < length classes) where
    abbrev numbers : PlanNumbers
    numbers = numbers_of sheet.table sheet.designated class

    -- behind a record
    behind_entry : (cusums : List Cusum) (entry : Entry) (trail : Trail) → Reached numbers (tenths_in cusums class) trail →
        let failing : SampleUnit → Bool = λ unit. class_fails sheet.table sheet.designated cusums (tenths_of unit) class in
        Reached numbers (tenths_in (cusums_behind sheet cusums entry) class)
        (cond (is_break entry) from_start (trail_with (is_unit_that failing entry) (tenths_at class entry) trail))
    unfolding cusums_behind is_break is_unit_that tenths_at
    behind_entry cusums (UnitRecord unit) trail reached = behind_unit sheet.table sheet.designated planned cusums unit class trail reached in_range
    behind_entry cusums (Redesignation new) trail reached = one_other _ _ trail reached
    behind_entry cusums Break trail reached = reached_start _ _ (starts_at sheet.table class in_range sheet.designated)

    before_reached : (i : ℕ) → Reached numbers (tenths_in (cusums_before sheet i) class) (trail_before (breaks sheet) (fails_regraded_at sheet class) sheet class i)
    unfolding cusums_before trail_before fails_regraded_at
    before_reached zero = reached_start _ _ (starts_at sheet.table class in_range sheet.designated)
    before_reached (suc i) = behind_entry (cusums_before sheet i) (sheet.entry i) _ (before_reached i)

    -- and with a unit
    unit_reached : (i : ℕ) (unit : SampleUnit) → sheet.entry i ≡ UnitRecord unit
        → Reached numbers (class_cusum sheet.table sheet.designated (cusums_before sheet i) (tenths_of unit) class)
        (trail_at (breaks sheet) (fails_regraded_at sheet class) sheet class i)
    unfolding fails_regraded_at is_unit_that tenths_at
    unit_reached i unit is_unit =
        rw is_unit (at_unit sheet.table sheet.designated planned (cusums_before sheet i) unit class _ (before_reached i))

-- ---- anchors by the bytes

module _ (bytes plan : List ℕ) (facts : Facts bytes (records_in bytes)) (class : ℕ) where
  abbrev sheet : Sheet
  sheet = regraded_sheet bytes plan

  abbrev ByRecords : ℕ → ℕ → Bool → Type 0
  ByRecords = AnchorBy (breaks sheet) (fails_regraded_at sheet class)

  tells_break : (j : ℕ) → j < records_in bytes → Tells (breaks sheet j) (IsBreak bytes j)
  unfolding regraded_sheet sheet_under is_break
  tells_break j inside =
      record {
        so = λ e. go e (kind bytes facts j inside);
        not_so = λ e is_break_holds. false≢true (sym e ∙ ap is_break (break_entry bytes j is_break_holds));
      }
    where
      go : is_break (entry_at bytes j) ≡ true → UnitAt bytes j ⊎ (IsRedesignation bytes j ⊎ IsBreak bytes j) → IsBreak bytes j
      go e (inl at) = absurd (false≢true (sym (ap is_break (entry_unit bytes j at.is_unit)) ∙ e))
      go e (inr (inl is_redesignation)) = absurd (false≢true (sym (ap is_break (redesignation_entry bytes j is_redesignation)) ∙ e))
      go e (inr (inr is_break_holds)) = is_break_holds

  module _ (i : ℕ) (inside : i < records_in bytes) where
    by_records : (from : ℕ) (failed : Bool) → RegradeAnchor bytes plan class i from failed → ByRecords i from failed
    by_records from failed at_opening = opening
    by_records from failed (at_break j before is_break_holds) = restart j before (told (tells_break j (omega arith)) is_break_holds)
    by_records from failed (at_failure j within fails) = failure j within fails (λ _. failing_goes_on sheet class j fails)

    by_bytes : (from : ℕ) (failed : Bool) → ByRecords i from failed → RegradeAnchor bytes plan class i from failed
    by_bytes from failed opening = at_opening
    by_bytes from failed (restart j before is_break_holds) = at_break j before ((tells_break j (omega arith)).so is_break_holds)
    by_bytes from failed (failure j within fails goes_on) = at_failure j within fails

    an_anchor_at : RegradeAnchorAt bytes plan i class
    an_anchor_at =
        let last : Found (breaks sheet) (fails_regraded_at sheet class) i = found (breaks sheet) (fails_regraded_at sheet class) i in
        let within = anchor_le (breaks sheet) (fails_regraded_at sheet class) i last.place last.failed last.lies in
        record {
          from = last.place;
          records = suc i - last.place;
          failed = last.failed;
          to_this_unit = omega arith;
          is_anchor = by_bytes last.place last.failed last.lies;
          no_failure = last.latest.no_failure;
          no_break = λ j from before. (tells_break j (omega arith)).not_so (last.latest.no_restart j from before);
        }

    latest_by_records : (anchor : RegradeAnchorAt bytes plan i class) → LatestBy (breaks sheet) (fails_regraded_at sheet class) i anchor.from
    latest_by_records anchor =
        record {
          no_failure = anchor.no_failure;
          no_restart = λ j from before. not_told (tells_break j (omega arith)) (anchor.no_break j from before);
        }

pub regrade_largest_form : RegradeLargestForm
unfolding regraded_sheet sheet_under
regrade_largest_form bytes plan buffer answer results graded i at class in_range =
    let accepted = accepted_regrading bytes plan buffer answer results graded in
    let again : Sheet = regraded_sheet bytes plan in
    let unit : SampleUnit = sample_unit_at bytes (offset bytes i) in
    record {
      an_anchor = an_anchor_at bytes plan accepted.facts class i at.inside;
      largest_of = λ anchor.
          ap pos (recorded_cusum_holds bytes plan buffer answer results graded i at class in_range)
          ∙ largest_from_anchor (breaks again) (fails_regraded_at again class) again class _ _ i
          (unit_reached again class (designated_planned plan accepted.right) in_range i unit (entry_unit bytes i at.is_unit))
          anchor.from anchor.records anchor.failed anchor.to_this_unit
          (by_records bytes plan accepted.facts class i at.inside anchor.from anchor.failed anchor.is_anchor)
          (latest_by_records bytes plan accepted.facts class i at.inside anchor);
    }

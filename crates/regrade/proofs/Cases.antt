-- The outcome of a regrading as that of a grading, whose cases are those of every grading: refused by the check, 18, 13, accepted.
-- And what the code needs on the way: the writing can begin, and what it records can be graded by its code.
use Prim.Native.Nat.{ℕ, ◌*◌, ◌≤◌, ◌<◌}
use mathlib.Core.Path.{◌≡◌, refl, sym}
use mathlib.Core.Bool.{false}
use mathlib.Core.List.{List}
use native.Mathlib.Omega.{arith}
use Rattle.encoding.specs.Bytes.{byte}
use Rattle.units.specs.Conditions.{pick}
use Rattle.units.specs.Words.{tenths_of}
use Rattle.units.specs.declared.SampleUnit.{SampleUnit}
use Rattle.units.specs.declared.Entry.TheVariants.{UnitRecord}
use Rattle.units.proofs.Bounds.{defect_grade_at_most}
use Rattle.rules.specs.Sheet.{Sheet}
use Rattle.layout.specs.Layout.{plan_of, entry_at}
use Rattle.sheet.specs.Refusals.{verdict}
use Rattle.sheet.specs.Verdict.{Verdict, Accepted, Refused}
use Rattle.sheet.proofs.Accepted.{Facts, facts}
use Rattle.sheet.proofs.Ranges.{designated_le, prerequisite_le}
use Rattle.results.specs.Record.{result_size}
use Rattle.codes.proofs.Coding.{Gradable}
use Rattle.single_plan.specs.SinglePlan.{result_under}
use Rattle.tally.proofs.Entries.{code_fits}
use Rattle.tally.proofs.Gradings.{Way, graded}
use Rattle.regrade.specs.Regrading.{cusums_before, regraded_result, regraded_portion, regraded_code}
use Rattle.regrade.specs.Outcome.{sheet_under, second_plan_wrong, regraded, regrade_by, regrade_outcome}
use Rattle.regrade.specs.Regradable.{Regradable}
use Rattle.regrade.proofs.SecondPlan.{plan_passes, designated_planned}

-- a grading under a second plan, which is given beside the sheet
abbrev pub second_plan : List ℕ → List ℕ → Way
second_plan bytes plan =
    record {
      wrong = second_plan_wrong plan;
      number = 18;
      at = 0;
      positive = omega arith;
      recording = λ n. regraded_result (sheet_under bytes (plan_of plan) n);
    }

module _ (bytes plan buffer : List ℕ) where
  by_verdict : (says : Verdict) → graded (second_plan bytes plan) bytes buffer says ≡ regrade_by bytes plan buffer says
  unfolding regrade_by regraded graded pick regraded_code regraded_portion sheet_under result_under
  by_verdict (Refused number at) = refl
  by_verdict (Accepted records units) = refl

  pub is_graded : graded (second_plan bytes plan) bytes buffer (verdict bytes) ≡ regrade_outcome bytes plan buffer
  unfolding regrade_outcome
  is_graded = by_verdict (verdict bytes)

module _ (bytes plan : List ℕ) {records units : ℕ} (accepted : Accepted records units ≡ verdict bytes)
    (right : second_plan_wrong plan ≡ false) where
  sheet_facts : Facts bytes records
  sheet_facts = (facts bytes records units (sym accepted)).0

  abbrev sheet : Sheet
  sheet = sheet_under bytes (plan_of plan) records

  -- the writing can begin
  pub regradable : {size : ℕ} → result_size * units ≤ size → Regradable bytes records (plan_of plan) size
  regradable room =
      let counted = (facts bytes records units (sym accepted)).1 in
      record { whole = sheet_facts.whole; planned = designated_planned plan right; room = omega (arith, counted) }

  -- what is recorded of a unit can be graded by its code
  pub gradable : ((at : ℕ) → byte bytes at < 256) → (i : ℕ) → i < records → (unit : SampleUnit) → entry_at bytes i ≡ UnitRecord unit
      → Gradable unit (regraded_result sheet i unit)
  unfolding result_under sheet_under
  gradable small i inside unit is_unit =
      record {
        own_code = refl;
        code_fits = code_fits bytes small i unit is_unit;
        portion_grade_holds =
            omega (
              arith,
              prerequisite_le bytes records sheet_facts i unit is_unit,
              defect_grade_at_most sheet.table sheet.designated (cusums_before sheet i) (tenths_of unit)
                  (omega (arith, designated_le plan (plan_passes plan right))),
            );
      }

-- The outcome of a sheet as that of a grading, whose cases are those of every grading: refused by the check, 13, accepted.
-- And what the code needs on the way: the units are few, the writing pass can begin, and what it records can be graded by its code.
use Prim.Native.Nat.{ℕ, ◌*◌, ◌≤◌, ◌<◌}
use mathlib.Core.Path.{◌≡◌, refl, sym}
use mathlib.Core.Bool.{false}
use mathlib.Core.List.{List}
use native.Mathlib.Omega.{arith}
use lib.ListN.{length}
use Rattle.encoding.specs.Bytes.{byte}
use Rattle.units.specs.Conditions.{pick}
use Rattle.units.specs.Words.{Table, table_of}
use Rattle.units.specs.declared.SampleUnit.{SampleUnit}
use Rattle.units.specs.declared.Entry.TheVariants.{UnitRecord}
use Rattle.rules.specs.Sheet.{portion_grade, code_grade}
use Rattle.layout.specs.Layout.{plan_size, plan_of, entry_at, units_before}
use Rattle.layout.proofs.Offsets.{past_entry}
use Rattle.sheet.specs.Refusals.{most_units, verdict}
use Rattle.sheet.specs.Verdict.{Verdict, Accepted, Refused}
use Rattle.sheet.proofs.Grounds.{plan_whole}
use Rattle.sheet.proofs.Accepted.{Facts, facts}
use Rattle.sheet.proofs.Ranges.{units_most}
use Rattle.results.specs.Record.{result_size}
use Rattle.codes.proofs.Coding.{Gradable}
use Rattle.recording.specs.Sheet.{sheet_of, result_with, result_of}
use Rattle.writing.specs.Writable.{Writable}
use Rattle.tally.specs.Outcome.{acceptance, outcome_by, outcome}
use Rattle.tally.proofs.Entries.{code_fits, designated_planned, portion_le}
use Rattle.tally.proofs.Gradings.{Way, graded}

-- a grading under the sheet's own plan; nothing is given beside the sheet, so that it is never refused for that, and any number will do
abbrev pub own_plan : List ℕ → Way
own_plan bytes = record { wrong = false; number = 18; at = 0; positive = omega arith; recording = λ n. result_of (sheet_of bytes n) }

module _ (bytes buffer : List ℕ) where
  by_verdict : (says : Verdict) → graded (own_plan bytes) bytes buffer says ≡ outcome_by bytes buffer says
  unfolding outcome_by acceptance graded pick code_grade portion_grade sheet_of result_of result_with
  by_verdict (Refused number at) = refl
  by_verdict (Accepted records units) = refl

  pub is_graded : graded (own_plan bytes) bytes buffer (verdict bytes) ≡ outcome bytes buffer
  unfolding outcome
  is_graded = by_verdict (verdict bytes)

module _ (bytes : List ℕ) {records units : ℕ} (accepted : Accepted records units ≡ verdict bytes) where
  sheet_facts : Facts bytes records
  sheet_facts = (facts bytes records units (sym accepted)).0

  pub units_counted : units ≡ units_before bytes records
  units_counted = (facts bytes records units (sym accepted)).1

  pub units_few : units ≤ most_units
  units_few = omega (arith, units_counted, units_most bytes records sheet_facts records)

  pub plan_here : plan_size ≤ length bytes
  plan_here = plan_whole bytes sheet_facts.plan

  -- the writing pass can begin
  pub writable : {size : ℕ} → result_size * units ≤ size → {table : Table} {designated : ℕ} → table ≡ table_of (plan_of bytes)
      → designated ≡ (plan_of bytes).designated → Writable bytes records table designated size
  writable room same_table same_designated =
      record {
        same_table = same_table;
        same_designated = same_designated;
        whole = sheet_facts.whole;
        breaks_behind = past_entry bytes records sheet_facts.end;
        planned = designated_planned bytes records sheet_facts;
        room = omega (arith, units_counted);
      }

  -- what is recorded of a unit can be graded by its code
  pub gradable : ((at : ℕ) → byte bytes at < 256) → (i : ℕ) → i < records → (unit : SampleUnit) → entry_at bytes i ≡ UnitRecord unit
      → Gradable unit (result_of (sheet_of bytes records) i unit)
  unfolding result_of result_with
  gradable small i inside unit is_unit =
      record {
        own_code = refl;
        code_fits = code_fits bytes small i unit is_unit;
        portion_grade_holds = unfold portion_grade in portion_le bytes records sheet_facts i unit is_unit;
      }

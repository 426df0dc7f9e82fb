-- Old sheets for a new buyer (paper 02, A.5): a recorded sheet graded again under a second plan, over its records. Every unit is graded
-- under the plan of the second plan's designated grade, also one that failed or fails: failed units stay in their order. The rule of two in a
-- row does not apply, so that there is no step 3 and no recovery.
use Rattle.std.specs.Prelude.{ℕ, zero, suc, List}
use Rattle.cusum.specs.declared.Cusum.{Cusum}
use Rattle.units.specs.Words.{worse, row_of, tenths_of}
use Rattle.units.specs.Unit.{starting, new_cusums, grading_of}
use Rattle.units.specs.Records.{worst_before}
use Rattle.units.specs.declared.SampleUnit.{SampleUnit}
use Rattle.units.specs.declared.Grading.{Grading}
use Rattle.units.specs.declared.Entry.{Entry}
use Rattle.units.specs.declared.Entry.TheVariants.{UnitRecord, Redesignation, Break}
use Rattle.rules.specs.Sheet.{Sheet}
use Rattle.results.specs.declared.ResultRecord.{ResultRecord}
use Rattle.single_plan.specs.SinglePlan.{result_under}

-- the second plan's table and designated grade, with the records of the sheet
module _ (sheet : Sheet) where
  -- every class of the plan at its S
  abbrev pub at_start : List Cusum
  at_start = starting (row_of sheet.table sheet.designated)

  -- the CuSums behind a record, by those before it: a unit makes new ones by rule 2, "breaks restart, redesignations are passed over"
  unfoldable pub cusums_behind : List Cusum → Entry → List Cusum
  cusums_behind cusums (UnitRecord unit) = new_cusums sheet.table sheet.designated cusums (tenths_of unit)
  cusums_behind cusums (Redesignation new) = cusums
  cusums_behind cusums Break = at_start

  -- before record i
  unfoldable pub cusums_before : ℕ → List Cusum
  cusums_before zero = at_start
  cusums_before (suc i) = cusums_behind (cusums_before i) (sheet.entry i)

  -- the unit that is record i, graded by rules 2 and 3; lower grades are the second plan's, too
  abbrev pub regraded_at : ℕ → SampleUnit → Grading
  regraded_at i unit = grading_of sheet.table sheet.designated (cusums_before i) (tenths_of unit)

  -- what is recorded of it, but for its code grade: standing is 0 or 1
  abbrev pub regraded_result : ℕ → SampleUnit → ResultRecord
  regraded_result i unit = result_under sheet.designated unit (regraded_at i unit)

  -- rule 4: "Prerequisites and codes count as before"
  unfoldable pub regraded_portion : ℕ → SampleUnit → ℕ
  regraded_portion i unit = worse (regraded_at i unit).grade unit.prerequisite

  -- the code grade: the worst portion grade among all units of the sheet with that code, adjoining or not
  unfoldable pub regraded_code : ℕ → ℕ
  regraded_code code = worst_before regraded_portion sheet.entry code sheet.size

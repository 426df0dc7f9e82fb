-- What a result buffer holds of a unit, field by field, whatever was recorded: from where the unit's result record stands among those
-- written for the units of a sheet in their order.
use Prim.Native.Nat.{ℕ, ◌^◌, ◌<◌}
use mathlib.Core.Path.{◌≡◌, ◌∙◌, ap₂}
use mathlib.Core.List.{List, ◌++◌}
use lib.ListN.{length}
use Rattle.units.specs.Words.{classes, tenths_in, overshoot_for}
use Rattle.units.specs.Records.{units_among}
use Rattle.units.specs.declared.SampleUnit.{SampleUnit}
use Rattle.units.specs.declared.Entry.TheVariants.{UnitRecord}
use Rattle.layout.specs.Layout.{sample_unit_at, offset, entry_at, units_before}
use Rattle.layout.proofs.Units.{entry_unit, units_among_holds}
use Rattle.results.specs.Record.{overshoot_width, mark_in, code_in, portion_grade_in, code_grade_in, plan_grade_in, standing_in, cusum_in, overshoot_in}
use Rattle.results.specs.Written.{written}
use Rattle.results.specs.declared.ResultRecord.{ResultRecord}
use Rattle.results.proofs.Written.{mark_written, portion_written, code_grade_written, plan_written, standing_written, code_written, cusum_written, overshoot_written}
use Rattle.tally.specs.Outcome.{records_in}
use Rattle.tally.specs.Accepted.{UnitAt, recorded_cusum, recorded_overshoot, recorded_portion_grade, recorded_code_grade}
use Rattle.courses.specs.Demand2.{recorded_mark, recorded_code, recorded_plan_grade, recorded_standing}

-- what stands in the buffer for the unit that is record i is what was recorded of it, where that fits its field
pub record ReadBack (bytes results : List ℕ) (i : ℕ) (recorded : ResultRecord) (code_grade : ℕ) : Type 0 where
  pub mark : recorded_mark bytes results i ≡ 0x4752
  pub code : recorded.code < 65536 → recorded_code bytes results i ≡ recorded.code
  pub portion : recorded_portion_grade bytes results i ≡ recorded.portion
  pub code_grade_holds : recorded_code_grade bytes results i ≡ code_grade
  pub plan_grade_holds : recorded_plan_grade bytes results i ≡ recorded.plan
  pub standing : recorded_standing bytes results i ≡ recorded.standing
  pub cusums : (class : ℕ) → class < length classes → tenths_in recorded.cusums class < 65536
      → recorded_cusum bytes results i class ≡ tenths_in recorded.cusums class
  pub overshoots : (class : ℕ) → class < length classes → overshoot_for recorded.overshoots class < 256 ^ overshoot_width
      → recorded_overshoot bytes results i class ≡ overshoot_for recorded.overshoots class

module _ (bytes results : List ℕ) (recording : ℕ → SampleUnit → ResultRecord) (grades : ℕ → ℕ) (behind : List ℕ)
    (filled : results ≡ written recording grades (entry_at bytes) (records_in bytes) ++ behind) (i : ℕ) (at : UnitAt bytes i) where
  abbrev unit : SampleUnit
  unit = sample_unit_at bytes (offset bytes i)

  is_unit : entry_at bytes i ≡ UnitRecord unit
  is_unit = entry_unit bytes i at.is_unit

  -- a field of the record, read from the buffer, is read from the records written
  there : (field : List ℕ → ℕ → ℕ)
      → field results (units_before bytes i) ≡ field (written recording grades (entry_at bytes) (records_in bytes) ++ behind) (units_among (entry_at bytes) i)
  there field = ap₂ field filled (units_among_holds bytes i)

  pub read_back : ReadBack bytes results i (recording i (sample_unit_at bytes (offset bytes i))) (grades (sample_unit_at bytes (offset bytes i)).code)
  read_back =
      let n = records_in bytes in
      record {
        mark = there mark_in ∙ mark_written recording grades (entry_at bytes) n behind i at.inside unit is_unit;
        code = λ small. there code_in ∙ code_written recording grades (entry_at bytes) n behind i at.inside unit is_unit small;
        portion = there portion_grade_in ∙ portion_written recording grades (entry_at bytes) n behind i at.inside unit is_unit;
        code_grade_holds = there code_grade_in ∙ code_grade_written recording grades (entry_at bytes) n behind i at.inside unit is_unit;
        plan_grade_holds = there plan_grade_in ∙ plan_written recording grades (entry_at bytes) n behind i at.inside unit is_unit;
        standing = there standing_in ∙ standing_written recording grades (entry_at bytes) n behind i at.inside unit is_unit;
        cusums = λ class known small.
            there (λ (l : List ℕ) (j : ℕ). cusum_in l j class) ∙ cusum_written recording grades (entry_at bytes) n behind i at.inside unit is_unit class known small;
        overshoots = λ class known small.
            there (λ (l : List ℕ) (j : ℕ). overshoot_in l j class)
            ∙ overshoot_written recording grades (entry_at bytes) n behind i at.inside unit is_unit class known small;
      }

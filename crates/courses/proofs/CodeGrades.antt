-- Codes count, whatever the portions were graded by: the recorded code grade is the worst recorded portion grade of the code's units.
-- From the law of the worst grade among records.
use Prim.Native.Nat.{ℕ}
use mathlib.Core.Path.{◌≡◌, refl, sym, ◌∙◌, ap}
use mathlib.Core.List.{List}
use native.Mathlib.Omega.{arith}
use Rattle.units.specs.Records.{worst_before}
use Rattle.units.specs.declared.SampleUnit.{SampleUnit}
use Rattle.units.proofs.CodeGrade.{UnitWith, none_worse, attained}
use Rattle.layout.specs.Layout.{sample_unit_at, offset, entry_at}
use Rattle.layout.proofs.Units.{entry_unit, unit_mark}
use Rattle.tally.specs.Outcome.{records_in}
use Rattle.tally.specs.Accepted.{UnitAt, recorded_portion_grade, recorded_code_grade}
use Rattle.tally.proofs.Entries.{unit_is}
use Rattle.courses.specs.Demand2.{WorstOfCode}

module _ (bytes results : List ℕ) (portion_grade : ℕ → SampleUnit → ℕ)
    (portion_is : (j : ℕ) → UnitAt bytes j → recorded_portion_grade bytes results j ≡ portion_grade j (sample_unit_at bytes (offset bytes j)))
    (code_grade_is : (j : ℕ) → UnitAt bytes j
    → recorded_code_grade bytes results j ≡ worst_before portion_grade (entry_at bytes) (sample_unit_at bytes (offset bytes j)).code (records_in bytes)) where
  abbrev unit_in : ℕ → SampleUnit
  unit_in i = sample_unit_at bytes (offset bytes i)

  -- a unit of the sheet with this code
  abbrev with_code : (j : ℕ) → UnitAt bytes j → (code : ℕ) → (unit_in j).code ≡ code → UnitWith (entry_at bytes) code (records_in bytes)
  with_code j at code same =
      record { index = j; inside = at.inside; unit = unit_in j; is_unit = entry_unit bytes j at.is_unit; has_code_holds = same }

  -- and as the statement has it
  unit_of : {code : ℕ} (found : UnitWith (entry_at bytes) code (records_in bytes)) → UnitAt bytes found.index
  unit_of found = record { inside = found.inside; is_unit = unit_mark bytes found.index found.unit found.is_unit }

  same_unit : {code : ℕ} (found : UnitWith (entry_at bytes) code (records_in bytes)) → found.unit ≡ unit_in found.index
  same_unit found = unit_is bytes found.index found.unit found.is_unit

  pub worst_of_code : (i : ℕ) → UnitAt bytes i → WorstOfCode bytes results i
  unfolding sample_unit_at
  worst_of_code i at =
      let code = (unit_in i).code in
      let found = attained portion_grade (entry_at bytes) code (records_in bytes) (with_code i at code refl) in
      let j = found.unit_with.index in
      let there = unit_of found.unit_with in
      record {
        none_worse = λ j there same.
            omega (
              arith,
              none_worse portion_grade (entry_at bytes) code (records_in bytes) (with_code j there code same),
              portion_is j there,
              code_grade_is i at,
            );
        one_has_it =
            record {
              index = j;
              unit = there;
              same_code = sym (ap (λ (u : SampleUnit). u.code) (same_unit found.unit_with)) ∙ found.unit_with.has_code_holds;
              same_grade =
                  portion_is j there
                  ∙ ap (portion_grade j) (sym (same_unit found.unit_with))
                  ∙ found.same_grade
                  ∙ sym (code_grade_is i at);
            };
      }

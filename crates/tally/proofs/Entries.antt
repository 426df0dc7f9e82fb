-- What the records of an accepted sheet hold: new grades that have a plan, prerequisite grades, codes of two bytes, and that the
-- designated grade is the one that the refusals go by, so that it has a plan. From the check's ranges, and by induction on the records.
use Prim.Native.Nat.{ℕ, zero, suc, ◌+◌, ◌≤◌, ◌<◌}
use mathlib.Core.Path.{◌≡◌, refl, sym, ◌∙◌, ap}
use mathlib.Core.Bool.{true}
use mathlib.Core.List.{List}
use native.Mathlib.Omega.{arith}
use borrow.Author.Tests.{lt-ltb}
use Rattle.encoding.specs.Bytes.{byte}
use Rattle.units.specs.Words.{substandard, has_plan}
use Rattle.units.specs.Records.{designated_by}
use Rattle.units.specs.declared.SampleUnit.{SampleUnit}
use Rattle.units.specs.declared.Entry.{Entry}
use Rattle.units.specs.declared.Entry.TheVariants.{UnitRecord, Redesignation, Break}
use Rattle.rules.specs.StepThree.{restarted}
use Rattle.rules.specs.Sheet.{before, designated_at, portion_grade}
use Rattle.rules.proofs.Steps.{designated_after}
use Rattle.rules.proofs.Grades.{NewGrade, designated_at_most, portion_at_most}
use Rattle.layout.specs.Layout.{code_offset, sample_unit_at, offset, entry_at}
use Rattle.layout.proofs.Units.{entry_unit, unit_mark}
use Rattle.sheet.specs.Refusals.{designated_before}
use Rattle.sheet.proofs.Accepted.{Facts}
use Rattle.sheet.proofs.Ranges.{designated_le, prerequisite_le, new_grade_le}
use Rattle.recording.specs.Sheet.{sheet_of}

-- a record that reads as a unit is the unit at its offset
pub unit_is : (bytes : List ℕ) (i : ℕ) (unit : SampleUnit) → entry_at bytes i ≡ UnitRecord unit → unit ≡ sample_unit_at bytes (offset bytes i)
unit_is bytes i unit is_unit =
    let same = entry_unit bytes i (unit_mark bytes i unit is_unit) in
    let both : UnitRecord unit ≡ UnitRecord (sample_unit_at bytes (offset bytes i)) = sym is_unit ∙ same in
    cc

-- codes have two bytes, where every byte is below 256
pub code_fits : (bytes : List ℕ) → ((at : ℕ) → byte bytes at < 256) → (i : ℕ) (unit : SampleUnit) → entry_at bytes i ≡ UnitRecord unit → unit.code < 65536
unfolding sample_unit_at
code_fits bytes small i unit is_unit =
    let at = offset bytes i + code_offset in
    omega (arith, ap (λ (u : SampleUnit). u.code) (unit_is bytes i unit is_unit), small at, small (at + 1))

-- the refusals and the grading go by the same designated grade
pub designated_before_holds : (bytes : List ℕ) (n i : ℕ) → designated_at (sheet_of bytes n) i ≡ designated_before bytes i
unfolding before restarted sheet_of designated_before
designated_before_holds bytes n zero = refl
designated_before_holds bytes n (suc i) =
    designated_after (sheet_of bytes n).table (before (sheet_of bytes n) i) (entry_at bytes i)
    ∙ ap (λ (designated : ℕ). designated_by designated (entry_at bytes i)) (designated_before_holds bytes n i)

module _ (bytes : List ℕ) (n : ℕ) (facts : Facts bytes n) where
  -- a redesignation names A, B or C
  pub new_grades : (i : ℕ) → NewGrade (entry_at bytes i)
  new_grades i = go (entry_at bytes i) refl
    where
      go : (entry : Entry) → entry_at bytes i ≡ entry → NewGrade entry
      go (UnitRecord unit) e = unfold NewGrade in tt
      go (Redesignation new) e = unfold NewGrade in new_grade_le bytes n facts i new e
      go Break e = unfold NewGrade in tt

  -- and so every designated grade has a plan
  pub designated_planned : (i : ℕ) → has_plan (designated_at (sheet_of bytes n) i) ≡ true
  unfolding has_plan sheet_of
  designated_planned i =
      let at_most = designated_at_most (sheet_of bytes n) (designated_le bytes facts.plan) new_grades i in
      lt-ltb (designated_at (sheet_of bytes n) i) substandard (omega arith)

  -- portion grades are grades
  pub portion_le : (i : ℕ) (unit : SampleUnit) → entry_at bytes i ≡ UnitRecord unit → portion_grade (sheet_of bytes n) i unit ≤ substandard
  unfolding sheet_of
  portion_le i unit is_unit =
      portion_at_most (sheet_of bytes n) (designated_le bytes facts.plan) new_grades i unit (prerequisite_le bytes n facts i unit is_unit)

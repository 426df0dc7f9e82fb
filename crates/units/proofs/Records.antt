-- Laws of the records of a sheet: that of which something holds as of a unit is a unit; how many units are among them with one record
-- more; which record a unit is that has so many before it. By cases of a record, and by induction on the records.
use Prim.Native.Nat.{ℕ, zero, suc, ◌+◌, ◌≤◌, ◌<◌}
use mathlib.Core.Path.{◌≡◌, refl, ap}
use mathlib.Core.Logic.{◌⊎◌, inl, inr}
use mathlib.Core.Bool.{Bool, true, false, false≢true}
use native.Mathlib.Nat.{eq-or-lt_of_le}
use native.Mathlib.Omega.{arith}
use lib.Dec.{ltb}
use borrow.Author.Tests.{ltb-true, ltb-false}
use Rattle.units.specs.declared.SampleUnit.{SampleUnit}
use Rattle.units.specs.declared.Entry.{Entry}
use Rattle.units.specs.declared.Entry.TheVariants.{UnitRecord, Redesignation, Break}
use Rattle.units.specs.Records.{is_unit_that, units_of, units_among}

-- a record that is such a unit
pub unit_that : (holds : SampleUnit → Bool) (entry : Entry) → is_unit_that holds entry ≡ true
    → (unit : SampleUnit) × (entry ≡ UnitRecord unit) × (holds unit ≡ true)
unfolding is_unit_that
unit_that holds (UnitRecord unit) here = (unit, refl, here)
unit_that holds (Redesignation new) here = absurd (false≢true here)
unit_that holds Break here = absurd (false≢true here)

module _ (entry : ℕ → Entry) where
  pub units_next : (n : ℕ) (unit : SampleUnit) → entry n ≡ UnitRecord unit → units_among entry (suc n) ≡ units_among entry n + 1
  unfolding units_among units_of
  units_next n unit is_unit = ap (λ (last : Entry). units_among entry n + units_of last) is_unit

  pub units_mono : (i n : ℕ) → i ≤ n → units_among entry i ≤ units_among entry n
  unfolding units_among
  units_mono i zero within = let first : i ≡ 0 = omega arith in rw first (omega arith)
  units_mono i (suc n) within = go (eq-or-lt_of_le within) (units_mono i n)
    where
      go : (i ≡ suc n) ⊎ (i < suc n) → (i ≤ n → units_among entry i ≤ units_among entry n)
          → units_among entry i ≤ units_among entry n + units_of (entry n)
      go (inl last) earlier = rw last (omega arith)
      go (inr below) earlier = omega (arith, earlier (omega arith))

-- the unit with so many units before it, among the first n records
pub record NumberedUnit (entry : ℕ → Entry) (n before : ℕ) : Type 0 where
  pub index : ℕ
  pub inside : index < n
  pub units_before_holds : units_among entry index ≡ before
  pub unit : SampleUnit
  pub is_unit : entry index ≡ UnitRecord unit

pub record_of_unit : (entry : ℕ → Entry) (n before : ℕ) → before < units_among entry n → NumberedUnit entry n before
unfolding units_among units_of
record_of_unit entry zero before below = absurd (omega arith)
record_of_unit entry (suc n) before below = go (ltb before (units_among entry n)) refl (record_of_unit entry n before) (entry n) refl below
  where
    go : (earlier : Bool) → ltb before (units_among entry n) ≡ earlier → (before < units_among entry n → NumberedUnit entry n before)
        → (last : Entry) → entry n ≡ last → before < units_among entry n + units_of last → NumberedUnit entry (suc n) before
    go true test found last is_last below =
        let unit = found (ltb-true before (units_among entry n) test) in
        record {
          index = unit.index;
          inside = omega (arith, unit.inside);
          units_before_holds = unit.units_before_holds;
          unit = unit.unit;
          is_unit = unit.is_unit;
        }
    go false test found (UnitRecord unit) is_last below =
        record {
          index = n;
          inside = omega arith;
          units_before_holds = omega (arith, ltb-false before (units_among entry n) test);
          unit = unit;
          is_unit = is_last;
        }
    go false test found (Redesignation new) is_last below = absurd (omega (arith, ltb-false before (units_among entry n) test))
    go false test found Break is_last below = absurd (omega (arith, ltb-false before (units_among entry n) test))

-- The code grade is the worst portion grade of the code: no unit of the code has a worse one, and one of them has it.
-- By induction on the records.
use Prim.Native.Nat.{ℕ, zero, suc, ◌≤◌, ◌<◌}
use mathlib.Core.Path.{◌≡◌, refl, sym, ◌∙◌, ap}
use mathlib.Core.Logic.{◌⊎◌, inl, inr}
use mathlib.Core.Bool.{Bool, true, false}
use native.Mathlib.Nat.{eq-or-lt_of_le, le_of_suc-le-suc}
use native.Mathlib.Omega.{arith}
use lib.Dec.{eqb, leb}
use borrow.Author.Tests.{eqb-true, eq-eqb, leb-true, leb-false}
use Rattle.units.specs.Words.{worse}
use Rattle.units.specs.Records.{portion_grade_with, worst_before}
use Rattle.units.specs.declared.SampleUnit.{SampleUnit}
use Rattle.units.specs.declared.Entry.{Entry}
use Rattle.units.specs.declared.Entry.TheVariants.{UnitRecord, Redesignation, Break}

-- a unit with this code among the first n records
pub record UnitWith (entry : ℕ → Entry) (code n : ℕ) : Type 0 where
  pub index : ℕ
  pub inside : index < n
  pub unit : SampleUnit
  pub is_unit : entry index ≡ UnitRecord unit
  pub has_code_holds : unit.code ≡ code

module _ (portion_grade : ℕ → SampleUnit → ℕ) (entry : ℕ → Entry) (code : ℕ) where
  abbrev worst : ℕ → ℕ
  worst n = worst_before portion_grade entry code n

  own_grade : (n : ℕ) (unit : SampleUnit) → entry n ≡ UnitRecord unit → unit.code ≡ code → portion_grade_with portion_grade code n (entry n) ≡ portion_grade n unit
  unfolding portion_grade_with
  own_grade n unit is_unit has_code_holds = rw (is_unit, eq-eqb unit.code code has_code_holds)

  -- no unit of the code has a worse portion grade
  pub none_worse : (n : ℕ) (given : UnitWith entry code n) → portion_grade given.index given.unit ≤ worst n
  unfolding worst_before
  none_worse zero given = absurd (omega (arith, given.inside))
  none_worse (suc n) given = go (eq-or-lt_of_le (le_of_suc-le-suc given.inside)) (none_worse n)
    where
      go : (given.index ≡ n) ⊎ (given.index < n) → ((w : UnitWith entry code n) → portion_grade w.index w.unit ≤ worst n)
          → portion_grade given.index given.unit ≤ worse (worst n) (portion_grade_with portion_grade code n (entry n))
      go (inl last) earlier =
          let here : entry n ≡ UnitRecord given.unit = sym (ap entry last) ∙ given.is_unit in
          omega (arith, ap (λ (i : ℕ). portion_grade i given.unit) last, own_grade n given.unit here given.has_code_holds)
      go (inr less) earlier =
          let before = earlier (record { index = given.index; inside = less; unit = given.unit; is_unit = given.is_unit; has_code_holds = given.has_code_holds }) in
          omega arith

  -- one of them has it
  pub record Attained (n : ℕ) : Type 0 where
    pub unit_with : UnitWith entry code n
    pub same_grade : portion_grade unit_with.index unit_with.unit ≡ worst n

  abbrev later : (n : ℕ) → UnitWith entry code n → UnitWith entry code (suc n)
  later n given = record { index = given.index; inside = omega (arith, given.inside); unit = given.unit; is_unit = given.is_unit; has_code_holds = given.has_code_holds }

  -- one record more: it has the code, or it changes nothing
  last_by : (n : ℕ) (last : Entry) → entry n ≡ last
      → ((unit : SampleUnit) × (entry n ≡ UnitRecord unit) × (unit.code ≡ code)) ⊎ (portion_grade_with portion_grade code n (entry n) ≡ 0)
  unfolding portion_grade_with
  last_by n (UnitRecord unit) is_last = go (eqb unit.code code) refl
    where
      go : (same : Bool) → eqb unit.code code ≡ same
          → ((u : SampleUnit) × (entry n ≡ UnitRecord u) × (u.code ≡ code)) ⊎ (portion_grade_with portion_grade code n (entry n) ≡ 0)
      go true e = inl (unit, is_last, eqb-true unit.code code e)
      go false e = inr (rw (is_last, e))
  last_by n (Redesignation new) is_last = inr (rw is_last)
  last_by n Break is_last = inr (rw is_last)

  module _ (n : ℕ) where
    abbrev grade : ℕ
    grade = portion_grade_with portion_grade code n (entry n)

    keeps : Attained n → grade ≤ worst n → Attained (suc n)
    unfolding worst_before
    keeps earlier no_worse = record { unit_with = later n earlier.unit_with; same_grade = omega (arith, earlier.same_grade) }

    takes : (unit : SampleUnit) → entry n ≡ UnitRecord unit → unit.code ≡ code → worst n ≤ grade → Attained (suc n)
    unfolding worst_before
    takes unit is_unit has_code_holds worse_here =
        record {
          unit_with = record { index = n; inside = omega arith; unit = unit; is_unit = is_unit; has_code_holds = has_code_holds };
          same_grade = omega (arith, own_grade n unit is_unit has_code_holds);
        }

    one_more : ((unit : SampleUnit) × (entry n ≡ UnitRecord unit) × (unit.code ≡ code)) ⊎ (grade ≡ 0)
        → Attained n ⊎ (worst n ≡ 0) → Attained (suc n) ⊎ (worst (suc n) ≡ 0)
    unfolding worst_before
    one_more (inl (unit, is_unit, has_code_holds)) (inr none) = inl (takes unit is_unit has_code_holds (omega arith))
    one_more (inl (unit, is_unit, has_code_holds)) (inl earlier) = inl (go (leb (worst n) grade) refl)
      where
        go : (test : Bool) → leb (worst n) grade ≡ test → Attained (suc n)
        go true e = takes unit is_unit has_code_holds (leb-true (worst n) grade e)
        go false e = keeps earlier (omega (arith, leb-false (worst n) grade e))
    one_more (inr none_here) (inl earlier) = inl (keeps earlier (omega arith))
    one_more (inr none_here) (inr none) = inr (omega arith)

  -- one of them has it, or it is the best of all grades
  attained_or_best : (n : ℕ) → Attained n ⊎ (worst n ≡ 0)
  unfolding worst_before
  attained_or_best zero = inr refl
  attained_or_best (suc n) = one_more n (last_by n (entry n) refl) (attained_or_best n)

  pub attained : (n : ℕ) → UnitWith entry code n → Attained n
  attained n given = go (attained_or_best n)
    where
      go : Attained n ⊎ (worst n ≡ 0) → Attained n
      go (inl found) = found
      go (inr best) = record { unit_with = given; same_grade = omega (arith, none_worse n given) }

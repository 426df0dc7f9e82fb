-- Two sheets record by record: each record has a fellow like it but for the counts, none of which exceeds the fellow's. Where no portion
-- grades lower than its fellow, no code does: by induction on the records.
use Prim.Native.Nat.{ℕ, zero, suc, ◌≤◌}
use mathlib.Core.Path.{◌≡◌, subst⁻¹}
use mathlib.Core.Bool.{Bool, true, false, cond}
use native.Mathlib.Omega.{arith}
use lib.Dec.{eqb}
use Rattle.units.specs.Records.{portion_grade_with, worst_before}
use Rattle.units.specs.declared.SampleUnit.{SampleUnit}
use Rattle.units.specs.declared.Entry.{Entry}
use Rattle.units.specs.declared.Entry.TheVariants.{UnitRecord, Redesignation, Break}
use Rattle.units.proofs.Monotone.{Fewer}

-- two units alike but for the counts, none of which exceeds its fellow in the second
pub record UnitBelow (u v : SampleUnit) : Type 0 where
  pub same_code : u.code ≡ v.code
  pub fewer : Fewer u v
  pub same_prerequisite : u.prerequisite ≡ v.prerequisite
  pub same_recoverable : u.recoverable ≡ v.recoverable

-- two records
unfoldable pub Below : Entry → Entry → Type 0
Below (UnitRecord u) (UnitRecord v) = UnitBelow u v
Below (UnitRecord u) (Redesignation new) = ⊥
Below (UnitRecord u) Break = ⊥
Below (Redesignation new) (UnitRecord v) = ⊥
Below (Redesignation new) (Redesignation new') = new ≡ new'
Below (Redesignation new) Break = ⊥
Below Break (UnitRecord v) = ⊥
Below Break (Redesignation new) = ⊥
Below Break Break = Unit {0}

-- portions of two sheets, none of which grades lower than its fellow in the second
module _ (es fs : ℕ → Entry) (fellows : (i : ℕ) → Below (es i) (fs i)) (grade grade' : ℕ → SampleUnit → ℕ)
    (portion_mono : (i : ℕ) (u v : SampleUnit) → UnitBelow u v → grade i u ≤ grade' i v) where
  portion_with_mono : (code i : ℕ) (e e' : Entry) → Below e e' → portion_grade_with grade code i e ≤ portion_grade_with grade' code i e'
  unfolding portion_grade_with Below
  portion_with_mono code i (UnitRecord u) (UnitRecord v) w =
      subst⁻¹ (λ (x : ℕ). cond (eqb x code) (grade i u) 0 ≤ cond (eqb v.code code) (grade' i v) 0)
      w.same_code (go (eqb v.code code))
    where
      go : (b : Bool) → cond b (grade i u) 0 ≤ cond b (grade' i v) 0
      go true = portion_mono i u v w
      go false = omega arith
  portion_with_mono code i (UnitRecord u) Break w = absurd w
  portion_with_mono code i (UnitRecord u) (Redesignation g) w = absurd w
  portion_with_mono code i Break (UnitRecord v) w = absurd w
  portion_with_mono code i Break (Redesignation g) w = absurd w
  portion_with_mono code i Break Break w = omega arith
  portion_with_mono code i (Redesignation g) (UnitRecord v) w = absurd w
  portion_with_mono code i (Redesignation g) Break w = absurd w
  portion_with_mono code i (Redesignation g) (Redesignation h) w = omega arith

  pub worst_mono : (code n : ℕ) → worst_before grade es code n ≤ worst_before grade' fs code n
  unfolding worst_before
  worst_mono code zero = omega arith
  worst_mono code (suc n) = omega (arith, worst_mono code n, portion_with_mono code n (es n) (fs n) (fellows n))

-- Demand 2 for mold sheets: the CuSums follow rule 2, nothing else does, and they are recorded. From the laws of the step, by induction on
-- the units, and from what is read back.
use Prim.Native.Nat.{ℕ, zero, suc, ◌+◌, ◌-◌, ◌≤◌, ◌<◌, min}
use mathlib.Core.Path.{◌≡◌, refl, ◌∙◌, subst⁻¹}
use mathlib.Core.Bool.{Bool, true, false, cond}
use mathlib.Core.List.{List}
use native.Mathlib.Omega.{arith}
use lib.Dec.{ltb}
use borrow.Author.Tests.{ltb-true, ltb-false}
use Rattle.outcome.specs.declared.Answer.{Answer}
use Rattle.cusum.proofs.Laws.{new_cusum_is, fails_true, fails_false}
use Rattle.grounds.specs.Tells.{Tells}
use Rattle.mold.specs.Layout.{mold_unit_at}
use Rattle.mold.specs.Grading.{numbers_of, tenths_at, cusum_before, fails_at}
use Rattle.mold.specs.Results.{met_in}
use Rattle.mold.specs.Outcome.{MoldAcceptedAs}
use Rattle.mold.proofs.Accepted.{mold_accepted}
use Rattle.mold_demands.specs.MoldRecords.{ten_fields, RawAboveLimit, MoldCourse, MoldRecorded, MoldGraded}
use Rattle.mold_demands.proofs.MoldFields.{Behind, behind, mark_read, met_read, cusum_read}

-- ---- the course

module _ (bytes : List ℕ) where
  fields_are : (i : ℕ) → tenths_at bytes i ≡ ten_fields bytes i
  unfolding mold_unit_at
  fields_are i = refl

  next_is : (i : ℕ) → cusum_before bytes (suc i) ≡ min (numbers_of bytes).limit (cusum_before bytes i + ten_fields bytes i - (numbers_of bytes).tolerance)
  unfolding cusum_before
  next_is i = new_cusum_is (numbers_of bytes) (cusum_before bytes i) (tenths_at bytes i) ∙ omega (arith, fields_are i)

  course : MoldCourse bytes (cusum_before bytes)
  unfolding cusum_before
  course =
      record {
        opening = refl;
        above = λ i h. omega (arith, next_is i);
        below = λ i h. omega (arith, next_is i);
        between = λ i. by_case i (ltb ((numbers_of bytes).tolerance + (numbers_of bytes).limit) (cusum_before bytes i + ten_fields bytes i)) refl;
      }
    where
      by_case : (i : ℕ) → (test : Bool) → ltb ((numbers_of bytes).tolerance + (numbers_of bytes).limit) (cusum_before bytes i + ten_fields bytes i) ≡ test
          → (numbers_of bytes).tolerance ≤ cusum_before bytes i + ten_fields bytes i → (RawAboveLimit bytes (cusum_before bytes i) i → ⊥)
          → (numbers_of bytes).tolerance + cusum_before bytes (suc i) ≡ cusum_before bytes i + ten_fields bytes i
      by_case i true e from within = absurd (within (ltb-true _ _ e))
      by_case i false e from within =
          let at_most = ltb-false ((numbers_of bytes).tolerance + (numbers_of bytes).limit) (cusum_before bytes i + ten_fields bytes i) e in
          omega (arith, next_is i, at_most)

  -- at each unit one of the three cases applies
  same_next : (other : ℕ → ℕ) → MoldCourse bytes other → (i : ℕ) → other i ≡ cusum_before bytes i → other (suc i) ≡ cusum_before bytes (suc i)
  same_next other follows i same =
      go (ltb ((numbers_of bytes).tolerance + (numbers_of bytes).limit) (other i + ten_fields bytes i)) refl
      (ltb (other i + ten_fields bytes i) (numbers_of bytes).tolerance) refl
    where
      go : (high : Bool) → ltb ((numbers_of bytes).tolerance + (numbers_of bytes).limit) (other i + ten_fields bytes i) ≡ high
          → (low : Bool) → ltb (other i + ten_fields bytes i) (numbers_of bytes).tolerance ≡ low → other (suc i) ≡ cusum_before bytes (suc i)
      go true h low l =
          let above = ltb-true ((numbers_of bytes).tolerance + (numbers_of bytes).limit) (other i + ten_fields bytes i) h in
          follows.above i above ∙ omega (arith, next_is i, same, above)
      go false h true l =
          let below = ltb-true (other i + ten_fields bytes i) (numbers_of bytes).tolerance l in
          follows.below i below ∙ omega (arith, next_is i, same, below)
      go false h false l =
          let within = ltb-false ((numbers_of bytes).tolerance + (numbers_of bytes).limit) (other i + ten_fields bytes i) h in
          let from = ltb-false (other i + ten_fields bytes i) (numbers_of bytes).tolerance l in
          omega (arith, next_is i, same, within, from, follows.between i from (λ above. omega (arith, within)))

  only_course : (other : ℕ → ℕ) → MoldCourse bytes other → (i : ℕ) → other i ≡ cusum_before bytes i
  unfolding cusum_before
  only_course other follows zero = follows.opening
  only_course other follows (suc i) = same_next other follows i (only_course other follows i)

  fails_told : (i : ℕ) → Tells (fails_at bytes i) (RawAboveLimit bytes (cusum_before bytes i) i)
  unfolding fails_at
  fails_told i =
      record {
        so = λ e. omega (arith, fails_true (numbers_of bytes) (cusum_before bytes i) (tenths_at bytes i) e, fields_are i);
        not_so = λ e above. omega (arith, fails_false (numbers_of bytes) (cusum_before bytes i) (tenths_at bytes i) e, fields_are i);
      }

-- ---- what is recorded

module _ (bytes buffer : List ℕ) (answer : Answer) (results : List ℕ) (graded : MoldAcceptedAs bytes buffer answer results) where
  -- where the record of a unit stands
  pub here : (i : ℕ) → i < answer.units → Behind bytes results i
  here i before =
      let sheet = mold_accepted bytes buffer answer results graded in
      subst⁻¹ (λ (l : List ℕ). Behind bytes l i) sheet.filled (behind bytes answer.units _ i before)

  module _ (i : ℕ) (before : i < answer.units) where
    met_is : met_in results i ≡ cond (fails_at bytes i) 0 1
    met_is = met_read bytes results i (here i before)

    failed_byte : (test : Bool) → fails_at bytes i ≡ test → RawAboveLimit bytes (cusum_before bytes i) i → ◌≡◌ {A = ℕ} (cond test 0 1) 0
    failed_byte true e above = refl
    failed_byte false e above = absurd ((fails_told bytes i).not_so e above)

    met_byte : (test : Bool) → fails_at bytes i ≡ test → (RawAboveLimit bytes (cusum_before bytes i) i → ⊥) → ◌≡◌ {A = ℕ} (cond test 0 1) 1
    met_byte true e within = absurd (within ((fails_told bytes i).so e))
    met_byte false e within = refl

    recorded : MoldRecorded bytes results (cusum_before bytes) i
    recorded =
        record {
          mark = mark_read bytes results i (here i before);
          failed = λ above. met_is ∙ failed_byte (fails_at bytes i) refl above;
          met = λ within. met_is ∙ met_byte (fails_at bytes i) refl within;
          cusum_recorded = cusum_read bytes results i (here i before);
        }

pub mold_graded : MoldGraded
mold_graded bytes buffer answer results graded =
    record {
      cusum = cusum_before bytes;
      rules = course bytes;
      only_course = only_course bytes;
      recorded = recorded bytes buffer answer results graded;
      fails = fails_told bytes;
    }

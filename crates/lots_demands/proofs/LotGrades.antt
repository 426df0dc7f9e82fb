-- The grade of an accepted lot. The defect grade is the best that admits all classes, by its three tests. A grade that admits a class is
-- followed by grades that admit it, since no AQL falls and a larger AQL never has a smaller acceptance number; so the defect grade is the
-- lowest of the classes' own.
use Prim.Native.Nat.{ℕ, zero, suc, ◌≤◌, ◌<◌, max}
use mathlib.Core.Path.{◌≡◌, refl, sym, ◌∙◌, ap, subst}
use mathlib.Core.Bool.{Bool, true, false}
use mathlib.Core.List.{List}
use mathlib.Core.Logic.{◌⊎◌, inl, inr}
use native.Mathlib.Omega.{arith}
use lib.Dec.{ltb, eqb}
use borrow.Author.Tests.{ltb-true, ltb-false, eqb-true, eqb-false}
use Rattle.units.specs.Conditions.{pick}
use Rattle.grounds.specs.Tells.{Tells}
use Rattle.grounds.proofs.Tells.{tells_le, tells_as, tells_all}
use Rattle.lots.specs.Layout.{sample_units, aql_of, count_of_class}
use Rattle.lots.specs.Acceptance.{acceptance_number}
use Rattle.lots.specs.Refusals.{lot_refusal}
use Rattle.lots.specs.Grading.{admits_class, admits, defect_grade, lot_grade}
use Rattle.lots.specs.Answer.{accepted_lot, refused_lot, lot_answer}
use Rattle.lots.specs.declared.LotAnswer.{LotAnswer}
use Rattle.lots_demands.specs.LotFields.{sample_units_at, aql_at, prerequisite_at}
use Rattle.lots_demands.specs.LotTable.{ListedSampleUnits, ListedAql}
use Rattle.lots_demands.specs.LotGrounds.{LotRow, row20, row21, row22}
use Rattle.lots_demands.specs.LotGrades.{Admits, AdmitsAll, DefectGrade, ClassGrade, WorseOf, LotGraded, LotGrades}
use Rattle.lots_demands.proofs.LotFields.{aql_is, class_count_is}
use Rattle.lots_demands.proofs.LotTable.{lot_table}
use Rattle.lots_demands.proofs.LotGrounds.{lot_refusals}
use Rattle.lots_demands.proofs.Best.{first_of, first_is_best, best_bound, best_first, one_best}

-- ---- the tests of the definitions

module _ (lot : List ℕ) where
  pub tells_class : (grade class : ℕ) → class < 4 → Tells (admits_class lot grade class) (Admits lot grade class)
  unfolding admits_class
  tells_class grade class inside =
      tells_as (λ within. rw (class_count_is lot class inside, aql_is lot grade class) within)
      (λ within. rw (class_count_is lot class inside, aql_is lot grade class) at within)
      (tells_le (count_of_class lot class).0 (acceptance_number (sample_units lot) (aql_of lot grade class)))

  tells_grade : (grade : ℕ) → Tells (admits lot grade) (AdmitsAll lot grade)
  unfolding admits
  tells_grade grade = tells_all 4 _ _ (λ class inside. tells_class grade class inside)

  pub defect_grade_is : DefectGrade lot (defect_grade lot)
  unfolding defect_grade
  defect_grade_is = first_is_best (AdmitsAll lot) (admits lot 0) (admits lot 1) (admits lot 2) (tells_grade 0) (tells_grade 1) (tells_grade 2)

  pub class_grade_is : (class : ℕ) → class < 4
      → ClassGrade lot class (first_of (admits_class lot 0 class) (admits_class lot 1 class) (admits_class lot 2 class))
  class_grade_is class inside =
      let tells : (grade : ℕ) → Tells (admits_class lot grade class) (Admits lot grade class) = λ grade. tells_class grade class inside in
      first_is_best (λ grade. Admits lot grade class) (admits_class lot 0 class) (admits_class lot 1 class) (admits_class lot 2 class)
      (tells 0) (tells 1) (tells 2)

-- ---- a lot that no row refuses

module _ (lot : List ℕ) (none : (number : ℕ) → LotRow lot number → ⊥) where
  abbrev bound : ℕ → ℕ → ℕ
  bound grade class = acceptance_number (sample_units_at lot) (aql_at lot grade class)

  -- what holds unless a row applies
  units_listed : (ListedSampleUnits (sample_units_at lot) → ⊥) → ⊥
  units_listed unlisted = none 20 (row20 unlisted)

  aql_listed : (grade class : ℕ) → grade < 3 → class < 4 → (ListedAql (aql_at lot grade class) → ⊥) → ⊥
  aql_listed grade class g k unlisted =
      none 21 (row21 (record { grade = grade; class = class; is_grade = g; is_class = k; unlisted = unlisted }))

  falls : (class : ℕ) → class < 4 → (aql_at lot 1 class < aql_at lot 0 class) ⊎ (aql_at lot 2 class < aql_at lot 1 class) → ⊥
  falls class k here = none 22 (row22 (record { class = class; is_class = k; falls = here }))

  -- an AQL is not above that of the next grade
  rises : (grade class : ℕ) → suc grade < 3 → class < 4 → aql_at lot grade class ≤ aql_at lot (suc grade) class
  rises zero class g k = go (ltb (aql_at lot 1 class) (aql_at lot 0 class)) refl
    where
      go : (down : Bool) → ltb (aql_at lot 1 class) (aql_at lot 0 class) ≡ down → aql_at lot 0 class ≤ aql_at lot 1 class
      go true e = absurd (falls class k (inl (ltb-true _ _ e)))
      go false e = ltb-false (aql_at lot 1 class) (aql_at lot 0 class) e
  rises (suc zero) class g k = go (ltb (aql_at lot 2 class) (aql_at lot 1 class)) refl
    where
      go : (down : Bool) → ltb (aql_at lot 2 class) (aql_at lot 1 class) ≡ down → aql_at lot 1 class ≤ aql_at lot 2 class
      go true e = absurd (falls class k (inr (ltb-true _ _ e)))
      go false e = ltb-false (aql_at lot 2 class) (aql_at lot 1 class) e
  rises (suc (suc grade)) class g k = absurd (omega arith)

  -- and so is its acceptance number; that it is not smaller is decided by a test
  bound_rises : (grade class : ℕ) → suc grade < 3 → class < 4 → bound grade class ≤ bound (suc grade) class
  bound_rises grade class g k = go (ltb (bound (suc grade) class) (bound grade class)) refl
    where
      go : (down : Bool) → ltb (bound (suc grade) class) (bound grade class) ≡ down → bound grade class ≤ bound (suc grade) class
      go true e =
          absurd
          (units_listed
          (λ units. aql_listed grade class (omega arith) k
          (λ aql. aql_listed (suc grade) class g k
          (λ next.
          let smaller = ltb-true (bound (suc grade) class) (bound grade class) e in
          let rising = lot_table.larger_aql (sample_units_at lot) (aql_at lot grade class) (aql_at lot (suc grade) class) units aql next (rises grade class g k) in
          omega arith))))
      go false e = ltb-false (bound (suc grade) class) (bound grade class) e

  admits_next : (grade class : ℕ) → suc grade < 3 → class < 4 → Admits lot grade class → Admits lot (suc grade) class
  admits_next grade class g k within = omega (arith, bound_rises grade class g k)

  -- a grade that admits a class is followed by grades that admit it
  admits_later : (grade later class : ℕ) → grade ≤ later → later < 3 → class < 4 → Admits lot grade class → Admits lot later class
  admits_later grade zero class from g k within =
      let same : grade ≡ zero = omega arith in subst (λ (at : ℕ). Admits lot at class) same within
  admits_later grade (suc later) class from g k within =
      go (ltb later grade) refl (λ below. admits_later grade later class below (omega arith) k within)
    where
      go : (end : Bool) → ltb later grade ≡ end → (grade ≤ later → Admits lot later class) → Admits lot (suc later) class
      go true e before =
          let same : grade ≡ suc later = omega (arith, ltb-true later grade e) in subst (λ (at : ℕ). Admits lot at class) same within
      go false e before = admits_next later class g k (before (ltb-false later grade e))

  -- ---- the lowest of the classes' own grades

  abbrev Own : ℕ → ℕ → Type 0
  Own class grade = Admits lot grade class

  module _ (defect : ℕ) (is_defect : DefectGrade lot defect) (class_grade : ℕ → ℕ)
      (is_class : (class : ℕ) → class < 4 → ClassGrade lot class (class_grade class)) where
    no_lower : (class : ℕ) → class < 4 → class_grade class ≤ defect
    no_lower class k = go (ltb defect 3) refl
      where
        go : (planned : Bool) → ltb defect 3 ≡ planned → class_grade class ≤ defect
        go true e =
            let inside = ltb-true defect 3 e in
            best_first (Own class) (class_grade class) defect (is_class class k) inside (is_defect.has inside class k)
        go false e = omega (arith, ltb-false defect 3 e, best_bound (Own class) (class_grade class) (is_class class k))

    -- not all of them are better
    all_better : ((class : ℕ) → class < 4 → class_grade class < defect) → ⊥
    all_better better = go defect refl
      where
        go : (grade : ℕ) → defect ≡ grade → ⊥
        go zero e = omega (arith, better 0 (omega arith))
        go (suc grade) e =
            is_defect.none_better grade (omega arith) (omega (arith, best_bound (AdmitsAll lot) defect is_defect))
            (λ class k.
            let own = better class k in
            let most = best_bound (AdmitsAll lot) defect is_defect in
            admits_later (class_grade class) grade class (omega arith) (omega arith) k ((is_class class k).has (omega arith)))

    lowest : (class : ℕ) × (class < 4) × (defect ≡ class_grade class)
    lowest =
        go (eqb defect (class_grade 0)) refl (eqb defect (class_grade 1)) refl (eqb defect (class_grade 2)) refl (eqb defect (class_grade 3)) refl
      where
        below : (class : ℕ) → class < 4 → eqb defect (class_grade class) ≡ false → class_grade class < defect
        below class k e = let other = eqb-false defect (class_grade class) e in let most = no_lower class k in omega arith

        go : (t0 : Bool) → eqb defect (class_grade 0) ≡ t0 → (t1 : Bool) → eqb defect (class_grade 1) ≡ t1 → (t2 : Bool) → eqb defect (class_grade 2) ≡ t2
            → (t3 : Bool) → eqb defect (class_grade 3) ≡ t3 → (class : ℕ) × (class < 4) × (defect ≡ class_grade class)
        go true e0 t1 e1 t2 e2 t3 e3 = (0, omega arith, eqb-true _ _ e0)
        go false e0 true e1 t2 e2 t3 e3 = (1, omega arith, eqb-true _ _ e1)
        go false e0 false e1 true e2 t3 e3 = (2, omega arith, eqb-true _ _ e2)
        go false e0 false e1 false e2 true e3 = (3, omega arith, eqb-true _ _ e3)
        go false e0 false e1 false e2 false e3 = absurd (all_better each)
          where
            each : (class : ℕ) → class < 4 → class_grade class < defect
            each zero k = below 0 k e0
            each (suc zero) k = below 1 k e1
            each (suc (suc zero)) k = below 2 k e2
            each (suc (suc (suc zero))) k = below 3 k e3
            each (suc (suc (suc (suc class)))) k = absurd (omega arith)

  -- ---- the lot grade

  worse_is : (first second : ℕ) → WorseOf first second (max first second)
  worse_is first second = record { one_of = go (ltb first second) refl; first_not_worse = omega arith; second_not_worse = omega arith }
    where
      go : (below : Bool) → ltb first second ≡ below → (max first second ≡ first) ⊎ (max first second ≡ second)
      go true e = inr (omega (arith, ltb-true first second e))
      go false e = inl (omega (arith, ltb-false first second e))

  graded : LotGraded lot (lot_grade lot)
  unfolding lot_grade
  graded =
      record {
        has_defect_grade = (defect_grade lot, defect_grade_is lot);
        worse_of = λ defect is_defect.
            subst (λ (own : ℕ). WorseOf own (prerequisite_at lot) (max (defect_grade lot) (prerequisite_at lot)))
            (one_best (AdmitsAll lot) (defect_grade lot) defect (defect_grade_is lot) is_defect) (worse_is (defect_grade lot) (prerequisite_at lot));
        has_class_grades = λ class inside. (_, class_grade_is lot class inside);
        lowest_of = λ class_grade is_class.
            let own = lowest (defect_grade lot) (defect_grade_is lot) class_grade is_class in
            record {
              one_of = one_of class_grade own (worse_is (defect_grade lot) (prerequisite_at lot)).one_of;
              no_class_lower = λ class k. omega (arith, no_lower (defect_grade lot) (defect_grade_is lot) class_grade is_class class k);
              prerequisite_not_lower = omega arith;
            };
      }
    where
      one_of : (class_grade : ℕ → ℕ) → (class : ℕ) × (class < 4) × (defect_grade lot ≡ class_grade class)
          → (max (defect_grade lot) (prerequisite_at lot) ≡ defect_grade lot) ⊎ (max (defect_grade lot) (prerequisite_at lot) ≡ prerequisite_at lot)
          → (max (defect_grade lot) (prerequisite_at lot) ≡ prerequisite_at lot)
          ⊎ ((class : ℕ) × (class < 4) × (max (defect_grade lot) (prerequisite_at lot) ≡ class_grade class))
      one_of class_grade (class, k, same) (inl defect) = inr (class, k, defect ∙ same)
      one_of class_grade own (inr prerequisite) = inl prerequisite

-- an accepted lot's grade is that of the definition
pub accepted_grade : (lot : List ℕ) (answer : LotAnswer) → answer ≡ lot_answer lot → answer.number ≡ 0 → answer.grade ≡ lot_grade lot
unfolding lot_answer pick
accepted_grade lot answer promise accepted = go (eqb (lot_refusal lot) 0) refl promise
  where
    go : (passed : Bool) → eqb (lot_refusal lot) 0 ≡ passed → answer ≡ pick passed (accepted_lot (lot_grade lot)) (refused_lot (lot_refusal lot))
        → answer.grade ≡ lot_grade lot
    go true e is = ap (λ (a : LotAnswer). a.grade) is
    go false e is = absurd (eqb-false (lot_refusal lot) 0 e (sym (ap (λ (a : LotAnswer). a.number) is) ∙ accepted))

pub lot_grades : LotGrades
lot_grades lot answer promise accepted =
    rw (accepted_grade lot answer promise accepted) (graded lot ((lot_refusals lot answer promise).accepted accepted))

-- The best lower grade has its characteristic property: it is lower, it admits the counts if it has a plan, and no better lower grade
-- does. By cases on the two tests; a test over all classes holds exactly if it holds of each.
use Prim.Native.Nat.{ℕ, zero, suc, ◌+◌, ◌<◌}
use mathlib.Core.Path.{◌≡◌, refl, sym, ◌∙◌}
use mathlib.Core.Bool.{Bool, true, false, cond, ◌&&◌, true≢false}
use mathlib.Core.List.{List}
use native.Mathlib.Omega.{arith}
use lib.Dec.{ltb}
use lib.ListN.{length}
use borrow.Author.Tests.{ltb-true, lt-ltb, leb-true, le-leb}
use Rattle.units.specs.Words.{substandard, classes, Table, row_of, numbers_of, count_tenths}
use Rattle.units.specs.Unit.{none_above, admits, best_lower}
use Rattle.units.specs.BestLower.{Admits, BestLower}
use Rattle.units.proofs.Lists.{all_each, each_all}
use Rattle.units.proofs.Tests.{and_both}

module _ (table : Table) (tenths : List ℕ) where
  abbrev bound : ℕ → ℕ → ℕ
  bound grade class = (numbers_of table grade class).tolerance + (numbers_of table grade class).limit

  -- the test of a grade, and what it says
  admits_all : (grade : ℕ) → admits (row_of table grade) tenths ≡ true → Admits table grade tenths
  unfolding admits none_above
  admits_all grade e class inside =
      leb-true (count_tenths tenths class) (bound grade class) (all_each (length classes) _ e class inside)

  admits_test : (grade : ℕ) → Admits table grade tenths → admits (row_of table grade) tenths ≡ true
  unfolding admits none_above
  admits_test grade every =
      each_all (length classes) _ (λ class inside. le-leb (count_tenths tenths class) (bound grade class) (every class inside))

  not_admits : (grade : ℕ) → admits (row_of table grade) tenths ≡ false → Admits table grade tenths → ⊥
  not_admits grade e every = true≢false (sym (admits_test grade every) ∙ e)

  -- the test of a lower grade failed
  passed_over : (grade better : ℕ) → grade < better → (ltb grade better && admits (row_of table better) tenths) ≡ false → Admits table better tenths → ⊥
  passed_over grade better lower e every =
      not_admits better (sym (ap_and (ltb grade better) (lt-ltb grade better lower)) ∙ e) every
    where
      ap_and : (test : Bool) → test ≡ true → (test && admits (row_of table better) tenths) ≡ admits (row_of table better) tenths
      ap_and test yes_lower = rw yes_lower

  pub best_lower_is : (grade : ℕ) → grade < substandard → BestLower table grade tenths (best_lower table grade tenths)
  unfolding best_lower
  best_lower_is grade planned =
      go (ltb grade 1 && admits (row_of table 1) tenths) refl (ltb grade 2 && admits (row_of table 2) tenths) refl
    where
      go : (first : Bool) → (ltb grade 1 && admits (row_of table 1) tenths) ≡ first → (second : Bool) → (ltb grade 2 && admits (row_of table 2) tenths) ≡ second
          → BestLower table grade tenths (cond first 1 (cond second 2 substandard))
      go true e second f =
          let (lower, admitted) = and_both (ltb grade 1) (admits (row_of table 1) tenths) e in
          record {
            lower = ltb-true grade 1 lower;
            grade_or_none = omega arith;
            admits = λ _. admits_all 1 admitted;
            none_better = λ better above below _. omega arith;
          }
      go false e true f =
          let (lower, admitted) = and_both (ltb grade 2) (admits (row_of table 2) tenths) f in
          record {
            lower = ltb-true grade 2 lower;
            grade_or_none = omega arith;
            admits = λ _. admits_all 2 admitted;
            none_better = λ better above below every. let one : better ≡ 1 = omega arith in passed_over grade 1 (omega arith) e (rw one at every);
          }
      go false e false f =
          record {
            lower = planned;
            grade_or_none = omega arith;
            admits = λ below. absurd (omega arith);
            none_better = λ better above below every. by_grade better above below every;
          }
        where
          by_grade : (better : ℕ) → grade < better → better < substandard → Admits table better tenths → ⊥
          by_grade zero above below every = omega arith
          by_grade (suc zero) above below every = passed_over grade 1 above e every
          by_grade (suc (suc zero)) above below every = passed_over grade 2 above f every
          by_grade (suc (suc (suc better))) above below every = omega arith

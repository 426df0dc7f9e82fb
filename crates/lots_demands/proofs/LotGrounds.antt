-- The grounds of lots: the answer is the first row met, and acceptance is that none is. Each row is told by its test.
use Prim.Native.Nat.{ℕ, ◌<◌}
use mathlib.Core.Path.{◌≡◌, refl, sym, ◌∙◌}
use mathlib.Core.Bool.{Bool, true, false}
use mathlib.Core.List.{List}
use mathlib.Core.Logic.{inl}
use native.Mathlib.Omega.{arith}
use lib.Dec.{ltb, eqb, lit<}
use lib.ListN.{length}
use borrow.Author.Tests.{eqb-true, eqb-false, ltb-true, ltb-false}
use Rattle.units.specs.Conditions.{pick}
use Rattle.grounds.specs.Grounds.{rows_above}
use Rattle.grounds.proofs.Tells.{tells_lt, tells_eq, tells_as, tells_not}
use Rattle.grounds.proofs.FirstRow.{First, InRows, own_row, first_row, first_none, first_met}
use Rattle.lots.specs.Layout.{prerequisite}
use Rattle.lots.specs.Refusals.{field_refusal, lot_refusal}
use Rattle.lots.specs.Grading.{lot_grade}
use Rattle.lots.specs.Answer.{accepted_lot, refused_lot, lot_answer}
use Rattle.lots.specs.declared.LotAnswer.{LotAnswer}
use Rattle.lots_demands.specs.LotGrounds.{NoLotMark, WrongLength, UnlistedSampleUnits, UnlistedAql, FallingAql, CountAbove, PrerequisiteAbove, LotRow, row6, row7, row20, row21, row22, row8, row9, lot_rows, FirstLotRow, LotAnswered, LotRefusals}
use Rattle.lots_demands.proofs.LotRows.{tells_6, tells_20, tells_21, tells_22, tells_8}

abbrev row : ℕ → ℕ
row number = rows_above lot_rows number

module _ (lot : List ℕ) where
  in_rows : (n : ℕ) → LotRow lot n → InRows lot_rows n
  unfolding rows_above
  in_rows n (row6 h) = (lit< tt, refl)
  in_rows n (row7 h) = (lit< tt, refl)
  in_rows n (row20 h) = (lit< tt, refl)
  in_rows n (row21 h) = (lit< tt, refl)
  in_rows n (row22 h) = (lit< tt, refl)
  in_rows n (row8 h) = (lit< tt, refl)
  in_rows n (row9 h) = (lit< tt, refl)

  last_row_holds : (n : ℕ) → LotRow lot n → row n < 7
  unfolding rows_above
  last_row_holds n (row6 h) = omega arith
  last_row_holds n (row7 h) = omega arith
  last_row_holds n (row20 h) = omega arith
  last_row_holds n (row21 h) = omega arith
  last_row_holds n (row22 h) = omega arith
  last_row_holds n (row8 h) = omega arith
  last_row_holds n (row9 h) = omega arith

  condition6 : LotRow lot 6 → NoLotMark lot
  condition6 (row6 h) = h

  condition7 : LotRow lot 7 → WrongLength lot
  condition7 (row7 h) = h

  condition20 : LotRow lot 20 → UnlistedSampleUnits lot
  condition20 (row20 h) = h

  condition21 : LotRow lot 21 → UnlistedAql lot
  condition21 (row21 h) = h

  condition22 : LotRow lot 22 → FallingAql lot
  condition22 (row22 h) = h

  condition8 : LotRow lot 8 → CountAbove lot
  condition8 (row8 h) = h

  condition9 : LotRow lot 9 → PrerequisiteAbove lot
  condition9 (row9 h) = h

  -- row by row, from the last
  pub refusal_first : First lot_rows (LotRow lot) 0 (lot_refusal lot)
  unfolding lot_refusal field_refusal rows_above
  refusal_first =
      first_row lot_rows in_rows _ 6 _ (lit< tt, refl) (tells_as row6 condition6 (tells_6 lot))
      (first_row lot_rows in_rows _ 7 _ (lit< tt, refl) (tells_as row7 condition7 (tells_not (tells_eq (length lot) 36)))
      (first_row lot_rows in_rows _ 20 _ (lit< tt, refl) (tells_as row20 condition20 (tells_20 lot))
      (first_row lot_rows in_rows _ 21 _ (lit< tt, refl) (tells_as row21 condition21 (tells_21 lot))
      (first_row lot_rows in_rows _ 22 _ (lit< tt, refl) (tells_as row22 condition22 (tells_22 lot))
      (first_row lot_rows in_rows _ 8 _ (lit< tt, refl) (tells_as row8 condition8 (tells_8 lot))
      (first_row lot_rows in_rows _ 9 _ (lit< tt, refl) (tells_as row9 condition9 (tells_lt 3 (prerequisite lot)))
      (inl (refl, λ n behind applies. let last = last_row_holds n applies in omega arith))))))))

  -- ---- the answer, refused or accepted

  abbrev Answered : LotAnswer → Type 0
  Answered answer = LotAnswered lot answer

  -- two first rows are the same
  one_first : (number other : ℕ) → FirstLotRow lot number → FirstLotRow lot other → number ≡ other
  one_first number other first second = go (ltb (row number) (row other)) refl (ltb (row other) (row number)) refl
    where
      go : (above : Bool) → ltb (row number) (row other) ≡ above → (below : Bool) → ltb (row other) (row number) ≡ below → number ≡ other
      go true e below f = absurd (second.none_above_holds number (ltb-true _ _ e) first.applies)
      go false e true f = absurd (first.none_above_holds other (ltb-true _ _ f) second.applies)
      go false e false f =
          own_row lot_rows number other (in_rows number first.applies) (in_rows other second.applies)
          (omega (arith, ltb-false (row number) (row other) e, ltb-false (row other) (row number) f))

  refused_by : (lot_refusal lot ≡ 0 → ⊥) → FirstLotRow lot (lot_refusal lot)
  refused_by refused =
      let (met, others) = first_met lot_rows in_rows 0 (lot_refusal lot) refusal_first refused in
      record { applies = met; none_above_holds = λ other above applies. others other (omega arith) above applies }

  judged : (refusal : ℕ) → refusal ≡ lot_refusal lot → (passed : Bool) → eqb refusal 0 ≡ passed
      → Answered (pick passed (accepted_lot (lot_grade lot)) (refused_lot refusal))
  unfolding pick
  judged refusal is true e =
      let none = first_none lot_rows in_rows 0 (lot_refusal lot) refusal_first (sym is ∙ eqb-true refusal 0 e) in
      record {
        refused = λ other. absurd (other refl);
        refused_grade = λ other. absurd (other refl);
        accepted = λ _ number applies. none number (omega arith) applies;
        returned = λ number first. absurd (none number (omega arith) first.applies);
        at_start_holds = refl;
      }
  judged refusal is false e =
      let some = eqb-false refusal 0 e in
      let first : FirstLotRow lot refusal = rw is (refused_by (λ none. some (is ∙ none))) in
      record {
        refused = λ _. first;
        refused_grade = λ _. refl;
        accepted = λ zero. absurd (some zero);
        returned = λ number other. one_first refusal number first other;
        at_start_holds = refl;
      }

pub lot_refusals : LotRefusals
unfolding lot_answer
lot_refusals lot answer promise = rw promise (judged lot (lot_refusal lot) refl (eqb (lot_refusal lot) 0) refl)

-- The words of the statements are those of the definitions: how many records, which grade a byte is,
-- the code, and the first of the worst portions.
use Prim.Native.Nat.{ℕ, ◌+◌, ◌*◌, ◌%◌, ◌≤◌, ◌<◌}
use mathlib.Core.Path.{◌≡◌, sym, ◌∙◌, ap}
use mathlib.Core.List.{List}
use mathlib.Core.Logic.{inl, inr}
use native.Mathlib.Omega.{arith}
use lib.ListN.{length}
use Rattle.encoding.specs.Bytes.{byte}
use Rattle.results.specs.Record.{result_size, code_in}
use Rattle.lookup.specs.Records.{result_records, grade_of}
use Rattle.lookup.proofs.Worst.{grade_below, grade_from, Graded, as_it_is, from_three, graded, grade_at_most, FirstOf, NoneOf}
use Rattle.lookup_demands.specs.LookupAnswers.{AreRecords, code_at, grade_byte_at, NoWorse, Better, NotThere, FirstOfWorst}

-- ---- so many records

module _ (results : List ℕ) where
  pub no_rest : (records : ℕ) → AreRecords results records → length results % result_size ≡ 0
  no_rest records whole = omega arith

  pub so_many : (records : ℕ) → AreRecords results records → result_records results ≡ records
  so_many records whole = omega arith

  pub are_records : length results % result_size ≡ 0 → AreRecords results (result_records results)
  are_records whole = omega arith

-- ---- grades of two bytes

module _ (grade_byte other : ℕ) where
  no_worse : grade_of grade_byte ≤ grade_of other → NoWorse grade_byte other
  no_worse at_most = go (graded grade_byte) (graded other)
    where
      go : Graded grade_byte → Graded other → NoWorse grade_byte other
      go its (from_three above is) = inr above
      go (as_it_is below is) (as_it_is below' is') = inl (omega (arith, is, is'))
      go (from_three above is) (as_it_is below' is') = absurd (omega (arith, is, is', below'))

  pub at_most : NoWorse grade_byte other → grade_of grade_byte ≤ grade_of other
  at_most (inr above) = omega (arith, grade_at_most grade_byte, grade_from other above)
  at_most (inl less) = go (graded grade_byte) (graded other)
    where
      go : Graded grade_byte → Graded other → grade_of grade_byte ≤ grade_of other
      go its (from_three above is) = omega (arith, grade_at_most grade_byte, is)
      go (as_it_is below is) (as_it_is below' is') = omega (arith, is, is')
      go (from_three above is) (as_it_is below' is') = absurd (omega (arith, above, below'))

  better : grade_of grade_byte < grade_of other → Better grade_byte other
  better less = go (graded grade_byte) (graded other)
    where
      go : Graded grade_byte → Graded other → Better grade_byte other
      go (as_it_is below is) (as_it_is below' is') = (omega (arith, is, is'), below)
      go (as_it_is below is) (from_three above is') = (omega (arith, below, above), below)
      go (from_three above is) its = absurd (omega (arith, is, grade_at_most other))

  less_than : Better grade_byte other → grade_of grade_byte < grade_of other
  less_than (less, below) = go (graded other)
    where
      go : Graded other → grade_of grade_byte < grade_of other
      go (as_it_is below' is) = omega (arith, is, grade_below grade_byte below)
      go (from_three above is) = omega (arith, is, grade_below grade_byte below)

-- ---- codes

module _ (results : List ℕ) where
  code_same : (j : ℕ) → code_at results j ≡ code_in results j
  code_same j =
      let behind : 32 * j + 3 ≡ 32 * j + 2 + 1 = omega arith in
      ap (λ (at : ℕ). 256 * byte results (32 * j + 2) + byte results at) behind

  pub code_in_holds : {code : ℕ} (j : ℕ) → code_at results j ≡ code → code_in results j ≡ code
  code_in_holds j own = sym (code_same j) ∙ own

  pub code_at_holds : {code : ℕ} (j : ℕ) → code_in results j ≡ code → code_at results j ≡ code
  code_at_holds j own = code_same j ∙ own

-- ---- the first of the worst portions, and that there is none

module _ {results : List ℕ} {code : ℕ} where
  pub first_by_place : {first : ℕ} → length results % result_size ≡ 0 → FirstOf results code (result_records results) first → FirstOfWorst results code first
  first_by_place {first} whole found =
      record {
        records = result_records results;
        whole = are_records results whole;
        inside = found.inside;
        of_code = code_at_holds results first found.has_code_holds;
        worst = λ j below own.
            no_worse (grade_byte_at results j) (grade_byte_at results first) (found.none_worse j below (code_in_holds results j own));
        first = λ j below own.
            better (grade_byte_at results j) (grade_byte_at results first) (found.earlier_better j below (code_in_holds results j own));
      }

  pub by_place_first : {first : ℕ} → FirstOfWorst results code first → FirstOf results code (result_records results) first
  by_place_first {first} found =
      let same = so_many results found.records found.whole in
      record {
        inside = omega (arith, same, found.inside);
        has_code_holds = code_in_holds results first found.of_code;
        none_worse = λ j below own.
            at_most (grade_byte_at results j) (grade_byte_at results first) (found.worst j (omega (arith, same, below)) (code_at_holds results j own));
        earlier_better = λ j below own.
            less_than (grade_byte_at results j) (grade_byte_at results first) (found.first j below (code_at_holds results j own));
      }

  pub none_by_place : length results % result_size ≡ 0 → NoneOf results code (result_records results) → NotThere results code
  none_by_place whole has =
      record {
        records = result_records results;
        whole = are_records results whole;
        no_record = λ j below own. has.none j below (code_in_holds results j own);
      }

  pub by_place_none : NotThere results code → NoneOf results code (result_records results)
  by_place_none has =
      let same = so_many results has.records has.whole in
      record { none = λ j below own. has.no_record j (omega (arith, same, below)) (code_at_holds results j own) }

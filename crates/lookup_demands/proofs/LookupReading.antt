-- How far a reading goes, from the laws of its end; that the records that are read have the first of the worst portions among them; and what
-- an answer goes by: the first of the worst stays the first in other results that have the same codes and portion grades.
use Prim.Native.Nat.{ℕ, suc, ◌+◌, ◌*◌, ◌≤◌, ◌<◌}
use mathlib.Core.Path.{◌≡◌, refl, sym, ◌∙◌, ap, subst}
use mathlib.Core.Bool.{Bool, true, false}
use mathlib.Core.List.{List}
use native.Mathlib.Omega.{arith}
use borrow.Author.Tests.{ltb-true, ltb-false}
use lib.Dec.{ltb}
use lib.ListN.{length, take}
use lib.Seq.{take_all}
use Rattle.units.specs.Words.{substandard}
use Rattle.results.specs.Record.{result_size, code_in, portion_grade_in}
use Rattle.lookup.specs.Records.{result_records, grade_in, grade_of}
use Rattle.lookup.specs.Lookup.{found_at, first_of_worst, lookup}
use Rattle.lookup.specs.Reading.{records_read}
use Rattle.lookup.proofs.Worst.{grade_below, grade_from, grade_at_most, FirstOf, NoneOf, first_of_worst_is, first_of_none}
use Rattle.lookup.proofs.Ends.{FirstSubstandard, reads_up_to, reads_all}
use Rattle.lookup.proofs.Cases.{refused_is, found_is, none_is, Case, refused, found, none, case_of}
use Rattle.lookup.proofs.Cut.{cut_whole, cut_records, cut_code, cut_portion}
use Rattle.lookup_demands.specs.LookupAnswers.{AreRecords}
use Rattle.lookup_demands.specs.LookupReading.{NoSubstandardBefore, ReadTo, SameCodeAndGrade, LookupReading}
use Rattle.lookup_demands.proofs.Words.{no_rest, so_many, at_most, code_in_holds, code_at_holds}

-- ---- the end

read_to : (results : List ℕ) (code records : ℕ) → ReadTo results code records (records_read results code records)
read_to results code records =
    record {
      at_first = λ j inside own above before.
          reads_up_to
          (record {
            inside = inside;
            has_code_holds = code_in_holds results j own;
            is_substandard = grade_from (portion_grade_in results j) above;
            none_before = none_in before;
          });
      all = λ before. reads_all results code records (none_in before);
    }
  where
    none_in : {j : ℕ} → NoSubstandardBefore results code j → (k : ℕ) → k < j → code_in results k ≡ code → grade_in results k < substandard
    none_in before k below its =
        let less = before k below (code_at_holds results k its) in
        omega (arith, less, grade_below (portion_grade_in results k) less)

-- ---- two results

-- the first of the worst portions of a code in one of them, and that there is none, is the same in another where the records say so
module _ (results results' : List ℕ) (code n : ℕ)
    (same_code : (j : ℕ) → j < n → code_in results j ≡ code_in results' j) (same_grade : (j : ℕ) → j < n → grade_in results j ≡ grade_in results' j) where
  first_in_other : {first : ℕ} → FirstOf results code n first → FirstOf results' code n first
  first_in_other {first} at =
      let here = same_grade first at.inside in
      record {
        inside = at.inside;
        has_code_holds = sym (same_code first at.inside) ∙ at.has_code_holds;
        none_worse = λ j below own. omega (arith, here, same_grade j below, at.none_worse j below (same_code j below ∙ own));
        earlier_better = λ j below own.
            let inside : j < n = omega (arith, below, at.inside) in
            omega (arith, here, same_grade j inside, at.earlier_better j below (same_code j inside ∙ own));
      }

  none_in_other : NoneOf results code n → NoneOf results' code n
  none_in_other has = record { none = λ j below own. has.none j below (same_code j below ∙ own) }

-- ---- what an answer goes by

module _ (results results' : List ℕ) (code : ℕ) (same_length : length results ≡ length results')
    (alike : (j : ℕ) → 32 * j + 32 ≤ length results → SameCodeAndGrade results results' j) where
  same_code : (j : ℕ) → j < result_records results → code_in results j ≡ code_in results' j
  same_code j below = code_in_holds results j ((alike j (omega (arith, below))).same_code ∙ code_at_holds results' j refl)

  same_grade : (j : ℕ) → j < result_records results → grade_in results j ≡ grade_in results' j
  same_grade j below =
      let same = alike j (omega (arith, below)) in
      omega (
        arith,
        at_most (portion_grade_in results j) (portion_grade_in results' j) same.no_worse,
        at_most (portion_grade_in results' j) (portion_grade_in results j) same.no_better,
      )

  many : result_records results' ≡ result_records results
  many = omega (arith, same_length)

  looked_at : lookup results code ≡ lookup results' code
  looked_at = go (case_of results code)
    where
      go : Case results code → lookup results code ≡ lookup results' code
      go (refused rest is) = is ∙ sym (refused_is results' code (λ whole. rest (omega (arith, same_length, whole))))
      go (found whole first at is) =
          let stays = first_in_other results results' code (result_records results) same_code same_grade at in
          is ∙ sym (found_is results' code (omega (arith, same_length, whole)) (ap (first_of_worst results' code) many ∙ first_of_worst_is results' code stays)
          (omega (arith, many, at.inside)))
      go (none whole has is) =
          let stays = none_in_other results results' code (result_records results) same_code same_grade has in
          is ∙ sym (none_is results' code (omega (arith, same_length, whole)) (ap (first_of_worst results' code) many ∙ first_of_none results' code stays)
          (omega (arith, many)))

-- ---- the records that are read

module _ (results : List ℕ) (code records : ℕ) (whole : AreRecords results records) where
  abbrev AsFull : ℕ → Type 0
  AsFull read = lookup (take (32 * read) results) code ≡ lookup results code

  of_all : AsFull records
  of_all = ap (λ (bytes : List ℕ). lookup bytes code) (take_all (32 * records) results (omega (arith, whole)))

  -- up to the first of the worst, which is the first of the worst there, too
  up_to : {first : ℕ} → FirstOf results code (result_records results) first → lookup results code ≡ found_at first → AsFull (suc first)
  up_to {first} at is =
      let room : result_size * suc first ≤ length results = omega (arith, at.inside) in
      let cut = take (result_size * suc first) results in
      let here : FirstOf results code (suc first) first =
      record {
        inside = omega arith;
        has_code_holds = at.has_code_holds;
        none_worse = λ j below own. at.none_worse j (omega (arith, below, at.inside)) own;
        earlier_better = at.earlier_better;
      } in
      let stays =
      first_in_other results cut code (suc first) (λ j below. sym (cut_code results (suc first) room j below))
      (λ j below. sym (ap grade_of (cut_portion results (suc first) room j below))) here in
      let many = cut_records results (suc first) room in
      found_is cut code (cut_whole results (suc first) room) (ap (first_of_worst cut code) many ∙ first_of_worst_is cut code stays) (omega (arith, many))
      ∙ sym is

  as_full : AsFull (records_read results code records)
  as_full = go (case_of results code)
    where
      many : result_records results ≡ records
      many = so_many results records whole

      by_grade : (first : ℕ) → FirstOf results code (result_records results) first → lookup results code ≡ found_at first
          → (less : Bool) → ltb (grade_in results first) substandard ≡ less → AsFull (records_read results code records)
      by_grade first at is true test =
          let less = ltb-true (grade_in results first) substandard test in
          let all = reads_all results code records (λ j below own. omega (arith, less, at.none_worse j (omega (arith, below, many)) own)) in
          subst AsFull (sym all) of_all
      by_grade first at is false test =
          let worst : grade_in results first ≡ substandard =
          omega (arith, ltb-false (grade_in results first) substandard test, grade_at_most (portion_grade_in results first)) in
          let ends : FirstSubstandard results code records first =
          record {
            inside = omega (arith, at.inside, many);
            has_code_holds = at.has_code_holds;
            is_substandard = worst;
            none_before = λ j below own. omega (arith, at.earlier_better j below own, worst);
          } in
          subst AsFull (sym (reads_up_to ends)) (up_to at is)

      go : Case results code → AsFull (records_read results code records)
      go (refused rest is) = absurd (rest (no_rest results records whole))
      go (found _ first at is) = by_grade first at is (ltb (grade_in results first) substandard) refl
      go (none _ has is) =
          let all = reads_all results code records (λ j below own. absurd (has.none j (omega (arith, below, many)) own)) in
          subst AsFull (sym all) of_all

pub lookup_reading : LookupReading
lookup_reading = record { read_to = read_to; as_full = as_full; looked_at = looked_at }

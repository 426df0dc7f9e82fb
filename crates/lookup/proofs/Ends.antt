-- Where a reading ends: at the first Substandard portion of the code, which is then the first of the worst, else with the last record.
-- By the laws of `first_that`: no record before it has the code and this grade.
use Prim.Native.Nat.{ℕ, suc, ◌<◌}
use mathlib.Core.Path.{◌≡◌}
use mathlib.Core.List.{List}
use native.Mathlib.Omega.{arith}
use borrow.Author.Tests.{lt-ltb, le-ltb}
use Rattle.units.specs.Words.{substandard}
use Rattle.results.specs.Record.{code_in, portion_grade_in}
use Rattle.lookup.specs.Records.{grade_in, first_that, has_grade}
use Rattle.lookup.specs.Reading.{records_read}
use Rattle.lookup.proofs.First.{first_is}
use Rattle.lookup.proofs.Worst.{grade_at_most, has_grade_holds, has_not, FirstOf}

-- the first Substandard portion of the code among n records
pub record FirstSubstandard (results : List ℕ) (code n first : ℕ) : Type 0 where
  pub inside : first < n
  pub has_code_holds : code_in results first ≡ code
  pub is_substandard : grade_in results first ≡ substandard
  pub none_before : (j : ℕ) → j < first → code_in results j ≡ code → grade_in results j < substandard

module _ {results : List ℕ} {code n : ℕ} where
  pub first_of_substandard : {first : ℕ} → FirstSubstandard results code n first → FirstOf results code n first
  first_of_substandard found =
      record {
        inside = found.inside;
        has_code_holds = found.has_code_holds;
        none_worse = λ j below own. omega (arith, grade_at_most (portion_grade_in results j), found.is_substandard);
        earlier_better = λ j below own. omega (arith, found.none_before j below own, found.is_substandard);
      }

  pub reads_up_to : {first : ℕ} → FirstSubstandard results code n first → records_read results code n ≡ suc first
  unfolding records_read
  reads_up_to {first} found =
      let end : first_that (has_grade results code substandard) n ≡ first =
      first_is
      (record {
        at_most = omega (arith, found.inside);
        there = λ _. has_grade_holds results code substandard first found.has_code_holds found.is_substandard;
        none_before = λ j below. has_not results code substandard j (λ own same. omega (arith, found.none_before j below own));
      }) in
      rw (end, lt-ltb first n found.inside)

pub reads_all : (results : List ℕ) (code n : ℕ) → ((j : ℕ) → j < n → code_in results j ≡ code → grade_in results j < substandard)
    → records_read results code n ≡ n
unfolding records_read
reads_all results code n none =
    let end : first_that (has_grade results code substandard) n ≡ n =
    first_is
    (record {
      at_most = omega arith;
      there = λ below. absurd (omega arith);
      none_before = λ j below. has_not results code substandard j (λ own same. omega (arith, none j below own));
    }) in
    rw (end, le-ltb n n (omega arith))

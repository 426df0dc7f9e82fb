-- The first of the worst portions of a code, by its characteristic property: it has the code, no record of the code is worse, and each
-- earlier one is better. `first_of_worst` gives it where a record has the code, and only there. By induction on the records: the worst grade
-- is that of this record, and record by record there is one or none has the code.
use Prim.Native.Nat.{ℕ, zero, suc, ◌≤◌, ◌<◌}
use mathlib.Core.Path.{◌≡◌, refl, ◌∙◌, ap, subst}
use mathlib.Core.Bool.{Bool, true, false, cond}
use mathlib.Core.List.{List}
use native.Mathlib.Omega.{arith}
use borrow.Author.Tests.{ltb-true, ltb-false, lt-ltb, le-ltb, eqb-true, eqb-false, eq-eqb}
use lib.Dec.{ltb, eqb}
use Rattle.units.specs.Words.{substandard, worse}
use Rattle.units.proofs.Tests.{and_both}
use Rattle.results.specs.Record.{code_in}
use Rattle.lookup.specs.Records.{grade_of, grade_in, has_code, worst_grade, has_grade}
use Rattle.lookup.specs.Lookup.{first_of_worst}
use Rattle.lookup.proofs.First.{first_is}

-- ---- the grade of a byte

pub grade_below : (grade_byte : ℕ) → grade_byte < substandard → grade_of grade_byte ≡ grade_byte
unfolding grade_of
grade_below grade_byte below = rw (lt-ltb grade_byte substandard below)

pub grade_from : (grade_byte : ℕ) → substandard ≤ grade_byte → grade_of grade_byte ≡ substandard
unfolding grade_of
grade_from grade_byte above = rw (le-ltb grade_byte substandard above)

-- so that it is its own grade, or Substandard
pub data Graded (grade_byte : ℕ) : Type 0 where
  as_it_is : grade_byte < substandard → grade_of grade_byte ≡ grade_byte → Graded grade_byte
  from_three : substandard ≤ grade_byte → grade_of grade_byte ≡ substandard → Graded grade_byte

pub graded : (grade_byte : ℕ) → Graded grade_byte
graded grade_byte = go (ltb grade_byte substandard) refl
  where
    go : (below : Bool) → ltb grade_byte substandard ≡ below → Graded grade_byte
    go true test = let below = ltb-true grade_byte substandard test in as_it_is below (grade_below grade_byte below)
    go false test = let above = ltb-false grade_byte substandard test in from_three above (grade_from grade_byte above)

pub grade_at_most : (grade_byte : ℕ) → grade_of grade_byte ≤ substandard
grade_at_most grade_byte = go (graded grade_byte)
  where
    go : Graded grade_byte → grade_of grade_byte ≤ substandard
    go (as_it_is below is) = omega (arith, below, is)
    go (from_three above is) = omega (arith, is)

-- a grade is its own byte
pub grade_is : (grade : ℕ) → grade ≤ substandard → grade_of grade ≡ grade
grade_is grade most = go (graded grade)
  where
    go : Graded grade → grade_of grade ≡ grade
    go (as_it_is below is) = is
    go (from_three above is) = omega (arith, above, is)

module _ (results : List ℕ) (code : ℕ) where
  -- ---- the test of a record

  grade_had : (grade j : ℕ) → has_grade results code grade j ≡ true → (code_in results j ≡ code) × (grade_in results j ≡ grade)
  unfolding has_grade has_code
  grade_had grade j had =
      let (own, same) = and_both (eqb (code_in results j) code) (eqb (grade_in results j) grade) had in
      (eqb-true (code_in results j) code own, eqb-true (grade_in results j) grade same)

  pub has_grade_holds : (grade j : ℕ) → code_in results j ≡ code → grade_in results j ≡ grade → has_grade results code grade j ≡ true
  unfolding has_grade has_code
  has_grade_holds grade j own same = rw (eq-eqb (code_in results j) code own, eq-eqb (grade_in results j) grade same)

  pub has_not : (grade j : ℕ) → (code_in results j ≡ code → grade_in results j ≡ grade → ⊥) → has_grade results code grade j ≡ false
  has_not grade j other = go (has_grade results code grade j) refl
    where
      go : (had : Bool) → has_grade results code grade j ≡ had → has_grade results code grade j ≡ false
      go true test = let (own, same) = grade_had grade j test in absurd (other own same)
      go false test = test

  -- ---- the worst grade

  worst_at_least : (n j : ℕ) → j < n → code_in results j ≡ code → grade_in results j ≤ worst_grade results code n
  unfolding worst_grade has_code
  worst_at_least zero j below own = absurd (omega arith)
  worst_at_least (suc n) j below own = go (ltb j n) refl (worst_at_least n j)
    where
      go : (earlier : Bool) → ltb j n ≡ earlier → (j < n → code_in results j ≡ code → grade_in results j ≤ worst_grade results code n)
          → grade_in results j ≤ worse (worst_grade results code n) (cond (eqb (code_in results n) code) (grade_in results n) 0)
      go true test before = let least = before (ltb-true j n test) own in omega (arith, least)
      go false test before =
          let last : n ≡ j = omega (arith, ltb-false j n test) in
          rw (eq-eqb (code_in results n) code (ap (code_in results) last ∙ own), last) (omega arith)

  worst_at_most : (n most : ℕ) → ((j : ℕ) → j < n → code_in results j ≡ code → grade_in results j ≤ most) → worst_grade results code n ≤ most
  unfolding worst_grade has_code
  worst_at_most zero most each = omega arith
  worst_at_most (suc n) most each =
      go (eqb (code_in results n) code) refl (worst_at_most n most (λ j below own. each j (omega arith) own))
    where
      go : (own : Bool) → eqb (code_in results n) code ≡ own → worst_grade results code n ≤ most
          → worse (worst_grade results code n) (cond own (grade_in results n) 0) ≤ most
      go true test before = omega (arith, each n (omega arith) (eqb-true (code_in results n) code test))
      go false test before = omega arith

  -- ---- the first of the worst among n records, and that there is none

  pub record FirstOf (n first : ℕ) : Type 0 where
    pub inside : first < n
    pub has_code_holds : code_in results first ≡ code
    pub none_worse : (j : ℕ) → j < n → code_in results j ≡ code → grade_in results j ≤ grade_in results first
    pub earlier_better : (j : ℕ) → j < first → code_in results j ≡ code → grade_in results j < grade_in results first

  pub record NoneOf (n : ℕ) : Type 0 where
    pub none : (j : ℕ) → j < n → code_in results j ≡ code → ⊥

  pub first_of_worst_is : {n first : ℕ} → FirstOf n first → first_of_worst results code n ≡ first
  unfolding first_of_worst
  first_of_worst_is {n} {first} found =
      let worst = worst_grade results code n in
      let least = worst_at_least n first found.inside found.has_code_holds in
      let most = worst_at_most n (grade_in results first) found.none_worse in
      first_is
      (record {
        at_most = omega (arith, found.inside);
        there = λ _. has_grade_holds worst first found.has_code_holds (omega (arith, least, most));
        none_before = λ j below. has_not worst j (λ own same. omega (arith, found.earlier_better j below own, least));
      })

  pub first_of_none : {n : ℕ} → NoneOf n → first_of_worst results code n ≡ n
  unfolding first_of_worst
  first_of_none {n} has =
      first_is
      (record {
        at_most = omega arith;
        there = λ below. absurd (omega arith);
        none_before = λ j below. has_not (worst_grade results code n) j (λ own same. has.none j below own);
      })

  -- ---- record by record

  -- none of the next ones is worse, if it has the code
  module _ {n m : ℕ} (behind : n ≤ m) where
    pub none_behind : NoneOf n → ((j : ℕ) → n ≤ j → j < m → code_in results j ≡ code → ⊥) → NoneOf m
    none_behind before others = record { none = λ j below own. go j below own (ltb j n) refl }
      where
        go : (j : ℕ) → j < m → code_in results j ≡ code → (earlier : Bool) → ltb j n ≡ earlier → ⊥
        go j below own true test = before.none j (ltb-true j n test) own
        go j below own false test = others j (ltb-false j n test) below own

    pub first_stays : {first : ℕ} → FirstOf n first
        → ((j : ℕ) → n ≤ j → j < m → code_in results j ≡ code → grade_in results j ≤ grade_in results first) → FirstOf m first
    first_stays {first} found no_worse =
        record {
          inside = omega (arith, found.inside);
          has_code_holds = found.has_code_holds;
          none_worse = λ j below own. go j below own (ltb j n) refl;
          earlier_better = found.earlier_better;
        }
      where
        go : (j : ℕ) → j < m → code_in results j ≡ code → (earlier : Bool) → ltb j n ≡ earlier → grade_in results j ≤ grade_in results first
        go j below own true test = found.none_worse j (ltb-true j n test) own
        go j below own false test = no_worse j (ltb-false j n test) below own

  -- the next alone
  at_next : {n : ℕ} (Holds : ℕ → Type 0) → (code_in results n ≡ code → Holds n) → (j : ℕ) → n ≤ j → j < suc n → code_in results j ≡ code → Holds j
  at_next {n} Holds at j from below own =
      let same : n ≡ j = omega arith in
      subst Holds same (at (ap (code_in results) same ∙ own))

  -- the next is worse than all before it
  pub first_here : {n : ℕ} → code_in results n ≡ code → ((j : ℕ) → j < n → code_in results j ≡ code → grade_in results j < grade_in results n)
      → FirstOf (suc n) n
  first_here {n} own each =
      record {
        inside = omega arith;
        has_code_holds = own;
        none_worse = λ j below its. go j below its (ltb j n) refl;
        earlier_better = each;
      }
    where
      go : (j : ℕ) → j < suc n → code_in results j ≡ code → (earlier : Bool) → ltb j n ≡ earlier → grade_in results j ≤ grade_in results n
      go j below its true test = omega (arith, each j (ltb-true j n test) its)
      go j below its false test = let last : j ≡ n = omega (arith, ltb-false j n test) in rw last (omega arith)

  -- there is one, or none has the code
  pub data Search (n : ℕ) : Type 0 where
    none_has_code : NoneOf n → Search n
    first_found : (first : ℕ) → FirstOf n first → Search n

  pub search_all : (n : ℕ) → Search n
  search_all zero = none_has_code (record { none = λ j below own. omega arith })
  search_all (suc n) = go (search_all n) (eqb (code_in results n) code) refl
    where
      stays : {first : ℕ} → FirstOf n first → (code_in results n ≡ code → grade_in results n ≤ grade_in results first) → FirstOf (suc n) first
      stays {first} found no_worse = first_stays (omega arith) found (at_next (λ (j : ℕ). grade_in results j ≤ grade_in results first) no_worse)

      by_grade : (first : ℕ) → FirstOf n first → code_in results n ≡ code → (more : Bool) → ltb (grade_in results first) (grade_in results n) ≡ more
          → Search (suc n)
      by_grade first found own true test =
          let more = ltb-true (grade_in results first) (grade_in results n) test in
          first_found n (first_here own (λ j below its. omega (arith, found.none_worse j below its)))
      by_grade first found own false test = first_found first (stays found (λ _. ltb-false (grade_in results first) (grade_in results n) test))

      go : Search n → (own : Bool) → eqb (code_in results n) code ≡ own → Search (suc n)
      go (none_has_code has) true test = first_found n (first_here (eqb-true (code_in results n) code test) (λ j below own. absurd (has.none j below own)))
      go (none_has_code has) false test = none_has_code (none_behind (omega arith) has (at_next (λ (j : ℕ). ⊥) (eqb-false (code_in results n) code test)))
      go (first_found first found) true test =
          by_grade first found (eqb-true (code_in results n) code test) (ltb (grade_in results first) (grade_in results n)) refl
      go (first_found first found) false test = first_found first (stays found (λ own. absurd (eqb-false (code_in results n) code test own)))

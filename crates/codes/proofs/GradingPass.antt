-- The pass over the records that grades each code where it is first met: what the code grades are once i records are passed.
-- A worst grade is a grade, which `ungraded` is not, so a record's own byte tells whether its code was met; the rest is by cases on two codes being equal.
use Prim.Native.Nat.{ℕ, zero, suc, ◌+◌, ◌/◌, ◌<◌, ◌≤◌}
use mathlib.Core.Path.{◌≡◌, sym, ◌∙◌, ap}
use mathlib.Core.Bool.{Bool, true, false, cond, ◌||◌, false≢true}
use mathlib.Core.List.{List, []}
use native.Mathlib.Numerals.{add-one}
use native.Mathlib.Omega.{arith}
use lib.Dec.{eqb}
use lib.ListN.{length, get_or}
use Rattle.units.specs.Words.{substandard}
use Rattle.std.proofs.lemmas.Bool.Decides.{nat_tests}
use Rattle.encoding.specs.Bytes.{byte}
use Rattle.results.specs.Record.{result_size, code_grade_offset, code_in, portion_grade_in}
use Rattle.codes.specs.Codes.{result_records, ungraded, portion_grade_if, worst_in, with_code_grades, codes_graded, Ungraded}
use Rattle.codes.specs.OneCode.{records_in, code_of, FirstWithCode, grade_with}
use Rattle.codes.proofs.Next.{field_at, code_at}
use Rattle.codes.proofs.CodeGrades.{length_graded, code_kept, worst_kept, grade_written, nothing_written, same_written, written_over}

-- ---- a worst portion grade is a grade

worst_is_grade : (results : List ℕ) (code n : ℕ) → ((j : ℕ) → j < n → portion_grade_in results j ≤ substandard)
    → worst_in results code n ≤ substandard
unfolding worst_in portion_grade_if
worst_is_grade results code zero grades = omega arith
worst_is_grade results code (suc n) grades =
    let before = worst_is_grade results code n (λ j below. grades j (omega arith)) in
    let here = grades n (omega arith) in
    grind (arith, nat_tests)

-- ---- a code that is met among the first i records

unfoldable pub met : List ℕ → ℕ → ℕ → Bool
met results code zero = false
met results code (suc i) = met results code i || eqb (code_in results i) code

met_own : (results : List ℕ) (i j : ℕ) → j < i → met results (code_in results j) i ≡ true
unfolding met
met_own results zero j below = absurd (omega arith)
met_own results (suc i) j below = let before = met_own results i j in grind (arith, nat_tests)

none_met : (results : List ℕ) (code i : ℕ) → met results code i ≡ false → (j : ℕ) → j < i → code_in results j ≡ code → ⊥
none_met results code i test j below e =
    false≢true (sym test ∙ ap (λ (c : ℕ). met results c i) (sym e) ∙ met_own results i j below)

-- ---- the code grades once i records are passed

unfoldable pub grade_after : List ℕ → ℕ → ℕ → ℕ → ℕ
grade_after old n i j = cond (met old (code_in old j) i) (worst_in old (code_in old j) n) ungraded

module _ (old : List ℕ) (n i : ℕ) where
  -- nothing is new if the code of record i was met before
  grade_met : met old (code_in old i) i ≡ true → (j : ℕ) → grade_after old n i j ≡ grade_after old n (i + 1) j
  unfolding grade_after met
  grade_met own j = rw (add-one i) (grind (arith, nat_tests))

  -- else it is the grade of its code
  grade_next : (j : ℕ)
      → cond (eqb (code_in old j) (code_in old i)) (worst_in old (code_in old i) n) (grade_after old n i j) ≡ grade_after old n (i + 1) j
  unfolding grade_after met
  grade_next j = rw (add-one i) (grind (arith, nat_tests))

-- ---- the pass

-- the buffer once i of its records are passed
pub record Passed (old : List ℕ) (i : ℕ) (results : List ℕ) : Type 0 where
  pub within : i ≤ result_records old
  pub graded : results ≡ with_code_grades (grade_after old (result_records old) i) old (result_records old)

pub pass_start : (old : List ℕ) → Ungraded old (result_records old) → Passed old 0 old
unfolding grade_after met
pass_start old start =
    record {
      within = omega arith;
      graded =
          sym (nothing_written (grade_after old (result_records old) 0) old (result_records old) (λ j below. sym (start.no_code_grade j below)));
    }

pub pass_end : {old : List ℕ} {i : ℕ} {results : List ℕ} → Passed old i results → result_records old ≤ i → results ≡ codes_graded old (result_records old)
unfolding codes_graded grade_after
pass_end {old} {i} passed past =
    let n = result_records old in
    let end : i ≡ n = omega (arith, passed.within) in
    passed.graded
    ∙ rw end (same_written (grade_after old n n) (λ j. worst_in old (code_in old j) n) old n (λ j below. rw (met_own old n j below)))

-- record i, when those before it are passed
module _ {old : List ℕ} {i : ℕ} {results : List ℕ} {records : List (List ℕ)} (start : Ungraded old (result_records old)) (passed : Passed old i results)
    (below : i < result_records old) (are : records ≡ records_in results) where
  abbrev n : ℕ
  n = result_records old

  -- the code grades so far, and those once it is passed
  abbrev before : ℕ → ℕ
  before = grade_after old n i

  abbrev behind : ℕ → ℕ
  behind = grade_after old n (i + 1)

  same_many : result_records results ≡ n
  same_many = ap (λ size. size / result_size) (ap length passed.graded ∙ length_graded before old n)

  own_byte : byte (get_or records i []) code_grade_offset ≡ cond (met old (code_in old i) i) (worst_in old (code_in old i) n) ungraded
  unfolding grade_after
  own_byte =
      rw (are, field_at results i code_grade_offset (omega (arith, same_many)) (omega arith), passed.graded)
      (grade_written before old n i (omega arith) below)

  code_same : (j : ℕ) → code_in results j ≡ code_in old j
  code_same j = rw passed.graded (code_kept before old n j)

  -- its code is graded
  pub pass_met : {new : List ℕ} → new ≡ results → (byte (get_or records i []) code_grade_offset ≡ ungraded → ⊥) → Passed old (i + 1) new
  pass_met same done =
      let is = own_byte in
      let own : met old (code_in old i) i ≡ true = grind arith in
      record {
        within = omega arith;
        graded = same ∙ passed.graded ∙ same_written before behind old n (λ j inside. grade_met old n i own j);
      }

  -- its code is not graded yet
  module _ {code : ℕ} (own_code : code ≡ code_of (get_or records i [])) where
    code_here : code ≡ code_in results i
    code_here = own_code ∙ rw are (code_at results i (omega (arith, same_many)))

    pub first_met : byte (get_or records i []) code_grade_offset ≡ ungraded → FirstWithCode results code i (result_records results)
    first_met not_graded =
        let is = own_byte in
        let low = worst_is_grade old (code_in old i) n start.portion_grade_holds in
        let not_met : met old (code_in old i) i ≡ false = grind arith in
        record {
          inside = omega arith;
          before_end = omega (arith, same_many);
          has_code_holds = sym code_here;
          none_before = λ j earlier e. none_met old (code_in old i) i not_met j earlier (sym (code_same j) ∙ e ∙ code_here ∙ code_same i);
        }

    grade_new : (grade : ℕ) → grade ≡ worst_in results code n → (j : ℕ) → j < n → grade_with results code grade j ≡ behind j
    unfolding grade_with
    grade_new grade worst j inside =
        rw (
          worst,
          code_here,
          code_same i,
          code_same j,
          passed.graded,
          worst_kept before old n (code_in old i) n,
          grade_written before old n j (omega arith) inside,
        )
        (grade_next old n i j)

    pub pass_written : {grade : ℕ} {new : List ℕ} → grade ≡ worst_in results code (result_records results)
        → new ≡ with_code_grades (grade_with results code grade) results (result_records results) → Passed old (i + 1) new
    pass_written {grade} worst written =
        record {
          within = omega arith;
          graded =
              written
              ∙ rw (same_many, passed.graded) (written_over _ _ old n)
              ∙ same_written (grade_with results code grade) behind old n (grade_new grade (worst ∙ ap (worst_in results code) same_many));
        }

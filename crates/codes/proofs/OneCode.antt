-- One code, from the record where it is first met on: its worst portion grade, and its grade written record by record.
-- Records of other codes, before the first and between two of the code, change neither.
use Rattle.std.proofs.Common.{ℕ, ◌+◌, ◌-◌, ◌*◌, ◌/◌, ◌<◌, ◌≤◌, ◌≡◌, sym, ◌∙◌, ap, ap₂, List, [], Some, None, length, get_or, set, take, drop, add-one, eq-eqb, ne_eqb, arith}
use Rattle.std.proofs.lemmas.List.{drop-drop, take_rest}
use Rattle.encoding.specs.Bytes.{byte}
use Rattle.units.specs.Words.{worse}
use Rattle.results.specs.Record.{result_size, portion_grade_offset, code_grade_offset, code_in, portion_grade_in, code_grade_in}
use Rattle.codes.specs.Codes.{result_records, portion_grade_if, worst_in, with_code_grades}
use Rattle.codes.specs.OneCode.{records_in, NextWith, FirstWithCode, grade_with}
use Rattle.codes.proofs.Next.{NextFrom, rest_is, rest_many, field_behind, code_behind, next_from}
use Rattle.codes.proofs.CodeGrades.{length_graded, code_kept, unchanged, nothing_between, nothing_written}

-- ---- its worst portion grade

-- records of other codes
worst_between : {results : List ℕ} {code from units next : ℕ} → NextFrom results code from units next
    → worst_in results code next ≡ worst_in results code from
unfolding worst_in portion_grade_if
worst_between {results} {code} {from} {units} {next} found =
    unchanged (worst_in results code) from next found.from_on
    (λ j later below. rw (ne_eqb (code_in results j) code (found.none_between j later below)) (omega arith))

-- and one of the code behind them
worst_more : {results : List ℕ} {code from units next : ℕ} → NextFrom results code from units next → code_in results next ≡ code
    → worse (worst_in results code from) (portion_grade_in results next) ≡ worst_in results code (next + 1)
unfolding worst_in portion_grade_if
worst_more {results} {code} {from} {units} {next} found own = rw (add-one next, eq-eqb (code_in results next) code own, worst_between found)

-- all of this code among the records before the rest are read
pub record Read (results : List ℕ) (code : ℕ) (rest : List (List ℕ)) (worst : ℕ) : Type 0 where
  pub from : ℕ
  pub within : from ≤ result_records results
  pub is_rest : rest ≡ drop from (records_in results)
  pub worst_is : worst ≡ worst_in results code from

pub read_start : {results : List ℕ} {records : List (List ℕ)} {code first : ℕ} → FirstWithCode results code first (result_records results)
    → records ≡ records_in results → Read results code (take (length records - first) (drop first records)) 0
unfolding worst_in
read_start {results} {records} {code} {first} met are =
    let within : first ≤ result_records results = omega (arith, met.before_end) in
    let before : NextFrom results code 0 (result_records results) first
    = record { from_on = omega arith; at_most = within; none_between = λ j _ below. met.none_before j below } in
    record { from = first; within = within; is_rest = rest_is results first are; worst_is = sym (worst_between before) }

module _ {results : List ℕ} {code worst : ℕ} {rest : List (List ℕ)} (read : Read results code rest worst) where
  -- up to the next record of the code, and with it
  pub read_next : {next new : ℕ} → NextWith rest code (Some next) → new ≡ worse worst (byte (get_or rest next []) portion_grade_offset)
      → Read results code (take (length rest - (next + 1)) (drop (next + 1) rest)) new
  read_next {next} found worse_is =
      let inside : read.from + next < result_records results = omega (arith, found.0, rest_many results read.is_rest read.within) in
      let own = sym (code_behind results read.is_rest read.within next inside) ∙ found.1 in
      record {
        from = read.from + next + 1;
        within = omega arith;
        is_rest =
            take_rest rest (next + 1)
            ∙ ap (drop (next + 1)) read.is_rest
            ∙ drop-drop (next + 1) read.from (records_in results)
            ∙ ap (λ at. drop at (records_in results)) (omega arith);
        worst_is =
            worse_is
            ∙ ap₂ worse read.worst_is (field_behind results read.is_rest read.within next portion_grade_offset inside (omega arith))
            ∙ worst_more (next_from results read.is_rest read.within (Some next) found) own;
      }

  pub read_end : NextWith rest code None → worst ≡ worst_in results code (result_records results)
  read_end none =
      let end : read.from + length rest ≡ result_records results = omega (arith, rest_many results read.is_rest read.within, read.within) in
      read.worst_is ∙ sym (worst_between (next_from results read.is_rest read.within None none)) ∙ ap (worst_in results code) end

-- ---- its grade, written in the records before this one

pub record Written (old : List ℕ) (code grade from : ℕ) (results : List ℕ) : Type 0 where
  pub within : from ≤ result_records old
  pub graded : results ≡ with_code_grades (grade_with old code grade) old from

other_kept : (old : List ℕ) (code grade j : ℕ) → (code_in old j ≡ code → ⊥) → grade_with old code grade j ≡ code_grade_in old j
unfolding grade_with
other_kept old code grade j other = rw (ne_eqb (code_in old j) code other)

own_given : (old : List ℕ) (code grade j : ℕ) → code_in old j ≡ code → grade_with old code grade j ≡ grade
unfolding grade_with
own_given old code grade j own = rw (eq-eqb (code_in old j) code own)

pub written_start : {old : List ℕ} {code first : ℕ} (grade : ℕ) → FirstWithCode old code first (result_records old)
    → Written old code grade first old
written_start {old} {code} {first} grade met =
    record {
      within = omega (arith, met.before_end);
      graded = sym (nothing_written (grade_with old code grade) old first (λ j below. other_kept old code grade j (met.none_before j below)));
    }

-- as the code has it: the records from this one on are searched for the next of the code
module _ {old results : List ℕ} {records : List (List ℕ)} {code grade from : ℕ} (written : Written old code grade from results)
    (are : records ≡ records_in results) where
  abbrev given : ℕ → ℕ
  given = grade_with old code grade

  same_many : result_records results ≡ result_records old
  same_many = ap (λ size. size / result_size) (ap length written.graded ∙ length_graded given old from)

  within : from ≤ result_records results
  within = omega (arith, same_many, written.within)

  code_same : (k : ℕ) → code_in results k ≡ code_in old k
  code_same k = rw written.graded (code_kept given old from k)

  -- the records on the way have other codes
  up_to : {units next : ℕ} → NextFrom results code from units next → results ≡ with_code_grades given old next
  up_to {units} {next} found =
      written.graded
      ∙ sym (nothing_between given old from next found.from_on
      (λ k behind before. other_kept old code grade k (λ own. found.none_between k behind before (code_same k ∙ own))))

  pub written_next : {next : ℕ} → NextWith (take (length records - from) (drop from records)) code (Some next)
      → Written old code grade (from + next + 1) (set results (result_size * (from + next) + code_grade_offset) grade)
  unfolding with_code_grades
  written_next {next} found =
      let is = rest_is results from are in
      let inside : from + next < result_records results = omega (arith, found.0, rest_many results is within) in
      let own = sym (code_same (from + next)) ∙ sym (code_behind results is within next inside) ∙ found.1 in
      record {
        within = omega (arith, same_many);
        graded = rw (up_to (next_from results is within (Some next) found), add-one (from + next), own_given old code grade (from + next) own);
      }

  pub written_end : NextWith (take (length records - from) (drop from records)) code None
      → results ≡ with_code_grades given old (result_records old)
  written_end none =
      let is = rest_is results from are in
      let end = rest_many results is within in
      up_to (next_from results is within None none) ∙ ap (with_code_grades given old) (omega (arith, within, same_many))

-- The loop of a reading, with so many of the records read: none of them has the code, or the first of the worst among them is found, and it
-- is not Substandard. What it comes to where the reading ends.
use Rattle.std.proofs.Common.{ℕ, suc, ◌∷◌, ◌+◌, ◌-◌, ◌≤◌, ◌<◌, ◌≡◌, refl, sym, ◌∙◌, ap, ap₂, subst, List, [], inl, inr, Option, Some, None, unwrap_or, length, get_or, take, drop, add-one, lt-ltb, le-ltb, arith}
use lib.Seq.{drop-drop}
use Rattle.std.proofs.lemmas.Bool.{cases_lt}
use Rattle.std.proofs.lemmas.Slice.{between_to_end}
use Rattle.units.specs.Words.{substandard}
use Rattle.encoding.specs.Bytes.{byte}
use Rattle.results.specs.Record.{portion_grade_offset, code_in, portion_grade_in}
use Rattle.codes.specs.OneCode.{records_in, code_of, NextWith}
use Rattle.codes.proofs.Next.{NextFrom, rest_many, field_behind, code_behind, next_from}
use Rattle.lookup.specs.declared.Reading.{Reading}
use Rattle.lookup.specs.Records.{result_records, grade_in}
use Rattle.lookup.specs.Lookup.{first_of_worst}
use Rattle.lookup.specs.Reading.{one_of, reading_of}
use Rattle.lookup.proofs.Worst.{grade_below, grade_from, FirstOf, NoneOf, first_of_worst_is, first_of_none, none_behind, first_stays, first_here}
use Rattle.lookup.proofs.Ends.{FirstSubstandard, first_of_substandard, reads_up_to, reads_all}

same_reading : {first first' : Option ℕ} {read read' : ℕ} → first ≡ first' → read ≡ read'
    → ◌≡◌ {A = Reading} (record { first = first; read = read }) (record { first = first'; read = read' })
same_reading e e' = ap₂ (λ (x : Option ℕ) (y : ℕ). record { first = x; read = y }) e e'

module _ (results : List ℕ) (code : ℕ) where
  abbrev n : ℕ
  n = result_records results

  -- `next_worse` is the best grade that is worse than all those of the code so far
  pub data SoFar (first : Option ℕ) (next_worse read : ℕ) : Type 0 where
    none_yet : first ≡ None → next_worse ≡ 0 → NoneOf results code read → SoFar first next_worse read
    found_yet : (found : ℕ) → first ≡ Some found → FirstOf results code read found → next_worse ≡ suc (grade_in results found) → grade_in results found < substandard
        → SoFar first next_worse read

  module _ {first : Option ℕ} {next_worse read : ℕ} where
    -- each grade of the code so far is better than `next_worse`, which is at most Substandard
    all_better : SoFar first next_worse read → (j : ℕ) → j < read → code_in results j ≡ code → grade_in results j < next_worse
    all_better (none_yet is least before) j below own = absurd (before.none j below own)
    all_better (found_yet found is at next not_yet) j below own = omega (arith, at.none_worse j below own, next)

    not_past : SoFar first next_worse read → next_worse ≤ substandard
    not_past (none_yet is least before) = omega (arith, least)
    not_past (found_yet found is at next not_yet) = omega (arith, next, not_yet)

    -- ---- more records

    -- of other codes
    other_codes : {next : ℕ} → SoFar first next_worse read → read ≤ next → ((j : ℕ) → read ≤ j → j < next → code_in results j ≡ code → ⊥)
        → SoFar first next_worse next
    other_codes (none_yet is least before) behind others = none_yet is least (none_behind results code behind before others)
    other_codes (found_yet found is at next not_yet) behind others =
        found_yet found is (first_stays results code behind at (λ j from below own. absurd (others j from below own))) next not_yet

    -- of another code, and then those up to the next of the code
    pub to_next : {next : ℕ} → SoFar first next_worse read → (code_in results read ≡ code → ⊥) → NextFrom results code (read + 1) n next
        → SoFar first next_worse next
    to_next so_far other found =
        other_codes so_far (omega (arith, found.from_on))
        (λ j from below own.
        elim (cases_lt read j) [
          | inl later ↦ found.none_between j (omega (arith, later)) below own
          | inr here ↦ let same : read ≡ j = omega (arith, from, here) in other (ap (code_in results) same ∙ own)
        ])

    -- one that is no worse than one before it
    pub no_worse : SoFar first next_worse read → portion_grade_in results read < next_worse → SoFar first next_worse (read + 1)
    no_worse (none_yet is least before) less = absurd (omega (arith, least))
    no_worse (found_yet found is at next not_yet) less =
        let same = grade_below (portion_grade_in results read) (omega (arith, next, not_yet)) in
        found_yet found is
        (first_stays results code (omega arith) at
        (λ j from below own. let here : j ≡ read = omega arith in rw here (omega (arith, next, same)))) next not_yet

    -- one that is worse than all before it, and not Substandard
    pub worse_here : SoFar first next_worse read → code_in results read ≡ code → next_worse ≤ portion_grade_in results read
        → portion_grade_in results read < substandard → SoFar (Some read) (portion_grade_in results read + 1) (read + 1)
    worse_here so_far own more less =
        let same = grade_below (portion_grade_in results read) less in
        let here = first_here results code own (λ j below its. omega (arith, all_better so_far j below its, same)) in
        rw (add-one read) (found_yet read refl here (omega (arith, same)) (omega (arith, same)))

    -- ---- where the reading ends

    -- at a Substandard portion
    pub ends_here : SoFar first next_worse read → read < n → code_in results read ≡ code → substandard ≤ portion_grade_in results read
        → ◌≡◌ {A = Reading} (record { first = Some read; read = read + 1 }) (reading_of results code)
    ends_here so_far inside own above =
        let here : FirstSubstandard results code n read =
        record {
          inside = inside;
          has_code_holds = own;
          is_substandard = grade_from (portion_grade_in results read) above;
          none_before = λ j below its. omega (arith, all_better so_far j below its, not_past so_far);
        } in
        same_reading (rw (first_of_worst_is results code (first_of_substandard here), lt-ltb read n inside)) (omega (arith, reads_up_to here))

  -- with the last record
  pub ends_all : {first : Option ℕ} {next_worse : ℕ} → SoFar first next_worse n
      → ◌≡◌ {A = Reading} (record { first = first; read = n }) (reading_of results code)
  ends_all {first} so_far =
      same_reading (go so_far) (sym (reads_all results code n (λ j below its. omega (arith, all_better so_far j below its, not_past so_far))))
    where
      go : {next_worse : ℕ} → SoFar first next_worse n → first ≡ one_of n (first_of_worst results code n)
      go (none_yet is least before) = is ∙ rw (first_of_none results code before, le-ltb n n (omega arith))
      go (found_yet found is at next not_yet) = is ∙ rw (first_of_worst_is results code at, lt-ltb found n at.inside)

-- ---- as the code has it: the records before the rest are read

pub record Reads (results : List ℕ) (code : ℕ) (first : Option ℕ) (next_worse : ℕ) (rest : List (List ℕ)) : Type 0 where
  pub read : ℕ
  pub within : read ≤ result_records results
  pub is_rest : rest ≡ drop read (records_in results)
  pub so_far : SoFar results code first next_worse read

pub reads_start : {results : List ℕ} {code : ℕ} {records : List (List ℕ)} → records ≡ records_in results → Reads results code None 0 records
reads_start are =
    record { read = 0; within = omega arith; is_rest = are; so_far = none_yet refl refl (record { none = λ j below own. absurd (omega arith) }) }

-- with no rest
pub reads_end : {results : List ℕ} {code : ℕ} {first : Option ℕ} {next_worse : ℕ} {rest : List (List ℕ)} (records : List (List ℕ)) → Reads results code first next_worse rest
    → length records ≡ result_records results → length rest ≡ 0
    → ◌≡◌ {A = Reading} (record { first = first; read = length records }) (reading_of results code)
reads_end {results} {code} {first} {next_worse} records reads many none =
    let end : reads.read ≡ result_records results = omega (arith, rest_many results reads.is_rest reads.within, reads.within) in
    same_reading refl many ∙ ends_all results code (subst (SoFar results code first next_worse) end reads.so_far)

-- the first of the rest, and those behind it
module _ {results : List ℕ} {code : ℕ} {first : Option ℕ} {next_worse : ℕ} {rest : List (List ℕ)} (reads : Reads results code first next_worse rest)
    {bytes : List ℕ} {behind : List (List ℕ)} (split : rest ≡ bytes ∷ behind) where
  many : result_records results - reads.read ≡ length behind + 1
  many = omega (arith, rest_many results reads.is_rest reads.within, ap length split)

  inside : reads.read < result_records results
  inside = omega (arith, many)

  here : get_or rest 0 [] ≡ bytes
  here = ap (λ (all : List (List ℕ)). get_or all 0 []) split

  own_code : code_of bytes ≡ code_in results reads.read
  own_code = ap code_of (sym here) ∙ code_behind results reads.is_rest reads.within 0 (omega (arith, inside)) ∙ ap (code_in results) (omega arith)

  own_grade : byte bytes portion_grade_offset ≡ portion_grade_in results reads.read
  own_grade =
      ap (λ (all : List ℕ). byte all portion_grade_offset) (sym here)
      ∙ field_behind results reads.is_rest reads.within 0 portion_grade_offset (omega (arith, inside)) (omega arith)
      ∙ ap (portion_grade_in results) (omega arith)

  is_behind : behind ≡ drop (reads.read + 1) (records_in results)
  is_behind = ap (drop 1) (sym split) ∙ ap (drop 1) reads.is_rest ∙ drop-drop 1 reads.read (records_in results)

  -- it is no worse than one before it
  pub reads_no_worse : byte bytes portion_grade_offset < next_worse → Reads results code first next_worse behind
  reads_no_worse less =
      record {
        read = reads.read + 1;
        within = omega (arith, inside);
        is_rest = is_behind;
        so_far = no_worse results code reads.so_far (omega (arith, own_grade, less));
      }

  -- it is of another code: then up to the next of the code
  pub reads_others : (next : Option ℕ) → (code_of bytes ≡ code → ⊥) → NextWith behind code next
      → Reads results code first next_worse (take (length behind - unwrap_or next (length behind)) (drop (unwrap_or next (length behind)) behind))
  reads_others next other found =
      let passed = unwrap_or next (length behind) in
      let after : NextFrom results code (reads.read + 1) (result_records results) (reads.read + 1 + passed) =
      next_from results is_behind (omega (arith, inside)) next found in
      record {
        read = reads.read + 1 + passed;
        within = after.at_most;
        is_rest = between_to_end behind passed (length behind) (omega arith) ∙ ap (drop passed) is_behind ∙ drop-drop passed (reads.read + 1) (records_in results);
        so_far = to_next results code reads.so_far (λ own. other (own_code ∙ own)) after;
      }

  -- its place, where all records are so many
  module _ (records : List (List ℕ)) (all_many : length records ≡ result_records results) where
    place : length records - length rest ≡ reads.read
    place = omega (arith, all_many, rest_many results reads.is_rest reads.within, reads.within)

    -- it is worse than all before it
    pub reads_worse : code_of bytes ≡ code → next_worse ≤ byte bytes portion_grade_offset → byte bytes portion_grade_offset < substandard
        → Reads results code (Some (length records - length rest)) (byte bytes portion_grade_offset + 1) behind
    reads_worse own more less =
        rw (place, own_grade)
        (record {
          read = reads.read + 1;
          within = omega (arith, inside);
          is_rest = is_behind;
          so_far = worse_here results code reads.so_far (sym own_code ∙ own) (omega (arith, own_grade, more)) (omega (arith, own_grade, less));
        })

    -- it is Substandard
    pub reads_ends : code_of bytes ≡ code → substandard ≤ byte bytes portion_grade_offset
        → ◌≡◌ {A = Reading} (record { first = Some (length records - length rest); read = length records - length behind }) (reading_of results code)
    reads_ends own above =
        same_reading (ap Some place) (omega (arith, all_many, many))
        ∙ ends_here results code reads.so_far inside (sym own_code ∙ own) (omega (arith, own_grade, above))

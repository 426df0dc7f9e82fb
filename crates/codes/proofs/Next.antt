-- The records in a buffer: each has the bytes that stand at its place, so that its fields are those of the record by its number. And the rest
-- of them from one on: what a search there says by these numbers.
use Rattle.std.proofs.Common.{ℕ, ◌+◌, ◌-◌, ◌*◌, ◌<◌, ◌≤◌, ◌≡◌, ◌∙◌, ap, ap₂, List, [], Option, Some, None, unwrap_or, length, get_or, take, drop, get_or-drop, length-drop, arith}
use Rattle.std.proofs.lemmas.List.{take_rest}
use Rattle.encoding.specs.Bytes.{byte}
use Rattle.encoding.proofs.Chunks.{length_chunks, item_is}
use Rattle.results.specs.Record.{result_size, code_offset, code_in}
use Rattle.codes.specs.Codes.{result_records}
use Rattle.codes.specs.OneCode.{records_in, code_of, NoneWith, NextWith}
use Rattle.codes.proofs.Parts.{none_from}

module _ (results : List ℕ) where
  pub records_many : length (records_in results) ≡ result_records results
  records_many = length_chunks result_size (result_records results) results

  pub field_at : (i at : ℕ) → i < result_records results → at < result_size → byte (get_or (records_in results) i []) at ≡ byte results (result_size * i + at)
  field_at i at below inside = item_is result_size (result_records results) results i at 0 below inside

  pub code_at : (i : ℕ) → i < result_records results → code_of (get_or (records_in results) i []) ≡ code_in results i
  code_at i below =
      ap₂ (λ high low. 256 * high + low) (field_at i code_offset below (omega arith))
      (field_at i (code_offset + 1) below (omega arith) ∙ ap (byte results) (omega arith))

-- ---- the rest from one on

-- where a search from one record on comes to: none has the code on the way
pub record NextFrom (results : List ℕ) (code from units next : ℕ) : Type 0 where
  pub from_on : from ≤ next
  pub at_most : next ≤ units
  pub none_between : (j : ℕ) → from ≤ j → j < next → code_in results j ≡ code → ⊥

pub rest_is : (results : List ℕ) {records : List (List ℕ)} (from : ℕ) → records ≡ records_in results
    → take (length records - from) (drop from records) ≡ drop from (records_in results)
rest_is results {records} from are = take_rest records from ∙ ap (drop from) are

module _ (results : List ℕ) {from : ℕ} {rest : List (List ℕ)} (is_rest : rest ≡ drop from (records_in results)) (inside : from ≤ result_records results) where
  pub rest_many : length rest ≡ result_records results - from
  rest_many = rw is_rest (length-drop from (records_in results) ∙ ap (λ many. many - from) (records_many results))

  pub field_behind : (j at : ℕ) → from + j < result_records results → at < result_size → byte (get_or rest j []) at ≡ byte results (result_size * (from + j) + at)
  field_behind j at below inside = rw (is_rest, get_or-drop from (records_in results) j []) (field_at results (from + j) at below inside)

  pub code_behind : (j : ℕ) → from + j < result_records results → code_of (get_or rest j []) ≡ code_in results (from + j)
  code_behind j below = rw (is_rest, get_or-drop from (records_in results) j []) (code_at results (from + j) below)

  passed : {code : ℕ} (next : Option ℕ) → NextWith rest code next
      → (unwrap_or next (length rest) ≤ length rest) × NoneWith rest code (unwrap_or next (length rest))
  passed None none = (omega arith, none)
  passed (Some next) (below, own, none) = (omega arith, none)

  pub next_from : {code : ℕ} (next : Option ℕ) → NextWith rest code next → NextFrom results code from (result_records results) (from + unwrap_or next (length rest))
  next_from next found =
      let (most, none) = passed next found in
      record {
        from_on = omega arith;
        at_most = omega (arith, rest_many);
        none_between = none_from rest (code_in results) from (λ j before. code_behind j (omega (arith, rest_many))) none;
      }

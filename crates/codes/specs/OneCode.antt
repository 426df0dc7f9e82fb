-- For contracts of functions on one code: its records among those in a buffer.
use Rattle.std.specs.Prelude.{ℕ, ◌*◌, ◌<◌, ◌≤◌, ◌≡◌, cond, List, [], Option, MatchOption, eqb, length, slice_index_or}
use Rattle.std.specs.Simd.{first_chunks}
use Rattle.encoding.specs.Bytes.{number}
use Rattle.results.specs.Record.{result_size, code_offset, code_in, code_grade_in}
use Rattle.codes.specs.Codes.{result_records}

-- the records in a buffer, each with its bytes
abbrev pub records_in : List ℕ → List (List ℕ)
records_in results = first_chunks result_size (result_records results) results

-- the code of a record
abbrev pub code_of : List ℕ → ℕ
code_of bytes = number bytes code_offset

-- none of so many records, from the first, has this code
abbrev pub NoneWith : List (List ℕ) → ℕ → ℕ → Type 0
NoneWith records code many = (j : ℕ) → j < many → code_of (slice_index_or records j []) ≡ code → ⊥

-- the first of these records that has this code, if one has it
abbrev pub NextWith : List (List ℕ) → ℕ → Option ℕ → Type 0
NextWith records code next =
    MatchOption next (NoneWith records code (length records))
    (λ next. (next < length records) × (code_of (slice_index_or records next []) ≡ code) × NoneWith records code next)

-- the records of so many units inside the buffer, of which this one is the first that has this code
pub record FirstWithCode (results : List ℕ) (code first units : ℕ) : Type 0 where
  pub inside : result_size * units ≤ length results
  pub before_end : first < units
  pub has_code_holds : code_in results first ≡ code
  pub none_before : (j : ℕ) → j < first → code_in results j ≡ code → ⊥

-- the code grade of record j once this code has a grade
unfoldable pub grade_with : List ℕ → ℕ → ℕ → ℕ → ℕ
grade_with results code grade j = cond (eqb (code_in results j) code) grade (code_grade_in results j)

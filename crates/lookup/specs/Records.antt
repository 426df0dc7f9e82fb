-- Finished results as they are looked through for a code: bytes of any origin, taken as result records one after the other. Of a record the
-- code and the portion grade are looked at; its mark and all else are not.
use Rattle.std.specs.Prelude.{ℕ, zero, suc, ◌%◌, Bool, cond, not, ◌&&◌, List, eqb, ltb, length}
use Rattle.units.specs.Words.{substandard, worse}
use Rattle.results.specs.Record.{result_size, code_in, portion_grade_in}
pub use Rattle.codes.specs.Codes.{result_records}

-- 19: "results not a multiple of 32 bytes long"
unfoldable pub not_records : List ℕ → Bool
not_records results = not (eqb (length results % result_size) 0)

-- "A grade byte of 3 or more is Substandard."
unfoldable pub grade_of : ℕ → ℕ
grade_of grade_byte = cond (ltb grade_byte substandard) grade_byte substandard

-- the portion grade of record j
abbrev pub grade_in : List ℕ → ℕ → ℕ
grade_in results j = grade_of (portion_grade_in results j)

-- the first of so many numbers, from 0 on, of which a condition holds; so many if it holds of none
unfoldable pub first_that : (ℕ → Bool) → ℕ → ℕ
first_that holds zero = zero
first_that holds (suc numbers) = cond (holds zero) zero (suc (first_that (λ j. holds (suc j)) numbers))

module _ (results : List ℕ) (code : ℕ) where
  -- record j has the code
  unfoldable pub has_code : ℕ → Bool
  has_code j = eqb (code_in results j) code

  -- the worst portion grade among those of so many records, from the first, that have the code; the best if none has
  unfoldable pub worst_grade : ℕ → ℕ
  worst_grade zero = 0
  worst_grade (suc records) = worse (worst_grade records) (cond (has_code records) (grade_in results records) 0)

  -- record j has the code, and this portion grade
  unfoldable pub has_grade : ℕ → ℕ → Bool
  has_grade grade j = has_code j && eqb (grade_in results j) grade

-- Code grades over the result records in a buffer: the worst portion grade among all records with a code, adjoining or not.
use Rattle.std.specs.Prelude.{ℕ, zero, suc, ◌+◌, ◌*◌, ◌/◌, ◌<◌, ◌≤◌, ◌≡◌, cond, List, eqb, length, set}
use Rattle.units.specs.Words.{worse, substandard}
use Rattle.results.specs.Record.{result_size, code_grade_offset, code_in, portion_grade_in, code_grade_in}

-- how many records there are
abbrev pub result_records : List ℕ → ℕ
result_records results = length results / result_size

-- stands for the code grade in a record whose code is not graded yet; no grade
abbrev pub ungraded : ℕ
ungraded = 255

-- the portion grade of record j if it has this code, else the best
unfoldable pub portion_grade_if : List ℕ → ℕ → ℕ → ℕ
portion_grade_if results code j = cond (eqb (code_in results j) code) (portion_grade_in results j) 0

-- the worst portion grade among those of so many units, from the first, that have this code
unfoldable pub worst_in : List ℕ → ℕ → ℕ → ℕ
worst_in results code zero = 0
worst_in results code (suc units) = worse (worst_in results code units) (portion_grade_if results code units)

-- the buffer with a code grade stored in each record of so many units
unfoldable pub with_code_grades : (ℕ → ℕ) → List ℕ → ℕ → List ℕ
with_code_grades grade results zero = results
with_code_grades grade results (suc units) = set (with_code_grades grade results units) (result_size * units + code_grade_offset) (grade units)

-- the records of so many units with their code grades
unfoldable pub codes_graded : List ℕ → ℕ → List ℕ
codes_graded results units = with_code_grades (λ j. worst_in results (code_in results j) units) results units

-- the records of so many units as the writer leaves them: no code is graded yet, and each portion has a grade
pub record Ungraded (results : List ℕ) (units : ℕ) : Type 0 where
  pub no_code_grade : (j : ℕ) → j < units → code_grade_in results j ≡ ungraded
  pub portion_grade_holds : (j : ℕ) → j < units → portion_grade_in results j ≤ substandard

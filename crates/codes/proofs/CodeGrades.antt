-- Laws of `with_code_grades`: which bytes it keeps and which it writes, what it leaves of codes, portion grades and worst grades, and when
-- it gives equal buffers. By induction on the number of records.
use Prim.Native.Nat.{ℕ, zero, suc, ◌+◌, ◌*◌, ◌<◌, ◌≤◌}
use mathlib.Core.Path.{◌≡◌, refl, sym, ◌∙◌, ap}
use mathlib.Core.Logic.{inl, inr}
use mathlib.Core.List.{List}
use native.Mathlib.Omega.{arith}
use lib.ListN.{length, set, length-set}
use lib.Seq.{get_or-set_other, set-get_or, set-set, set_comm}
use Rattle.std.proofs.lemmas.Bool.{cases_lt}
use Rattle.std.proofs.lemmas.Grind.{get_or-set_at}
use Rattle.encoding.specs.Bytes.{byte}
use Rattle.results.specs.Record.{result_size, code_offset, portion_grade_offset, code_grade_offset, code_in, portion_grade_in, code_grade_in}
use Rattle.codes.specs.Codes.{portion_grade_if, worst_in, with_code_grades}

-- ---- what is kept

pub length_graded : (grade : ℕ → ℕ) (results : List ℕ) (n : ℕ) → length (with_code_grades grade results n) ≡ length results
unfolding with_code_grades
length_graded grade results zero = refl
length_graded grade results (suc n) = simp length-set (length_graded grade results n)

module _ (grade : ℕ → ℕ) (results : List ℕ) where
  byte_kept : (n at : ℕ) → ((j : ℕ) → j < n → at ≡ result_size * j + code_grade_offset → ⊥)
      → byte (with_code_grades grade results n) at ≡ byte results at
  unfolding with_code_grades
  byte_kept zero at other = refl
  byte_kept (suc n) at other =
      get_or-set_other (with_code_grades grade results n) (result_size * n + code_grade_offset) at (grade n) 0 (other n (omega arith))
      ∙ byte_kept n at (λ j below. other j (omega arith))

  pub code_kept : (n k : ℕ) → code_in (with_code_grades grade results n) k ≡ code_in results k
  code_kept n k =
      rw (
        byte_kept n (result_size * k + code_offset) (λ j below e. omega arith),
        byte_kept n (result_size * k + code_offset + 1) (λ j below e. omega arith),
      )

  portion_kept : (n k : ℕ) → portion_grade_in (with_code_grades grade results n) k ≡ portion_grade_in results k
  portion_kept n k = byte_kept n (result_size * k + portion_grade_offset) (λ j below e. omega arith)

  grade_kept : (n k : ℕ) → n ≤ k → code_grade_in (with_code_grades grade results n) k ≡ code_grade_in results k
  grade_kept n k behind = byte_kept n (result_size * k + code_grade_offset) (λ j below e. omega arith)

  pub worst_kept : (n code m : ℕ) → worst_in (with_code_grades grade results n) code m ≡ worst_in results code m
  unfolding worst_in portion_grade_if
  worst_kept n code zero = refl
  worst_kept n code (suc m) = rw (worst_kept n code m, code_kept n m, portion_kept n m)

-- ---- what is written

pub grade_written : (grade : ℕ → ℕ) (results : List ℕ) (n j : ℕ) → result_size * n ≤ length results → j < n
    → code_grade_in (with_code_grades grade results n) j ≡ grade j
unfolding with_code_grades
grade_written grade results zero j inside below = absurd (omega arith)
grade_written grade results (suc n) j inside below =
    let before = grade_written grade results n j (omega arith) in
    let size = length_graded grade results n in
    grind (arith, get_or-set_at, get_or-set_other)

-- ---- equal buffers

-- what does not change from one number to the next
pub unchanged : {A : Type 0} (value : ℕ → A) (from n : ℕ) → from ≤ n → ((j : ℕ) → from ≤ j → j < n → value (suc j) ≡ value j)
    → value n ≡ value from
unchanged value from zero behind same = let none : zero ≡ from = omega arith in ap value none
unchanged value from (suc n) behind same =
    elim (cases_lt n from) [
      | inl last ↦ let end : suc n ≡ from = omega arith in ap value end
      | inr inside ↦ same n inside (omega arith) ∙ unchanged value from n inside (λ j later below. same j later (omega arith))
    ]

-- grades that are there already
pub nothing_between : (grade : ℕ → ℕ) (results : List ℕ) (from n : ℕ) → from ≤ n
    → ((j : ℕ) → from ≤ j → j < n → grade j ≡ code_grade_in results j) → with_code_grades grade results n ≡ with_code_grades grade results from
unfolding with_code_grades
nothing_between grade results from n behind same =
    unchanged (with_code_grades grade results) from n behind
    (λ j later below.
    ap (set (with_code_grades grade results j) (result_size * j + code_grade_offset))
    (same j later below ∙ sym (grade_kept grade results j j (omega arith)))
    ∙ set-get_or (with_code_grades grade results j) (result_size * j + code_grade_offset) 0)

pub nothing_written : (grade : ℕ → ℕ) (results : List ℕ) (n : ℕ) → ((j : ℕ) → j < n → grade j ≡ code_grade_in results j)
    → with_code_grades grade results n ≡ results
unfolding with_code_grades
nothing_written grade results n same = nothing_between grade results 0 n (omega arith) (λ j _ below. same j below)

-- grades that agree
pub same_written : (grade other : ℕ → ℕ) (results : List ℕ) (n : ℕ) → ((j : ℕ) → j < n → grade j ≡ other j)
    → with_code_grades grade results n ≡ with_code_grades other results n
unfolding with_code_grades
same_written grade other results zero same = refl
same_written grade other results (suc n) same =
    rw (same_written grade other results n (λ j below. same j (omega arith)), same n (omega arith))

-- a store in a later record
store_apart : (grade : ℕ → ℕ) (results : List ℕ) (n m value : ℕ) → n ≤ m
    → with_code_grades grade (set results (result_size * m + code_grade_offset) value) n
    ≡ set (with_code_grades grade results n) (result_size * m + code_grade_offset) value
unfolding with_code_grades
store_apart grade results zero m value behind = refl
store_apart grade results (suc n) m value behind =
    rw (store_apart grade results n m value (omega arith))
    (set_comm (with_code_grades grade results n) (result_size * m + code_grade_offset) (result_size * n + code_grade_offset) value (grade n)
    (λ e. omega arith))

-- grades written over others
pub written_over : (grade old : ℕ → ℕ) (results : List ℕ) (n : ℕ)
    → with_code_grades grade (with_code_grades old results n) n ≡ with_code_grades grade results n
unfolding with_code_grades
written_over grade old results zero = refl
written_over grade old results (suc n) =
    rw (
      store_apart grade (with_code_grades old results n) n n (old n) (omega arith),
      set-set (with_code_grades grade (with_code_grades old results n) n) (result_size * n + code_grade_offset) (old n) (grade n),
      written_over grade old results n,
    )

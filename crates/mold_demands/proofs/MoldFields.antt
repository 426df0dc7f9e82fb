-- What is read back from the result buffer of an accepted mold sheet: the fields of unit i's record. Records before it are passed over
-- by their length; a CuSum fits its two bytes, as it is at most L.
use Prim.Native.Nat.{ℕ, zero, suc, ◌+◌, ◌*◌, ◌≤◌, ◌<◌}
use mathlib.Core.Path.{◌≡◌, refl, sym, ◌∙◌, ap, subst⁻¹}
use mathlib.Core.Bool.{Bool, true, false, cond}
use mathlib.Core.List.{List, ◌++◌, append_assoc}
use native.Mathlib.Omega.{arith}
use lib.Dec.{eqb}
use borrow.Author.Tests.{eqb-true, eqb-false}
use Rattle.cusum.proofs.Laws.{new_cusum_le_limit}
use Rattle.encoding.specs.Bytes.{byte, number, bytes_of}
use Rattle.encoding.proofs.Numbers.{byte_behind, number_behind}
use Rattle.mold.specs.Levels.{level_numbers}
use Rattle.mold.specs.Layout.{level_row}
use Rattle.mold.specs.Grading.{numbers_of, tenths_at, cusum_before, fails_at}
use Rattle.mold.specs.Results.{met_offset, cusum_offset, result_size, result_bytes, result_of, written, mark_in, met_in, cusum_in}
use Rattle.mold.proofs.Written.{length_written}

-- no L is above three fields
limit_le : (row : ℕ) → (level_numbers row).limit ≤ 30
unfolding level_numbers
limit_le zero = omega arith
limit_le (suc zero) = omega arith
limit_le (suc (suc zero)) = omega arith
limit_le (suc (suc (suc zero))) = omega arith
limit_le (suc (suc (suc (suc zero)))) = omega arith
limit_le (suc (suc (suc (suc (suc zero))))) = omega arith
limit_le (suc (suc (suc (suc (suc (suc row)))))) = omega arith

new_cusum_small : (bytes : List ℕ) (i : ℕ) → cusum_before bytes (suc i) < 65536
unfolding cusum_before
new_cusum_small bytes i = omega (arith, new_cusum_le_limit (numbers_of bytes) (cusum_before bytes i) (tenths_at bytes i), limit_le (level_row bytes))

-- what stands behind the records before unit i: its own, and the rest
pub record Behind (bytes results : List ℕ) (i : ℕ) : Type 0 where
  pub rest : List ℕ
  pub split : results ≡ written bytes i ++ (result_of bytes i ++ rest)

pub behind : (bytes : List ℕ) (n : ℕ) (tail : List ℕ) (i : ℕ) → i < n → Behind bytes (written bytes n ++ tail) i
unfolding written
behind bytes zero tail i before = absurd (omega arith)
behind bytes (suc n) tail i before = go (behind bytes n (result_of bytes n ++ tail) i) (eqb i n) refl
  where
    split : (written bytes n ++ result_of bytes n) ++ tail ≡ written bytes n ++ (result_of bytes n ++ tail)
    split = append_assoc (written bytes n) (result_of bytes n) tail

    go : (i < n → Behind bytes (written bytes n ++ (result_of bytes n ++ tail)) i) → (same : Bool) → eqb i n ≡ same
        → Behind bytes ((written bytes n ++ result_of bytes n) ++ tail) i
    go earlier true e =
        subst⁻¹ (Behind bytes ((written bytes n ++ result_of bytes n) ++ tail)) (eqb-true i n e) (record { rest = tail; split = split })
    go earlier false e =
        let later = earlier (let other = eqb-false i n e in omega arith) in record { rest = later.rest; split = split ∙ later.split }

module _ (bytes results : List ℕ) (i : ℕ) (here : Behind bytes results i) where
  number_read : (at : ℕ) → number results (result_size * i + at) ≡ number (result_of bytes i ++ here.rest) at
  number_read at =
      ap (λ (l : List ℕ). number l (result_size * i + at)) here.split
      ∙ ap (λ (before : ℕ). number (written bytes i ++ (result_of bytes i ++ here.rest)) (before + at)) (sym (length_written bytes i))
      ∙ number_behind (written bytes i) (result_of bytes i ++ here.rest) at

  pub mark_read : mark_in results i ≡ 0x4D52
  unfolding result_bytes bytes_of
  mark_read = ap (number results) (omega arith) ∙ number_read 0

  pub met_read : met_in results i ≡ cond (fails_at bytes i) 0 1
  unfolding result_bytes bytes_of
  met_read =
      ap (λ (l : List ℕ). byte l (result_size * i + met_offset)) here.split
      ∙ ap (λ (before : ℕ). byte (written bytes i ++ (result_of bytes i ++ here.rest)) (before + met_offset)) (sym (length_written bytes i))
      ∙ byte_behind (written bytes i) (result_of bytes i ++ here.rest) met_offset

  pub cusum_read : cusum_in results i ≡ cusum_before bytes (suc i)
  unfolding result_bytes bytes_of
  cusum_read = number_read cusum_offset ∙ omega (arith, new_cusum_small bytes i)

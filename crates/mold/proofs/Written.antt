-- What the units write: its length, and one record more behind those that are written. By induction on the units.
use Rattle.std.proofs.Common.{◌≡◌, ℕ, zero, suc, ◌+◌, ◌*◌, ◌-◌, List, [], ◌++◌, length, take, drop, refl, sym, ◌∙◌, arith, add-one, append_assoc, append-nil, length-append, length-drop}
use Rattle.std.proofs.lemmas.List.{take_at, drop_at, drop-drop, drop_all, take_rest}
use Rattle.cusum.specs.Step.{step_of}
use Rattle.cusum.specs.declared.Stepped.{Stepped}
use Rattle.encoding.specs.Bytes.{bytes_of}
use Rattle.mold.specs.Grading.{numbers_of, tenths_at, cusum_before, fails_at}
use Rattle.mold.specs.Results.{result_size, result_bytes, result_of, written}

length_result : (bytes : List ℕ) (i : ℕ) → length (result_of bytes i) ≡ result_size
unfolding result_bytes bytes_of
length_result bytes i = refl

pub length_written : (bytes : List ℕ) (n : ℕ) → length (written bytes n) ≡ result_size * n
unfolding written
length_written bytes zero = refl
length_written bytes (suc n) =
    length-append (written bytes n) (result_of bytes n) ∙ omega (arith, length_written bytes n, length_result bytes n)

-- the step that a unit takes
abbrev pub step_at : List ℕ → ℕ → Stepped
step_at bytes unit = step_of (numbers_of bytes) (record { tenths = cusum_before bytes unit }) (tenths_at bytes unit)

pub next_cusum : (bytes : List ℕ) (unit : ℕ) (stepped : Stepped) → stepped ≡ step_at bytes unit → stepped.cusum ≡ record { tenths = cusum_before bytes (unit + 1) }
unfolding cusum_before
next_cusum bytes unit stepped e = rw (e, add-one unit)

-- the record of the next unit, written behind those before it to the part of the buffer that was lent, and what comes back of it
pub one_more : (bytes : List ℕ) (unit at : ℕ) (old before lent : List ℕ) (stepped : Stepped)
    → at ≡ result_size * unit → before ≡ written bytes unit ++ drop at old → stepped ≡ step_at bytes unit
    → lent ≡ result_bytes stepped.fails stepped.cusum.tenths ++ drop result_size (take (length before - at) (drop at before))
    → take at before ++ (lent ++ drop (length before - at) (drop at before)) ≡ written bytes (unit + 1) ++ drop (result_size * (unit + 1)) old
unfolding cusum_before fails_at written
one_more bytes unit at old before lent stepped is_at is_before is_stepped is_lent =
    let all = length_written bytes unit ∙ sym is_at in
    let behind : at + result_size ≡ result_size * suc unit = omega arith in
    let none : drop (length before - at) (drop at before) ≡ [] = drop_all (length before - at) (drop at before) (omega (arith, length-drop at before)) in
    rw (
      none,
      is_lent,
      append-nil,
      take_rest before at,
      is_before,
      is_stepped,
      add-one unit,
      take_at _ _ _ all,
      drop_at _ _ _ all,
      drop-drop result_size at old,
      behind,
    )
    (sym (append_assoc (written bytes unit) (result_of bytes unit) _))

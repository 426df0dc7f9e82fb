-- The result record of a mold unit in bytes: mark 4D 52, 1 for met or 0 (a byte), CuSum in tenths (2). The overshoot is left out.
use Rattle.std.specs.Prelude.{ℕ, zero, suc, ◌+◌, ◌*◌, Bool, cond, List, [], ◌∷◌, ◌++◌}
use Rattle.encoding.specs.Bytes.{byte, number, bytes_of}
use Rattle.layout.specs.Layout.{mark_size}
use Rattle.results.specs.Record.{cusum_width}
use Rattle.mold.specs.Grading.{cusum_before, fails_at}

-- ---- offsets of the fields, and size of the record

abbrev pub met_offset : ℕ
met_offset = mark_size

abbrev pub cusum_offset : ℕ
cusum_offset = met_offset + 1

abbrev pub result_size : ℕ
result_size = cusum_offset + cusum_width

-- ---- its bytes

-- by whether the unit fails, and its CuSum
unfoldable pub result_bytes : Bool → ℕ → List ℕ
result_bytes failing tenths = 0x4D ∷ 0x52 ∷ cond failing 0 1 ∷ bytes_of cusum_width tenths

-- what unit i writes: the CuSum that it makes is the one before the next
abbrev pub result_of : List ℕ → ℕ → List ℕ
result_of bytes i = result_bytes (fails_at bytes i) (cusum_before bytes (suc i))

-- what the first n units write, each after those before it
unfoldable pub written : List ℕ → ℕ → List ℕ
written bytes zero = []
written bytes (suc n) = written bytes n ++ result_of bytes n

-- ---- a field of the record of unit i, read back from the result buffer

abbrev pub mark_in : List ℕ → ℕ → ℕ
mark_in results i = number results (result_size * i)

abbrev pub met_in : List ℕ → ℕ → ℕ
met_in results i = byte results (result_size * i + met_offset)

abbrev pub cusum_in : List ℕ → ℕ → ℕ
cusum_in results i = number results (result_size * i + cusum_offset)

-- The first n records of results alone: how many they are, and that each has the code and the portion grade that it has among the others.
use Prim.Native.Nat.{ℕ, ◌+◌, ◌*◌, ◌%◌, ◌≤◌, ◌<◌}
use mathlib.Core.Path.{◌≡◌}
use mathlib.Core.List.{List}
use native.Mathlib.Omega.{arith}
use lib.ListN.{length, take, length-take}
use lib.Seq.{get_or-take}
use Rattle.encoding.specs.Bytes.{byte}
use Rattle.results.specs.Record.{result_size, code_offset, portion_grade_offset, code_in, portion_grade_in}
use Rattle.lookup.specs.Records.{result_records}

module _ (results : List ℕ) (n : ℕ) (room : result_size * n ≤ length results) where
  abbrev cut : List ℕ
  cut = take (result_size * n) results

  cut_length : length cut ≡ result_size * n
  cut_length = simp length-take (omega (arith, room))

  pub cut_whole : length (take (result_size * n) results) % result_size ≡ 0
  cut_whole = omega (arith, cut_length)

  pub cut_records : result_records (take (result_size * n) results) ≡ n
  cut_records = omega (arith, cut_length)

  same_byte : (at : ℕ) → at < result_size * n → byte cut at ≡ byte results at
  same_byte at inside = get_or-take (result_size * n) results at 0 inside

  pub cut_code : (j : ℕ) → j < n → code_in (take (result_size * n) results) j ≡ code_in results j
  cut_code j below =
      rw (same_byte (result_size * j + code_offset) (omega (arith, below)), same_byte (result_size * j + code_offset + 1) (omega (arith, below)))

  pub cut_portion : (j : ℕ) → j < n → portion_grade_in (take (result_size * n) results) j ≡ portion_grade_in results j
  cut_portion j below = same_byte (result_size * j + portion_grade_offset) (omega (arith, below))

-- How long a line is, and that none is longer than `line_size`.
-- By the lengths of texts one behind the other, and of decimals below a power of ten; over the classes by induction on their list.
use Rattle.std.proofs.Common.{◌≡◌, ℕ, ◌+◌, ◌-◌, ◌*◌, ◌/◌, ◌^◌, ◌<◌, ◌≤◌, List, [], ◌∷◌, length, map, arith, length-append}
use Rattle.encoding.specs.Bytes.{byte}
use Rattle.units.specs.Words.{classes}
use Rattle.results.specs.Record.{result_size, code_offset, cusums_offset, cusum_width, code_in, cusum_in}
use Rattle.text.specs.Text.{decimal, rest_of_line, line_with}
use Rattle.text.specs.Wrote.{word_size, number_digits, cusum_size}
use Rattle.text.proofs.Decimals.{length_decimal, length_tenths}
use Rattle.lines.specs.Lines.{cusum_field, cusum_fields, line_of}
use Rattle.lines.specs.Rooms.{letter_fields, line_size}

pub length_unit_line : (results : List ℕ) (j : ℕ)
    → length (line_of results j)
    ≡ length (decimal (j + 1)) + (1 + length (decimal (code_in results j)))
    + (length (letter_fields results j) + length (rest_of_line (cusum_fields results j)))
unfolding line_of line_with rest_of_line
length_unit_line results j = simp length-append (omega arith)

-- ---- none is too long

short_fields : (field : ℕ → List ℕ) → ((class : ℕ) → length (field class) ≤ cusum_size)
    → (some : List ℕ) → length (rest_of_line (map field some)) ≤ length some * (cusum_size + 1) + 1
unfolding rest_of_line
short_fields field short [] = omega arith
short_fields field short (class ∷ others) =
    omega (arith, length-append (field class) (rest_of_line (map field others)), short class, short_fields field short others)

module _ (results : List ℕ) (bytes : (at : ℕ) → byte results at < 256) where
  short_cusum : (j class : ℕ) → length (cusum_field results j class) ≤ cusum_size
  short_cusum j class =
      let at = result_size * j + (cusums_offset + cusum_width * class) in
      let tenths = cusum_in results j class in
      omega (arith, length_tenths tenths, length_decimal (number_digits - 1) (tenths / 10) (omega arith) (omega (arith, bytes at, bytes (at + 1))))

  pub short_line : (j : ℕ) → j + 1 < 10 ^ word_size → length (line_of results j) ≤ line_size
  short_line j below =
      let at = result_size * j + code_offset in
      let code = length_decimal number_digits (code_in results j) (omega arith) (omega (arith, bytes at, bytes (at + 1))) in
      let number = length_decimal word_size (j + 1) (omega arith) below in
      omega (arith, length_unit_line results j, number, code, short_fields (cusum_field results j) (short_cusum j) classes)

-- Numbers of two bytes and of any width, with the high byte first.
use Rattle.std.specs.Prelude.{ℕ, zero, suc, ◌+◌, ◌*◌, ◌/◌, ◌%◌, List, [], ◌∷◌, ◌++◌, get_or}

abbrev pub byte : List ℕ → ℕ → ℕ
byte bytes at = get_or bytes at 0

-- the number that stands at an offset
abbrev pub number : List ℕ → ℕ → ℕ
number bytes at = 256 * byte bytes at + byte bytes (at + 1)

-- the two bytes of a number
abbrev pub high : ℕ → ℕ
high value = value / 256 % 256

abbrev pub low : ℕ → ℕ
low value = value % 256

-- ---- of any width

-- the number that stands in so many bytes from an offset on
unfoldable pub wide_number : ℕ → List ℕ → ℕ → ℕ
wide_number zero bytes at = 0
wide_number (suc width) bytes at = 256 * wide_number width bytes at + byte bytes (at + width)

-- the lowest so many bytes of a number
unfoldable pub bytes_of : ℕ → ℕ → List ℕ
bytes_of zero value = []
bytes_of (suc width) value = bytes_of width (value / 256) ++ (value % 256 ∷ [])

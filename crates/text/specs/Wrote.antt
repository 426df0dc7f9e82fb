-- For contracts of functions that write text on a page: what they promise, and the room that they ask for.
use Rattle.std.specs.Prelude.{ℕ, ◌+◌, ◌*◌, ◌≤◌, ◌≡◌, List, ◌++◌, length, take, drop}
use Rattle.text.specs.declared.page.Page.{Page}
use Rattle.text.specs.Ascii.{ascii}

-- what is written, and the bytes behind it
abbrev pub written : Page → List ℕ
written page = take page.size page.text.now

abbrev pub behind : Page → List ℕ
behind page = drop page.size page.text.now

-- in the same bytes of the caller, the text stands behind what was written before, and the bytes behind it are kept
pub record Wrote (before : Page) (text : List ℕ) (after : Page) : Type 0 where
  pub same_bytes : after.text.ghost_name ≡ before.text.ghost_name
  pub holds : written after ≡ written before ++ text
  pub kept : behind after ≡ drop (length text) (behind before)
  pub room : length (behind after) + length text ≡ length (behind before)

-- ---- room

-- so many bytes have room behind what is written
abbrev pub HasRoom : Page → ℕ → Type 0
HasRoom page size = size ≤ length (behind page)

-- no number of 64 bits has more digits
abbrev pub word_size : ℕ
word_size = 20

-- no number of two bytes has more
abbrev pub number_digits : ℕ
number_digits = 5

-- no CuSum with one decimal is longer
abbrev pub cusum_size : ℕ
cusum_size = number_digits + 1

-- no refusal is longer: the word and two numbers of 64 bits, with one byte behind each
abbrev pub longest_refusal : ℕ
longest_refusal = length (ascii "refused") + 1 + 2 * (word_size + 1)

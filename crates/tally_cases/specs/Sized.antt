-- Bytes behind their length, as they stand in the input.
use Rattle.std.specs.Prelude.{◌≡◌, ℕ, ◌<◌, ◌≤◌, List, ◌++◌, length, Option}
use Rattle.std.specs.Int.{w32, from_be_bytes}
use Rattle.std.specs.Io.KnownBytes.{Consumes, IsAtEnd}

-- the input loses a length in four bytes, the high byte first, and so many bytes, or fewer at its end
pub record LosesSized (before after : Option (List ℕ)) (bytes : List ℕ) : Type 0 where
  pub size : List ℕ
  pub four : length size ≡ 4
  pub front : Consumes before after (size ++ bytes)
  pub inside : length bytes ≤ from_be_bytes w32 size
  pub whole : length bytes < from_be_bytes w32 size → IsAtEnd after

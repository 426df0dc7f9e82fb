-- Two sheets alike, and fellows, as demand 3 has them: of bytes, for gradings and regradings.
use Rattle.std.specs.Prelude.{ℕ, ◌+◌, ◌≤◌, ◌<◌, ◌≡◌, List, length}
use Rattle.encoding.specs.Bytes.{byte, number}
use Rattle.layout.specs.Layout.{counts_offset, count_offset, kinds, prerequisite_offset, offset}
use Rattle.tally.specs.Accepted.{UnitAt}

-- the byte at an offset lies in a count of a unit
pub record InCount (bytes : List ℕ) (at : ℕ) : Type 0 where
  pub i : ℕ
  pub unit : UnitAt bytes i
  pub from : offset bytes i + counts_offset ≤ at
  pub to : at < offset bytes i + prerequisite_offset

-- two sheets are alike if they have the same length and the same bytes outside the counts (the counts lie at the same places in both,
-- since marks lie outside them)
pub record Alike (bytes bytes' : List ℕ) : Type 0 where
  pub same_length : length bytes ≡ length bytes'
  pub same_bytes : (at : ℕ) → (InCount bytes at → ⊥) → byte bytes at ≡ byte bytes' at

-- no count in the first exceeds its fellow in the second; fellows stand at the same place in both
abbrev pub NoMore : List ℕ → List ℕ → Type 0
NoMore bytes bytes' =
    (i kind : ℕ) → UnitAt bytes i → kind < kinds
    → number bytes (offset bytes i + count_offset kind) ≤ number bytes' (offset bytes i + count_offset kind)

-- What sheets that are proved by computing are held to, by what their grading comes to and the size of its result records.
use Rattle.std.specs.Prelude.{ℕ, ◌*◌, ◌<◌, ◌≤◌, ◌≡◌, List, ◌++◌, length, drop}
use Rattle.outcome.specs.Outcome.{Outcome, accepted_as, refusal}

module _ (outcome : List ℕ → List ℕ → Outcome) where
  -- a sheet is accepted with so many units, at its length, and these result records are in every buffer that has room for them; bytes
  -- behind the last one keep theirs
  abbrev pub GradedBy : ℕ → List ℕ → ℕ → ℕ → List ℕ → Type 0
  GradedBy size sheet units offset results =
      (buffer : List ℕ) → size * units ≤ length buffer
      → outcome sheet buffer
      ≡ record { answer = accepted_as units offset; buffer = results ++ drop (size * units) buffer }

  -- it is refused with this number and offset, whatever the buffer
  abbrev pub RefusedBy : ℕ → List ℕ → ℕ → Type 0
  RefusedBy number sheet offset = (buffer : List ℕ) → outcome sheet buffer ≡ refusal number offset buffer

  -- and with this one in every buffer without room for so many units
  abbrev pub WithoutRoomBy : ℕ → ℕ → List ℕ → ℕ → ℕ → Type 0
  WithoutRoomBy size number sheet units offset =
      (buffer : List ℕ) → length buffer < size * units → outcome sheet buffer ≡ refusal number offset buffer

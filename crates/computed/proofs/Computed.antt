-- Sheets that are graded by computation: what is left to show once a sheet is known to pass numbers 1 to 12 is the room in the buffer.
use Prim.Native.Nat.{ℕ, ◌*◌, ◌<◌, ◌≤◌}
use mathlib.Core.Path.{◌≡◌}
use mathlib.Core.List.{List}
use lib.ListN.{length}
use borrow.Author.Tests.{lt-ltb, le-ltb}
use Rattle.units.specs.Conditions.{pick}
use Rattle.sheet.specs.Refusals.{verdict}
use Rattle.sheet.specs.Verdict.{Accepted}
use Rattle.results.specs.Record.{result_size}
use Rattle.outcome.specs.Outcome.{refusal}
use Rattle.tally.specs.Outcome.{acceptance, outcome_by, outcome}

module _ (bytes buffer : List ℕ) (records units : ℕ) (passes : verdict bytes ≡ Accepted records units) where
  -- a buffer that holds the records
  pub accepts : result_size * units ≤ length buffer → outcome bytes buffer ≡ acceptance bytes buffer records units
  unfolding pick outcome_by outcome
  accepts holds = rw (passes, le-ltb (length buffer) (result_size * units) holds)

  -- a buffer that does not
  pub without_room : length buffer < result_size * units → outcome bytes buffer ≡ refusal 13 (length bytes) buffer
  unfolding pick outcome_by outcome
  without_room short = rw (passes, lt-ltb (length buffer) (result_size * units) short)

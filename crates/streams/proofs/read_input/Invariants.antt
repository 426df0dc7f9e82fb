-- The loop's invariant: what was read lies inside the room, and is what the input lost; it ends as each turn reads a byte or more.
use Rattle.std.proofs.Common.{◌≡◌, ◌-◌, ◌≤◌, length, take}
use Rattle.std.specs.Io.KnownBytes.{Consumes}
use Rattle.streams.proofs.read_input.Given as goal

abbrev pub invariant-loop-bytes : goal.invariant-loop-bytes
invariant-loop-bytes g l =
    (l.bytes ≤ length l.room)
    × (length l.room ≡ length l.initial.room)
    × Consumes (g.R.Read.remaining l.initial.input) (g.R.Read.remaining l.input) (take l.bytes l.room)

abbrev pub decreases-loop-bytes : goal.decreases-loop-bytes
decreases-loop-bytes g l = length l.initial.room - l.bytes

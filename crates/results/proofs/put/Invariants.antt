-- The loop's invariant: what is left to store, stored, gives what all the stores give.
use Prim.Native.Nat.{◌≤◌}
use mathlib.Core.Path.{◌≡◌}
use lib.ListN.{length, drop}
use lib.Seq.{sets}
use Rattle.results.proofs.put.Given as goal

abbrev pub invariant-loop-i : goal.invariant-loop-i
invariant-loop-i g l =
    (l.i ≤ g.row.N) × (length l.bytes ≡ g.row.N) × (length l.rest ≡ length l.initial.rest) × (sets l.initial.rest 0 l.bytes ≡ sets l.rest l.i (drop l.i l.bytes))

-- The invariant is `Further`: the passing has gone on from the start to where the loop stands, each record by the law of its kind. The loop has
-- the row of the designated grade alone, so that the invariant is about any table that has it.
use Prim.Native.Nat.{◌-◌}
use mathlib.Core.Path.{◌≡◌}
use mathlib.Core.Bool.{true}
use Rattle.units.specs.Words.{Table, row_of}
use Rattle.single_plan.specs.Passing.{Further}
use Rattle.single_plan.proofs.write_meeting.Given as goal

abbrev pub invariant-loop-here : goal.invariant-loop-here
invariant-loop-here l =
    (table : Table) → row_of table l.designated ≡ row_of l.sheet.table.now l.designated
    → Further l.sheet.bytes.now l.sheet.records table l.designated true l.initial.here l.initial.results l.here l.results

abbrev pub decreases-loop-here : goal.decreases-loop-here
decreases-loop-here l = l.sheet.records - l.here.place.index

-- The records of the units before this one stand at the front of the buffer, and the CuSum is the one before it.
use Rattle.std.proofs.Common.{◌≡◌, ◌*◌, ◌++◌, drop}
use Rattle.mold.specs.Grading.{cusum_before}
use Rattle.mold.specs.Results.{result_size, written}
use Rattle.mold.proofs.write_units.Given as goal

abbrev pub invariant-loop-unit : goal.invariant-loop-unit
invariant-loop-unit l =
    (l.cusum ≡ record { tenths = cusum_before l.bytes l.unit })
    × (l.results ≡ written l.bytes l.unit ++ drop (result_size * l.unit) l.initial.results)

-- The step that the code takes is that of the unit, and its record goes behind those written.
use Rattle.std.proofs.Common.{refl, ◌≡◌, ◌∙◌}
use Rattle.mold.proofs.Written.{step_at, next_cusum, one_more}
use Rattle.mold.proofs.write_units.Goals as goal

pub loop-unit-preserved : goal.loop-unit-preserved
loop-unit-preserved c =
    let inv = c.loop-unit.invariant in
    let stepped : c.step-stepped.result ≡ step_at c.args.bytes.now c.loop-unit.unit
    = c.step-stepped.ensures ∙ rw (inv.0, c.level_numbers-numbers.ensures, c.tenths_at-tenths.ensures) in
    (next_cusum _ _ _ stepped, one_more _ _ _ _ _ _ _ refl inv.1 stepped c.write.ensures)

-- By cases on the phase, which gives each path the plan that it asks for.
use mathlib.Core.Path.{ap}
use Rattle.rules.specs.StepThree.{in_step_three}
use Rattle.writing.proofs.write_unit.Goals as goal

pub write_step_three-requires : goal.write_step_three-requires
unfolding in_step_three
write_step_three-requires c =
    (c.requires, ap in_step_three c.in-StepThree.is)

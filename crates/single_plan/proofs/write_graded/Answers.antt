-- A state outside step 3 is recorded as `result_under` says.
use Prim.Native.Nat.{◌*◌}
use mathlib.Core.Path.{refl, ◌∙◌, ap}
use lib.Seq.{sets}
use Rattle.results.specs.Record.{result_size, result_bytes}
use Rattle.results.specs.declared.ResultRecord.{ResultRecord}
use Rattle.codes.specs.Codes.{ungraded}
use Rattle.single_plan.proofs.Passing.{result_outside}
use Rattle.single_plan.proofs.write_graded.Goals as goal

pub returns : goal.returns
returns c =
    c.write_at.ensures
    ∙ ap (λ (r : ResultRecord). sets c.args.results.now (result_size * c.args.place.units) (result_bytes ungraded r))
    (c.result_of.ensures ∙ rw c.outside.ensures (result_outside _ _ _ refl))

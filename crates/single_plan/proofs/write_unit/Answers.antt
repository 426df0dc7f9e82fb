-- The grading is that of the step in every class, under a grade that has a plan.
use Prim.Native.Nat.{◌*◌}
use mathlib.Core.Path.{◌∙◌, ap}
use lib.Seq.{sets}
use Rattle.units.specs.declared.Grading.{Grading}
use Rattle.results.specs.Record.{result_size, result_bytes}
use Rattle.codes.specs.Codes.{ungraded}
use Rattle.single_plan.specs.SinglePlan.{result_under}
use Rattle.single_plan.proofs.Passing.{stepped_grading}
use Rattle.single_plan.proofs.write_unit.Goals as goal

pub returns-clause-grading : goal.returns-clause-grading
returns-clause-grading c =
    stepped_grading _ _ _ c.args.unit c.requires.1 c.row_of.ensures c.step_classes-stepped.ensures c.graded_by-grading.ensures

pub returns-clause-buffer : goal.returns-clause-buffer
returns-clause-buffer c =
    c.write_graded.ensures
    ∙ ap (λ (g : Grading). sets c.args.results.now (result_size * c.args.here.place.units) (result_bytes ungraded (result_under c.args.designated c.args.unit g)))
    (stepped_grading _ _ _ c.args.unit c.requires.1 c.row_of.ensures c.step_classes-stepped.ensures c.graded_by-grading.ensures)

-- The demands on the grading of mold sheets, together.
use Rattle.mold_demands.specs.MoldDemands.{MoldDemands}
use Rattle.mold_demands.proofs.MoldBytes.{mold_layout}
use Rattle.mold_demands.proofs.MoldAnswers.{mold_answered}
use Rattle.mold_demands.proofs.MoldGrounds.{mold_refusals}
use Rattle.mold_demands.proofs.MoldRecords.{mold_graded}
use Rattle.mold_demands.proofs.MoldLargest.{mold_largest_form}
use Rattle.mold_demands.proofs.MoldSheets.{mold_sheets}
use Rattle.mold_demands.proofs.MoldText.{mold_text}
use Rattle.mold_demands.proofs.MoldInstances.{mold_instances}

pub mold_demands : MoldDemands
mold_demands =
    record {
      layout = mold_layout;
      answered = mold_answered;
      refusals = mold_refusals;
      graded = mold_graded;
      largest_form_holds = mold_largest_form;
      sheets = mold_sheets;
      text = mold_text;
      instances = mold_instances;
    }

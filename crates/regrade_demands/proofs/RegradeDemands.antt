-- The demands on regradings, each from its own file.
use Rattle.regrade_demands.specs.RegradeDemands.{RegradeDemands}
use Rattle.regrade_demands.proofs.RegradeAnswers.{regrade_answered}
use Rattle.regrade_demands.proofs.RegradeGrounds.{regrade_refusals}
use Rattle.regrade_demands.proofs.RegradeRecords.{regrade_graded}
use Rattle.regrade_demands.proofs.RegradeLargest.{regrade_largest_form}
use Rattle.regrade_demands.proofs.RegradeFewer.{regrade_fewer_defects}
use Rattle.regrade_demands.proofs.RegradeSheets.{regrade_sheets}
use Rattle.regrade_demands.proofs.RegradeText.{regrade_text}
use Rattle.regrade_demands.proofs.RegradeInstances.{regrade_instances}

pub regrade_demands : RegradeDemands
regrade_demands =
    record {
      answered = regrade_answered;
      refusals = regrade_refusals;
      graded = regrade_graded;
      largest_form_holds = regrade_largest_form;
      fewer_defects = regrade_fewer_defects;
      sheets = regrade_sheets;
      text = regrade_text;
      instances = regrade_instances;
    }

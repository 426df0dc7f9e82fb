-- The demands on regradings as one theorem, `regrade_demands : RegradeDemands` in `proofs/RegradeDemands.antt`: all speak of
-- `regrade_outcome`, which the promise of `regrade` gives for every sheet, every second plan and every buffer, and the text of
-- `regrade_printed`, which the promise of `print_regrading_into` gives. The layout of a second plan is that of a sheet's own.
use Rattle.regrade_demands.specs.RegradeAnswers.{RegradeAnswered}
use Rattle.regrade_demands.specs.RegradeGrounds.{RegradeRefusals}
use Rattle.regrade_demands.specs.RegradeRecords.{RegradeGraded}
use Rattle.regrade_demands.specs.RegradeLargest.{RegradeLargestForm}
use Rattle.regrade_demands.specs.RegradeFewer.{RegradeFewerDefects}
use Rattle.regrade_demands.specs.RegradeSheets.{RegradeSheets}
use Rattle.regrade_demands.specs.RegradeText.{RegradeText}
use Rattle.regrade_demands.specs.RegradeInstances.{RegradeInstances}

pub record RegradeDemands : Type 0 where
  -- any bytes at all are accepted, or refused by a listed number with the place; what happens to the result buffer
  pub answered : RegradeAnswered
  -- nothing is refused without a listed ground, and the first that applies is returned
  pub refusals : RegradeRefusals
  -- an accepted regrading gets exactly the CuSums, overshoots and grades of the rules under the second plan
  pub graded : RegradeGraded
  -- every recorded CuSum is the 'largest of' form from its anchor
  pub largest_form_holds : RegradeLargestForm
  -- fewer defects: no higher CuSum, no larger overshoot, no new failure and no lower grade, through the whole sheet
  pub fewer_defects : RegradeFewerDefects
  -- recorded sheets and second plans in bytes, with the answers and result bytes of the independent grader
  pub sheets : RegradeSheets
  -- what is printed for any input
  pub text : RegradeText
  -- each of them on a regrading with two failures in a row and a redesignation, as its theorem gives it
  pub instances : RegradeInstances

-- The demands on the grading of mold sheets as one theorem, `mold_demands : MoldDemands` in `proofs/MoldDemands.antt`: all speak of
-- `mold_outcome`, which the promise of `grade_mold` gives for every sheet and every buffer, and the text of `mold_printed`, which the promise
-- of `print_mold_into` gives.
use Rattle.mold_demands.specs.MoldBytes.{MoldLayout}
use Rattle.mold_demands.specs.MoldGrounds.{MoldRefusals}
use Rattle.mold_demands.specs.MoldAnswers.{MoldAnswered}
use Rattle.mold_demands.specs.MoldRecords.{MoldGraded}
use Rattle.mold_demands.specs.MoldLargest.{MoldLargestForm}
use Rattle.mold_demands.specs.MoldSheets.{MoldSheets}
use Rattle.mold_demands.specs.MoldText.{MoldText}
use Rattle.mold_demands.specs.MoldInstances.{MoldInstances}

pub record MoldDemands : Type 0 where
  -- sizes, offsets, fields and levels, as all the others name them, in the paper's numbers
  pub layout : MoldLayout
  -- any bytes at all are accepted, or refused by a listed number with the place; what happens to the result buffer
  pub answered : MoldAnswered
  -- nothing is refused without a listed ground, and the first that applies is returned
  pub refusals : MoldRefusals
  -- an accepted sheet gets exactly the CuSums of rule 2
  pub graded : MoldGraded
  -- every recorded CuSum is the 'largest of' form from its anchor
  pub largest_form_holds : MoldLargestForm
  -- mold sheets in bytes, with the answers and result bytes of the independent grader
  pub sheets : MoldSheets
  -- what is printed for any input
  pub text : MoldText
  -- each of them on a sheet of several units, as its theorem gives it
  pub instances : MoldInstances

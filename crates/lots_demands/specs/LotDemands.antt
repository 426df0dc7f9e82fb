-- The demands on lots as one theorem, `lot_demands : LotDemands` in `proofs/LotDemands.antt`: all speak of `lot_answer`, which the promises of
-- `grade_lot` and `hatmuyon_grade_lot` give for every slice, and of the table that it reads.
use Rattle.lots_demands.specs.LotTable.{LotTable}
use Rattle.lots_demands.specs.LotGrounds.{LotRefusals}
use Rattle.lots_demands.specs.LotGrades.{LotGrades}
use Rattle.lots_demands.specs.LotFewerDefects.{LotFewerDefects}
use Rattle.lots_demands.specs.ComputedLots.{ComputedLots}
use Rattle.lots_demands.specs.LotInstances.{LotInstances}

pub record LotDemands : Type 0 where
  -- the acceptance numbers, and that a larger AQL never has a smaller one
  pub table : LotTable
  -- nothing is refused without a listed ground, and the first that applies is returned, with 3 for a grade
  pub refusals : LotRefusals
  -- an accepted lot gets the worse of its defect grade and its prerequisite
  pub grades : LotGrades
  -- demand 3: fewer defects never grade lower
  pub fewer_defects : LotFewerDefects
  -- lots in bytes, with the answers of the independent grader
  pub computed : ComputedLots
  -- each of them on a few of these lots, as its theorem gives it
  pub instances : LotInstances

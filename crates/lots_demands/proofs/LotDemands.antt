-- The demands on lots, each with its theorem.
use Rattle.lots_demands.specs.LotDemands.{LotDemands}
use Rattle.lots_demands.proofs.LotTable.{lot_table}
use Rattle.lots_demands.proofs.LotGrounds.{lot_refusals}
use Rattle.lots_demands.proofs.LotGrades.{lot_grades}
use Rattle.lots_demands.proofs.LotFewerDefects.{lot_fewer_defects}
use Rattle.lots_demands.proofs.ComputedLots.{computed_lots}
use Rattle.lots_demands.proofs.LotInstances.{lot_instances}

pub lot_demands : LotDemands
lot_demands =
    record {
      table = lot_table;
      refusals = lot_refusals;
      grades = lot_grades;
      fewer_defects = lot_fewer_defects;
      computed = computed_lots;
      instances = lot_instances;
    }

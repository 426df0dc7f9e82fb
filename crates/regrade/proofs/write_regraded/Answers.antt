-- All records passed from the opening on write what is recorded of their units.
use Rattle.regrade.proofs.Rewritten.{passable, all_passed}
use Rattle.regrade.proofs.write_regraded.Goals as goal

pub write_again-requires : goal.write_again-requires
write_again-requires c =
    passable _ _ _ c.args.results.now c.requires c.table-table.result

pub returns : goal.returns
returns c =
    all_passed _ _ _ c.args.results.now c.requires c.table-table.ensures c.write_again.ensures

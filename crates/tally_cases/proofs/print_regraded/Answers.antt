-- The text that is made is that of the regrading.
use Rattle.std.proofs.Common.{rules}
use Rattle.regrade_lines.specs.RegradeLines.{regrade_printed}
use Rattle.tally_cases.proofs.print_regraded.Goals as goal

pub print_text-requires-clause-made : goal.print_text-requires-clause-made
print_text-requires-clause-made g c = (regrade_printed c.args.sheet.now c.args.plan.now, λ after end made. search rules)

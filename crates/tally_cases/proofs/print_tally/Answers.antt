-- The text that is made is that of the sheet.
use Rattle.std.proofs.Common.{rules}
use Rattle.lines.specs.Lines.{printed}
use Rattle.tally_cases.proofs.print_tally.Goals as goal

pub print_text-requires-clause-made : goal.print_text-requires-clause-made
print_text-requires-clause-made g c = (printed c.args.sheet.now, λ after end made. search rules)

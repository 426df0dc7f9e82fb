-- Byte for byte the definition: the lowest four of the library's eight.
use mathlib.Core.Path.{sym}
use Rattle.encoding.proofs.Numbers.{lowest_four}
use Rattle.encoding.proofs.four_bytes.Goals as goal

pub returns : goal.returns
returns c = rw c.to_be_bytes.ensures (sym (lowest_four c.args.value))

-- The whole part, and behind it the point and the fraction, which is one digit.
use Rattle.text.specs.Text.{one_decimal}
use Rattle.text.proofs.Pages.{joined}
use Rattle.text.proofs.page.Page.tenths_field.Goals as goal

pub returns : goal.returns
unfolding one_decimal
returns c = rw c.from.ensures at (joined c.number_field.ensures c.bytes.ensures)

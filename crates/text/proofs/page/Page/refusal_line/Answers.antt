-- Four texts, one behind the other.
use Rattle.text.specs.Text.{rest_of_line, line_with, refused_line}
use Rattle.text.proofs.Pages.{joined}
use Rattle.text.proofs.page.Page.refusal_line.Goals as goal

pub returns : goal.returns
unfolding rest_of_line line_with refused_line
returns c = joined c.bytes.ensures (joined c.number_field.ensures (joined c.number_field-2.ensures c.byte.ensures))

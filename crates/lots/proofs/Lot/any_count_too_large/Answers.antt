-- `any_count_too_large` tests kind after kind, as the definition does.
use mathlib.Core.Path.{refl}
use lib.ListN.{length}
use borrow.Author.Rules.{rules}
use borrow.Author.Tests.{tests}
use Rattle.std.proofs.lemmas.Iterator.{YieldsList-from_range}
use Rattle.std.proofs.lemmas.Iterator.Search.{any_from_yields_List}
use Rattle.units.specs.Conditions.{any}
use Rattle.lots.specs.Layout.{kinds}
use Rattle.lots.specs.Refusals.{count_too_large}
use Rattle.lots.proofs.Lot.any_count_too_large.Goals as goal

pub returns : goal.returns
unfolding any count_too_large
returns c =
    any_from_yields_List (count_too_large c.args.self.now.bytes.now) _ _ _ c.any.ensures.ran (YieldsList-from_range 0 (length kinds) (length kinds) refl refl)
    (λ kind answer closure called. search (rules, tests))

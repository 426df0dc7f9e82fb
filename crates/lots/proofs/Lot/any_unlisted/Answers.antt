-- `any_unlisted` tests AQL after AQL, as the definition does.
use mathlib.Core.Path.{refl}
use lib.ListN.{length}
use borrow.Author.Rules.{rules}
use borrow.Author.Tests.{tests}
use Rattle.std.proofs.lemmas.Iterator.{YieldsList-from_range}
use Rattle.std.proofs.lemmas.Iterator.Search.{any_from_yields_List}
use Rattle.units.specs.Conditions.{any}
use Rattle.lots.specs.Layout.{cells}
use Rattle.lots.specs.Refusals.{is_unlisted}
use Rattle.lots.proofs.Lot.any_unlisted.Goals as goal

pub returns : goal.returns
unfolding any is_unlisted
returns c =
    any_from_yields_List (is_unlisted c.args.self.now.bytes.now) _ _ _ c.any.ensures.ran (YieldsList-from_range 0 (length cells) (length cells) refl refl)
    (λ cell answer closure called. search (rules, tests))

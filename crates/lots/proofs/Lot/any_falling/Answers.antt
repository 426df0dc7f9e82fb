-- `any_falling` tests class after class, as the definition does.
use mathlib.Core.Path.{refl}
use lib.ListN.{length}
use borrow.Author.Rules.{rules}
use borrow.Author.Tests.{tests}
use Rattle.std.proofs.lemmas.Iterator.{YieldsList-from_range}
use Rattle.std.proofs.lemmas.Iterator.Search.{any_from_yields_List}
use Rattle.units.specs.Conditions.{any}
use Rattle.lots.specs.Layout.{classes}
use Rattle.lots.specs.Refusals.{aql_falls_in_class}
use Rattle.lots.proofs.Lot.any_falling.Goals as goal

pub returns : goal.returns
unfolding any aql_falls_in_class
returns c =
    any_from_yields_List (aql_falls_in_class c.args.self.now.bytes.now) _ _ _ c.any.ensures.ran (YieldsList-from_range 0 (length classes) (length classes) refl refl)
    (λ class answer closure called. search (rules, tests))

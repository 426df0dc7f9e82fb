-- `admits` tests class after class, as the definition does.
use mathlib.Core.Path.{refl}
use lib.ListN.{length}
use borrow.Author.Rules.{rules}
use borrow.Author.Tests.{tests}
use Rattle.std.proofs.lemmas.Iterator.{YieldsList-from_range}
use Rattle.std.proofs.lemmas.Iterator.Search.{all_from_yields_List}
use Rattle.units.specs.Conditions.{all}
use Rattle.lots.specs.Layout.{classes}
use Rattle.lots.specs.Grading.{admits_class, admits}
use Rattle.lots.proofs.Lot.admits.Goals as goal

pub returns : goal.returns
unfolding all admits admits_class
returns c =
    all_from_yields_List (admits_class c.args.self.now.bytes.now c.args.grade) _ _ _ c.all.ensures.ran (YieldsList-from_range 0 (length classes) (length classes) refl refl)
    (λ class answer closure called. search (rules, tests))

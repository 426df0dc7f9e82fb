-- `defect_grade` is the first grade that admits, as in the definition.
use mathlib.Core.Path.{refl}
use borrow.Author.Rules.{rules}
use borrow.Author.Tests.{tests}
use Rattle.std.proofs.lemmas.Iterator.{YieldsList-from_range}
use Rattle.std.proofs.lemmas.Iterator.Adapters.{option_map_id}
use Rattle.std.proofs.lemmas.Iterator.Search.{find_from_yields_List}
use Rattle.lots.specs.Grading.{admits, defect_grade}
use Rattle.units.specs.Words.{substandard}
use Rattle.lots.proofs.Lot.defect_grade.Goals as goal

pub returns : goal.returns
unfolding defect_grade
returns c =
    let found = find_from_yields_List (admits c.args.self.now.bytes.now) _ _ c.find.result c.find.ensures.ran (YieldsList-from_range 0 substandard substandard refl refl)
    (λ grade answer closure called. search (rules, tests)) in
    rw (c.unwrap_or.ensures, ← option_map_id c.find.result, found) (search (rules, tests))

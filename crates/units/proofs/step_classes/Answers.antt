-- The CuSums and the overshoots are those of the steps, and a class fails if a step does: by what `map` and `fold` give, class by class.
use mathlib.Core.Path.{◌≡◌, ◌∙◌}
use mathlib.Core.Bool.{◌||◌}
use mathlib.Core.List.{map}
use Rattle.std.proofs.Common.{rules, tests, false}
use Rattle.std.specs.List.{list_any}
use Rattle.std.proofs.lemmas.Iterator.{YieldsList-from_slice}
use Rattle.std.proofs.lemmas.Iterator.Consumers.{fold_from_yields_List}
use Rattle.cusum.specs.declared.Stepped.{Stepped}
use Rattle.cusum.specs.Step.{step_of}
use Rattle.units.specs.Conditions.{any}
use Rattle.units.specs.Words.{no_numbers, zero_cusum}
use Rattle.units.specs.Unit.{stepped_in}
use Rattle.units.proofs.Lists.{mapped, folded}
use Rattle.units.proofs.step_classes.Goals as goal

none : Stepped
none = step_of no_numbers zero_cusum 0

pub returns : goal.returns
unfolding stepped_in any
returns c =
    let steps = c.step_each-stepped.result in
    let new : c.map.result ≡ map (λ class. class.cusum) steps
    = mapped _ _ none (λ p q x y call. search rules) c.map.ensures.items (search rules) in
    let over : c.map-2.result ≡ map (λ class. class.overshoot) steps
    = mapped _ _ none (λ p q x y call. search rules) c.map-2.ensures.items (search rules) in
    let failed : c.fold.result ≡ list_any (λ class. class.fails) steps
    = fold_from_yields_List _ (λ found class. found || class.fails) false _ c.fold.ensures.ran (YieldsList-from_slice steps cc)
    (λ a x b q k. search (rules, tests))
    ∙ folded (λ class. class.fails) false steps in
    rw (new, over, failed, c.step_each-stepped.ensures, c.tenths_of.ensures)

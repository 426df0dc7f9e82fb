-- Each fold is the test of a ground; the returns go by the tests on the way.
use Rattle.std.proofs.Common.{◌≡◌, refl, ◌∙◌, ◌||◌, false, arith, rules, tests}
use Rattle.std.proofs.lemmas.Iterator.{YieldsList-from_slice, YieldsList-from_range}
use Rattle.std.proofs.lemmas.Iterator.Consumers.{fold_from_yields_List}
use Rattle.units.specs.Conditions.{any}
use Rattle.units.specs.Words.{classes}
use Rattle.sheet.specs.Refusals.{too_large, start_above_limit, smaller_in_class, any_numbers, table_refusal, refused_if}
use Rattle.units.proofs.Lists.{folded}
use Rattle.sheet.proofs.Any.{any_cell}
use Rattle.sheet.proofs.check_table.Goals as goal
use Rattle.sheet.proofs.check_table.Goals.{After-fold, After-fold-2, After-fold-3}

large : (c : After-fold) → c.fold.result ≡ any_numbers too_large c.args.plan
large c =
    fold_from_yields_List _ (λ found member. found || too_large member) false _ c.fold.ensures.ran (YieldsList-from_slice c.args.plan.numbers cc)
    (λ a x b q k. search (rules, tests))
    ∙ any_cell too_large c.args.plan (omega arith)

above : (c : After-fold-2) → c.fold-2.result ≡ any_numbers start_above_limit c.args.plan
unfolding start_above_limit
above c =
    fold_from_yields_List _ (λ found member. found || start_above_limit member) false _ c.fold-2.ensures.ran (YieldsList-from_slice c.args.plan.numbers cc)
    (λ a x b q k. search (rules, tests))
    ∙ any_cell start_above_limit c.args.plan (omega arith)

small : (c : After-fold-3) → c.fold-3.result ≡ any (smaller_in_class c.args.plan) classes
unfolding any
small c =
    fold_from_yields_List _ (λ found class. found || smaller_in_class c.args.plan class) false _ c.fold-3.ensures.ran (YieldsList-from_range 0 4 4 refl refl)
    (λ a x b q k. search (rules, tests))
    ∙ folded (smaller_in_class c.args.plan) false classes

pub returns-then-fold : goal.returns-then-fold
unfolding table_refusal refused_if
returns-then-fold c =
    let at = goal.at.returns-then-fold c in
    rw (← large at.After-fold, c.if-fold.true)

pub returns-then-fold-2 : goal.returns-then-fold-2
unfolding table_refusal refused_if
returns-then-fold-2 c =
    let at = goal.at.returns-then-fold-2 c in
    rw (← large at.After-fold, c.if-fold.false, ← above at.After-fold-2, c.if-fold-2.true)

pub returns-then-fold-3 : goal.returns-then-fold-3
unfolding table_refusal refused_if
returns-then-fold-3 c =
    let at = goal.at.returns-then-fold-3 c in
    rw (← large at.After-fold, c.if-fold.false, ← above at.After-fold-2, c.if-fold-2.false, ← small at.After-fold-3, c.if-fold-3.true)

pub returns : goal.returns
unfolding table_refusal refused_if
returns c =
    let at = goal.at.returns c in
    rw (← large at.After-fold, c.if-fold.false, ← above at.After-fold-2, c.if-fold-2.false, ← small at.After-fold-3, c.if-fold-3.false)

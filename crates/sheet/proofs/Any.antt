-- Tests of a list, joined one after the other, as the code folds them: of the members of a list, and of the cells of a plan. By induction
-- on the list.
use Rattle.std.proofs.Common.{◌≡◌, refl, sym, ◌∙◌, ap, ℕ, zero, suc, Bool, false, ◌||◌, List, [], ◌∷◌, length, get_or, fold}
use Rattle.std.specs.List.{list_any}
use Rattle.cusum.specs.declared.PlanNumbers.{PlanNumbers}
use Rattle.units.specs.Conditions.{any}
use Rattle.units.specs.Words.{up_from, no_numbers}
use Rattle.units.proofs.Lists.{folded}
use Rattle.units.specs.declared.Plan.{Plan}
use Rattle.layout.specs.Layout.{table_size}
use Rattle.sheet.specs.Refusals.{any_numbers}

any_behind : (test : ℕ → Bool) (first n : ℕ) → any test (up_from (suc first) n) ≡ any (λ i. test (suc i)) (up_from first n)
unfolding any
any_behind test first zero = refl
any_behind test first (suc n) = ap (λ (rest : Bool). test (suc first) || rest) (any_behind test (suc first) n)

any_member : (test : PlanNumbers → Bool) (all : List PlanNumbers)
    → any (λ i. test (get_or all i no_numbers)) (up_from 0 (length all)) ≡ list_any test all
unfolding any
any_member test [] = refl
any_member test (first ∷ others) =
    ap (λ (rest : Bool). test first || rest)
    (any_behind (λ i. test (get_or (first ∷ others) i no_numbers)) 0 (length others) ∙ any_member test others)

pub any_cell : (test : PlanNumbers → Bool) (plan : Plan) → length plan.numbers ≡ table_size
    → fold (λ before member. before || test member) false plan.numbers ≡ any_numbers test plan
unfolding any_numbers
any_cell test plan whole =
    folded test false plan.numbers ∙ sym (any_member test plan.numbers) ∙ ap (λ (n : ℕ). any (λ i. test (get_or plan.numbers i no_numbers)) (up_from 0 n)) whole

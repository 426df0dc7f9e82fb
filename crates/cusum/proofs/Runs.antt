-- A run of steps, none of which fails, from an anchor: the CuSum at its end is the 'largest of' form. By induction on the run, one step
-- unrolled at the front.
use Prim.Native.Nat.{ℕ}
use mathlib.Core.Path.{◌≡◌, refl, ◌∙◌, ap}
use mathlib.Core.Bool.{false}
use mathlib.Core.List.{List, [], ◌∷◌, ◌++◌, map}
use native.Mathlib.Omega.{arith}
use lib.IntN.{ℤ, pos, ◌+ℤ◌}
use Rattle.cusum.specs.Integers.{maxℤ, largest_of_zero_and, sumℤ, runs_to_end}
use Rattle.cusum.specs.Step.{fails, new_cusum}
use Rattle.cusum.specs.LargestForm.{tenths_less_t, largest_form}
use Rattle.cusum.specs.declared.PlanNumbers.{PlanNumbers}
use Rattle.cusum.proofs.Integers.{unroll}
use Rattle.cusum.proofs.Laws.{met_at}

-- the CuSum after a run of counts, in tenths
unfoldable pub after : PlanNumbers → ℕ → List ℕ → ℕ
after l a [] = a
after l a (c ∷ cs) = after l (new_cusum l a c) cs

-- no step of the run fails
unfoldable pub Meets : PlanNumbers → ℕ → List ℕ → Type 0
Meets l a [] = Unit {0}
Meets l a (c ∷ cs) = (fails l a c ≡ false) × Meets l (new_cusum l a c) cs

pub run_largest : (l : PlanNumbers) (a : ℕ) (cs : List ℕ) → Meets l a cs → pos (after l a cs) ≡ largest_form l a cs
unfolding after Meets largest_form sumℤ largest_of_zero_and runs_to_end
run_largest l a [] m = ap pos (omega arith)
run_largest l a (c ∷ cs) m =
    run_largest l (new_cusum l a c) cs m.1
    ∙ ap (λ (x : ℤ). maxℤ (x +ℤ sumℤ (map (tenths_less_t l) cs)) (largest_of_zero_and (map sumℤ (runs_to_end (map (tenths_less_t l) cs))))) (met_at l a c m.0)
    ∙ unroll a (tenths_less_t l c) (map (tenths_less_t l) cs)

-- one count more at the end
pub after_snoc : (l : PlanNumbers) (a : ℕ) (cs : List ℕ) (c : ℕ) → after l a (cs ++ c ∷ []) ≡ new_cusum l (after l a cs) c
unfolding after
after_snoc l a [] c = refl
after_snoc l a (x ∷ cs) c = after_snoc l (new_cusum l a x) cs c

pub meets_snoc : (l : PlanNumbers) (a : ℕ) (cs : List ℕ) (c : ℕ) → Meets l a cs → fails l (after l a cs) c ≡ false → Meets l a (cs ++ c ∷ [])
unfolding after Meets
meets_snoc l a [] c m e = (e, tt)
meets_snoc l a (x ∷ cs) c m e = (m.0, meets_snoc l (new_cusum l a x) cs c m.1 e)

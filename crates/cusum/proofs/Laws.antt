-- Laws of a CuSum's step: rule 2 in natural numbers, that it is monotone, that a CuSum is at most its L, where a class that fails or
-- meets stands, and how far over it is. Through the raw value as a difference of naturals, and omega.
use Rattle.std.proofs.Common.{ℕ, ◌+◌, ◌-◌, ◌≤◌, ◌<◌, min, ◌≡◌, sym, ◌∙◌, ap, true, false, ℤ, pos, negsuc, ◌+ℤ◌, ◌-ℤ◌, arith}
use Rattle.std.proofs.lemmas.Bool.Decides.{nat_tests}
use Rattle.std.proofs.lemmas.Int.{ints}
use lib.Dec.{ltb}
use borrow.Author.Differences.{up}
use borrow.Author.Tests.{ltb-true, ltb-false, lt-ltb, le-ltb}
use Rattle.cusum.specs.Integers.{maxℤ}
use Rattle.cusum.specs.Step.{raw_value, above_limit, cusum_of, overshoot_of, fails, new_cusum, overshoot, step_of}
use Rattle.cusum.specs.LargestForm.{tenths_less_t}
use Rattle.cusum.specs.declared.PlanNumbers.{PlanNumbers}
use Rattle.cusum.specs.declared.Cusum.{Cusum}
use Rattle.cusum.proofs.Integers.{one_side, max_is}

-- ---- the same in natural numbers

above_limit_is : (l : PlanNumbers) (r : ℤ) → above_limit l r ≡ ltb l.limit (up r)
unfolding above_limit
above_limit_is l (pos r) = grind (arith, nat_tests)
above_limit_is l (negsuc r) = grind (arith, nat_tests)

cusum_of_is : (l : PlanNumbers) (r : ℤ) → cusum_of l r ≡ min l.limit (up r)
unfolding cusum_of
cusum_of_is l (pos r) = grind (arith, nat_tests)
cusum_of_is l (negsuc r) = omega arith

overshoot_of_is : (l : PlanNumbers) (r : ℤ) → overshoot_of l r ≡ up r - l.limit
unfolding overshoot_of
overshoot_of_is l (pos r) = grind (arith, nat_tests)
overshoot_of_is l (negsuc r) = omega arith

raw_value_up : (l : PlanNumbers) (old c : ℕ) → up (raw_value l old c) ≡ old + c - l.tolerance
unfolding raw_value
raw_value_up l old c = omega (arith, ints, one_side (pos (old + c) -ℤ pos l.tolerance))

pub new_cusum_is : (l : PlanNumbers) (old c : ℕ) → new_cusum l old c ≡ min l.limit (old + c - l.tolerance)
unfolding new_cusum
new_cusum_is l old c = cusum_of_is l (raw_value l old c) ∙ ap (min l.limit) (raw_value_up l old c)

pub fails_is : (l : PlanNumbers) (old c : ℕ) → fails l old c ≡ ltb l.limit (old + c - l.tolerance)
unfolding fails
fails_is l old c = above_limit_is l (raw_value l old c) ∙ ap (ltb l.limit) (raw_value_up l old c)

pub overshoot_is : (l : PlanNumbers) (old c : ℕ) → overshoot l old c ≡ old + c - l.tolerance - l.limit
unfolding overshoot
overshoot_is l old c = overshoot_of_is l (raw_value l old c) ∙ ap (λ (above : ℕ). above - l.limit) (raw_value_up l old c)

-- ---- laws of a step

pub fails_true : (l : PlanNumbers) (old c : ℕ) → fails l old c ≡ true → l.limit < old + c - l.tolerance
fails_true l old c e = ltb-true _ _ (sym (fails_is l old c) ∙ e)

pub fails_false : (l : PlanNumbers) (old c : ℕ) → fails l old c ≡ false → old + c - l.tolerance ≤ l.limit
fails_false l old c e = ltb-false _ _ (sym (fails_is l old c) ∙ e)

pub new_cusum_mono : (l : PlanNumbers) (o o' c c' : ℕ) → o ≤ o' → c ≤ c' → new_cusum l o c ≤ new_cusum l o' c'
new_cusum_mono l o o' c c' h k = omega (arith, new_cusum_is l o c, new_cusum_is l o' c')

pub fails_mono : (l : PlanNumbers) (o o' c c' : ℕ) → o ≤ o' → c ≤ c' → fails l o c ≡ true → fails l o' c' ≡ true
fails_mono l o o' c c' h k e = fails_is l o' c' ∙ lt-ltb l.limit (o' + c' - l.tolerance) (omega (arith, fails_true l o c e))

pub new_cusum_le_limit : (l : PlanNumbers) (o c : ℕ) → new_cusum l o c ≤ l.limit
new_cusum_le_limit l o c = omega (arith, new_cusum_is l o c)

-- a failing class stands at L
pub failed_at : (l : PlanNumbers) (o c : ℕ) → fails l o c ≡ true → new_cusum l o c ≡ l.limit
failed_at l o c e = omega (arith, new_cusum_is l o c, fails_true l o c e)

-- a class that meets: the larger of zero and the raw value
pub met_at : (l : PlanNumbers) (o c : ℕ) → fails l o c ≡ false → pos (new_cusum l o c) ≡ maxℤ (pos 0) (pos o +ℤ tenths_less_t l c)
unfolding tenths_less_t
met_at l o c e = omega (arith, ints, new_cusum_is l o c, fails_false l o c e, max_is)

-- ---- the overshoot

-- a class fails exactly if its overshoot is above zero
pub fails_by_overshoot : (l : PlanNumbers) (o c : ℕ) → fails l o c ≡ ltb 0 (overshoot l o c)
fails_by_overshoot l o c = rw (fails_is l o c, overshoot_is l o c) (grind (arith, nat_tests))

-- it is the raw value less L where the class fails
pub overshoot_failed : (l : PlanNumbers) (o c : ℕ) → fails l o c ≡ true → pos (overshoot l o c) ≡ raw_value l o c -ℤ pos l.limit
unfolding raw_value
overshoot_failed l o c e = omega (arith, ints, overshoot_is l o c, fails_true l o c e)

-- and zero where it met
pub overshoot_met : (l : PlanNumbers) (o c : ℕ) → fails l o c ≡ false → overshoot l o c ≡ 0
overshoot_met l o c e = omega (arith, overshoot_is l o c, fails_false l o c e)

pub overshoot_mono : (l : PlanNumbers) (o o' c c' : ℕ) → o ≤ o' → c ≤ c' → overshoot l o c ≤ overshoot l o' c'
overshoot_mono l o o' c c' h k = omega (arith, overshoot_is l o c, overshoot_is l o' c')

-- it is no more than the unit's count, in tenths, where the CuSum before it is at most L
pub overshoot_le_tenths : (l : PlanNumbers) (o c : ℕ) → o ≤ l.limit → overshoot l o c ≤ c
overshoot_le_tenths l o c h = omega (arith, overshoot_is l o c)

-- ---- the step as code takes it: what is above T, zero if nothing is, against L

pub step_is : (l : PlanNumbers) (old : Cusum) (c above new over : ℕ)
    → above ≡ old.tenths + c - l.tolerance → new ≡ min l.limit above → over ≡ above - l.limit
    → record { cusum = record { tenths = new }; fails = ltb l.limit above; overshoot = over } ≡ step_of l old c
step_is l old c above new over a n o =
    rw (new_cusum_is l old.tenths c, fails_is l old.tenths c, overshoot_is l old.tenths c, ← a, n, o)

-- where nothing is above L
pub step_within : (l : PlanNumbers) (old : Cusum) (c n : ℕ) → old.tenths + c ≤ l.tolerance + l.limit → n ≡ old.tenths + c - l.tolerance
    → record { cusum = record { tenths = n }; fails = false; overshoot = 0 } ≡ step_of l old c
step_within l old c n h k = rw (sym (le-ltb l.limit n (omega arith))) (step_is l old c n n 0 k (omega arith) (omega arith))

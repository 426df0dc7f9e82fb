-- The worked cases P1 to P10. P3 to P5 are laws of rule 2, under any S, T and L; the others compute, P2 once T+L at B and at C are put
-- in, P9 and P10 once the buffer is known to hold the records.
use Prim.Native.Nat.{ℕ, ◌+◌, ◌-◌}
use mathlib.Core.Path.{◌≡◌, refl, sym, ap}
use native.Mathlib.Omega.{arith}
use lib.IntN.{pos, negsuc}
use borrow.Author.Tests.{lt-ltb}
use Rattle.cusum.specs.Step.{raw_value, above_limit, cusum_of, overshoot_of, fails, new_cusum, overshoot, step_of}
use Rattle.cusum.specs.declared.PlanNumbers.{PlanNumbers}
use Rattle.cusum.proofs.Laws.{step_within}
use Rattle.outcome.specs.Outcome.{Outcome}
use Rattle.tally.proofs.Computing.{computing}
use Rattle.computed.proofs.Computed.{accepts}
use Rattle.computed.specs.WorkedCases.{met, failed, in_tenths, steps_from, minor_sheet, minor_graded, minor_qualifies, peach_plan, peach_units, peach, peach_results, one_unit, WorkedCases}

-- P3 to P5
module _ (numbers : PlanNumbers) where
  at_limit : (tenths : ℕ) → tenths ≡ numbers.tolerance → step_of numbers (record { tenths = numbers.limit }) tenths ≡ met numbers.limit
  at_limit tenths h = sym (step_within numbers (record { tenths = numbers.limit }) tenths numbers.limit (omega arith) (omega arith))

  one_above : (old tenths : ℕ) → raw_value numbers old tenths ≡ pos (numbers.limit + 1) → step_of numbers (record { tenths = old }) tenths ≡ failed numbers.limit 1
  unfolding above_limit cusum_of overshoot_of fails new_cusum overshoot
  one_above old tenths h =
      let by_one : numbers.limit + 1 - numbers.limit ≡ 1 = omega arith in
      rw (h, lt-ltb numbers.limit (numbers.limit + 1) (omega arith), by_one)

  one_below : (old tenths : ℕ) → raw_value numbers old tenths ≡ negsuc 0 → step_of numbers (record { tenths = old }) tenths ≡ met 0
  unfolding above_limit cusum_of overshoot_of fails new_cusum overshoot
  one_below old tenths h = rw h

pub worked_cases : WorkedCases
unfolding computing steps_from minor_sheet minor_graded minor_qualifies peach_plan peach_units peach peach_results one_unit
worked_cases =
    record {
      p1 = refl;
      p2 = λ b c at_b at_c. rw (at_b, at_c);
      p3 = λ numbers count. at_limit numbers (in_tenths count);
      p4 = (λ numbers old count. one_above numbers old (in_tenths count), refl);
      p5 = (λ numbers old count. one_below numbers old (in_tenths count), refl);
      p6 = refl;
      p7 = refl;
      p8 = λ c. (refl, refl, refl, refl);
      p9 = λ buffer. (refl, refl, refl, refl, λ holds. ap (λ (o : Outcome). o.answer) (accepts (one_unit 2000 2000 2000 2000) buffer 1 1 refl holds));
      p10 = λ buffer holds. accepts peach buffer 7 7 refl holds;
    }

-- Rules 1 and 2 of grading a unit, for one class. S, T and L are the fields start, tolerance and limit; they and the count are in tenths.
use Rattle.std.specs.Prelude.{ℕ, ◌+◌, ◌-◌, Bool, false, cond, ltb, ℤ, pos, negsuc, ◌-ℤ◌}
use Rattle.cusum.specs.declared.PlanNumbers.{PlanNumbers}
use Rattle.cusum.specs.declared.Cusum.{Cusum}
use Rattle.cusum.specs.declared.Stepped.{Stepped}

-- the most tenths that the two bytes of a CuSum hold in a result record
abbrev pub largest_tenths : ℕ
largest_tenths = 65535

-- rule 1: every CuSum begins at the S of its own class and plan
abbrev pub start_of : PlanNumbers → Cusum
start_of numbers = record { tenths = numbers.start }

-- raw value = old CuSum + ten times the count - T; the ten is in already
unfoldable pub raw_value : PlanNumbers → ℕ → ℕ → ℤ
raw_value numbers old tenths = pos (old + tenths) -ℤ pos numbers.tolerance

-- if it is above L, the class fails
unfoldable pub above_limit : PlanNumbers → ℤ → Bool
above_limit numbers (pos raw) = ltb numbers.limit raw
above_limit numbers (negsuc raw) = false

-- if it is above L, the CuSum becomes L; if it is below zero, 0; otherwise it is the CuSum
unfoldable pub cusum_of : PlanNumbers → ℤ → ℕ
cusum_of numbers (pos raw) = cond (ltb numbers.limit raw) numbers.limit raw
cusum_of numbers (negsuc raw) = 0

-- the overshoot: raw value less L, or zero where the class met
unfoldable pub overshoot_of : PlanNumbers → ℤ → ℕ
overshoot_of numbers (pos raw) = cond (ltb numbers.limit raw) (raw - numbers.limit) 0
overshoot_of numbers (negsuc raw) = 0

-- rule 2: whether the class fails, the new CuSum, and the overshoot
unfoldable pub fails : PlanNumbers → ℕ → ℕ → Bool
fails numbers old tenths = above_limit numbers (raw_value numbers old tenths)

unfoldable pub new_cusum : PlanNumbers → ℕ → ℕ → ℕ
new_cusum numbers old tenths = cusum_of numbers (raw_value numbers old tenths)

unfoldable pub overshoot : PlanNumbers → ℕ → ℕ → ℕ
overshoot numbers old tenths = overshoot_of numbers (raw_value numbers old tenths)

abbrev pub step_of : PlanNumbers → Cusum → ℕ → Stepped
step_of numbers old tenths =
    record {
      cusum = record { tenths = new_cusum numbers old.tenths tenths };
      fails = fails numbers old.tenths tenths;
      overshoot = overshoot numbers old.tenths tenths;
    }

-- Grading a mold sheet: the CuSum before each unit, and whether the unit fails. The step is rule 2 of grading a sample unit; there is
-- no lower grade and no step 3.
use Rattle.std.specs.Prelude.{ℕ, zero, suc, Bool, List}
use Rattle.cusum.specs.Counts.{field_tenths}
use Rattle.cusum.specs.Step.{start_of, fails, new_cusum}
use Rattle.cusum.specs.declared.PlanNumbers.{PlanNumbers}
use Rattle.mold.specs.Levels.{level_numbers}
use Rattle.mold.specs.Layout.{level_row, unit_in}

-- S, T and L of the sheet's level
abbrev pub numbers_of : List ℕ → PlanNumbers
numbers_of bytes = level_numbers (level_row bytes)

-- the positive fields of unit i, in tenths
abbrev pub tenths_at : List ℕ → ℕ → ℕ
tenths_at bytes i = field_tenths (unit_in bytes i).fields

-- the CuSum before unit i: at the opening S, behind a unit the one that it makes
unfoldable pub cusum_before : List ℕ → ℕ → ℕ
cusum_before bytes zero = (start_of (numbers_of bytes)).tenths
cusum_before bytes (suc i) = new_cusum (numbers_of bytes) (cusum_before bytes i) (tenths_at bytes i)

-- unit i fails; else it meets
unfoldable pub fails_at : List ℕ → ℕ → Bool
fails_at bytes i = fails (numbers_of bytes) (cusum_before bytes i) (tenths_at bytes i)

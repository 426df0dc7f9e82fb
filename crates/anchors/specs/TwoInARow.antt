-- Two units in a row that fail, told by their places: the designated plan, where step 3 begins, and in step 3 the lower plan, where
-- another lower plan starts.
use Rattle.std.specs.Prelude.{ℕ, zero, suc, Bool, false, not, ◌&&◌, ◌||◌}
use Rattle.units.specs.Words.{Table, tenths_of}
use Rattle.units.specs.Unit.{unit_fails}
use Rattle.units.specs.Records.{is_unit_that}
use Rattle.units.specs.declared.Entry.{Entry}
use Rattle.rules.specs.StepThree.{in_step_three, in_force}
use Rattle.rules.specs.Sheet.{Sheet, before}
use Rattle.rules.specs.declared.State.{State}

-- a record is a unit that fails the plan in force
unfoldable pub fails_in_force : Table → State → Entry → Bool
fails_in_force table state = is_unit_that (λ unit. unit_fails table (in_force state) state.cusums (tenths_of unit))

-- that is the designated plan outside step 3, in it the lower plan
unfoldable pub fails_designated : Table → State → Entry → Bool
fails_designated table state entry = not (in_step_three state.phase) && fails_in_force table state entry

unfoldable pub fails_lower : Table → State → Entry → Bool
fails_lower table state entry = in_step_three state.phase && fails_in_force table state entry

module _ (sheet : Sheet) where
  -- ---- the designated plan

  -- record i is a unit that fails it
  unfoldable pub unit_fails_at : ℕ → Bool
  unit_fails_at i = fails_designated sheet.table (before sheet i) (sheet.entry i)

  -- the record right before record i is such a unit: no break and no redesignation lies between
  unfoldable pub unit_fails_before : ℕ → Bool
  unit_fails_before zero = false
  unit_fails_before (suc i) = unit_fails_at i

  -- record i is the second of two units in a row that fail
  unfoldable pub second_in_a_row : ℕ → Bool
  second_in_a_row i = unit_fails_before i && unit_fails_at i

  -- ---- the lower plan

  -- record i is a unit that fails it
  unfoldable pub unit_fails_lower_at : ℕ → Bool
  unit_fails_lower_at i = fails_lower sheet.table (before sheet i) (sheet.entry i)

  -- record i is the second of two units in a row that fail, both after the latest start of a lower plan: the first is not itself such
  -- a second. Nor is it the failure that began step 3, which is one of the designated plan
  unfoldable pub second_at_lower : ℕ → Bool
  second_at_lower zero = false
  second_at_lower (suc i) = (unit_fails_lower_at i && not (second_at_lower i)) && unit_fails_lower_at (suc i)

  -- ---- the start of a lower plan

  -- record i is a second of either kind, so that behind it a lower plan starts, or none if the grade is Substandard. (Over a table that
  -- no accepted sheet has, step 3 may end there.)
  unfoldable pub lower_plan_starts_at : ℕ → Bool
  lower_plan_starts_at i = second_in_a_row i || second_at_lower i

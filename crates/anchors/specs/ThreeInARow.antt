-- Three units in a row that qualify in step 3, told by their places: step 3 ends at the third.
use Rattle.std.specs.Prelude.{ℕ, zero, suc, Bool, false, ◌&&◌}
use Rattle.units.specs.Words.{Table}
use Rattle.units.specs.Records.{is_unit_that}
use Rattle.units.specs.declared.Entry.{Entry}
use Rattle.rules.specs.StepThree.{qualifies_in}
use Rattle.rules.specs.Sheet.{Sheet, before}
use Rattle.rules.specs.declared.State.{State}

-- a record is a unit in step 3 that qualifies
unfoldable pub record_qualifies : Table → State → Entry → Bool
record_qualifies table state = is_unit_that (qualifies_in table state)

module _ (sheet : Sheet) where
  -- record i is such a unit
  unfoldable pub unit_qualifies_at : ℕ → Bool
  unit_qualifies_at i = record_qualifies sheet.table (before sheet i) (sheet.entry i)

  -- record i is the third of three such units side by side: no other record lies between
  unfoldable pub third_in_a_row : ℕ → Bool
  third_in_a_row zero = false
  third_in_a_row (suc zero) = false
  third_in_a_row (suc (suc i)) = unit_qualifies_at i && (unit_qualifies_at (suc i) && unit_qualifies_at (suc (suc i)))

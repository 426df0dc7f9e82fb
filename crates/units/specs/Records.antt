-- The records of a sheet behind its plan, by their number: the units among them, the grade designated behind a record, and the code
-- grade, where the portion grade of each unit is given.
use Rattle.std.specs.Prelude.{ℕ, zero, suc, ◌+◌, Bool, false, cond, eqb}
use Rattle.units.specs.Words.{worse}
use Rattle.units.specs.declared.SampleUnit.{SampleUnit}
use Rattle.units.specs.declared.Entry.{Entry}
use Rattle.units.specs.declared.Entry.TheVariants.{UnitRecord, Redesignation, Break}

-- a record is a sample unit of which this holds
unfoldable pub is_unit_that : (SampleUnit → Bool) → Entry → Bool
is_unit_that holds (UnitRecord unit) = holds unit
is_unit_that holds (Redesignation new) = false
is_unit_that holds Break = false

-- how many sample units a record is: one or none
unfoldable pub units_of : Entry → ℕ
units_of (UnitRecord unit) = 1
units_of (Redesignation new) = 0
units_of Break = 0

-- how many sample units there are among the first n records
unfoldable pub units_among : (ℕ → Entry) → ℕ → ℕ
units_among entry zero = 0
units_among entry (suc n) = units_among entry n + units_of (entry n)

-- the grade designated behind a record, by the one designated just before it
unfoldable pub designated_by : ℕ → Entry → ℕ
designated_by designated (UnitRecord unit) = designated
designated_by designated (Redesignation new) = new
designated_by designated Break = designated

module _ (portion_grade : ℕ → SampleUnit → ℕ) where
  -- the portion grade of record i if it is a unit with this code, else the best
  unfoldable pub portion_grade_with : ℕ → ℕ → Entry → ℕ
  portion_grade_with code i (UnitRecord unit) = cond (eqb unit.code code) (portion_grade i unit) 0
  portion_grade_with code i (Redesignation new) = 0
  portion_grade_with code i Break = 0

  -- the worst portion grade among the units with this code of the first n records, adjoining or not
  unfoldable pub worst_before : (ℕ → Entry) → ℕ → ℕ → ℕ
  worst_before entry code zero = 0
  worst_before entry code (suc n) = worse (worst_before entry code n) (portion_grade_with code n (entry n))

-- The words of demand 3's first half: restarts, failures and anchors, told from the sheet by the rules and by their place.
use Rattle.std.specs.Prelude.{ℕ, zero, suc, ◌+◌, ◌<◌, ◌≤◌, ◌≡◌, Bool, true, false, not, ◌&&◌, ◌||◌, List, [], ◌∷◌, ◌++◌, ltb}
use Rattle.units.specs.Words.{Table, tenths_of, count_tenths}
use Rattle.units.specs.Unit.{class_fails}
use Rattle.units.specs.Records.{is_unit_that}
use Rattle.units.specs.declared.Entry.{Entry}
use Rattle.units.specs.declared.Entry.TheVariants.{UnitRecord, Redesignation, Break}
use Rattle.rules.specs.StepThree.{in_step_three, in_force}
use Rattle.rules.specs.Sheet.{Sheet, before, in_force_at}
use Rattle.anchors.specs.TwoInARow.{lower_plan_starts_at}
use Rattle.anchors.specs.ThreeInARow.{third_in_a_row}
use Rattle.rules.specs.declared.State.{State}

-- a class fails at a record by rule 2
unfoldable pub fails_at : Table → ℕ → State → Entry → Bool
fails_at table class state = is_unit_that (λ unit. class_fails table (in_force state) state.cusums (tenths_of unit) class)

-- the count of a class at a record, in tenths, if that is a unit
unfoldable pub tenths_at : ℕ → Entry → List ℕ
tenths_at class (UnitRecord unit) = count_tenths (tenths_of unit) class ∷ []
tenths_at class (Redesignation new) = []
tenths_at class Break = []

module _ (sheet : Sheet) where
  -- the restarts are a break, the start of step 3, that of another lower plan, the end of step 3, and every redesignation but one that
  -- keeps the CuSums, by their places: a lower plan starts behind the second of two units in a row that fail the plan in force, step 3
  -- ends at the third of three in a row that qualify, and a redesignation keeps the CuSums in step 3 if its new grade is better than
  -- the lower one
  unfoldable pub restart_by : ℕ → Entry → Bool
  restart_by j (UnitRecord unit) = lower_plan_starts_at sheet j || third_in_a_row sheet j
  restart_by j (Redesignation new) = not (in_step_three (before sheet j).phase && ltb new (in_force_at sheet j))
  restart_by j Break = true

  -- record j brings about a restart, which comes after it
  unfoldable pub restart_at : ℕ → Bool
  restart_at j = restart_by j (sheet.entry j)

  -- record j is a unit at which the class fails
  unfoldable pub class_fails_at : ℕ → ℕ → Bool
  class_fails_at class j = fails_at sheet.table class (before sheet j) (sheet.entry j)

  -- the counts of the class, in tenths, at the units among the n records from record `from` on
  unfoldable pub tenths_from : ℕ → ℕ → ℕ → List ℕ
  tenths_from class from zero = []
  tenths_from class from (suc n) = tenths_from class from n ++ tenths_at class (sheet.entry (from + n))

-- an anchor for the unit that is record i, right before record `from`, by the records that bring about a restart and those at which a
-- class fails: S at the opening of the sheet or at a restart before the unit, L (true) at a failing unit, this one included. A restart
-- that a failing unit brings about comes after it, so that such a unit is an anchor for itself alone
pub data AnchorBy (restarts fails : ℕ → Bool) (i : ℕ) : ℕ → Bool → Type 0 where
  opening : AnchorBy restarts fails i 0 false
  restart : (j : ℕ) → j < i → restarts j ≡ true → AnchorBy restarts fails i (suc j) false
  failure : (j : ℕ) → j ≤ i → fails j ≡ true → (j < i → restarts j ≡ false) → AnchorBy restarts fails i (suc j) true

-- it is the latest: from record `from` on there is no failure of the class, record i's included, and no restart before record i
pub record LatestBy (restarts fails : ℕ → Bool) (i from : ℕ) : Type 0 where
  pub no_failure : (j : ℕ) → from ≤ j → j ≤ i → fails j ≡ false
  pub no_restart : (j : ℕ) → from ≤ j → j < i → restarts j ≡ false

-- of a class of the sheet, by its restarts and the failures of the class
abbrev pub Anchor : Sheet → ℕ → ℕ → ℕ → Bool → Type 0
Anchor sheet class = AnchorBy (restart_at sheet) (class_fails_at sheet class)

abbrev pub Latest : Sheet → ℕ → ℕ → ℕ → Type 0
Latest sheet class = LatestBy (restart_at sheet) (class_fails_at sheet class)

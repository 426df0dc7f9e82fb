-- The table of acceptance numbers: its rows as the paper has them, and one fact over the whole of it.
use Rattle.std.specs.Prelude.{ℕ, ◌≤◌, ◌≡◌, List, [], ◌∷◌, ◌⊎◌}
use Rattle.lots.specs.Acceptance.{acceptance_number}

-- a number is one of those in a list
abbrev pub OneOf : List ℕ → ℕ → Type 0
OneOf [] number = ⊥
OneOf (first ∷ others) number = (number ≡ first) ⊎ OneOf others number

-- "6, 13, 21, 29 units"
abbrev pub ListedSampleUnits : ℕ → Type 0
ListedSampleUnits = OneOf (6 ∷ 13 ∷ 21 ∷ 29 ∷ [])

-- 1.0, 1.5, 2.5, 4.0, 5.0 and 12.5, in tenths
abbrev pub ListedAql : ℕ → Type 0
ListedAql = OneOf (10 ∷ 15 ∷ 25 ∷ 40 ∷ 50 ∷ 125 ∷ [])

-- the acceptance numbers of an AQL at 6, 13, 21 and 29 units
pub record AcceptanceRow (aql at6 at13 at21 at29 : ℕ) : Type 0 where
  pub of_6 : acceptance_number 6 aql ≡ at6
  pub of_13 : acceptance_number 13 aql ≡ at13
  pub of_21 : acceptance_number 21 aql ≡ at21
  pub of_29 : acceptance_number 29 aql ≡ at29

-- "at the same sample units a larger AQL never has a smaller acceptance number"
abbrev pub LargerAql : Type 0
LargerAql =
    (units aql larger : ℕ) → ListedSampleUnits units → ListedAql aql → ListedAql larger → aql ≤ larger
    → acceptance_number units aql ≤ acceptance_number units larger

pub record LotTable : Type 0 where
  -- "Acceptance numbers at 6, 13, 21, 29 units are, for AQL 1.0: 1 2 3 4; 1.5: 1 3 4 5; 2.5: 3 4 6 8; 4.0: 4 6 9 11; 5.0: 4 7 11 14;
  -- 12.5: 8 15 22 29."
  pub aql_1_0 : AcceptanceRow 10 1 2 3 4
  pub aql_1_5 : AcceptanceRow 15 1 3 4 5
  pub aql_2_5 : AcceptanceRow 25 3 4 6 8
  pub aql_4_0 : AcceptanceRow 40 4 6 9 11
  pub aql_5_0 : AcceptanceRow 50 4 7 11 14
  pub aql_12_5 : AcceptanceRow 125 8 15 22 29
  -- one fact over the whole table
  pub larger_aql : LargerAql

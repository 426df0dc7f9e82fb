-- The acceptance numbers of the lot single sampling plan, standard sample unit size 6, as one table.
use Rattle.std.specs.Prelude.{ℕ, List, [], ◌∷◌, get_or}
use Rattle.units.specs.Conditions.{place_of}

-- "at 6, 13, 21, 29 units"
abbrev pub listed_sample_units : List ℕ
listed_sample_units = 6 ∷ 13 ∷ 21 ∷ 29 ∷ []

-- AQL 1.0, 1.5, 2.5, 4.0, 5.0 and 12.5, in tenths
abbrev pub listed_aqls : List ℕ
listed_aqls = 10 ∷ 15 ∷ 25 ∷ 40 ∷ 50 ∷ 125 ∷ []

-- a row for each AQL, in it an acceptance number at each number of sample units
abbrev pub acceptance_numbers : List (List ℕ)
acceptance_numbers =
    (1 ∷ 2 ∷ 3 ∷ 4 ∷ [])
    ∷ (1 ∷ 3 ∷ 4 ∷ 5 ∷ [])
    ∷ (3 ∷ 4 ∷ 6 ∷ 8 ∷ [])
    ∷ (4 ∷ 6 ∷ 9 ∷ 11 ∷ [])
    ∷ (4 ∷ 7 ∷ 11 ∷ 14 ∷ [])
    ∷ (8 ∷ 15 ∷ 22 ∷ 29 ∷ [])
    ∷ []

-- the acceptance number at so many sample units for an AQL (0 where one of them is not listed, which is refused)
unfoldable pub acceptance_number : ℕ → ℕ → ℕ
acceptance_number sample_units aql =
    get_or (get_or acceptance_numbers (place_of listed_aqls aql) []) (place_of listed_sample_units sample_units) 0

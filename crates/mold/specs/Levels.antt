-- The defect action levels of source document 000: S, T and L of each, in whole fields.
use Rattle.std.specs.Prelude.{ℕ, List, [], ◌∷◌, get_or}
use Rattle.cusum.specs.Counts.{field_tenths}
use Rattle.cusum.specs.declared.DefectiveFields.{DefectiveFields}
use Rattle.cusum.specs.declared.PlanNumbers.{PlanNumbers}

-- rows 0 to 5 are defect action levels 5, 10, 12, 15, 20, 25
abbrev pub last_row : ℕ
last_row = 5

-- S, T and L of each row
abbrev pub starts : List ℕ
starts = 0 ∷ 1 ∷ 0 ∷ 1 ∷ 0 ∷ 1 ∷ []

abbrev pub tolerances : List ℕ
tolerances = 1 ∷ 2 ∷ 3 ∷ 3 ∷ 5 ∷ 6 ∷ []

abbrev pub limits : List ℕ
limits = 1 ∷ 3 ∷ 2 ∷ 3 ∷ 2 ∷ 3 ∷ []

-- the fields of a row
abbrev pub fields_in : List ℕ → ℕ → DefectiveFields
fields_in fields row = record { 0 = get_or fields row 0 }

-- S, T and L of a row in tenths, as rule 2 takes them
unfoldable pub level_numbers : ℕ → PlanNumbers
level_numbers row =
    record {
      start = field_tenths (fields_in starts row);
      tolerance = field_tenths (fields_in tolerances row);
      limit = field_tenths (fields_in limits row);
    }

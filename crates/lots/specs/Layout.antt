-- The lot in bytes: mark 4C 54, sample units (a byte), AQL in tenths for grades A, B, C by class (2 each), the four counts (2 each),
-- prerequisite grade (a byte).
use Rattle.std.specs.Prelude.{ℕ, ◌+◌, ◌*◌, List, [], ◌∷◌, length, get_or}
use Rattle.cusum.specs.declared.Defects.{Defects}
use Rattle.encoding.specs.Bytes.{byte, number}
use Rattle.units.specs.Words.{planned_grades, up_from}
use Rattle.layout.specs.Layout.{mark_size, number_size, defects_at}

-- classes are critical, severe, major and total: four, whatever classes a sheet has
abbrev pub classes : List ℕ
classes = 0 ∷ 1 ∷ 2 ∷ 3 ∷ []

-- counts are of critical, severe, major and minor defects
abbrev pub kinds : List ℕ
kinds = 0 ∷ 1 ∷ 2 ∷ 3 ∷ []

-- one AQL for each class of each grade, grade by grade and in each class by class
abbrev pub cells : List ℕ
cells = up_from 0 (length planned_grades * length classes)

-- ---- offsets of the fields, each behind the one before it, and size of the lot

abbrev pub sample_units_offset : ℕ
sample_units_offset = mark_size

abbrev pub aqls_offset : ℕ
aqls_offset = sample_units_offset + 1

abbrev pub counts_offset : ℕ
counts_offset = aqls_offset + number_size * length cells

abbrev pub prerequisite_offset : ℕ
prerequisite_offset = counts_offset + number_size * length kinds

abbrev pub lot_size : ℕ
lot_size = prerequisite_offset + 1

-- ---- its fields

abbrev pub sample_units : List ℕ → ℕ
sample_units lot = byte lot sample_units_offset

-- the AQL of a cell, in tenths
abbrev pub aql_of_cell : List ℕ → ℕ → ℕ
aql_of_cell lot cell = number lot (aqls_offset + number_size * cell)

-- the AQL of a class in a grade
abbrev pub aql_of : List ℕ → ℕ → ℕ → ℕ
aql_of lot grade class = aql_of_cell lot (length classes * grade + class)

-- the count of a kind
abbrev pub count_of_kind : List ℕ → ℕ → Defects
count_of_kind lot kind = defects_at lot (counts_offset + number_size * kind)

abbrev pub prerequisite : List ℕ → ℕ
prerequisite lot = byte lot prerequisite_offset

-- ---- counts by class

-- total is the sum of critical, severe, major and minor (here a count has no largest; the code sums four bytes wide)
abbrev pub total : List ℕ → Defects
total lot = record { 0 = (count_of_kind lot 0).0 + (count_of_kind lot 1).0 + (count_of_kind lot 2).0 + (count_of_kind lot 3).0 }

abbrev pub counts_of : List ℕ → List Defects
counts_of lot = count_of_kind lot 0 ∷ count_of_kind lot 1 ∷ count_of_kind lot 2 ∷ total lot ∷ []

-- the count of a class
abbrev pub count_of_class : List ℕ → ℕ → Defects
count_of_class lot class = get_or (counts_of lot) class (record { 0 = 0 })

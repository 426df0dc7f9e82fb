-- The fields of a lot by their places, summed from the paper's sizes: mark (2), sample units (1), AQLs for A, B and C by four classes (24),
-- four counts (8), prerequisite grade (1). Numbers have the high byte first.
use Rattle.std.specs.Prelude.{ℕ, zero, suc, ◌+◌, ◌*◌, List}
use Rattle.encoding.specs.Bytes.{byte}

abbrev pub mark_at : List ℕ → ℕ
mark_at lot = 256 * byte lot 0 + byte lot 1

abbrev pub sample_units_at : List ℕ → ℕ
sample_units_at lot = byte lot 2

-- the AQL of a grade, 0 for A to 2 for C, and a class, 0 to 3 for critical, severe, major and total; in tenths
abbrev pub aql_at : List ℕ → ℕ → ℕ → ℕ
aql_at lot grade class = 256 * byte lot (3 + 8 * grade + 2 * class) + byte lot (4 + 8 * grade + 2 * class)

-- the count of a kind, 0 to 3 for critical, severe, major and minor
abbrev pub count_at : List ℕ → ℕ → ℕ
count_at lot kind = 256 * byte lot (27 + 2 * kind) + byte lot (28 + 2 * kind)

-- the count of a class: total is the sum of all four
abbrev pub class_count : List ℕ → ℕ → ℕ
class_count lot zero = count_at lot 0
class_count lot (suc zero) = count_at lot 1
class_count lot (suc (suc zero)) = count_at lot 2
class_count lot (suc (suc (suc class))) = count_at lot 0 + count_at lot 1 + count_at lot 2 + count_at lot 3

abbrev pub prerequisite_at : List ℕ → ℕ
prerequisite_at lot = byte lot 35

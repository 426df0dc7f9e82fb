-- Where the table of acceptance numbers ends; the AQLs and counts of a class, and its test, at numbers that were read from the lot. No proof
-- of the code needs these laws: they are for readers.
use Prim.Native.Nat.{ℕ, zero, suc, ◌+◌, ◌*◌, ◌≤◌, ◌<◌}
use mathlib.Core.Path.{◌≡◌, ◌∙◌, ap}
use mathlib.Core.Bool.{true, false, ◌||◌}
use mathlib.Core.List.{List, [], ◌∷◌}
use native.Mathlib.Omega.{arith}
use lib.Dec.{ltb}
use lib.ListN.{length, get_or, get_or-eq_default, get_or-map}
use borrow.Author.Rules.{rules}
use borrow.Author.Tests.{tests}
use Rattle.cusum.specs.declared.Defects.{Defects}
use Rattle.lots.specs.Layout.{classes, sample_units, aql_of_cell, aql_of, count_of_kind, counts_of, count_of_class}
use Rattle.lots.specs.Acceptance.{acceptance_numbers, acceptance_number}
use Rattle.lots.specs.Refusals.{aql_falls_in_class}
use Rattle.lots.specs.Grading.{admits_class}

-- ---- places in the table

-- no row has a fifth number
pub behind_column : (row column : ℕ) → 4 ≤ column → get_or (get_or acceptance_numbers row []) column 0 ≡ 0
behind_column row column behind = get_or-eq_default (get_or acceptance_numbers row []) 0 (go row)
  where
    go : (row : ℕ) → length (get_or acceptance_numbers row []) ≤ column
    go zero = omega arith
    go (suc zero) = omega arith
    go (suc (suc zero)) = omega arith
    go (suc (suc (suc zero))) = omega arith
    go (suc (suc (suc (suc zero)))) = omega arith
    go (suc (suc (suc (suc (suc zero))))) = omega arith
    go (suc (suc (suc (suc (suc (suc row)))))) = omega arith

-- and there is no seventh row
pub behind_row : (row column : ℕ) → 6 ≤ row → get_or (get_or acceptance_numbers row []) column 0 ≡ 0
behind_row row column behind = ap (λ (numbers : List ℕ). get_or numbers column 0) (get_or-eq_default acceptance_numbers [] behind)

-- ---- fields of the lot

module _ (lot : List ℕ) (class : ℕ) where
  -- the AQLs of a class for A, B and C
  pub falls_at : (aql_a aql_b aql_c : ℕ) → aql_a ≡ aql_of_cell lot class → aql_b ≡ aql_of_cell lot (length classes + class) → aql_c ≡ aql_of_cell lot (2 * length classes + class)
      → (ltb aql_b aql_a || ltb aql_c aql_b) ≡ aql_falls_in_class lot class
  unfolding aql_falls_in_class
  falls_at aql_a aql_b aql_c for_a for_b for_c =
      rw (at_cell 0 aql_a class for_a (omega arith), at_cell 1 aql_b _ for_b (omega arith), at_cell 2 aql_c _ for_c (omega arith))
    where
      at_cell : (grade aql cell : ℕ) → aql ≡ aql_of_cell lot cell → cell ≡ length classes * grade + class → aql ≡ aql_of lot grade class
      at_cell grade aql cell read same = read ∙ ap (aql_of_cell lot) same

  -- the counts by class
  pub count_at_holds : (critical severe major minor : Defects)
      → critical ≡ count_of_kind lot 0 → severe ≡ count_of_kind lot 1 → major ≡ count_of_kind lot 2 → minor ≡ count_of_kind lot 3
      → get_or (critical.0 ∷ severe.0 ∷ major.0 ∷ (critical.0 + severe.0 + major.0 + minor.0) ∷ []) class 0 ≡ (count_of_class lot class).0
  count_at_holds critical severe major minor is_critical is_severe is_major is_minor =
      rw (is_critical, is_severe, is_major, is_minor) (get_or-map (λ (defects : Defects). defects.0) (counts_of lot) class (record { 0 = 0 }))

  -- a class that a grade admits, and one that it does not
  module _ (grade aql bound count : ℕ) (for_grade : aql ≡ aql_of_cell lot (length classes * grade + class))
      (in_table : bound ≡ acceptance_number (sample_units lot) aql) (in_class_holds : count ≡ (count_of_class lot class).0) where
    pub admitted : count ≤ bound → admits_class lot grade class ≡ true
    unfolding admits_class
    admitted within = rw (← for_grade, ← in_table, ← in_class_holds) (search (rules, tests))

    pub above_bound : bound < count → admits_class lot grade class ≡ false
    unfolding admits_class
    above_bound above = rw (← for_grade, ← in_table, ← in_class_holds) (search (rules, tests))

-- The table: its rows by computing, and the fact over all of it by one computed test. A test of all numbers in a list holds of each of them.
use Prim.Native.Nat.{ℕ}
use mathlib.Core.Path.{◌≡◌, refl}
use mathlib.Core.Bool.{Bool, true, ◌||◌}
use mathlib.Core.List.{List, [], ◌∷◌}
use mathlib.Core.Logic.{inl, inr}
use lib.Dec.{leb, ltb}
use borrow.Author.Tests.{leb-true, le-ltb}
use Rattle.units.specs.Conditions.{all, place_of}
use Rattle.units.proofs.Tests.{and_both}
use Rattle.lots.specs.Acceptance.{listed_sample_units, listed_aqls, acceptance_number}
use Rattle.lots_demands.specs.LotTable.{OneOf, LargerAql, LotTable}

all_of : (p : ℕ → Bool) (list : List ℕ) → all p list ≡ true → (number : ℕ) → OneOf list number → p number ≡ true
unfolding all
all_of p [] e number one = elim one [ ]
all_of p (first ∷ others) e number (inl same) = rw same (and_both (p first) (all p others) e).0
all_of p (first ∷ others) e number (inr later) = all_of p others (and_both (p first) (all p others) e).1 number later

-- of two AQLs the first is larger, or its acceptance number is not
unfoldable not_smaller : ℕ → ℕ → ℕ → Bool
not_smaller units aql larger = ltb larger aql || leb (acceptance_number units aql) (acceptance_number units larger)

-- the whole table at once
whole_table : all (λ units. all (λ aql. all (not_smaller units aql) listed_aqls) listed_aqls) listed_sample_units ≡ true
unfolding all place_of acceptance_number not_smaller
whole_table = refl

larger : LargerAql
unfolding not_smaller
larger units aql other is_units is_aql is_other above =
    let at_units = all_of _ listed_sample_units whole_table units is_units in
    let at_aql = all_of _ listed_aqls at_units aql is_aql in
    let found : not_smaller units aql other ≡ true = all_of (not_smaller units aql) listed_aqls at_aql other is_other in
    leb-true (acceptance_number units aql) (acceptance_number units other) (rw (le-ltb other aql above) at found)

pub lot_table : LotTable
unfolding place_of acceptance_number
lot_table =
    record {
      aql_1_0 = record { of_6 = refl; of_13 = refl; of_21 = refl; of_29 = refl };
      aql_1_5 = record { of_6 = refl; of_13 = refl; of_21 = refl; of_29 = refl };
      aql_2_5 = record { of_6 = refl; of_13 = refl; of_21 = refl; of_29 = refl };
      aql_4_0 = record { of_6 = refl; of_13 = refl; of_21 = refl; of_29 = refl };
      aql_5_0 = record { of_6 = refl; of_13 = refl; of_21 = refl; of_29 = refl };
      aql_12_5 = record { of_6 = refl; of_13 = refl; of_21 = refl; of_29 = refl };
      larger_aql = larger;
    }

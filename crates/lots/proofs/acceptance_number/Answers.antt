-- `acceptance_number` is `acceptance_number`: the cell of the table where both are listed; where one is not, its place lies behind the
-- table.
use Prim.Native.Nat.{ℕ, zero, suc, ◌≤◌}
use mathlib.Core.Path.{◌≡◌, refl, sym, ◌∙◌, ap}
use mathlib.Core.Bool.{cond, not}
use mathlib.Core.List.{List, []}
use native.Mathlib.Omega.{arith}
use lib.Dec.{ltb}
use lib.ListN.{length, get_or}
use Rattle.std.proofs.Common.{Option, Some, None, nat_eq}
use Rattle.std.specs.List.{position, position_or_len}
use Rattle.std.specs.Option.{unwrap_or}
use Rattle.std.proofs.lemmas.Bool.Decides.{nat_tests}
use Rattle.std.proofs.lemmas.List.Recursion.{is_position_or_len}
use Rattle.std.proofs.lemmas.List.Sums.{prefix_len-le-length}
use Rattle.units.specs.Conditions.{place_of}
use Rattle.lots.specs.Acceptance.{listed_sample_units, listed_aqls, acceptance_numbers, acceptance_number}
use Rattle.lots.proofs.acceptance_number.Goals as goal

place_is : (listed : List ℕ) (number : ℕ) → place_of listed number ≡ position_or_len (λ member. nat_eq member number) listed
unfolding place_of
place_is listed number =
    is_position_or_len (λ members. place_of members number) (λ member. nat_eq member number) refl
    (λ member members. ap (λ (place : ℕ). cond (nat_eq member number) 0 place) (omega arith)) listed

first_of : (place many : ℕ) → place ≤ many → unwrap_or (cond (ltb place many) (Some place) None) many ≡ place
first_of place many inside = grind (arith, nat_tests)

-- what is found is where it stands, and nothing if that is behind the last
found : (listed : List ℕ) (number : ℕ) (place : Option ℕ) → position (λ member. nat_eq member number) listed ≡ place
    → place_of listed number ≡ unwrap_or place (length listed)
found listed number place is =
    place_is listed number
    ∙ sym (first_of _ (length listed) (prefix_len-le-length (λ member. not (nat_eq member number)) listed))
    ∙ ap (λ (found_place : Option ℕ). unwrap_or found_place (length listed)) is

-- no row has a fifth number
no_fifth : (row : ℕ) → get_or (get_or acceptance_numbers row []) (length listed_sample_units) 0 ≡ 0
no_fifth zero = refl
no_fifth (suc zero) = refl
no_fifth (suc (suc zero)) = refl
no_fifth (suc (suc (suc zero))) = refl
no_fifth (suc (suc (suc (suc zero)))) = refl
no_fifth (suc (suc (suc (suc (suc zero))))) = refl
no_fifth (suc (suc (suc (suc (suc (suc row)))))) = refl

pub returns-in_err-row : goal.returns-in_err-row
unfolding acceptance_number
returns-in_err-row c =
    rw (c.from_residual.ensures, found listed_aqls _ None (sym c.place_among.ensures ∙ c.in_err-row.was))

pub returns-in_err-column : goal.returns-in_err-column
unfolding acceptance_number
returns-in_err-column c =
    rw (
      c.from_residual-in_err-column.ensures,
      found listed_sample_units _ None (sym c.place_among-2.ensures ∙ c.in_err-column.was),
    )
    (sym (no_fifth _))

pub returns : goal.returns
unfolding acceptance_number
returns c =
    rw (
      found listed_aqls _ (Some c.in_ok-row.row) (sym c.place_among.ensures ∙ c.in_ok-row.was),
      found listed_sample_units _ (Some c.in_ok-column.column) (sym c.place_among-2.ensures ∙ c.in_ok-column.was),
    )

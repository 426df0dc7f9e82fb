-- A walk over the records: what stands at its place, that the place past a record is the next one, and that the walk goes on there.
-- From the definition of a place, and that each record of the walk is whole.
use Prim.Native.Nat.{ℕ, suc, ◌+◌, ◌≤◌, ◌<◌}
use mathlib.Core.Path.{◌≡◌, refl, sym, ◌∙◌, ap, subst⁻¹}
use mathlib.Core.Logic.{◌⊎◌, inl, inr}
use mathlib.Core.List.{List}
use native.Mathlib.Nat.{eq-or-lt_of_le, le_of_suc-le-suc}
use native.Mathlib.Numerals.{add-one}
use native.Mathlib.Omega.{arith}
use lib.ListN.{length}
use Rattle.layout.specs.Layout.{mark_size, mark_at, size_of, offset, mark, entry_of, entry_at, units_before}
use Rattle.layout.specs.Walk.{first_place, place_at, place_after, Walk, largest_offset, RoomPast}
use Rattle.layout.specs.declared.Place.{Place}
use Rattle.layout.proofs.Offsets.{size_ge, offset_ge}
use Rattle.layout.proofs.Units.{units_before_le}

-- before the first of the records
pub walk_first : (bytes : List ℕ) (n : ℕ) → ((j : ℕ) → j < n → offset bytes j + size_of (mark bytes j) ≤ length bytes)
    → Walk bytes n first_place
unfolding offset units_before
walk_first bytes n whole = record { whole = whole; inside = omega arith; here = refl }

-- one more record is whole
pub walk_longer : (bytes : List ℕ) (n : ℕ) (place : Place) → Walk bytes n place → offset bytes n + size_of (mark bytes n) ≤ length bytes
    → Walk bytes (suc n) place
walk_longer bytes n place walk next =
    record { whole = λ j h. go j (eq-or-lt_of_le (le_of_suc-le-suc h)); inside = omega (arith, walk.inside); here = walk.here }
  where
    go : (j : ℕ) → (j ≡ n) ⊎ (j < n) → offset bytes j + size_of (mark bytes j) ≤ length bytes
    go j (inl same) = rw same next
    go j (inr less) = walk.whole j less

module _ (bytes : List ℕ) (n : ℕ) (place : Place) (walk : Walk bytes n place) where
  pub at_is : place.at ≡ offset bytes place.index
  at_is = ap (λ (p : Place). p.at) walk.here

  pub units_are : place.units ≡ units_before bytes place.index
  units_are = ap (λ (p : Place). p.units) walk.here

  module _ (inside : place.index < n) where
    -- the record at the place, with its mark, is whole
    pub whole_here : place.at + size_of (mark_at bytes place.at) ≤ length bytes
    whole_here =
        subst⁻¹ (λ (x : ℕ). x + size_of (mark_at bytes x) ≤ length bytes) at_is (walk.whole place.index inside)

    pub mark_here : place.at + mark_size ≤ length bytes
    mark_here = omega (arith, whole_here, size_ge (mark_at bytes place.at))

    pub entry_is : entry_of bytes place.at (mark_at bytes place.at) ≡ entry_at bytes place.index
    unfolding entry_at
    entry_is = ap (λ (x : ℕ). entry_of bytes x (mark_at bytes x)) at_is

    index_small : place.index + 1 ≤ length bytes
    index_small = omega (arith, mark_here, at_is, offset_ge bytes place.index)

    pub next_place : place_after place (mark_at bytes place.at) ≡ place_at bytes (place.index + 1)
    unfolding offset units_before
    next_place =
        ap (λ (p : Place). place_after p (mark_at bytes p.at)) walk.here
        ∙ ap (λ (i : ℕ). record { index = place.index + 1; at = offset bytes i; units = units_before bytes i }) (sym (add-one place.index))

    -- the walk goes on past the record
    pub walk_on : (after : Place) → after ≡ place_after place (mark_at bytes place.at) → Walk bytes n after
    walk_on after e =
        subst⁻¹ (Walk bytes n) (e ∙ next_place) (record { whole = walk.whole; inside = omega arith; here = refl })

    -- the numbers of the place past it fit their type, as the length of a slice does
    pub room_past : length bytes ≤ largest_offset → RoomPast place (mark_at bytes place.at)
    room_past h =
        record {
          records_fit = omega (arith, index_small);
          offset_fits = omega (arith, whole_here);
          units_fit = omega (arith, index_small, ap (λ (p : Place). p.units) next_place, units_before_le bytes (place.index + 1));
        }

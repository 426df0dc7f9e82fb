-- A walk over the records of a sheet, from left to right: where it stands, and the place past a record.
use Rattle.std.specs.Prelude.{ℕ, ◌+◌, ◌≤◌, ◌<◌, ◌≡◌, Option, List, length}
use Rattle.layout.specs.Layout.{plan_size, size_of, offset, mark, units_in, units_before}
use Rattle.layout.specs.declared.Mark.{Mark}
use Rattle.layout.specs.declared.Place.{Place}

-- before the first record, behind the plan
abbrev pub first_place : Place
first_place = record { index = 0; at = plan_size; units = 0 }

-- before record i
abbrev pub place_at : List ℕ → ℕ → Place
place_at bytes i = record { index = i; at = offset bytes i; units = units_before bytes i }

-- past a record with this mark
abbrev pub place_after : Place → Option Mark → Place
place_after place mark =
    record { index = place.index + 1; at = place.at + size_of mark; units = place.units + units_in mark }

-- a walk over a sheet whose first records, so many, are whole stands before one of them, or behind the last
pub record Walk (bytes : List ℕ) (records : ℕ) (place : Place) : Type 0 where
  pub whole : (j : ℕ) → j < records → offset bytes j + size_of (mark bytes j) ≤ length bytes
  pub inside : place.index ≤ records
  pub here : place ≡ place_at bytes place.index

-- the largest number of a place
abbrev pub largest_offset : ℕ
largest_offset = 0xFFFFFFFFFFFFFFFF

-- no number of the place past a record is above it
pub record RoomPast (place : Place) (mark : Option Mark) : Type 0 where
  pub records_fit : (place_after place mark).index ≤ largest_offset
  pub offset_fits : (place_after place mark).at ≤ largest_offset
  pub units_fit : (place_after place mark).units ≤ largest_offset

-- The mold sheet in bytes: the opening, and the units behind it by their number. Every unit is as long as any other, so that each
-- stands at its own offset whatever the others hold.
use Rattle.std.specs.Prelude.{ℕ, ◌+◌, ◌*◌, List}
use Rattle.encoding.specs.Bytes.{byte, number}
use Rattle.layout.specs.Layout.{mark_size, number_size}
use Rattle.mold.specs.declared.MoldUnit.{MoldUnit}

-- ---- sizes, and offsets of the fields, each behind the one before it

-- opening: mark 4D 44, level row (a byte)
abbrev pub level_offset : ℕ
level_offset = mark_size

abbrev pub opening_size : ℕ
opening_size = level_offset + 1

-- unit: mark 4D 55, code, positive fields (a byte)
abbrev pub code_offset : ℕ
code_offset = mark_size

abbrev pub fields_offset : ℕ
fields_offset = code_offset + number_size

abbrev pub unit_size : ℕ
unit_size = fields_offset + 1

-- ---- the sheet

-- the level row
abbrev pub level_row : List ℕ → ℕ
level_row bytes = byte bytes level_offset

-- the offset of unit i: the first stands behind the opening, each other behind the one before it
abbrev pub offset : ℕ → ℕ
offset i = opening_size + unit_size * i

-- the unit at an offset
unfoldable pub mold_unit_at : List ℕ → ℕ → MoldUnit
mold_unit_at bytes at = record { code = number bytes (at + code_offset); fields = record { 0 = byte bytes (at + fields_offset) } }

-- unit i
abbrev pub unit_in : List ℕ → ℕ → MoldUnit
unit_in bytes i = mold_unit_at bytes (offset i)

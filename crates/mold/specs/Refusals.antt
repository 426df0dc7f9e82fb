-- Where a mold sheet is turned away before the result buffer is looked at: numbers 1, 16, 6, 7, 12 and 17, in this order.
use Rattle.std.specs.Prelude.{ℕ, ◌+◌, Bool, not, ◌||◌, List, ltb, leb, eqb, length}
use Rattle.outcome.specs.Outcome.{accepted_as, refused_as}
use Rattle.outcome.specs.declared.Answer.{Answer}
use Rattle.encoding.specs.Bytes.{number}
use Rattle.units.specs.Conditions.{pick}
use Rattle.layout.specs.Layout.{mark_size}
use Rattle.sheet.specs.LeftToRight.{left_to_right}
use Rattle.sheet.specs.Refusals.{refused_if, most_units}
use Rattle.mold.specs.Levels.{last_row}
use Rattle.mold.specs.Layout.{opening_size, unit_size, level_row, offset, mold_unit_at}

-- positive fields are counted out of 25
abbrev pub fields_counted : ℕ
fields_counted = 25

-- 1: under 3 bytes, or a wrong mark
unfoldable pub no_opening : List ℕ → Bool
no_opening bytes = ltb (length bytes) opening_size || not (eqb (number bytes 0) 0x4D44)

-- the opening, at offset 0. 16: level row above 5
unfoldable pub opening_refusal : List ℕ → ℕ
opening_refusal bytes =
    refused_if (no_opening bytes) 1
    (refused_if (ltb last_row (level_row bytes)) 16
    0)

-- 6: one byte left (with none left there is no record), or any mark but 4D 55
unfoldable pub no_unit_mark : List ℕ → ℕ → Bool
no_unit_mark bytes at = ltb (length bytes) (at + mark_size) || not (eqb (number bytes at) 0x4D55)

-- a record, at the offset of its mark, with so many units before it. 7: cut short; 12: a unit after the 1,000th; 17: positive fields
-- above 25
unfoldable pub unit_refusal : List ℕ → ℕ → ℕ → ℕ
unit_refusal bytes at units =
    refused_if (no_unit_mark bytes at) 6
    (refused_if (ltb (length bytes) (at + unit_size)) 7
    (refused_if (leb most_units units) 12
    (refused_if (ltb fields_counted (mold_unit_at bytes at).fields.0) 17
    0)))

-- record i: those before it are units
abbrev pub record_refusal : List ℕ → ℕ → ℕ
record_refusal bytes i = unit_refusal bytes (offset i) i

-- records are checked left to right, from record i on, at most so many (the sheet's length is always enough: law `check_says`)
abbrev pub check_from : List ℕ → ℕ → ℕ → Answer
check_from bytes = left_to_right (length bytes) offset (record_refusal bytes) (λ units. accepted_as units (length bytes)) refused_as

-- of a sheet: acceptance, or the number of the first ground met and its offset
unfoldable pub checked : List ℕ → Answer
checked bytes = pick (eqb (opening_refusal bytes) 0) (check_from bytes (length bytes) 0) (refused_as (opening_refusal bytes) 0)

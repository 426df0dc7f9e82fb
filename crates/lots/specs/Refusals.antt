-- Where a lot is turned away: numbers 6, 7, 20, 21, 22, 8 and 9, in this order. "every offset here is 0".
use Rattle.std.specs.Prelude.{ℕ, Bool, not, ◌||◌, List, ltb, eqb, length}
use Rattle.encoding.specs.Bytes.{number}
use Rattle.units.specs.Conditions.{any, place_of}
use Rattle.units.specs.Words.{substandard}
use Rattle.layout.specs.Layout.{mark_size}
use Rattle.sheet.specs.Refusals.{refused_if, largest_count}
use Rattle.lots.specs.Layout.{classes, kinds, cells, lot_size, sample_units, aql_of_cell, aql_of, count_of_kind, prerequisite}
use Rattle.lots.specs.Acceptance.{listed_sample_units, listed_aqls}

-- 6: "under 2 bytes or a wrong mark"
unfoldable pub no_lot_mark : List ℕ → Bool
no_lot_mark lot = ltb (length lot) mark_size || not (eqb (number lot 0) 0x4C54)

-- a number is none of those listed
unfoldable pub not_among : List ℕ → ℕ → Bool
not_among listed value = eqb (place_of listed value) (length listed)

-- 21: "an AQL not listed"
unfoldable pub is_unlisted : List ℕ → ℕ → Bool
is_unlisted lot cell = not_among listed_aqls (aql_of_cell lot cell)

-- 22: "an AQL falling from A to B or B to C"
unfoldable pub aql_falls_in_class : List ℕ → ℕ → Bool
aql_falls_in_class lot class = ltb (aql_of lot 1 class) (aql_of lot 0 class) || ltb (aql_of lot 2 class) (aql_of lot 1 class)

-- 8: a count above 2,000
unfoldable pub count_too_large : List ℕ → ℕ → Bool
count_too_large lot kind = ltb largest_count (count_of_kind lot kind).0

-- the fields of a lot that is whole. 20: "sample units not one of the four"; 9: prerequisite above 3
unfoldable pub field_refusal : List ℕ → ℕ
field_refusal lot =
    refused_if (not_among listed_sample_units (sample_units lot)) 20
    (refused_if (any (is_unlisted lot) cells) 21
    (refused_if (any (aql_falls_in_class lot) classes) 22
    (refused_if (any (count_too_large lot) kinds) 8
    (refused_if (ltb substandard (prerequisite lot)) 9
    0))))

-- the number of the first ground that a lot meets, or 0. 7: "length not 36"
unfoldable pub lot_refusal : List ℕ → ℕ
lot_refusal lot =
    refused_if (no_lot_mark lot) 6
    (refused_if (not (eqb (length lot) lot_size)) 7
    (field_refusal lot))

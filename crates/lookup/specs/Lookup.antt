-- "What became of this code": what is handed back for finished results and a code, for every slice of bytes and every code. This is a full
-- reading: first the worst portion grade of the code over all records, then the first record that has it.
use Rattle.std.specs.Prelude.{ℕ, ◌+◌, ◌*◌, List, ltb, take, drop}
use Rattle.units.specs.Conditions.{pick}
use Rattle.results.specs.Record.{result_size}
use Rattle.lookup.specs.declared.Part.{Part}
use Rattle.lookup.specs.Records.{not_records, result_records, first_that, worst_grade, has_grade}

-- ---- the number, and the place of the part in the results

-- 0, found: the part is record j
abbrev pub found_at : ℕ → Part
found_at j = record { number = 0; offset = result_size * j; length = result_size }

-- 1, 'not on this sheet': the part is empty, and its place is then 0
abbrev pub not_on_this_sheet : Part
not_on_this_sheet = record { number = 1; offset = 0; length = 0 }

-- 19, "results not a multiple of 32 bytes long, offset 0": the part is empty
abbrev pub refused_results : Part
refused_results = record { number = 19; offset = 0; length = 0 }

-- ---- the look-up

-- "the first record of that code whose portion grade is the worst the code has", of so many records; so many if there is none
unfoldable pub first_of_worst : List ℕ → ℕ → ℕ → ℕ
first_of_worst results code records = first_that (has_grade results code (worst_grade results code records)) records

-- 19 "before reading"; then the record, or 'not on this sheet'
unfoldable pub lookup : List ℕ → ℕ → Part
lookup results code =
    let records = result_records results in
    let first = first_of_worst results code records in
    pick (not_records results) refused_results (pick (ltb first records) (found_at first) not_on_this_sheet)

-- ---- "as part of those results"

-- what is handed back: the number, where the part begins in memory (a block, and an offset in it), and its bytes
pub record Handed : Type 0 where
  pub number : ℕ
  pub start : ℕ × ℕ
  pub bytes : List ℕ

-- a part of the lent results themselves, which begin there in memory
unfoldable pub handed_as : ℕ × ℕ → List ℕ → Part → Handed
handed_as (block, at) results part =
    record { number = part.number; start = (block, at + part.offset); bytes = take part.length (drop part.offset results) }

-- what `find` hands back, for every slice and every code
abbrev pub handed : ℕ × ℕ → List ℕ → ℕ → Handed
handed start results code = handed_as start results (lookup results code)

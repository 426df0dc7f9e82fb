-- How many records are read for a code, and what a reading comes to.
use Rattle.std.specs.Prelude.{ℕ, suc, cond, List, Option, Some, None, ltb}
use Rattle.units.specs.Words.{substandard}
use Rattle.lookup.specs.declared.Reading.{Reading}
use Rattle.lookup.specs.Records.{result_records, first_that, has_grade}
use Rattle.lookup.specs.Lookup.{first_of_worst}

-- of so many records: "Reading ends at the first Substandard portion of that code", with it, else with the last record
unfoldable pub records_read : List ℕ → ℕ → ℕ → ℕ
records_read results code records =
    let end = first_that (has_grade results code substandard) records in
    cond (ltb end records) (suc end) records

-- a record, if it is one of so many
abbrev pub one_of : ℕ → ℕ → Option ℕ
one_of records index = cond (ltb index records) (Some index) None

-- the first of the worst portions of a full reading, if a record has the code, and how many records are read for it; a rest behind the last whole record is not read
abbrev pub reading_of : List ℕ → ℕ → Reading
reading_of results code =
    let records = result_records results in
    record { first = one_of records (first_of_worst results code records); read = records_read results code records }

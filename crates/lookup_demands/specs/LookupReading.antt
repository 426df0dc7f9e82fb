-- How far results are read for a code, and what an answer goes by.
use Rattle.std.specs.Prelude.{ℕ, suc, ◌+◌, ◌*◌, ◌≤◌, ◌<◌, ◌≡◌, List, length, take}
use Rattle.lookup.specs.Lookup.{lookup}
use Rattle.lookup.specs.Reading.{records_read}
use Rattle.lookup_demands.specs.LookupAnswers.{AreRecords, code_at, grade_byte_at, NoWorse}

-- no record before this one is a Substandard portion of the code
abbrev pub NoSubstandardBefore : List ℕ → ℕ → ℕ → Type 0
NoSubstandardBefore results code j = (k : ℕ) → k < j → code_at results k ≡ code → grade_byte_at results k < 3

-- "Reading ends at the first Substandard portion of that code": with it, or with the last of so many records if there is none
pub record ReadTo (results : List ℕ) (code records read : ℕ) : Type 0 where
  pub at_first : (j : ℕ) → j < records → code_at results j ≡ code → 3 ≤ grade_byte_at results j → NoSubstandardBefore results code j → read ≡ suc j
  pub all : NoSubstandardBefore results code records → read ≡ records

-- record j has the same code and the same portion grade in two results, whatever else stands in it
pub record SameCodeAndGrade (results results' : List ℕ) (j : ℕ) : Type 0 where
  pub same_code : code_at results j ≡ code_at results' j
  pub no_worse : NoWorse (grade_byte_at results j) (grade_byte_at results' j)
  pub no_better : NoWorse (grade_byte_at results' j) (grade_byte_at results j)

pub record LookupReading : Type 0 where
  -- for every slice, every code and any number of records; `read_records` promises it of all the records that there are
  pub read_to : (results : List ℕ) (code records : ℕ) → ReadTo results code records (records_read results code records)
  -- "the answer equals that of a full reading": it is that of the records that are read, alone
  pub as_full : (results : List ℕ) (code records : ℕ) → AreRecords results records
      → lookup (take (32 * records_read results code records) results) code ≡ lookup results code
  -- "Marks are not looked at", nor anything else but codes and portion grades
  pub looked_at : (results results' : List ℕ) (code : ℕ) → length results ≡ length results'
      → ((j : ℕ) → 32 * j + 32 ≤ length results → SameCodeAndGrade results results' j) → lookup results code ≡ lookup results' code

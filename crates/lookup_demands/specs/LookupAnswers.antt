-- A look-up said a second time: A.6 of paper 02, sentence by sentence, by what stands in the bytes and in the paper's own numbers; how far
-- is read and what is looked at is in `LookupReading`. Nothing here computes an answer.
use Rattle.std.specs.Prelude.{ℕ, ◌+◌, ◌*◌, ◌≤◌, ◌<◌, ◌≡◌, List, ◌⊎◌, ◌↔◌, length}
use Rattle.encoding.specs.Bytes.{byte}
use Rattle.lookup.specs.declared.Part.{Part}
use Rattle.lookup.specs.Lookup.{lookup, Handed, handed}

-- ---- the records of results: 32 bytes each, the code behind the mark, the portion grade behind the code

-- the results are so many records
abbrev pub AreRecords : List ℕ → ℕ → Type 0
AreRecords results records = length results ≡ 32 * records

-- code, the high byte first, and portion grade byte of record j, the first being 0
abbrev pub code_at : List ℕ → ℕ → ℕ
code_at results j = 256 * byte results (32 * j + 2) + byte results (32 * j + 3)

abbrev pub grade_byte_at : List ℕ → ℕ → ℕ
grade_byte_at results j = byte results (32 * j + 4)

-- "A grade byte of 3 or more is Substandard", and nothing is worse: the grade of a byte is no worse than that of another
abbrev pub NoWorse : ℕ → ℕ → Type 0
NoWorse grade_byte other = (grade_byte ≤ other) ⊎ (3 ≤ other)

-- and it is better
abbrev pub Better : ℕ → ℕ → Type 0
Better grade_byte other = (grade_byte < other) × (grade_byte < 3)

-- ---- the grounds, and the record that is handed back

-- 19: "results not a multiple of 32 bytes long"
abbrev pub NotRecords : List ℕ → Type 0
NotRecords results = (records : ℕ) → AreRecords results records → ⊥

-- "A code that isn't there"
pub record NotThere (results : List ℕ) (code : ℕ) : Type 0 where
  pub records : ℕ
  pub whole : AreRecords results records
  pub no_record : (j : ℕ) → j < records → code_at results j ≡ code → ⊥

-- "the first record of that code whose portion grade is the worst the code has"
pub record FirstOfWorst (results : List ℕ) (code index : ℕ) : Type 0 where
  pub records : ℕ
  pub whole : AreRecords results records
  pub inside : index < records
  pub of_code : code_at results index ≡ code
  pub worst : (j : ℕ) → j < records → code_at results j ≡ code → NoWorse (grade_byte_at results j) (grade_byte_at results index)
  pub first : (j : ℕ) → j < index → code_at results j ≡ code → Better (grade_byte_at results j) (grade_byte_at results index)

-- ---- the statement: of the place of the part, and of the part in memory

pub record LookupAnswered (results : List ℕ) (code : ℕ) (part : Part) : Type 0 where
  -- "a separate number is 0 for found, 1 for not there, or 19"
  pub listed : (part.number ≡ 0) ⊎ ((part.number ≡ 1) ⊎ (part.number ≡ 19))
  pub refused : (part.number ≡ 19) ↔ NotRecords results
  -- "A code that isn't there gets 'not on this sheet', and only then."
  pub not_there_holds : (part.number ≡ 1) ↔ NotThere results code
  -- whichever record is the first of the worst, that one is handed back; and if the number is 0 there is one
  pub found : (index : ℕ) → FirstOfWorst results code index → (part.number ≡ 0) × (part.offset ≡ 32 * index) × (part.length ≡ 32)
  pub only_found : part.number ≡ 0 → (index : ℕ) × FirstOfWorst results code index
  -- "There and after 19 the part handed back is empty"; its place is then 0
  pub empty : (part.number ≡ 0 → ⊥) → (part.offset ≡ 0) × (part.length ≡ 0)

-- "hand back, as part of those results": it begins there in memory where it stands in the results, and has their bytes
pub record PartOfResults (block at : ℕ) (results : List ℕ) (code : ℕ) (part : Part) (back : Handed) : Type 0 where
  pub number : back.number ≡ part.number
  pub start : back.start ≡ (block, at + part.offset)
  pub size : length back.bytes ≡ part.length
  pub bytes : (i : ℕ) → i < part.length → byte back.bytes i ≡ byte results (part.offset + i)
  pub inside : part.offset + part.length ≤ length results
  -- so that what is found shows the code
  pub shows_code : back.number ≡ 0 → code_at back.bytes 0 ≡ code

pub record LookupAnswers : Type 0 where
  -- for every slice and every code, as the promises of `find_place` and `hatmuyon_find_code` say
  pub place : (results : List ℕ) (code : ℕ) (part : Part) → part ≡ lookup results code → LookupAnswered results code part
  -- and as that of `find` says
  pub in_memory : (block at : ℕ) (results : List ℕ) (code : ℕ) (back : Handed) → back ≡ handed (block, at) results code
      → PartOfResults block at results code (lookup results code) back

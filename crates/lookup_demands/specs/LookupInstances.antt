-- Look-ups once more on one to three records, proved from the theorems and not by computing: statements for fewer slices or codes, or
-- without one of the parts used here, would no longer give these.
use Rattle.std.specs.Prelude.{ℕ, ◌≡◌, List, ◌∷◌, ◌++◌, take, replicate}
use Rattle.lookup.specs.declared.Part.{Part}
use Rattle.lookup.specs.Lookup.{lookup, Handed, handed}
use Rattle.lookup.specs.Reading.{records_read}
use Rattle.lookup_demands.specs.LookupAnswers.{FirstOfWorst, PartOfResults}
use Rattle.lookup_demands.specs.LookupSheets.{byte3_between_two_of_c, byte200_before255, not_there, one_byte_more}

-- a record of code 5 with this portion grade byte, and 255 in all other places
abbrev pub other_record : ℕ → List ℕ
other_record grade_byte = 255 ∷ 255 ∷ 0 ∷ 5 ∷ grade_byte ∷ replicate 27 255

-- the codes and portion grades of C, Substandard, C
unfoldable pub other_bytes : List ℕ
other_bytes = other_record 2 ++ other_record 200 ++ other_record 2

pub record LookupInstances : Type 0 where
  -- of C, Substandard, C the second is the first of the worst, and is found there
  pub first_of_worst_holds : FirstOfWorst byte3_between_two_of_c 5 1
  pub found : (part : Part) → part ≡ lookup byte3_between_two_of_c 5 → (part.number ≡ 0) × (part.offset ≡ 32) × (part.length ≡ 32)
  -- as part of the results, wherever these lie
  pub in_memory : (block at : ℕ) (back : Handed) → back ≡ handed (block, at) byte3_between_two_of_c 5
      → PartOfResults block at byte3_between_two_of_c 5 (record { number = 0; offset = 32; length = 32 }) back
  -- two of the three are read, and they give the answer alone
  pub two_read : records_read byte3_between_two_of_c 5 3 ≡ 2
  pub as_full : lookup (take 64 byte3_between_two_of_c) 5 ≡ lookup byte3_between_two_of_c 5
  -- and one of two that are Substandard by 200 and 255
  pub one_read : records_read byte200_before255 5 2 ≡ 1
  -- two records of other codes, both Substandard: all are read
  pub all_read : records_read not_there 5 2 ≡ 2
  -- other bytes in every other place make no difference, nor does 200 in the place of 3
  pub looked_at : lookup byte3_between_two_of_c 5 ≡ lookup other_bytes 5
  -- a code that neither of two records has, and a byte more than a record
  pub not_there_holds : (part : Part) → part ≡ lookup not_there 5 → part.number ≡ 1
  pub refused : (part : Part) → part ≡ lookup one_byte_more 5 → part.number ≡ 19

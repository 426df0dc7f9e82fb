-- The mold sheet, its result and its levels in the paper's own numbers: A.2 of paper 02, sentence by sentence, in literals. The other
-- statements call sizes, offsets and fields by the names that definitions and code use, too; a number that is wrong in both alike is
-- refused here.
use Rattle.std.specs.Prelude.{ℕ, ◌+◌, ◌*◌, ◌≡◌, List}
use Rattle.encoding.specs.Bytes.{byte, number}
use Rattle.mold.specs.Levels.{level_numbers}
use Rattle.mold.specs.Layout.{opening_size, unit_size, fields_offset, level_row, offset, unit_in}
use Rattle.mold.specs.Grading.{numbers_of}
use Rattle.mold.specs.Results.{result_size, mark_in, met_in, cusum_in}

-- where everything stands, and how long it is
pub record MoldPlaces : Type 0 where
  -- "The mold sheet opens with mark 4D 44 and a level row (1 byte)"
  pub opening : opening_size ≡ 3
  pub level_row_holds : (bytes : List ℕ) → level_row bytes ≡ byte bytes 2
  -- S, T and L of a sheet are those of its row
  pub numbers : (bytes : List ℕ) → numbers_of bytes ≡ level_numbers (byte bytes 2)
  -- "then records 4D 55 with code (2) and positive fields (1)"
  pub unit : unit_size ≡ 5
  pub place : (i : ℕ) → offset i ≡ 3 + 5 * i
  pub code : (bytes : List ℕ) (i : ℕ) → (unit_in bytes i).code ≡ number bytes (3 + 5 * i + 2)
  pub fields_behind_code : fields_offset ≡ 4
  pub positive_fields : (bytes : List ℕ) (i : ℕ) → (unit_in bytes i).fields.0 ≡ byte bytes (3 + 5 * i + 4)
  -- "The result is mark 4D 52, 1 for met or 0 (1 byte), CuSum in tenths (2); the overshoot is left out"
  pub result : result_size ≡ 5
  pub result_mark : (results : List ℕ) (i : ℕ) → mark_in results i ≡ number results (5 * i)
  pub met : (results : List ℕ) (i : ℕ) → met_in results i ≡ byte results (5 * i + 2)
  pub cusum : (results : List ℕ) (i : ℕ) → cusum_in results i ≡ number results (5 * i + 3)

-- "Rows 0 to 5 are defect action levels 5, 10, 12, 15, 20, 25 of source document 000: S 0 1 0 1 0 1, T 1 2 3 3 5 6, L 1 3 2 3 2 3, in
-- whole fields": each row in tenths
pub record MoldLevels : Type 0 where
  pub level_5 : level_numbers 0 ≡ record { start = 0; tolerance = 10; limit = 10 }
  pub level_10 : level_numbers 1 ≡ record { start = 10; tolerance = 20; limit = 30 }
  pub level_12 : level_numbers 2 ≡ record { start = 0; tolerance = 30; limit = 20 }
  pub level_15 : level_numbers 3 ≡ record { start = 10; tolerance = 30; limit = 30 }
  pub level_20 : level_numbers 4 ≡ record { start = 0; tolerance = 50; limit = 20 }
  pub level_25 : level_numbers 5 ≡ record { start = 10; tolerance = 60; limit = 30 }

-- together
pub record MoldLayout : Type 0 where
  pub places : MoldPlaces
  pub levels : MoldLevels

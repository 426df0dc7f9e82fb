-- Mold sheets in bytes, as one group: the record at the end. Each is held to the answer and the result bytes that the independent grader
-- gives for it (tests/grader, written from the papers alone), so that a rule which is wrong on one of them alike in a definition and in
-- the code that meets it is refused here. This file is printed by tests/cases/src/bin/computed_mold_sheets.rs.
use Rattle.std.specs.Prelude.{ℕ, List, [], ◌∷◌}
use Rattle.outcome.specs.Held.{GradedBy, RefusedBy, WithoutRoomBy}
use Rattle.mold.specs.Results.{result_size}
use Rattle.mold.specs.Outcome.{mold_outcome}

abbrev pub Graded : List ℕ → ℕ → ℕ → List ℕ → Type 0
Graded = GradedBy mold_outcome result_size

abbrev pub RefusedWith : ℕ → List ℕ → ℕ → Type 0
RefusedWith = RefusedBy mold_outcome

abbrev pub WithoutRoom : ℕ → List ℕ → ℕ → ℕ → Type 0
WithoutRoom = WithoutRoomBy mold_outcome result_size

-- In a sheet behind each record its content: of a unit code and positive fields. In results behind each record the line that is printed
-- for it.

-- ---- the manual's example and every level row

-- Computing, example 2, of source document 000: defect action level 12, S 0, T 3, L 2.
unfoldable pub manual_example : List ℕ
manual_example =
    0x4D ∷ 0x44 ∷ 2  -- level 12
    ∷ 0x4D ∷ 0x55 ∷ 0 ∷ 1 ∷ 3  -- 1: 3
    ∷ 0x4D ∷ 0x55 ∷ 0 ∷ 2 ∷ 3  -- 2: 3
    ∷ 0x4D ∷ 0x55 ∷ 0 ∷ 3 ∷ 2  -- 3: 2
    ∷ 0x4D ∷ 0x55 ∷ 0 ∷ 4 ∷ 6  -- 4: 6
    ∷ 0x4D ∷ 0x55 ∷ 0 ∷ 5 ∷ 3  -- 5: 3
    ∷ []

unfoldable pub manual_example_results : List ℕ
manual_example_results =
    0x4D ∷ 0x52 ∷ 1 ∷ 0 ∷ 0  -- 1 1 m 0.0
    ∷ 0x4D ∷ 0x52 ∷ 1 ∷ 0 ∷ 0  -- 2 2 m 0.0
    ∷ 0x4D ∷ 0x52 ∷ 1 ∷ 0 ∷ 0  -- 3 3 m 0.0
    ∷ 0x4D ∷ 0x52 ∷ 0 ∷ 0 ∷ 20  -- 4 4 f 2.0
    ∷ 0x4D ∷ 0x52 ∷ 1 ∷ 0 ∷ 20  -- 5 5 m 2.0
    ∷ []

-- S 0, T 1, L 1. Unit 1 comes to L and so tells S, as 2 would fail and 0 would be lower; units 2
-- and 3 are at L exactly and meet, unit 4 has one field more and fails, unit 5 goes on from L.
unfoldable pub level5 : List ℕ
level5 =
    0x4D ∷ 0x44 ∷ 0  -- level 5
    ∷ 0x4D ∷ 0x55 ∷ 0 ∷ 1 ∷ 2  -- 1: 2
    ∷ 0x4D ∷ 0x55 ∷ 0 ∷ 2 ∷ 1  -- 2: 1
    ∷ 0x4D ∷ 0x55 ∷ 0 ∷ 3 ∷ 1  -- 3: 1
    ∷ 0x4D ∷ 0x55 ∷ 0 ∷ 4 ∷ 2  -- 4: 2
    ∷ 0x4D ∷ 0x55 ∷ 0 ∷ 5 ∷ 1  -- 5: 1
    ∷ []

unfoldable pub level5_results : List ℕ
level5_results =
    0x4D ∷ 0x52 ∷ 1 ∷ 0 ∷ 10  -- 1 1 m 1.0
    ∷ 0x4D ∷ 0x52 ∷ 1 ∷ 0 ∷ 10  -- 2 2 m 1.0
    ∷ 0x4D ∷ 0x52 ∷ 1 ∷ 0 ∷ 10  -- 3 3 m 1.0
    ∷ 0x4D ∷ 0x52 ∷ 0 ∷ 0 ∷ 10  -- 4 4 f 1.0
    ∷ 0x4D ∷ 0x52 ∷ 1 ∷ 0 ∷ 10  -- 5 5 m 1.0
    ∷ []

-- S 1, T 2, L 3. Unit 1 tells S; unit 3 is at L exactly and meets, unit 4 has one field more and
-- fails, unit 5 goes on from L.
unfoldable pub level10 : List ℕ
level10 =
    0x4D ∷ 0x44 ∷ 1  -- level 10
    ∷ 0x4D ∷ 0x55 ∷ 0 ∷ 1 ∷ 2  -- 1: 2
    ∷ 0x4D ∷ 0x55 ∷ 0 ∷ 2 ∷ 2  -- 2: 2
    ∷ 0x4D ∷ 0x55 ∷ 0 ∷ 3 ∷ 4  -- 3: 4
    ∷ 0x4D ∷ 0x55 ∷ 0 ∷ 4 ∷ 3  -- 4: 3
    ∷ 0x4D ∷ 0x55 ∷ 0 ∷ 5 ∷ 2  -- 5: 2
    ∷ []

unfoldable pub level10_results : List ℕ
level10_results =
    0x4D ∷ 0x52 ∷ 1 ∷ 0 ∷ 10  -- 1 1 m 1.0
    ∷ 0x4D ∷ 0x52 ∷ 1 ∷ 0 ∷ 10  -- 2 2 m 1.0
    ∷ 0x4D ∷ 0x52 ∷ 1 ∷ 0 ∷ 30  -- 3 3 m 3.0
    ∷ 0x4D ∷ 0x52 ∷ 0 ∷ 0 ∷ 30  -- 4 4 f 3.0
    ∷ 0x4D ∷ 0x52 ∷ 1 ∷ 0 ∷ 30  -- 5 5 m 3.0
    ∷ []

-- S 0, T 3, L 2. As for level 10.
unfoldable pub level12 : List ℕ
level12 =
    0x4D ∷ 0x44 ∷ 2  -- level 12
    ∷ 0x4D ∷ 0x55 ∷ 0 ∷ 1 ∷ 4  -- 1: 4
    ∷ 0x4D ∷ 0x55 ∷ 0 ∷ 2 ∷ 3  -- 2: 3
    ∷ 0x4D ∷ 0x55 ∷ 0 ∷ 3 ∷ 4  -- 3: 4
    ∷ 0x4D ∷ 0x55 ∷ 0 ∷ 4 ∷ 4  -- 4: 4
    ∷ 0x4D ∷ 0x55 ∷ 0 ∷ 5 ∷ 3  -- 5: 3
    ∷ []

unfoldable pub level12_results : List ℕ
level12_results =
    0x4D ∷ 0x52 ∷ 1 ∷ 0 ∷ 10  -- 1 1 m 1.0
    ∷ 0x4D ∷ 0x52 ∷ 1 ∷ 0 ∷ 10  -- 2 2 m 1.0
    ∷ 0x4D ∷ 0x52 ∷ 1 ∷ 0 ∷ 20  -- 3 3 m 2.0
    ∷ 0x4D ∷ 0x52 ∷ 0 ∷ 0 ∷ 20  -- 4 4 f 2.0
    ∷ 0x4D ∷ 0x52 ∷ 1 ∷ 0 ∷ 20  -- 5 5 m 2.0
    ∷ []

-- S 1, T 3, L 3. As for level 10.
unfoldable pub level15 : List ℕ
level15 =
    0x4D ∷ 0x44 ∷ 3  -- level 15
    ∷ 0x4D ∷ 0x55 ∷ 0 ∷ 1 ∷ 3  -- 1: 3
    ∷ 0x4D ∷ 0x55 ∷ 0 ∷ 2 ∷ 3  -- 2: 3
    ∷ 0x4D ∷ 0x55 ∷ 0 ∷ 3 ∷ 5  -- 3: 5
    ∷ 0x4D ∷ 0x55 ∷ 0 ∷ 4 ∷ 4  -- 4: 4
    ∷ 0x4D ∷ 0x55 ∷ 0 ∷ 5 ∷ 3  -- 5: 3
    ∷ []

unfoldable pub level15_results : List ℕ
level15_results =
    0x4D ∷ 0x52 ∷ 1 ∷ 0 ∷ 10  -- 1 1 m 1.0
    ∷ 0x4D ∷ 0x52 ∷ 1 ∷ 0 ∷ 10  -- 2 2 m 1.0
    ∷ 0x4D ∷ 0x52 ∷ 1 ∷ 0 ∷ 30  -- 3 3 m 3.0
    ∷ 0x4D ∷ 0x52 ∷ 0 ∷ 0 ∷ 30  -- 4 4 f 3.0
    ∷ 0x4D ∷ 0x52 ∷ 1 ∷ 0 ∷ 30  -- 5 5 m 3.0
    ∷ []

-- S 0, T 5, L 2. As for level 10.
unfoldable pub level20 : List ℕ
level20 =
    0x4D ∷ 0x44 ∷ 4  -- level 20
    ∷ 0x4D ∷ 0x55 ∷ 0 ∷ 1 ∷ 6  -- 1: 6
    ∷ 0x4D ∷ 0x55 ∷ 0 ∷ 2 ∷ 5  -- 2: 5
    ∷ 0x4D ∷ 0x55 ∷ 0 ∷ 3 ∷ 6  -- 3: 6
    ∷ 0x4D ∷ 0x55 ∷ 0 ∷ 4 ∷ 6  -- 4: 6
    ∷ 0x4D ∷ 0x55 ∷ 0 ∷ 5 ∷ 5  -- 5: 5
    ∷ []

unfoldable pub level20_results : List ℕ
level20_results =
    0x4D ∷ 0x52 ∷ 1 ∷ 0 ∷ 10  -- 1 1 m 1.0
    ∷ 0x4D ∷ 0x52 ∷ 1 ∷ 0 ∷ 10  -- 2 2 m 1.0
    ∷ 0x4D ∷ 0x52 ∷ 1 ∷ 0 ∷ 20  -- 3 3 m 2.0
    ∷ 0x4D ∷ 0x52 ∷ 0 ∷ 0 ∷ 20  -- 4 4 f 2.0
    ∷ 0x4D ∷ 0x52 ∷ 1 ∷ 0 ∷ 20  -- 5 5 m 2.0
    ∷ []

-- S 1, T 6, L 3. As for level 10.
unfoldable pub level25 : List ℕ
level25 =
    0x4D ∷ 0x44 ∷ 5  -- level 25
    ∷ 0x4D ∷ 0x55 ∷ 0 ∷ 1 ∷ 6  -- 1: 6
    ∷ 0x4D ∷ 0x55 ∷ 0 ∷ 2 ∷ 6  -- 2: 6
    ∷ 0x4D ∷ 0x55 ∷ 0 ∷ 3 ∷ 8  -- 3: 8
    ∷ 0x4D ∷ 0x55 ∷ 0 ∷ 4 ∷ 7  -- 4: 7
    ∷ 0x4D ∷ 0x55 ∷ 0 ∷ 5 ∷ 6  -- 5: 6
    ∷ []

unfoldable pub level25_results : List ℕ
level25_results =
    0x4D ∷ 0x52 ∷ 1 ∷ 0 ∷ 10  -- 1 1 m 1.0
    ∷ 0x4D ∷ 0x52 ∷ 1 ∷ 0 ∷ 10  -- 2 2 m 1.0
    ∷ 0x4D ∷ 0x52 ∷ 1 ∷ 0 ∷ 30  -- 3 3 m 3.0
    ∷ 0x4D ∷ 0x52 ∷ 0 ∷ 0 ∷ 30  -- 4 4 f 3.0
    ∷ 0x4D ∷ 0x52 ∷ 1 ∷ 0 ∷ 30  -- 5 5 m 3.0
    ∷ []

pub record LevelSheets : Type 0 where
  pub manual_example_holds : Graded manual_example 5 28 manual_example_results
  pub level_5 : Graded level5 5 28 level5_results
  pub level_10 : Graded level10 5 28 level10_results
  pub level_12 : Graded level12 5 28 level12_results
  pub level_15 : Graded level15 5 28 level15_results
  pub level_20 : Graded level20 5 28 level20_results
  pub level_25 : Graded level25 5 28 level25_results

-- ---- CuSums and failures, fields and codes

-- Level 25, T 6. Unit 1 comes to 1+0-6, below zero, and unit 2 starts from 0: with -5 it would
-- come to -3. Unit 3 comes to 2+3-6, and unit 4 from 0 to L.
unfoldable pub below_zero : List ℕ
below_zero =
    0x4D ∷ 0x44 ∷ 5  -- level 25
    ∷ 0x4D ∷ 0x55 ∷ 0 ∷ 1 ∷ 0  -- 1: 0
    ∷ 0x4D ∷ 0x55 ∷ 0 ∷ 2 ∷ 8  -- 2: 8
    ∷ 0x4D ∷ 0x55 ∷ 0 ∷ 3 ∷ 3  -- 3: 3
    ∷ 0x4D ∷ 0x55 ∷ 0 ∷ 4 ∷ 9  -- 4: 9
    ∷ []

unfoldable pub below_zero_results : List ℕ
below_zero_results =
    0x4D ∷ 0x52 ∷ 1 ∷ 0 ∷ 0  -- 1 1 m 0.0
    ∷ 0x4D ∷ 0x52 ∷ 1 ∷ 0 ∷ 20  -- 2 2 m 2.0
    ∷ 0x4D ∷ 0x52 ∷ 1 ∷ 0 ∷ 0  -- 3 3 m 0.0
    ∷ 0x4D ∷ 0x52 ∷ 1 ∷ 0 ∷ 30  -- 4 4 m 3.0
    ∷ []

-- Level 10, 1/2/3. Two failures in a row start nothing: there is no step 3. Unit 3 goes on from L,
-- and from S it would come to 1.
unfoldable pub two_failures : List ℕ
two_failures =
    0x4D ∷ 0x44 ∷ 1  -- level 10
    ∷ 0x4D ∷ 0x55 ∷ 0 ∷ 1 ∷ 5  -- 1: 5
    ∷ 0x4D ∷ 0x55 ∷ 0 ∷ 2 ∷ 5  -- 2: 5
    ∷ 0x4D ∷ 0x55 ∷ 0 ∷ 3 ∷ 2  -- 3: 2
    ∷ 0x4D ∷ 0x55 ∷ 0 ∷ 4 ∷ 0  -- 4: 0
    ∷ []

unfoldable pub two_failures_results : List ℕ
two_failures_results =
    0x4D ∷ 0x52 ∷ 0 ∷ 0 ∷ 30  -- 1 1 f 3.0
    ∷ 0x4D ∷ 0x52 ∷ 0 ∷ 0 ∷ 30  -- 2 2 f 3.0
    ∷ 0x4D ∷ 0x52 ∷ 1 ∷ 0 ∷ 30  -- 3 3 m 3.0
    ∷ 0x4D ∷ 0x52 ∷ 1 ∷ 0 ∷ 10  -- 4 4 m 1.0
    ∷ []

-- Level 12, 0/3/2. Three units without a positive field behind two failures change nothing before
-- them, and unit 6 goes on from 0.
unfoldable pub no_recovery : List ℕ
no_recovery =
    0x4D ∷ 0x44 ∷ 2  -- level 12
    ∷ 0x4D ∷ 0x55 ∷ 0 ∷ 1 ∷ 9  -- 1: 9
    ∷ 0x4D ∷ 0x55 ∷ 0 ∷ 2 ∷ 9  -- 2: 9
    ∷ 0x4D ∷ 0x55 ∷ 0 ∷ 3 ∷ 0  -- 3: 0
    ∷ 0x4D ∷ 0x55 ∷ 0 ∷ 4 ∷ 0  -- 4: 0
    ∷ 0x4D ∷ 0x55 ∷ 0 ∷ 5 ∷ 0  -- 5: 0
    ∷ 0x4D ∷ 0x55 ∷ 0 ∷ 6 ∷ 4  -- 6: 4
    ∷ []

unfoldable pub no_recovery_results : List ℕ
no_recovery_results =
    0x4D ∷ 0x52 ∷ 0 ∷ 0 ∷ 20  -- 1 1 f 2.0
    ∷ 0x4D ∷ 0x52 ∷ 0 ∷ 0 ∷ 20  -- 2 2 f 2.0
    ∷ 0x4D ∷ 0x52 ∷ 1 ∷ 0 ∷ 0  -- 3 3 m 0.0
    ∷ 0x4D ∷ 0x52 ∷ 1 ∷ 0 ∷ 0  -- 4 4 m 0.0
    ∷ 0x4D ∷ 0x52 ∷ 1 ∷ 0 ∷ 0  -- 5 5 m 0.0
    ∷ 0x4D ∷ 0x52 ∷ 1 ∷ 0 ∷ 10  -- 6 6 m 1.0
    ∷ []

-- Level 15, 1/3/3. 25 fields are not above 25. No raw value is carried on: unit 2 comes to 3+0-3.
unfoldable pub every_field_positive : List ℕ
every_field_positive =
    0x4D ∷ 0x44 ∷ 3  -- level 15
    ∷ 0x4D ∷ 0x55 ∷ 0 ∷ 1 ∷ 25  -- 1: 25
    ∷ 0x4D ∷ 0x55 ∷ 0 ∷ 2 ∷ 0  -- 2: 0
    ∷ 0x4D ∷ 0x55 ∷ 0 ∷ 3 ∷ 25  -- 3: 25
    ∷ []

unfoldable pub every_field_positive_results : List ℕ
every_field_positive_results =
    0x4D ∷ 0x52 ∷ 0 ∷ 0 ∷ 30  -- 1 1 f 3.0
    ∷ 0x4D ∷ 0x52 ∷ 1 ∷ 0 ∷ 0  -- 2 2 m 0.0
    ∷ 0x4D ∷ 0x52 ∷ 0 ∷ 0 ∷ 30  -- 3 3 f 3.0
    ∷ []

-- Level 5, 0/1/1. A code of two large bytes, and once more; a code that reads as a mark. Every code
-- is allowed, and none stands in the result.
unfoldable pub large_codes : List ℕ
large_codes =
    0x4D ∷ 0x44 ∷ 0  -- level 5
    ∷ 0x4D ∷ 0x55 ∷ 255 ∷ 254 ∷ 2  -- 65534: 2
    ∷ 0x4D ∷ 0x55 ∷ 255 ∷ 254 ∷ 2  -- 65534: 2
    ∷ 0x4D ∷ 0x55 ∷ 77 ∷ 85 ∷ 1  -- 19797: 1
    ∷ []

unfoldable pub large_codes_results : List ℕ
large_codes_results =
    0x4D ∷ 0x52 ∷ 1 ∷ 0 ∷ 10  -- 1 65534 m 1.0
    ∷ 0x4D ∷ 0x52 ∷ 0 ∷ 0 ∷ 10  -- 2 65534 f 1.0
    ∷ 0x4D ∷ 0x52 ∷ 1 ∷ 0 ∷ 10  -- 3 19797 m 1.0
    ∷ []

-- The opening alone: accepted, and every buffer is kept as it is.
unfoldable pub no_unit : List ℕ
no_unit =
    0x4D ∷ 0x44 ∷ 5  -- level 25
    ∷ []

unfoldable pub no_unit_results : List ℕ
no_unit_results = []

pub record UnitSheets : Type 0 where
  pub below_zero_holds : Graded below_zero 4 23 below_zero_results
  pub two_failures_holds : Graded two_failures 4 23 two_failures_results
  pub no_recovery_holds : Graded no_recovery 6 33 no_recovery_results
  pub every_field_positive_holds : Graded every_field_positive 3 18 every_field_positive_results
  pub large_codes_holds : Graded large_codes 3 18 large_codes_results
  pub no_unit_holds : Graded no_unit 0 3 no_unit_results

-- ---- refusals

-- 1: the mark of an opening without a level row.
unfoldable pub two_bytes : List ℕ
two_bytes =
    0x4D ∷ 0x44  -- two bytes
    ∷ []

-- 1: the first mark is that of a unit.
unfoldable pub another_mark : List ℕ
another_mark =
    0x4D ∷ 0x55 ∷ 0  -- the mark of a unit
    ∷ 0x4D ∷ 0x55 ∷ 0 ∷ 1 ∷ 1  -- 1: 1
    ∷ []

-- 1: the first mark is that of a plan.
unfoldable pub mark_of_tally_sheet : List ℕ
mark_of_tally_sheet =
    0x50 ∷ 0x4C ∷ 0  -- the mark of a plan
    ∷ 0x4D ∷ 0x55 ∷ 0 ∷ 1 ∷ 1  -- 1: 1
    ∷ []

-- 1 and 16: another mark, and a level row of 6.
unfoldable pub grounds1_and16 : List ℕ
grounds1_and16 =
    0x4D ∷ 0x45 ∷ 6  -- another mark, level row 6
    ∷ []

-- 16: a level row of 6.
unfoldable pub ground16 : List ℕ
ground16 =
    0x4D ∷ 0x44 ∷ 6  -- level row 6
    ∷ 0x4D ∷ 0x55 ∷ 0 ∷ 1 ∷ 1  -- 1: 1
    ∷ []

-- 16: a level row of 255, and no unit.
unfoldable pub largest_level_row : List ℕ
largest_level_row =
    0x4D ∷ 0x44 ∷ 255  -- level row 255
    ∷ []

-- 16, then 6: a level row of 6, and a record with another mark.
unfoldable pub grounds16_and6 : List ℕ
grounds16_and6 =
    0x4D ∷ 0x44 ∷ 6  -- level row 6
    ∷ 0x53 ∷ 0x55 ∷ 0 ∷ 1 ∷ 1  -- the mark of a tally sheet's unit
    ∷ []

-- 6: one byte left, though it is the first of a mark; not 7.
unfoldable pub one_byte_left : List ℕ
one_byte_left =
    0x4D ∷ 0x44 ∷ 0  -- level 5
    ∷ 0x4D ∷ 0x55 ∷ 0 ∷ 1 ∷ 1  -- 1: 1
    ∷ 0x4D  -- one byte
    ∷ []

-- 6: any mark but 4D 55, also that of a tally sheet's unit.
unfoldable pub unit_of_tally_sheet : List ℕ
unit_of_tally_sheet =
    0x4D ∷ 0x44 ∷ 0  -- level 5
    ∷ 0x4D ∷ 0x55 ∷ 0 ∷ 1 ∷ 1  -- 1: 1
    ∷ 0x53 ∷ 0x55 ∷ 0 ∷ 2 ∷ 1  -- the mark of a tally sheet's unit
    ∷ []

-- 6: the opening stands first and only there.
unfoldable pub second_opening : List ℕ
second_opening =
    0x4D ∷ 0x44 ∷ 0  -- level 5
    ∷ 0x4D ∷ 0x44 ∷ 0  -- level 5
    ∷ 0x4D ∷ 0x55 ∷ 0 ∷ 1 ∷ 1  -- 1: 1
    ∷ []

-- 6, then 17: each record is checked wholly before the next.
unfoldable pub ground6_before17 : List ℕ
ground6_before17 =
    0x4D ∷ 0x44 ∷ 0  -- level 5
    ∷ 0x53 ∷ 0x55 ∷ 0 ∷ 1 ∷ 1  -- another mark
    ∷ 0x4D ∷ 0x55 ∷ 0 ∷ 2 ∷ 26  -- 2: 26
    ∷ []

-- 7: a unit without its fields.
unfoldable pub unit_cut_short : List ℕ
unit_cut_short =
    0x4D ∷ 0x44 ∷ 0  -- level 5
    ∷ 0x4D ∷ 0x55 ∷ 0 ∷ 1 ∷ 1  -- 1: 1
    ∷ 0x4D ∷ 0x55 ∷ 0 ∷ 2  -- 4 bytes of 2: 1
    ∷ []

-- 7: a unit cut short behind its mark; not 6.
unfoldable pub mark_alone : List ℕ
mark_alone =
    0x4D ∷ 0x44 ∷ 0  -- level 5
    ∷ 0x4D ∷ 0x55  -- 2 bytes of 1: 1
    ∷ []

-- 7 and not 17: the two bytes left behind the mark are a code; the positive fields are missing.
unfoldable pub fields_missing : List ℕ
fields_missing =
    0x4D ∷ 0x44 ∷ 5  -- level 25
    ∷ 0x4D ∷ 0x55 ∷ 0 ∷ 1 ∷ 1  -- 1: 1
    ∷ 0x4D ∷ 0x55 ∷ 26 ∷ 26  -- 4 bytes of 6682: 26
    ∷ []

-- 17: 26 fields of 25, also in a buffer without room.
unfoldable pub ground17 : List ℕ
ground17 =
    0x4D ∷ 0x44 ∷ 5  -- level 25
    ∷ 0x4D ∷ 0x55 ∷ 0 ∷ 1 ∷ 26  -- 1: 26
    ∷ []

-- 17: at the mark of the second unit; 255 fields.
unfoldable pub ground17_at_second_unit : List ℕ
ground17_at_second_unit =
    0x4D ∷ 0x44 ∷ 5  -- level 25
    ∷ 0x4D ∷ 0x55 ∷ 0 ∷ 1 ∷ 25  -- 1: 25
    ∷ 0x4D ∷ 0x55 ∷ 0 ∷ 2 ∷ 255  -- 2: 255
    ∷ 0x4D ∷ 0x55 ∷ 0 ∷ 3 ∷ 26  -- 3: 26
    ∷ []

-- 17, then 7: the first record met is returned.
unfoldable pub ground17_before7 : List ℕ
ground17_before7 =
    0x4D ∷ 0x44 ∷ 5  -- level 25
    ∷ 0x4D ∷ 0x55 ∷ 0 ∷ 1 ∷ 26  -- 1: 26
    ∷ 0x4D ∷ 0x55 ∷ 0 ∷ 2  -- 4 bytes of 2: 1
    ∷ []

-- 13: at the sheet's length, with 5 bytes a unit.
unfoldable pub buffer_without_room : List ℕ
buffer_without_room =
    0x4D ∷ 0x44 ∷ 2  -- level 12
    ∷ 0x4D ∷ 0x55 ∷ 0 ∷ 1 ∷ 3  -- 1: 3
    ∷ 0x4D ∷ 0x55 ∷ 0 ∷ 2 ∷ 9  -- 2: 9
    ∷ 0x4D ∷ 0x55 ∷ 0 ∷ 3 ∷ 9  -- 3: 9
    ∷ []

pub record RefusedSheets : Type 0 where
  pub two_bytes_holds : RefusedWith 1 two_bytes 0
  pub another_mark_holds : RefusedWith 1 another_mark 0
  pub mark_of_tally_sheet_holds : RefusedWith 1 mark_of_tally_sheet 0
  pub grounds_1_and_16 : RefusedWith 1 grounds1_and16 0
  pub ground_16 : RefusedWith 16 ground16 0
  pub largest_level_row_holds : RefusedWith 16 largest_level_row 0
  pub grounds_16_and_6 : RefusedWith 16 grounds16_and6 0
  pub one_byte_left_holds : RefusedWith 6 one_byte_left 8
  pub unit_of_tally_sheet_holds : RefusedWith 6 unit_of_tally_sheet 8
  pub second_opening_holds : RefusedWith 6 second_opening 3
  pub ground_6_before_17 : RefusedWith 6 ground6_before17 3
  pub unit_cut_short_holds : RefusedWith 7 unit_cut_short 8
  pub mark_alone_holds : RefusedWith 7 mark_alone 3
  pub fields_missing_holds : RefusedWith 7 fields_missing 8
  pub ground_17 : RefusedWith 17 ground17 3
  pub ground_17_at_second_unit : RefusedWith 17 ground17_at_second_unit 8
  pub ground_17_before_7 : RefusedWith 17 ground17_before7 3
  pub buffer_without_room_holds : WithoutRoom 13 buffer_without_room 3 18

-- all of them
pub record MoldSheets : Type 0 where
  pub levels : LevelSheets
  pub units : UnitSheets
  pub refusals : RefusedSheets

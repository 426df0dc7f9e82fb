-- Recorded sheets and second plans in bytes, as one group: the record at the end. Each regrading is held to the answer and the result
-- bytes that the independent grader gives for it (tests/grader, written from the papers alone), so that a rule which is wrong on one of
-- them alike in a definition and in the code that meets it is refused here. This file is printed by
-- tests/cases/src/bin/computed_regradings.rs.
use Rattle.std.specs.Prelude.{ℕ, List, [], ◌∷◌, ◌++◌, take, set}
use Rattle.results.specs.Record.{result_size}
use Rattle.outcome.specs.Outcome.{Outcome}
use Rattle.outcome.specs.Held.{GradedBy, RefusedBy, WithoutRoomBy}
use Rattle.regrade.specs.Outcome.{regrade_outcome}
use Rattle.computed.specs.FurtherSheets.{largest_plan}

module _ (plan : List ℕ) where
  -- what a sheet comes to under this second plan
  abbrev pub under : List ℕ → List ℕ → Outcome
  under bytes buffer = regrade_outcome bytes plan buffer

  abbrev pub Graded : List ℕ → ℕ → ℕ → List ℕ → Type 0
  Graded = GradedBy under result_size

  abbrev pub RefusedWith : ℕ → List ℕ → ℕ → Type 0
  RefusedWith = RefusedBy under

  abbrev pub WithoutRoom : ℕ → List ℕ → ℕ → ℕ → Type 0
  WithoutRoom = WithoutRoomBy under result_size

-- ---- plans: 50 4C, the designated grade; then for A, B, C a line for each class, with its S/T/L

-- the one under which the sheets are recorded: the peach plan of paper 01, designated A
unfoldable pub recorded_plan : List ℕ
recorded_plan =
    0x50 ∷ 0x4C ∷ 0
    -- A
    ∷ 0 ∷ 0 ∷ 0 ∷ 5 ∷ 0 ∷ 5  -- 0/0.5/0.5
    ∷ 0 ∷ 5 ∷ 0 ∷ 15 ∷ 0 ∷ 20  -- 0.5/1.5/2
    ∷ 0 ∷ 10 ∷ 0 ∷ 30 ∷ 0 ∷ 30  -- 1/3/3
    ∷ 0 ∷ 10 ∷ 0 ∷ 60 ∷ 0 ∷ 40  -- 1/6/4
    -- B
    ∷ 0 ∷ 0 ∷ 0 ∷ 10 ∷ 0 ∷ 10  -- 0/1/1
    ∷ 0 ∷ 10 ∷ 0 ∷ 30 ∷ 0 ∷ 30  -- 1/3/3
    ∷ 0 ∷ 10 ∷ 0 ∷ 50 ∷ 0 ∷ 30  -- 1/5/3
    ∷ 0 ∷ 20 ∷ 0 ∷ 120 ∷ 0 ∷ 50  -- 2/12/5
    -- C
    ∷ 0 ∷ 10 ∷ 0 ∷ 20 ∷ 0 ∷ 20  -- 1/2/2
    ∷ 0 ∷ 10 ∷ 0 ∷ 50 ∷ 0 ∷ 30  -- 1/5/3
    ∷ 0 ∷ 10 ∷ 0 ∷ 60 ∷ 0 ∷ 40  -- 1/6/4
    ∷ 0 ∷ 20 ∷ 0 ∷ 170 ∷ 0 ∷ 70  -- 2/17/7
    ∷ []

-- a buyer's, designated A: another number in every place
unfoldable pub buyer_a : List ℕ
buyer_a =
    0x50 ∷ 0x4C ∷ 0
    -- A
    ∷ 0 ∷ 2 ∷ 0 ∷ 4 ∷ 0 ∷ 7  -- 0.2/0.4/0.7
    ∷ 0 ∷ 6 ∷ 0 ∷ 12 ∷ 0 ∷ 22  -- 0.6/1.2/2.2
    ∷ 0 ∷ 5 ∷ 0 ∷ 20 ∷ 0 ∷ 25  -- 0.5/2/2.5
    ∷ 0 ∷ 15 ∷ 0 ∷ 50 ∷ 0 ∷ 45  -- 1.5/5/4.5
    -- B
    ∷ 0 ∷ 3 ∷ 0 ∷ 8 ∷ 0 ∷ 9  -- 0.3/0.8/0.9
    ∷ 0 ∷ 8 ∷ 0 ∷ 25 ∷ 0 ∷ 25  -- 0.8/2.5/2.5
    ∷ 0 ∷ 12 ∷ 0 ∷ 34 ∷ 0 ∷ 27  -- 1.2/3.4/2.7
    ∷ 0 ∷ 25 ∷ 0 ∷ 95 ∷ 0 ∷ 60  -- 2.5/9.5/6
    -- C
    ∷ 0 ∷ 4 ∷ 0 ∷ 15 ∷ 0 ∷ 16  -- 0.4/1.5/1.6
    ∷ 0 ∷ 11 ∷ 0 ∷ 40 ∷ 0 ∷ 35  -- 1.1/4/3.5
    ∷ 0 ∷ 14 ∷ 0 ∷ 55 ∷ 0 ∷ 45  -- 1.4/5.5/4.5
    ∷ 0 ∷ 30 ∷ 0 ∷ 140 ∷ 0 ∷ 90  -- 3/14/9
    ∷ []

-- designated B
unfoldable pub buyer_b : List ℕ
buyer_b = set buyer_a 2 1

-- designated C
unfoldable pub buyer_c : List ℕ
buyer_c = set buyer_a 2 2

-- the buyer's in appendix 7 of source document 000, designated B
unfoldable pub manual_plan : List ℕ
manual_plan =
    0x50 ∷ 0x4C ∷ 1
    -- A
    ∷ 0 ∷ 3 ∷ 0 ∷ 1 ∷ 0 ∷ 9  -- 0.3/0.1/0.9
    ∷ 0 ∷ 0 ∷ 0 ∷ 5 ∷ 0 ∷ 5  -- 0/0.5/0.5
    ∷ 0 ∷ 0 ∷ 0 ∷ 10 ∷ 0 ∷ 10  -- 0/1/1
    ∷ 0 ∷ 10 ∷ 0 ∷ 20 ∷ 0 ∷ 30  -- 1/2/3
    -- B
    ∷ 0 ∷ 0 ∷ 0 ∷ 5 ∷ 0 ∷ 5  -- 0/0.5/0.5
    ∷ 0 ∷ 0 ∷ 0 ∷ 10 ∷ 0 ∷ 10  -- 0/1/1
    ∷ 0 ∷ 15 ∷ 0 ∷ 15 ∷ 0 ∷ 30  -- 1.5/1.5/3
    ∷ 0 ∷ 10 ∷ 0 ∷ 30 ∷ 0 ∷ 30  -- 1/3/3
    -- C
    ∷ 0 ∷ 0 ∷ 0 ∷ 10 ∷ 0 ∷ 10  -- 0/1/1
    ∷ 0 ∷ 5 ∷ 0 ∷ 15 ∷ 0 ∷ 20  -- 0.5/1.5/2
    ∷ 0 ∷ 0 ∷ 0 ∷ 30 ∷ 0 ∷ 30  -- 0/3/3
    ∷ 0 ∷ 10 ∷ 0 ∷ 50 ∷ 0 ∷ 30  -- 1/5/3
    ∷ []

-- In a sheet behind each record its content: of a unit code, counts of critical, severe, major, minor, prerequisite, recoverable. In
-- results behind each record the line that is printed for it.

-- ---- failed units stay in their order, and two in a row mean nothing

-- Appendix 7 of source document 000, units 1 to 7, designated B. The plan of the sheet itself is
-- not told. Unit 4 fails in total, 0+7-3 being above 3, and is at L in critical.
unfoldable pub manual_example : List ℕ
manual_example =
    recorded_plan
    ++ (0x53 ∷ 0x55 ∷ 0 ∷ 1 ∷ 0 ∷ 0 ∷ 0 ∷ 1 ∷ 0 ∷ 1 ∷ 0 ∷ 1 ∷ 0 ∷ 1  -- 1: 0,1,1,1;A;1
    ∷ 0x53 ∷ 0x55 ∷ 0 ∷ 1 ∷ 0 ∷ 0 ∷ 0 ∷ 0 ∷ 0 ∷ 0 ∷ 0 ∷ 1 ∷ 0 ∷ 1  -- 1: 0,0,0,1;A;1
    ∷ 0x53 ∷ 0x55 ∷ 0 ∷ 1 ∷ 0 ∷ 0 ∷ 0 ∷ 0 ∷ 0 ∷ 1 ∷ 0 ∷ 1 ∷ 0 ∷ 1  -- 1: 0,0,1,1;A;1
    ∷ 0x53 ∷ 0x55 ∷ 0 ∷ 2 ∷ 0 ∷ 1 ∷ 0 ∷ 1 ∷ 0 ∷ 1 ∷ 0 ∷ 4 ∷ 0 ∷ 1  -- 2: 1,1,1,4;A;1
    ∷ 0x53 ∷ 0x55 ∷ 0 ∷ 2 ∷ 0 ∷ 0 ∷ 0 ∷ 1 ∷ 0 ∷ 1 ∷ 0 ∷ 1 ∷ 0 ∷ 1  -- 2: 0,1,1,1;A;1
    ∷ 0x53 ∷ 0x55 ∷ 0 ∷ 3 ∷ 0 ∷ 0 ∷ 0 ∷ 0 ∷ 0 ∷ 1 ∷ 0 ∷ 1 ∷ 0 ∷ 1  -- 3: 0,0,1,1;A;1
    ∷ 0x53 ∷ 0x55 ∷ 0 ∷ 3 ∷ 0 ∷ 0 ∷ 0 ∷ 0 ∷ 0 ∷ 1 ∷ 0 ∷ 1 ∷ 0 ∷ 1  -- 3: 0,0,1,1;A;1
    ∷ [])

unfoldable pub manual_example_results : List ℕ
manual_example_results =
    0x47 ∷ 0x52 ∷ 0 ∷ 1 ∷ 1 ∷ 1 ∷ 1 ∷ 0 ∷ 0 ∷ 0 ∷ 0 ∷ 0 ∷ 0 ∷ 10 ∷ 0 ∷ 10  -- 1 1 B B m B 0.0 0.0 1.0 1.0
    ∷ 0 ∷ 0 ∷ 0 ∷ 0 ∷ 0 ∷ 0 ∷ 0 ∷ 0 ∷ 0 ∷ 0 ∷ 0 ∷ 0 ∷ 0 ∷ 0 ∷ 0 ∷ 0
    ∷ 0x47 ∷ 0x52 ∷ 0 ∷ 1 ∷ 1 ∷ 1 ∷ 1 ∷ 0 ∷ 0 ∷ 0 ∷ 0 ∷ 0 ∷ 0 ∷ 0 ∷ 0 ∷ 0  -- 2 1 B B m B 0.0 0.0 0.0 0.0
    ∷ 0 ∷ 0 ∷ 0 ∷ 0 ∷ 0 ∷ 0 ∷ 0 ∷ 0 ∷ 0 ∷ 0 ∷ 0 ∷ 0 ∷ 0 ∷ 0 ∷ 0 ∷ 0
    ∷ 0x47 ∷ 0x52 ∷ 0 ∷ 1 ∷ 1 ∷ 1 ∷ 1 ∷ 0 ∷ 0 ∷ 0 ∷ 0 ∷ 0 ∷ 0 ∷ 0 ∷ 0 ∷ 0  -- 3 1 B B m B 0.0 0.0 0.0 0.0
    ∷ 0 ∷ 0 ∷ 0 ∷ 0 ∷ 0 ∷ 0 ∷ 0 ∷ 0 ∷ 0 ∷ 0 ∷ 0 ∷ 0 ∷ 0 ∷ 0 ∷ 0 ∷ 0
    ∷ 0x47 ∷ 0x52 ∷ 0 ∷ 2 ∷ 2 ∷ 2 ∷ 1 ∷ 1 ∷ 0 ∷ 5 ∷ 0 ∷ 0 ∷ 0 ∷ 0 ∷ 0 ∷ 30  -- 4 2 C C f B 0.5 0.0 0.0 3.0
    ∷ 0 ∷ 0 ∷ 0 ∷ 0 ∷ 0 ∷ 0 ∷ 0 ∷ 0 ∷ 0 ∷ 0 ∷ 0 ∷ 0 ∷ 0 ∷ 0 ∷ 0 ∷ 10
    ∷ 0x47 ∷ 0x52 ∷ 0 ∷ 2 ∷ 1 ∷ 2 ∷ 1 ∷ 0 ∷ 0 ∷ 0 ∷ 0 ∷ 0 ∷ 0 ∷ 0 ∷ 0 ∷ 30  -- 5 2 B C m B 0.0 0.0 0.0 3.0
    ∷ 0 ∷ 0 ∷ 0 ∷ 0 ∷ 0 ∷ 0 ∷ 0 ∷ 0 ∷ 0 ∷ 0 ∷ 0 ∷ 0 ∷ 0 ∷ 0 ∷ 0 ∷ 0
    ∷ 0x47 ∷ 0x52 ∷ 0 ∷ 3 ∷ 1 ∷ 1 ∷ 1 ∷ 0 ∷ 0 ∷ 0 ∷ 0 ∷ 0 ∷ 0 ∷ 0 ∷ 0 ∷ 20  -- 6 3 B B m B 0.0 0.0 0.0 2.0
    ∷ 0 ∷ 0 ∷ 0 ∷ 0 ∷ 0 ∷ 0 ∷ 0 ∷ 0 ∷ 0 ∷ 0 ∷ 0 ∷ 0 ∷ 0 ∷ 0 ∷ 0 ∷ 0
    ∷ 0x47 ∷ 0x52 ∷ 0 ∷ 3 ∷ 1 ∷ 1 ∷ 1 ∷ 0 ∷ 0 ∷ 0 ∷ 0 ∷ 0 ∷ 0 ∷ 0 ∷ 0 ∷ 10  -- 7 3 B B m B 0.0 0.0 0.0 1.0
    ∷ 0 ∷ 0 ∷ 0 ∷ 0 ∷ 0 ∷ 0 ∷ 0 ∷ 0 ∷ 0 ∷ 0 ∷ 0 ∷ 0 ∷ 0 ∷ 0 ∷ 0 ∷ 0
    ∷ []

-- Unit 2 failed when it was recorded. It keeps its place and counts: it comes to 0+15-9.5, and
-- unit 3 from there to 2; without unit 2 it would come to 0, from the L of the sheet's plan to
-- 0.5.
unfoldable pub failure_of_recorded_plan : List ℕ
failure_of_recorded_plan =
    recorded_plan
    ++ (0x53 ∷ 0x55 ∷ 0 ∷ 1 ∷ 0 ∷ 0 ∷ 0 ∷ 0 ∷ 0 ∷ 0 ∷ 0 ∷ 4 ∷ 0 ∷ 1  -- 1: 0,0,0,4;A;1
    ∷ 0x53 ∷ 0x55 ∷ 0 ∷ 2 ∷ 0 ∷ 0 ∷ 0 ∷ 0 ∷ 0 ∷ 0 ∷ 0 ∷ 15 ∷ 0 ∷ 1  -- 2: 0,0,0,15;A;1
    ∷ 0x53 ∷ 0x55 ∷ 0 ∷ 3 ∷ 0 ∷ 0 ∷ 0 ∷ 0 ∷ 0 ∷ 0 ∷ 0 ∷ 6 ∷ 0 ∷ 1  -- 3: 0,0,0,6;A;1
    ∷ [])

unfoldable pub failure_of_recorded_plan_results : List ℕ
failure_of_recorded_plan_results =
    0x47 ∷ 0x52 ∷ 0 ∷ 1 ∷ 1 ∷ 1 ∷ 1 ∷ 0 ∷ 0 ∷ 0 ∷ 0 ∷ 0 ∷ 0 ∷ 0 ∷ 0 ∷ 0  -- 1 1 B B m B 0.0 0.0 0.0 0.0
    ∷ 0 ∷ 0 ∷ 0 ∷ 0 ∷ 0 ∷ 0 ∷ 0 ∷ 0 ∷ 0 ∷ 0 ∷ 0 ∷ 0 ∷ 0 ∷ 0 ∷ 0 ∷ 0
    ∷ 0x47 ∷ 0x52 ∷ 0 ∷ 2 ∷ 1 ∷ 1 ∷ 1 ∷ 0 ∷ 0 ∷ 0 ∷ 0 ∷ 0 ∷ 0 ∷ 0 ∷ 0 ∷ 55  -- 2 2 B B m B 0.0 0.0 0.0 5.5
    ∷ 0 ∷ 0 ∷ 0 ∷ 0 ∷ 0 ∷ 0 ∷ 0 ∷ 0 ∷ 0 ∷ 0 ∷ 0 ∷ 0 ∷ 0 ∷ 0 ∷ 0 ∷ 0
    ∷ 0x47 ∷ 0x52 ∷ 0 ∷ 3 ∷ 1 ∷ 1 ∷ 1 ∷ 0 ∷ 0 ∷ 0 ∷ 0 ∷ 0 ∷ 0 ∷ 0 ∷ 0 ∷ 20  -- 3 3 B B m B 0.0 0.0 0.0 2.0
    ∷ 0 ∷ 0 ∷ 0 ∷ 0 ∷ 0 ∷ 0 ∷ 0 ∷ 0 ∷ 0 ∷ 0 ∷ 0 ∷ 0 ∷ 0 ∷ 0 ∷ 0 ∷ 0
    ∷ []

-- Unit 2 fails, 3+18-9.5 being above 6. It has its record, and unit 3 goes on from L: without
-- unit 2 it would come to 2.5, from the raw value it would fail.
unfoldable pub failure_of_second_plan : List ℕ
failure_of_second_plan =
    recorded_plan
    ++ (0x53 ∷ 0x55 ∷ 0 ∷ 1 ∷ 0 ∷ 0 ∷ 0 ∷ 0 ∷ 0 ∷ 0 ∷ 0 ∷ 10 ∷ 0 ∷ 1  -- 1: 0,0,0,10;A;1
    ∷ 0x53 ∷ 0x55 ∷ 0 ∷ 2 ∷ 0 ∷ 0 ∷ 0 ∷ 0 ∷ 0 ∷ 0 ∷ 0 ∷ 18 ∷ 0 ∷ 1  -- 2: 0,0,0,18;A;1
    ∷ 0x53 ∷ 0x55 ∷ 0 ∷ 3 ∷ 0 ∷ 0 ∷ 0 ∷ 0 ∷ 0 ∷ 0 ∷ 0 ∷ 9 ∷ 0 ∷ 1  -- 3: 0,0,0,9;A;1
    ∷ [])

unfoldable pub failure_of_second_plan_results : List ℕ
failure_of_second_plan_results =
    0x47 ∷ 0x52 ∷ 0 ∷ 1 ∷ 1 ∷ 1 ∷ 1 ∷ 0 ∷ 0 ∷ 0 ∷ 0 ∷ 0 ∷ 0 ∷ 0 ∷ 0 ∷ 30  -- 1 1 B B m B 0.0 0.0 0.0 3.0
    ∷ 0 ∷ 0 ∷ 0 ∷ 0 ∷ 0 ∷ 0 ∷ 0 ∷ 0 ∷ 0 ∷ 0 ∷ 0 ∷ 0 ∷ 0 ∷ 0 ∷ 0 ∷ 0
    ∷ 0x47 ∷ 0x52 ∷ 0 ∷ 2 ∷ 2 ∷ 2 ∷ 1 ∷ 1 ∷ 0 ∷ 0 ∷ 0 ∷ 0 ∷ 0 ∷ 0 ∷ 0 ∷ 60  -- 2 2 C C f B 0.0 0.0 0.0 6.0
    ∷ 0 ∷ 0 ∷ 0 ∷ 0 ∷ 0 ∷ 0 ∷ 0 ∷ 0 ∷ 0 ∷ 0 ∷ 0 ∷ 0 ∷ 0 ∷ 0 ∷ 0 ∷ 55
    ∷ 0x47 ∷ 0x52 ∷ 0 ∷ 3 ∷ 1 ∷ 1 ∷ 1 ∷ 0 ∷ 0 ∷ 0 ∷ 0 ∷ 0 ∷ 0 ∷ 0 ∷ 0 ∷ 55  -- 3 3 B B m B 0.0 0.0 0.0 5.5
    ∷ 0 ∷ 0 ∷ 0 ∷ 0 ∷ 0 ∷ 0 ∷ 0 ∷ 0 ∷ 0 ∷ 0 ∷ 0 ∷ 0 ∷ 0 ∷ 0 ∷ 0 ∷ 0
    ∷ []

-- No step 3: unit 3 is under B and not under C, meets and goes on from L. From the S of B it
-- would come to 2, from that of C to 0.
unfoldable pub two_failures : List ℕ
two_failures =
    recorded_plan
    ++ (0x53 ∷ 0x55 ∷ 0 ∷ 1 ∷ 0 ∷ 0 ∷ 0 ∷ 0 ∷ 0 ∷ 0 ∷ 0 ∷ 14 ∷ 0 ∷ 1  -- 1: 0,0,0,14;A;1
    ∷ 0x53 ∷ 0x55 ∷ 0 ∷ 2 ∷ 0 ∷ 0 ∷ 0 ∷ 0 ∷ 0 ∷ 0 ∷ 0 ∷ 14 ∷ 0 ∷ 1  -- 2: 0,0,0,14;A;1
    ∷ 0x53 ∷ 0x55 ∷ 0 ∷ 3 ∷ 0 ∷ 0 ∷ 0 ∷ 0 ∷ 0 ∷ 0 ∷ 0 ∷ 9 ∷ 0 ∷ 1  -- 3: 0,0,0,9;A;1
    ∷ [])

unfoldable pub two_failures_results : List ℕ
two_failures_results =
    0x47 ∷ 0x52 ∷ 0 ∷ 1 ∷ 2 ∷ 2 ∷ 1 ∷ 1 ∷ 0 ∷ 0 ∷ 0 ∷ 0 ∷ 0 ∷ 0 ∷ 0 ∷ 60  -- 1 1 C C f B 0.0 0.0 0.0 6.0
    ∷ 0 ∷ 0 ∷ 0 ∷ 0 ∷ 0 ∷ 0 ∷ 0 ∷ 0 ∷ 0 ∷ 0 ∷ 0 ∷ 0 ∷ 0 ∷ 0 ∷ 0 ∷ 10
    ∷ 0x47 ∷ 0x52 ∷ 0 ∷ 2 ∷ 2 ∷ 2 ∷ 1 ∷ 1 ∷ 0 ∷ 0 ∷ 0 ∷ 0 ∷ 0 ∷ 0 ∷ 0 ∷ 60  -- 2 2 C C f B 0.0 0.0 0.0 6.0
    ∷ 0 ∷ 0 ∷ 0 ∷ 0 ∷ 0 ∷ 0 ∷ 0 ∷ 0 ∷ 0 ∷ 0 ∷ 0 ∷ 0 ∷ 0 ∷ 0 ∷ 0 ∷ 45
    ∷ 0x47 ∷ 0x52 ∷ 0 ∷ 3 ∷ 1 ∷ 1 ∷ 1 ∷ 0 ∷ 0 ∷ 0 ∷ 0 ∷ 0 ∷ 0 ∷ 0 ∷ 0 ∷ 55  -- 3 3 B B m B 0.0 0.0 0.0 5.5
    ∷ 0 ∷ 0 ∷ 0 ∷ 0 ∷ 0 ∷ 0 ∷ 0 ∷ 0 ∷ 0 ∷ 0 ∷ 0 ∷ 0 ∷ 0 ∷ 0 ∷ 0 ∷ 0
    ∷ []

-- The third is Substandard, and the fourth unit is still under B, from L.
unfoldable pub three_failures : List ℕ
three_failures =
    recorded_plan
    ++ (0x53 ∷ 0x55 ∷ 0 ∷ 1 ∷ 0 ∷ 0 ∷ 0 ∷ 0 ∷ 0 ∷ 0 ∷ 0 ∷ 14 ∷ 0 ∷ 1  -- 1: 0,0,0,14;A;1
    ∷ 0x53 ∷ 0x55 ∷ 0 ∷ 2 ∷ 0 ∷ 0 ∷ 0 ∷ 0 ∷ 0 ∷ 0 ∷ 0 ∷ 18 ∷ 0 ∷ 1  -- 2: 0,0,0,18;A;1
    ∷ 0x53 ∷ 0x55 ∷ 0 ∷ 3 ∷ 0 ∷ 0 ∷ 0 ∷ 0 ∷ 0 ∷ 0 ∷ 0 ∷ 24 ∷ 0 ∷ 1  -- 3: 0,0,0,24;A;1
    ∷ 0x53 ∷ 0x55 ∷ 0 ∷ 4 ∷ 0 ∷ 0 ∷ 0 ∷ 0 ∷ 0 ∷ 0 ∷ 0 ∷ 9 ∷ 0 ∷ 1  -- 4: 0,0,0,9;A;1
    ∷ [])

unfoldable pub three_failures_results : List ℕ
three_failures_results =
    0x47 ∷ 0x52 ∷ 0 ∷ 1 ∷ 2 ∷ 2 ∷ 1 ∷ 1 ∷ 0 ∷ 0 ∷ 0 ∷ 0 ∷ 0 ∷ 0 ∷ 0 ∷ 60  -- 1 1 C C f B 0.0 0.0 0.0 6.0
    ∷ 0 ∷ 0 ∷ 0 ∷ 0 ∷ 0 ∷ 0 ∷ 0 ∷ 0 ∷ 0 ∷ 0 ∷ 0 ∷ 0 ∷ 0 ∷ 0 ∷ 0 ∷ 10
    ∷ 0x47 ∷ 0x52 ∷ 0 ∷ 2 ∷ 2 ∷ 2 ∷ 1 ∷ 1 ∷ 0 ∷ 0 ∷ 0 ∷ 0 ∷ 0 ∷ 0 ∷ 0 ∷ 60  -- 2 2 C C f B 0.0 0.0 0.0 6.0
    ∷ 0 ∷ 0 ∷ 0 ∷ 0 ∷ 0 ∷ 0 ∷ 0 ∷ 0 ∷ 0 ∷ 0 ∷ 0 ∷ 0 ∷ 0 ∷ 0 ∷ 0 ∷ 85
    ∷ 0x47 ∷ 0x52 ∷ 0 ∷ 3 ∷ 3 ∷ 3 ∷ 1 ∷ 1 ∷ 0 ∷ 0 ∷ 0 ∷ 0 ∷ 0 ∷ 0 ∷ 0 ∷ 60  -- 3 3 S S f B 0.0 0.0 0.0 6.0
    ∷ 0 ∷ 0 ∷ 0 ∷ 0 ∷ 0 ∷ 0 ∷ 0 ∷ 0 ∷ 0 ∷ 0 ∷ 0 ∷ 0 ∷ 0 ∷ 0 ∷ 0 ∷ 145
    ∷ 0x47 ∷ 0x52 ∷ 0 ∷ 4 ∷ 1 ∷ 1 ∷ 1 ∷ 0 ∷ 0 ∷ 0 ∷ 0 ∷ 0 ∷ 0 ∷ 0 ∷ 0 ∷ 55  -- 4 4 B B m B 0.0 0.0 0.0 5.5
    ∷ 0 ∷ 0 ∷ 0 ∷ 0 ∷ 0 ∷ 0 ∷ 0 ∷ 0 ∷ 0 ∷ 0 ∷ 0 ∷ 0 ∷ 0 ∷ 0 ∷ 0 ∷ 0
    ∷ []

-- Unit 1 is Substandard, and unit 2 grades C by its own counts.
unfoldable pub failure_behind_worse_one : List ℕ
failure_behind_worse_one =
    recorded_plan
    ++ (0x53 ∷ 0x55 ∷ 0 ∷ 1 ∷ 0 ∷ 0 ∷ 0 ∷ 0 ∷ 0 ∷ 0 ∷ 0 ∷ 24 ∷ 0 ∷ 1  -- 1: 0,0,0,24;A;1
    ∷ 0x53 ∷ 0x55 ∷ 0 ∷ 2 ∷ 0 ∷ 0 ∷ 0 ∷ 0 ∷ 0 ∷ 0 ∷ 0 ∷ 14 ∷ 0 ∷ 1  -- 2: 0,0,0,14;A;1
    ∷ 0x53 ∷ 0x55 ∷ 0 ∷ 3 ∷ 0 ∷ 0 ∷ 0 ∷ 0 ∷ 0 ∷ 0 ∷ 0 ∷ 9 ∷ 0 ∷ 1  -- 3: 0,0,0,9;A;1
    ∷ [])

unfoldable pub failure_behind_worse_one_results : List ℕ
failure_behind_worse_one_results =
    0x47 ∷ 0x52 ∷ 0 ∷ 1 ∷ 3 ∷ 3 ∷ 1 ∷ 1 ∷ 0 ∷ 0 ∷ 0 ∷ 0 ∷ 0 ∷ 0 ∷ 0 ∷ 60  -- 1 1 S S f B 0.0 0.0 0.0 6.0
    ∷ 0 ∷ 0 ∷ 0 ∷ 0 ∷ 0 ∷ 0 ∷ 0 ∷ 0 ∷ 0 ∷ 0 ∷ 0 ∷ 0 ∷ 0 ∷ 0 ∷ 0 ∷ 110
    ∷ 0x47 ∷ 0x52 ∷ 0 ∷ 2 ∷ 2 ∷ 2 ∷ 1 ∷ 1 ∷ 0 ∷ 0 ∷ 0 ∷ 0 ∷ 0 ∷ 0 ∷ 0 ∷ 60  -- 2 2 C C f B 0.0 0.0 0.0 6.0
    ∷ 0 ∷ 0 ∷ 0 ∷ 0 ∷ 0 ∷ 0 ∷ 0 ∷ 0 ∷ 0 ∷ 0 ∷ 0 ∷ 0 ∷ 0 ∷ 0 ∷ 0 ∷ 45
    ∷ 0x47 ∷ 0x52 ∷ 0 ∷ 3 ∷ 1 ∷ 1 ∷ 1 ∷ 0 ∷ 0 ∷ 0 ∷ 0 ∷ 0 ∷ 0 ∷ 0 ∷ 0 ∷ 55  -- 3 3 B B m B 0.0 0.0 0.0 5.5
    ∷ 0 ∷ 0 ∷ 0 ∷ 0 ∷ 0 ∷ 0 ∷ 0 ∷ 0 ∷ 0 ∷ 0 ∷ 0 ∷ 0 ∷ 0 ∷ 0 ∷ 0 ∷ 0
    ∷ []

-- Severe, 0.8+5-2.5 being above 2.5, then critical, 0+2-0.8 being above 0.9.
unfoldable pub two_failures_in_different_classes : List ℕ
two_failures_in_different_classes =
    recorded_plan
    ++ (0x53 ∷ 0x55 ∷ 0 ∷ 1 ∷ 0 ∷ 0 ∷ 0 ∷ 5 ∷ 0 ∷ 0 ∷ 0 ∷ 0 ∷ 0 ∷ 1  -- 1: 0,5,0,0;A;1
    ∷ 0x53 ∷ 0x55 ∷ 0 ∷ 2 ∷ 0 ∷ 2 ∷ 0 ∷ 0 ∷ 0 ∷ 0 ∷ 0 ∷ 0 ∷ 0 ∷ 1  -- 2: 2,0,0,0;A;1
    ∷ 0x53 ∷ 0x55 ∷ 0 ∷ 3 ∷ 0 ∷ 0 ∷ 0 ∷ 0 ∷ 0 ∷ 0 ∷ 0 ∷ 0 ∷ 0 ∷ 1  -- 3: 0,0,0,0;A;1
    ∷ [])

unfoldable pub two_failures_in_different_classes_results : List ℕ
two_failures_in_different_classes_results =
    0x47 ∷ 0x52 ∷ 0 ∷ 1 ∷ 2 ∷ 2 ∷ 1 ∷ 1 ∷ 0 ∷ 0 ∷ 0 ∷ 25 ∷ 0 ∷ 0 ∷ 0 ∷ 0  -- 1 1 C C f B 0.0 2.5 0.0 0.0
    ∷ 0 ∷ 0 ∷ 0 ∷ 0 ∷ 0 ∷ 0 ∷ 0 ∷ 8 ∷ 0 ∷ 0 ∷ 0 ∷ 0 ∷ 0 ∷ 0 ∷ 0 ∷ 0
    ∷ 0x47 ∷ 0x52 ∷ 0 ∷ 2 ∷ 2 ∷ 2 ∷ 1 ∷ 1 ∷ 0 ∷ 9 ∷ 0 ∷ 0 ∷ 0 ∷ 0 ∷ 0 ∷ 0  -- 2 2 C C f B 0.9 0.0 0.0 0.0
    ∷ 0 ∷ 0 ∷ 0 ∷ 3 ∷ 0 ∷ 0 ∷ 0 ∷ 0 ∷ 0 ∷ 0 ∷ 0 ∷ 0 ∷ 0 ∷ 0 ∷ 0 ∷ 0
    ∷ 0x47 ∷ 0x52 ∷ 0 ∷ 3 ∷ 1 ∷ 1 ∷ 1 ∷ 0 ∷ 0 ∷ 1 ∷ 0 ∷ 0 ∷ 0 ∷ 0 ∷ 0 ∷ 0  -- 3 3 B B m B 0.1 0.0 0.0 0.0
    ∷ 0 ∷ 0 ∷ 0 ∷ 0 ∷ 0 ∷ 0 ∷ 0 ∷ 0 ∷ 0 ∷ 0 ∷ 0 ∷ 0 ∷ 0 ∷ 0 ∷ 0 ∷ 0
    ∷ []

-- When it was recorded, units 1 and 2 began step 3, units 3 to 5 ended it and were recovered.
-- Here all are graded one after the other, and nothing is recovered, though under the second plan
-- units 1 and 2 fail as well, units 3 to 6 are within its T, and units 4 to 6 are at 0.
unfoldable pub step_three_of_recorded_plan : List ℕ
step_three_of_recorded_plan =
    recorded_plan
    ++ (0x53 ∷ 0x55 ∷ 0 ∷ 1 ∷ 0 ∷ 0 ∷ 0 ∷ 0 ∷ 0 ∷ 0 ∷ 0 ∷ 14 ∷ 0 ∷ 1  -- 1: 0,0,0,14;A;1
    ∷ 0x53 ∷ 0x55 ∷ 0 ∷ 2 ∷ 0 ∷ 0 ∷ 0 ∷ 0 ∷ 0 ∷ 0 ∷ 0 ∷ 14 ∷ 0 ∷ 1  -- 2: 0,0,0,14;A;1
    ∷ 0x53 ∷ 0x55 ∷ 0 ∷ 3 ∷ 0 ∷ 0 ∷ 0 ∷ 0 ∷ 0 ∷ 0 ∷ 0 ∷ 6 ∷ 0 ∷ 1  -- 3: 0,0,0,6;A;1
    ∷ 0x53 ∷ 0x55 ∷ 0 ∷ 4 ∷ 0 ∷ 0 ∷ 0 ∷ 0 ∷ 0 ∷ 0 ∷ 0 ∷ 6 ∷ 0 ∷ 1  -- 4: 0,0,0,6;A;1
    ∷ 0x53 ∷ 0x55 ∷ 0 ∷ 5 ∷ 0 ∷ 0 ∷ 0 ∷ 0 ∷ 0 ∷ 0 ∷ 0 ∷ 6 ∷ 0 ∷ 1  -- 5: 0,0,0,6;A;1
    ∷ 0x53 ∷ 0x55 ∷ 0 ∷ 6 ∷ 0 ∷ 0 ∷ 0 ∷ 0 ∷ 0 ∷ 0 ∷ 0 ∷ 6 ∷ 0 ∷ 1  -- 6: 0,0,0,6;A;1
    ∷ 0x53 ∷ 0x55 ∷ 0 ∷ 7 ∷ 0 ∷ 0 ∷ 0 ∷ 0 ∷ 0 ∷ 0 ∷ 0 ∷ 10 ∷ 0 ∷ 1  -- 7: 0,0,0,10;A;1
    ∷ [])

unfoldable pub step_three_of_recorded_plan_results : List ℕ
step_three_of_recorded_plan_results =
    0x47 ∷ 0x52 ∷ 0 ∷ 1 ∷ 2 ∷ 2 ∷ 1 ∷ 1 ∷ 0 ∷ 0 ∷ 0 ∷ 0 ∷ 0 ∷ 0 ∷ 0 ∷ 60  -- 1 1 C C f B 0.0 0.0 0.0 6.0
    ∷ 0 ∷ 0 ∷ 0 ∷ 0 ∷ 0 ∷ 0 ∷ 0 ∷ 0 ∷ 0 ∷ 0 ∷ 0 ∷ 0 ∷ 0 ∷ 0 ∷ 0 ∷ 10
    ∷ 0x47 ∷ 0x52 ∷ 0 ∷ 2 ∷ 2 ∷ 2 ∷ 1 ∷ 1 ∷ 0 ∷ 0 ∷ 0 ∷ 0 ∷ 0 ∷ 0 ∷ 0 ∷ 60  -- 2 2 C C f B 0.0 0.0 0.0 6.0
    ∷ 0 ∷ 0 ∷ 0 ∷ 0 ∷ 0 ∷ 0 ∷ 0 ∷ 0 ∷ 0 ∷ 0 ∷ 0 ∷ 0 ∷ 0 ∷ 0 ∷ 0 ∷ 45
    ∷ 0x47 ∷ 0x52 ∷ 0 ∷ 3 ∷ 1 ∷ 1 ∷ 1 ∷ 0 ∷ 0 ∷ 0 ∷ 0 ∷ 0 ∷ 0 ∷ 0 ∷ 0 ∷ 25  -- 3 3 B B m B 0.0 0.0 0.0 2.5
    ∷ 0 ∷ 0 ∷ 0 ∷ 0 ∷ 0 ∷ 0 ∷ 0 ∷ 0 ∷ 0 ∷ 0 ∷ 0 ∷ 0 ∷ 0 ∷ 0 ∷ 0 ∷ 0
    ∷ 0x47 ∷ 0x52 ∷ 0 ∷ 4 ∷ 1 ∷ 1 ∷ 1 ∷ 0 ∷ 0 ∷ 0 ∷ 0 ∷ 0 ∷ 0 ∷ 0 ∷ 0 ∷ 0  -- 4 4 B B m B 0.0 0.0 0.0 0.0
    ∷ 0 ∷ 0 ∷ 0 ∷ 0 ∷ 0 ∷ 0 ∷ 0 ∷ 0 ∷ 0 ∷ 0 ∷ 0 ∷ 0 ∷ 0 ∷ 0 ∷ 0 ∷ 0
    ∷ 0x47 ∷ 0x52 ∷ 0 ∷ 5 ∷ 1 ∷ 1 ∷ 1 ∷ 0 ∷ 0 ∷ 0 ∷ 0 ∷ 0 ∷ 0 ∷ 0 ∷ 0 ∷ 0  -- 5 5 B B m B 0.0 0.0 0.0 0.0
    ∷ 0 ∷ 0 ∷ 0 ∷ 0 ∷ 0 ∷ 0 ∷ 0 ∷ 0 ∷ 0 ∷ 0 ∷ 0 ∷ 0 ∷ 0 ∷ 0 ∷ 0 ∷ 0
    ∷ 0x47 ∷ 0x52 ∷ 0 ∷ 6 ∷ 1 ∷ 1 ∷ 1 ∷ 0 ∷ 0 ∷ 0 ∷ 0 ∷ 0 ∷ 0 ∷ 0 ∷ 0 ∷ 0  -- 6 6 B B m B 0.0 0.0 0.0 0.0
    ∷ 0 ∷ 0 ∷ 0 ∷ 0 ∷ 0 ∷ 0 ∷ 0 ∷ 0 ∷ 0 ∷ 0 ∷ 0 ∷ 0 ∷ 0 ∷ 0 ∷ 0 ∷ 0
    ∷ 0x47 ∷ 0x52 ∷ 0 ∷ 7 ∷ 1 ∷ 1 ∷ 1 ∷ 0 ∷ 0 ∷ 0 ∷ 0 ∷ 0 ∷ 0 ∷ 0 ∷ 0 ∷ 5  -- 7 7 B B m B 0.0 0.0 0.0 0.5
    ∷ 0 ∷ 0 ∷ 0 ∷ 0 ∷ 0 ∷ 0 ∷ 0 ∷ 0 ∷ 0 ∷ 0 ∷ 0 ∷ 0 ∷ 0 ∷ 0 ∷ 0 ∷ 0
    ∷ []

-- The same units, none of them recoverable: the same result records.
unfoldable pub no_unit_recoverable : List ℕ
no_unit_recoverable =
    recorded_plan
    ++ (0x53 ∷ 0x55 ∷ 0 ∷ 1 ∷ 0 ∷ 0 ∷ 0 ∷ 0 ∷ 0 ∷ 0 ∷ 0 ∷ 14 ∷ 0 ∷ 0  -- 1: 0,0,0,14;A;0
    ∷ 0x53 ∷ 0x55 ∷ 0 ∷ 2 ∷ 0 ∷ 0 ∷ 0 ∷ 0 ∷ 0 ∷ 0 ∷ 0 ∷ 14 ∷ 0 ∷ 0  -- 2: 0,0,0,14;A;0
    ∷ 0x53 ∷ 0x55 ∷ 0 ∷ 3 ∷ 0 ∷ 0 ∷ 0 ∷ 0 ∷ 0 ∷ 0 ∷ 0 ∷ 6 ∷ 0 ∷ 0  -- 3: 0,0,0,6;A;0
    ∷ 0x53 ∷ 0x55 ∷ 0 ∷ 4 ∷ 0 ∷ 0 ∷ 0 ∷ 0 ∷ 0 ∷ 0 ∷ 0 ∷ 6 ∷ 0 ∷ 0  -- 4: 0,0,0,6;A;0
    ∷ 0x53 ∷ 0x55 ∷ 0 ∷ 5 ∷ 0 ∷ 0 ∷ 0 ∷ 0 ∷ 0 ∷ 0 ∷ 0 ∷ 6 ∷ 0 ∷ 0  -- 5: 0,0,0,6;A;0
    ∷ 0x53 ∷ 0x55 ∷ 0 ∷ 6 ∷ 0 ∷ 0 ∷ 0 ∷ 0 ∷ 0 ∷ 0 ∷ 0 ∷ 6 ∷ 0 ∷ 0  -- 6: 0,0,0,6;A;0
    ∷ 0x53 ∷ 0x55 ∷ 0 ∷ 7 ∷ 0 ∷ 0 ∷ 0 ∷ 0 ∷ 0 ∷ 0 ∷ 0 ∷ 10 ∷ 0 ∷ 0  -- 7: 0,0,0,10;A;0
    ∷ [])

unfoldable pub no_unit_recoverable_results : List ℕ
no_unit_recoverable_results =
    0x47 ∷ 0x52 ∷ 0 ∷ 1 ∷ 2 ∷ 2 ∷ 1 ∷ 1 ∷ 0 ∷ 0 ∷ 0 ∷ 0 ∷ 0 ∷ 0 ∷ 0 ∷ 60  -- 1 1 C C f B 0.0 0.0 0.0 6.0
    ∷ 0 ∷ 0 ∷ 0 ∷ 0 ∷ 0 ∷ 0 ∷ 0 ∷ 0 ∷ 0 ∷ 0 ∷ 0 ∷ 0 ∷ 0 ∷ 0 ∷ 0 ∷ 10
    ∷ 0x47 ∷ 0x52 ∷ 0 ∷ 2 ∷ 2 ∷ 2 ∷ 1 ∷ 1 ∷ 0 ∷ 0 ∷ 0 ∷ 0 ∷ 0 ∷ 0 ∷ 0 ∷ 60  -- 2 2 C C f B 0.0 0.0 0.0 6.0
    ∷ 0 ∷ 0 ∷ 0 ∷ 0 ∷ 0 ∷ 0 ∷ 0 ∷ 0 ∷ 0 ∷ 0 ∷ 0 ∷ 0 ∷ 0 ∷ 0 ∷ 0 ∷ 45
    ∷ 0x47 ∷ 0x52 ∷ 0 ∷ 3 ∷ 1 ∷ 1 ∷ 1 ∷ 0 ∷ 0 ∷ 0 ∷ 0 ∷ 0 ∷ 0 ∷ 0 ∷ 0 ∷ 25  -- 3 3 B B m B 0.0 0.0 0.0 2.5
    ∷ 0 ∷ 0 ∷ 0 ∷ 0 ∷ 0 ∷ 0 ∷ 0 ∷ 0 ∷ 0 ∷ 0 ∷ 0 ∷ 0 ∷ 0 ∷ 0 ∷ 0 ∷ 0
    ∷ 0x47 ∷ 0x52 ∷ 0 ∷ 4 ∷ 1 ∷ 1 ∷ 1 ∷ 0 ∷ 0 ∷ 0 ∷ 0 ∷ 0 ∷ 0 ∷ 0 ∷ 0 ∷ 0  -- 4 4 B B m B 0.0 0.0 0.0 0.0
    ∷ 0 ∷ 0 ∷ 0 ∷ 0 ∷ 0 ∷ 0 ∷ 0 ∷ 0 ∷ 0 ∷ 0 ∷ 0 ∷ 0 ∷ 0 ∷ 0 ∷ 0 ∷ 0
    ∷ 0x47 ∷ 0x52 ∷ 0 ∷ 5 ∷ 1 ∷ 1 ∷ 1 ∷ 0 ∷ 0 ∷ 0 ∷ 0 ∷ 0 ∷ 0 ∷ 0 ∷ 0 ∷ 0  -- 5 5 B B m B 0.0 0.0 0.0 0.0
    ∷ 0 ∷ 0 ∷ 0 ∷ 0 ∷ 0 ∷ 0 ∷ 0 ∷ 0 ∷ 0 ∷ 0 ∷ 0 ∷ 0 ∷ 0 ∷ 0 ∷ 0 ∷ 0
    ∷ 0x47 ∷ 0x52 ∷ 0 ∷ 6 ∷ 1 ∷ 1 ∷ 1 ∷ 0 ∷ 0 ∷ 0 ∷ 0 ∷ 0 ∷ 0 ∷ 0 ∷ 0 ∷ 0  -- 6 6 B B m B 0.0 0.0 0.0 0.0
    ∷ 0 ∷ 0 ∷ 0 ∷ 0 ∷ 0 ∷ 0 ∷ 0 ∷ 0 ∷ 0 ∷ 0 ∷ 0 ∷ 0 ∷ 0 ∷ 0 ∷ 0 ∷ 0
    ∷ 0x47 ∷ 0x52 ∷ 0 ∷ 7 ∷ 1 ∷ 1 ∷ 1 ∷ 0 ∷ 0 ∷ 0 ∷ 0 ∷ 0 ∷ 0 ∷ 0 ∷ 0 ∷ 5  -- 7 7 B B m B 0.0 0.0 0.0 0.5
    ∷ 0 ∷ 0 ∷ 0 ∷ 0 ∷ 0 ∷ 0 ∷ 0 ∷ 0 ∷ 0 ∷ 0 ∷ 0 ∷ 0 ∷ 0 ∷ 0 ∷ 0 ∷ 0
    ∷ []

pub record FailureSheets : Type 0 where
  pub manual_example_holds : Graded manual_plan manual_example 7 173 manual_example_results
  pub failure_of_recorded_plan_holds : Graded buyer_b failure_of_recorded_plan 3 117 failure_of_recorded_plan_results
  pub failure_of_second_plan_holds : Graded buyer_b failure_of_second_plan 3 117 failure_of_second_plan_results
  pub two_failures_holds : Graded buyer_b two_failures 3 117 two_failures_results
  pub three_failures_holds : Graded buyer_b three_failures 4 131 three_failures_results
  pub failure_behind_worse_one_holds : Graded buyer_b failure_behind_worse_one 3 117 failure_behind_worse_one_results
  pub two_failures_in_different_classes_holds : Graded buyer_b two_failures_in_different_classes 3 117 two_failures_in_different_classes_results
  pub step_three_of_recorded_plan_holds : Graded buyer_b step_three_of_recorded_plan 7 173 step_three_of_recorded_plan_results
  pub no_unit_recoverable_holds : Graded buyer_b no_unit_recoverable 7 173 no_unit_recoverable_results

-- ---- redesignations are passed over

-- Unit 2 goes on from unit 1, 5+10-9.5: from S it would come to 3, and to 0 under C.
unfoldable pub redesignation_between_units : List ℕ
redesignation_between_units =
    recorded_plan
    ++ (0x53 ∷ 0x55 ∷ 0 ∷ 1 ∷ 0 ∷ 0 ∷ 0 ∷ 0 ∷ 0 ∷ 0 ∷ 0 ∷ 12 ∷ 0 ∷ 1  -- 1: 0,0,0,12;A;1
    ∷ 0x52 ∷ 0x44 ∷ 2  -- redesignation to C
    ∷ 0x53 ∷ 0x55 ∷ 0 ∷ 2 ∷ 0 ∷ 0 ∷ 0 ∷ 0 ∷ 0 ∷ 0 ∷ 0 ∷ 10 ∷ 0 ∷ 1  -- 2: 0,0,0,10;A;1
    ∷ [])

unfoldable pub redesignation_between_units_results : List ℕ
redesignation_between_units_results =
    0x47 ∷ 0x52 ∷ 0 ∷ 1 ∷ 1 ∷ 1 ∷ 1 ∷ 0 ∷ 0 ∷ 0 ∷ 0 ∷ 0 ∷ 0 ∷ 0 ∷ 0 ∷ 50  -- 1 1 B B m B 0.0 0.0 0.0 5.0
    ∷ 0 ∷ 0 ∷ 0 ∷ 0 ∷ 0 ∷ 0 ∷ 0 ∷ 0 ∷ 0 ∷ 0 ∷ 0 ∷ 0 ∷ 0 ∷ 0 ∷ 0 ∷ 0
    ∷ 0x47 ∷ 0x52 ∷ 0 ∷ 2 ∷ 1 ∷ 1 ∷ 1 ∷ 0 ∷ 0 ∷ 0 ∷ 0 ∷ 0 ∷ 0 ∷ 0 ∷ 0 ∷ 55  -- 2 2 B B m B 0.0 0.0 0.0 5.5
    ∷ 0 ∷ 0 ∷ 0 ∷ 0 ∷ 0 ∷ 0 ∷ 0 ∷ 0 ∷ 0 ∷ 0 ∷ 0 ∷ 0 ∷ 0 ∷ 0 ∷ 0 ∷ 0
    ∷ []

-- The first unit is under B of the second plan, from its S.
unfoldable pub redesignation_before_first_unit : List ℕ
redesignation_before_first_unit =
    recorded_plan
    ++ (0x52 ∷ 0x44 ∷ 2  -- redesignation to C
    ∷ 0x53 ∷ 0x55 ∷ 0 ∷ 1 ∷ 0 ∷ 0 ∷ 0 ∷ 0 ∷ 0 ∷ 0 ∷ 0 ∷ 12 ∷ 0 ∷ 1  -- 1: 0,0,0,12;A;1
    ∷ 0x53 ∷ 0x55 ∷ 0 ∷ 2 ∷ 0 ∷ 0 ∷ 0 ∷ 0 ∷ 0 ∷ 0 ∷ 0 ∷ 10 ∷ 0 ∷ 1  -- 2: 0,0,0,10;A;1
    ∷ [])

unfoldable pub redesignation_before_first_unit_results : List ℕ
redesignation_before_first_unit_results =
    0x47 ∷ 0x52 ∷ 0 ∷ 1 ∷ 1 ∷ 1 ∷ 1 ∷ 0 ∷ 0 ∷ 0 ∷ 0 ∷ 0 ∷ 0 ∷ 0 ∷ 0 ∷ 50  -- 1 1 B B m B 0.0 0.0 0.0 5.0
    ∷ 0 ∷ 0 ∷ 0 ∷ 0 ∷ 0 ∷ 0 ∷ 0 ∷ 0 ∷ 0 ∷ 0 ∷ 0 ∷ 0 ∷ 0 ∷ 0 ∷ 0 ∷ 0
    ∷ 0x47 ∷ 0x52 ∷ 0 ∷ 2 ∷ 1 ∷ 1 ∷ 1 ∷ 0 ∷ 0 ∷ 0 ∷ 0 ∷ 0 ∷ 0 ∷ 0 ∷ 0 ∷ 55  -- 2 2 B B m B 0.0 0.0 0.0 5.5
    ∷ 0 ∷ 0 ∷ 0 ∷ 0 ∷ 0 ∷ 0 ∷ 0 ∷ 0 ∷ 0 ∷ 0 ∷ 0 ∷ 0 ∷ 0 ∷ 0 ∷ 0 ∷ 0
    ∷ []

-- Two side by side, among them one to the second plan's own grade, and a third one; unit 3 comes
-- to L.
unfoldable pub redesignations_to_every_grade : List ℕ
redesignations_to_every_grade =
    recorded_plan
    ++ (0x53 ∷ 0x55 ∷ 0 ∷ 1 ∷ 0 ∷ 0 ∷ 0 ∷ 0 ∷ 0 ∷ 0 ∷ 0 ∷ 12 ∷ 0 ∷ 1  -- 1: 0,0,0,12;A;1
    ∷ 0x52 ∷ 0x44 ∷ 1  -- redesignation to B
    ∷ 0x52 ∷ 0x44 ∷ 2  -- redesignation to C
    ∷ 0x53 ∷ 0x55 ∷ 0 ∷ 2 ∷ 0 ∷ 0 ∷ 0 ∷ 0 ∷ 0 ∷ 0 ∷ 0 ∷ 10 ∷ 0 ∷ 1  -- 2: 0,0,0,10;A;1
    ∷ 0x52 ∷ 0x44 ∷ 0  -- redesignation to A
    ∷ 0x53 ∷ 0x55 ∷ 0 ∷ 3 ∷ 0 ∷ 0 ∷ 0 ∷ 0 ∷ 0 ∷ 0 ∷ 0 ∷ 10 ∷ 0 ∷ 1  -- 3: 0,0,0,10;A;1
    ∷ [])

unfoldable pub redesignations_to_every_grade_results : List ℕ
redesignations_to_every_grade_results =
    0x47 ∷ 0x52 ∷ 0 ∷ 1 ∷ 1 ∷ 1 ∷ 1 ∷ 0 ∷ 0 ∷ 0 ∷ 0 ∷ 0 ∷ 0 ∷ 0 ∷ 0 ∷ 50  -- 1 1 B B m B 0.0 0.0 0.0 5.0
    ∷ 0 ∷ 0 ∷ 0 ∷ 0 ∷ 0 ∷ 0 ∷ 0 ∷ 0 ∷ 0 ∷ 0 ∷ 0 ∷ 0 ∷ 0 ∷ 0 ∷ 0 ∷ 0
    ∷ 0x47 ∷ 0x52 ∷ 0 ∷ 2 ∷ 1 ∷ 1 ∷ 1 ∷ 0 ∷ 0 ∷ 0 ∷ 0 ∷ 0 ∷ 0 ∷ 0 ∷ 0 ∷ 55  -- 2 2 B B m B 0.0 0.0 0.0 5.5
    ∷ 0 ∷ 0 ∷ 0 ∷ 0 ∷ 0 ∷ 0 ∷ 0 ∷ 0 ∷ 0 ∷ 0 ∷ 0 ∷ 0 ∷ 0 ∷ 0 ∷ 0 ∷ 0
    ∷ 0x47 ∷ 0x52 ∷ 0 ∷ 3 ∷ 1 ∷ 1 ∷ 1 ∷ 0 ∷ 0 ∷ 0 ∷ 0 ∷ 0 ∷ 0 ∷ 0 ∷ 0 ∷ 60  -- 3 3 B B m B 0.0 0.0 0.0 6.0
    ∷ 0 ∷ 0 ∷ 0 ∷ 0 ∷ 0 ∷ 0 ∷ 0 ∷ 0 ∷ 0 ∷ 0 ∷ 0 ∷ 0 ∷ 0 ∷ 0 ∷ 0 ∷ 0
    ∷ []

-- Unit 2 fails from L, by 4.5; from S it would fail by 1. Unit 3 goes on from L.
unfoldable pub redesignation_between_failures : List ℕ
redesignation_between_failures =
    recorded_plan
    ++ (0x53 ∷ 0x55 ∷ 0 ∷ 1 ∷ 0 ∷ 0 ∷ 0 ∷ 0 ∷ 0 ∷ 0 ∷ 0 ∷ 14 ∷ 0 ∷ 1  -- 1: 0,0,0,14;A;1
    ∷ 0x52 ∷ 0x44 ∷ 1  -- redesignation to B
    ∷ 0x53 ∷ 0x55 ∷ 0 ∷ 2 ∷ 0 ∷ 0 ∷ 0 ∷ 0 ∷ 0 ∷ 0 ∷ 0 ∷ 14 ∷ 0 ∷ 1  -- 2: 0,0,0,14;A;1
    ∷ 0x53 ∷ 0x55 ∷ 0 ∷ 3 ∷ 0 ∷ 0 ∷ 0 ∷ 0 ∷ 0 ∷ 0 ∷ 0 ∷ 9 ∷ 0 ∷ 1  -- 3: 0,0,0,9;A;1
    ∷ [])

unfoldable pub redesignation_between_failures_results : List ℕ
redesignation_between_failures_results =
    0x47 ∷ 0x52 ∷ 0 ∷ 1 ∷ 2 ∷ 2 ∷ 1 ∷ 1 ∷ 0 ∷ 0 ∷ 0 ∷ 0 ∷ 0 ∷ 0 ∷ 0 ∷ 60  -- 1 1 C C f B 0.0 0.0 0.0 6.0
    ∷ 0 ∷ 0 ∷ 0 ∷ 0 ∷ 0 ∷ 0 ∷ 0 ∷ 0 ∷ 0 ∷ 0 ∷ 0 ∷ 0 ∷ 0 ∷ 0 ∷ 0 ∷ 10
    ∷ 0x47 ∷ 0x52 ∷ 0 ∷ 2 ∷ 2 ∷ 2 ∷ 1 ∷ 1 ∷ 0 ∷ 0 ∷ 0 ∷ 0 ∷ 0 ∷ 0 ∷ 0 ∷ 60  -- 2 2 C C f B 0.0 0.0 0.0 6.0
    ∷ 0 ∷ 0 ∷ 0 ∷ 0 ∷ 0 ∷ 0 ∷ 0 ∷ 0 ∷ 0 ∷ 0 ∷ 0 ∷ 0 ∷ 0 ∷ 0 ∷ 0 ∷ 45
    ∷ 0x47 ∷ 0x52 ∷ 0 ∷ 3 ∷ 1 ∷ 1 ∷ 1 ∷ 0 ∷ 0 ∷ 0 ∷ 0 ∷ 0 ∷ 0 ∷ 0 ∷ 0 ∷ 55  -- 3 3 B B m B 0.0 0.0 0.0 5.5
    ∷ 0 ∷ 0 ∷ 0 ∷ 0 ∷ 0 ∷ 0 ∷ 0 ∷ 0 ∷ 0 ∷ 0 ∷ 0 ∷ 0 ∷ 0 ∷ 0 ∷ 0 ∷ 0
    ∷ []

-- The break restarts, before a redesignation and behind one: at 2.5, the S of B, and not at 3,
-- that of C.
unfoldable pub redesignation_beside_break : List ℕ
redesignation_beside_break =
    recorded_plan
    ++ (0x53 ∷ 0x55 ∷ 0 ∷ 1 ∷ 0 ∷ 0 ∷ 0 ∷ 0 ∷ 0 ∷ 0 ∷ 0 ∷ 12 ∷ 0 ∷ 1  -- 1: 0,0,0,12;A;1
    ∷ 0x52 ∷ 0x44 ∷ 2  -- redesignation to C
    ∷ 0x42 ∷ 0x4B  -- break
    ∷ 0x53 ∷ 0x55 ∷ 0 ∷ 2 ∷ 0 ∷ 0 ∷ 0 ∷ 0 ∷ 0 ∷ 0 ∷ 0 ∷ 10 ∷ 0 ∷ 1  -- 2: 0,0,0,10;A;1
    ∷ 0x42 ∷ 0x4B  -- break
    ∷ 0x52 ∷ 0x44 ∷ 1  -- redesignation to B
    ∷ 0x53 ∷ 0x55 ∷ 0 ∷ 3 ∷ 0 ∷ 0 ∷ 0 ∷ 0 ∷ 0 ∷ 0 ∷ 0 ∷ 10 ∷ 0 ∷ 1  -- 3: 0,0,0,10;A;1
    ∷ [])

unfoldable pub redesignation_beside_break_results : List ℕ
redesignation_beside_break_results =
    0x47 ∷ 0x52 ∷ 0 ∷ 1 ∷ 1 ∷ 1 ∷ 1 ∷ 0 ∷ 0 ∷ 0 ∷ 0 ∷ 0 ∷ 0 ∷ 0 ∷ 0 ∷ 50  -- 1 1 B B m B 0.0 0.0 0.0 5.0
    ∷ 0 ∷ 0 ∷ 0 ∷ 0 ∷ 0 ∷ 0 ∷ 0 ∷ 0 ∷ 0 ∷ 0 ∷ 0 ∷ 0 ∷ 0 ∷ 0 ∷ 0 ∷ 0
    ∷ 0x47 ∷ 0x52 ∷ 0 ∷ 2 ∷ 1 ∷ 1 ∷ 1 ∷ 0 ∷ 0 ∷ 0 ∷ 0 ∷ 0 ∷ 0 ∷ 0 ∷ 0 ∷ 30  -- 2 2 B B m B 0.0 0.0 0.0 3.0
    ∷ 0 ∷ 0 ∷ 0 ∷ 0 ∷ 0 ∷ 0 ∷ 0 ∷ 0 ∷ 0 ∷ 0 ∷ 0 ∷ 0 ∷ 0 ∷ 0 ∷ 0 ∷ 0
    ∷ 0x47 ∷ 0x52 ∷ 0 ∷ 3 ∷ 1 ∷ 1 ∷ 1 ∷ 0 ∷ 0 ∷ 0 ∷ 0 ∷ 0 ∷ 0 ∷ 0 ∷ 0 ∷ 30  -- 3 3 B B m B 0.0 0.0 0.0 3.0
    ∷ 0 ∷ 0 ∷ 0 ∷ 0 ∷ 0 ∷ 0 ∷ 0 ∷ 0 ∷ 0 ∷ 0 ∷ 0 ∷ 0 ∷ 0 ∷ 0 ∷ 0 ∷ 0
    ∷ []

-- The second plan designates A: 1.5+7-5, then 3.5+6-5, which is L, and then 1 above it. Under C
-- they would come to 0.
unfoldable pub redesignation_to_c_under_a : List ℕ
redesignation_to_c_under_a =
    recorded_plan
    ++ (0x53 ∷ 0x55 ∷ 0 ∷ 1 ∷ 0 ∷ 0 ∷ 0 ∷ 0 ∷ 0 ∷ 0 ∷ 0 ∷ 7 ∷ 0 ∷ 1  -- 1: 0,0,0,7;A;1
    ∷ 0x52 ∷ 0x44 ∷ 2  -- redesignation to C
    ∷ 0x53 ∷ 0x55 ∷ 0 ∷ 2 ∷ 0 ∷ 0 ∷ 0 ∷ 0 ∷ 0 ∷ 0 ∷ 0 ∷ 6 ∷ 0 ∷ 1  -- 2: 0,0,0,6;A;1
    ∷ 0x53 ∷ 0x55 ∷ 0 ∷ 3 ∷ 0 ∷ 0 ∷ 0 ∷ 0 ∷ 0 ∷ 0 ∷ 0 ∷ 6 ∷ 0 ∷ 1  -- 3: 0,0,0,6;A;1
    ∷ [])

unfoldable pub redesignation_to_c_under_a_results : List ℕ
redesignation_to_c_under_a_results =
    0x47 ∷ 0x52 ∷ 0 ∷ 1 ∷ 0 ∷ 0 ∷ 0 ∷ 0 ∷ 0 ∷ 0 ∷ 0 ∷ 0 ∷ 0 ∷ 0 ∷ 0 ∷ 35  -- 1 1 A A m A 0.0 0.0 0.0 3.5
    ∷ 0 ∷ 0 ∷ 0 ∷ 0 ∷ 0 ∷ 0 ∷ 0 ∷ 0 ∷ 0 ∷ 0 ∷ 0 ∷ 0 ∷ 0 ∷ 0 ∷ 0 ∷ 0
    ∷ 0x47 ∷ 0x52 ∷ 0 ∷ 2 ∷ 0 ∷ 0 ∷ 0 ∷ 0 ∷ 0 ∷ 0 ∷ 0 ∷ 0 ∷ 0 ∷ 0 ∷ 0 ∷ 45  -- 2 2 A A m A 0.0 0.0 0.0 4.5
    ∷ 0 ∷ 0 ∷ 0 ∷ 0 ∷ 0 ∷ 0 ∷ 0 ∷ 0 ∷ 0 ∷ 0 ∷ 0 ∷ 0 ∷ 0 ∷ 0 ∷ 0 ∷ 0
    ∷ 0x47 ∷ 0x52 ∷ 0 ∷ 3 ∷ 1 ∷ 1 ∷ 0 ∷ 1 ∷ 0 ∷ 0 ∷ 0 ∷ 0 ∷ 0 ∷ 0 ∷ 0 ∷ 45  -- 3 3 B B f A 0.0 0.0 0.0 4.5
    ∷ 0 ∷ 0 ∷ 0 ∷ 0 ∷ 0 ∷ 0 ∷ 0 ∷ 0 ∷ 0 ∷ 0 ∷ 0 ∷ 0 ∷ 0 ∷ 0 ∷ 0 ∷ 10
    ∷ []

pub record RedesignationSheets : Type 0 where
  pub redesignation_between_units_holds : Graded buyer_b redesignation_between_units 2 106 redesignation_between_units_results
  pub redesignation_before_first_unit_holds : Graded buyer_b redesignation_before_first_unit 2 106 redesignation_before_first_unit_results
  pub redesignations_to_every_grade_holds : Graded buyer_b redesignations_to_every_grade 3 126 redesignations_to_every_grade_results
  pub redesignation_between_failures_holds : Graded buyer_b redesignation_between_failures 3 120 redesignation_between_failures_results
  pub redesignation_beside_break_holds : Graded buyer_b redesignation_beside_break 3 127 redesignation_beside_break_results
  pub redesignation_to_c_under_a_holds : Graded buyer_a redesignation_to_c_under_a 3 120 redesignation_to_c_under_a_results

-- ---- breaks restart

-- Unit 2 comes from S to 5: from the CuSum of unit 1 it would fail, from zero come to 2.5. Unit 3
-- goes on from unit 2.
unfoldable pub break_between_units : List ℕ
break_between_units =
    recorded_plan
    ++ (0x53 ∷ 0x55 ∷ 0 ∷ 1 ∷ 0 ∷ 0 ∷ 0 ∷ 0 ∷ 0 ∷ 0 ∷ 0 ∷ 12 ∷ 0 ∷ 1  -- 1: 0,0,0,12;A;1
    ∷ 0x42 ∷ 0x4B  -- break
    ∷ 0x53 ∷ 0x55 ∷ 0 ∷ 2 ∷ 0 ∷ 0 ∷ 0 ∷ 0 ∷ 0 ∷ 0 ∷ 0 ∷ 12 ∷ 0 ∷ 1  -- 2: 0,0,0,12;A;1
    ∷ 0x53 ∷ 0x55 ∷ 0 ∷ 3 ∷ 0 ∷ 0 ∷ 0 ∷ 0 ∷ 0 ∷ 0 ∷ 0 ∷ 9 ∷ 0 ∷ 1  -- 3: 0,0,0,9;A;1
    ∷ [])

unfoldable pub break_between_units_results : List ℕ
break_between_units_results =
    0x47 ∷ 0x52 ∷ 0 ∷ 1 ∷ 1 ∷ 1 ∷ 1 ∷ 0 ∷ 0 ∷ 0 ∷ 0 ∷ 0 ∷ 0 ∷ 0 ∷ 0 ∷ 50  -- 1 1 B B m B 0.0 0.0 0.0 5.0
    ∷ 0 ∷ 0 ∷ 0 ∷ 0 ∷ 0 ∷ 0 ∷ 0 ∷ 0 ∷ 0 ∷ 0 ∷ 0 ∷ 0 ∷ 0 ∷ 0 ∷ 0 ∷ 0
    ∷ 0x47 ∷ 0x52 ∷ 0 ∷ 2 ∷ 1 ∷ 1 ∷ 1 ∷ 0 ∷ 0 ∷ 0 ∷ 0 ∷ 0 ∷ 0 ∷ 0 ∷ 0 ∷ 50  -- 2 2 B B m B 0.0 0.0 0.0 5.0
    ∷ 0 ∷ 0 ∷ 0 ∷ 0 ∷ 0 ∷ 0 ∷ 0 ∷ 0 ∷ 0 ∷ 0 ∷ 0 ∷ 0 ∷ 0 ∷ 0 ∷ 0 ∷ 0
    ∷ 0x47 ∷ 0x52 ∷ 0 ∷ 3 ∷ 1 ∷ 1 ∷ 1 ∷ 0 ∷ 0 ∷ 0 ∷ 0 ∷ 0 ∷ 0 ∷ 0 ∷ 0 ∷ 45  -- 3 3 B B m B 0.0 0.0 0.0 4.5
    ∷ 0 ∷ 0 ∷ 0 ∷ 0 ∷ 0 ∷ 0 ∷ 0 ∷ 0 ∷ 0 ∷ 0 ∷ 0 ∷ 0 ∷ 0 ∷ 0 ∷ 0 ∷ 0
    ∷ []

-- Each fails from S, by 1; from L the second would fail by 4.5. Unit 3 goes on from L.
unfoldable pub break_between_failures : List ℕ
break_between_failures =
    recorded_plan
    ++ (0x53 ∷ 0x55 ∷ 0 ∷ 1 ∷ 0 ∷ 0 ∷ 0 ∷ 0 ∷ 0 ∷ 0 ∷ 0 ∷ 14 ∷ 0 ∷ 1  -- 1: 0,0,0,14;A;1
    ∷ 0x42 ∷ 0x4B  -- break
    ∷ 0x53 ∷ 0x55 ∷ 0 ∷ 2 ∷ 0 ∷ 0 ∷ 0 ∷ 0 ∷ 0 ∷ 0 ∷ 0 ∷ 14 ∷ 0 ∷ 1  -- 2: 0,0,0,14;A;1
    ∷ 0x53 ∷ 0x55 ∷ 0 ∷ 3 ∷ 0 ∷ 0 ∷ 0 ∷ 0 ∷ 0 ∷ 0 ∷ 0 ∷ 9 ∷ 0 ∷ 1  -- 3: 0,0,0,9;A;1
    ∷ [])

unfoldable pub break_between_failures_results : List ℕ
break_between_failures_results =
    0x47 ∷ 0x52 ∷ 0 ∷ 1 ∷ 2 ∷ 2 ∷ 1 ∷ 1 ∷ 0 ∷ 0 ∷ 0 ∷ 0 ∷ 0 ∷ 0 ∷ 0 ∷ 60  -- 1 1 C C f B 0.0 0.0 0.0 6.0
    ∷ 0 ∷ 0 ∷ 0 ∷ 0 ∷ 0 ∷ 0 ∷ 0 ∷ 0 ∷ 0 ∷ 0 ∷ 0 ∷ 0 ∷ 0 ∷ 0 ∷ 0 ∷ 10
    ∷ 0x47 ∷ 0x52 ∷ 0 ∷ 2 ∷ 2 ∷ 2 ∷ 1 ∷ 1 ∷ 0 ∷ 0 ∷ 0 ∷ 0 ∷ 0 ∷ 0 ∷ 0 ∷ 60  -- 2 2 C C f B 0.0 0.0 0.0 6.0
    ∷ 0 ∷ 0 ∷ 0 ∷ 0 ∷ 0 ∷ 0 ∷ 0 ∷ 0 ∷ 0 ∷ 0 ∷ 0 ∷ 0 ∷ 0 ∷ 0 ∷ 0 ∷ 10
    ∷ 0x47 ∷ 0x52 ∷ 0 ∷ 3 ∷ 1 ∷ 1 ∷ 1 ∷ 0 ∷ 0 ∷ 0 ∷ 0 ∷ 0 ∷ 0 ∷ 0 ∷ 0 ∷ 55  -- 3 3 B B m B 0.0 0.0 0.0 5.5
    ∷ 0 ∷ 0 ∷ 0 ∷ 0 ∷ 0 ∷ 0 ∷ 0 ∷ 0 ∷ 0 ∷ 0 ∷ 0 ∷ 0 ∷ 0 ∷ 0 ∷ 0 ∷ 0
    ∷ []

-- A break first, two side by side and one last. Unit 2 is at 0 and unit 3 comes from S to 3: from
-- 0 it would come to 0.5.
unfoldable pub break_behind_zero : List ℕ
break_behind_zero =
    recorded_plan
    ++ (0x42 ∷ 0x4B  -- break
    ∷ 0x53 ∷ 0x55 ∷ 0 ∷ 1 ∷ 0 ∷ 0 ∷ 0 ∷ 0 ∷ 0 ∷ 0 ∷ 0 ∷ 3 ∷ 0 ∷ 1  -- 1: 0,0,0,3;A;1
    ∷ 0x53 ∷ 0x55 ∷ 0 ∷ 2 ∷ 0 ∷ 0 ∷ 0 ∷ 0 ∷ 0 ∷ 0 ∷ 0 ∷ 9 ∷ 0 ∷ 1  -- 2: 0,0,0,9;A;1
    ∷ 0x42 ∷ 0x4B  -- break
    ∷ 0x42 ∷ 0x4B  -- break
    ∷ 0x53 ∷ 0x55 ∷ 0 ∷ 3 ∷ 0 ∷ 0 ∷ 0 ∷ 0 ∷ 0 ∷ 0 ∷ 0 ∷ 10 ∷ 0 ∷ 1  -- 3: 0,0,0,10;A;1
    ∷ 0x42 ∷ 0x4B  -- break
    ∷ [])

unfoldable pub break_behind_zero_results : List ℕ
break_behind_zero_results =
    0x47 ∷ 0x52 ∷ 0 ∷ 1 ∷ 1 ∷ 1 ∷ 1 ∷ 0 ∷ 0 ∷ 0 ∷ 0 ∷ 0 ∷ 0 ∷ 0 ∷ 0 ∷ 0  -- 1 1 B B m B 0.0 0.0 0.0 0.0
    ∷ 0 ∷ 0 ∷ 0 ∷ 0 ∷ 0 ∷ 0 ∷ 0 ∷ 0 ∷ 0 ∷ 0 ∷ 0 ∷ 0 ∷ 0 ∷ 0 ∷ 0 ∷ 0
    ∷ 0x47 ∷ 0x52 ∷ 0 ∷ 2 ∷ 1 ∷ 1 ∷ 1 ∷ 0 ∷ 0 ∷ 0 ∷ 0 ∷ 0 ∷ 0 ∷ 0 ∷ 0 ∷ 0  -- 2 2 B B m B 0.0 0.0 0.0 0.0
    ∷ 0 ∷ 0 ∷ 0 ∷ 0 ∷ 0 ∷ 0 ∷ 0 ∷ 0 ∷ 0 ∷ 0 ∷ 0 ∷ 0 ∷ 0 ∷ 0 ∷ 0 ∷ 0
    ∷ 0x47 ∷ 0x52 ∷ 0 ∷ 3 ∷ 1 ∷ 1 ∷ 1 ∷ 0 ∷ 0 ∷ 0 ∷ 0 ∷ 0 ∷ 0 ∷ 0 ∷ 0 ∷ 30  -- 3 3 B B m B 0.0 0.0 0.0 3.0
    ∷ 0 ∷ 0 ∷ 0 ∷ 0 ∷ 0 ∷ 0 ∷ 0 ∷ 0 ∷ 0 ∷ 0 ∷ 0 ∷ 0 ∷ 0 ∷ 0 ∷ 0 ∷ 0
    ∷ []

-- Under C, 0.4/1.5/1.6, 1.1/4/3.5, 1.4/5.5/4.5, 3/14/9: the break sets each class to its own S.
unfoldable pub breaks_in_every_class : List ℕ
breaks_in_every_class =
    recorded_plan
    ++ (0x53 ∷ 0x55 ∷ 0 ∷ 1 ∷ 0 ∷ 2 ∷ 0 ∷ 4 ∷ 0 ∷ 6 ∷ 0 ∷ 4 ∷ 0 ∷ 1  -- 1: 2,4,6,4;A;1
    ∷ 0x42 ∷ 0x4B  -- break
    ∷ 0x53 ∷ 0x55 ∷ 0 ∷ 2 ∷ 0 ∷ 2 ∷ 0 ∷ 4 ∷ 0 ∷ 6 ∷ 0 ∷ 4 ∷ 0 ∷ 1  -- 2: 2,4,6,4;A;1
    ∷ [])

unfoldable pub breaks_in_every_class_results : List ℕ
breaks_in_every_class_results =
    0x47 ∷ 0x52 ∷ 0 ∷ 1 ∷ 2 ∷ 2 ∷ 2 ∷ 0 ∷ 0 ∷ 9 ∷ 0 ∷ 11 ∷ 0 ∷ 19 ∷ 0 ∷ 50  -- 1 1 C C m C 0.9 1.1 1.9 5.0
    ∷ 0 ∷ 0 ∷ 0 ∷ 0 ∷ 0 ∷ 0 ∷ 0 ∷ 0 ∷ 0 ∷ 0 ∷ 0 ∷ 0 ∷ 0 ∷ 0 ∷ 0 ∷ 0
    ∷ 0x47 ∷ 0x52 ∷ 0 ∷ 2 ∷ 2 ∷ 2 ∷ 2 ∷ 0 ∷ 0 ∷ 9 ∷ 0 ∷ 11 ∷ 0 ∷ 19 ∷ 0 ∷ 50  -- 2 2 C C m C 0.9 1.1 1.9 5.0
    ∷ 0 ∷ 0 ∷ 0 ∷ 0 ∷ 0 ∷ 0 ∷ 0 ∷ 0 ∷ 0 ∷ 0 ∷ 0 ∷ 0 ∷ 0 ∷ 0 ∷ 0 ∷ 0
    ∷ []

pub record BreakSheets : Type 0 where
  pub break_between_units_holds : Graded buyer_b break_between_units 3 119 break_between_units_results
  pub break_between_failures_holds : Graded buyer_b break_between_failures 3 119 break_between_failures_results
  pub break_behind_zero_holds : Graded buyer_b break_behind_zero 3 125 break_behind_zero_results
  pub breaks_in_every_class_holds : Graded buyer_c breaks_in_every_class 2 105 breaks_in_every_class_results

-- ---- the second plan's grade, numbers and lower grades

-- The sheet designates A. Unit 2 comes to L, 1+22-14, and unit 3 fails: it is Substandard, though
-- C admits 21.
unfoldable pub second_plan_of_c : List ℕ
second_plan_of_c =
    recorded_plan
    ++ (0x53 ∷ 0x55 ∷ 0 ∷ 1 ∷ 0 ∷ 0 ∷ 0 ∷ 0 ∷ 0 ∷ 0 ∷ 0 ∷ 12 ∷ 0 ∷ 1  -- 1: 0,0,0,12;A;1
    ∷ 0x53 ∷ 0x55 ∷ 0 ∷ 2 ∷ 0 ∷ 0 ∷ 0 ∷ 0 ∷ 0 ∷ 0 ∷ 0 ∷ 22 ∷ 0 ∷ 1  -- 2: 0,0,0,22;A;1
    ∷ 0x53 ∷ 0x55 ∷ 0 ∷ 3 ∷ 0 ∷ 0 ∷ 0 ∷ 0 ∷ 0 ∷ 0 ∷ 0 ∷ 21 ∷ 0 ∷ 1  -- 3: 0,0,0,21;A;1
    ∷ [])

unfoldable pub second_plan_of_c_results : List ℕ
second_plan_of_c_results =
    0x47 ∷ 0x52 ∷ 0 ∷ 1 ∷ 2 ∷ 2 ∷ 2 ∷ 0 ∷ 0 ∷ 0 ∷ 0 ∷ 0 ∷ 0 ∷ 0 ∷ 0 ∷ 10  -- 1 1 C C m C 0.0 0.0 0.0 1.0
    ∷ 0 ∷ 0 ∷ 0 ∷ 0 ∷ 0 ∷ 0 ∷ 0 ∷ 0 ∷ 0 ∷ 0 ∷ 0 ∷ 0 ∷ 0 ∷ 0 ∷ 0 ∷ 0
    ∷ 0x47 ∷ 0x52 ∷ 0 ∷ 2 ∷ 2 ∷ 2 ∷ 2 ∷ 0 ∷ 0 ∷ 0 ∷ 0 ∷ 0 ∷ 0 ∷ 0 ∷ 0 ∷ 90  -- 2 2 C C m C 0.0 0.0 0.0 9.0
    ∷ 0 ∷ 0 ∷ 0 ∷ 0 ∷ 0 ∷ 0 ∷ 0 ∷ 0 ∷ 0 ∷ 0 ∷ 0 ∷ 0 ∷ 0 ∷ 0 ∷ 0 ∷ 0
    ∷ 0x47 ∷ 0x52 ∷ 0 ∷ 3 ∷ 3 ∷ 3 ∷ 2 ∷ 1 ∷ 0 ∷ 0 ∷ 0 ∷ 0 ∷ 0 ∷ 0 ∷ 0 ∷ 90  -- 3 3 S S f C 0.0 0.0 0.0 9.0
    ∷ 0 ∷ 0 ∷ 0 ∷ 0 ∷ 0 ∷ 0 ∷ 0 ∷ 0 ∷ 0 ∷ 0 ∷ 0 ∷ 0 ∷ 0 ∷ 0 ∷ 0 ∷ 70
    ∷ []

-- The sheet designates C. Unit 1 comes to L, 1.5+8-5, and unit 2 fails.
unfoldable pub second_plan_of_a : List ℕ
second_plan_of_a =
    set recorded_plan 2 2
    ++ (0x53 ∷ 0x55 ∷ 0 ∷ 1 ∷ 0 ∷ 0 ∷ 0 ∷ 0 ∷ 0 ∷ 0 ∷ 0 ∷ 8 ∷ 0 ∷ 1  -- 1: 0,0,0,8;A;1
    ∷ 0x53 ∷ 0x55 ∷ 0 ∷ 2 ∷ 0 ∷ 0 ∷ 0 ∷ 0 ∷ 0 ∷ 0 ∷ 0 ∷ 6 ∷ 0 ∷ 1  -- 2: 0,0,0,6;A;1
    ∷ [])

unfoldable pub second_plan_of_a_results : List ℕ
second_plan_of_a_results =
    0x47 ∷ 0x52 ∷ 0 ∷ 1 ∷ 0 ∷ 0 ∷ 0 ∷ 0 ∷ 0 ∷ 0 ∷ 0 ∷ 0 ∷ 0 ∷ 0 ∷ 0 ∷ 45  -- 1 1 A A m A 0.0 0.0 0.0 4.5
    ∷ 0 ∷ 0 ∷ 0 ∷ 0 ∷ 0 ∷ 0 ∷ 0 ∷ 0 ∷ 0 ∷ 0 ∷ 0 ∷ 0 ∷ 0 ∷ 0 ∷ 0 ∷ 0
    ∷ 0x47 ∷ 0x52 ∷ 0 ∷ 2 ∷ 1 ∷ 1 ∷ 0 ∷ 1 ∷ 0 ∷ 0 ∷ 0 ∷ 0 ∷ 0 ∷ 0 ∷ 0 ∷ 45  -- 2 2 B B f A 0.0 0.0 0.0 4.5
    ∷ 0 ∷ 0 ∷ 0 ∷ 0 ∷ 0 ∷ 0 ∷ 0 ∷ 0 ∷ 0 ∷ 0 ∷ 0 ∷ 0 ∷ 0 ∷ 0 ∷ 0 ∷ 10
    ∷ []

-- 0.2/0.4/0.7, 0.6/1.2/2.2, 0.5/2/2.5, 1.5/5/4.5. Unit 2 is within L in critical, 0+1-0.4.
unfoldable pub every_class_under_a : List ℕ
every_class_under_a =
    recorded_plan
    ++ (0x53 ∷ 0x55 ∷ 0 ∷ 1 ∷ 0 ∷ 0 ∷ 0 ∷ 1 ∷ 0 ∷ 2 ∷ 0 ∷ 3 ∷ 0 ∷ 1  -- 1: 0,1,2,3;A;1
    ∷ 0x53 ∷ 0x55 ∷ 0 ∷ 2 ∷ 0 ∷ 1 ∷ 0 ∷ 4 ∷ 0 ∷ 5 ∷ 0 ∷ 2 ∷ 0 ∷ 1  -- 2: 1,4,5,2;A;1
    ∷ 0x53 ∷ 0x55 ∷ 0 ∷ 3 ∷ 0 ∷ 1 ∷ 0 ∷ 0 ∷ 0 ∷ 0 ∷ 0 ∷ 0 ∷ 0 ∷ 1  -- 3: 1,0,0,0;A;1
    ∷ [])

unfoldable pub every_class_under_a_results : List ℕ
every_class_under_a_results =
    0x47 ∷ 0x52 ∷ 0 ∷ 1 ∷ 0 ∷ 0 ∷ 0 ∷ 0 ∷ 0 ∷ 0 ∷ 0 ∷ 4 ∷ 0 ∷ 5 ∷ 0 ∷ 25  -- 1 1 A A m A 0.0 0.4 0.5 2.5
    ∷ 0 ∷ 0 ∷ 0 ∷ 0 ∷ 0 ∷ 0 ∷ 0 ∷ 0 ∷ 0 ∷ 0 ∷ 0 ∷ 0 ∷ 0 ∷ 0 ∷ 0 ∷ 0
    ∷ 0x47 ∷ 0x52 ∷ 0 ∷ 2 ∷ 1 ∷ 1 ∷ 0 ∷ 1 ∷ 0 ∷ 6 ∷ 0 ∷ 22 ∷ 0 ∷ 25 ∷ 0 ∷ 45  -- 2 2 B B f A 0.6 2.2 2.5 4.5
    ∷ 0 ∷ 0 ∷ 0 ∷ 0 ∷ 0 ∷ 0 ∷ 0 ∷ 10 ∷ 0 ∷ 0 ∷ 0 ∷ 10 ∷ 0 ∷ 0 ∷ 0 ∷ 50
    ∷ 0x47 ∷ 0x52 ∷ 0 ∷ 3 ∷ 1 ∷ 1 ∷ 0 ∷ 1 ∷ 0 ∷ 7 ∷ 0 ∷ 10 ∷ 0 ∷ 5 ∷ 0 ∷ 5  -- 3 3 B B f A 0.7 1.0 0.5 0.5
    ∷ 0 ∷ 0 ∷ 0 ∷ 5 ∷ 0 ∷ 0 ∷ 0 ∷ 0 ∷ 0 ∷ 0 ∷ 0 ∷ 0 ∷ 0 ∷ 0 ∷ 0 ∷ 0
    ∷ []

-- 0.3/0.8/0.9, 0.8/2.5/2.5, 1.2/3.4/2.7, 2.5/9.5/6. Unit 2 fails in each.
unfoldable pub every_class_under_b : List ℕ
every_class_under_b =
    recorded_plan
    ++ (0x53 ∷ 0x55 ∷ 0 ∷ 1 ∷ 0 ∷ 1 ∷ 0 ∷ 2 ∷ 0 ∷ 3 ∷ 0 ∷ 4 ∷ 0 ∷ 1  -- 1: 1,2,3,4;A;1
    ∷ 0x53 ∷ 0x55 ∷ 0 ∷ 2 ∷ 0 ∷ 2 ∷ 0 ∷ 5 ∷ 0 ∷ 6 ∷ 0 ∷ 4 ∷ 0 ∷ 1  -- 2: 2,5,6,4;A;1
    ∷ 0x53 ∷ 0x55 ∷ 0 ∷ 3 ∷ 0 ∷ 0 ∷ 0 ∷ 0 ∷ 0 ∷ 0 ∷ 0 ∷ 0 ∷ 0 ∷ 1  -- 3: 0,0,0,0;A;1
    ∷ [])

unfoldable pub every_class_under_b_results : List ℕ
every_class_under_b_results =
    0x47 ∷ 0x52 ∷ 0 ∷ 1 ∷ 1 ∷ 1 ∷ 1 ∷ 0 ∷ 0 ∷ 5 ∷ 0 ∷ 3 ∷ 0 ∷ 8 ∷ 0 ∷ 30  -- 1 1 B B m B 0.5 0.3 0.8 3.0
    ∷ 0 ∷ 0 ∷ 0 ∷ 0 ∷ 0 ∷ 0 ∷ 0 ∷ 0 ∷ 0 ∷ 0 ∷ 0 ∷ 0 ∷ 0 ∷ 0 ∷ 0 ∷ 0
    ∷ 0x47 ∷ 0x52 ∷ 0 ∷ 2 ∷ 2 ∷ 2 ∷ 1 ∷ 1 ∷ 0 ∷ 9 ∷ 0 ∷ 25 ∷ 0 ∷ 27 ∷ 0 ∷ 60  -- 2 2 C C f B 0.9 2.5 2.7 6.0
    ∷ 0 ∷ 0 ∷ 0 ∷ 8 ∷ 0 ∷ 0 ∷ 0 ∷ 3 ∷ 0 ∷ 0 ∷ 0 ∷ 7 ∷ 0 ∷ 0 ∷ 0 ∷ 45
    ∷ 0x47 ∷ 0x52 ∷ 0 ∷ 3 ∷ 1 ∷ 1 ∷ 1 ∷ 0 ∷ 0 ∷ 1 ∷ 0 ∷ 0 ∷ 0 ∷ 0 ∷ 0 ∷ 0  -- 3 3 B B m B 0.1 0.0 0.0 0.0
    ∷ 0 ∷ 0 ∷ 0 ∷ 0 ∷ 0 ∷ 0 ∷ 0 ∷ 0 ∷ 0 ∷ 0 ∷ 0 ∷ 0 ∷ 0 ∷ 0 ∷ 0 ∷ 0
    ∷ []

-- 0.4/1.5/1.6, 1.1/4/3.5, 1.4/5.5/4.5, 3/14/9. Unit 2 fails in each.
unfoldable pub every_class_under_c : List ℕ
every_class_under_c =
    recorded_plan
    ++ (0x53 ∷ 0x55 ∷ 0 ∷ 1 ∷ 0 ∷ 2 ∷ 0 ∷ 4 ∷ 0 ∷ 6 ∷ 0 ∷ 4 ∷ 0 ∷ 1  -- 1: 2,4,6,4;A;1
    ∷ 0x53 ∷ 0x55 ∷ 0 ∷ 2 ∷ 0 ∷ 3 ∷ 0 ∷ 7 ∷ 0 ∷ 9 ∷ 0 ∷ 2 ∷ 0 ∷ 1  -- 2: 3,7,9,2;A;1
    ∷ 0x53 ∷ 0x55 ∷ 0 ∷ 3 ∷ 0 ∷ 0 ∷ 0 ∷ 0 ∷ 0 ∷ 0 ∷ 0 ∷ 0 ∷ 0 ∷ 1  -- 3: 0,0,0,0;A;1
    ∷ [])

unfoldable pub every_class_under_c_results : List ℕ
every_class_under_c_results =
    0x47 ∷ 0x52 ∷ 0 ∷ 1 ∷ 2 ∷ 2 ∷ 2 ∷ 0 ∷ 0 ∷ 9 ∷ 0 ∷ 11 ∷ 0 ∷ 19 ∷ 0 ∷ 50  -- 1 1 C C m C 0.9 1.1 1.9 5.0
    ∷ 0 ∷ 0 ∷ 0 ∷ 0 ∷ 0 ∷ 0 ∷ 0 ∷ 0 ∷ 0 ∷ 0 ∷ 0 ∷ 0 ∷ 0 ∷ 0 ∷ 0 ∷ 0
    ∷ 0x47 ∷ 0x52 ∷ 0 ∷ 2 ∷ 3 ∷ 3 ∷ 2 ∷ 1 ∷ 0 ∷ 16 ∷ 0 ∷ 35 ∷ 0 ∷ 45 ∷ 0 ∷ 90  -- 2 2 S S f C 1.6 3.5 4.5 9.0
    ∷ 0 ∷ 0 ∷ 0 ∷ 8 ∷ 0 ∷ 0 ∷ 0 ∷ 6 ∷ 0 ∷ 0 ∷ 0 ∷ 9 ∷ 0 ∷ 0 ∷ 0 ∷ 30
    ∷ 0x47 ∷ 0x52 ∷ 0 ∷ 3 ∷ 2 ∷ 2 ∷ 2 ∷ 0 ∷ 0 ∷ 1 ∷ 0 ∷ 0 ∷ 0 ∷ 0 ∷ 0 ∷ 0  -- 3 3 C C m C 0.1 0.0 0.0 0.0
    ∷ 0 ∷ 0 ∷ 0 ∷ 0 ∷ 0 ∷ 0 ∷ 0 ∷ 0 ∷ 0 ∷ 0 ∷ 0 ∷ 0 ∷ 0 ∷ 0 ∷ 0 ∷ 0
    ∷ []

-- Under A: B admits 9 and 15 of 15.5, C 16 and 23 of 23, and 24 is Substandard. By the sheet's
-- own plan 16 would be B and 24 be C.
unfoldable pub lower_grades_by_total : List ℕ
lower_grades_by_total =
    recorded_plan
    ++ (0x53 ∷ 0x55 ∷ 0 ∷ 1 ∷ 0 ∷ 0 ∷ 0 ∷ 0 ∷ 0 ∷ 0 ∷ 0 ∷ 9 ∷ 0 ∷ 1  -- 1: 0,0,0,9;A;1
    ∷ 0x53 ∷ 0x55 ∷ 0 ∷ 2 ∷ 0 ∷ 0 ∷ 0 ∷ 0 ∷ 0 ∷ 0 ∷ 0 ∷ 15 ∷ 0 ∷ 1  -- 2: 0,0,0,15;A;1
    ∷ 0x53 ∷ 0x55 ∷ 0 ∷ 3 ∷ 0 ∷ 0 ∷ 0 ∷ 0 ∷ 0 ∷ 0 ∷ 0 ∷ 16 ∷ 0 ∷ 1  -- 3: 0,0,0,16;A;1
    ∷ 0x53 ∷ 0x55 ∷ 0 ∷ 4 ∷ 0 ∷ 0 ∷ 0 ∷ 0 ∷ 0 ∷ 0 ∷ 0 ∷ 23 ∷ 0 ∷ 1  -- 4: 0,0,0,23;A;1
    ∷ 0x53 ∷ 0x55 ∷ 0 ∷ 5 ∷ 0 ∷ 0 ∷ 0 ∷ 0 ∷ 0 ∷ 0 ∷ 0 ∷ 24 ∷ 0 ∷ 1  -- 5: 0,0,0,24;A;1
    ∷ [])

unfoldable pub lower_grades_by_total_results : List ℕ
lower_grades_by_total_results =
    0x47 ∷ 0x52 ∷ 0 ∷ 1 ∷ 1 ∷ 1 ∷ 0 ∷ 1 ∷ 0 ∷ 0 ∷ 0 ∷ 0 ∷ 0 ∷ 0 ∷ 0 ∷ 45  -- 1 1 B B f A 0.0 0.0 0.0 4.5
    ∷ 0 ∷ 0 ∷ 0 ∷ 0 ∷ 0 ∷ 0 ∷ 0 ∷ 0 ∷ 0 ∷ 0 ∷ 0 ∷ 0 ∷ 0 ∷ 0 ∷ 0 ∷ 10
    ∷ 0x47 ∷ 0x52 ∷ 0 ∷ 2 ∷ 1 ∷ 1 ∷ 0 ∷ 1 ∷ 0 ∷ 0 ∷ 0 ∷ 0 ∷ 0 ∷ 0 ∷ 0 ∷ 45  -- 2 2 B B f A 0.0 0.0 0.0 4.5
    ∷ 0 ∷ 0 ∷ 0 ∷ 0 ∷ 0 ∷ 0 ∷ 0 ∷ 0 ∷ 0 ∷ 0 ∷ 0 ∷ 0 ∷ 0 ∷ 0 ∷ 0 ∷ 100
    ∷ 0x47 ∷ 0x52 ∷ 0 ∷ 3 ∷ 2 ∷ 2 ∷ 0 ∷ 1 ∷ 0 ∷ 0 ∷ 0 ∷ 0 ∷ 0 ∷ 0 ∷ 0 ∷ 45  -- 3 3 C C f A 0.0 0.0 0.0 4.5
    ∷ 0 ∷ 0 ∷ 0 ∷ 0 ∷ 0 ∷ 0 ∷ 0 ∷ 0 ∷ 0 ∷ 0 ∷ 0 ∷ 0 ∷ 0 ∷ 0 ∷ 0 ∷ 110
    ∷ 0x47 ∷ 0x52 ∷ 0 ∷ 4 ∷ 2 ∷ 2 ∷ 0 ∷ 1 ∷ 0 ∷ 0 ∷ 0 ∷ 0 ∷ 0 ∷ 0 ∷ 0 ∷ 45  -- 4 4 C C f A 0.0 0.0 0.0 4.5
    ∷ 0 ∷ 0 ∷ 0 ∷ 0 ∷ 0 ∷ 0 ∷ 0 ∷ 0 ∷ 0 ∷ 0 ∷ 0 ∷ 0 ∷ 0 ∷ 0 ∷ 0 ∷ 180
    ∷ 0x47 ∷ 0x52 ∷ 0 ∷ 5 ∷ 3 ∷ 3 ∷ 0 ∷ 1 ∷ 0 ∷ 0 ∷ 0 ∷ 0 ∷ 0 ∷ 0 ∷ 0 ∷ 45  -- 5 5 S S f A 0.0 0.0 0.0 4.5
    ∷ 0 ∷ 0 ∷ 0 ∷ 0 ∷ 0 ∷ 0 ∷ 0 ∷ 0 ∷ 0 ∷ 0 ∷ 0 ∷ 0 ∷ 0 ∷ 0 ∷ 0 ∷ 190
    ∷ []

-- Under A: 2 critical are above 1.7 of B, 6 severe above 5, 7 major above 6.1; 4, 8 and 11 above
-- 3.1, 7.5 and 10 of C. By the sheet's own plan the first three would be B, the next two C.
unfoldable pub lower_grades_by_other_classes : List ℕ
lower_grades_by_other_classes =
    recorded_plan
    ++ (0x53 ∷ 0x55 ∷ 0 ∷ 1 ∷ 0 ∷ 2 ∷ 0 ∷ 0 ∷ 0 ∷ 0 ∷ 0 ∷ 0 ∷ 0 ∷ 1  -- 1: 2,0,0,0;A;1
    ∷ 0x53 ∷ 0x55 ∷ 0 ∷ 2 ∷ 0 ∷ 0 ∷ 0 ∷ 6 ∷ 0 ∷ 0 ∷ 0 ∷ 0 ∷ 0 ∷ 1  -- 2: 0,6,0,0;A;1
    ∷ 0x53 ∷ 0x55 ∷ 0 ∷ 3 ∷ 0 ∷ 0 ∷ 0 ∷ 0 ∷ 0 ∷ 7 ∷ 0 ∷ 0 ∷ 0 ∷ 1  -- 3: 0,0,7,0;A;1
    ∷ 0x53 ∷ 0x55 ∷ 0 ∷ 4 ∷ 0 ∷ 4 ∷ 0 ∷ 0 ∷ 0 ∷ 0 ∷ 0 ∷ 0 ∷ 0 ∷ 1  -- 4: 4,0,0,0;A;1
    ∷ 0x53 ∷ 0x55 ∷ 0 ∷ 5 ∷ 0 ∷ 0 ∷ 0 ∷ 8 ∷ 0 ∷ 0 ∷ 0 ∷ 0 ∷ 0 ∷ 1  -- 5: 0,8,0,0;A;1
    ∷ 0x53 ∷ 0x55 ∷ 0 ∷ 6 ∷ 0 ∷ 0 ∷ 0 ∷ 0 ∷ 0 ∷ 11 ∷ 0 ∷ 0 ∷ 0 ∷ 1  -- 6: 0,0,11,0;A;1
    ∷ [])

unfoldable pub lower_grades_by_other_classes_results : List ℕ
lower_grades_by_other_classes_results =
    0x47 ∷ 0x52 ∷ 0 ∷ 1 ∷ 2 ∷ 2 ∷ 0 ∷ 1 ∷ 0 ∷ 7 ∷ 0 ∷ 0 ∷ 0 ∷ 0 ∷ 0 ∷ 0  -- 1 1 C C f A 0.7 0.0 0.0 0.0
    ∷ 0 ∷ 0 ∷ 0 ∷ 11 ∷ 0 ∷ 0 ∷ 0 ∷ 0 ∷ 0 ∷ 0 ∷ 0 ∷ 0 ∷ 0 ∷ 0 ∷ 0 ∷ 0
    ∷ 0x47 ∷ 0x52 ∷ 0 ∷ 2 ∷ 2 ∷ 2 ∷ 0 ∷ 1 ∷ 0 ∷ 3 ∷ 0 ∷ 22 ∷ 0 ∷ 0 ∷ 0 ∷ 10  -- 2 2 C C f A 0.3 2.2 0.0 1.0
    ∷ 0 ∷ 0 ∷ 0 ∷ 0 ∷ 0 ∷ 0 ∷ 0 ∷ 26 ∷ 0 ∷ 0 ∷ 0 ∷ 0 ∷ 0 ∷ 0 ∷ 0 ∷ 0
    ∷ 0x47 ∷ 0x52 ∷ 0 ∷ 3 ∷ 2 ∷ 2 ∷ 0 ∷ 1 ∷ 0 ∷ 0 ∷ 0 ∷ 10 ∷ 0 ∷ 25 ∷ 0 ∷ 30  -- 3 3 C C f A 0.0 1.0 2.5 3.0
    ∷ 0 ∷ 0 ∷ 0 ∷ 0 ∷ 0 ∷ 0 ∷ 0 ∷ 0 ∷ 0 ∷ 0 ∷ 0 ∷ 25 ∷ 0 ∷ 0 ∷ 0 ∷ 0
    ∷ 0x47 ∷ 0x52 ∷ 0 ∷ 4 ∷ 3 ∷ 3 ∷ 0 ∷ 1 ∷ 0 ∷ 7 ∷ 0 ∷ 0 ∷ 0 ∷ 5 ∷ 0 ∷ 20  -- 4 4 S S f A 0.7 0.0 0.5 2.0
    ∷ 0 ∷ 0 ∷ 0 ∷ 29 ∷ 0 ∷ 0 ∷ 0 ∷ 0 ∷ 0 ∷ 0 ∷ 0 ∷ 0 ∷ 0 ∷ 0 ∷ 0 ∷ 0
    ∷ 0x47 ∷ 0x52 ∷ 0 ∷ 5 ∷ 3 ∷ 3 ∷ 0 ∷ 1 ∷ 0 ∷ 3 ∷ 0 ∷ 22 ∷ 0 ∷ 0 ∷ 0 ∷ 45  -- 5 5 S S f A 0.3 2.2 0.0 4.5
    ∷ 0 ∷ 0 ∷ 0 ∷ 0 ∷ 0 ∷ 0 ∷ 0 ∷ 46 ∷ 0 ∷ 0 ∷ 0 ∷ 0 ∷ 0 ∷ 0 ∷ 0 ∷ 5
    ∷ 0x47 ∷ 0x52 ∷ 0 ∷ 6 ∷ 3 ∷ 3 ∷ 0 ∷ 1 ∷ 0 ∷ 0 ∷ 0 ∷ 10 ∷ 0 ∷ 25 ∷ 0 ∷ 45  -- 6 6 S S f A 0.0 1.0 2.5 4.5
    ∷ 0 ∷ 0 ∷ 0 ∷ 0 ∷ 0 ∷ 0 ∷ 0 ∷ 0 ∷ 0 ∷ 0 ∷ 0 ∷ 65 ∷ 0 ∷ 0 ∷ 0 ∷ 60
    ∷ []

-- Under B: 0.3+1-0.8, then 0.7, then L, and then 0.2 above it. The fourth unit is C, though A and
-- B admit 1.
unfoldable pub counts_that_a_admits : List ℕ
counts_that_a_admits =
    recorded_plan
    ++ (0x53 ∷ 0x55 ∷ 0 ∷ 1 ∷ 0 ∷ 1 ∷ 0 ∷ 0 ∷ 0 ∷ 0 ∷ 0 ∷ 0 ∷ 0 ∷ 1  -- 1: 1,0,0,0;A;1
    ∷ 0x53 ∷ 0x55 ∷ 0 ∷ 2 ∷ 0 ∷ 1 ∷ 0 ∷ 0 ∷ 0 ∷ 0 ∷ 0 ∷ 0 ∷ 0 ∷ 1  -- 2: 1,0,0,0;A;1
    ∷ 0x53 ∷ 0x55 ∷ 0 ∷ 3 ∷ 0 ∷ 1 ∷ 0 ∷ 0 ∷ 0 ∷ 0 ∷ 0 ∷ 0 ∷ 0 ∷ 1  -- 3: 1,0,0,0;A;1
    ∷ 0x53 ∷ 0x55 ∷ 0 ∷ 4 ∷ 0 ∷ 1 ∷ 0 ∷ 0 ∷ 0 ∷ 0 ∷ 0 ∷ 0 ∷ 0 ∷ 1  -- 4: 1,0,0,0;A;1
    ∷ [])

unfoldable pub counts_that_a_admits_results : List ℕ
counts_that_a_admits_results =
    0x47 ∷ 0x52 ∷ 0 ∷ 1 ∷ 1 ∷ 1 ∷ 1 ∷ 0 ∷ 0 ∷ 5 ∷ 0 ∷ 0 ∷ 0 ∷ 0 ∷ 0 ∷ 0  -- 1 1 B B m B 0.5 0.0 0.0 0.0
    ∷ 0 ∷ 0 ∷ 0 ∷ 0 ∷ 0 ∷ 0 ∷ 0 ∷ 0 ∷ 0 ∷ 0 ∷ 0 ∷ 0 ∷ 0 ∷ 0 ∷ 0 ∷ 0
    ∷ 0x47 ∷ 0x52 ∷ 0 ∷ 2 ∷ 1 ∷ 1 ∷ 1 ∷ 0 ∷ 0 ∷ 7 ∷ 0 ∷ 0 ∷ 0 ∷ 0 ∷ 0 ∷ 0  -- 2 2 B B m B 0.7 0.0 0.0 0.0
    ∷ 0 ∷ 0 ∷ 0 ∷ 0 ∷ 0 ∷ 0 ∷ 0 ∷ 0 ∷ 0 ∷ 0 ∷ 0 ∷ 0 ∷ 0 ∷ 0 ∷ 0 ∷ 0
    ∷ 0x47 ∷ 0x52 ∷ 0 ∷ 3 ∷ 1 ∷ 1 ∷ 1 ∷ 0 ∷ 0 ∷ 9 ∷ 0 ∷ 0 ∷ 0 ∷ 0 ∷ 0 ∷ 0  -- 3 3 B B m B 0.9 0.0 0.0 0.0
    ∷ 0 ∷ 0 ∷ 0 ∷ 0 ∷ 0 ∷ 0 ∷ 0 ∷ 0 ∷ 0 ∷ 0 ∷ 0 ∷ 0 ∷ 0 ∷ 0 ∷ 0 ∷ 0
    ∷ 0x47 ∷ 0x52 ∷ 0 ∷ 4 ∷ 2 ∷ 2 ∷ 1 ∷ 1 ∷ 0 ∷ 9 ∷ 0 ∷ 0 ∷ 0 ∷ 0 ∷ 0 ∷ 0  -- 4 4 C C f B 0.9 0.0 0.0 0.0
    ∷ 0 ∷ 0 ∷ 0 ∷ 2 ∷ 0 ∷ 0 ∷ 0 ∷ 0 ∷ 0 ∷ 0 ∷ 0 ∷ 0 ∷ 0 ∷ 0 ∷ 0 ∷ 0
    ∷ []

pub record SecondPlanSheets : Type 0 where
  pub second_plan_of_c_holds : Graded buyer_c second_plan_of_c 3 117 second_plan_of_c_results
  pub second_plan_of_a_holds : Graded buyer_a second_plan_of_a 2 103 second_plan_of_a_results
  pub every_class_under_a_holds : Graded buyer_a every_class_under_a 3 117 every_class_under_a_results
  pub every_class_under_b_holds : Graded buyer_b every_class_under_b 3 117 every_class_under_b_results
  pub every_class_under_c_holds : Graded buyer_c every_class_under_c 3 117 every_class_under_c_results
  pub lower_grades_by_total_holds : Graded buyer_a lower_grades_by_total 5 145 lower_grades_by_total_results
  pub lower_grades_by_other_classes_holds : Graded buyer_a lower_grades_by_other_classes 6 159 lower_grades_by_other_classes_results
  pub counts_that_a_admits_holds : Graded buyer_b counts_that_a_admits 4 131 counts_that_a_admits_results

-- ---- CuSums and overshoots, prerequisites and codes

-- 2.5+13-9.5 is L and meets, from which unit 2 goes on.
unfoldable pub raw_value_at_limit : List ℕ
raw_value_at_limit =
    recorded_plan
    ++ (0x53 ∷ 0x55 ∷ 0 ∷ 1 ∷ 0 ∷ 0 ∷ 0 ∷ 0 ∷ 0 ∷ 0 ∷ 0 ∷ 13 ∷ 0 ∷ 1  -- 1: 0,0,0,13;A;1
    ∷ 0x53 ∷ 0x55 ∷ 0 ∷ 2 ∷ 0 ∷ 0 ∷ 0 ∷ 0 ∷ 0 ∷ 0 ∷ 0 ∷ 9 ∷ 0 ∷ 1  -- 2: 0,0,0,9;A;1
    ∷ [])

unfoldable pub raw_value_at_limit_results : List ℕ
raw_value_at_limit_results =
    0x47 ∷ 0x52 ∷ 0 ∷ 1 ∷ 1 ∷ 1 ∷ 1 ∷ 0 ∷ 0 ∷ 0 ∷ 0 ∷ 0 ∷ 0 ∷ 0 ∷ 0 ∷ 60  -- 1 1 B B m B 0.0 0.0 0.0 6.0
    ∷ 0 ∷ 0 ∷ 0 ∷ 0 ∷ 0 ∷ 0 ∷ 0 ∷ 0 ∷ 0 ∷ 0 ∷ 0 ∷ 0 ∷ 0 ∷ 0 ∷ 0 ∷ 0
    ∷ 0x47 ∷ 0x52 ∷ 0 ∷ 2 ∷ 1 ∷ 1 ∷ 1 ∷ 0 ∷ 0 ∷ 0 ∷ 0 ∷ 0 ∷ 0 ∷ 0 ∷ 0 ∷ 55  -- 2 2 B B m B 0.0 0.0 0.0 5.5
    ∷ 0 ∷ 0 ∷ 0 ∷ 0 ∷ 0 ∷ 0 ∷ 0 ∷ 0 ∷ 0 ∷ 0 ∷ 0 ∷ 0 ∷ 0 ∷ 0 ∷ 0 ∷ 0
    ∷ []

-- 1.2+5-3.4 is a tenth above the L of major.
unfoldable pub tenth_above_limit : List ℕ
tenth_above_limit =
    recorded_plan
    ++ (0x53 ∷ 0x55 ∷ 0 ∷ 1 ∷ 0 ∷ 0 ∷ 0 ∷ 0 ∷ 0 ∷ 5 ∷ 0 ∷ 0 ∷ 0 ∷ 1  -- 1: 0,0,5,0;A;1
    ∷ [])

unfoldable pub tenth_above_limit_results : List ℕ
tenth_above_limit_results =
    0x47 ∷ 0x52 ∷ 0 ∷ 1 ∷ 2 ∷ 2 ∷ 1 ∷ 1 ∷ 0 ∷ 0 ∷ 0 ∷ 0 ∷ 0 ∷ 27 ∷ 0 ∷ 0  -- 1 1 C C f B 0.0 0.0 2.7 0.0
    ∷ 0 ∷ 0 ∷ 0 ∷ 0 ∷ 0 ∷ 0 ∷ 0 ∷ 0 ∷ 0 ∷ 0 ∷ 0 ∷ 1 ∷ 0 ∷ 0 ∷ 0 ∷ 0
    ∷ []

-- Unit 1 comes to 2.5+3-9.5, below zero, and unit 2 starts from 0: with -4 it would stay at 0.
unfoldable pub below_zero : List ℕ
below_zero =
    recorded_plan
    ++ (0x53 ∷ 0x55 ∷ 0 ∷ 1 ∷ 0 ∷ 0 ∷ 0 ∷ 0 ∷ 0 ∷ 0 ∷ 0 ∷ 3 ∷ 0 ∷ 1  -- 1: 0,0,0,3;A;1
    ∷ 0x53 ∷ 0x55 ∷ 0 ∷ 2 ∷ 0 ∷ 0 ∷ 0 ∷ 0 ∷ 0 ∷ 0 ∷ 0 ∷ 12 ∷ 0 ∷ 1  -- 2: 0,0,0,12;A;1
    ∷ [])

unfoldable pub below_zero_results : List ℕ
below_zero_results =
    0x47 ∷ 0x52 ∷ 0 ∷ 1 ∷ 1 ∷ 1 ∷ 1 ∷ 0 ∷ 0 ∷ 0 ∷ 0 ∷ 0 ∷ 0 ∷ 0 ∷ 0 ∷ 0  -- 1 1 B B m B 0.0 0.0 0.0 0.0
    ∷ 0 ∷ 0 ∷ 0 ∷ 0 ∷ 0 ∷ 0 ∷ 0 ∷ 0 ∷ 0 ∷ 0 ∷ 0 ∷ 0 ∷ 0 ∷ 0 ∷ 0 ∷ 0
    ∷ 0x47 ∷ 0x52 ∷ 0 ∷ 2 ∷ 1 ∷ 1 ∷ 1 ∷ 0 ∷ 0 ∷ 0 ∷ 0 ∷ 0 ∷ 0 ∷ 0 ∷ 0 ∷ 25  -- 2 2 B B m B 0.0 0.0 0.0 2.5
    ∷ 0 ∷ 0 ∷ 0 ∷ 0 ∷ 0 ∷ 0 ∷ 0 ∷ 0 ∷ 0 ∷ 0 ∷ 0 ∷ 0 ∷ 0 ∷ 0 ∷ 0 ∷ 0
    ∷ []

-- As many defects as there may be. Over in total by 2.5+8,000-9.5-6 = 7,987.0, which is 01 37 FE
-- in tenths.
unfoldable pub overshoot_above_two_bytes : List ℕ
overshoot_above_two_bytes =
    recorded_plan
    ++ (0x53 ∷ 0x55 ∷ 0 ∷ 1 ∷ 7 ∷ 208 ∷ 7 ∷ 208 ∷ 7 ∷ 208 ∷ 7 ∷ 208 ∷ 0 ∷ 1  -- 1: 2000,2000,2000,2000;A;1
    ∷ [])

unfoldable pub overshoot_above_two_bytes_results : List ℕ
overshoot_above_two_bytes_results =
    0x47 ∷ 0x52 ∷ 0 ∷ 1 ∷ 3 ∷ 3 ∷ 1 ∷ 1 ∷ 0 ∷ 9 ∷ 0 ∷ 25 ∷ 0 ∷ 27 ∷ 0 ∷ 60  -- 1 1 S S f B 0.9 2.5 2.7 6.0
    ∷ 0 ∷ 0 ∷ 78 ∷ 18 ∷ 0 ∷ 0 ∷ 77 ∷ 246 ∷ 0 ∷ 0 ∷ 77 ∷ 239 ∷ 0 ∷ 1 ∷ 55 ∷ 254
    ∷ []

-- 999.9/999/999.9 in every class. Unit 1 comes to L in critical and total, 999.9+999-999, and
-- meets. Unit 2, with as many defects as there may be, fails in each: the CuSums are L, and no
-- larger.
unfoldable pub largest_cusums_regraded : List ℕ
largest_cusums_regraded =
    recorded_plan
    ++ (0x53 ∷ 0x55 ∷ 0 ∷ 1 ∷ 3 ∷ 231 ∷ 0 ∷ 0 ∷ 0 ∷ 0 ∷ 0 ∷ 0 ∷ 0 ∷ 1  -- 1: 999,0,0,0;A;1
    ∷ 0x53 ∷ 0x55 ∷ 0 ∷ 2 ∷ 7 ∷ 208 ∷ 7 ∷ 208 ∷ 7 ∷ 208 ∷ 7 ∷ 208 ∷ 0 ∷ 1  -- 2: 2000,2000,2000,2000;A;1
    ∷ 0x53 ∷ 0x55 ∷ 0 ∷ 3 ∷ 0 ∷ 0 ∷ 0 ∷ 0 ∷ 0 ∷ 0 ∷ 3 ∷ 231 ∷ 0 ∷ 1  -- 3: 0,0,0,999;A;1
    ∷ [])

unfoldable pub largest_cusums_regraded_results : List ℕ
largest_cusums_regraded_results =
    0x47 ∷ 0x52 ∷ 0 ∷ 1 ∷ 0 ∷ 0 ∷ 0 ∷ 0 ∷ 39 ∷ 15 ∷ 0 ∷ 9 ∷ 0 ∷ 9 ∷ 39 ∷ 15  -- 1 1 A A m A 999.9 0.9 0.9 999.9
    ∷ 0 ∷ 0 ∷ 0 ∷ 0 ∷ 0 ∷ 0 ∷ 0 ∷ 0 ∷ 0 ∷ 0 ∷ 0 ∷ 0 ∷ 0 ∷ 0 ∷ 0 ∷ 0
    ∷ 0x47 ∷ 0x52 ∷ 0 ∷ 2 ∷ 3 ∷ 3 ∷ 0 ∷ 1 ∷ 39 ∷ 15 ∷ 39 ∷ 15 ∷ 39 ∷ 15 ∷ 39 ∷ 15  -- 2 2 S S f A 999.9 999.9 999.9 999.9
    ∷ 0 ∷ 0 ∷ 39 ∷ 26 ∷ 0 ∷ 0 ∷ 0 ∷ 20 ∷ 0 ∷ 0 ∷ 0 ∷ 20 ∷ 0 ∷ 1 ∷ 17 ∷ 122
    ∷ 0x47 ∷ 0x52 ∷ 0 ∷ 3 ∷ 0 ∷ 0 ∷ 0 ∷ 0 ∷ 0 ∷ 9 ∷ 0 ∷ 9 ∷ 0 ∷ 9 ∷ 39 ∷ 15  -- 3 3 A A m A 0.9 0.9 0.9 999.9
    ∷ 0 ∷ 0 ∷ 0 ∷ 0 ∷ 0 ∷ 0 ∷ 0 ∷ 0 ∷ 0 ∷ 0 ∷ 0 ∷ 0 ∷ 0 ∷ 0 ∷ 0 ∷ 0
    ∷ []

-- C is worse than the B of unit 1, A is not; Substandard is worse than the C with which unit 3
-- fails, B is not. Standings go by defects alone.
unfoldable pub prerequisites : List ℕ
prerequisites =
    recorded_plan
    ++ (0x53 ∷ 0x55 ∷ 0 ∷ 1 ∷ 0 ∷ 0 ∷ 0 ∷ 0 ∷ 0 ∷ 0 ∷ 0 ∷ 10 ∷ 2 ∷ 1  -- 1: 0,0,0,10;C;1
    ∷ 0x53 ∷ 0x55 ∷ 0 ∷ 2 ∷ 0 ∷ 0 ∷ 0 ∷ 0 ∷ 0 ∷ 0 ∷ 0 ∷ 9 ∷ 0 ∷ 0  -- 2: 0,0,0,9;A;0
    ∷ 0x53 ∷ 0x55 ∷ 0 ∷ 3 ∷ 0 ∷ 0 ∷ 0 ∷ 0 ∷ 0 ∷ 0 ∷ 0 ∷ 18 ∷ 3 ∷ 1  -- 3: 0,0,0,18;S;1
    ∷ 0x53 ∷ 0x55 ∷ 0 ∷ 4 ∷ 0 ∷ 0 ∷ 0 ∷ 0 ∷ 0 ∷ 0 ∷ 0 ∷ 18 ∷ 1 ∷ 0  -- 4: 0,0,0,18;B;0
    ∷ [])

unfoldable pub prerequisites_results : List ℕ
prerequisites_results =
    0x47 ∷ 0x52 ∷ 0 ∷ 1 ∷ 2 ∷ 2 ∷ 1 ∷ 0 ∷ 0 ∷ 0 ∷ 0 ∷ 0 ∷ 0 ∷ 0 ∷ 0 ∷ 30  -- 1 1 C C m B 0.0 0.0 0.0 3.0
    ∷ 0 ∷ 0 ∷ 0 ∷ 0 ∷ 0 ∷ 0 ∷ 0 ∷ 0 ∷ 0 ∷ 0 ∷ 0 ∷ 0 ∷ 0 ∷ 0 ∷ 0 ∷ 0
    ∷ 0x47 ∷ 0x52 ∷ 0 ∷ 2 ∷ 1 ∷ 1 ∷ 1 ∷ 0 ∷ 0 ∷ 0 ∷ 0 ∷ 0 ∷ 0 ∷ 0 ∷ 0 ∷ 25  -- 2 2 B B m B 0.0 0.0 0.0 2.5
    ∷ 0 ∷ 0 ∷ 0 ∷ 0 ∷ 0 ∷ 0 ∷ 0 ∷ 0 ∷ 0 ∷ 0 ∷ 0 ∷ 0 ∷ 0 ∷ 0 ∷ 0 ∷ 0
    ∷ 0x47 ∷ 0x52 ∷ 0 ∷ 3 ∷ 3 ∷ 3 ∷ 1 ∷ 1 ∷ 0 ∷ 0 ∷ 0 ∷ 0 ∷ 0 ∷ 0 ∷ 0 ∷ 60  -- 3 3 S S f B 0.0 0.0 0.0 6.0
    ∷ 0 ∷ 0 ∷ 0 ∷ 0 ∷ 0 ∷ 0 ∷ 0 ∷ 0 ∷ 0 ∷ 0 ∷ 0 ∷ 0 ∷ 0 ∷ 0 ∷ 0 ∷ 50
    ∷ 0x47 ∷ 0x52 ∷ 0 ∷ 4 ∷ 2 ∷ 2 ∷ 1 ∷ 1 ∷ 0 ∷ 0 ∷ 0 ∷ 0 ∷ 0 ∷ 0 ∷ 0 ∷ 60  -- 4 4 C C f B 0.0 0.0 0.0 6.0
    ∷ 0 ∷ 0 ∷ 0 ∷ 0 ∷ 0 ∷ 0 ∷ 0 ∷ 0 ∷ 0 ∷ 0 ∷ 0 ∷ 0 ∷ 0 ∷ 0 ∷ 0 ∷ 85
    ∷ []

-- Units that meet, with standing 0: they restart nothing.
unfoldable pub prerequisite_substandard : List ℕ
prerequisite_substandard =
    recorded_plan
    ++ (0x53 ∷ 0x55 ∷ 0 ∷ 1 ∷ 0 ∷ 0 ∷ 0 ∷ 0 ∷ 0 ∷ 0 ∷ 0 ∷ 12 ∷ 3 ∷ 1  -- 1: 0,0,0,12;S;1
    ∷ 0x53 ∷ 0x55 ∷ 0 ∷ 2 ∷ 0 ∷ 0 ∷ 0 ∷ 0 ∷ 0 ∷ 0 ∷ 0 ∷ 10 ∷ 3 ∷ 1  -- 2: 0,0,0,10;S;1
    ∷ 0x53 ∷ 0x55 ∷ 0 ∷ 3 ∷ 0 ∷ 0 ∷ 0 ∷ 0 ∷ 0 ∷ 0 ∷ 0 ∷ 9 ∷ 0 ∷ 1  -- 3: 0,0,0,9;A;1
    ∷ [])

unfoldable pub prerequisite_substandard_results : List ℕ
prerequisite_substandard_results =
    0x47 ∷ 0x52 ∷ 0 ∷ 1 ∷ 3 ∷ 3 ∷ 1 ∷ 0 ∷ 0 ∷ 0 ∷ 0 ∷ 0 ∷ 0 ∷ 0 ∷ 0 ∷ 50  -- 1 1 S S m B 0.0 0.0 0.0 5.0
    ∷ 0 ∷ 0 ∷ 0 ∷ 0 ∷ 0 ∷ 0 ∷ 0 ∷ 0 ∷ 0 ∷ 0 ∷ 0 ∷ 0 ∷ 0 ∷ 0 ∷ 0 ∷ 0
    ∷ 0x47 ∷ 0x52 ∷ 0 ∷ 2 ∷ 3 ∷ 3 ∷ 1 ∷ 0 ∷ 0 ∷ 0 ∷ 0 ∷ 0 ∷ 0 ∷ 0 ∷ 0 ∷ 55  -- 2 2 S S m B 0.0 0.0 0.0 5.5
    ∷ 0 ∷ 0 ∷ 0 ∷ 0 ∷ 0 ∷ 0 ∷ 0 ∷ 0 ∷ 0 ∷ 0 ∷ 0 ∷ 0 ∷ 0 ∷ 0 ∷ 0 ∷ 0
    ∷ 0x47 ∷ 0x52 ∷ 0 ∷ 3 ∷ 1 ∷ 1 ∷ 1 ∷ 0 ∷ 0 ∷ 0 ∷ 0 ∷ 0 ∷ 0 ∷ 0 ∷ 0 ∷ 50  -- 3 3 B B m B 0.0 0.0 0.0 5.0
    ∷ 0 ∷ 0 ∷ 0 ∷ 0 ∷ 0 ∷ 0 ∷ 0 ∷ 0 ∷ 0 ∷ 0 ∷ 0 ∷ 0 ∷ 0 ∷ 0 ∷ 0 ∷ 0
    ∷ []

-- Unit 2 fails, and so the code of unit 1 is C, too; unit 3 has another code.
unfoldable pub code_met_again : List ℕ
code_met_again =
    recorded_plan
    ++ (0x53 ∷ 0x55 ∷ 0 ∷ 1 ∷ 0 ∷ 0 ∷ 0 ∷ 0 ∷ 0 ∷ 0 ∷ 0 ∷ 12 ∷ 0 ∷ 1  -- 1: 0,0,0,12;A;1
    ∷ 0x53 ∷ 0x55 ∷ 0 ∷ 1 ∷ 0 ∷ 0 ∷ 0 ∷ 0 ∷ 0 ∷ 0 ∷ 0 ∷ 12 ∷ 0 ∷ 1  -- 1: 0,0,0,12;A;1
    ∷ 0x53 ∷ 0x55 ∷ 0 ∷ 2 ∷ 0 ∷ 0 ∷ 0 ∷ 0 ∷ 0 ∷ 0 ∷ 0 ∷ 9 ∷ 0 ∷ 1  -- 2: 0,0,0,9;A;1
    ∷ [])

unfoldable pub code_met_again_results : List ℕ
code_met_again_results =
    0x47 ∷ 0x52 ∷ 0 ∷ 1 ∷ 1 ∷ 2 ∷ 1 ∷ 0 ∷ 0 ∷ 0 ∷ 0 ∷ 0 ∷ 0 ∷ 0 ∷ 0 ∷ 50  -- 1 1 B C m B 0.0 0.0 0.0 5.0
    ∷ 0 ∷ 0 ∷ 0 ∷ 0 ∷ 0 ∷ 0 ∷ 0 ∷ 0 ∷ 0 ∷ 0 ∷ 0 ∷ 0 ∷ 0 ∷ 0 ∷ 0 ∷ 0
    ∷ 0x47 ∷ 0x52 ∷ 0 ∷ 1 ∷ 2 ∷ 2 ∷ 1 ∷ 1 ∷ 0 ∷ 0 ∷ 0 ∷ 0 ∷ 0 ∷ 0 ∷ 0 ∷ 60  -- 2 1 C C f B 0.0 0.0 0.0 6.0
    ∷ 0 ∷ 0 ∷ 0 ∷ 0 ∷ 0 ∷ 0 ∷ 0 ∷ 0 ∷ 0 ∷ 0 ∷ 0 ∷ 0 ∷ 0 ∷ 0 ∷ 0 ∷ 15
    ∷ 0x47 ∷ 0x52 ∷ 0 ∷ 2 ∷ 1 ∷ 1 ∷ 1 ∷ 0 ∷ 0 ∷ 0 ∷ 0 ∷ 0 ∷ 0 ∷ 0 ∷ 0 ∷ 55  -- 3 2 B B m B 0.0 0.0 0.0 5.5
    ∷ 0 ∷ 0 ∷ 0 ∷ 0 ∷ 0 ∷ 0 ∷ 0 ∷ 0 ∷ 0 ∷ 0 ∷ 0 ∷ 0 ∷ 0 ∷ 0 ∷ 0 ∷ 0
    ∷ []

-- Unit 3 is worse than unit 1 of its code, and unit 4 is better than unit 2 of its.
unfoldable pub code_met_again_later : List ℕ
code_met_again_later =
    recorded_plan
    ++ (0x53 ∷ 0x55 ∷ 0 ∷ 7 ∷ 0 ∷ 0 ∷ 0 ∷ 0 ∷ 0 ∷ 0 ∷ 0 ∷ 9 ∷ 0 ∷ 1  -- 7: 0,0,0,9;A;1
    ∷ 0x53 ∷ 0x55 ∷ 0 ∷ 8 ∷ 0 ∷ 0 ∷ 0 ∷ 0 ∷ 0 ∷ 0 ∷ 0 ∷ 9 ∷ 2 ∷ 1  -- 8: 0,0,0,9;C;1
    ∷ 0x53 ∷ 0x55 ∷ 0 ∷ 7 ∷ 0 ∷ 0 ∷ 0 ∷ 0 ∷ 0 ∷ 0 ∷ 0 ∷ 9 ∷ 3 ∷ 1  -- 7: 0,0,0,9;S;1
    ∷ 0x53 ∷ 0x55 ∷ 0 ∷ 8 ∷ 0 ∷ 0 ∷ 0 ∷ 0 ∷ 0 ∷ 0 ∷ 0 ∷ 9 ∷ 0 ∷ 1  -- 8: 0,0,0,9;A;1
    ∷ [])

unfoldable pub code_met_again_later_results : List ℕ
code_met_again_later_results =
    0x47 ∷ 0x52 ∷ 0 ∷ 7 ∷ 1 ∷ 3 ∷ 1 ∷ 0 ∷ 0 ∷ 0 ∷ 0 ∷ 0 ∷ 0 ∷ 0 ∷ 0 ∷ 20  -- 1 7 B S m B 0.0 0.0 0.0 2.0
    ∷ 0 ∷ 0 ∷ 0 ∷ 0 ∷ 0 ∷ 0 ∷ 0 ∷ 0 ∷ 0 ∷ 0 ∷ 0 ∷ 0 ∷ 0 ∷ 0 ∷ 0 ∷ 0
    ∷ 0x47 ∷ 0x52 ∷ 0 ∷ 8 ∷ 2 ∷ 2 ∷ 1 ∷ 0 ∷ 0 ∷ 0 ∷ 0 ∷ 0 ∷ 0 ∷ 0 ∷ 0 ∷ 15  -- 2 8 C C m B 0.0 0.0 0.0 1.5
    ∷ 0 ∷ 0 ∷ 0 ∷ 0 ∷ 0 ∷ 0 ∷ 0 ∷ 0 ∷ 0 ∷ 0 ∷ 0 ∷ 0 ∷ 0 ∷ 0 ∷ 0 ∷ 0
    ∷ 0x47 ∷ 0x52 ∷ 0 ∷ 7 ∷ 3 ∷ 3 ∷ 1 ∷ 0 ∷ 0 ∷ 0 ∷ 0 ∷ 0 ∷ 0 ∷ 0 ∷ 0 ∷ 10  -- 3 7 S S m B 0.0 0.0 0.0 1.0
    ∷ 0 ∷ 0 ∷ 0 ∷ 0 ∷ 0 ∷ 0 ∷ 0 ∷ 0 ∷ 0 ∷ 0 ∷ 0 ∷ 0 ∷ 0 ∷ 0 ∷ 0 ∷ 0
    ∷ 0x47 ∷ 0x52 ∷ 0 ∷ 8 ∷ 1 ∷ 2 ∷ 1 ∷ 0 ∷ 0 ∷ 0 ∷ 0 ∷ 0 ∷ 0 ∷ 0 ∷ 0 ∷ 5  -- 4 8 B C m B 0.0 0.0 0.0 0.5
    ∷ 0 ∷ 0 ∷ 0 ∷ 0 ∷ 0 ∷ 0 ∷ 0 ∷ 0 ∷ 0 ∷ 0 ∷ 0 ∷ 0 ∷ 0 ∷ 0 ∷ 0 ∷ 0
    ∷ []

-- Code 1 is worse behind the break, code 2 behind the break and a redesignation; another
-- redesignation is the last record.
unfoldable pub codes_across_break_and_redesignation : List ℕ
codes_across_break_and_redesignation =
    recorded_plan
    ++ (0x53 ∷ 0x55 ∷ 0 ∷ 1 ∷ 0 ∷ 0 ∷ 0 ∷ 0 ∷ 0 ∷ 0 ∷ 0 ∷ 9 ∷ 0 ∷ 1  -- 1: 0,0,0,9;A;1
    ∷ 0x53 ∷ 0x55 ∷ 0 ∷ 2 ∷ 0 ∷ 0 ∷ 0 ∷ 0 ∷ 0 ∷ 0 ∷ 0 ∷ 9 ∷ 0 ∷ 1  -- 2: 0,0,0,9;A;1
    ∷ 0x42 ∷ 0x4B  -- break
    ∷ 0x53 ∷ 0x55 ∷ 0 ∷ 1 ∷ 0 ∷ 0 ∷ 0 ∷ 0 ∷ 0 ∷ 0 ∷ 0 ∷ 14 ∷ 0 ∷ 1  -- 1: 0,0,0,14;A;1
    ∷ 0x52 ∷ 0x44 ∷ 2  -- redesignation to C
    ∷ 0x53 ∷ 0x55 ∷ 0 ∷ 2 ∷ 0 ∷ 0 ∷ 0 ∷ 0 ∷ 0 ∷ 0 ∷ 0 ∷ 14 ∷ 0 ∷ 1  -- 2: 0,0,0,14;A;1
    ∷ 0x52 ∷ 0x44 ∷ 0  -- redesignation to A
    ∷ [])

unfoldable pub codes_across_break_and_redesignation_results : List ℕ
codes_across_break_and_redesignation_results =
    0x47 ∷ 0x52 ∷ 0 ∷ 1 ∷ 1 ∷ 2 ∷ 1 ∷ 0 ∷ 0 ∷ 0 ∷ 0 ∷ 0 ∷ 0 ∷ 0 ∷ 0 ∷ 20  -- 1 1 B C m B 0.0 0.0 0.0 2.0
    ∷ 0 ∷ 0 ∷ 0 ∷ 0 ∷ 0 ∷ 0 ∷ 0 ∷ 0 ∷ 0 ∷ 0 ∷ 0 ∷ 0 ∷ 0 ∷ 0 ∷ 0 ∷ 0
    ∷ 0x47 ∷ 0x52 ∷ 0 ∷ 2 ∷ 1 ∷ 2 ∷ 1 ∷ 0 ∷ 0 ∷ 0 ∷ 0 ∷ 0 ∷ 0 ∷ 0 ∷ 0 ∷ 15  -- 2 2 B C m B 0.0 0.0 0.0 1.5
    ∷ 0 ∷ 0 ∷ 0 ∷ 0 ∷ 0 ∷ 0 ∷ 0 ∷ 0 ∷ 0 ∷ 0 ∷ 0 ∷ 0 ∷ 0 ∷ 0 ∷ 0 ∷ 0
    ∷ 0x47 ∷ 0x52 ∷ 0 ∷ 1 ∷ 2 ∷ 2 ∷ 1 ∷ 1 ∷ 0 ∷ 0 ∷ 0 ∷ 0 ∷ 0 ∷ 0 ∷ 0 ∷ 60  -- 3 1 C C f B 0.0 0.0 0.0 6.0
    ∷ 0 ∷ 0 ∷ 0 ∷ 0 ∷ 0 ∷ 0 ∷ 0 ∷ 0 ∷ 0 ∷ 0 ∷ 0 ∷ 0 ∷ 0 ∷ 0 ∷ 0 ∷ 10
    ∷ 0x47 ∷ 0x52 ∷ 0 ∷ 2 ∷ 2 ∷ 2 ∷ 1 ∷ 1 ∷ 0 ∷ 0 ∷ 0 ∷ 0 ∷ 0 ∷ 0 ∷ 0 ∷ 60  -- 4 2 C C f B 0.0 0.0 0.0 6.0
    ∷ 0 ∷ 0 ∷ 0 ∷ 0 ∷ 0 ∷ 0 ∷ 0 ∷ 0 ∷ 0 ∷ 0 ∷ 0 ∷ 0 ∷ 0 ∷ 0 ∷ 0 ∷ 45
    ∷ []

-- 01 07, 00 07 and 01 00 are three codes.
unfoldable pub codes_alike_in_one_byte : List ℕ
codes_alike_in_one_byte =
    recorded_plan
    ++ (0x53 ∷ 0x55 ∷ 1 ∷ 7 ∷ 0 ∷ 0 ∷ 0 ∷ 0 ∷ 0 ∷ 0 ∷ 0 ∷ 9 ∷ 0 ∷ 1  -- 263: 0,0,0,9;A;1
    ∷ 0x53 ∷ 0x55 ∷ 0 ∷ 7 ∷ 0 ∷ 0 ∷ 0 ∷ 0 ∷ 0 ∷ 0 ∷ 0 ∷ 14 ∷ 0 ∷ 1  -- 7: 0,0,0,14;A;1
    ∷ 0x53 ∷ 0x55 ∷ 1 ∷ 0 ∷ 0 ∷ 0 ∷ 0 ∷ 0 ∷ 0 ∷ 0 ∷ 0 ∷ 9 ∷ 0 ∷ 1  -- 256: 0,0,0,9;A;1
    ∷ [])

unfoldable pub codes_alike_in_one_byte_results : List ℕ
codes_alike_in_one_byte_results =
    0x47 ∷ 0x52 ∷ 1 ∷ 7 ∷ 1 ∷ 1 ∷ 1 ∷ 0 ∷ 0 ∷ 0 ∷ 0 ∷ 0 ∷ 0 ∷ 0 ∷ 0 ∷ 20  -- 1 263 B B m B 0.0 0.0 0.0 2.0
    ∷ 0 ∷ 0 ∷ 0 ∷ 0 ∷ 0 ∷ 0 ∷ 0 ∷ 0 ∷ 0 ∷ 0 ∷ 0 ∷ 0 ∷ 0 ∷ 0 ∷ 0 ∷ 0
    ∷ 0x47 ∷ 0x52 ∷ 0 ∷ 7 ∷ 2 ∷ 2 ∷ 1 ∷ 1 ∷ 0 ∷ 0 ∷ 0 ∷ 0 ∷ 0 ∷ 0 ∷ 0 ∷ 60  -- 2 7 C C f B 0.0 0.0 0.0 6.0
    ∷ 0 ∷ 0 ∷ 0 ∷ 0 ∷ 0 ∷ 0 ∷ 0 ∷ 0 ∷ 0 ∷ 0 ∷ 0 ∷ 0 ∷ 0 ∷ 0 ∷ 0 ∷ 5
    ∷ 0x47 ∷ 0x52 ∷ 1 ∷ 0 ∷ 1 ∷ 1 ∷ 1 ∷ 0 ∷ 0 ∷ 0 ∷ 0 ∷ 0 ∷ 0 ∷ 0 ∷ 0 ∷ 55  -- 3 256 B B m B 0.0 0.0 0.0 5.5
    ∷ 0 ∷ 0 ∷ 0 ∷ 0 ∷ 0 ∷ 0 ∷ 0 ∷ 0 ∷ 0 ∷ 0 ∷ 0 ∷ 0 ∷ 0 ∷ 0 ∷ 0 ∷ 0
    ∷ []

-- A plan alone: every buffer is kept as it is.
unfoldable pub no_unit : List ℕ
no_unit = recorded_plan

unfoldable pub no_unit_results : List ℕ
no_unit_results = []

-- Breaks and redesignations have no result record.
unfoldable pub no_unit_but_records : List ℕ
no_unit_but_records =
    recorded_plan
    ++ (0x42 ∷ 0x4B  -- break
    ∷ 0x52 ∷ 0x44 ∷ 1  -- redesignation to B
    ∷ 0x52 ∷ 0x44 ∷ 2  -- redesignation to C
    ∷ 0x42 ∷ 0x4B  -- break
    ∷ [])

unfoldable pub no_unit_but_records_results : List ℕ
no_unit_but_records_results = []

pub record UnitSheets : Type 0 where
  pub raw_value_at_limit_holds : Graded buyer_b raw_value_at_limit 2 103 raw_value_at_limit_results
  pub tenth_above_limit_holds : Graded buyer_b tenth_above_limit 1 89 tenth_above_limit_results
  pub below_zero_holds : Graded buyer_b below_zero 2 103 below_zero_results
  pub overshoot_above_two_bytes_holds : Graded buyer_b overshoot_above_two_bytes 1 89 overshoot_above_two_bytes_results
  pub largest_cusums_regraded_holds : Graded largest_plan largest_cusums_regraded 3 117 largest_cusums_regraded_results
  pub prerequisites : Graded buyer_b prerequisites 4 131 prerequisites_results
  pub prerequisite_substandard_holds : Graded buyer_b prerequisite_substandard 3 117 prerequisite_substandard_results
  pub code_met_again_holds : Graded buyer_b code_met_again 3 117 code_met_again_results
  pub code_met_again_later_holds : Graded buyer_b code_met_again_later 4 131 code_met_again_later_results
  pub codes_across_break_and_redesignation_holds : Graded buyer_b codes_across_break_and_redesignation 4 139 codes_across_break_and_redesignation_results
  pub codes_alike_in_one_byte_holds : Graded buyer_b codes_alike_in_one_byte 3 117 codes_alike_in_one_byte_results
  pub no_unit_holds : Graded buyer_b no_unit 0 75 no_unit_results
  pub no_unit_but_records_holds : Graded buyer_b no_unit_but_records 0 85 no_unit_but_records_results

-- ---- a pair, alike but for defects, with two failures in a row and a redesignation

-- Unit 2 fails by 4.5, from L, and unit 3 goes on from L behind the redesignation. Units 2 and 4 have
-- one code.
unfoldable pub two_failures_before_redesignation : List ℕ
two_failures_before_redesignation =
    recorded_plan
    ++ (0x53 ∷ 0x55 ∷ 0 ∷ 1 ∷ 0 ∷ 0 ∷ 0 ∷ 0 ∷ 0 ∷ 0 ∷ 0 ∷ 14 ∷ 0 ∷ 1  -- 1: 0,0,0,14;A;1
    ∷ 0x53 ∷ 0x55 ∷ 0 ∷ 2 ∷ 0 ∷ 0 ∷ 0 ∷ 0 ∷ 0 ∷ 0 ∷ 0 ∷ 14 ∷ 0 ∷ 1  -- 2: 0,0,0,14;A;1
    ∷ 0x52 ∷ 0x44 ∷ 2  -- redesignation to C
    ∷ 0x53 ∷ 0x55 ∷ 0 ∷ 3 ∷ 0 ∷ 0 ∷ 0 ∷ 0 ∷ 0 ∷ 0 ∷ 0 ∷ 9 ∷ 0 ∷ 1  -- 3: 0,0,0,9;A;1
    ∷ 0x42 ∷ 0x4B  -- break
    ∷ 0x53 ∷ 0x55 ∷ 0 ∷ 2 ∷ 0 ∷ 0 ∷ 0 ∷ 0 ∷ 0 ∷ 0 ∷ 0 ∷ 12 ∷ 0 ∷ 1  -- 2: 0,0,0,12;A;1
    ∷ [])

unfoldable pub two_failures_before_redesignation_results : List ℕ
two_failures_before_redesignation_results =
    0x47 ∷ 0x52 ∷ 0 ∷ 1 ∷ 2 ∷ 2 ∷ 1 ∷ 1 ∷ 0 ∷ 0 ∷ 0 ∷ 0 ∷ 0 ∷ 0 ∷ 0 ∷ 60  -- 1 1 C C f B 0.0 0.0 0.0 6.0
    ∷ 0 ∷ 0 ∷ 0 ∷ 0 ∷ 0 ∷ 0 ∷ 0 ∷ 0 ∷ 0 ∷ 0 ∷ 0 ∷ 0 ∷ 0 ∷ 0 ∷ 0 ∷ 10
    ∷ 0x47 ∷ 0x52 ∷ 0 ∷ 2 ∷ 2 ∷ 2 ∷ 1 ∷ 1 ∷ 0 ∷ 0 ∷ 0 ∷ 0 ∷ 0 ∷ 0 ∷ 0 ∷ 60  -- 2 2 C C f B 0.0 0.0 0.0 6.0
    ∷ 0 ∷ 0 ∷ 0 ∷ 0 ∷ 0 ∷ 0 ∷ 0 ∷ 0 ∷ 0 ∷ 0 ∷ 0 ∷ 0 ∷ 0 ∷ 0 ∷ 0 ∷ 45
    ∷ 0x47 ∷ 0x52 ∷ 0 ∷ 3 ∷ 1 ∷ 1 ∷ 1 ∷ 0 ∷ 0 ∷ 0 ∷ 0 ∷ 0 ∷ 0 ∷ 0 ∷ 0 ∷ 55  -- 3 3 B B m B 0.0 0.0 0.0 5.5
    ∷ 0 ∷ 0 ∷ 0 ∷ 0 ∷ 0 ∷ 0 ∷ 0 ∷ 0 ∷ 0 ∷ 0 ∷ 0 ∷ 0 ∷ 0 ∷ 0 ∷ 0 ∷ 0
    ∷ 0x47 ∷ 0x52 ∷ 0 ∷ 2 ∷ 1 ∷ 2 ∷ 1 ∷ 0 ∷ 0 ∷ 0 ∷ 0 ∷ 0 ∷ 0 ∷ 0 ∷ 0 ∷ 50  -- 4 2 B C m B 0.0 0.0 0.0 5.0
    ∷ 0 ∷ 0 ∷ 0 ∷ 0 ∷ 0 ∷ 0 ∷ 0 ∷ 0 ∷ 0 ∷ 0 ∷ 0 ∷ 0 ∷ 0 ∷ 0 ∷ 0 ∷ 0
    ∷ []

-- The same but for unit 2, which meets at 5.5; so unit 3 comes to 5. Behind the break the CuSums are
-- alike, the code is better.
unfoldable pub five_minor_defects_fewer : List ℕ
five_minor_defects_fewer =
    recorded_plan
    ++ (0x53 ∷ 0x55 ∷ 0 ∷ 1 ∷ 0 ∷ 0 ∷ 0 ∷ 0 ∷ 0 ∷ 0 ∷ 0 ∷ 14 ∷ 0 ∷ 1  -- 1: 0,0,0,14;A;1
    ∷ 0x53 ∷ 0x55 ∷ 0 ∷ 2 ∷ 0 ∷ 0 ∷ 0 ∷ 0 ∷ 0 ∷ 0 ∷ 0 ∷ 9 ∷ 0 ∷ 1  -- 2: 0,0,0,9;A;1
    ∷ 0x52 ∷ 0x44 ∷ 2  -- redesignation to C
    ∷ 0x53 ∷ 0x55 ∷ 0 ∷ 3 ∷ 0 ∷ 0 ∷ 0 ∷ 0 ∷ 0 ∷ 0 ∷ 0 ∷ 9 ∷ 0 ∷ 1  -- 3: 0,0,0,9;A;1
    ∷ 0x42 ∷ 0x4B  -- break
    ∷ 0x53 ∷ 0x55 ∷ 0 ∷ 2 ∷ 0 ∷ 0 ∷ 0 ∷ 0 ∷ 0 ∷ 0 ∷ 0 ∷ 12 ∷ 0 ∷ 1  -- 2: 0,0,0,12;A;1
    ∷ [])

unfoldable pub five_minor_defects_fewer_results : List ℕ
five_minor_defects_fewer_results =
    0x47 ∷ 0x52 ∷ 0 ∷ 1 ∷ 2 ∷ 2 ∷ 1 ∷ 1 ∷ 0 ∷ 0 ∷ 0 ∷ 0 ∷ 0 ∷ 0 ∷ 0 ∷ 60  -- 1 1 C C f B 0.0 0.0 0.0 6.0
    ∷ 0 ∷ 0 ∷ 0 ∷ 0 ∷ 0 ∷ 0 ∷ 0 ∷ 0 ∷ 0 ∷ 0 ∷ 0 ∷ 0 ∷ 0 ∷ 0 ∷ 0 ∷ 10
    ∷ 0x47 ∷ 0x52 ∷ 0 ∷ 2 ∷ 1 ∷ 1 ∷ 1 ∷ 0 ∷ 0 ∷ 0 ∷ 0 ∷ 0 ∷ 0 ∷ 0 ∷ 0 ∷ 55  -- 2 2 B B m B 0.0 0.0 0.0 5.5
    ∷ 0 ∷ 0 ∷ 0 ∷ 0 ∷ 0 ∷ 0 ∷ 0 ∷ 0 ∷ 0 ∷ 0 ∷ 0 ∷ 0 ∷ 0 ∷ 0 ∷ 0 ∷ 0
    ∷ 0x47 ∷ 0x52 ∷ 0 ∷ 3 ∷ 1 ∷ 1 ∷ 1 ∷ 0 ∷ 0 ∷ 0 ∷ 0 ∷ 0 ∷ 0 ∷ 0 ∷ 0 ∷ 50  -- 3 3 B B m B 0.0 0.0 0.0 5.0
    ∷ 0 ∷ 0 ∷ 0 ∷ 0 ∷ 0 ∷ 0 ∷ 0 ∷ 0 ∷ 0 ∷ 0 ∷ 0 ∷ 0 ∷ 0 ∷ 0 ∷ 0 ∷ 0
    ∷ 0x47 ∷ 0x52 ∷ 0 ∷ 2 ∷ 1 ∷ 1 ∷ 1 ∷ 0 ∷ 0 ∷ 0 ∷ 0 ∷ 0 ∷ 0 ∷ 0 ∷ 0 ∷ 50  -- 4 2 B B m B 0.0 0.0 0.0 5.0
    ∷ 0 ∷ 0 ∷ 0 ∷ 0 ∷ 0 ∷ 0 ∷ 0 ∷ 0 ∷ 0 ∷ 0 ∷ 0 ∷ 0 ∷ 0 ∷ 0 ∷ 0 ∷ 0
    ∷ []

pub record FewerSheets : Type 0 where
  pub two_failures_before_redesignation_holds : Graded buyer_b two_failures_before_redesignation 4 136 two_failures_before_redesignation_results
  pub five_minor_defects_fewer_holds : Graded buyer_b five_minor_defects_fewer 4 136 five_minor_defects_fewer_results

-- ---- sheets that are refused, and a buffer without room

-- 1 and 18: another first mark.
unfoldable pub ground1 : List ℕ
ground1 =
    set recorded_plan 1 0x4D
    ++ (0x53 ∷ 0x55 ∷ 0 ∷ 1 ∷ 0 ∷ 0 ∷ 0 ∷ 0 ∷ 0 ∷ 0 ∷ 0 ∷ 9 ∷ 0 ∷ 1  -- 1: 0,0,0,9;A;1
    ∷ [])

-- 2 and 18: designated Substandard.
unfoldable pub ground2 : List ℕ
ground2 =
    set recorded_plan 2 3
    ++ (0x53 ∷ 0x55 ∷ 0 ∷ 1 ∷ 0 ∷ 0 ∷ 0 ∷ 0 ∷ 0 ∷ 0 ∷ 0 ∷ 9 ∷ 0 ∷ 1  -- 1: 0,0,0,9;A;1
    ∷ [])

-- 3 and 18: the L of total at C of the sheet's own plan is 1,000.0.
unfoldable pub ground3 : List ℕ
ground3 =
    set (set recorded_plan 73 39) 74 16
    ++ (0x53 ∷ 0x55 ∷ 0 ∷ 1 ∷ 0 ∷ 0 ∷ 0 ∷ 0 ∷ 0 ∷ 0 ∷ 0 ∷ 9 ∷ 0 ∷ 1  -- 1: 0,0,0,9;A;1
    ∷ [])

-- 4 and 18: the S of critical at A of the sheet's own plan is 0.6, and L 0.5.
unfoldable pub ground4 : List ℕ
ground4 =
    set recorded_plan 4 6
    ++ (0x53 ∷ 0x55 ∷ 0 ∷ 1 ∷ 0 ∷ 0 ∷ 0 ∷ 0 ∷ 0 ∷ 0 ∷ 0 ∷ 9 ∷ 0 ∷ 1  -- 1: 0,0,0,9;A;1
    ∷ [])

-- 5 and 18: in critical T of the sheet's own plan is smaller at B than at A.
unfoldable pub ground5 : List ℕ
ground5 =
    set recorded_plan 30 4
    ++ (0x53 ∷ 0x55 ∷ 0 ∷ 1 ∷ 0 ∷ 0 ∷ 0 ∷ 0 ∷ 0 ∷ 0 ∷ 0 ∷ 9 ∷ 0 ∷ 1  -- 1: 0,0,0,9;A;1
    ∷ [])

-- 6 and 18: one byte left.
unfoldable pub ground6 : List ℕ
ground6 =
    recorded_plan
    ++ (0x53 ∷ 0x55 ∷ 0 ∷ 1 ∷ 0 ∷ 0 ∷ 0 ∷ 0 ∷ 0 ∷ 0 ∷ 0 ∷ 9 ∷ 0 ∷ 1  -- 1: 0,0,0,9;A;1
    ∷ 0x53  -- one byte
    ∷ [])

-- 7 and 18: a unit cut short by its last byte.
unfoldable pub ground7 : List ℕ
ground7 =
    recorded_plan
    ++ (0x53 ∷ 0x55 ∷ 0 ∷ 1 ∷ 0 ∷ 0 ∷ 0 ∷ 0 ∷ 0 ∷ 0 ∷ 0 ∷ 9 ∷ 0 ∷ 1  -- 1: 0,0,0,9;A;1
    ∷ 0x53 ∷ 0x55 ∷ 0 ∷ 2 ∷ 0 ∷ 0 ∷ 0 ∷ 0 ∷ 0 ∷ 0 ∷ 0 ∷ 9 ∷ 0  -- 13 bytes of 2: 0,0,0,9;A;1
    ∷ [])

-- 8 and 18: a count of 2,001.
unfoldable pub ground8 : List ℕ
ground8 =
    recorded_plan
    ++ (0x53 ∷ 0x55 ∷ 0 ∷ 1 ∷ 0 ∷ 0 ∷ 0 ∷ 0 ∷ 0 ∷ 0 ∷ 0 ∷ 9 ∷ 0 ∷ 1  -- 1: 0,0,0,9;A;1
    ∷ 0x42 ∷ 0x4B  -- break
    ∷ 0x53 ∷ 0x55 ∷ 0 ∷ 2 ∷ 0 ∷ 0 ∷ 7 ∷ 209 ∷ 0 ∷ 0 ∷ 0 ∷ 0 ∷ 0 ∷ 1  -- 2: 0,2001,0,0;A;1
    ∷ [])

-- 9 and 18: a prerequisite grade of 4.
unfoldable pub ground9 : List ℕ
ground9 =
    recorded_plan
    ++ (0x53 ∷ 0x55 ∷ 0 ∷ 1 ∷ 0 ∷ 0 ∷ 0 ∷ 0 ∷ 0 ∷ 0 ∷ 0 ∷ 9 ∷ 0 ∷ 1  -- 1: 0,0,0,9;A;1
    ∷ 0x53 ∷ 0x55 ∷ 0 ∷ 2 ∷ 0 ∷ 0 ∷ 0 ∷ 0 ∷ 0 ∷ 0 ∷ 0 ∷ 9 ∷ 4 ∷ 1  -- 2: 0,0,0,9, prerequisite grade 4
    ∷ [])

-- 10 and 18: a redesignation to Substandard.
unfoldable pub ground10 : List ℕ
ground10 =
    recorded_plan
    ++ (0x53 ∷ 0x55 ∷ 0 ∷ 1 ∷ 0 ∷ 0 ∷ 0 ∷ 0 ∷ 0 ∷ 0 ∷ 0 ∷ 9 ∷ 0 ∷ 1  -- 1: 0,0,0,9;A;1
    ∷ 0x52 ∷ 0x44 ∷ 3  -- redesignation to S
    ∷ [])

-- 11 and 18: by the sheet's own designations, A of its plan and then B.
unfoldable pub ground11 : List ℕ
ground11 =
    recorded_plan
    ++ (0x53 ∷ 0x55 ∷ 0 ∷ 1 ∷ 0 ∷ 0 ∷ 0 ∷ 0 ∷ 0 ∷ 0 ∷ 0 ∷ 9 ∷ 0 ∷ 1  -- 1: 0,0,0,9;A;1
    ∷ 0x52 ∷ 0x44 ∷ 1  -- redesignation to B
    ∷ 0x52 ∷ 0x44 ∷ 1  -- redesignation to B
    ∷ [])

-- 11: the sheet designates A and the second plan, which is right, B.
unfoldable pub ground11_by_recorded_plan : List ℕ
ground11_by_recorded_plan =
    recorded_plan
    ++ (0x52 ∷ 0x44 ∷ 0  -- redesignation to A
    ∷ 0x53 ∷ 0x55 ∷ 0 ∷ 1 ∷ 0 ∷ 0 ∷ 0 ∷ 0 ∷ 0 ∷ 0 ∷ 0 ∷ 9 ∷ 0 ∷ 1  -- 1: 0,0,0,9;A;1
    ∷ [])

-- 13: at the sheet's length, by the units and not by the records, also with room for one of them.
unfoldable pub buffer_without_room : List ℕ
buffer_without_room =
    recorded_plan
    ++ (0x53 ∷ 0x55 ∷ 0 ∷ 1 ∷ 0 ∷ 0 ∷ 0 ∷ 0 ∷ 0 ∷ 0 ∷ 0 ∷ 9 ∷ 0 ∷ 1  -- 1: 0,0,0,9;A;1
    ∷ 0x52 ∷ 0x44 ∷ 2  -- redesignation to C
    ∷ 0x42 ∷ 0x4B  -- break
    ∷ 0x53 ∷ 0x55 ∷ 0 ∷ 2 ∷ 0 ∷ 0 ∷ 0 ∷ 0 ∷ 0 ∷ 0 ∷ 0 ∷ 14 ∷ 0 ∷ 1  -- 2: 0,0,0,14;A;1
    ∷ [])

pub record RefusedSheets : Type 0 where
  pub ground_1 : RefusedWith (take 74 buyer_b) 1 ground1 0
  pub ground_2 : RefusedWith (take 74 buyer_b) 2 ground2 0
  pub ground_3 : RefusedWith (take 74 buyer_b) 3 ground3 0
  pub ground_4 : RefusedWith (take 74 buyer_b) 4 ground4 0
  pub ground_5 : RefusedWith (take 74 buyer_b) 5 ground5 0
  pub ground_6 : RefusedWith (take 74 buyer_b) 6 ground6 89
  pub ground_7 : RefusedWith (take 74 buyer_b) 7 ground7 89
  pub ground_8 : RefusedWith (take 74 buyer_b) 8 ground8 91
  pub ground_9 : RefusedWith (take 74 buyer_b) 9 ground9 89
  pub ground_10 : RefusedWith (take 74 buyer_b) 10 ground10 89
  pub ground_11 : RefusedWith (take 74 buyer_b) 11 ground11 92
  pub ground_11_by_recorded_plan : RefusedWith buyer_b 11 ground11_by_recorded_plan 75
  pub buffer_without_room_holds : WithoutRoom buyer_b 13 buffer_without_room 2 108

-- ---- second plans that are refused: 18, also in a buffer without room

pub record WrongPlanSheets : Type 0 where
  -- no byte
  pub no_byte_holds : RefusedWith [] 18 failure_of_second_plan 0
  -- all bytes of a plan but one
  pub byte_less : RefusedWith (take 74 buyer_b) 18 failure_of_second_plan 0
  -- a plan and one byte
  pub byte_more : RefusedWith (buyer_b ++ (0x50 ∷ [])) 18 failure_of_second_plan 0
  -- a sheet, too
  pub plan_and_unit : RefusedWith (buyer_b ++ (0x53 ∷ 0x55 ∷ 0 ∷ 1 ∷ 0 ∷ 0 ∷ 0 ∷ 0 ∷ 0 ∷ 0 ∷ 0 ∷ 9 ∷ 0 ∷ 1 ∷ [])) 18 failure_of_second_plan 0
  -- the mark 51 4C
  pub another_first_byte : RefusedWith (set buyer_b 0 0x51) 18 failure_of_second_plan 0
  -- the mark 50 4D
  pub another_second_byte : RefusedWith (set buyer_b 1 0x4D) 18 failure_of_second_plan 0
  -- 2: designated Substandard
  pub no_designated_plan : RefusedWith (set buyer_b 2 3) 18 failure_of_second_plan 0
  -- 3: the L of total at C is 1,000.0
  pub limit_too_large : RefusedWith (set (set buyer_b 73 39) 74 16) 18 failure_of_second_plan 0
  -- 3: the S of major at B is 1,000.0
  pub start_too_large : RefusedWith (set (set buyer_b 39 39) 40 16) 18 failure_of_second_plan 0
  -- 3: the T of critical at A is 1,000.0
  pub tolerance_too_large : RefusedWith (set (set buyer_b 5 39) 6 16) 18 failure_of_second_plan 0
  -- 4: the S of critical at A is 0.8, and L 0.7
  pub start_above_limit_holds : RefusedWith (set buyer_b 4 8) 18 failure_of_second_plan 0
  -- 4: the S of total at C is 9.1, and L 9
  pub start_above_limit_at_c : RefusedWith (set buyer_b 70 91) 18 failure_of_second_plan 0
  -- 5: the T of critical is 0.4 at A and 0.3 at B
  pub smaller_tolerance : RefusedWith (set buyer_b 30 3) 18 failure_of_second_plan 0
  -- 5: the T+L of severe is 3.4 at A and 3.3 at B
  pub smaller_sum : RefusedWith (set buyer_b 38 8) 18 failure_of_second_plan 0
  -- 5: the T of total is 9.5 at B and 9.4 at C
  pub smaller_tolerance_at_c : RefusedWith (set buyer_b 72 94) 18 failure_of_second_plan 0
  -- 5: the T+L of severe is 5 at B and 4.9 at C
  pub smaller_sum_at_c : RefusedWith (set (set buyer_b 58 5) 62 9) 18 failure_of_second_plan 0
  -- also for a sheet without a unit
  pub no_unit_to_grade : RefusedWith (take 74 buyer_b) 18 no_unit 0

-- all of them
pub record RegradeSheets : Type 0 where
  pub failures : FailureSheets
  pub redesignations : RedesignationSheets
  pub breaks : BreakSheets
  pub second_plans : SecondPlanSheets
  pub units : UnitSheets
  pub fewer_defects : FewerSheets
  pub refusals : RefusedSheets
  pub wrong_plans : WrongPlanSheets

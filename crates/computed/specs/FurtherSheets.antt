-- Further sheets in bytes beside the worked cases, as one group: the record at the end. Each is held to the answer and the result bytes
-- that the independent grader gives for it (tests/grader, written from the papers alone), so that a rule which is wrong on one of them
-- alike in a definition and in the code that meets it is refused here. This file is printed by tests/cases/src/bin/computed_sheets.rs.
use Rattle.std.specs.Prelude.{ℕ, zero, suc, ◌≡◌, List, [], ◌∷◌, ◌++◌, take, set}
use Rattle.results.specs.Record.{result_size}
use Rattle.outcome.specs.Held.{GradedBy, RefusedBy, WithoutRoomBy}
use Rattle.tally.specs.Outcome.{outcome}
use Rattle.text.specs.Ascii.{ascii}
use Rattle.lines.specs.Lines.{lines_of, printed}
use Rattle.computed.specs.WorkedCases.{peach_plan}

abbrev pub Graded : List ℕ → ℕ → ℕ → List ℕ → Type 0
Graded = GradedBy outcome result_size

abbrev pub RefusedWith : ℕ → List ℕ → ℕ → Type 0
RefusedWith = RefusedBy outcome

abbrev pub WithoutRoom : ℕ → List ℕ → ℕ → ℕ → Type 0
WithoutRoom = WithoutRoomBy outcome result_size

-- the plan with the largest S and L in every class, designated A: 50 4C, 0; then for A, B, C a line for each class, with its S/T/L
unfoldable pub largest_plan : List ℕ
largest_plan =
    0x50 ∷ 0x4C ∷ 0
    -- A
    ∷ 39 ∷ 15 ∷ 39 ∷ 6 ∷ 39 ∷ 15  -- 999.9/999/999.9
    ∷ 39 ∷ 15 ∷ 39 ∷ 6 ∷ 39 ∷ 15  -- 999.9/999/999.9
    ∷ 39 ∷ 15 ∷ 39 ∷ 6 ∷ 39 ∷ 15  -- 999.9/999/999.9
    ∷ 39 ∷ 15 ∷ 39 ∷ 6 ∷ 39 ∷ 15  -- 999.9/999/999.9
    -- B
    ∷ 39 ∷ 15 ∷ 39 ∷ 6 ∷ 39 ∷ 15  -- 999.9/999/999.9
    ∷ 39 ∷ 15 ∷ 39 ∷ 6 ∷ 39 ∷ 15  -- 999.9/999/999.9
    ∷ 39 ∷ 15 ∷ 39 ∷ 6 ∷ 39 ∷ 15  -- 999.9/999/999.9
    ∷ 39 ∷ 15 ∷ 39 ∷ 6 ∷ 39 ∷ 15  -- 999.9/999/999.9
    -- C
    ∷ 39 ∷ 15 ∷ 39 ∷ 6 ∷ 39 ∷ 15  -- 999.9/999/999.9
    ∷ 39 ∷ 15 ∷ 39 ∷ 6 ∷ 39 ∷ 15  -- 999.9/999/999.9
    ∷ 39 ∷ 15 ∷ 39 ∷ 6 ∷ 39 ∷ 15  -- 999.9/999/999.9
    ∷ 39 ∷ 15 ∷ 39 ∷ 6 ∷ 39 ∷ 15  -- 999.9/999/999.9
    ∷ []

-- a record so many times, and what stands behind them
unfoldable pub repeated : ℕ → List ℕ → List ℕ → List ℕ
repeated zero bytes behind = behind
repeated (suc times) bytes behind = bytes ++ repeated times bytes behind

-- In a sheet behind each record its content: of a unit code, counts of critical, severe, major, minor, prerequisite, recoverable. In
-- results behind each record the line that is printed for it.

-- ---- breaks

-- A break sets the CuSums to S: with those of unit 1 the second would fail, from zero they
-- would be lower. Unit 3 goes on from unit 2.
unfoldable pub break_between_units : List ℕ
break_between_units =
    peach_plan
    ++ (0x53 ∷ 0x55 ∷ 0 ∷ 1 ∷ 0 ∷ 0 ∷ 0 ∷ 1 ∷ 0 ∷ 4 ∷ 0 ∷ 4 ∷ 0 ∷ 1  -- 1: 0,1,4,4;A;1
    ∷ 0x42 ∷ 0x4B  -- break
    ∷ 0x53 ∷ 0x55 ∷ 0 ∷ 2 ∷ 0 ∷ 0 ∷ 0 ∷ 1 ∷ 0 ∷ 4 ∷ 0 ∷ 4 ∷ 0 ∷ 1  -- 2: 0,1,4,4;A;1
    ∷ 0x53 ∷ 0x55 ∷ 0 ∷ 3 ∷ 0 ∷ 0 ∷ 0 ∷ 0 ∷ 0 ∷ 3 ∷ 0 ∷ 3 ∷ 0 ∷ 1  -- 3: 0,0,3,3;A;1
    ∷ [])

unfoldable pub break_between_units_results : List ℕ
break_between_units_results =
    0x47 ∷ 0x52 ∷ 0 ∷ 1 ∷ 0 ∷ 0 ∷ 0 ∷ 0 ∷ 0 ∷ 0 ∷ 0 ∷ 0 ∷ 0 ∷ 20 ∷ 0 ∷ 40  -- 1 1 A A m A 0.0 0.0 2.0 4.0
    ∷ 0 ∷ 0 ∷ 0 ∷ 0 ∷ 0 ∷ 0 ∷ 0 ∷ 0 ∷ 0 ∷ 0 ∷ 0 ∷ 0 ∷ 0 ∷ 0 ∷ 0 ∷ 0
    ∷ 0x47 ∷ 0x52 ∷ 0 ∷ 2 ∷ 0 ∷ 0 ∷ 0 ∷ 0 ∷ 0 ∷ 0 ∷ 0 ∷ 0 ∷ 0 ∷ 20 ∷ 0 ∷ 40  -- 2 2 A A m A 0.0 0.0 2.0 4.0
    ∷ 0 ∷ 0 ∷ 0 ∷ 0 ∷ 0 ∷ 0 ∷ 0 ∷ 0 ∷ 0 ∷ 0 ∷ 0 ∷ 0 ∷ 0 ∷ 0 ∷ 0 ∷ 0
    ∷ 0x47 ∷ 0x52 ∷ 0 ∷ 3 ∷ 0 ∷ 0 ∷ 0 ∷ 0 ∷ 0 ∷ 0 ∷ 0 ∷ 0 ∷ 0 ∷ 20 ∷ 0 ∷ 40  -- 3 3 A A m A 0.0 0.0 2.0 4.0
    ∷ 0 ∷ 0 ∷ 0 ∷ 0 ∷ 0 ∷ 0 ∷ 0 ∷ 0 ∷ 0 ∷ 0 ∷ 0 ∷ 0 ∷ 0 ∷ 0 ∷ 0 ∷ 0
    ∷ []

-- A break forgets the failure just before: no step 3, else unit 3 would be under B.
unfoldable pub break_between_failures : List ℕ
break_between_failures =
    peach_plan
    ++ (0x53 ∷ 0x55 ∷ 0 ∷ 1 ∷ 0 ∷ 0 ∷ 0 ∷ 0 ∷ 0 ∷ 0 ∷ 0 ∷ 12 ∷ 0 ∷ 1  -- 1: 0,0,0,12;A;1
    ∷ 0x42 ∷ 0x4B  -- break
    ∷ 0x53 ∷ 0x55 ∷ 0 ∷ 2 ∷ 0 ∷ 0 ∷ 0 ∷ 0 ∷ 0 ∷ 0 ∷ 0 ∷ 12 ∷ 0 ∷ 1  -- 2: 0,0,0,12;A;1
    ∷ 0x53 ∷ 0x55 ∷ 0 ∷ 3 ∷ 0 ∷ 0 ∷ 0 ∷ 0 ∷ 0 ∷ 3 ∷ 0 ∷ 3 ∷ 0 ∷ 1  -- 3: 0,0,3,3;A;1
    ∷ [])

unfoldable pub break_between_failures_results : List ℕ
break_between_failures_results =
    0x47 ∷ 0x52 ∷ 0 ∷ 1 ∷ 1 ∷ 1 ∷ 0 ∷ 1 ∷ 0 ∷ 0 ∷ 0 ∷ 0 ∷ 0 ∷ 0 ∷ 0 ∷ 40  -- 1 1 B B f A 0.0 0.0 0.0 4.0
    ∷ 0 ∷ 0 ∷ 0 ∷ 0 ∷ 0 ∷ 0 ∷ 0 ∷ 0 ∷ 0 ∷ 0 ∷ 0 ∷ 0 ∷ 0 ∷ 0 ∷ 0 ∷ 30
    ∷ 0x47 ∷ 0x52 ∷ 0 ∷ 2 ∷ 1 ∷ 1 ∷ 0 ∷ 1 ∷ 0 ∷ 0 ∷ 0 ∷ 0 ∷ 0 ∷ 0 ∷ 0 ∷ 40  -- 2 2 B B f A 0.0 0.0 0.0 4.0
    ∷ 0 ∷ 0 ∷ 0 ∷ 0 ∷ 0 ∷ 0 ∷ 0 ∷ 0 ∷ 0 ∷ 0 ∷ 0 ∷ 0 ∷ 0 ∷ 0 ∷ 0 ∷ 30
    ∷ 0x47 ∷ 0x52 ∷ 0 ∷ 3 ∷ 0 ∷ 0 ∷ 0 ∷ 0 ∷ 0 ∷ 0 ∷ 0 ∷ 0 ∷ 0 ∷ 0 ∷ 0 ∷ 40  -- 3 3 A A m A 0.0 0.0 0.0 4.0
    ∷ 0 ∷ 0 ∷ 0 ∷ 0 ∷ 0 ∷ 0 ∷ 0 ∷ 0 ∷ 0 ∷ 0 ∷ 0 ∷ 0 ∷ 0 ∷ 0 ∷ 0 ∷ 0
    ∷ []

-- A break in step 3 sets the CuSums to the S of the lower plan, not to that of the designated
-- one, and does not end step 3. With CuSums kept, unit 4 would fail.
unfoldable pub break_in_step_three : List ℕ
break_in_step_three =
    peach_plan
    ++ (0x53 ∷ 0x55 ∷ 0 ∷ 1 ∷ 0 ∷ 0 ∷ 0 ∷ 0 ∷ 0 ∷ 0 ∷ 0 ∷ 12 ∷ 0 ∷ 1  -- 1: 0,0,0,12;A;1
    ∷ 0x53 ∷ 0x55 ∷ 0 ∷ 2 ∷ 0 ∷ 0 ∷ 0 ∷ 0 ∷ 0 ∷ 0 ∷ 0 ∷ 12 ∷ 0 ∷ 1  -- 2: 0,0,0,12;A;1
    ∷ 0x53 ∷ 0x55 ∷ 0 ∷ 3 ∷ 0 ∷ 0 ∷ 0 ∷ 4 ∷ 0 ∷ 6 ∷ 0 ∷ 4 ∷ 0 ∷ 1  -- 3: 0,4,6,4;A;1
    ∷ 0x42 ∷ 0x4B  -- break
    ∷ 0x53 ∷ 0x55 ∷ 0 ∷ 4 ∷ 0 ∷ 0 ∷ 0 ∷ 4 ∷ 0 ∷ 6 ∷ 0 ∷ 4 ∷ 0 ∷ 1  -- 4: 0,4,6,4;A;1
    ∷ [])

unfoldable pub break_in_step_three_results : List ℕ
break_in_step_three_results =
    0x47 ∷ 0x52 ∷ 0 ∷ 1 ∷ 1 ∷ 1 ∷ 0 ∷ 1 ∷ 0 ∷ 0 ∷ 0 ∷ 0 ∷ 0 ∷ 0 ∷ 0 ∷ 40  -- 1 1 B B f A 0.0 0.0 0.0 4.0
    ∷ 0 ∷ 0 ∷ 0 ∷ 0 ∷ 0 ∷ 0 ∷ 0 ∷ 0 ∷ 0 ∷ 0 ∷ 0 ∷ 0 ∷ 0 ∷ 0 ∷ 0 ∷ 30
    ∷ 0x47 ∷ 0x52 ∷ 0 ∷ 2 ∷ 1 ∷ 1 ∷ 0 ∷ 1 ∷ 0 ∷ 0 ∷ 0 ∷ 0 ∷ 0 ∷ 0 ∷ 0 ∷ 40  -- 2 2 B B f A 0.0 0.0 0.0 4.0
    ∷ 0 ∷ 0 ∷ 0 ∷ 0 ∷ 0 ∷ 0 ∷ 0 ∷ 0 ∷ 0 ∷ 0 ∷ 0 ∷ 0 ∷ 0 ∷ 0 ∷ 0 ∷ 60
    ∷ 0x47 ∷ 0x52 ∷ 0 ∷ 3 ∷ 1 ∷ 1 ∷ 1 ∷ 2 ∷ 0 ∷ 0 ∷ 0 ∷ 20 ∷ 0 ∷ 20 ∷ 0 ∷ 40  -- 3 3 B B u B 0.0 2.0 2.0 4.0
    ∷ 0 ∷ 0 ∷ 0 ∷ 0 ∷ 0 ∷ 0 ∷ 0 ∷ 0 ∷ 0 ∷ 0 ∷ 0 ∷ 0 ∷ 0 ∷ 0 ∷ 0 ∷ 0
    ∷ 0x47 ∷ 0x52 ∷ 0 ∷ 4 ∷ 1 ∷ 1 ∷ 1 ∷ 2 ∷ 0 ∷ 0 ∷ 0 ∷ 20 ∷ 0 ∷ 20 ∷ 0 ∷ 40  -- 4 4 B B u B 0.0 2.0 2.0 4.0
    ∷ 0 ∷ 0 ∷ 0 ∷ 0 ∷ 0 ∷ 0 ∷ 0 ∷ 0 ∷ 0 ∷ 0 ∷ 0 ∷ 0 ∷ 0 ∷ 0 ∷ 0 ∷ 0
    ∷ []

-- A break sets the run of qualifying units to none: else units 3 to 5 would be recovered and unit
-- 6 be under A.
unfoldable pub break_in_run : List ℕ
break_in_run =
    peach_plan
    ++ (0x53 ∷ 0x55 ∷ 0 ∷ 1 ∷ 0 ∷ 0 ∷ 0 ∷ 0 ∷ 0 ∷ 0 ∷ 0 ∷ 12 ∷ 0 ∷ 1  -- 1: 0,0,0,12;A;1
    ∷ 0x53 ∷ 0x55 ∷ 0 ∷ 2 ∷ 0 ∷ 0 ∷ 0 ∷ 0 ∷ 0 ∷ 0 ∷ 0 ∷ 12 ∷ 0 ∷ 1  -- 2: 0,0,0,12;A;1
    ∷ 0x53 ∷ 0x55 ∷ 0 ∷ 3 ∷ 0 ∷ 0 ∷ 0 ∷ 0 ∷ 0 ∷ 1 ∷ 0 ∷ 2 ∷ 0 ∷ 1  -- 3: 0,0,1,2;A;1
    ∷ 0x53 ∷ 0x55 ∷ 0 ∷ 4 ∷ 0 ∷ 0 ∷ 0 ∷ 0 ∷ 0 ∷ 1 ∷ 0 ∷ 2 ∷ 0 ∷ 1  -- 4: 0,0,1,2;A;1
    ∷ 0x42 ∷ 0x4B  -- break
    ∷ 0x53 ∷ 0x55 ∷ 0 ∷ 5 ∷ 0 ∷ 0 ∷ 0 ∷ 0 ∷ 0 ∷ 1 ∷ 0 ∷ 2 ∷ 0 ∷ 1  -- 5: 0,0,1,2;A;1
    ∷ 0x53 ∷ 0x55 ∷ 0 ∷ 6 ∷ 0 ∷ 0 ∷ 0 ∷ 0 ∷ 0 ∷ 1 ∷ 0 ∷ 2 ∷ 0 ∷ 1  -- 6: 0,0,1,2;A;1
    ∷ [])

unfoldable pub break_in_run_results : List ℕ
break_in_run_results =
    0x47 ∷ 0x52 ∷ 0 ∷ 1 ∷ 1 ∷ 1 ∷ 0 ∷ 1 ∷ 0 ∷ 0 ∷ 0 ∷ 0 ∷ 0 ∷ 0 ∷ 0 ∷ 40  -- 1 1 B B f A 0.0 0.0 0.0 4.0
    ∷ 0 ∷ 0 ∷ 0 ∷ 0 ∷ 0 ∷ 0 ∷ 0 ∷ 0 ∷ 0 ∷ 0 ∷ 0 ∷ 0 ∷ 0 ∷ 0 ∷ 0 ∷ 30
    ∷ 0x47 ∷ 0x52 ∷ 0 ∷ 2 ∷ 1 ∷ 1 ∷ 0 ∷ 1 ∷ 0 ∷ 0 ∷ 0 ∷ 0 ∷ 0 ∷ 0 ∷ 0 ∷ 40  -- 2 2 B B f A 0.0 0.0 0.0 4.0
    ∷ 0 ∷ 0 ∷ 0 ∷ 0 ∷ 0 ∷ 0 ∷ 0 ∷ 0 ∷ 0 ∷ 0 ∷ 0 ∷ 0 ∷ 0 ∷ 0 ∷ 0 ∷ 60
    ∷ 0x47 ∷ 0x52 ∷ 0 ∷ 3 ∷ 1 ∷ 1 ∷ 1 ∷ 2 ∷ 0 ∷ 0 ∷ 0 ∷ 0 ∷ 0 ∷ 0 ∷ 0 ∷ 0  -- 3 3 B B u B 0.0 0.0 0.0 0.0
    ∷ 0 ∷ 0 ∷ 0 ∷ 0 ∷ 0 ∷ 0 ∷ 0 ∷ 0 ∷ 0 ∷ 0 ∷ 0 ∷ 0 ∷ 0 ∷ 0 ∷ 0 ∷ 0
    ∷ 0x47 ∷ 0x52 ∷ 0 ∷ 4 ∷ 1 ∷ 1 ∷ 1 ∷ 2 ∷ 0 ∷ 0 ∷ 0 ∷ 0 ∷ 0 ∷ 0 ∷ 0 ∷ 0  -- 4 4 B B u B 0.0 0.0 0.0 0.0
    ∷ 0 ∷ 0 ∷ 0 ∷ 0 ∷ 0 ∷ 0 ∷ 0 ∷ 0 ∷ 0 ∷ 0 ∷ 0 ∷ 0 ∷ 0 ∷ 0 ∷ 0 ∷ 0
    ∷ 0x47 ∷ 0x52 ∷ 0 ∷ 5 ∷ 1 ∷ 1 ∷ 1 ∷ 2 ∷ 0 ∷ 0 ∷ 0 ∷ 0 ∷ 0 ∷ 0 ∷ 0 ∷ 0  -- 5 5 B B u B 0.0 0.0 0.0 0.0
    ∷ 0 ∷ 0 ∷ 0 ∷ 0 ∷ 0 ∷ 0 ∷ 0 ∷ 0 ∷ 0 ∷ 0 ∷ 0 ∷ 0 ∷ 0 ∷ 0 ∷ 0 ∷ 0
    ∷ 0x47 ∷ 0x52 ∷ 0 ∷ 6 ∷ 1 ∷ 1 ∷ 1 ∷ 2 ∷ 0 ∷ 0 ∷ 0 ∷ 0 ∷ 0 ∷ 0 ∷ 0 ∷ 0  -- 6 6 B B u B 0.0 0.0 0.0 0.0
    ∷ 0 ∷ 0 ∷ 0 ∷ 0 ∷ 0 ∷ 0 ∷ 0 ∷ 0 ∷ 0 ∷ 0 ∷ 0 ∷ 0 ∷ 0 ∷ 0 ∷ 0 ∷ 0
    ∷ []

-- Without a plan a break sets the run to none as well, else units 3 to 5 would be recovered; and
-- it does not end step 3.
unfoldable pub break_without_plan : List ℕ
break_without_plan =
    peach_plan
    ++ (0x53 ∷ 0x55 ∷ 0 ∷ 1 ∷ 0 ∷ 5 ∷ 0 ∷ 0 ∷ 0 ∷ 0 ∷ 0 ∷ 0 ∷ 0 ∷ 1  -- 1: 5,0,0,0;A;1
    ∷ 0x53 ∷ 0x55 ∷ 0 ∷ 2 ∷ 0 ∷ 5 ∷ 0 ∷ 0 ∷ 0 ∷ 0 ∷ 0 ∷ 0 ∷ 0 ∷ 1  -- 2: 5,0,0,0;A;1
    ∷ 0x53 ∷ 0x55 ∷ 0 ∷ 3 ∷ 0 ∷ 0 ∷ 0 ∷ 0 ∷ 0 ∷ 1 ∷ 0 ∷ 2 ∷ 0 ∷ 1  -- 3: 0,0,1,2;A;1
    ∷ 0x53 ∷ 0x55 ∷ 0 ∷ 4 ∷ 0 ∷ 0 ∷ 0 ∷ 0 ∷ 0 ∷ 1 ∷ 0 ∷ 2 ∷ 0 ∷ 1  -- 4: 0,0,1,2;A;1
    ∷ 0x42 ∷ 0x4B  -- break
    ∷ 0x53 ∷ 0x55 ∷ 0 ∷ 5 ∷ 0 ∷ 0 ∷ 0 ∷ 0 ∷ 0 ∷ 1 ∷ 0 ∷ 2 ∷ 0 ∷ 1  -- 5: 0,0,1,2;A;1
    ∷ 0x53 ∷ 0x55 ∷ 0 ∷ 6 ∷ 0 ∷ 0 ∷ 0 ∷ 0 ∷ 0 ∷ 1 ∷ 0 ∷ 2 ∷ 0 ∷ 1  -- 6: 0,0,1,2;A;1
    ∷ 0x53 ∷ 0x55 ∷ 0 ∷ 7 ∷ 0 ∷ 0 ∷ 0 ∷ 0 ∷ 0 ∷ 1 ∷ 0 ∷ 2 ∷ 0 ∷ 1  -- 7: 0,0,1,2;A;1
    ∷ [])

unfoldable pub break_without_plan_results : List ℕ
break_without_plan_results =
    0x47 ∷ 0x52 ∷ 0 ∷ 1 ∷ 3 ∷ 3 ∷ 0 ∷ 1 ∷ 0 ∷ 5 ∷ 0 ∷ 0 ∷ 0 ∷ 0 ∷ 0 ∷ 0  -- 1 1 S S f A 0.5 0.0 0.0 0.0
    ∷ 0 ∷ 0 ∷ 0 ∷ 40 ∷ 0 ∷ 0 ∷ 0 ∷ 0 ∷ 0 ∷ 0 ∷ 0 ∷ 0 ∷ 0 ∷ 0 ∷ 0 ∷ 0
    ∷ 0x47 ∷ 0x52 ∷ 0 ∷ 2 ∷ 3 ∷ 3 ∷ 0 ∷ 1 ∷ 0 ∷ 5 ∷ 0 ∷ 0 ∷ 0 ∷ 0 ∷ 0 ∷ 0  -- 2 2 S S f A 0.5 0.0 0.0 0.0
    ∷ 0 ∷ 0 ∷ 0 ∷ 45 ∷ 0 ∷ 0 ∷ 0 ∷ 0 ∷ 0 ∷ 0 ∷ 0 ∷ 0 ∷ 0 ∷ 0 ∷ 0 ∷ 0
    ∷ 0x47 ∷ 0x52 ∷ 0 ∷ 3 ∷ 3 ∷ 3 ∷ 3 ∷ 2 ∷ 0 ∷ 0 ∷ 0 ∷ 0 ∷ 0 ∷ 0 ∷ 0 ∷ 0  -- 3 3 S S u S 0.0 0.0 0.0 0.0
    ∷ 0 ∷ 0 ∷ 0 ∷ 0 ∷ 0 ∷ 0 ∷ 0 ∷ 0 ∷ 0 ∷ 0 ∷ 0 ∷ 0 ∷ 0 ∷ 0 ∷ 0 ∷ 0
    ∷ 0x47 ∷ 0x52 ∷ 0 ∷ 4 ∷ 3 ∷ 3 ∷ 3 ∷ 2 ∷ 0 ∷ 0 ∷ 0 ∷ 0 ∷ 0 ∷ 0 ∷ 0 ∷ 0  -- 4 4 S S u S 0.0 0.0 0.0 0.0
    ∷ 0 ∷ 0 ∷ 0 ∷ 0 ∷ 0 ∷ 0 ∷ 0 ∷ 0 ∷ 0 ∷ 0 ∷ 0 ∷ 0 ∷ 0 ∷ 0 ∷ 0 ∷ 0
    ∷ 0x47 ∷ 0x52 ∷ 0 ∷ 5 ∷ 0 ∷ 0 ∷ 3 ∷ 3 ∷ 0 ∷ 0 ∷ 0 ∷ 0 ∷ 0 ∷ 0 ∷ 0 ∷ 0  -- 5 5 A A r S 0.0 0.0 0.0 0.0
    ∷ 0 ∷ 0 ∷ 0 ∷ 0 ∷ 0 ∷ 0 ∷ 0 ∷ 0 ∷ 0 ∷ 0 ∷ 0 ∷ 0 ∷ 0 ∷ 0 ∷ 0 ∷ 0
    ∷ 0x47 ∷ 0x52 ∷ 0 ∷ 6 ∷ 0 ∷ 0 ∷ 3 ∷ 3 ∷ 0 ∷ 0 ∷ 0 ∷ 0 ∷ 0 ∷ 0 ∷ 0 ∷ 0  -- 6 6 A A r S 0.0 0.0 0.0 0.0
    ∷ 0 ∷ 0 ∷ 0 ∷ 0 ∷ 0 ∷ 0 ∷ 0 ∷ 0 ∷ 0 ∷ 0 ∷ 0 ∷ 0 ∷ 0 ∷ 0 ∷ 0 ∷ 0
    ∷ 0x47 ∷ 0x52 ∷ 0 ∷ 7 ∷ 0 ∷ 0 ∷ 3 ∷ 3 ∷ 0 ∷ 0 ∷ 0 ∷ 0 ∷ 0 ∷ 0 ∷ 0 ∷ 0  -- 7 7 A A r S 0.0 0.0 0.0 0.0
    ∷ 0 ∷ 0 ∷ 0 ∷ 0 ∷ 0 ∷ 0 ∷ 0 ∷ 0 ∷ 0 ∷ 0 ∷ 0 ∷ 0 ∷ 0 ∷ 0 ∷ 0 ∷ 0
    ∷ []

-- The plan alone: accepted, and every buffer is kept as it is.
unfoldable pub no_unit : List ℕ
no_unit = peach_plan

unfoldable pub no_unit_results : List ℕ
no_unit_results = []

-- Breaks and redesignations are no units and have no result records.
unfoldable pub no_unit_but_records : List ℕ
no_unit_but_records =
    peach_plan
    ++ (0x42 ∷ 0x4B  -- break
    ∷ 0x52 ∷ 0x44 ∷ 1  -- redesignation to B
    ∷ 0x42 ∷ 0x4B  -- break
    ∷ 0x52 ∷ 0x44 ∷ 0  -- redesignation to A
    ∷ [])

unfoldable pub no_unit_but_records_results : List ℕ
no_unit_but_records_results = []

pub record BreakSheets : Type 0 where
  pub break_between_units_holds : Graded break_between_units 3 119 break_between_units_results
  pub break_between_failures_holds : Graded break_between_failures 3 119 break_between_failures_results
  pub break_in_step_three_holds : Graded break_in_step_three 4 133 break_in_step_three_results
  pub break_in_run_holds : Graded break_in_run 6 161 break_in_run_results
  pub break_without_plan_holds : Graded break_without_plan 7 175 break_without_plan_results
  pub no_unit_holds : Graded no_unit 0 75 no_unit_results
  pub no_unit_but_records_holds : Graded no_unit_but_records 0 85 no_unit_but_records_results

-- ---- redesignations

-- It starts the new plan at S, not at the CuSums of A, and forgets the failure just before: no
-- step 3, else unit 3 would be under C.
unfoldable pub redesignation_outside_step_three : List ℕ
redesignation_outside_step_three =
    peach_plan
    ++ (0x53 ∷ 0x55 ∷ 0 ∷ 1 ∷ 0 ∷ 0 ∷ 0 ∷ 1 ∷ 0 ∷ 4 ∷ 0 ∷ 9 ∷ 0 ∷ 1  -- 1: 0,1,4,9;A;1
    ∷ 0x52 ∷ 0x44 ∷ 1  -- redesignation to B
    ∷ 0x53 ∷ 0x55 ∷ 0 ∷ 2 ∷ 0 ∷ 0 ∷ 0 ∷ 3 ∷ 0 ∷ 6 ∷ 0 ∷ 9 ∷ 0 ∷ 1  -- 2: 0,3,6,9;A;1
    ∷ 0x53 ∷ 0x55 ∷ 0 ∷ 3 ∷ 0 ∷ 0 ∷ 0 ∷ 3 ∷ 0 ∷ 5 ∷ 0 ∷ 3 ∷ 0 ∷ 1  -- 3: 0,3,5,3;A;1
    ∷ [])

unfoldable pub redesignation_outside_step_three_results : List ℕ
redesignation_outside_step_three_results =
    0x47 ∷ 0x52 ∷ 0 ∷ 1 ∷ 1 ∷ 1 ∷ 0 ∷ 1 ∷ 0 ∷ 0 ∷ 0 ∷ 0 ∷ 0 ∷ 20 ∷ 0 ∷ 40  -- 1 1 B B f A 0.0 0.0 2.0 4.0
    ∷ 0 ∷ 0 ∷ 0 ∷ 0 ∷ 0 ∷ 0 ∷ 0 ∷ 0 ∷ 0 ∷ 0 ∷ 0 ∷ 0 ∷ 0 ∷ 0 ∷ 0 ∷ 50
    ∷ 0x47 ∷ 0x52 ∷ 0 ∷ 2 ∷ 2 ∷ 2 ∷ 1 ∷ 1 ∷ 0 ∷ 0 ∷ 0 ∷ 10 ∷ 0 ∷ 20 ∷ 0 ∷ 50  -- 2 2 C C f B 0.0 1.0 2.0 5.0
    ∷ 0 ∷ 0 ∷ 0 ∷ 0 ∷ 0 ∷ 0 ∷ 0 ∷ 0 ∷ 0 ∷ 0 ∷ 0 ∷ 0 ∷ 0 ∷ 0 ∷ 0 ∷ 30
    ∷ 0x47 ∷ 0x52 ∷ 0 ∷ 3 ∷ 1 ∷ 1 ∷ 1 ∷ 0 ∷ 0 ∷ 0 ∷ 0 ∷ 10 ∷ 0 ∷ 20 ∷ 0 ∷ 40  -- 3 3 B B m B 0.0 1.0 2.0 4.0
    ∷ 0 ∷ 0 ∷ 0 ∷ 0 ∷ 0 ∷ 0 ∷ 0 ∷ 0 ∷ 0 ∷ 0 ∷ 0 ∷ 0 ∷ 0 ∷ 0 ∷ 0 ∷ 0
    ∷ []

-- Step 3 is at C, the worse of the two defect grades, not the second's. B is better than C, so
-- step 3 goes on at C with its CuSums: a restart would give unit 4 lower ones.
unfoldable pub redesignation_in_step_three : List ℕ
redesignation_in_step_three =
    peach_plan
    ++ (0x53 ∷ 0x55 ∷ 0 ∷ 1 ∷ 0 ∷ 0 ∷ 0 ∷ 0 ∷ 0 ∷ 0 ∷ 0 ∷ 18 ∷ 0 ∷ 1  -- 1: 0,0,0,18;A;1
    ∷ 0x53 ∷ 0x55 ∷ 0 ∷ 2 ∷ 0 ∷ 0 ∷ 0 ∷ 0 ∷ 0 ∷ 0 ∷ 0 ∷ 12 ∷ 0 ∷ 1  -- 2: 0,0,0,12;A;1
    ∷ 0x53 ∷ 0x55 ∷ 0 ∷ 3 ∷ 0 ∷ 0 ∷ 0 ∷ 6 ∷ 0 ∷ 7 ∷ 0 ∷ 5 ∷ 0 ∷ 1  -- 3: 0,6,7,5;A;1
    ∷ 0x52 ∷ 0x44 ∷ 1  -- redesignation to B
    ∷ 0x53 ∷ 0x55 ∷ 0 ∷ 4 ∷ 0 ∷ 0 ∷ 0 ∷ 5 ∷ 0 ∷ 6 ∷ 0 ∷ 6 ∷ 0 ∷ 1  -- 4: 0,5,6,6;A;1
    ∷ [])

unfoldable pub redesignation_in_step_three_results : List ℕ
redesignation_in_step_three_results =
    0x47 ∷ 0x52 ∷ 0 ∷ 1 ∷ 2 ∷ 2 ∷ 0 ∷ 1 ∷ 0 ∷ 0 ∷ 0 ∷ 0 ∷ 0 ∷ 0 ∷ 0 ∷ 40  -- 1 1 C C f A 0.0 0.0 0.0 4.0
    ∷ 0 ∷ 0 ∷ 0 ∷ 0 ∷ 0 ∷ 0 ∷ 0 ∷ 0 ∷ 0 ∷ 0 ∷ 0 ∷ 0 ∷ 0 ∷ 0 ∷ 0 ∷ 90
    ∷ 0x47 ∷ 0x52 ∷ 0 ∷ 2 ∷ 1 ∷ 1 ∷ 0 ∷ 1 ∷ 0 ∷ 0 ∷ 0 ∷ 0 ∷ 0 ∷ 0 ∷ 0 ∷ 40  -- 2 2 B B f A 0.0 0.0 0.0 4.0
    ∷ 0 ∷ 0 ∷ 0 ∷ 0 ∷ 0 ∷ 0 ∷ 0 ∷ 0 ∷ 0 ∷ 0 ∷ 0 ∷ 0 ∷ 0 ∷ 0 ∷ 0 ∷ 60
    ∷ 0x47 ∷ 0x52 ∷ 0 ∷ 3 ∷ 2 ∷ 2 ∷ 2 ∷ 2 ∷ 0 ∷ 0 ∷ 0 ∷ 20 ∷ 0 ∷ 20 ∷ 0 ∷ 30  -- 3 3 C C u C 0.0 2.0 2.0 3.0
    ∷ 0 ∷ 0 ∷ 0 ∷ 0 ∷ 0 ∷ 0 ∷ 0 ∷ 0 ∷ 0 ∷ 0 ∷ 0 ∷ 0 ∷ 0 ∷ 0 ∷ 0 ∷ 0
    ∷ 0x47 ∷ 0x52 ∷ 0 ∷ 4 ∷ 2 ∷ 2 ∷ 2 ∷ 2 ∷ 0 ∷ 0 ∷ 0 ∷ 20 ∷ 0 ∷ 20 ∷ 0 ∷ 30  -- 4 4 C C u C 0.0 2.0 2.0 3.0
    ∷ 0 ∷ 0 ∷ 0 ∷ 0 ∷ 0 ∷ 0 ∷ 0 ∷ 0 ∷ 0 ∷ 0 ∷ 0 ∷ 0 ∷ 0 ∷ 0 ∷ 0 ∷ 0
    ∷ []

-- It sets the run to none: else units 3 to 5 would be recovered. Units 5 to 7 are above the T of
-- A and within that of B, the grade now designated, which they get.
unfoldable pub redesignation_in_run : List ℕ
redesignation_in_run =
    peach_plan
    ++ (0x53 ∷ 0x55 ∷ 0 ∷ 1 ∷ 0 ∷ 0 ∷ 0 ∷ 0 ∷ 0 ∷ 0 ∷ 0 ∷ 12 ∷ 0 ∷ 1  -- 1: 0,0,0,12;A;1
    ∷ 0x53 ∷ 0x55 ∷ 0 ∷ 2 ∷ 0 ∷ 0 ∷ 0 ∷ 0 ∷ 0 ∷ 0 ∷ 0 ∷ 18 ∷ 0 ∷ 1  -- 2: 0,0,0,18;A;1
    ∷ 0x53 ∷ 0x55 ∷ 0 ∷ 3 ∷ 0 ∷ 0 ∷ 0 ∷ 0 ∷ 0 ∷ 1 ∷ 0 ∷ 2 ∷ 0 ∷ 1  -- 3: 0,0,1,2;A;1
    ∷ 0x53 ∷ 0x55 ∷ 0 ∷ 4 ∷ 0 ∷ 0 ∷ 0 ∷ 0 ∷ 0 ∷ 1 ∷ 0 ∷ 2 ∷ 0 ∷ 1  -- 4: 0,0,1,2;A;1
    ∷ 0x52 ∷ 0x44 ∷ 1  -- redesignation to B
    ∷ 0x53 ∷ 0x55 ∷ 0 ∷ 5 ∷ 0 ∷ 0 ∷ 0 ∷ 2 ∷ 0 ∷ 4 ∷ 0 ∷ 2 ∷ 0 ∷ 1  -- 5: 0,2,4,2;A;1
    ∷ 0x53 ∷ 0x55 ∷ 0 ∷ 6 ∷ 0 ∷ 0 ∷ 0 ∷ 2 ∷ 0 ∷ 4 ∷ 0 ∷ 2 ∷ 0 ∷ 1  -- 6: 0,2,4,2;A;1
    ∷ 0x53 ∷ 0x55 ∷ 0 ∷ 7 ∷ 0 ∷ 0 ∷ 0 ∷ 2 ∷ 0 ∷ 4 ∷ 0 ∷ 2 ∷ 0 ∷ 1  -- 7: 0,2,4,2;A;1
    ∷ [])

unfoldable pub redesignation_in_run_results : List ℕ
redesignation_in_run_results =
    0x47 ∷ 0x52 ∷ 0 ∷ 1 ∷ 1 ∷ 1 ∷ 0 ∷ 1 ∷ 0 ∷ 0 ∷ 0 ∷ 0 ∷ 0 ∷ 0 ∷ 0 ∷ 40  -- 1 1 B B f A 0.0 0.0 0.0 4.0
    ∷ 0 ∷ 0 ∷ 0 ∷ 0 ∷ 0 ∷ 0 ∷ 0 ∷ 0 ∷ 0 ∷ 0 ∷ 0 ∷ 0 ∷ 0 ∷ 0 ∷ 0 ∷ 30
    ∷ 0x47 ∷ 0x52 ∷ 0 ∷ 2 ∷ 2 ∷ 2 ∷ 0 ∷ 1 ∷ 0 ∷ 0 ∷ 0 ∷ 0 ∷ 0 ∷ 0 ∷ 0 ∷ 40  -- 2 2 C C f A 0.0 0.0 0.0 4.0
    ∷ 0 ∷ 0 ∷ 0 ∷ 0 ∷ 0 ∷ 0 ∷ 0 ∷ 0 ∷ 0 ∷ 0 ∷ 0 ∷ 0 ∷ 0 ∷ 0 ∷ 0 ∷ 120
    ∷ 0x47 ∷ 0x52 ∷ 0 ∷ 3 ∷ 2 ∷ 2 ∷ 2 ∷ 2 ∷ 0 ∷ 0 ∷ 0 ∷ 0 ∷ 0 ∷ 0 ∷ 0 ∷ 0  -- 3 3 C C u C 0.0 0.0 0.0 0.0
    ∷ 0 ∷ 0 ∷ 0 ∷ 0 ∷ 0 ∷ 0 ∷ 0 ∷ 0 ∷ 0 ∷ 0 ∷ 0 ∷ 0 ∷ 0 ∷ 0 ∷ 0 ∷ 0
    ∷ 0x47 ∷ 0x52 ∷ 0 ∷ 4 ∷ 2 ∷ 2 ∷ 2 ∷ 2 ∷ 0 ∷ 0 ∷ 0 ∷ 0 ∷ 0 ∷ 0 ∷ 0 ∷ 0  -- 4 4 C C u C 0.0 0.0 0.0 0.0
    ∷ 0 ∷ 0 ∷ 0 ∷ 0 ∷ 0 ∷ 0 ∷ 0 ∷ 0 ∷ 0 ∷ 0 ∷ 0 ∷ 0 ∷ 0 ∷ 0 ∷ 0 ∷ 0
    ∷ 0x47 ∷ 0x52 ∷ 0 ∷ 5 ∷ 1 ∷ 1 ∷ 2 ∷ 3 ∷ 0 ∷ 0 ∷ 0 ∷ 0 ∷ 0 ∷ 0 ∷ 0 ∷ 0  -- 5 5 B B r C 0.0 0.0 0.0 0.0
    ∷ 0 ∷ 0 ∷ 0 ∷ 0 ∷ 0 ∷ 0 ∷ 0 ∷ 0 ∷ 0 ∷ 0 ∷ 0 ∷ 0 ∷ 0 ∷ 0 ∷ 0 ∷ 0
    ∷ 0x47 ∷ 0x52 ∷ 0 ∷ 6 ∷ 1 ∷ 1 ∷ 2 ∷ 3 ∷ 0 ∷ 0 ∷ 0 ∷ 0 ∷ 0 ∷ 0 ∷ 0 ∷ 0  -- 6 6 B B r C 0.0 0.0 0.0 0.0
    ∷ 0 ∷ 0 ∷ 0 ∷ 0 ∷ 0 ∷ 0 ∷ 0 ∷ 0 ∷ 0 ∷ 0 ∷ 0 ∷ 0 ∷ 0 ∷ 0 ∷ 0 ∷ 0
    ∷ 0x47 ∷ 0x52 ∷ 0 ∷ 7 ∷ 1 ∷ 1 ∷ 2 ∷ 3 ∷ 0 ∷ 0 ∷ 0 ∷ 0 ∷ 0 ∷ 0 ∷ 0 ∷ 0  -- 7 7 B B r C 0.0 0.0 0.0 0.0
    ∷ 0 ∷ 0 ∷ 0 ∷ 0 ∷ 0 ∷ 0 ∷ 0 ∷ 0 ∷ 0 ∷ 0 ∷ 0 ∷ 0 ∷ 0 ∷ 0 ∷ 0 ∷ 0
    ∷ []

-- A new grade equal to the lower one ends step 3 and starts at S: unit 4 meets the designated
-- plan; with CuSums kept it would fail.
unfoldable pub redesignation_to_lower_grade : List ℕ
redesignation_to_lower_grade =
    peach_plan
    ++ (0x53 ∷ 0x55 ∷ 0 ∷ 1 ∷ 0 ∷ 0 ∷ 0 ∷ 0 ∷ 0 ∷ 0 ∷ 0 ∷ 12 ∷ 0 ∷ 1  -- 1: 0,0,0,12;A;1
    ∷ 0x53 ∷ 0x55 ∷ 0 ∷ 2 ∷ 0 ∷ 0 ∷ 0 ∷ 0 ∷ 0 ∷ 0 ∷ 0 ∷ 12 ∷ 0 ∷ 1  -- 2: 0,0,0,12;A;1
    ∷ 0x53 ∷ 0x55 ∷ 0 ∷ 3 ∷ 0 ∷ 0 ∷ 0 ∷ 4 ∷ 0 ∷ 6 ∷ 0 ∷ 4 ∷ 0 ∷ 1  -- 3: 0,4,6,4;A;1
    ∷ 0x52 ∷ 0x44 ∷ 1  -- redesignation to B
    ∷ 0x53 ∷ 0x55 ∷ 0 ∷ 4 ∷ 0 ∷ 0 ∷ 0 ∷ 4 ∷ 0 ∷ 6 ∷ 0 ∷ 4 ∷ 0 ∷ 1  -- 4: 0,4,6,4;A;1
    ∷ [])

unfoldable pub redesignation_to_lower_grade_results : List ℕ
redesignation_to_lower_grade_results =
    0x47 ∷ 0x52 ∷ 0 ∷ 1 ∷ 1 ∷ 1 ∷ 0 ∷ 1 ∷ 0 ∷ 0 ∷ 0 ∷ 0 ∷ 0 ∷ 0 ∷ 0 ∷ 40  -- 1 1 B B f A 0.0 0.0 0.0 4.0
    ∷ 0 ∷ 0 ∷ 0 ∷ 0 ∷ 0 ∷ 0 ∷ 0 ∷ 0 ∷ 0 ∷ 0 ∷ 0 ∷ 0 ∷ 0 ∷ 0 ∷ 0 ∷ 30
    ∷ 0x47 ∷ 0x52 ∷ 0 ∷ 2 ∷ 1 ∷ 1 ∷ 0 ∷ 1 ∷ 0 ∷ 0 ∷ 0 ∷ 0 ∷ 0 ∷ 0 ∷ 0 ∷ 40  -- 2 2 B B f A 0.0 0.0 0.0 4.0
    ∷ 0 ∷ 0 ∷ 0 ∷ 0 ∷ 0 ∷ 0 ∷ 0 ∷ 0 ∷ 0 ∷ 0 ∷ 0 ∷ 0 ∷ 0 ∷ 0 ∷ 0 ∷ 60
    ∷ 0x47 ∷ 0x52 ∷ 0 ∷ 3 ∷ 1 ∷ 1 ∷ 1 ∷ 2 ∷ 0 ∷ 0 ∷ 0 ∷ 20 ∷ 0 ∷ 20 ∷ 0 ∷ 40  -- 3 3 B B u B 0.0 2.0 2.0 4.0
    ∷ 0 ∷ 0 ∷ 0 ∷ 0 ∷ 0 ∷ 0 ∷ 0 ∷ 0 ∷ 0 ∷ 0 ∷ 0 ∷ 0 ∷ 0 ∷ 0 ∷ 0 ∷ 0
    ∷ 0x47 ∷ 0x52 ∷ 0 ∷ 4 ∷ 1 ∷ 1 ∷ 1 ∷ 0 ∷ 0 ∷ 0 ∷ 0 ∷ 20 ∷ 0 ∷ 20 ∷ 0 ∷ 40  -- 4 4 B B m B 0.0 2.0 2.0 4.0
    ∷ 0 ∷ 0 ∷ 0 ∷ 0 ∷ 0 ∷ 0 ∷ 0 ∷ 0 ∷ 0 ∷ 0 ∷ 0 ∷ 0 ∷ 0 ∷ 0 ∷ 0 ∷ 0
    ∷ []

-- A new grade worse than the lower one ends step 3: unit 4 is under C.
unfoldable pub redesignation_below_lower_grade : List ℕ
redesignation_below_lower_grade =
    peach_plan
    ++ (0x53 ∷ 0x55 ∷ 0 ∷ 1 ∷ 0 ∷ 0 ∷ 0 ∷ 0 ∷ 0 ∷ 0 ∷ 0 ∷ 12 ∷ 0 ∷ 1  -- 1: 0,0,0,12;A;1
    ∷ 0x53 ∷ 0x55 ∷ 0 ∷ 2 ∷ 0 ∷ 0 ∷ 0 ∷ 0 ∷ 0 ∷ 0 ∷ 0 ∷ 12 ∷ 0 ∷ 1  -- 2: 0,0,0,12;A;1
    ∷ 0x53 ∷ 0x55 ∷ 0 ∷ 3 ∷ 0 ∷ 0 ∷ 0 ∷ 4 ∷ 0 ∷ 6 ∷ 0 ∷ 4 ∷ 0 ∷ 1  -- 3: 0,4,6,4;A;1
    ∷ 0x52 ∷ 0x44 ∷ 2  -- redesignation to C
    ∷ 0x53 ∷ 0x55 ∷ 0 ∷ 4 ∷ 0 ∷ 0 ∷ 0 ∷ 6 ∷ 0 ∷ 7 ∷ 0 ∷ 5 ∷ 0 ∷ 1  -- 4: 0,6,7,5;A;1
    ∷ [])

unfoldable pub redesignation_below_lower_grade_results : List ℕ
redesignation_below_lower_grade_results =
    0x47 ∷ 0x52 ∷ 0 ∷ 1 ∷ 1 ∷ 1 ∷ 0 ∷ 1 ∷ 0 ∷ 0 ∷ 0 ∷ 0 ∷ 0 ∷ 0 ∷ 0 ∷ 40  -- 1 1 B B f A 0.0 0.0 0.0 4.0
    ∷ 0 ∷ 0 ∷ 0 ∷ 0 ∷ 0 ∷ 0 ∷ 0 ∷ 0 ∷ 0 ∷ 0 ∷ 0 ∷ 0 ∷ 0 ∷ 0 ∷ 0 ∷ 30
    ∷ 0x47 ∷ 0x52 ∷ 0 ∷ 2 ∷ 1 ∷ 1 ∷ 0 ∷ 1 ∷ 0 ∷ 0 ∷ 0 ∷ 0 ∷ 0 ∷ 0 ∷ 0 ∷ 40  -- 2 2 B B f A 0.0 0.0 0.0 4.0
    ∷ 0 ∷ 0 ∷ 0 ∷ 0 ∷ 0 ∷ 0 ∷ 0 ∷ 0 ∷ 0 ∷ 0 ∷ 0 ∷ 0 ∷ 0 ∷ 0 ∷ 0 ∷ 60
    ∷ 0x47 ∷ 0x52 ∷ 0 ∷ 3 ∷ 1 ∷ 1 ∷ 1 ∷ 2 ∷ 0 ∷ 0 ∷ 0 ∷ 20 ∷ 0 ∷ 20 ∷ 0 ∷ 40  -- 3 3 B B u B 0.0 2.0 2.0 4.0
    ∷ 0 ∷ 0 ∷ 0 ∷ 0 ∷ 0 ∷ 0 ∷ 0 ∷ 0 ∷ 0 ∷ 0 ∷ 0 ∷ 0 ∷ 0 ∷ 0 ∷ 0 ∷ 0
    ∷ 0x47 ∷ 0x52 ∷ 0 ∷ 4 ∷ 2 ∷ 2 ∷ 2 ∷ 0 ∷ 0 ∷ 0 ∷ 0 ∷ 20 ∷ 0 ∷ 20 ∷ 0 ∷ 30  -- 4 4 C C m C 0.0 2.0 2.0 3.0
    ∷ 0 ∷ 0 ∷ 0 ∷ 0 ∷ 0 ∷ 0 ∷ 0 ∷ 0 ∷ 0 ∷ 0 ∷ 0 ∷ 0 ∷ 0 ∷ 0 ∷ 0 ∷ 0
    ∷ []

-- C is better than Substandard, so step 3 goes on without a plan, and the run is none: else unit
-- 5 would end step 3. Units 4 to 6 are at the T of C in every class, which none exceeds.
unfoldable pub redesignation_without_plan : List ℕ
redesignation_without_plan =
    peach_plan
    ++ (0x53 ∷ 0x55 ∷ 0 ∷ 1 ∷ 0 ∷ 5 ∷ 0 ∷ 0 ∷ 0 ∷ 0 ∷ 0 ∷ 0 ∷ 0 ∷ 1  -- 1: 5,0,0,0;A;1
    ∷ 0x53 ∷ 0x55 ∷ 0 ∷ 2 ∷ 0 ∷ 0 ∷ 0 ∷ 0 ∷ 0 ∷ 0 ∷ 0 ∷ 12 ∷ 0 ∷ 1  -- 2: 0,0,0,12;A;1
    ∷ 0x53 ∷ 0x55 ∷ 0 ∷ 3 ∷ 0 ∷ 0 ∷ 0 ∷ 0 ∷ 0 ∷ 1 ∷ 0 ∷ 2 ∷ 0 ∷ 1  -- 3: 0,0,1,2;A;1
    ∷ 0x52 ∷ 0x44 ∷ 2  -- redesignation to C
    ∷ 0x53 ∷ 0x55 ∷ 0 ∷ 4 ∷ 0 ∷ 2 ∷ 0 ∷ 5 ∷ 0 ∷ 6 ∷ 0 ∷ 4 ∷ 0 ∷ 1  -- 4: 2,5,6,4;A;1
    ∷ 0x53 ∷ 0x55 ∷ 0 ∷ 5 ∷ 0 ∷ 2 ∷ 0 ∷ 5 ∷ 0 ∷ 6 ∷ 0 ∷ 4 ∷ 0 ∷ 1  -- 5: 2,5,6,4;A;1
    ∷ 0x53 ∷ 0x55 ∷ 0 ∷ 6 ∷ 0 ∷ 2 ∷ 0 ∷ 5 ∷ 0 ∷ 6 ∷ 0 ∷ 4 ∷ 0 ∷ 1  -- 6: 2,5,6,4;A;1
    ∷ [])

unfoldable pub redesignation_without_plan_results : List ℕ
redesignation_without_plan_results =
    0x47 ∷ 0x52 ∷ 0 ∷ 1 ∷ 3 ∷ 3 ∷ 0 ∷ 1 ∷ 0 ∷ 5 ∷ 0 ∷ 0 ∷ 0 ∷ 0 ∷ 0 ∷ 0  -- 1 1 S S f A 0.5 0.0 0.0 0.0
    ∷ 0 ∷ 0 ∷ 0 ∷ 40 ∷ 0 ∷ 0 ∷ 0 ∷ 0 ∷ 0 ∷ 0 ∷ 0 ∷ 0 ∷ 0 ∷ 0 ∷ 0 ∷ 0
    ∷ 0x47 ∷ 0x52 ∷ 0 ∷ 2 ∷ 1 ∷ 1 ∷ 0 ∷ 1 ∷ 0 ∷ 0 ∷ 0 ∷ 0 ∷ 0 ∷ 0 ∷ 0 ∷ 40  -- 2 2 B B f A 0.0 0.0 0.0 4.0
    ∷ 0 ∷ 0 ∷ 0 ∷ 0 ∷ 0 ∷ 0 ∷ 0 ∷ 0 ∷ 0 ∷ 0 ∷ 0 ∷ 0 ∷ 0 ∷ 0 ∷ 0 ∷ 20
    ∷ 0x47 ∷ 0x52 ∷ 0 ∷ 3 ∷ 3 ∷ 3 ∷ 3 ∷ 2 ∷ 0 ∷ 0 ∷ 0 ∷ 0 ∷ 0 ∷ 0 ∷ 0 ∷ 0  -- 3 3 S S u S 0.0 0.0 0.0 0.0
    ∷ 0 ∷ 0 ∷ 0 ∷ 0 ∷ 0 ∷ 0 ∷ 0 ∷ 0 ∷ 0 ∷ 0 ∷ 0 ∷ 0 ∷ 0 ∷ 0 ∷ 0 ∷ 0
    ∷ 0x47 ∷ 0x52 ∷ 0 ∷ 4 ∷ 2 ∷ 2 ∷ 3 ∷ 3 ∷ 0 ∷ 0 ∷ 0 ∷ 0 ∷ 0 ∷ 0 ∷ 0 ∷ 0  -- 4 4 C C r S 0.0 0.0 0.0 0.0
    ∷ 0 ∷ 0 ∷ 0 ∷ 0 ∷ 0 ∷ 0 ∷ 0 ∷ 0 ∷ 0 ∷ 0 ∷ 0 ∷ 0 ∷ 0 ∷ 0 ∷ 0 ∷ 0
    ∷ 0x47 ∷ 0x52 ∷ 0 ∷ 5 ∷ 2 ∷ 2 ∷ 3 ∷ 3 ∷ 0 ∷ 0 ∷ 0 ∷ 0 ∷ 0 ∷ 0 ∷ 0 ∷ 0  -- 5 5 C C r S 0.0 0.0 0.0 0.0
    ∷ 0 ∷ 0 ∷ 0 ∷ 0 ∷ 0 ∷ 0 ∷ 0 ∷ 0 ∷ 0 ∷ 0 ∷ 0 ∷ 0 ∷ 0 ∷ 0 ∷ 0 ∷ 0
    ∷ 0x47 ∷ 0x52 ∷ 0 ∷ 6 ∷ 2 ∷ 2 ∷ 3 ∷ 3 ∷ 0 ∷ 0 ∷ 0 ∷ 0 ∷ 0 ∷ 0 ∷ 0 ∷ 0  -- 6 6 C C r S 0.0 0.0 0.0 0.0
    ∷ 0 ∷ 0 ∷ 0 ∷ 0 ∷ 0 ∷ 0 ∷ 0 ∷ 0 ∷ 0 ∷ 0 ∷ 0 ∷ 0 ∷ 0 ∷ 0 ∷ 0 ∷ 0
    ∷ []

-- Unit 5 is the third that qualifies: units 3 to 5 get A, which is designated there, and not B.
-- The redesignation is outside step 3 and starts B at S: from zero unit 6 would have lower CuSums.
unfoldable pub redesignation_after_step_three : List ℕ
redesignation_after_step_three =
    peach_plan
    ++ (0x53 ∷ 0x55 ∷ 0 ∷ 1 ∷ 0 ∷ 0 ∷ 0 ∷ 0 ∷ 0 ∷ 0 ∷ 0 ∷ 12 ∷ 0 ∷ 1  -- 1: 0,0,0,12;A;1
    ∷ 0x53 ∷ 0x55 ∷ 0 ∷ 2 ∷ 0 ∷ 0 ∷ 0 ∷ 0 ∷ 0 ∷ 0 ∷ 0 ∷ 12 ∷ 0 ∷ 1  -- 2: 0,0,0,12;A;1
    ∷ 0x53 ∷ 0x55 ∷ 0 ∷ 3 ∷ 0 ∷ 0 ∷ 0 ∷ 0 ∷ 0 ∷ 1 ∷ 0 ∷ 2 ∷ 0 ∷ 1  -- 3: 0,0,1,2;A;1
    ∷ 0x53 ∷ 0x55 ∷ 0 ∷ 4 ∷ 0 ∷ 0 ∷ 0 ∷ 0 ∷ 0 ∷ 1 ∷ 0 ∷ 2 ∷ 0 ∷ 1  -- 4: 0,0,1,2;A;1
    ∷ 0x53 ∷ 0x55 ∷ 0 ∷ 5 ∷ 0 ∷ 0 ∷ 0 ∷ 0 ∷ 0 ∷ 1 ∷ 0 ∷ 2 ∷ 0 ∷ 1  -- 5: 0,0,1,2;A;1
    ∷ 0x52 ∷ 0x44 ∷ 1  -- redesignation to B
    ∷ 0x53 ∷ 0x55 ∷ 0 ∷ 6 ∷ 0 ∷ 0 ∷ 0 ∷ 3 ∷ 0 ∷ 5 ∷ 0 ∷ 5 ∷ 0 ∷ 1  -- 6: 0,3,5,5;A;1
    ∷ [])

unfoldable pub redesignation_after_step_three_results : List ℕ
redesignation_after_step_three_results =
    0x47 ∷ 0x52 ∷ 0 ∷ 1 ∷ 1 ∷ 1 ∷ 0 ∷ 1 ∷ 0 ∷ 0 ∷ 0 ∷ 0 ∷ 0 ∷ 0 ∷ 0 ∷ 40  -- 1 1 B B f A 0.0 0.0 0.0 4.0
    ∷ 0 ∷ 0 ∷ 0 ∷ 0 ∷ 0 ∷ 0 ∷ 0 ∷ 0 ∷ 0 ∷ 0 ∷ 0 ∷ 0 ∷ 0 ∷ 0 ∷ 0 ∷ 30
    ∷ 0x47 ∷ 0x52 ∷ 0 ∷ 2 ∷ 1 ∷ 1 ∷ 0 ∷ 1 ∷ 0 ∷ 0 ∷ 0 ∷ 0 ∷ 0 ∷ 0 ∷ 0 ∷ 40  -- 2 2 B B f A 0.0 0.0 0.0 4.0
    ∷ 0 ∷ 0 ∷ 0 ∷ 0 ∷ 0 ∷ 0 ∷ 0 ∷ 0 ∷ 0 ∷ 0 ∷ 0 ∷ 0 ∷ 0 ∷ 0 ∷ 0 ∷ 60
    ∷ 0x47 ∷ 0x52 ∷ 0 ∷ 3 ∷ 0 ∷ 0 ∷ 1 ∷ 3 ∷ 0 ∷ 0 ∷ 0 ∷ 0 ∷ 0 ∷ 0 ∷ 0 ∷ 0  -- 3 3 A A r B 0.0 0.0 0.0 0.0
    ∷ 0 ∷ 0 ∷ 0 ∷ 0 ∷ 0 ∷ 0 ∷ 0 ∷ 0 ∷ 0 ∷ 0 ∷ 0 ∷ 0 ∷ 0 ∷ 0 ∷ 0 ∷ 0
    ∷ 0x47 ∷ 0x52 ∷ 0 ∷ 4 ∷ 0 ∷ 0 ∷ 1 ∷ 3 ∷ 0 ∷ 0 ∷ 0 ∷ 0 ∷ 0 ∷ 0 ∷ 0 ∷ 0  -- 4 4 A A r B 0.0 0.0 0.0 0.0
    ∷ 0 ∷ 0 ∷ 0 ∷ 0 ∷ 0 ∷ 0 ∷ 0 ∷ 0 ∷ 0 ∷ 0 ∷ 0 ∷ 0 ∷ 0 ∷ 0 ∷ 0 ∷ 0
    ∷ 0x47 ∷ 0x52 ∷ 0 ∷ 5 ∷ 0 ∷ 0 ∷ 1 ∷ 3 ∷ 0 ∷ 0 ∷ 0 ∷ 0 ∷ 0 ∷ 0 ∷ 0 ∷ 0  -- 5 5 A A r B 0.0 0.0 0.0 0.0
    ∷ 0 ∷ 0 ∷ 0 ∷ 0 ∷ 0 ∷ 0 ∷ 0 ∷ 0 ∷ 0 ∷ 0 ∷ 0 ∷ 0 ∷ 0 ∷ 0 ∷ 0 ∷ 0
    ∷ 0x47 ∷ 0x52 ∷ 0 ∷ 6 ∷ 1 ∷ 1 ∷ 1 ∷ 0 ∷ 0 ∷ 0 ∷ 0 ∷ 10 ∷ 0 ∷ 10 ∷ 0 ∷ 30  -- 6 6 B B m B 0.0 1.0 1.0 3.0
    ∷ 0 ∷ 0 ∷ 0 ∷ 0 ∷ 0 ∷ 0 ∷ 0 ∷ 0 ∷ 0 ∷ 0 ∷ 0 ∷ 0 ∷ 0 ∷ 0 ∷ 0 ∷ 0
    ∷ []

-- B is better than C, so that step 3 goes on at C; C is not, and ends it. Then C fails twice, and
-- unit 6 has no plan. Code 300 is met again in unit 6, which grades lower than unit 1.
unfoldable pub every_kind_of_record : List ℕ
every_kind_of_record =
    peach_plan
    ++ (0x53 ∷ 0x55 ∷ 1 ∷ 44 ∷ 0 ∷ 0 ∷ 0 ∷ 0 ∷ 0 ∷ 0 ∷ 0 ∷ 18 ∷ 0 ∷ 1  -- 300: 0,0,0,18;A;1
    ∷ 0x53 ∷ 0x55 ∷ 0 ∷ 2 ∷ 0 ∷ 0 ∷ 0 ∷ 0 ∷ 0 ∷ 0 ∷ 0 ∷ 12 ∷ 0 ∷ 1  -- 2: 0,0,0,12;A;1
    ∷ 0x52 ∷ 0x44 ∷ 1  -- redesignation to B
    ∷ 0x53 ∷ 0x55 ∷ 0 ∷ 3 ∷ 0 ∷ 0 ∷ 0 ∷ 6 ∷ 0 ∷ 7 ∷ 0 ∷ 5 ∷ 0 ∷ 1  -- 3: 0,6,7,5;A;1
    ∷ 0x52 ∷ 0x44 ∷ 2  -- redesignation to C
    ∷ 0x53 ∷ 0x55 ∷ 0 ∷ 4 ∷ 0 ∷ 0 ∷ 0 ∷ 8 ∷ 0 ∷ 0 ∷ 0 ∷ 0 ∷ 0 ∷ 1  -- 4: 0,8,0,0;A;1
    ∷ 0x53 ∷ 0x55 ∷ 0 ∷ 5 ∷ 0 ∷ 0 ∷ 0 ∷ 8 ∷ 0 ∷ 9 ∷ 0 ∷ 0 ∷ 0 ∷ 1  -- 5: 0,8,9,0;A;1
    ∷ 0x42 ∷ 0x4B  -- break
    ∷ 0x53 ∷ 0x55 ∷ 1 ∷ 44 ∷ 0 ∷ 0 ∷ 0 ∷ 0 ∷ 0 ∷ 1 ∷ 0 ∷ 2 ∷ 0 ∷ 1  -- 300: 0,0,1,2;A;1
    ∷ [])

unfoldable pub every_kind_of_record_results : List ℕ
every_kind_of_record_results =
    0x47 ∷ 0x52 ∷ 1 ∷ 44 ∷ 2 ∷ 3 ∷ 0 ∷ 1 ∷ 0 ∷ 0 ∷ 0 ∷ 0 ∷ 0 ∷ 0 ∷ 0 ∷ 40  -- 1 300 C S f A 0.0 0.0 0.0 4.0
    ∷ 0 ∷ 0 ∷ 0 ∷ 0 ∷ 0 ∷ 0 ∷ 0 ∷ 0 ∷ 0 ∷ 0 ∷ 0 ∷ 0 ∷ 0 ∷ 0 ∷ 0 ∷ 90
    ∷ 0x47 ∷ 0x52 ∷ 0 ∷ 2 ∷ 1 ∷ 1 ∷ 0 ∷ 1 ∷ 0 ∷ 0 ∷ 0 ∷ 0 ∷ 0 ∷ 0 ∷ 0 ∷ 40  -- 2 2 B B f A 0.0 0.0 0.0 4.0
    ∷ 0 ∷ 0 ∷ 0 ∷ 0 ∷ 0 ∷ 0 ∷ 0 ∷ 0 ∷ 0 ∷ 0 ∷ 0 ∷ 0 ∷ 0 ∷ 0 ∷ 0 ∷ 60
    ∷ 0x47 ∷ 0x52 ∷ 0 ∷ 3 ∷ 2 ∷ 2 ∷ 2 ∷ 2 ∷ 0 ∷ 0 ∷ 0 ∷ 20 ∷ 0 ∷ 20 ∷ 0 ∷ 30  -- 3 3 C C u C 0.0 2.0 2.0 3.0
    ∷ 0 ∷ 0 ∷ 0 ∷ 0 ∷ 0 ∷ 0 ∷ 0 ∷ 0 ∷ 0 ∷ 0 ∷ 0 ∷ 0 ∷ 0 ∷ 0 ∷ 0 ∷ 0
    ∷ 0x47 ∷ 0x52 ∷ 0 ∷ 4 ∷ 3 ∷ 3 ∷ 2 ∷ 1 ∷ 0 ∷ 0 ∷ 0 ∷ 30 ∷ 0 ∷ 0 ∷ 0 ∷ 0  -- 4 4 S S f C 0.0 3.0 0.0 0.0
    ∷ 0 ∷ 0 ∷ 0 ∷ 0 ∷ 0 ∷ 0 ∷ 0 ∷ 10 ∷ 0 ∷ 0 ∷ 0 ∷ 0 ∷ 0 ∷ 0 ∷ 0 ∷ 0
    ∷ 0x47 ∷ 0x52 ∷ 0 ∷ 5 ∷ 3 ∷ 3 ∷ 2 ∷ 1 ∷ 0 ∷ 0 ∷ 0 ∷ 30 ∷ 0 ∷ 30 ∷ 0 ∷ 0  -- 5 5 S S f C 0.0 3.0 3.0 0.0
    ∷ 0 ∷ 0 ∷ 0 ∷ 0 ∷ 0 ∷ 0 ∷ 0 ∷ 30 ∷ 0 ∷ 0 ∷ 0 ∷ 0 ∷ 0 ∷ 0 ∷ 0 ∷ 0
    ∷ 0x47 ∷ 0x52 ∷ 1 ∷ 44 ∷ 3 ∷ 3 ∷ 3 ∷ 2 ∷ 0 ∷ 0 ∷ 0 ∷ 0 ∷ 0 ∷ 0 ∷ 0 ∷ 0  -- 6 300 S S u S 0.0 0.0 0.0 0.0
    ∷ 0 ∷ 0 ∷ 0 ∷ 0 ∷ 0 ∷ 0 ∷ 0 ∷ 0 ∷ 0 ∷ 0 ∷ 0 ∷ 0 ∷ 0 ∷ 0 ∷ 0 ∷ 0
    ∷ []

pub record RedesignationSheets : Type 0 where
  pub redesignation_outside_step_three_holds : Graded redesignation_outside_step_three 3 120 redesignation_outside_step_three_results
  pub redesignation_in_step_three_holds : Graded redesignation_in_step_three 4 134 redesignation_in_step_three_results
  pub redesignation_in_run_holds : Graded redesignation_in_run 7 176 redesignation_in_run_results
  pub redesignation_to_lower_grade_holds : Graded redesignation_to_lower_grade 4 134 redesignation_to_lower_grade_results
  pub redesignation_below_lower_grade_holds : Graded redesignation_below_lower_grade 4 134 redesignation_below_lower_grade_results
  pub redesignation_without_plan_holds : Graded redesignation_without_plan 6 162 redesignation_without_plan_results
  pub redesignation_after_step_three_holds : Graded redesignation_after_step_three 6 162 redesignation_after_step_three_results
  pub every_kind_of_record_holds : Graded every_kind_of_record 6 167 every_kind_of_record_results

-- ---- defect grades, portion grades, code grades; what begins step 3

-- Unit 1 exceeds T+L of B in severe and grades C, not the next lower grade. Unit 2 is at T+L of B
-- in every class, unit 3 at that of C, which admit them; unit 4 exceeds that of C in total alone.
unfoldable pub best_lower_grade : List ℕ
best_lower_grade =
    peach_plan
    ++ (0x53 ∷ 0x55 ∷ 0 ∷ 1 ∷ 0 ∷ 0 ∷ 0 ∷ 7 ∷ 0 ∷ 0 ∷ 0 ∷ 0 ∷ 0 ∷ 1  -- 1: 0,7,0,0;A;1
    ∷ 0x42 ∷ 0x4B  -- break
    ∷ 0x53 ∷ 0x55 ∷ 0 ∷ 2 ∷ 0 ∷ 2 ∷ 0 ∷ 6 ∷ 0 ∷ 8 ∷ 0 ∷ 1 ∷ 0 ∷ 1  -- 2: 2,6,8,1;A;1
    ∷ 0x42 ∷ 0x4B  -- break
    ∷ 0x53 ∷ 0x55 ∷ 0 ∷ 3 ∷ 0 ∷ 4 ∷ 0 ∷ 8 ∷ 0 ∷ 10 ∷ 0 ∷ 2 ∷ 0 ∷ 1  -- 3: 4,8,10,2;A;1
    ∷ 0x42 ∷ 0x4B  -- break
    ∷ 0x53 ∷ 0x55 ∷ 0 ∷ 4 ∷ 0 ∷ 0 ∷ 0 ∷ 0 ∷ 0 ∷ 0 ∷ 0 ∷ 25 ∷ 0 ∷ 1  -- 4: 0,0,0,25;A;1
    ∷ [])

unfoldable pub best_lower_grade_results : List ℕ
best_lower_grade_results =
    0x47 ∷ 0x52 ∷ 0 ∷ 1 ∷ 2 ∷ 2 ∷ 0 ∷ 1 ∷ 0 ∷ 0 ∷ 0 ∷ 20 ∷ 0 ∷ 0 ∷ 0 ∷ 20  -- 1 1 C C f A 0.0 2.0 0.0 2.0
    ∷ 0 ∷ 0 ∷ 0 ∷ 0 ∷ 0 ∷ 0 ∷ 0 ∷ 40 ∷ 0 ∷ 0 ∷ 0 ∷ 0 ∷ 0 ∷ 0 ∷ 0 ∷ 0
    ∷ 0x47 ∷ 0x52 ∷ 0 ∷ 2 ∷ 1 ∷ 1 ∷ 0 ∷ 1 ∷ 0 ∷ 5 ∷ 0 ∷ 20 ∷ 0 ∷ 30 ∷ 0 ∷ 40  -- 2 2 B B f A 0.5 2.0 3.0 4.0
    ∷ 0 ∷ 0 ∷ 0 ∷ 10 ∷ 0 ∷ 0 ∷ 0 ∷ 30 ∷ 0 ∷ 0 ∷ 0 ∷ 30 ∷ 0 ∷ 0 ∷ 0 ∷ 80
    ∷ 0x47 ∷ 0x52 ∷ 0 ∷ 3 ∷ 2 ∷ 2 ∷ 0 ∷ 1 ∷ 0 ∷ 5 ∷ 0 ∷ 20 ∷ 0 ∷ 30 ∷ 0 ∷ 40  -- 3 3 C C f A 0.5 2.0 3.0 4.0
    ∷ 0 ∷ 0 ∷ 0 ∷ 30 ∷ 0 ∷ 0 ∷ 0 ∷ 50 ∷ 0 ∷ 0 ∷ 0 ∷ 50 ∷ 0 ∷ 0 ∷ 0 ∷ 150
    ∷ 0x47 ∷ 0x52 ∷ 0 ∷ 4 ∷ 3 ∷ 3 ∷ 0 ∷ 1 ∷ 0 ∷ 0 ∷ 0 ∷ 0 ∷ 0 ∷ 0 ∷ 0 ∷ 40  -- 4 4 S S f A 0.0 0.0 0.0 4.0
    ∷ 0 ∷ 0 ∷ 0 ∷ 0 ∷ 0 ∷ 0 ∷ 0 ∷ 0 ∷ 0 ∷ 0 ∷ 0 ∷ 0 ∷ 0 ∷ 0 ∷ 0 ∷ 160
    ∷ []

-- No grade is lower than C, so that both are Substandard, though within T+L of C. There is no
-- plan then: CuSums are zero and plan grade 3.
-- The peach plan, but designated C.
unfoldable pub designated_c_failed_twice : List ℕ
designated_c_failed_twice =
    set peach_plan 2 2
    ++ (0x53 ∷ 0x55 ∷ 0 ∷ 1 ∷ 0 ∷ 0 ∷ 0 ∷ 8 ∷ 0 ∷ 0 ∷ 0 ∷ 0 ∷ 0 ∷ 1  -- 1: 0,8,0,0;A;1
    ∷ 0x53 ∷ 0x55 ∷ 0 ∷ 2 ∷ 0 ∷ 0 ∷ 0 ∷ 8 ∷ 0 ∷ 0 ∷ 0 ∷ 0 ∷ 0 ∷ 1  -- 2: 0,8,0,0;A;1
    ∷ 0x53 ∷ 0x55 ∷ 0 ∷ 3 ∷ 0 ∷ 0 ∷ 0 ∷ 0 ∷ 0 ∷ 1 ∷ 0 ∷ 2 ∷ 0 ∷ 1  -- 3: 0,0,1,2;A;1
    ∷ [])

unfoldable pub designated_c_failed_twice_results : List ℕ
designated_c_failed_twice_results =
    0x47 ∷ 0x52 ∷ 0 ∷ 1 ∷ 3 ∷ 3 ∷ 2 ∷ 1 ∷ 0 ∷ 0 ∷ 0 ∷ 30 ∷ 0 ∷ 0 ∷ 0 ∷ 0  -- 1 1 S S f C 0.0 3.0 0.0 0.0
    ∷ 0 ∷ 0 ∷ 0 ∷ 0 ∷ 0 ∷ 0 ∷ 0 ∷ 10 ∷ 0 ∷ 0 ∷ 0 ∷ 0 ∷ 0 ∷ 0 ∷ 0 ∷ 0
    ∷ 0x47 ∷ 0x52 ∷ 0 ∷ 2 ∷ 3 ∷ 3 ∷ 2 ∷ 1 ∷ 0 ∷ 0 ∷ 0 ∷ 30 ∷ 0 ∷ 0 ∷ 0 ∷ 0  -- 2 2 S S f C 0.0 3.0 0.0 0.0
    ∷ 0 ∷ 0 ∷ 0 ∷ 0 ∷ 0 ∷ 0 ∷ 0 ∷ 30 ∷ 0 ∷ 0 ∷ 0 ∷ 0 ∷ 0 ∷ 0 ∷ 0 ∷ 0
    ∷ 0x47 ∷ 0x52 ∷ 0 ∷ 3 ∷ 3 ∷ 3 ∷ 3 ∷ 2 ∷ 0 ∷ 0 ∷ 0 ∷ 0 ∷ 0 ∷ 0 ∷ 0 ∷ 0  -- 3 3 S S u S 0.0 0.0 0.0 0.0
    ∷ 0 ∷ 0 ∷ 0 ∷ 0 ∷ 0 ∷ 0 ∷ 0 ∷ 0 ∷ 0 ∷ 0 ∷ 0 ∷ 0 ∷ 0 ∷ 0 ∷ 0 ∷ 0
    ∷ []

-- A prerequisite never makes a unit fail: no step 3 behind two of them. Unit 3 meets A and grades
-- C by its prerequisite.
unfoldable pub prerequisite_substandard : List ℕ
prerequisite_substandard =
    peach_plan
    ++ (0x53 ∷ 0x55 ∷ 0 ∷ 1 ∷ 0 ∷ 0 ∷ 0 ∷ 0 ∷ 0 ∷ 1 ∷ 0 ∷ 2 ∷ 3 ∷ 1  -- 1: 0,0,1,2;S;1
    ∷ 0x53 ∷ 0x55 ∷ 0 ∷ 2 ∷ 0 ∷ 0 ∷ 0 ∷ 0 ∷ 0 ∷ 1 ∷ 0 ∷ 2 ∷ 3 ∷ 1  -- 2: 0,0,1,2;S;1
    ∷ 0x53 ∷ 0x55 ∷ 0 ∷ 3 ∷ 0 ∷ 0 ∷ 0 ∷ 1 ∷ 0 ∷ 4 ∷ 0 ∷ 5 ∷ 2 ∷ 1  -- 3: 0,1,4,5;C;1
    ∷ [])

unfoldable pub prerequisite_substandard_results : List ℕ
prerequisite_substandard_results =
    0x47 ∷ 0x52 ∷ 0 ∷ 1 ∷ 3 ∷ 3 ∷ 0 ∷ 0 ∷ 0 ∷ 0 ∷ 0 ∷ 0 ∷ 0 ∷ 0 ∷ 0 ∷ 0  -- 1 1 S S m A 0.0 0.0 0.0 0.0
    ∷ 0 ∷ 0 ∷ 0 ∷ 0 ∷ 0 ∷ 0 ∷ 0 ∷ 0 ∷ 0 ∷ 0 ∷ 0 ∷ 0 ∷ 0 ∷ 0 ∷ 0 ∷ 0
    ∷ 0x47 ∷ 0x52 ∷ 0 ∷ 2 ∷ 3 ∷ 3 ∷ 0 ∷ 0 ∷ 0 ∷ 0 ∷ 0 ∷ 0 ∷ 0 ∷ 0 ∷ 0 ∷ 0  -- 2 2 S S m A 0.0 0.0 0.0 0.0
    ∷ 0 ∷ 0 ∷ 0 ∷ 0 ∷ 0 ∷ 0 ∷ 0 ∷ 0 ∷ 0 ∷ 0 ∷ 0 ∷ 0 ∷ 0 ∷ 0 ∷ 0 ∷ 0
    ∷ 0x47 ∷ 0x52 ∷ 0 ∷ 3 ∷ 2 ∷ 2 ∷ 0 ∷ 0 ∷ 0 ∷ 0 ∷ 0 ∷ 0 ∷ 0 ∷ 10 ∷ 0 ∷ 40  -- 3 3 C C m A 0.0 0.0 1.0 4.0
    ∷ 0 ∷ 0 ∷ 0 ∷ 0 ∷ 0 ∷ 0 ∷ 0 ∷ 0 ∷ 0 ∷ 0 ∷ 0 ∷ 0 ∷ 0 ∷ 0 ∷ 0 ∷ 0
    ∷ []

-- Step 3 is at the worse of the two defect grades, B, and not of the portion grades.
unfoldable pub prerequisites_of_two_failures : List ℕ
prerequisites_of_two_failures =
    peach_plan
    ++ (0x53 ∷ 0x55 ∷ 0 ∷ 1 ∷ 0 ∷ 0 ∷ 0 ∷ 0 ∷ 0 ∷ 0 ∷ 0 ∷ 12 ∷ 2 ∷ 1  -- 1: 0,0,0,12;C;1
    ∷ 0x53 ∷ 0x55 ∷ 0 ∷ 2 ∷ 0 ∷ 0 ∷ 0 ∷ 0 ∷ 0 ∷ 0 ∷ 0 ∷ 12 ∷ 3 ∷ 1  -- 2: 0,0,0,12;S;1
    ∷ 0x53 ∷ 0x55 ∷ 0 ∷ 3 ∷ 0 ∷ 0 ∷ 0 ∷ 3 ∷ 0 ∷ 5 ∷ 0 ∷ 5 ∷ 0 ∷ 1  -- 3: 0,3,5,5;A;1
    ∷ [])

unfoldable pub prerequisites_of_two_failures_results : List ℕ
prerequisites_of_two_failures_results =
    0x47 ∷ 0x52 ∷ 0 ∷ 1 ∷ 2 ∷ 2 ∷ 0 ∷ 1 ∷ 0 ∷ 0 ∷ 0 ∷ 0 ∷ 0 ∷ 0 ∷ 0 ∷ 40  -- 1 1 C C f A 0.0 0.0 0.0 4.0
    ∷ 0 ∷ 0 ∷ 0 ∷ 0 ∷ 0 ∷ 0 ∷ 0 ∷ 0 ∷ 0 ∷ 0 ∷ 0 ∷ 0 ∷ 0 ∷ 0 ∷ 0 ∷ 30
    ∷ 0x47 ∷ 0x52 ∷ 0 ∷ 2 ∷ 3 ∷ 3 ∷ 0 ∷ 1 ∷ 0 ∷ 0 ∷ 0 ∷ 0 ∷ 0 ∷ 0 ∷ 0 ∷ 40  -- 2 2 S S f A 0.0 0.0 0.0 4.0
    ∷ 0 ∷ 0 ∷ 0 ∷ 0 ∷ 0 ∷ 0 ∷ 0 ∷ 0 ∷ 0 ∷ 0 ∷ 0 ∷ 0 ∷ 0 ∷ 0 ∷ 0 ∷ 60
    ∷ 0x47 ∷ 0x52 ∷ 0 ∷ 3 ∷ 1 ∷ 1 ∷ 1 ∷ 2 ∷ 0 ∷ 0 ∷ 0 ∷ 10 ∷ 0 ∷ 10 ∷ 0 ∷ 30  -- 3 3 B B u B 0.0 1.0 1.0 3.0
    ∷ 0 ∷ 0 ∷ 0 ∷ 0 ∷ 0 ∷ 0 ∷ 0 ∷ 0 ∷ 0 ∷ 0 ∷ 0 ∷ 0 ∷ 0 ∷ 0 ∷ 0 ∷ 0
    ∷ []

-- Minor defects count in total, and so do all others. Unit 1 comes to L and meets; unit 2 has one
-- minor defect more; unit 3 as many in three kinds, and meets in each of these classes.
unfoldable pub total_alone_fails : List ℕ
total_alone_fails =
    peach_plan
    ++ (0x53 ∷ 0x55 ∷ 0 ∷ 1 ∷ 0 ∷ 0 ∷ 0 ∷ 0 ∷ 0 ∷ 0 ∷ 0 ∷ 9 ∷ 0 ∷ 1  -- 1: 0,0,0,9;A;1
    ∷ 0x42 ∷ 0x4B  -- break
    ∷ 0x53 ∷ 0x55 ∷ 0 ∷ 2 ∷ 0 ∷ 0 ∷ 0 ∷ 0 ∷ 0 ∷ 0 ∷ 0 ∷ 10 ∷ 0 ∷ 1  -- 2: 0,0,0,10;A;1
    ∷ 0x42 ∷ 0x4B  -- break
    ∷ 0x53 ∷ 0x55 ∷ 0 ∷ 3 ∷ 0 ∷ 0 ∷ 0 ∷ 2 ∷ 0 ∷ 3 ∷ 0 ∷ 5 ∷ 0 ∷ 1  -- 3: 0,2,3,5;A;1
    ∷ [])

unfoldable pub total_alone_fails_results : List ℕ
total_alone_fails_results =
    0x47 ∷ 0x52 ∷ 0 ∷ 1 ∷ 0 ∷ 0 ∷ 0 ∷ 0 ∷ 0 ∷ 0 ∷ 0 ∷ 0 ∷ 0 ∷ 0 ∷ 0 ∷ 40  -- 1 1 A A m A 0.0 0.0 0.0 4.0
    ∷ 0 ∷ 0 ∷ 0 ∷ 0 ∷ 0 ∷ 0 ∷ 0 ∷ 0 ∷ 0 ∷ 0 ∷ 0 ∷ 0 ∷ 0 ∷ 0 ∷ 0 ∷ 0
    ∷ 0x47 ∷ 0x52 ∷ 0 ∷ 2 ∷ 1 ∷ 1 ∷ 0 ∷ 1 ∷ 0 ∷ 0 ∷ 0 ∷ 0 ∷ 0 ∷ 0 ∷ 0 ∷ 40  -- 2 2 B B f A 0.0 0.0 0.0 4.0
    ∷ 0 ∷ 0 ∷ 0 ∷ 0 ∷ 0 ∷ 0 ∷ 0 ∷ 0 ∷ 0 ∷ 0 ∷ 0 ∷ 0 ∷ 0 ∷ 0 ∷ 0 ∷ 10
    ∷ 0x47 ∷ 0x52 ∷ 0 ∷ 3 ∷ 1 ∷ 1 ∷ 0 ∷ 1 ∷ 0 ∷ 0 ∷ 0 ∷ 10 ∷ 0 ∷ 10 ∷ 0 ∷ 40  -- 3 3 B B f A 0.0 1.0 1.0 4.0
    ∷ 0 ∷ 0 ∷ 0 ∷ 0 ∷ 0 ∷ 0 ∷ 0 ∷ 0 ∷ 0 ∷ 0 ∷ 0 ∷ 0 ∷ 0 ∷ 0 ∷ 0 ∷ 10
    ∷ []

-- Unit 1 fails in severe alone, unit 2 in major alone: step 3 begins all the same, at the S of B.
unfoldable pub two_classes_fail_in_turn : List ℕ
two_classes_fail_in_turn =
    peach_plan
    ++ (0x53 ∷ 0x55 ∷ 0 ∷ 1 ∷ 0 ∷ 0 ∷ 0 ∷ 4 ∷ 0 ∷ 0 ∷ 0 ∷ 0 ∷ 0 ∷ 1  -- 1: 0,4,0,0;A;1
    ∷ 0x53 ∷ 0x55 ∷ 0 ∷ 2 ∷ 0 ∷ 0 ∷ 0 ∷ 0 ∷ 0 ∷ 7 ∷ 0 ∷ 0 ∷ 0 ∷ 1  -- 2: 0,0,7,0;A;1
    ∷ 0x53 ∷ 0x55 ∷ 0 ∷ 3 ∷ 0 ∷ 0 ∷ 0 ∷ 3 ∷ 0 ∷ 5 ∷ 0 ∷ 5 ∷ 0 ∷ 1  -- 3: 0,3,5,5;A;1
    ∷ [])

unfoldable pub two_classes_fail_in_turn_results : List ℕ
two_classes_fail_in_turn_results =
    0x47 ∷ 0x52 ∷ 0 ∷ 1 ∷ 1 ∷ 1 ∷ 0 ∷ 1 ∷ 0 ∷ 0 ∷ 0 ∷ 20 ∷ 0 ∷ 0 ∷ 0 ∷ 0  -- 1 1 B B f A 0.0 2.0 0.0 0.0
    ∷ 0 ∷ 0 ∷ 0 ∷ 0 ∷ 0 ∷ 0 ∷ 0 ∷ 10 ∷ 0 ∷ 0 ∷ 0 ∷ 0 ∷ 0 ∷ 0 ∷ 0 ∷ 0
    ∷ 0x47 ∷ 0x52 ∷ 0 ∷ 2 ∷ 1 ∷ 1 ∷ 0 ∷ 1 ∷ 0 ∷ 0 ∷ 0 ∷ 5 ∷ 0 ∷ 30 ∷ 0 ∷ 10  -- 2 2 B B f A 0.0 0.5 3.0 1.0
    ∷ 0 ∷ 0 ∷ 0 ∷ 0 ∷ 0 ∷ 0 ∷ 0 ∷ 0 ∷ 0 ∷ 0 ∷ 0 ∷ 10 ∷ 0 ∷ 0 ∷ 0 ∷ 0
    ∷ 0x47 ∷ 0x52 ∷ 0 ∷ 3 ∷ 1 ∷ 1 ∷ 1 ∷ 2 ∷ 0 ∷ 0 ∷ 0 ∷ 10 ∷ 0 ∷ 10 ∷ 0 ∷ 30  -- 3 3 B B u B 0.0 1.0 1.0 3.0
    ∷ 0 ∷ 0 ∷ 0 ∷ 0 ∷ 0 ∷ 0 ∷ 0 ∷ 0 ∷ 0 ∷ 0 ∷ 0 ∷ 0 ∷ 0 ∷ 0 ∷ 0 ∷ 0
    ∷ []

-- Failures with a unit between them are not in a row: unit 4 is under A.
unfoldable pub unit_that_meets_between_failures : List ℕ
unit_that_meets_between_failures =
    peach_plan
    ++ (0x53 ∷ 0x55 ∷ 0 ∷ 1 ∷ 0 ∷ 0 ∷ 0 ∷ 0 ∷ 0 ∷ 0 ∷ 0 ∷ 12 ∷ 0 ∷ 1  -- 1: 0,0,0,12;A;1
    ∷ 0x53 ∷ 0x55 ∷ 0 ∷ 2 ∷ 0 ∷ 0 ∷ 0 ∷ 0 ∷ 0 ∷ 0 ∷ 0 ∷ 0 ∷ 0 ∷ 1  -- 2: 0,0,0,0;A;1
    ∷ 0x53 ∷ 0x55 ∷ 0 ∷ 3 ∷ 0 ∷ 0 ∷ 0 ∷ 0 ∷ 0 ∷ 0 ∷ 0 ∷ 12 ∷ 0 ∷ 1  -- 3: 0,0,0,12;A;1
    ∷ 0x53 ∷ 0x55 ∷ 0 ∷ 4 ∷ 0 ∷ 0 ∷ 0 ∷ 0 ∷ 0 ∷ 3 ∷ 0 ∷ 3 ∷ 0 ∷ 1  -- 4: 0,0,3,3;A;1
    ∷ [])

unfoldable pub unit_that_meets_between_failures_results : List ℕ
unit_that_meets_between_failures_results =
    0x47 ∷ 0x52 ∷ 0 ∷ 1 ∷ 1 ∷ 1 ∷ 0 ∷ 1 ∷ 0 ∷ 0 ∷ 0 ∷ 0 ∷ 0 ∷ 0 ∷ 0 ∷ 40  -- 1 1 B B f A 0.0 0.0 0.0 4.0
    ∷ 0 ∷ 0 ∷ 0 ∷ 0 ∷ 0 ∷ 0 ∷ 0 ∷ 0 ∷ 0 ∷ 0 ∷ 0 ∷ 0 ∷ 0 ∷ 0 ∷ 0 ∷ 30
    ∷ 0x47 ∷ 0x52 ∷ 0 ∷ 2 ∷ 0 ∷ 0 ∷ 0 ∷ 0 ∷ 0 ∷ 0 ∷ 0 ∷ 0 ∷ 0 ∷ 0 ∷ 0 ∷ 0  -- 2 2 A A m A 0.0 0.0 0.0 0.0
    ∷ 0 ∷ 0 ∷ 0 ∷ 0 ∷ 0 ∷ 0 ∷ 0 ∷ 0 ∷ 0 ∷ 0 ∷ 0 ∷ 0 ∷ 0 ∷ 0 ∷ 0 ∷ 0
    ∷ 0x47 ∷ 0x52 ∷ 0 ∷ 3 ∷ 1 ∷ 1 ∷ 0 ∷ 1 ∷ 0 ∷ 0 ∷ 0 ∷ 0 ∷ 0 ∷ 0 ∷ 0 ∷ 40  -- 3 3 B B f A 0.0 0.0 0.0 4.0
    ∷ 0 ∷ 0 ∷ 0 ∷ 0 ∷ 0 ∷ 0 ∷ 0 ∷ 0 ∷ 0 ∷ 0 ∷ 0 ∷ 0 ∷ 0 ∷ 0 ∷ 0 ∷ 20
    ∷ 0x47 ∷ 0x52 ∷ 0 ∷ 4 ∷ 0 ∷ 0 ∷ 0 ∷ 0 ∷ 0 ∷ 0 ∷ 0 ∷ 0 ∷ 0 ∷ 0 ∷ 0 ∷ 40  -- 4 4 A A m A 0.0 0.0 0.0 4.0
    ∷ 0 ∷ 0 ∷ 0 ∷ 0 ∷ 0 ∷ 0 ∷ 0 ∷ 0 ∷ 0 ∷ 0 ∷ 0 ∷ 0 ∷ 0 ∷ 0 ∷ 0 ∷ 0
    ∷ []

-- Codes are 01 2C, 00 2C, 01 2D, 01 2C: the first and the last are one code, not adjoining, and
-- have the worse portion grade. One byte of a code alone does not tell it.
unfoldable pub code_met_again : List ℕ
code_met_again =
    peach_plan
    ++ (0x53 ∷ 0x55 ∷ 1 ∷ 44 ∷ 0 ∷ 0 ∷ 0 ∷ 0 ∷ 0 ∷ 1 ∷ 0 ∷ 2 ∷ 0 ∷ 1  -- 300: 0,0,1,2;A;1
    ∷ 0x53 ∷ 0x55 ∷ 0 ∷ 44 ∷ 0 ∷ 0 ∷ 0 ∷ 0 ∷ 0 ∷ 1 ∷ 0 ∷ 2 ∷ 1 ∷ 1  -- 44: 0,0,1,2;B;1
    ∷ 0x53 ∷ 0x55 ∷ 1 ∷ 45 ∷ 0 ∷ 0 ∷ 0 ∷ 0 ∷ 0 ∷ 1 ∷ 0 ∷ 2 ∷ 3 ∷ 1  -- 301: 0,0,1,2;S;1
    ∷ 0x53 ∷ 0x55 ∷ 1 ∷ 44 ∷ 0 ∷ 0 ∷ 0 ∷ 0 ∷ 0 ∷ 1 ∷ 0 ∷ 2 ∷ 2 ∷ 1  -- 300: 0,0,1,2;C;1
    ∷ [])

unfoldable pub code_met_again_results : List ℕ
code_met_again_results =
    0x47 ∷ 0x52 ∷ 1 ∷ 44 ∷ 0 ∷ 2 ∷ 0 ∷ 0 ∷ 0 ∷ 0 ∷ 0 ∷ 0 ∷ 0 ∷ 0 ∷ 0 ∷ 0  -- 1 300 A C m A 0.0 0.0 0.0 0.0
    ∷ 0 ∷ 0 ∷ 0 ∷ 0 ∷ 0 ∷ 0 ∷ 0 ∷ 0 ∷ 0 ∷ 0 ∷ 0 ∷ 0 ∷ 0 ∷ 0 ∷ 0 ∷ 0
    ∷ 0x47 ∷ 0x52 ∷ 0 ∷ 44 ∷ 1 ∷ 1 ∷ 0 ∷ 0 ∷ 0 ∷ 0 ∷ 0 ∷ 0 ∷ 0 ∷ 0 ∷ 0 ∷ 0  -- 2 44 B B m A 0.0 0.0 0.0 0.0
    ∷ 0 ∷ 0 ∷ 0 ∷ 0 ∷ 0 ∷ 0 ∷ 0 ∷ 0 ∷ 0 ∷ 0 ∷ 0 ∷ 0 ∷ 0 ∷ 0 ∷ 0 ∷ 0
    ∷ 0x47 ∷ 0x52 ∷ 1 ∷ 45 ∷ 3 ∷ 3 ∷ 0 ∷ 0 ∷ 0 ∷ 0 ∷ 0 ∷ 0 ∷ 0 ∷ 0 ∷ 0 ∷ 0  -- 3 301 S S m A 0.0 0.0 0.0 0.0
    ∷ 0 ∷ 0 ∷ 0 ∷ 0 ∷ 0 ∷ 0 ∷ 0 ∷ 0 ∷ 0 ∷ 0 ∷ 0 ∷ 0 ∷ 0 ∷ 0 ∷ 0 ∷ 0
    ∷ 0x47 ∷ 0x52 ∷ 1 ∷ 44 ∷ 2 ∷ 2 ∷ 0 ∷ 0 ∷ 0 ∷ 0 ∷ 0 ∷ 0 ∷ 0 ∷ 0 ∷ 0 ∷ 0  -- 4 300 C C m A 0.0 0.0 0.0 0.0
    ∷ 0 ∷ 0 ∷ 0 ∷ 0 ∷ 0 ∷ 0 ∷ 0 ∷ 0 ∷ 0 ∷ 0 ∷ 0 ∷ 0 ∷ 0 ∷ 0 ∷ 0 ∷ 0
    ∷ []

-- S equal to L is accepted, here in every class of A. Counts at T keep major and total at L and
-- meet; one major defect more fails.
-- The peach plan, but critical at A 0.5/0.5/0.5, severe at A 2/1.5/2, major at A 3/3/3, total at A 4/6/4.
unfoldable pub start_equal_to_limit : List ℕ
start_equal_to_limit =
    set (set (set (set peach_plan 4 5) 10 20) 16 30) 22 40
    ++ (0x53 ∷ 0x55 ∷ 0 ∷ 1 ∷ 0 ∷ 0 ∷ 0 ∷ 1 ∷ 0 ∷ 3 ∷ 0 ∷ 2 ∷ 0 ∷ 1  -- 1: 0,1,3,2;A;1
    ∷ 0x53 ∷ 0x55 ∷ 0 ∷ 2 ∷ 0 ∷ 0 ∷ 0 ∷ 1 ∷ 0 ∷ 4 ∷ 0 ∷ 1 ∷ 0 ∷ 1  -- 2: 0,1,4,1;A;1
    ∷ [])

unfoldable pub start_equal_to_limit_results : List ℕ
start_equal_to_limit_results =
    0x47 ∷ 0x52 ∷ 0 ∷ 1 ∷ 0 ∷ 0 ∷ 0 ∷ 0 ∷ 0 ∷ 0 ∷ 0 ∷ 15 ∷ 0 ∷ 30 ∷ 0 ∷ 40  -- 1 1 A A m A 0.0 1.5 3.0 4.0
    ∷ 0 ∷ 0 ∷ 0 ∷ 0 ∷ 0 ∷ 0 ∷ 0 ∷ 0 ∷ 0 ∷ 0 ∷ 0 ∷ 0 ∷ 0 ∷ 0 ∷ 0 ∷ 0
    ∷ 0x47 ∷ 0x52 ∷ 0 ∷ 2 ∷ 1 ∷ 1 ∷ 0 ∷ 1 ∷ 0 ∷ 0 ∷ 0 ∷ 10 ∷ 0 ∷ 30 ∷ 0 ∷ 40  -- 2 2 B B f A 0.0 1.0 3.0 4.0
    ∷ 0 ∷ 0 ∷ 0 ∷ 0 ∷ 0 ∷ 0 ∷ 0 ∷ 0 ∷ 0 ∷ 0 ∷ 0 ∷ 10 ∷ 0 ∷ 0 ∷ 0 ∷ 0
    ∷ []

-- S, CuSums and L above 25.5 have both bytes: 25.6, 59.6, and 60.0 at the failure.
-- The peach plan, but total at A 25.6/6/60, total at B 2/12/60, total at C 2/17/60.
unfoldable pub cusums_of_two_bytes : List ℕ
cusums_of_two_bytes =
    set (set (set (set (set (set (set (set peach_plan 21 1) 22 0) 25 2) 26 88) 49 2) 50 88) 73 2) 74 88
    ++ (0x53 ∷ 0x55 ∷ 0 ∷ 1 ∷ 0 ∷ 0 ∷ 0 ∷ 0 ∷ 0 ∷ 0 ∷ 0 ∷ 6 ∷ 0 ∷ 1  -- 1: 0,0,0,6;A;1
    ∷ 0x53 ∷ 0x55 ∷ 0 ∷ 2 ∷ 0 ∷ 0 ∷ 0 ∷ 0 ∷ 0 ∷ 0 ∷ 0 ∷ 40 ∷ 0 ∷ 1  -- 2: 0,0,0,40;A;1
    ∷ 0x53 ∷ 0x55 ∷ 0 ∷ 3 ∷ 0 ∷ 0 ∷ 0 ∷ 0 ∷ 0 ∷ 0 ∷ 0 ∷ 7 ∷ 0 ∷ 1  -- 3: 0,0,0,7;A;1
    ∷ [])

unfoldable pub cusums_of_two_bytes_results : List ℕ
cusums_of_two_bytes_results =
    0x47 ∷ 0x52 ∷ 0 ∷ 1 ∷ 0 ∷ 0 ∷ 0 ∷ 0 ∷ 0 ∷ 0 ∷ 0 ∷ 0 ∷ 0 ∷ 0 ∷ 1 ∷ 0  -- 1 1 A A m A 0.0 0.0 0.0 25.6
    ∷ 0 ∷ 0 ∷ 0 ∷ 0 ∷ 0 ∷ 0 ∷ 0 ∷ 0 ∷ 0 ∷ 0 ∷ 0 ∷ 0 ∷ 0 ∷ 0 ∷ 0 ∷ 0
    ∷ 0x47 ∷ 0x52 ∷ 0 ∷ 2 ∷ 0 ∷ 0 ∷ 0 ∷ 0 ∷ 0 ∷ 0 ∷ 0 ∷ 0 ∷ 0 ∷ 0 ∷ 2 ∷ 84  -- 2 2 A A m A 0.0 0.0 0.0 59.6
    ∷ 0 ∷ 0 ∷ 0 ∷ 0 ∷ 0 ∷ 0 ∷ 0 ∷ 0 ∷ 0 ∷ 0 ∷ 0 ∷ 0 ∷ 0 ∷ 0 ∷ 0 ∷ 0
    ∷ 0x47 ∷ 0x52 ∷ 0 ∷ 3 ∷ 1 ∷ 1 ∷ 0 ∷ 1 ∷ 0 ∷ 0 ∷ 0 ∷ 0 ∷ 0 ∷ 0 ∷ 2 ∷ 88  -- 3 3 B B f A 0.0 0.0 0.0 60.0
    ∷ 0 ∷ 0 ∷ 0 ∷ 0 ∷ 0 ∷ 0 ∷ 0 ∷ 0 ∷ 0 ∷ 0 ∷ 0 ∷ 0 ∷ 0 ∷ 0 ∷ 0 ∷ 6
    ∷ []

-- 999.9/999/999.9 in every class. Unit 1 comes to L in critical and total, 999.9+999-999, and
-- meets. Unit 2, with as many defects as there may be, fails in each: the CuSums are L, and no
-- larger.
unfoldable pub largest_cusums : List ℕ
largest_cusums =
    largest_plan
    ++ (0x53 ∷ 0x55 ∷ 0 ∷ 1 ∷ 3 ∷ 231 ∷ 0 ∷ 0 ∷ 0 ∷ 0 ∷ 0 ∷ 0 ∷ 0 ∷ 1  -- 1: 999,0,0,0;A;1
    ∷ 0x53 ∷ 0x55 ∷ 0 ∷ 2 ∷ 7 ∷ 208 ∷ 7 ∷ 208 ∷ 7 ∷ 208 ∷ 7 ∷ 208 ∷ 0 ∷ 1  -- 2: 2000,2000,2000,2000;A;1
    ∷ 0x53 ∷ 0x55 ∷ 0 ∷ 3 ∷ 0 ∷ 0 ∷ 0 ∷ 0 ∷ 0 ∷ 0 ∷ 3 ∷ 231 ∷ 0 ∷ 1  -- 3: 0,0,0,999;A;1
    ∷ [])

unfoldable pub largest_cusums_results : List ℕ
largest_cusums_results =
    0x47 ∷ 0x52 ∷ 0 ∷ 1 ∷ 0 ∷ 0 ∷ 0 ∷ 0 ∷ 39 ∷ 15 ∷ 0 ∷ 9 ∷ 0 ∷ 9 ∷ 39 ∷ 15  -- 1 1 A A m A 999.9 0.9 0.9 999.9
    ∷ 0 ∷ 0 ∷ 0 ∷ 0 ∷ 0 ∷ 0 ∷ 0 ∷ 0 ∷ 0 ∷ 0 ∷ 0 ∷ 0 ∷ 0 ∷ 0 ∷ 0 ∷ 0
    ∷ 0x47 ∷ 0x52 ∷ 0 ∷ 2 ∷ 3 ∷ 3 ∷ 0 ∷ 1 ∷ 39 ∷ 15 ∷ 39 ∷ 15 ∷ 39 ∷ 15 ∷ 39 ∷ 15  -- 2 2 S S f A 999.9 999.9 999.9 999.9
    ∷ 0 ∷ 0 ∷ 39 ∷ 26 ∷ 0 ∷ 0 ∷ 0 ∷ 20 ∷ 0 ∷ 0 ∷ 0 ∷ 20 ∷ 0 ∷ 1 ∷ 17 ∷ 122
    ∷ 0x47 ∷ 0x52 ∷ 0 ∷ 3 ∷ 0 ∷ 0 ∷ 0 ∷ 0 ∷ 0 ∷ 9 ∷ 0 ∷ 9 ∷ 0 ∷ 9 ∷ 39 ∷ 15  -- 3 3 A A m A 0.9 0.9 0.9 999.9
    ∷ 0 ∷ 0 ∷ 0 ∷ 0 ∷ 0 ∷ 0 ∷ 0 ∷ 0 ∷ 0 ∷ 0 ∷ 0 ∷ 0 ∷ 0 ∷ 0 ∷ 0 ∷ 0
    ∷ []

-- P1 and P2 in the class total, with minor defects alone: 1/3/3, counts 8,3,2,1,12: CuSums 3
-- (fails),3,2,0,3 (fails). T+L at B 10 and at C 13: the 8 grades B, the 12 C.
-- The peach plan, but total at A 1/3/3, total at B 2/6/4, total at C 2/7/6.
unfoldable pub p1_in_bytes : List ℕ
p1_in_bytes =
    set (set (set (set (set (set peach_plan 24 30) 26 30) 48 60) 50 40) 72 70) 74 60
    ++ (0x53 ∷ 0x55 ∷ 0 ∷ 1 ∷ 0 ∷ 0 ∷ 0 ∷ 0 ∷ 0 ∷ 0 ∷ 0 ∷ 8 ∷ 0 ∷ 1  -- 1: 0,0,0,8;A;1
    ∷ 0x53 ∷ 0x55 ∷ 0 ∷ 2 ∷ 0 ∷ 0 ∷ 0 ∷ 0 ∷ 0 ∷ 0 ∷ 0 ∷ 3 ∷ 0 ∷ 1  -- 2: 0,0,0,3;A;1
    ∷ 0x53 ∷ 0x55 ∷ 0 ∷ 3 ∷ 0 ∷ 0 ∷ 0 ∷ 0 ∷ 0 ∷ 0 ∷ 0 ∷ 2 ∷ 0 ∷ 1  -- 3: 0,0,0,2;A;1
    ∷ 0x53 ∷ 0x55 ∷ 0 ∷ 4 ∷ 0 ∷ 0 ∷ 0 ∷ 0 ∷ 0 ∷ 0 ∷ 0 ∷ 1 ∷ 0 ∷ 1  -- 4: 0,0,0,1;A;1
    ∷ 0x53 ∷ 0x55 ∷ 0 ∷ 5 ∷ 0 ∷ 0 ∷ 0 ∷ 0 ∷ 0 ∷ 0 ∷ 0 ∷ 12 ∷ 0 ∷ 1  -- 5: 0,0,0,12;A;1
    ∷ [])

unfoldable pub p1_in_bytes_results : List ℕ
p1_in_bytes_results =
    0x47 ∷ 0x52 ∷ 0 ∷ 1 ∷ 1 ∷ 1 ∷ 0 ∷ 1 ∷ 0 ∷ 0 ∷ 0 ∷ 0 ∷ 0 ∷ 0 ∷ 0 ∷ 30  -- 1 1 B B f A 0.0 0.0 0.0 3.0
    ∷ 0 ∷ 0 ∷ 0 ∷ 0 ∷ 0 ∷ 0 ∷ 0 ∷ 0 ∷ 0 ∷ 0 ∷ 0 ∷ 0 ∷ 0 ∷ 0 ∷ 0 ∷ 30
    ∷ 0x47 ∷ 0x52 ∷ 0 ∷ 2 ∷ 0 ∷ 0 ∷ 0 ∷ 0 ∷ 0 ∷ 0 ∷ 0 ∷ 0 ∷ 0 ∷ 0 ∷ 0 ∷ 30  -- 2 2 A A m A 0.0 0.0 0.0 3.0
    ∷ 0 ∷ 0 ∷ 0 ∷ 0 ∷ 0 ∷ 0 ∷ 0 ∷ 0 ∷ 0 ∷ 0 ∷ 0 ∷ 0 ∷ 0 ∷ 0 ∷ 0 ∷ 0
    ∷ 0x47 ∷ 0x52 ∷ 0 ∷ 3 ∷ 0 ∷ 0 ∷ 0 ∷ 0 ∷ 0 ∷ 0 ∷ 0 ∷ 0 ∷ 0 ∷ 0 ∷ 0 ∷ 20  -- 3 3 A A m A 0.0 0.0 0.0 2.0
    ∷ 0 ∷ 0 ∷ 0 ∷ 0 ∷ 0 ∷ 0 ∷ 0 ∷ 0 ∷ 0 ∷ 0 ∷ 0 ∷ 0 ∷ 0 ∷ 0 ∷ 0 ∷ 0
    ∷ 0x47 ∷ 0x52 ∷ 0 ∷ 4 ∷ 0 ∷ 0 ∷ 0 ∷ 0 ∷ 0 ∷ 0 ∷ 0 ∷ 0 ∷ 0 ∷ 0 ∷ 0 ∷ 0  -- 4 4 A A m A 0.0 0.0 0.0 0.0
    ∷ 0 ∷ 0 ∷ 0 ∷ 0 ∷ 0 ∷ 0 ∷ 0 ∷ 0 ∷ 0 ∷ 0 ∷ 0 ∷ 0 ∷ 0 ∷ 0 ∷ 0 ∷ 0
    ∷ 0x47 ∷ 0x52 ∷ 0 ∷ 5 ∷ 2 ∷ 2 ∷ 0 ∷ 1 ∷ 0 ∷ 0 ∷ 0 ∷ 0 ∷ 0 ∷ 0 ∷ 0 ∷ 30  -- 5 5 C C f A 0.0 0.0 0.0 3.0
    ∷ 0 ∷ 0 ∷ 0 ∷ 0 ∷ 0 ∷ 0 ∷ 0 ∷ 0 ∷ 0 ∷ 0 ∷ 0 ∷ 0 ∷ 0 ∷ 0 ∷ 0 ∷ 60
    ∷ []

pub record UnitSheets : Type 0 where
  pub best_lower_grade_holds : Graded best_lower_grade 4 137 best_lower_grade_results
  pub designated_c_failed_twice_holds : Graded designated_c_failed_twice 3 117 designated_c_failed_twice_results
  pub prerequisite_substandard_holds : Graded prerequisite_substandard 3 117 prerequisite_substandard_results
  pub prerequisites_of_two_failures_holds : Graded prerequisites_of_two_failures 3 117 prerequisites_of_two_failures_results
  pub total_alone_fails_holds : Graded total_alone_fails 3 121 total_alone_fails_results
  pub two_classes_fail_in_turn_holds : Graded two_classes_fail_in_turn 3 117 two_classes_fail_in_turn_results
  pub unit_that_meets_between_failures_holds : Graded unit_that_meets_between_failures 4 131 unit_that_meets_between_failures_results
  pub code_met_again_holds : Graded code_met_again 4 131 code_met_again_results
  pub start_equal_to_limit_holds : Graded start_equal_to_limit 2 103 start_equal_to_limit_results
  pub cusums_of_two_bytes_holds : Graded cusums_of_two_bytes 3 117 cusums_of_two_bytes_results
  pub largest_cusums_holds : Graded largest_cusums 3 117 largest_cusums_results
  pub p1_in_bytes_holds : Graded p1_in_bytes 5 145 p1_in_bytes_results

-- ---- units in step 3, its end and recovery

-- Unit 3 fails B and grades lower, here Substandard; its standing is 2, the plan in force stays B
-- and the CuSum is L of B. Unit 4 goes on from there.
unfoldable pub failure_in_step_three : List ℕ
failure_in_step_three =
    peach_plan
    ++ (0x53 ∷ 0x55 ∷ 0 ∷ 1 ∷ 0 ∷ 0 ∷ 0 ∷ 0 ∷ 0 ∷ 0 ∷ 0 ∷ 12 ∷ 0 ∷ 1  -- 1: 0,0,0,12;A;1
    ∷ 0x53 ∷ 0x55 ∷ 0 ∷ 2 ∷ 0 ∷ 0 ∷ 0 ∷ 0 ∷ 0 ∷ 0 ∷ 0 ∷ 12 ∷ 0 ∷ 1  -- 2: 0,0,0,12;A;1
    ∷ 0x53 ∷ 0x55 ∷ 0 ∷ 3 ∷ 0 ∷ 0 ∷ 0 ∷ 9 ∷ 0 ∷ 0 ∷ 0 ∷ 0 ∷ 0 ∷ 1  -- 3: 0,9,0,0;A;1
    ∷ 0x53 ∷ 0x55 ∷ 0 ∷ 4 ∷ 0 ∷ 0 ∷ 0 ∷ 3 ∷ 0 ∷ 0 ∷ 0 ∷ 0 ∷ 0 ∷ 1  -- 4: 0,3,0,0;A;1
    ∷ [])

unfoldable pub failure_in_step_three_results : List ℕ
failure_in_step_three_results =
    0x47 ∷ 0x52 ∷ 0 ∷ 1 ∷ 1 ∷ 1 ∷ 0 ∷ 1 ∷ 0 ∷ 0 ∷ 0 ∷ 0 ∷ 0 ∷ 0 ∷ 0 ∷ 40  -- 1 1 B B f A 0.0 0.0 0.0 4.0
    ∷ 0 ∷ 0 ∷ 0 ∷ 0 ∷ 0 ∷ 0 ∷ 0 ∷ 0 ∷ 0 ∷ 0 ∷ 0 ∷ 0 ∷ 0 ∷ 0 ∷ 0 ∷ 30
    ∷ 0x47 ∷ 0x52 ∷ 0 ∷ 2 ∷ 1 ∷ 1 ∷ 0 ∷ 1 ∷ 0 ∷ 0 ∷ 0 ∷ 0 ∷ 0 ∷ 0 ∷ 0 ∷ 40  -- 2 2 B B f A 0.0 0.0 0.0 4.0
    ∷ 0 ∷ 0 ∷ 0 ∷ 0 ∷ 0 ∷ 0 ∷ 0 ∷ 0 ∷ 0 ∷ 0 ∷ 0 ∷ 0 ∷ 0 ∷ 0 ∷ 0 ∷ 60
    ∷ 0x47 ∷ 0x52 ∷ 0 ∷ 3 ∷ 3 ∷ 3 ∷ 1 ∷ 2 ∷ 0 ∷ 0 ∷ 0 ∷ 30 ∷ 0 ∷ 0 ∷ 0 ∷ 0  -- 3 3 S S u B 0.0 3.0 0.0 0.0
    ∷ 0 ∷ 0 ∷ 0 ∷ 0 ∷ 0 ∷ 0 ∷ 0 ∷ 40 ∷ 0 ∷ 0 ∷ 0 ∷ 0 ∷ 0 ∷ 0 ∷ 0 ∷ 0
    ∷ 0x47 ∷ 0x52 ∷ 0 ∷ 4 ∷ 1 ∷ 1 ∷ 1 ∷ 2 ∷ 0 ∷ 0 ∷ 0 ∷ 30 ∷ 0 ∷ 0 ∷ 0 ∷ 0  -- 4 4 B B u B 0.0 3.0 0.0 0.0
    ∷ 0 ∷ 0 ∷ 0 ∷ 0 ∷ 0 ∷ 0 ∷ 0 ∷ 0 ∷ 0 ∷ 0 ∷ 0 ∷ 0 ∷ 0 ∷ 0 ∷ 0 ∷ 0
    ∷ []

-- Unit 4 fails B within the T+L of B. It grades lower than the plan in force, C, and not only
-- lower than the designated A.
unfoldable pub lower_than_plan_in_force : List ℕ
lower_than_plan_in_force =
    peach_plan
    ++ (0x53 ∷ 0x55 ∷ 0 ∷ 1 ∷ 0 ∷ 0 ∷ 0 ∷ 0 ∷ 0 ∷ 0 ∷ 0 ∷ 12 ∷ 0 ∷ 1  -- 1: 0,0,0,12;A;1
    ∷ 0x53 ∷ 0x55 ∷ 0 ∷ 2 ∷ 0 ∷ 0 ∷ 0 ∷ 0 ∷ 0 ∷ 0 ∷ 0 ∷ 12 ∷ 0 ∷ 1  -- 2: 0,0,0,12;A;1
    ∷ 0x53 ∷ 0x55 ∷ 0 ∷ 3 ∷ 0 ∷ 0 ∷ 0 ∷ 5 ∷ 0 ∷ 0 ∷ 0 ∷ 0 ∷ 0 ∷ 1  -- 3: 0,5,0,0;A;1
    ∷ 0x53 ∷ 0x55 ∷ 0 ∷ 4 ∷ 0 ∷ 0 ∷ 0 ∷ 5 ∷ 0 ∷ 0 ∷ 0 ∷ 0 ∷ 0 ∷ 1  -- 4: 0,5,0,0;A;1
    ∷ [])

unfoldable pub lower_than_plan_in_force_results : List ℕ
lower_than_plan_in_force_results =
    0x47 ∷ 0x52 ∷ 0 ∷ 1 ∷ 1 ∷ 1 ∷ 0 ∷ 1 ∷ 0 ∷ 0 ∷ 0 ∷ 0 ∷ 0 ∷ 0 ∷ 0 ∷ 40  -- 1 1 B B f A 0.0 0.0 0.0 4.0
    ∷ 0 ∷ 0 ∷ 0 ∷ 0 ∷ 0 ∷ 0 ∷ 0 ∷ 0 ∷ 0 ∷ 0 ∷ 0 ∷ 0 ∷ 0 ∷ 0 ∷ 0 ∷ 30
    ∷ 0x47 ∷ 0x52 ∷ 0 ∷ 2 ∷ 1 ∷ 1 ∷ 0 ∷ 1 ∷ 0 ∷ 0 ∷ 0 ∷ 0 ∷ 0 ∷ 0 ∷ 0 ∷ 40  -- 2 2 B B f A 0.0 0.0 0.0 4.0
    ∷ 0 ∷ 0 ∷ 0 ∷ 0 ∷ 0 ∷ 0 ∷ 0 ∷ 0 ∷ 0 ∷ 0 ∷ 0 ∷ 0 ∷ 0 ∷ 0 ∷ 0 ∷ 60
    ∷ 0x47 ∷ 0x52 ∷ 0 ∷ 3 ∷ 1 ∷ 1 ∷ 1 ∷ 2 ∷ 0 ∷ 0 ∷ 0 ∷ 30 ∷ 0 ∷ 0 ∷ 0 ∷ 0  -- 3 3 B B u B 0.0 3.0 0.0 0.0
    ∷ 0 ∷ 0 ∷ 0 ∷ 0 ∷ 0 ∷ 0 ∷ 0 ∷ 0 ∷ 0 ∷ 0 ∷ 0 ∷ 0 ∷ 0 ∷ 0 ∷ 0 ∷ 0
    ∷ 0x47 ∷ 0x52 ∷ 0 ∷ 4 ∷ 2 ∷ 2 ∷ 1 ∷ 2 ∷ 0 ∷ 0 ∷ 0 ∷ 30 ∷ 0 ∷ 0 ∷ 0 ∷ 0  -- 4 4 C C u B 0.0 3.0 0.0 0.0
    ∷ 0 ∷ 0 ∷ 0 ∷ 0 ∷ 0 ∷ 0 ∷ 0 ∷ 20 ∷ 0 ∷ 0 ∷ 0 ∷ 0 ∷ 0 ∷ 0 ∷ 0 ∷ 0
    ∷ []

-- Unit 4 has two severe defects, within the T of B and above that of A: it does not qualify, else
-- units 3 to 5 would be recovered and unit 6 be under A.
unfoldable pub above_tolerance : List ℕ
above_tolerance =
    peach_plan
    ++ (0x53 ∷ 0x55 ∷ 0 ∷ 1 ∷ 0 ∷ 0 ∷ 0 ∷ 0 ∷ 0 ∷ 0 ∷ 0 ∷ 12 ∷ 0 ∷ 1  -- 1: 0,0,0,12;A;1
    ∷ 0x53 ∷ 0x55 ∷ 0 ∷ 2 ∷ 0 ∷ 0 ∷ 0 ∷ 0 ∷ 0 ∷ 0 ∷ 0 ∷ 12 ∷ 0 ∷ 1  -- 2: 0,0,0,12;A;1
    ∷ 0x53 ∷ 0x55 ∷ 0 ∷ 3 ∷ 0 ∷ 0 ∷ 0 ∷ 0 ∷ 0 ∷ 1 ∷ 0 ∷ 2 ∷ 0 ∷ 1  -- 3: 0,0,1,2;A;1
    ∷ 0x53 ∷ 0x55 ∷ 0 ∷ 4 ∷ 0 ∷ 0 ∷ 0 ∷ 2 ∷ 0 ∷ 0 ∷ 0 ∷ 0 ∷ 0 ∷ 1  -- 4: 0,2,0,0;A;1
    ∷ 0x53 ∷ 0x55 ∷ 0 ∷ 5 ∷ 0 ∷ 0 ∷ 0 ∷ 0 ∷ 0 ∷ 1 ∷ 0 ∷ 2 ∷ 0 ∷ 1  -- 5: 0,0,1,2;A;1
    ∷ 0x53 ∷ 0x55 ∷ 0 ∷ 6 ∷ 0 ∷ 0 ∷ 0 ∷ 0 ∷ 0 ∷ 1 ∷ 0 ∷ 2 ∷ 0 ∷ 1  -- 6: 0,0,1,2;A;1
    ∷ [])

unfoldable pub above_tolerance_results : List ℕ
above_tolerance_results =
    0x47 ∷ 0x52 ∷ 0 ∷ 1 ∷ 1 ∷ 1 ∷ 0 ∷ 1 ∷ 0 ∷ 0 ∷ 0 ∷ 0 ∷ 0 ∷ 0 ∷ 0 ∷ 40  -- 1 1 B B f A 0.0 0.0 0.0 4.0
    ∷ 0 ∷ 0 ∷ 0 ∷ 0 ∷ 0 ∷ 0 ∷ 0 ∷ 0 ∷ 0 ∷ 0 ∷ 0 ∷ 0 ∷ 0 ∷ 0 ∷ 0 ∷ 30
    ∷ 0x47 ∷ 0x52 ∷ 0 ∷ 2 ∷ 1 ∷ 1 ∷ 0 ∷ 1 ∷ 0 ∷ 0 ∷ 0 ∷ 0 ∷ 0 ∷ 0 ∷ 0 ∷ 40  -- 2 2 B B f A 0.0 0.0 0.0 4.0
    ∷ 0 ∷ 0 ∷ 0 ∷ 0 ∷ 0 ∷ 0 ∷ 0 ∷ 0 ∷ 0 ∷ 0 ∷ 0 ∷ 0 ∷ 0 ∷ 0 ∷ 0 ∷ 60
    ∷ 0x47 ∷ 0x52 ∷ 0 ∷ 3 ∷ 1 ∷ 1 ∷ 1 ∷ 2 ∷ 0 ∷ 0 ∷ 0 ∷ 0 ∷ 0 ∷ 0 ∷ 0 ∷ 0  -- 3 3 B B u B 0.0 0.0 0.0 0.0
    ∷ 0 ∷ 0 ∷ 0 ∷ 0 ∷ 0 ∷ 0 ∷ 0 ∷ 0 ∷ 0 ∷ 0 ∷ 0 ∷ 0 ∷ 0 ∷ 0 ∷ 0 ∷ 0
    ∷ 0x47 ∷ 0x52 ∷ 0 ∷ 4 ∷ 1 ∷ 1 ∷ 1 ∷ 2 ∷ 0 ∷ 0 ∷ 0 ∷ 0 ∷ 0 ∷ 0 ∷ 0 ∷ 0  -- 4 4 B B u B 0.0 0.0 0.0 0.0
    ∷ 0 ∷ 0 ∷ 0 ∷ 0 ∷ 0 ∷ 0 ∷ 0 ∷ 0 ∷ 0 ∷ 0 ∷ 0 ∷ 0 ∷ 0 ∷ 0 ∷ 0 ∷ 0
    ∷ 0x47 ∷ 0x52 ∷ 0 ∷ 5 ∷ 1 ∷ 1 ∷ 1 ∷ 2 ∷ 0 ∷ 0 ∷ 0 ∷ 0 ∷ 0 ∷ 0 ∷ 0 ∷ 0  -- 5 5 B B u B 0.0 0.0 0.0 0.0
    ∷ 0 ∷ 0 ∷ 0 ∷ 0 ∷ 0 ∷ 0 ∷ 0 ∷ 0 ∷ 0 ∷ 0 ∷ 0 ∷ 0 ∷ 0 ∷ 0 ∷ 0 ∷ 0
    ∷ 0x47 ∷ 0x52 ∷ 0 ∷ 6 ∷ 1 ∷ 1 ∷ 1 ∷ 2 ∷ 0 ∷ 0 ∷ 0 ∷ 0 ∷ 0 ∷ 0 ∷ 0 ∷ 0  -- 6 6 B B u B 0.0 0.0 0.0 0.0
    ∷ 0 ∷ 0 ∷ 0 ∷ 0 ∷ 0 ∷ 0 ∷ 0 ∷ 0 ∷ 0 ∷ 0 ∷ 0 ∷ 0 ∷ 0 ∷ 0 ∷ 0 ∷ 0
    ∷ []

-- Unit 4 is within the T of A, but its CuSum in severe is 1.0: it does not qualify, else units 4
-- to 6 would be recovered.
unfoldable pub cusum_above_zero : List ℕ
cusum_above_zero =
    peach_plan
    ++ (0x53 ∷ 0x55 ∷ 0 ∷ 1 ∷ 0 ∷ 0 ∷ 0 ∷ 0 ∷ 0 ∷ 0 ∷ 0 ∷ 12 ∷ 0 ∷ 1  -- 1: 0,0,0,12;A;1
    ∷ 0x53 ∷ 0x55 ∷ 0 ∷ 2 ∷ 0 ∷ 0 ∷ 0 ∷ 0 ∷ 0 ∷ 0 ∷ 0 ∷ 12 ∷ 0 ∷ 1  -- 2: 0,0,0,12;A;1
    ∷ 0x53 ∷ 0x55 ∷ 0 ∷ 3 ∷ 0 ∷ 0 ∷ 0 ∷ 7 ∷ 0 ∷ 0 ∷ 0 ∷ 0 ∷ 0 ∷ 1  -- 3: 0,7,0,0;A;1
    ∷ 0x53 ∷ 0x55 ∷ 0 ∷ 4 ∷ 0 ∷ 0 ∷ 0 ∷ 1 ∷ 0 ∷ 0 ∷ 0 ∷ 0 ∷ 0 ∷ 1  -- 4: 0,1,0,0;A;1
    ∷ 0x53 ∷ 0x55 ∷ 0 ∷ 5 ∷ 0 ∷ 0 ∷ 0 ∷ 0 ∷ 0 ∷ 1 ∷ 0 ∷ 2 ∷ 0 ∷ 1  -- 5: 0,0,1,2;A;1
    ∷ 0x53 ∷ 0x55 ∷ 0 ∷ 6 ∷ 0 ∷ 0 ∷ 0 ∷ 0 ∷ 0 ∷ 1 ∷ 0 ∷ 2 ∷ 0 ∷ 1  -- 6: 0,0,1,2;A;1
    ∷ [])

unfoldable pub cusum_above_zero_results : List ℕ
cusum_above_zero_results =
    0x47 ∷ 0x52 ∷ 0 ∷ 1 ∷ 1 ∷ 1 ∷ 0 ∷ 1 ∷ 0 ∷ 0 ∷ 0 ∷ 0 ∷ 0 ∷ 0 ∷ 0 ∷ 40  -- 1 1 B B f A 0.0 0.0 0.0 4.0
    ∷ 0 ∷ 0 ∷ 0 ∷ 0 ∷ 0 ∷ 0 ∷ 0 ∷ 0 ∷ 0 ∷ 0 ∷ 0 ∷ 0 ∷ 0 ∷ 0 ∷ 0 ∷ 30
    ∷ 0x47 ∷ 0x52 ∷ 0 ∷ 2 ∷ 1 ∷ 1 ∷ 0 ∷ 1 ∷ 0 ∷ 0 ∷ 0 ∷ 0 ∷ 0 ∷ 0 ∷ 0 ∷ 40  -- 2 2 B B f A 0.0 0.0 0.0 4.0
    ∷ 0 ∷ 0 ∷ 0 ∷ 0 ∷ 0 ∷ 0 ∷ 0 ∷ 0 ∷ 0 ∷ 0 ∷ 0 ∷ 0 ∷ 0 ∷ 0 ∷ 0 ∷ 60
    ∷ 0x47 ∷ 0x52 ∷ 0 ∷ 3 ∷ 2 ∷ 2 ∷ 1 ∷ 2 ∷ 0 ∷ 0 ∷ 0 ∷ 30 ∷ 0 ∷ 0 ∷ 0 ∷ 0  -- 3 3 C C u B 0.0 3.0 0.0 0.0
    ∷ 0 ∷ 0 ∷ 0 ∷ 0 ∷ 0 ∷ 0 ∷ 0 ∷ 20 ∷ 0 ∷ 0 ∷ 0 ∷ 0 ∷ 0 ∷ 0 ∷ 0 ∷ 0
    ∷ 0x47 ∷ 0x52 ∷ 0 ∷ 4 ∷ 1 ∷ 1 ∷ 1 ∷ 2 ∷ 0 ∷ 0 ∷ 0 ∷ 10 ∷ 0 ∷ 0 ∷ 0 ∷ 0  -- 4 4 B B u B 0.0 1.0 0.0 0.0
    ∷ 0 ∷ 0 ∷ 0 ∷ 0 ∷ 0 ∷ 0 ∷ 0 ∷ 0 ∷ 0 ∷ 0 ∷ 0 ∷ 0 ∷ 0 ∷ 0 ∷ 0 ∷ 0
    ∷ 0x47 ∷ 0x52 ∷ 0 ∷ 5 ∷ 1 ∷ 1 ∷ 1 ∷ 2 ∷ 0 ∷ 0 ∷ 0 ∷ 0 ∷ 0 ∷ 0 ∷ 0 ∷ 0  -- 5 5 B B u B 0.0 0.0 0.0 0.0
    ∷ 0 ∷ 0 ∷ 0 ∷ 0 ∷ 0 ∷ 0 ∷ 0 ∷ 0 ∷ 0 ∷ 0 ∷ 0 ∷ 0 ∷ 0 ∷ 0 ∷ 0 ∷ 0
    ∷ 0x47 ∷ 0x52 ∷ 0 ∷ 6 ∷ 1 ∷ 1 ∷ 1 ∷ 2 ∷ 0 ∷ 0 ∷ 0 ∷ 0 ∷ 0 ∷ 0 ∷ 0 ∷ 0  -- 6 6 B B u B 0.0 0.0 0.0 0.0
    ∷ 0 ∷ 0 ∷ 0 ∷ 0 ∷ 0 ∷ 0 ∷ 0 ∷ 0 ∷ 0 ∷ 0 ∷ 0 ∷ 0 ∷ 0 ∷ 0 ∷ 0 ∷ 0
    ∷ []

-- Unit 3 gets its prerequisite B, which is worse than A; unit 4, out of reach, keeps C and
-- standing 2; unit 5 gets A. Codes are graded after that: code 3 grades B, code 4 C.
unfoldable pub recovery : List ℕ
recovery =
    peach_plan
    ++ (0x53 ∷ 0x55 ∷ 0 ∷ 1 ∷ 0 ∷ 0 ∷ 0 ∷ 0 ∷ 0 ∷ 0 ∷ 0 ∷ 12 ∷ 0 ∷ 1  -- 1: 0,0,0,12;A;1
    ∷ 0x53 ∷ 0x55 ∷ 0 ∷ 2 ∷ 0 ∷ 0 ∷ 0 ∷ 0 ∷ 0 ∷ 0 ∷ 0 ∷ 18 ∷ 0 ∷ 1  -- 2: 0,0,0,18;A;1
    ∷ 0x53 ∷ 0x55 ∷ 0 ∷ 3 ∷ 0 ∷ 0 ∷ 0 ∷ 0 ∷ 0 ∷ 1 ∷ 0 ∷ 2 ∷ 1 ∷ 1  -- 3: 0,0,1,2;B;1
    ∷ 0x53 ∷ 0x55 ∷ 0 ∷ 4 ∷ 0 ∷ 0 ∷ 0 ∷ 0 ∷ 0 ∷ 1 ∷ 0 ∷ 2 ∷ 0 ∷ 0  -- 4: 0,0,1,2;A;0
    ∷ 0x53 ∷ 0x55 ∷ 0 ∷ 4 ∷ 0 ∷ 0 ∷ 0 ∷ 0 ∷ 0 ∷ 1 ∷ 0 ∷ 2 ∷ 0 ∷ 1  -- 4: 0,0,1,2;A;1
    ∷ 0x53 ∷ 0x55 ∷ 0 ∷ 3 ∷ 0 ∷ 0 ∷ 0 ∷ 0 ∷ 0 ∷ 1 ∷ 0 ∷ 2 ∷ 0 ∷ 1  -- 3: 0,0,1,2;A;1
    ∷ [])

unfoldable pub recovery_results : List ℕ
recovery_results =
    0x47 ∷ 0x52 ∷ 0 ∷ 1 ∷ 1 ∷ 1 ∷ 0 ∷ 1 ∷ 0 ∷ 0 ∷ 0 ∷ 0 ∷ 0 ∷ 0 ∷ 0 ∷ 40  -- 1 1 B B f A 0.0 0.0 0.0 4.0
    ∷ 0 ∷ 0 ∷ 0 ∷ 0 ∷ 0 ∷ 0 ∷ 0 ∷ 0 ∷ 0 ∷ 0 ∷ 0 ∷ 0 ∷ 0 ∷ 0 ∷ 0 ∷ 30
    ∷ 0x47 ∷ 0x52 ∷ 0 ∷ 2 ∷ 2 ∷ 2 ∷ 0 ∷ 1 ∷ 0 ∷ 0 ∷ 0 ∷ 0 ∷ 0 ∷ 0 ∷ 0 ∷ 40  -- 2 2 C C f A 0.0 0.0 0.0 4.0
    ∷ 0 ∷ 0 ∷ 0 ∷ 0 ∷ 0 ∷ 0 ∷ 0 ∷ 0 ∷ 0 ∷ 0 ∷ 0 ∷ 0 ∷ 0 ∷ 0 ∷ 0 ∷ 120
    ∷ 0x47 ∷ 0x52 ∷ 0 ∷ 3 ∷ 1 ∷ 1 ∷ 2 ∷ 3 ∷ 0 ∷ 0 ∷ 0 ∷ 0 ∷ 0 ∷ 0 ∷ 0 ∷ 0  -- 3 3 B B r C 0.0 0.0 0.0 0.0
    ∷ 0 ∷ 0 ∷ 0 ∷ 0 ∷ 0 ∷ 0 ∷ 0 ∷ 0 ∷ 0 ∷ 0 ∷ 0 ∷ 0 ∷ 0 ∷ 0 ∷ 0 ∷ 0
    ∷ 0x47 ∷ 0x52 ∷ 0 ∷ 4 ∷ 2 ∷ 2 ∷ 2 ∷ 2 ∷ 0 ∷ 0 ∷ 0 ∷ 0 ∷ 0 ∷ 0 ∷ 0 ∷ 0  -- 4 4 C C u C 0.0 0.0 0.0 0.0
    ∷ 0 ∷ 0 ∷ 0 ∷ 0 ∷ 0 ∷ 0 ∷ 0 ∷ 0 ∷ 0 ∷ 0 ∷ 0 ∷ 0 ∷ 0 ∷ 0 ∷ 0 ∷ 0
    ∷ 0x47 ∷ 0x52 ∷ 0 ∷ 4 ∷ 0 ∷ 2 ∷ 2 ∷ 3 ∷ 0 ∷ 0 ∷ 0 ∷ 0 ∷ 0 ∷ 0 ∷ 0 ∷ 0  -- 5 4 A C r C 0.0 0.0 0.0 0.0
    ∷ 0 ∷ 0 ∷ 0 ∷ 0 ∷ 0 ∷ 0 ∷ 0 ∷ 0 ∷ 0 ∷ 0 ∷ 0 ∷ 0 ∷ 0 ∷ 0 ∷ 0 ∷ 0
    ∷ 0x47 ∷ 0x52 ∷ 0 ∷ 3 ∷ 0 ∷ 1 ∷ 0 ∷ 0 ∷ 0 ∷ 0 ∷ 0 ∷ 0 ∷ 0 ∷ 0 ∷ 0 ∷ 0  -- 6 3 A B m A 0.0 0.0 0.0 0.0
    ∷ 0 ∷ 0 ∷ 0 ∷ 0 ∷ 0 ∷ 0 ∷ 0 ∷ 0 ∷ 0 ∷ 0 ∷ 0 ∷ 0 ∷ 0 ∷ 0 ∷ 0 ∷ 0
    ∷ []

-- Without a plan CuSums are taken as zero. Unit 3 is above the T of A in severe and does not
-- qualify; units 4 and 5 are at it in major and total. Unit 7 starts A at S.
unfoldable pub recovery_without_plan : List ℕ
recovery_without_plan =
    peach_plan
    ++ (0x53 ∷ 0x55 ∷ 0 ∷ 1 ∷ 0 ∷ 5 ∷ 0 ∷ 0 ∷ 0 ∷ 0 ∷ 0 ∷ 0 ∷ 0 ∷ 1  -- 1: 5,0,0,0;A;1
    ∷ 0x53 ∷ 0x55 ∷ 0 ∷ 2 ∷ 0 ∷ 5 ∷ 0 ∷ 0 ∷ 0 ∷ 0 ∷ 0 ∷ 0 ∷ 0 ∷ 1  -- 2: 5,0,0,0;A;1
    ∷ 0x53 ∷ 0x55 ∷ 0 ∷ 3 ∷ 0 ∷ 0 ∷ 0 ∷ 2 ∷ 0 ∷ 0 ∷ 0 ∷ 0 ∷ 0 ∷ 1  -- 3: 0,2,0,0;A;1
    ∷ 0x53 ∷ 0x55 ∷ 0 ∷ 4 ∷ 0 ∷ 0 ∷ 0 ∷ 1 ∷ 0 ∷ 3 ∷ 0 ∷ 2 ∷ 0 ∷ 1  -- 4: 0,1,3,2;A;1
    ∷ 0x53 ∷ 0x55 ∷ 0 ∷ 5 ∷ 0 ∷ 0 ∷ 0 ∷ 1 ∷ 0 ∷ 3 ∷ 0 ∷ 2 ∷ 0 ∷ 1  -- 5: 0,1,3,2;A;1
    ∷ 0x53 ∷ 0x55 ∷ 0 ∷ 6 ∷ 0 ∷ 0 ∷ 0 ∷ 0 ∷ 0 ∷ 1 ∷ 0 ∷ 2 ∷ 0 ∷ 1  -- 6: 0,0,1,2;A;1
    ∷ 0x53 ∷ 0x55 ∷ 0 ∷ 7 ∷ 0 ∷ 0 ∷ 0 ∷ 1 ∷ 0 ∷ 3 ∷ 0 ∷ 3 ∷ 0 ∷ 1  -- 7: 0,1,3,3;A;1
    ∷ [])

unfoldable pub recovery_without_plan_results : List ℕ
recovery_without_plan_results =
    0x47 ∷ 0x52 ∷ 0 ∷ 1 ∷ 3 ∷ 3 ∷ 0 ∷ 1 ∷ 0 ∷ 5 ∷ 0 ∷ 0 ∷ 0 ∷ 0 ∷ 0 ∷ 0  -- 1 1 S S f A 0.5 0.0 0.0 0.0
    ∷ 0 ∷ 0 ∷ 0 ∷ 40 ∷ 0 ∷ 0 ∷ 0 ∷ 0 ∷ 0 ∷ 0 ∷ 0 ∷ 0 ∷ 0 ∷ 0 ∷ 0 ∷ 0
    ∷ 0x47 ∷ 0x52 ∷ 0 ∷ 2 ∷ 3 ∷ 3 ∷ 0 ∷ 1 ∷ 0 ∷ 5 ∷ 0 ∷ 0 ∷ 0 ∷ 0 ∷ 0 ∷ 0  -- 2 2 S S f A 0.5 0.0 0.0 0.0
    ∷ 0 ∷ 0 ∷ 0 ∷ 45 ∷ 0 ∷ 0 ∷ 0 ∷ 0 ∷ 0 ∷ 0 ∷ 0 ∷ 0 ∷ 0 ∷ 0 ∷ 0 ∷ 0
    ∷ 0x47 ∷ 0x52 ∷ 0 ∷ 3 ∷ 3 ∷ 3 ∷ 3 ∷ 2 ∷ 0 ∷ 0 ∷ 0 ∷ 0 ∷ 0 ∷ 0 ∷ 0 ∷ 0  -- 3 3 S S u S 0.0 0.0 0.0 0.0
    ∷ 0 ∷ 0 ∷ 0 ∷ 0 ∷ 0 ∷ 0 ∷ 0 ∷ 0 ∷ 0 ∷ 0 ∷ 0 ∷ 0 ∷ 0 ∷ 0 ∷ 0 ∷ 0
    ∷ 0x47 ∷ 0x52 ∷ 0 ∷ 4 ∷ 0 ∷ 0 ∷ 3 ∷ 3 ∷ 0 ∷ 0 ∷ 0 ∷ 0 ∷ 0 ∷ 0 ∷ 0 ∷ 0  -- 4 4 A A r S 0.0 0.0 0.0 0.0
    ∷ 0 ∷ 0 ∷ 0 ∷ 0 ∷ 0 ∷ 0 ∷ 0 ∷ 0 ∷ 0 ∷ 0 ∷ 0 ∷ 0 ∷ 0 ∷ 0 ∷ 0 ∷ 0
    ∷ 0x47 ∷ 0x52 ∷ 0 ∷ 5 ∷ 0 ∷ 0 ∷ 3 ∷ 3 ∷ 0 ∷ 0 ∷ 0 ∷ 0 ∷ 0 ∷ 0 ∷ 0 ∷ 0  -- 5 5 A A r S 0.0 0.0 0.0 0.0
    ∷ 0 ∷ 0 ∷ 0 ∷ 0 ∷ 0 ∷ 0 ∷ 0 ∷ 0 ∷ 0 ∷ 0 ∷ 0 ∷ 0 ∷ 0 ∷ 0 ∷ 0 ∷ 0
    ∷ 0x47 ∷ 0x52 ∷ 0 ∷ 6 ∷ 0 ∷ 0 ∷ 3 ∷ 3 ∷ 0 ∷ 0 ∷ 0 ∷ 0 ∷ 0 ∷ 0 ∷ 0 ∷ 0  -- 6 6 A A r S 0.0 0.0 0.0 0.0
    ∷ 0 ∷ 0 ∷ 0 ∷ 0 ∷ 0 ∷ 0 ∷ 0 ∷ 0 ∷ 0 ∷ 0 ∷ 0 ∷ 0 ∷ 0 ∷ 0 ∷ 0 ∷ 0
    ∷ 0x47 ∷ 0x52 ∷ 0 ∷ 7 ∷ 0 ∷ 0 ∷ 0 ∷ 0 ∷ 0 ∷ 0 ∷ 0 ∷ 0 ∷ 0 ∷ 10 ∷ 0 ∷ 20  -- 7 7 A A m A 0.0 0.0 1.0 2.0
    ∷ 0 ∷ 0 ∷ 0 ∷ 0 ∷ 0 ∷ 0 ∷ 0 ∷ 0 ∷ 0 ∷ 0 ∷ 0 ∷ 0 ∷ 0 ∷ 0 ∷ 0 ∷ 0
    ∷ []

-- The designated plan starts at S, not at the zeros of unit 5, and unit 6 is a first failure:
-- unit 7 is under A.
unfoldable pub after_step_three : List ℕ
after_step_three =
    peach_plan
    ++ (0x53 ∷ 0x55 ∷ 0 ∷ 1 ∷ 0 ∷ 0 ∷ 0 ∷ 0 ∷ 0 ∷ 0 ∷ 0 ∷ 12 ∷ 0 ∷ 1  -- 1: 0,0,0,12;A;1
    ∷ 0x53 ∷ 0x55 ∷ 0 ∷ 2 ∷ 0 ∷ 0 ∷ 0 ∷ 0 ∷ 0 ∷ 0 ∷ 0 ∷ 12 ∷ 0 ∷ 1  -- 2: 0,0,0,12;A;1
    ∷ 0x53 ∷ 0x55 ∷ 0 ∷ 3 ∷ 0 ∷ 0 ∷ 0 ∷ 0 ∷ 0 ∷ 1 ∷ 0 ∷ 2 ∷ 0 ∷ 1  -- 3: 0,0,1,2;A;1
    ∷ 0x53 ∷ 0x55 ∷ 0 ∷ 4 ∷ 0 ∷ 0 ∷ 0 ∷ 0 ∷ 0 ∷ 1 ∷ 0 ∷ 2 ∷ 0 ∷ 1  -- 4: 0,0,1,2;A;1
    ∷ 0x53 ∷ 0x55 ∷ 0 ∷ 5 ∷ 0 ∷ 0 ∷ 0 ∷ 0 ∷ 0 ∷ 1 ∷ 0 ∷ 2 ∷ 0 ∷ 1  -- 5: 0,0,1,2;A;1
    ∷ 0x53 ∷ 0x55 ∷ 0 ∷ 6 ∷ 0 ∷ 0 ∷ 0 ∷ 1 ∷ 0 ∷ 3 ∷ 0 ∷ 9 ∷ 0 ∷ 1  -- 6: 0,1,3,9;A;1
    ∷ 0x53 ∷ 0x55 ∷ 0 ∷ 7 ∷ 0 ∷ 0 ∷ 0 ∷ 0 ∷ 0 ∷ 3 ∷ 0 ∷ 3 ∷ 0 ∷ 1  -- 7: 0,0,3,3;A;1
    ∷ [])

unfoldable pub after_step_three_results : List ℕ
after_step_three_results =
    0x47 ∷ 0x52 ∷ 0 ∷ 1 ∷ 1 ∷ 1 ∷ 0 ∷ 1 ∷ 0 ∷ 0 ∷ 0 ∷ 0 ∷ 0 ∷ 0 ∷ 0 ∷ 40  -- 1 1 B B f A 0.0 0.0 0.0 4.0
    ∷ 0 ∷ 0 ∷ 0 ∷ 0 ∷ 0 ∷ 0 ∷ 0 ∷ 0 ∷ 0 ∷ 0 ∷ 0 ∷ 0 ∷ 0 ∷ 0 ∷ 0 ∷ 30
    ∷ 0x47 ∷ 0x52 ∷ 0 ∷ 2 ∷ 1 ∷ 1 ∷ 0 ∷ 1 ∷ 0 ∷ 0 ∷ 0 ∷ 0 ∷ 0 ∷ 0 ∷ 0 ∷ 40  -- 2 2 B B f A 0.0 0.0 0.0 4.0
    ∷ 0 ∷ 0 ∷ 0 ∷ 0 ∷ 0 ∷ 0 ∷ 0 ∷ 0 ∷ 0 ∷ 0 ∷ 0 ∷ 0 ∷ 0 ∷ 0 ∷ 0 ∷ 60
    ∷ 0x47 ∷ 0x52 ∷ 0 ∷ 3 ∷ 0 ∷ 0 ∷ 1 ∷ 3 ∷ 0 ∷ 0 ∷ 0 ∷ 0 ∷ 0 ∷ 0 ∷ 0 ∷ 0  -- 3 3 A A r B 0.0 0.0 0.0 0.0
    ∷ 0 ∷ 0 ∷ 0 ∷ 0 ∷ 0 ∷ 0 ∷ 0 ∷ 0 ∷ 0 ∷ 0 ∷ 0 ∷ 0 ∷ 0 ∷ 0 ∷ 0 ∷ 0
    ∷ 0x47 ∷ 0x52 ∷ 0 ∷ 4 ∷ 0 ∷ 0 ∷ 1 ∷ 3 ∷ 0 ∷ 0 ∷ 0 ∷ 0 ∷ 0 ∷ 0 ∷ 0 ∷ 0  -- 4 4 A A r B 0.0 0.0 0.0 0.0
    ∷ 0 ∷ 0 ∷ 0 ∷ 0 ∷ 0 ∷ 0 ∷ 0 ∷ 0 ∷ 0 ∷ 0 ∷ 0 ∷ 0 ∷ 0 ∷ 0 ∷ 0 ∷ 0
    ∷ 0x47 ∷ 0x52 ∷ 0 ∷ 5 ∷ 0 ∷ 0 ∷ 1 ∷ 3 ∷ 0 ∷ 0 ∷ 0 ∷ 0 ∷ 0 ∷ 0 ∷ 0 ∷ 0  -- 5 5 A A r B 0.0 0.0 0.0 0.0
    ∷ 0 ∷ 0 ∷ 0 ∷ 0 ∷ 0 ∷ 0 ∷ 0 ∷ 0 ∷ 0 ∷ 0 ∷ 0 ∷ 0 ∷ 0 ∷ 0 ∷ 0 ∷ 0
    ∷ 0x47 ∷ 0x52 ∷ 0 ∷ 6 ∷ 1 ∷ 1 ∷ 0 ∷ 1 ∷ 0 ∷ 0 ∷ 0 ∷ 0 ∷ 0 ∷ 10 ∷ 0 ∷ 40  -- 6 6 B B f A 0.0 0.0 1.0 4.0
    ∷ 0 ∷ 0 ∷ 0 ∷ 0 ∷ 0 ∷ 0 ∷ 0 ∷ 0 ∷ 0 ∷ 0 ∷ 0 ∷ 0 ∷ 0 ∷ 0 ∷ 0 ∷ 40
    ∷ 0x47 ∷ 0x52 ∷ 0 ∷ 7 ∷ 0 ∷ 0 ∷ 0 ∷ 0 ∷ 0 ∷ 0 ∷ 0 ∷ 0 ∷ 0 ∷ 10 ∷ 0 ∷ 40  -- 7 7 A A m A 0.0 0.0 1.0 4.0
    ∷ 0 ∷ 0 ∷ 0 ∷ 0 ∷ 0 ∷ 0 ∷ 0 ∷ 0 ∷ 0 ∷ 0 ∷ 0 ∷ 0 ∷ 0 ∷ 0 ∷ 0 ∷ 0
    ∷ []

-- In the class total, with minor defects alone. P7: 1.5/1.5/3, counts 1,4,3: 1, 3 (fails), 3
-- (fails). P8: then 2,2,1,1,1 at lower plan 1/3/3 are all zero; the last three qualify, since 2 is
-- above 1.5.
-- The peach plan, but total at A 1.5/1.5/3, total at B 1/3/3.
unfoldable pub p7_and_p8_in_bytes : List ℕ
p7_and_p8_in_bytes =
    set (set (set (set (set (set peach_plan 22 15) 24 15) 26 30) 46 10) 48 30) 50 30
    ++ (0x53 ∷ 0x55 ∷ 0 ∷ 1 ∷ 0 ∷ 0 ∷ 0 ∷ 0 ∷ 0 ∷ 0 ∷ 0 ∷ 1 ∷ 0 ∷ 1  -- 1: 0,0,0,1;A;1
    ∷ 0x53 ∷ 0x55 ∷ 0 ∷ 2 ∷ 0 ∷ 0 ∷ 0 ∷ 0 ∷ 0 ∷ 0 ∷ 0 ∷ 4 ∷ 0 ∷ 1  -- 2: 0,0,0,4;A;1
    ∷ 0x53 ∷ 0x55 ∷ 0 ∷ 3 ∷ 0 ∷ 0 ∷ 0 ∷ 0 ∷ 0 ∷ 0 ∷ 0 ∷ 3 ∷ 0 ∷ 1  -- 3: 0,0,0,3;A;1
    ∷ 0x53 ∷ 0x55 ∷ 0 ∷ 4 ∷ 0 ∷ 0 ∷ 0 ∷ 0 ∷ 0 ∷ 0 ∷ 0 ∷ 2 ∷ 0 ∷ 1  -- 4: 0,0,0,2;A;1
    ∷ 0x53 ∷ 0x55 ∷ 0 ∷ 5 ∷ 0 ∷ 0 ∷ 0 ∷ 0 ∷ 0 ∷ 0 ∷ 0 ∷ 2 ∷ 0 ∷ 1  -- 5: 0,0,0,2;A;1
    ∷ 0x53 ∷ 0x55 ∷ 0 ∷ 6 ∷ 0 ∷ 0 ∷ 0 ∷ 0 ∷ 0 ∷ 0 ∷ 0 ∷ 1 ∷ 0 ∷ 1  -- 6: 0,0,0,1;A;1
    ∷ 0x53 ∷ 0x55 ∷ 0 ∷ 7 ∷ 0 ∷ 0 ∷ 0 ∷ 0 ∷ 0 ∷ 0 ∷ 0 ∷ 1 ∷ 0 ∷ 1  -- 7: 0,0,0,1;A;1
    ∷ 0x53 ∷ 0x55 ∷ 0 ∷ 8 ∷ 0 ∷ 0 ∷ 0 ∷ 0 ∷ 0 ∷ 0 ∷ 0 ∷ 1 ∷ 0 ∷ 1  -- 8: 0,0,0,1;A;1
    ∷ [])

unfoldable pub p7_and_p8_in_bytes_results : List ℕ
p7_and_p8_in_bytes_results =
    0x47 ∷ 0x52 ∷ 0 ∷ 1 ∷ 0 ∷ 0 ∷ 0 ∷ 0 ∷ 0 ∷ 0 ∷ 0 ∷ 0 ∷ 0 ∷ 0 ∷ 0 ∷ 10  -- 1 1 A A m A 0.0 0.0 0.0 1.0
    ∷ 0 ∷ 0 ∷ 0 ∷ 0 ∷ 0 ∷ 0 ∷ 0 ∷ 0 ∷ 0 ∷ 0 ∷ 0 ∷ 0 ∷ 0 ∷ 0 ∷ 0 ∷ 0
    ∷ 0x47 ∷ 0x52 ∷ 0 ∷ 2 ∷ 1 ∷ 1 ∷ 0 ∷ 1 ∷ 0 ∷ 0 ∷ 0 ∷ 0 ∷ 0 ∷ 0 ∷ 0 ∷ 30  -- 2 2 B B f A 0.0 0.0 0.0 3.0
    ∷ 0 ∷ 0 ∷ 0 ∷ 0 ∷ 0 ∷ 0 ∷ 0 ∷ 0 ∷ 0 ∷ 0 ∷ 0 ∷ 0 ∷ 0 ∷ 0 ∷ 0 ∷ 5
    ∷ 0x47 ∷ 0x52 ∷ 0 ∷ 3 ∷ 1 ∷ 1 ∷ 0 ∷ 1 ∷ 0 ∷ 0 ∷ 0 ∷ 0 ∷ 0 ∷ 0 ∷ 0 ∷ 30  -- 3 3 B B f A 0.0 0.0 0.0 3.0
    ∷ 0 ∷ 0 ∷ 0 ∷ 0 ∷ 0 ∷ 0 ∷ 0 ∷ 0 ∷ 0 ∷ 0 ∷ 0 ∷ 0 ∷ 0 ∷ 0 ∷ 0 ∷ 15
    ∷ 0x47 ∷ 0x52 ∷ 0 ∷ 4 ∷ 1 ∷ 1 ∷ 1 ∷ 2 ∷ 0 ∷ 0 ∷ 0 ∷ 0 ∷ 0 ∷ 0 ∷ 0 ∷ 0  -- 4 4 B B u B 0.0 0.0 0.0 0.0
    ∷ 0 ∷ 0 ∷ 0 ∷ 0 ∷ 0 ∷ 0 ∷ 0 ∷ 0 ∷ 0 ∷ 0 ∷ 0 ∷ 0 ∷ 0 ∷ 0 ∷ 0 ∷ 0
    ∷ 0x47 ∷ 0x52 ∷ 0 ∷ 5 ∷ 1 ∷ 1 ∷ 1 ∷ 2 ∷ 0 ∷ 0 ∷ 0 ∷ 0 ∷ 0 ∷ 0 ∷ 0 ∷ 0  -- 5 5 B B u B 0.0 0.0 0.0 0.0
    ∷ 0 ∷ 0 ∷ 0 ∷ 0 ∷ 0 ∷ 0 ∷ 0 ∷ 0 ∷ 0 ∷ 0 ∷ 0 ∷ 0 ∷ 0 ∷ 0 ∷ 0 ∷ 0
    ∷ 0x47 ∷ 0x52 ∷ 0 ∷ 6 ∷ 0 ∷ 0 ∷ 1 ∷ 3 ∷ 0 ∷ 0 ∷ 0 ∷ 0 ∷ 0 ∷ 0 ∷ 0 ∷ 0  -- 6 6 A A r B 0.0 0.0 0.0 0.0
    ∷ 0 ∷ 0 ∷ 0 ∷ 0 ∷ 0 ∷ 0 ∷ 0 ∷ 0 ∷ 0 ∷ 0 ∷ 0 ∷ 0 ∷ 0 ∷ 0 ∷ 0 ∷ 0
    ∷ 0x47 ∷ 0x52 ∷ 0 ∷ 7 ∷ 0 ∷ 0 ∷ 1 ∷ 3 ∷ 0 ∷ 0 ∷ 0 ∷ 0 ∷ 0 ∷ 0 ∷ 0 ∷ 0  -- 7 7 A A r B 0.0 0.0 0.0 0.0
    ∷ 0 ∷ 0 ∷ 0 ∷ 0 ∷ 0 ∷ 0 ∷ 0 ∷ 0 ∷ 0 ∷ 0 ∷ 0 ∷ 0 ∷ 0 ∷ 0 ∷ 0 ∷ 0
    ∷ 0x47 ∷ 0x52 ∷ 0 ∷ 8 ∷ 0 ∷ 0 ∷ 1 ∷ 3 ∷ 0 ∷ 0 ∷ 0 ∷ 0 ∷ 0 ∷ 0 ∷ 0 ∷ 0  -- 8 8 A A r B 0.0 0.0 0.0 0.0
    ∷ 0 ∷ 0 ∷ 0 ∷ 0 ∷ 0 ∷ 0 ∷ 0 ∷ 0 ∷ 0 ∷ 0 ∷ 0 ∷ 0 ∷ 0 ∷ 0 ∷ 0 ∷ 0
    ∷ []

pub record StepThreeSheets : Type 0 where
  pub failure_in_step_three_holds : Graded failure_in_step_three 4 131 failure_in_step_three_results
  pub lower_than_plan_in_force_holds : Graded lower_than_plan_in_force 4 131 lower_than_plan_in_force_results
  pub above_tolerance_holds : Graded above_tolerance 6 159 above_tolerance_results
  pub cusum_above_zero_holds : Graded cusum_above_zero 6 159 cusum_above_zero_results
  pub recovery : Graded recovery 6 159 recovery_results
  pub recovery_without_plan_holds : Graded recovery_without_plan 7 173 recovery_without_plan_results
  pub after_step_three_holds : Graded after_step_three 7 173 after_step_three_results
  pub p7_and_p8_in_bytes_holds : Graded p7_and_p8_in_bytes 8 187 p7_and_p8_in_bytes_results

-- ---- two units in a row that fail the lower plan, and failures that are not two in a row

-- Units 3 and 4 fail B and grade C, the new lower grade. Unit 5 starts from S of C: in total,
-- 2+25-17-7 = 3.0, it would be over by 6.0 from the L of B, and from that of C by 8.0, as unit 6
-- is; in critical, 1+4-2-2 = 1.0, it would meet from the S of B; in major, 1+7-6 = 2.0, it would be
-- 1.0 from zero. Both fail C: unit 7 has no plan and is not over.
unfoldable pub every_lower_plan : List ℕ
every_lower_plan =
    peach_plan
    ++ (0x53 ∷ 0x55 ∷ 0 ∷ 1 ∷ 0 ∷ 0 ∷ 0 ∷ 0 ∷ 0 ∷ 0 ∷ 0 ∷ 12 ∷ 0 ∷ 1  -- 1: 0,0,0,12;A;1
    ∷ 0x53 ∷ 0x55 ∷ 0 ∷ 2 ∷ 0 ∷ 0 ∷ 0 ∷ 0 ∷ 0 ∷ 0 ∷ 0 ∷ 12 ∷ 0 ∷ 1  -- 2: 0,0,0,12;A;1
    ∷ 0x53 ∷ 0x55 ∷ 0 ∷ 3 ∷ 0 ∷ 0 ∷ 0 ∷ 0 ∷ 0 ∷ 0 ∷ 0 ∷ 18 ∷ 0 ∷ 1  -- 3: 0,0,0,18;A;1
    ∷ 0x53 ∷ 0x55 ∷ 0 ∷ 4 ∷ 0 ∷ 0 ∷ 0 ∷ 0 ∷ 0 ∷ 0 ∷ 0 ∷ 18 ∷ 0 ∷ 1  -- 4: 0,0,0,18;A;1
    ∷ 0x53 ∷ 0x55 ∷ 0 ∷ 5 ∷ 0 ∷ 4 ∷ 0 ∷ 0 ∷ 0 ∷ 7 ∷ 0 ∷ 14 ∷ 0 ∷ 1  -- 5: 4,0,7,14;A;1
    ∷ 0x53 ∷ 0x55 ∷ 0 ∷ 6 ∷ 0 ∷ 0 ∷ 0 ∷ 0 ∷ 0 ∷ 0 ∷ 0 ∷ 25 ∷ 0 ∷ 1  -- 6: 0,0,0,25;A;1
    ∷ 0x53 ∷ 0x55 ∷ 0 ∷ 7 ∷ 0 ∷ 0 ∷ 0 ∷ 0 ∷ 0 ∷ 0 ∷ 0 ∷ 25 ∷ 0 ∷ 1  -- 7: 0,0,0,25;A;1
    ∷ [])

unfoldable pub every_lower_plan_results : List ℕ
every_lower_plan_results =
    0x47 ∷ 0x52 ∷ 0 ∷ 1 ∷ 1 ∷ 1 ∷ 0 ∷ 1 ∷ 0 ∷ 0 ∷ 0 ∷ 0 ∷ 0 ∷ 0 ∷ 0 ∷ 40  -- 1 1 B B f A 0.0 0.0 0.0 4.0
    ∷ 0 ∷ 0 ∷ 0 ∷ 0 ∷ 0 ∷ 0 ∷ 0 ∷ 0 ∷ 0 ∷ 0 ∷ 0 ∷ 0 ∷ 0 ∷ 0 ∷ 0 ∷ 30
    ∷ 0x47 ∷ 0x52 ∷ 0 ∷ 2 ∷ 1 ∷ 1 ∷ 0 ∷ 1 ∷ 0 ∷ 0 ∷ 0 ∷ 0 ∷ 0 ∷ 0 ∷ 0 ∷ 40  -- 2 2 B B f A 0.0 0.0 0.0 4.0
    ∷ 0 ∷ 0 ∷ 0 ∷ 0 ∷ 0 ∷ 0 ∷ 0 ∷ 0 ∷ 0 ∷ 0 ∷ 0 ∷ 0 ∷ 0 ∷ 0 ∷ 0 ∷ 60
    ∷ 0x47 ∷ 0x52 ∷ 0 ∷ 3 ∷ 2 ∷ 2 ∷ 1 ∷ 2 ∷ 0 ∷ 0 ∷ 0 ∷ 0 ∷ 0 ∷ 0 ∷ 0 ∷ 50  -- 3 3 C C u B 0.0 0.0 0.0 5.0
    ∷ 0 ∷ 0 ∷ 0 ∷ 0 ∷ 0 ∷ 0 ∷ 0 ∷ 0 ∷ 0 ∷ 0 ∷ 0 ∷ 0 ∷ 0 ∷ 0 ∷ 0 ∷ 30
    ∷ 0x47 ∷ 0x52 ∷ 0 ∷ 4 ∷ 2 ∷ 2 ∷ 1 ∷ 2 ∷ 0 ∷ 0 ∷ 0 ∷ 0 ∷ 0 ∷ 0 ∷ 0 ∷ 50  -- 4 4 C C u B 0.0 0.0 0.0 5.0
    ∷ 0 ∷ 0 ∷ 0 ∷ 0 ∷ 0 ∷ 0 ∷ 0 ∷ 0 ∷ 0 ∷ 0 ∷ 0 ∷ 0 ∷ 0 ∷ 0 ∷ 0 ∷ 60
    ∷ 0x47 ∷ 0x52 ∷ 0 ∷ 5 ∷ 3 ∷ 3 ∷ 2 ∷ 2 ∷ 0 ∷ 20 ∷ 0 ∷ 0 ∷ 0 ∷ 20 ∷ 0 ∷ 70  -- 5 5 S S u C 2.0 0.0 2.0 7.0
    ∷ 0 ∷ 0 ∷ 0 ∷ 10 ∷ 0 ∷ 0 ∷ 0 ∷ 0 ∷ 0 ∷ 0 ∷ 0 ∷ 0 ∷ 0 ∷ 0 ∷ 0 ∷ 30
    ∷ 0x47 ∷ 0x52 ∷ 0 ∷ 6 ∷ 3 ∷ 3 ∷ 2 ∷ 2 ∷ 0 ∷ 0 ∷ 0 ∷ 0 ∷ 0 ∷ 0 ∷ 0 ∷ 70  -- 6 6 S S u C 0.0 0.0 0.0 7.0
    ∷ 0 ∷ 0 ∷ 0 ∷ 0 ∷ 0 ∷ 0 ∷ 0 ∷ 0 ∷ 0 ∷ 0 ∷ 0 ∷ 0 ∷ 0 ∷ 0 ∷ 0 ∷ 80
    ∷ 0x47 ∷ 0x52 ∷ 0 ∷ 7 ∷ 3 ∷ 3 ∷ 3 ∷ 2 ∷ 0 ∷ 0 ∷ 0 ∷ 0 ∷ 0 ∷ 0 ∷ 0 ∷ 0  -- 7 7 S S u S 0.0 0.0 0.0 0.0
    ∷ 0 ∷ 0 ∷ 0 ∷ 0 ∷ 0 ∷ 0 ∷ 0 ∷ 0 ∷ 0 ∷ 0 ∷ 0 ∷ 0 ∷ 0 ∷ 0 ∷ 0 ∷ 0
    ∷ []

-- Unit 2 began step 3 and does not pair with unit 3: unit 4 is under B, at its L.
unfoldable pub one_failure_behind_start_of_step_three : List ℕ
one_failure_behind_start_of_step_three =
    peach_plan
    ++ (0x53 ∷ 0x55 ∷ 0 ∷ 1 ∷ 0 ∷ 0 ∷ 0 ∷ 0 ∷ 0 ∷ 0 ∷ 0 ∷ 12 ∷ 0 ∷ 1  -- 1: 0,0,0,12;A;1
    ∷ 0x53 ∷ 0x55 ∷ 0 ∷ 2 ∷ 0 ∷ 0 ∷ 0 ∷ 0 ∷ 0 ∷ 0 ∷ 0 ∷ 12 ∷ 0 ∷ 1  -- 2: 0,0,0,12;A;1
    ∷ 0x53 ∷ 0x55 ∷ 0 ∷ 3 ∷ 0 ∷ 0 ∷ 0 ∷ 0 ∷ 0 ∷ 0 ∷ 0 ∷ 18 ∷ 0 ∷ 1  -- 3: 0,0,0,18;A;1
    ∷ 0x53 ∷ 0x55 ∷ 0 ∷ 4 ∷ 0 ∷ 0 ∷ 0 ∷ 0 ∷ 0 ∷ 0 ∷ 0 ∷ 12 ∷ 0 ∷ 1  -- 4: 0,0,0,12;A;1
    ∷ [])

unfoldable pub one_failure_behind_start_of_step_three_results : List ℕ
one_failure_behind_start_of_step_three_results =
    0x47 ∷ 0x52 ∷ 0 ∷ 1 ∷ 1 ∷ 1 ∷ 0 ∷ 1 ∷ 0 ∷ 0 ∷ 0 ∷ 0 ∷ 0 ∷ 0 ∷ 0 ∷ 40  -- 1 1 B B f A 0.0 0.0 0.0 4.0
    ∷ 0 ∷ 0 ∷ 0 ∷ 0 ∷ 0 ∷ 0 ∷ 0 ∷ 0 ∷ 0 ∷ 0 ∷ 0 ∷ 0 ∷ 0 ∷ 0 ∷ 0 ∷ 30
    ∷ 0x47 ∷ 0x52 ∷ 0 ∷ 2 ∷ 1 ∷ 1 ∷ 0 ∷ 1 ∷ 0 ∷ 0 ∷ 0 ∷ 0 ∷ 0 ∷ 0 ∷ 0 ∷ 40  -- 2 2 B B f A 0.0 0.0 0.0 4.0
    ∷ 0 ∷ 0 ∷ 0 ∷ 0 ∷ 0 ∷ 0 ∷ 0 ∷ 0 ∷ 0 ∷ 0 ∷ 0 ∷ 0 ∷ 0 ∷ 0 ∷ 0 ∷ 60
    ∷ 0x47 ∷ 0x52 ∷ 0 ∷ 3 ∷ 2 ∷ 2 ∷ 1 ∷ 2 ∷ 0 ∷ 0 ∷ 0 ∷ 0 ∷ 0 ∷ 0 ∷ 0 ∷ 50  -- 3 3 C C u B 0.0 0.0 0.0 5.0
    ∷ 0 ∷ 0 ∷ 0 ∷ 0 ∷ 0 ∷ 0 ∷ 0 ∷ 0 ∷ 0 ∷ 0 ∷ 0 ∷ 0 ∷ 0 ∷ 0 ∷ 0 ∷ 30
    ∷ 0x47 ∷ 0x52 ∷ 0 ∷ 4 ∷ 1 ∷ 1 ∷ 1 ∷ 2 ∷ 0 ∷ 0 ∷ 0 ∷ 0 ∷ 0 ∷ 0 ∷ 0 ∷ 50  -- 4 4 B B u B 0.0 0.0 0.0 5.0
    ∷ 0 ∷ 0 ∷ 0 ∷ 0 ∷ 0 ∷ 0 ∷ 0 ∷ 0 ∷ 0 ∷ 0 ∷ 0 ∷ 0 ∷ 0 ∷ 0 ∷ 0 ∷ 0
    ∷ []

-- Behind unit 4 the plan of C starts. Unit 4 brought that about and does not pair with unit 5, which
-- fails C: unit 6 is under C, at its L.
unfoldable pub three_failures_in_step_three : List ℕ
three_failures_in_step_three =
    peach_plan
    ++ (0x53 ∷ 0x55 ∷ 0 ∷ 1 ∷ 0 ∷ 0 ∷ 0 ∷ 0 ∷ 0 ∷ 0 ∷ 0 ∷ 12 ∷ 0 ∷ 1  -- 1: 0,0,0,12;A;1
    ∷ 0x53 ∷ 0x55 ∷ 0 ∷ 2 ∷ 0 ∷ 0 ∷ 0 ∷ 0 ∷ 0 ∷ 0 ∷ 0 ∷ 12 ∷ 0 ∷ 1  -- 2: 0,0,0,12;A;1
    ∷ 0x53 ∷ 0x55 ∷ 0 ∷ 3 ∷ 0 ∷ 0 ∷ 0 ∷ 0 ∷ 0 ∷ 0 ∷ 0 ∷ 18 ∷ 0 ∷ 1  -- 3: 0,0,0,18;A;1
    ∷ 0x53 ∷ 0x55 ∷ 0 ∷ 4 ∷ 0 ∷ 0 ∷ 0 ∷ 0 ∷ 0 ∷ 0 ∷ 0 ∷ 18 ∷ 0 ∷ 1  -- 4: 0,0,0,18;A;1
    ∷ 0x53 ∷ 0x55 ∷ 0 ∷ 5 ∷ 0 ∷ 0 ∷ 0 ∷ 0 ∷ 0 ∷ 0 ∷ 0 ∷ 23 ∷ 0 ∷ 1  -- 5: 0,0,0,23;A;1
    ∷ 0x53 ∷ 0x55 ∷ 0 ∷ 6 ∷ 0 ∷ 0 ∷ 0 ∷ 0 ∷ 0 ∷ 0 ∷ 0 ∷ 17 ∷ 0 ∷ 1  -- 6: 0,0,0,17;A;1
    ∷ [])

unfoldable pub three_failures_in_step_three_results : List ℕ
three_failures_in_step_three_results =
    0x47 ∷ 0x52 ∷ 0 ∷ 1 ∷ 1 ∷ 1 ∷ 0 ∷ 1 ∷ 0 ∷ 0 ∷ 0 ∷ 0 ∷ 0 ∷ 0 ∷ 0 ∷ 40  -- 1 1 B B f A 0.0 0.0 0.0 4.0
    ∷ 0 ∷ 0 ∷ 0 ∷ 0 ∷ 0 ∷ 0 ∷ 0 ∷ 0 ∷ 0 ∷ 0 ∷ 0 ∷ 0 ∷ 0 ∷ 0 ∷ 0 ∷ 30
    ∷ 0x47 ∷ 0x52 ∷ 0 ∷ 2 ∷ 1 ∷ 1 ∷ 0 ∷ 1 ∷ 0 ∷ 0 ∷ 0 ∷ 0 ∷ 0 ∷ 0 ∷ 0 ∷ 40  -- 2 2 B B f A 0.0 0.0 0.0 4.0
    ∷ 0 ∷ 0 ∷ 0 ∷ 0 ∷ 0 ∷ 0 ∷ 0 ∷ 0 ∷ 0 ∷ 0 ∷ 0 ∷ 0 ∷ 0 ∷ 0 ∷ 0 ∷ 60
    ∷ 0x47 ∷ 0x52 ∷ 0 ∷ 3 ∷ 2 ∷ 2 ∷ 1 ∷ 2 ∷ 0 ∷ 0 ∷ 0 ∷ 0 ∷ 0 ∷ 0 ∷ 0 ∷ 50  -- 3 3 C C u B 0.0 0.0 0.0 5.0
    ∷ 0 ∷ 0 ∷ 0 ∷ 0 ∷ 0 ∷ 0 ∷ 0 ∷ 0 ∷ 0 ∷ 0 ∷ 0 ∷ 0 ∷ 0 ∷ 0 ∷ 0 ∷ 30
    ∷ 0x47 ∷ 0x52 ∷ 0 ∷ 4 ∷ 2 ∷ 2 ∷ 1 ∷ 2 ∷ 0 ∷ 0 ∷ 0 ∷ 0 ∷ 0 ∷ 0 ∷ 0 ∷ 50  -- 4 4 C C u B 0.0 0.0 0.0 5.0
    ∷ 0 ∷ 0 ∷ 0 ∷ 0 ∷ 0 ∷ 0 ∷ 0 ∷ 0 ∷ 0 ∷ 0 ∷ 0 ∷ 0 ∷ 0 ∷ 0 ∷ 0 ∷ 60
    ∷ 0x47 ∷ 0x52 ∷ 0 ∷ 5 ∷ 3 ∷ 3 ∷ 2 ∷ 2 ∷ 0 ∷ 0 ∷ 0 ∷ 0 ∷ 0 ∷ 0 ∷ 0 ∷ 70  -- 5 5 S S u C 0.0 0.0 0.0 7.0
    ∷ 0 ∷ 0 ∷ 0 ∷ 0 ∷ 0 ∷ 0 ∷ 0 ∷ 0 ∷ 0 ∷ 0 ∷ 0 ∷ 0 ∷ 0 ∷ 0 ∷ 0 ∷ 10
    ∷ 0x47 ∷ 0x52 ∷ 0 ∷ 6 ∷ 2 ∷ 2 ∷ 2 ∷ 2 ∷ 0 ∷ 0 ∷ 0 ∷ 0 ∷ 0 ∷ 0 ∷ 0 ∷ 70  -- 6 6 C C u C 0.0 0.0 0.0 7.0
    ∷ 0 ∷ 0 ∷ 0 ∷ 0 ∷ 0 ∷ 0 ∷ 0 ∷ 0 ∷ 0 ∷ 0 ∷ 0 ∷ 0 ∷ 0 ∷ 0 ∷ 0 ∷ 0
    ∷ []

-- Unit 3 is above T+L of C, 24, and grades Substandard, unit 4 grades C: no plan, and not that of C.
unfoldable pub worse_failure_first_in_step_three : List ℕ
worse_failure_first_in_step_three =
    peach_plan
    ++ (0x53 ∷ 0x55 ∷ 0 ∷ 1 ∷ 0 ∷ 0 ∷ 0 ∷ 0 ∷ 0 ∷ 0 ∷ 0 ∷ 12 ∷ 0 ∷ 1  -- 1: 0,0,0,12;A;1
    ∷ 0x53 ∷ 0x55 ∷ 0 ∷ 2 ∷ 0 ∷ 0 ∷ 0 ∷ 0 ∷ 0 ∷ 0 ∷ 0 ∷ 12 ∷ 0 ∷ 1  -- 2: 0,0,0,12;A;1
    ∷ 0x53 ∷ 0x55 ∷ 0 ∷ 3 ∷ 0 ∷ 0 ∷ 0 ∷ 0 ∷ 0 ∷ 0 ∷ 0 ∷ 25 ∷ 0 ∷ 1  -- 3: 0,0,0,25;A;1
    ∷ 0x53 ∷ 0x55 ∷ 0 ∷ 4 ∷ 0 ∷ 0 ∷ 0 ∷ 0 ∷ 0 ∷ 0 ∷ 0 ∷ 18 ∷ 0 ∷ 1  -- 4: 0,0,0,18;A;1
    ∷ 0x53 ∷ 0x55 ∷ 0 ∷ 5 ∷ 0 ∷ 0 ∷ 0 ∷ 0 ∷ 0 ∷ 1 ∷ 0 ∷ 2 ∷ 0 ∷ 1  -- 5: 0,0,1,2;A;1
    ∷ [])

unfoldable pub worse_failure_first_in_step_three_results : List ℕ
worse_failure_first_in_step_three_results =
    0x47 ∷ 0x52 ∷ 0 ∷ 1 ∷ 1 ∷ 1 ∷ 0 ∷ 1 ∷ 0 ∷ 0 ∷ 0 ∷ 0 ∷ 0 ∷ 0 ∷ 0 ∷ 40  -- 1 1 B B f A 0.0 0.0 0.0 4.0
    ∷ 0 ∷ 0 ∷ 0 ∷ 0 ∷ 0 ∷ 0 ∷ 0 ∷ 0 ∷ 0 ∷ 0 ∷ 0 ∷ 0 ∷ 0 ∷ 0 ∷ 0 ∷ 30
    ∷ 0x47 ∷ 0x52 ∷ 0 ∷ 2 ∷ 1 ∷ 1 ∷ 0 ∷ 1 ∷ 0 ∷ 0 ∷ 0 ∷ 0 ∷ 0 ∷ 0 ∷ 0 ∷ 40  -- 2 2 B B f A 0.0 0.0 0.0 4.0
    ∷ 0 ∷ 0 ∷ 0 ∷ 0 ∷ 0 ∷ 0 ∷ 0 ∷ 0 ∷ 0 ∷ 0 ∷ 0 ∷ 0 ∷ 0 ∷ 0 ∷ 0 ∷ 60
    ∷ 0x47 ∷ 0x52 ∷ 0 ∷ 3 ∷ 3 ∷ 3 ∷ 1 ∷ 2 ∷ 0 ∷ 0 ∷ 0 ∷ 0 ∷ 0 ∷ 0 ∷ 0 ∷ 50  -- 3 3 S S u B 0.0 0.0 0.0 5.0
    ∷ 0 ∷ 0 ∷ 0 ∷ 0 ∷ 0 ∷ 0 ∷ 0 ∷ 0 ∷ 0 ∷ 0 ∷ 0 ∷ 0 ∷ 0 ∷ 0 ∷ 0 ∷ 100
    ∷ 0x47 ∷ 0x52 ∷ 0 ∷ 4 ∷ 2 ∷ 2 ∷ 1 ∷ 2 ∷ 0 ∷ 0 ∷ 0 ∷ 0 ∷ 0 ∷ 0 ∷ 0 ∷ 50  -- 4 4 C C u B 0.0 0.0 0.0 5.0
    ∷ 0 ∷ 0 ∷ 0 ∷ 0 ∷ 0 ∷ 0 ∷ 0 ∷ 0 ∷ 0 ∷ 0 ∷ 0 ∷ 0 ∷ 0 ∷ 0 ∷ 0 ∷ 60
    ∷ 0x47 ∷ 0x52 ∷ 0 ∷ 5 ∷ 3 ∷ 3 ∷ 3 ∷ 2 ∷ 0 ∷ 0 ∷ 0 ∷ 0 ∷ 0 ∷ 0 ∷ 0 ∷ 0  -- 5 5 S S u S 0.0 0.0 0.0 0.0
    ∷ 0 ∷ 0 ∷ 0 ∷ 0 ∷ 0 ∷ 0 ∷ 0 ∷ 0 ∷ 0 ∷ 0 ∷ 0 ∷ 0 ∷ 0 ∷ 0 ∷ 0 ∷ 0
    ∷ []

-- Unit 3 grades C, unit 4 Substandard: no plan. Unit 3 fails in total alone, unit 4 in severe
-- alone, 0+9-3-3 = 3.0.
unfoldable pub worse_failure_second_in_step_three : List ℕ
worse_failure_second_in_step_three =
    peach_plan
    ++ (0x53 ∷ 0x55 ∷ 0 ∷ 1 ∷ 0 ∷ 0 ∷ 0 ∷ 0 ∷ 0 ∷ 0 ∷ 0 ∷ 12 ∷ 0 ∷ 1  -- 1: 0,0,0,12;A;1
    ∷ 0x53 ∷ 0x55 ∷ 0 ∷ 2 ∷ 0 ∷ 0 ∷ 0 ∷ 0 ∷ 0 ∷ 0 ∷ 0 ∷ 12 ∷ 0 ∷ 1  -- 2: 0,0,0,12;A;1
    ∷ 0x53 ∷ 0x55 ∷ 0 ∷ 3 ∷ 0 ∷ 0 ∷ 0 ∷ 0 ∷ 0 ∷ 0 ∷ 0 ∷ 18 ∷ 0 ∷ 1  -- 3: 0,0,0,18;A;1
    ∷ 0x53 ∷ 0x55 ∷ 0 ∷ 4 ∷ 0 ∷ 0 ∷ 0 ∷ 9 ∷ 0 ∷ 0 ∷ 0 ∷ 0 ∷ 0 ∷ 1  -- 4: 0,9,0,0;A;1
    ∷ 0x53 ∷ 0x55 ∷ 0 ∷ 5 ∷ 0 ∷ 0 ∷ 0 ∷ 0 ∷ 0 ∷ 1 ∷ 0 ∷ 2 ∷ 0 ∷ 1  -- 5: 0,0,1,2;A;1
    ∷ [])

unfoldable pub worse_failure_second_in_step_three_results : List ℕ
worse_failure_second_in_step_three_results =
    0x47 ∷ 0x52 ∷ 0 ∷ 1 ∷ 1 ∷ 1 ∷ 0 ∷ 1 ∷ 0 ∷ 0 ∷ 0 ∷ 0 ∷ 0 ∷ 0 ∷ 0 ∷ 40  -- 1 1 B B f A 0.0 0.0 0.0 4.0
    ∷ 0 ∷ 0 ∷ 0 ∷ 0 ∷ 0 ∷ 0 ∷ 0 ∷ 0 ∷ 0 ∷ 0 ∷ 0 ∷ 0 ∷ 0 ∷ 0 ∷ 0 ∷ 30
    ∷ 0x47 ∷ 0x52 ∷ 0 ∷ 2 ∷ 1 ∷ 1 ∷ 0 ∷ 1 ∷ 0 ∷ 0 ∷ 0 ∷ 0 ∷ 0 ∷ 0 ∷ 0 ∷ 40  -- 2 2 B B f A 0.0 0.0 0.0 4.0
    ∷ 0 ∷ 0 ∷ 0 ∷ 0 ∷ 0 ∷ 0 ∷ 0 ∷ 0 ∷ 0 ∷ 0 ∷ 0 ∷ 0 ∷ 0 ∷ 0 ∷ 0 ∷ 60
    ∷ 0x47 ∷ 0x52 ∷ 0 ∷ 3 ∷ 2 ∷ 2 ∷ 1 ∷ 2 ∷ 0 ∷ 0 ∷ 0 ∷ 0 ∷ 0 ∷ 0 ∷ 0 ∷ 50  -- 3 3 C C u B 0.0 0.0 0.0 5.0
    ∷ 0 ∷ 0 ∷ 0 ∷ 0 ∷ 0 ∷ 0 ∷ 0 ∷ 0 ∷ 0 ∷ 0 ∷ 0 ∷ 0 ∷ 0 ∷ 0 ∷ 0 ∷ 30
    ∷ 0x47 ∷ 0x52 ∷ 0 ∷ 4 ∷ 3 ∷ 3 ∷ 1 ∷ 2 ∷ 0 ∷ 0 ∷ 0 ∷ 30 ∷ 0 ∷ 0 ∷ 0 ∷ 20  -- 4 4 S S u B 0.0 3.0 0.0 2.0
    ∷ 0 ∷ 0 ∷ 0 ∷ 0 ∷ 0 ∷ 0 ∷ 0 ∷ 30 ∷ 0 ∷ 0 ∷ 0 ∷ 0 ∷ 0 ∷ 0 ∷ 0 ∷ 0
    ∷ 0x47 ∷ 0x52 ∷ 0 ∷ 5 ∷ 3 ∷ 3 ∷ 3 ∷ 2 ∷ 0 ∷ 0 ∷ 0 ∷ 0 ∷ 0 ∷ 0 ∷ 0 ∷ 0  -- 5 5 S S u S 0.0 0.0 0.0 0.0
    ∷ 0 ∷ 0 ∷ 0 ∷ 0 ∷ 0 ∷ 0 ∷ 0 ∷ 0 ∷ 0 ∷ 0 ∷ 0 ∷ 0 ∷ 0 ∷ 0 ∷ 0 ∷ 0
    ∷ []

-- Units 3 and 5 are not in a row: unit 6 is under B, at its L.
unfoldable pub unit_that_meets_between_failures_in_step_three : List ℕ
unit_that_meets_between_failures_in_step_three =
    peach_plan
    ++ (0x53 ∷ 0x55 ∷ 0 ∷ 1 ∷ 0 ∷ 0 ∷ 0 ∷ 0 ∷ 0 ∷ 0 ∷ 0 ∷ 12 ∷ 0 ∷ 1  -- 1: 0,0,0,12;A;1
    ∷ 0x53 ∷ 0x55 ∷ 0 ∷ 2 ∷ 0 ∷ 0 ∷ 0 ∷ 0 ∷ 0 ∷ 0 ∷ 0 ∷ 12 ∷ 0 ∷ 1  -- 2: 0,0,0,12;A;1
    ∷ 0x53 ∷ 0x55 ∷ 0 ∷ 3 ∷ 0 ∷ 0 ∷ 0 ∷ 0 ∷ 0 ∷ 0 ∷ 0 ∷ 18 ∷ 0 ∷ 1  -- 3: 0,0,0,18;A;1
    ∷ 0x53 ∷ 0x55 ∷ 0 ∷ 4 ∷ 0 ∷ 0 ∷ 0 ∷ 0 ∷ 0 ∷ 0 ∷ 0 ∷ 12 ∷ 0 ∷ 1  -- 4: 0,0,0,12;A;1
    ∷ 0x53 ∷ 0x55 ∷ 0 ∷ 5 ∷ 0 ∷ 0 ∷ 0 ∷ 0 ∷ 0 ∷ 0 ∷ 0 ∷ 18 ∷ 0 ∷ 1  -- 5: 0,0,0,18;A;1
    ∷ 0x53 ∷ 0x55 ∷ 0 ∷ 6 ∷ 0 ∷ 0 ∷ 0 ∷ 0 ∷ 0 ∷ 0 ∷ 0 ∷ 12 ∷ 0 ∷ 1  -- 6: 0,0,0,12;A;1
    ∷ [])

unfoldable pub unit_that_meets_between_failures_in_step_three_results : List ℕ
unit_that_meets_between_failures_in_step_three_results =
    0x47 ∷ 0x52 ∷ 0 ∷ 1 ∷ 1 ∷ 1 ∷ 0 ∷ 1 ∷ 0 ∷ 0 ∷ 0 ∷ 0 ∷ 0 ∷ 0 ∷ 0 ∷ 40  -- 1 1 B B f A 0.0 0.0 0.0 4.0
    ∷ 0 ∷ 0 ∷ 0 ∷ 0 ∷ 0 ∷ 0 ∷ 0 ∷ 0 ∷ 0 ∷ 0 ∷ 0 ∷ 0 ∷ 0 ∷ 0 ∷ 0 ∷ 30
    ∷ 0x47 ∷ 0x52 ∷ 0 ∷ 2 ∷ 1 ∷ 1 ∷ 0 ∷ 1 ∷ 0 ∷ 0 ∷ 0 ∷ 0 ∷ 0 ∷ 0 ∷ 0 ∷ 40  -- 2 2 B B f A 0.0 0.0 0.0 4.0
    ∷ 0 ∷ 0 ∷ 0 ∷ 0 ∷ 0 ∷ 0 ∷ 0 ∷ 0 ∷ 0 ∷ 0 ∷ 0 ∷ 0 ∷ 0 ∷ 0 ∷ 0 ∷ 60
    ∷ 0x47 ∷ 0x52 ∷ 0 ∷ 3 ∷ 2 ∷ 2 ∷ 1 ∷ 2 ∷ 0 ∷ 0 ∷ 0 ∷ 0 ∷ 0 ∷ 0 ∷ 0 ∷ 50  -- 3 3 C C u B 0.0 0.0 0.0 5.0
    ∷ 0 ∷ 0 ∷ 0 ∷ 0 ∷ 0 ∷ 0 ∷ 0 ∷ 0 ∷ 0 ∷ 0 ∷ 0 ∷ 0 ∷ 0 ∷ 0 ∷ 0 ∷ 30
    ∷ 0x47 ∷ 0x52 ∷ 0 ∷ 4 ∷ 1 ∷ 1 ∷ 1 ∷ 2 ∷ 0 ∷ 0 ∷ 0 ∷ 0 ∷ 0 ∷ 0 ∷ 0 ∷ 50  -- 4 4 B B u B 0.0 0.0 0.0 5.0
    ∷ 0 ∷ 0 ∷ 0 ∷ 0 ∷ 0 ∷ 0 ∷ 0 ∷ 0 ∷ 0 ∷ 0 ∷ 0 ∷ 0 ∷ 0 ∷ 0 ∷ 0 ∷ 0
    ∷ 0x47 ∷ 0x52 ∷ 0 ∷ 5 ∷ 2 ∷ 2 ∷ 1 ∷ 2 ∷ 0 ∷ 0 ∷ 0 ∷ 0 ∷ 0 ∷ 0 ∷ 0 ∷ 50  -- 5 5 C C u B 0.0 0.0 0.0 5.0
    ∷ 0 ∷ 0 ∷ 0 ∷ 0 ∷ 0 ∷ 0 ∷ 0 ∷ 0 ∷ 0 ∷ 0 ∷ 0 ∷ 0 ∷ 0 ∷ 0 ∷ 0 ∷ 60
    ∷ 0x47 ∷ 0x52 ∷ 0 ∷ 6 ∷ 1 ∷ 1 ∷ 1 ∷ 2 ∷ 0 ∷ 0 ∷ 0 ∷ 0 ∷ 0 ∷ 0 ∷ 0 ∷ 50  -- 6 6 B B u B 0.0 0.0 0.0 5.0
    ∷ 0 ∷ 0 ∷ 0 ∷ 0 ∷ 0 ∷ 0 ∷ 0 ∷ 0 ∷ 0 ∷ 0 ∷ 0 ∷ 0 ∷ 0 ∷ 0 ∷ 0 ∷ 0
    ∷ []

-- A break forgets the failure just before, in step 3 too: unit 5 is under B, at its L.
unfoldable pub break_between_failures_in_step_three : List ℕ
break_between_failures_in_step_three =
    peach_plan
    ++ (0x53 ∷ 0x55 ∷ 0 ∷ 1 ∷ 0 ∷ 0 ∷ 0 ∷ 0 ∷ 0 ∷ 0 ∷ 0 ∷ 12 ∷ 0 ∷ 1  -- 1: 0,0,0,12;A;1
    ∷ 0x53 ∷ 0x55 ∷ 0 ∷ 2 ∷ 0 ∷ 0 ∷ 0 ∷ 0 ∷ 0 ∷ 0 ∷ 0 ∷ 12 ∷ 0 ∷ 1  -- 2: 0,0,0,12;A;1
    ∷ 0x53 ∷ 0x55 ∷ 0 ∷ 3 ∷ 0 ∷ 0 ∷ 0 ∷ 0 ∷ 0 ∷ 0 ∷ 0 ∷ 18 ∷ 0 ∷ 1  -- 3: 0,0,0,18;A;1
    ∷ 0x42 ∷ 0x4B  -- break
    ∷ 0x53 ∷ 0x55 ∷ 0 ∷ 4 ∷ 0 ∷ 0 ∷ 0 ∷ 0 ∷ 0 ∷ 0 ∷ 0 ∷ 18 ∷ 0 ∷ 1  -- 4: 0,0,0,18;A;1
    ∷ 0x53 ∷ 0x55 ∷ 0 ∷ 5 ∷ 0 ∷ 0 ∷ 0 ∷ 0 ∷ 0 ∷ 0 ∷ 0 ∷ 12 ∷ 0 ∷ 1  -- 5: 0,0,0,12;A;1
    ∷ [])

unfoldable pub break_between_failures_in_step_three_results : List ℕ
break_between_failures_in_step_three_results =
    0x47 ∷ 0x52 ∷ 0 ∷ 1 ∷ 1 ∷ 1 ∷ 0 ∷ 1 ∷ 0 ∷ 0 ∷ 0 ∷ 0 ∷ 0 ∷ 0 ∷ 0 ∷ 40  -- 1 1 B B f A 0.0 0.0 0.0 4.0
    ∷ 0 ∷ 0 ∷ 0 ∷ 0 ∷ 0 ∷ 0 ∷ 0 ∷ 0 ∷ 0 ∷ 0 ∷ 0 ∷ 0 ∷ 0 ∷ 0 ∷ 0 ∷ 30
    ∷ 0x47 ∷ 0x52 ∷ 0 ∷ 2 ∷ 1 ∷ 1 ∷ 0 ∷ 1 ∷ 0 ∷ 0 ∷ 0 ∷ 0 ∷ 0 ∷ 0 ∷ 0 ∷ 40  -- 2 2 B B f A 0.0 0.0 0.0 4.0
    ∷ 0 ∷ 0 ∷ 0 ∷ 0 ∷ 0 ∷ 0 ∷ 0 ∷ 0 ∷ 0 ∷ 0 ∷ 0 ∷ 0 ∷ 0 ∷ 0 ∷ 0 ∷ 60
    ∷ 0x47 ∷ 0x52 ∷ 0 ∷ 3 ∷ 2 ∷ 2 ∷ 1 ∷ 2 ∷ 0 ∷ 0 ∷ 0 ∷ 0 ∷ 0 ∷ 0 ∷ 0 ∷ 50  -- 3 3 C C u B 0.0 0.0 0.0 5.0
    ∷ 0 ∷ 0 ∷ 0 ∷ 0 ∷ 0 ∷ 0 ∷ 0 ∷ 0 ∷ 0 ∷ 0 ∷ 0 ∷ 0 ∷ 0 ∷ 0 ∷ 0 ∷ 30
    ∷ 0x47 ∷ 0x52 ∷ 0 ∷ 4 ∷ 2 ∷ 2 ∷ 1 ∷ 2 ∷ 0 ∷ 0 ∷ 0 ∷ 0 ∷ 0 ∷ 0 ∷ 0 ∷ 50  -- 4 4 C C u B 0.0 0.0 0.0 5.0
    ∷ 0 ∷ 0 ∷ 0 ∷ 0 ∷ 0 ∷ 0 ∷ 0 ∷ 0 ∷ 0 ∷ 0 ∷ 0 ∷ 0 ∷ 0 ∷ 0 ∷ 0 ∷ 30
    ∷ 0x47 ∷ 0x52 ∷ 0 ∷ 5 ∷ 1 ∷ 1 ∷ 1 ∷ 2 ∷ 0 ∷ 0 ∷ 0 ∷ 0 ∷ 0 ∷ 0 ∷ 0 ∷ 50  -- 5 5 B B u B 0.0 0.0 0.0 5.0
    ∷ 0 ∷ 0 ∷ 0 ∷ 0 ∷ 0 ∷ 0 ∷ 0 ∷ 0 ∷ 0 ∷ 0 ∷ 0 ∷ 0 ∷ 0 ∷ 0 ∷ 0 ∷ 0
    ∷ []

-- B is better than C, so that step 3 goes on at C with its CuSums: unit 4 is over from L. But the
-- failure just before is forgotten: unit 5 is under C, at its L, and not without a plan.
unfoldable pub redesignation_between_failures_in_step_three : List ℕ
redesignation_between_failures_in_step_three =
    peach_plan
    ++ (0x53 ∷ 0x55 ∷ 0 ∷ 1 ∷ 0 ∷ 0 ∷ 0 ∷ 0 ∷ 0 ∷ 0 ∷ 0 ∷ 18 ∷ 0 ∷ 1  -- 1: 0,0,0,18;A;1
    ∷ 0x53 ∷ 0x55 ∷ 0 ∷ 2 ∷ 0 ∷ 0 ∷ 0 ∷ 0 ∷ 0 ∷ 0 ∷ 0 ∷ 12 ∷ 0 ∷ 1  -- 2: 0,0,0,12;A;1
    ∷ 0x53 ∷ 0x55 ∷ 0 ∷ 3 ∷ 0 ∷ 0 ∷ 0 ∷ 0 ∷ 0 ∷ 0 ∷ 0 ∷ 23 ∷ 0 ∷ 1  -- 3: 0,0,0,23;A;1
    ∷ 0x52 ∷ 0x44 ∷ 1  -- redesignation to B
    ∷ 0x53 ∷ 0x55 ∷ 0 ∷ 4 ∷ 0 ∷ 0 ∷ 0 ∷ 0 ∷ 0 ∷ 0 ∷ 0 ∷ 23 ∷ 0 ∷ 1  -- 4: 0,0,0,23;A;1
    ∷ 0x53 ∷ 0x55 ∷ 0 ∷ 5 ∷ 0 ∷ 0 ∷ 0 ∷ 0 ∷ 0 ∷ 0 ∷ 0 ∷ 17 ∷ 0 ∷ 1  -- 5: 0,0,0,17;A;1
    ∷ [])

unfoldable pub redesignation_between_failures_in_step_three_results : List ℕ
redesignation_between_failures_in_step_three_results =
    0x47 ∷ 0x52 ∷ 0 ∷ 1 ∷ 2 ∷ 2 ∷ 0 ∷ 1 ∷ 0 ∷ 0 ∷ 0 ∷ 0 ∷ 0 ∷ 0 ∷ 0 ∷ 40  -- 1 1 C C f A 0.0 0.0 0.0 4.0
    ∷ 0 ∷ 0 ∷ 0 ∷ 0 ∷ 0 ∷ 0 ∷ 0 ∷ 0 ∷ 0 ∷ 0 ∷ 0 ∷ 0 ∷ 0 ∷ 0 ∷ 0 ∷ 90
    ∷ 0x47 ∷ 0x52 ∷ 0 ∷ 2 ∷ 1 ∷ 1 ∷ 0 ∷ 1 ∷ 0 ∷ 0 ∷ 0 ∷ 0 ∷ 0 ∷ 0 ∷ 0 ∷ 40  -- 2 2 B B f A 0.0 0.0 0.0 4.0
    ∷ 0 ∷ 0 ∷ 0 ∷ 0 ∷ 0 ∷ 0 ∷ 0 ∷ 0 ∷ 0 ∷ 0 ∷ 0 ∷ 0 ∷ 0 ∷ 0 ∷ 0 ∷ 60
    ∷ 0x47 ∷ 0x52 ∷ 0 ∷ 3 ∷ 3 ∷ 3 ∷ 2 ∷ 2 ∷ 0 ∷ 0 ∷ 0 ∷ 0 ∷ 0 ∷ 0 ∷ 0 ∷ 70  -- 3 3 S S u C 0.0 0.0 0.0 7.0
    ∷ 0 ∷ 0 ∷ 0 ∷ 0 ∷ 0 ∷ 0 ∷ 0 ∷ 0 ∷ 0 ∷ 0 ∷ 0 ∷ 0 ∷ 0 ∷ 0 ∷ 0 ∷ 10
    ∷ 0x47 ∷ 0x52 ∷ 0 ∷ 4 ∷ 3 ∷ 3 ∷ 2 ∷ 2 ∷ 0 ∷ 0 ∷ 0 ∷ 0 ∷ 0 ∷ 0 ∷ 0 ∷ 70  -- 4 4 S S u C 0.0 0.0 0.0 7.0
    ∷ 0 ∷ 0 ∷ 0 ∷ 0 ∷ 0 ∷ 0 ∷ 0 ∷ 0 ∷ 0 ∷ 0 ∷ 0 ∷ 0 ∷ 0 ∷ 0 ∷ 0 ∷ 60
    ∷ 0x47 ∷ 0x52 ∷ 0 ∷ 5 ∷ 2 ∷ 2 ∷ 2 ∷ 2 ∷ 0 ∷ 0 ∷ 0 ∷ 0 ∷ 0 ∷ 0 ∷ 0 ∷ 70  -- 5 5 C C u C 0.0 0.0 0.0 7.0
    ∷ 0 ∷ 0 ∷ 0 ∷ 0 ∷ 0 ∷ 0 ∷ 0 ∷ 0 ∷ 0 ∷ 0 ∷ 0 ∷ 0 ∷ 0 ∷ 0 ∷ 0 ∷ 0
    ∷ []

-- B is not better than B and ends step 3. Unit 3 is forgotten, and unit 4 a first failure of the
-- designated plan: unit 5 is under B, at its L, outside step 3.
unfoldable pub end_of_step_three_between_failures : List ℕ
end_of_step_three_between_failures =
    peach_plan
    ++ (0x53 ∷ 0x55 ∷ 0 ∷ 1 ∷ 0 ∷ 0 ∷ 0 ∷ 0 ∷ 0 ∷ 0 ∷ 0 ∷ 12 ∷ 0 ∷ 1  -- 1: 0,0,0,12;A;1
    ∷ 0x53 ∷ 0x55 ∷ 0 ∷ 2 ∷ 0 ∷ 0 ∷ 0 ∷ 0 ∷ 0 ∷ 0 ∷ 0 ∷ 12 ∷ 0 ∷ 1  -- 2: 0,0,0,12;A;1
    ∷ 0x53 ∷ 0x55 ∷ 0 ∷ 3 ∷ 0 ∷ 0 ∷ 0 ∷ 0 ∷ 0 ∷ 0 ∷ 0 ∷ 18 ∷ 0 ∷ 1  -- 3: 0,0,0,18;A;1
    ∷ 0x52 ∷ 0x44 ∷ 1  -- redesignation to B
    ∷ 0x53 ∷ 0x55 ∷ 0 ∷ 4 ∷ 0 ∷ 0 ∷ 0 ∷ 0 ∷ 0 ∷ 0 ∷ 0 ∷ 18 ∷ 0 ∷ 1  -- 4: 0,0,0,18;A;1
    ∷ 0x53 ∷ 0x55 ∷ 0 ∷ 5 ∷ 0 ∷ 0 ∷ 0 ∷ 0 ∷ 0 ∷ 0 ∷ 0 ∷ 12 ∷ 0 ∷ 1  -- 5: 0,0,0,12;A;1
    ∷ [])

unfoldable pub end_of_step_three_between_failures_results : List ℕ
end_of_step_three_between_failures_results =
    0x47 ∷ 0x52 ∷ 0 ∷ 1 ∷ 1 ∷ 1 ∷ 0 ∷ 1 ∷ 0 ∷ 0 ∷ 0 ∷ 0 ∷ 0 ∷ 0 ∷ 0 ∷ 40  -- 1 1 B B f A 0.0 0.0 0.0 4.0
    ∷ 0 ∷ 0 ∷ 0 ∷ 0 ∷ 0 ∷ 0 ∷ 0 ∷ 0 ∷ 0 ∷ 0 ∷ 0 ∷ 0 ∷ 0 ∷ 0 ∷ 0 ∷ 30
    ∷ 0x47 ∷ 0x52 ∷ 0 ∷ 2 ∷ 1 ∷ 1 ∷ 0 ∷ 1 ∷ 0 ∷ 0 ∷ 0 ∷ 0 ∷ 0 ∷ 0 ∷ 0 ∷ 40  -- 2 2 B B f A 0.0 0.0 0.0 4.0
    ∷ 0 ∷ 0 ∷ 0 ∷ 0 ∷ 0 ∷ 0 ∷ 0 ∷ 0 ∷ 0 ∷ 0 ∷ 0 ∷ 0 ∷ 0 ∷ 0 ∷ 0 ∷ 60
    ∷ 0x47 ∷ 0x52 ∷ 0 ∷ 3 ∷ 2 ∷ 2 ∷ 1 ∷ 2 ∷ 0 ∷ 0 ∷ 0 ∷ 0 ∷ 0 ∷ 0 ∷ 0 ∷ 50  -- 3 3 C C u B 0.0 0.0 0.0 5.0
    ∷ 0 ∷ 0 ∷ 0 ∷ 0 ∷ 0 ∷ 0 ∷ 0 ∷ 0 ∷ 0 ∷ 0 ∷ 0 ∷ 0 ∷ 0 ∷ 0 ∷ 0 ∷ 30
    ∷ 0x47 ∷ 0x52 ∷ 0 ∷ 4 ∷ 2 ∷ 2 ∷ 1 ∷ 1 ∷ 0 ∷ 0 ∷ 0 ∷ 0 ∷ 0 ∷ 0 ∷ 0 ∷ 50  -- 4 4 C C f B 0.0 0.0 0.0 5.0
    ∷ 0 ∷ 0 ∷ 0 ∷ 0 ∷ 0 ∷ 0 ∷ 0 ∷ 0 ∷ 0 ∷ 0 ∷ 0 ∷ 0 ∷ 0 ∷ 0 ∷ 0 ∷ 30
    ∷ 0x47 ∷ 0x52 ∷ 0 ∷ 5 ∷ 1 ∷ 1 ∷ 1 ∷ 0 ∷ 0 ∷ 0 ∷ 0 ∷ 0 ∷ 0 ∷ 0 ∷ 0 ∷ 50  -- 5 5 B B m B 0.0 0.0 0.0 5.0
    ∷ 0 ∷ 0 ∷ 0 ∷ 0 ∷ 0 ∷ 0 ∷ 0 ∷ 0 ∷ 0 ∷ 0 ∷ 0 ∷ 0 ∷ 0 ∷ 0 ∷ 0 ∷ 0
    ∷ []

-- Units 3 and 4 qualify, the failures set that run to none: units 7 and 8 qualify and do not end
-- step 3, else unit 7 or 8 would be recovered.
unfoldable pub run_before_another_lower_plan : List ℕ
run_before_another_lower_plan =
    peach_plan
    ++ (0x53 ∷ 0x55 ∷ 0 ∷ 1 ∷ 0 ∷ 0 ∷ 0 ∷ 0 ∷ 0 ∷ 0 ∷ 0 ∷ 12 ∷ 0 ∷ 1  -- 1: 0,0,0,12;A;1
    ∷ 0x53 ∷ 0x55 ∷ 0 ∷ 2 ∷ 0 ∷ 0 ∷ 0 ∷ 0 ∷ 0 ∷ 0 ∷ 0 ∷ 12 ∷ 0 ∷ 1  -- 2: 0,0,0,12;A;1
    ∷ 0x53 ∷ 0x55 ∷ 0 ∷ 3 ∷ 0 ∷ 0 ∷ 0 ∷ 0 ∷ 0 ∷ 1 ∷ 0 ∷ 2 ∷ 0 ∷ 1  -- 3: 0,0,1,2;A;1
    ∷ 0x53 ∷ 0x55 ∷ 0 ∷ 4 ∷ 0 ∷ 0 ∷ 0 ∷ 0 ∷ 0 ∷ 1 ∷ 0 ∷ 2 ∷ 0 ∷ 1  -- 4: 0,0,1,2;A;1
    ∷ 0x53 ∷ 0x55 ∷ 0 ∷ 5 ∷ 0 ∷ 0 ∷ 0 ∷ 0 ∷ 0 ∷ 0 ∷ 0 ∷ 18 ∷ 0 ∷ 1  -- 5: 0,0,0,18;A;1
    ∷ 0x53 ∷ 0x55 ∷ 0 ∷ 6 ∷ 0 ∷ 0 ∷ 0 ∷ 0 ∷ 0 ∷ 0 ∷ 0 ∷ 18 ∷ 0 ∷ 1  -- 6: 0,0,0,18;A;1
    ∷ 0x53 ∷ 0x55 ∷ 0 ∷ 7 ∷ 0 ∷ 0 ∷ 0 ∷ 0 ∷ 0 ∷ 1 ∷ 0 ∷ 2 ∷ 0 ∷ 1  -- 7: 0,0,1,2;A;1
    ∷ 0x53 ∷ 0x55 ∷ 0 ∷ 8 ∷ 0 ∷ 0 ∷ 0 ∷ 0 ∷ 0 ∷ 1 ∷ 0 ∷ 2 ∷ 0 ∷ 1  -- 8: 0,0,1,2;A;1
    ∷ [])

unfoldable pub run_before_another_lower_plan_results : List ℕ
run_before_another_lower_plan_results =
    0x47 ∷ 0x52 ∷ 0 ∷ 1 ∷ 1 ∷ 1 ∷ 0 ∷ 1 ∷ 0 ∷ 0 ∷ 0 ∷ 0 ∷ 0 ∷ 0 ∷ 0 ∷ 40  -- 1 1 B B f A 0.0 0.0 0.0 4.0
    ∷ 0 ∷ 0 ∷ 0 ∷ 0 ∷ 0 ∷ 0 ∷ 0 ∷ 0 ∷ 0 ∷ 0 ∷ 0 ∷ 0 ∷ 0 ∷ 0 ∷ 0 ∷ 30
    ∷ 0x47 ∷ 0x52 ∷ 0 ∷ 2 ∷ 1 ∷ 1 ∷ 0 ∷ 1 ∷ 0 ∷ 0 ∷ 0 ∷ 0 ∷ 0 ∷ 0 ∷ 0 ∷ 40  -- 2 2 B B f A 0.0 0.0 0.0 4.0
    ∷ 0 ∷ 0 ∷ 0 ∷ 0 ∷ 0 ∷ 0 ∷ 0 ∷ 0 ∷ 0 ∷ 0 ∷ 0 ∷ 0 ∷ 0 ∷ 0 ∷ 0 ∷ 60
    ∷ 0x47 ∷ 0x52 ∷ 0 ∷ 3 ∷ 1 ∷ 1 ∷ 1 ∷ 2 ∷ 0 ∷ 0 ∷ 0 ∷ 0 ∷ 0 ∷ 0 ∷ 0 ∷ 0  -- 3 3 B B u B 0.0 0.0 0.0 0.0
    ∷ 0 ∷ 0 ∷ 0 ∷ 0 ∷ 0 ∷ 0 ∷ 0 ∷ 0 ∷ 0 ∷ 0 ∷ 0 ∷ 0 ∷ 0 ∷ 0 ∷ 0 ∷ 0
    ∷ 0x47 ∷ 0x52 ∷ 0 ∷ 4 ∷ 1 ∷ 1 ∷ 1 ∷ 2 ∷ 0 ∷ 0 ∷ 0 ∷ 0 ∷ 0 ∷ 0 ∷ 0 ∷ 0  -- 4 4 B B u B 0.0 0.0 0.0 0.0
    ∷ 0 ∷ 0 ∷ 0 ∷ 0 ∷ 0 ∷ 0 ∷ 0 ∷ 0 ∷ 0 ∷ 0 ∷ 0 ∷ 0 ∷ 0 ∷ 0 ∷ 0 ∷ 0
    ∷ 0x47 ∷ 0x52 ∷ 0 ∷ 5 ∷ 2 ∷ 2 ∷ 1 ∷ 2 ∷ 0 ∷ 0 ∷ 0 ∷ 0 ∷ 0 ∷ 0 ∷ 0 ∷ 50  -- 5 5 C C u B 0.0 0.0 0.0 5.0
    ∷ 0 ∷ 0 ∷ 0 ∷ 0 ∷ 0 ∷ 0 ∷ 0 ∷ 0 ∷ 0 ∷ 0 ∷ 0 ∷ 0 ∷ 0 ∷ 0 ∷ 0 ∷ 10
    ∷ 0x47 ∷ 0x52 ∷ 0 ∷ 6 ∷ 2 ∷ 2 ∷ 1 ∷ 2 ∷ 0 ∷ 0 ∷ 0 ∷ 0 ∷ 0 ∷ 0 ∷ 0 ∷ 50  -- 6 6 C C u B 0.0 0.0 0.0 5.0
    ∷ 0 ∷ 0 ∷ 0 ∷ 0 ∷ 0 ∷ 0 ∷ 0 ∷ 0 ∷ 0 ∷ 0 ∷ 0 ∷ 0 ∷ 0 ∷ 0 ∷ 0 ∷ 60
    ∷ 0x47 ∷ 0x52 ∷ 0 ∷ 7 ∷ 2 ∷ 2 ∷ 2 ∷ 2 ∷ 0 ∷ 0 ∷ 0 ∷ 0 ∷ 0 ∷ 0 ∷ 0 ∷ 0  -- 7 7 C C u C 0.0 0.0 0.0 0.0
    ∷ 0 ∷ 0 ∷ 0 ∷ 0 ∷ 0 ∷ 0 ∷ 0 ∷ 0 ∷ 0 ∷ 0 ∷ 0 ∷ 0 ∷ 0 ∷ 0 ∷ 0 ∷ 0
    ∷ 0x47 ∷ 0x52 ∷ 0 ∷ 8 ∷ 2 ∷ 2 ∷ 2 ∷ 2 ∷ 0 ∷ 0 ∷ 0 ∷ 0 ∷ 0 ∷ 0 ∷ 0 ∷ 0  -- 8 8 C C u C 0.0 0.0 0.0 0.0
    ∷ 0 ∷ 0 ∷ 0 ∷ 0 ∷ 0 ∷ 0 ∷ 0 ∷ 0 ∷ 0 ∷ 0 ∷ 0 ∷ 0 ∷ 0 ∷ 0 ∷ 0 ∷ 0
    ∷ []

-- The new lower grade is C, the worse of the two defect grades: prerequisites do not count.
-- The designated grade stays A: units 5 to 7 recover to it, and unit 8 starts it at S.
unfoldable pub recovery_under_another_lower_plan : List ℕ
recovery_under_another_lower_plan =
    peach_plan
    ++ (0x53 ∷ 0x55 ∷ 0 ∷ 1 ∷ 0 ∷ 0 ∷ 0 ∷ 0 ∷ 0 ∷ 0 ∷ 0 ∷ 12 ∷ 0 ∷ 1  -- 1: 0,0,0,12;A;1
    ∷ 0x53 ∷ 0x55 ∷ 0 ∷ 2 ∷ 0 ∷ 0 ∷ 0 ∷ 0 ∷ 0 ∷ 0 ∷ 0 ∷ 12 ∷ 0 ∷ 1  -- 2: 0,0,0,12;A;1
    ∷ 0x53 ∷ 0x55 ∷ 0 ∷ 3 ∷ 0 ∷ 0 ∷ 0 ∷ 0 ∷ 0 ∷ 0 ∷ 0 ∷ 18 ∷ 3 ∷ 1  -- 3: 0,0,0,18;S;1
    ∷ 0x53 ∷ 0x55 ∷ 0 ∷ 4 ∷ 0 ∷ 0 ∷ 0 ∷ 0 ∷ 0 ∷ 0 ∷ 0 ∷ 18 ∷ 3 ∷ 1  -- 4: 0,0,0,18;S;1
    ∷ 0x53 ∷ 0x55 ∷ 0 ∷ 5 ∷ 0 ∷ 0 ∷ 0 ∷ 0 ∷ 0 ∷ 1 ∷ 0 ∷ 2 ∷ 0 ∷ 1  -- 5: 0,0,1,2;A;1
    ∷ 0x53 ∷ 0x55 ∷ 0 ∷ 6 ∷ 0 ∷ 0 ∷ 0 ∷ 0 ∷ 0 ∷ 1 ∷ 0 ∷ 2 ∷ 0 ∷ 1  -- 6: 0,0,1,2;A;1
    ∷ 0x53 ∷ 0x55 ∷ 0 ∷ 7 ∷ 0 ∷ 0 ∷ 0 ∷ 0 ∷ 0 ∷ 1 ∷ 0 ∷ 2 ∷ 0 ∷ 1  -- 7: 0,0,1,2;A;1
    ∷ 0x53 ∷ 0x55 ∷ 0 ∷ 8 ∷ 0 ∷ 0 ∷ 0 ∷ 1 ∷ 0 ∷ 3 ∷ 0 ∷ 3 ∷ 0 ∷ 1  -- 8: 0,1,3,3;A;1
    ∷ [])

unfoldable pub recovery_under_another_lower_plan_results : List ℕ
recovery_under_another_lower_plan_results =
    0x47 ∷ 0x52 ∷ 0 ∷ 1 ∷ 1 ∷ 1 ∷ 0 ∷ 1 ∷ 0 ∷ 0 ∷ 0 ∷ 0 ∷ 0 ∷ 0 ∷ 0 ∷ 40  -- 1 1 B B f A 0.0 0.0 0.0 4.0
    ∷ 0 ∷ 0 ∷ 0 ∷ 0 ∷ 0 ∷ 0 ∷ 0 ∷ 0 ∷ 0 ∷ 0 ∷ 0 ∷ 0 ∷ 0 ∷ 0 ∷ 0 ∷ 30
    ∷ 0x47 ∷ 0x52 ∷ 0 ∷ 2 ∷ 1 ∷ 1 ∷ 0 ∷ 1 ∷ 0 ∷ 0 ∷ 0 ∷ 0 ∷ 0 ∷ 0 ∷ 0 ∷ 40  -- 2 2 B B f A 0.0 0.0 0.0 4.0
    ∷ 0 ∷ 0 ∷ 0 ∷ 0 ∷ 0 ∷ 0 ∷ 0 ∷ 0 ∷ 0 ∷ 0 ∷ 0 ∷ 0 ∷ 0 ∷ 0 ∷ 0 ∷ 60
    ∷ 0x47 ∷ 0x52 ∷ 0 ∷ 3 ∷ 3 ∷ 3 ∷ 1 ∷ 2 ∷ 0 ∷ 0 ∷ 0 ∷ 0 ∷ 0 ∷ 0 ∷ 0 ∷ 50  -- 3 3 S S u B 0.0 0.0 0.0 5.0
    ∷ 0 ∷ 0 ∷ 0 ∷ 0 ∷ 0 ∷ 0 ∷ 0 ∷ 0 ∷ 0 ∷ 0 ∷ 0 ∷ 0 ∷ 0 ∷ 0 ∷ 0 ∷ 30
    ∷ 0x47 ∷ 0x52 ∷ 0 ∷ 4 ∷ 3 ∷ 3 ∷ 1 ∷ 2 ∷ 0 ∷ 0 ∷ 0 ∷ 0 ∷ 0 ∷ 0 ∷ 0 ∷ 50  -- 4 4 S S u B 0.0 0.0 0.0 5.0
    ∷ 0 ∷ 0 ∷ 0 ∷ 0 ∷ 0 ∷ 0 ∷ 0 ∷ 0 ∷ 0 ∷ 0 ∷ 0 ∷ 0 ∷ 0 ∷ 0 ∷ 0 ∷ 60
    ∷ 0x47 ∷ 0x52 ∷ 0 ∷ 5 ∷ 0 ∷ 0 ∷ 2 ∷ 3 ∷ 0 ∷ 0 ∷ 0 ∷ 0 ∷ 0 ∷ 0 ∷ 0 ∷ 0  -- 5 5 A A r C 0.0 0.0 0.0 0.0
    ∷ 0 ∷ 0 ∷ 0 ∷ 0 ∷ 0 ∷ 0 ∷ 0 ∷ 0 ∷ 0 ∷ 0 ∷ 0 ∷ 0 ∷ 0 ∷ 0 ∷ 0 ∷ 0
    ∷ 0x47 ∷ 0x52 ∷ 0 ∷ 6 ∷ 0 ∷ 0 ∷ 2 ∷ 3 ∷ 0 ∷ 0 ∷ 0 ∷ 0 ∷ 0 ∷ 0 ∷ 0 ∷ 0  -- 6 6 A A r C 0.0 0.0 0.0 0.0
    ∷ 0 ∷ 0 ∷ 0 ∷ 0 ∷ 0 ∷ 0 ∷ 0 ∷ 0 ∷ 0 ∷ 0 ∷ 0 ∷ 0 ∷ 0 ∷ 0 ∷ 0 ∷ 0
    ∷ 0x47 ∷ 0x52 ∷ 0 ∷ 7 ∷ 0 ∷ 0 ∷ 2 ∷ 3 ∷ 0 ∷ 0 ∷ 0 ∷ 0 ∷ 0 ∷ 0 ∷ 0 ∷ 0  -- 7 7 A A r C 0.0 0.0 0.0 0.0
    ∷ 0 ∷ 0 ∷ 0 ∷ 0 ∷ 0 ∷ 0 ∷ 0 ∷ 0 ∷ 0 ∷ 0 ∷ 0 ∷ 0 ∷ 0 ∷ 0 ∷ 0 ∷ 0
    ∷ 0x47 ∷ 0x52 ∷ 0 ∷ 8 ∷ 0 ∷ 0 ∷ 0 ∷ 0 ∷ 0 ∷ 0 ∷ 0 ∷ 0 ∷ 0 ∷ 10 ∷ 0 ∷ 20  -- 8 8 A A m A 0.0 0.0 1.0 2.0
    ∷ 0 ∷ 0 ∷ 0 ∷ 0 ∷ 0 ∷ 0 ∷ 0 ∷ 0 ∷ 0 ∷ 0 ∷ 0 ∷ 0 ∷ 0 ∷ 0 ∷ 0 ∷ 0
    ∷ []

-- B is better than C, the new lower grade, and keeps step 3, though not better than the old one:
-- unit 5, at the T of C in every class, stays at its S. As a unit of B it would fail.
unfoldable pub redesignation_after_another_lower_plan : List ℕ
redesignation_after_another_lower_plan =
    peach_plan
    ++ (0x53 ∷ 0x55 ∷ 0 ∷ 1 ∷ 0 ∷ 0 ∷ 0 ∷ 0 ∷ 0 ∷ 0 ∷ 0 ∷ 12 ∷ 0 ∷ 1  -- 1: 0,0,0,12;A;1
    ∷ 0x53 ∷ 0x55 ∷ 0 ∷ 2 ∷ 0 ∷ 0 ∷ 0 ∷ 0 ∷ 0 ∷ 0 ∷ 0 ∷ 12 ∷ 0 ∷ 1  -- 2: 0,0,0,12;A;1
    ∷ 0x53 ∷ 0x55 ∷ 0 ∷ 3 ∷ 0 ∷ 0 ∷ 0 ∷ 0 ∷ 0 ∷ 0 ∷ 0 ∷ 18 ∷ 0 ∷ 1  -- 3: 0,0,0,18;A;1
    ∷ 0x53 ∷ 0x55 ∷ 0 ∷ 4 ∷ 0 ∷ 0 ∷ 0 ∷ 0 ∷ 0 ∷ 0 ∷ 0 ∷ 18 ∷ 0 ∷ 1  -- 4: 0,0,0,18;A;1
    ∷ 0x52 ∷ 0x44 ∷ 1  -- redesignation to B
    ∷ 0x53 ∷ 0x55 ∷ 0 ∷ 5 ∷ 0 ∷ 2 ∷ 0 ∷ 5 ∷ 0 ∷ 6 ∷ 0 ∷ 4 ∷ 0 ∷ 1  -- 5: 2,5,6,4;A;1
    ∷ [])

unfoldable pub redesignation_after_another_lower_plan_results : List ℕ
redesignation_after_another_lower_plan_results =
    0x47 ∷ 0x52 ∷ 0 ∷ 1 ∷ 1 ∷ 1 ∷ 0 ∷ 1 ∷ 0 ∷ 0 ∷ 0 ∷ 0 ∷ 0 ∷ 0 ∷ 0 ∷ 40  -- 1 1 B B f A 0.0 0.0 0.0 4.0
    ∷ 0 ∷ 0 ∷ 0 ∷ 0 ∷ 0 ∷ 0 ∷ 0 ∷ 0 ∷ 0 ∷ 0 ∷ 0 ∷ 0 ∷ 0 ∷ 0 ∷ 0 ∷ 30
    ∷ 0x47 ∷ 0x52 ∷ 0 ∷ 2 ∷ 1 ∷ 1 ∷ 0 ∷ 1 ∷ 0 ∷ 0 ∷ 0 ∷ 0 ∷ 0 ∷ 0 ∷ 0 ∷ 40  -- 2 2 B B f A 0.0 0.0 0.0 4.0
    ∷ 0 ∷ 0 ∷ 0 ∷ 0 ∷ 0 ∷ 0 ∷ 0 ∷ 0 ∷ 0 ∷ 0 ∷ 0 ∷ 0 ∷ 0 ∷ 0 ∷ 0 ∷ 60
    ∷ 0x47 ∷ 0x52 ∷ 0 ∷ 3 ∷ 2 ∷ 2 ∷ 1 ∷ 2 ∷ 0 ∷ 0 ∷ 0 ∷ 0 ∷ 0 ∷ 0 ∷ 0 ∷ 50  -- 3 3 C C u B 0.0 0.0 0.0 5.0
    ∷ 0 ∷ 0 ∷ 0 ∷ 0 ∷ 0 ∷ 0 ∷ 0 ∷ 0 ∷ 0 ∷ 0 ∷ 0 ∷ 0 ∷ 0 ∷ 0 ∷ 0 ∷ 30
    ∷ 0x47 ∷ 0x52 ∷ 0 ∷ 4 ∷ 2 ∷ 2 ∷ 1 ∷ 2 ∷ 0 ∷ 0 ∷ 0 ∷ 0 ∷ 0 ∷ 0 ∷ 0 ∷ 50  -- 4 4 C C u B 0.0 0.0 0.0 5.0
    ∷ 0 ∷ 0 ∷ 0 ∷ 0 ∷ 0 ∷ 0 ∷ 0 ∷ 0 ∷ 0 ∷ 0 ∷ 0 ∷ 0 ∷ 0 ∷ 0 ∷ 0 ∷ 60
    ∷ 0x47 ∷ 0x52 ∷ 0 ∷ 5 ∷ 2 ∷ 2 ∷ 2 ∷ 2 ∷ 0 ∷ 10 ∷ 0 ∷ 10 ∷ 0 ∷ 10 ∷ 0 ∷ 20  -- 5 5 C C u C 1.0 1.0 1.0 2.0
    ∷ 0 ∷ 0 ∷ 0 ∷ 0 ∷ 0 ∷ 0 ∷ 0 ∷ 0 ∷ 0 ∷ 0 ∷ 0 ∷ 0 ∷ 0 ∷ 0 ∷ 0 ∷ 0
    ∷ []

pub record LowerPlanSheets : Type 0 where
  pub every_lower_plan_holds : Graded every_lower_plan 7 173 every_lower_plan_results
  pub one_failure_behind_start_of_step_three_holds : Graded one_failure_behind_start_of_step_three 4 131 one_failure_behind_start_of_step_three_results
  pub three_failures_in_step_three_holds : Graded three_failures_in_step_three 6 159 three_failures_in_step_three_results
  pub worse_failure_first_in_step_three_holds : Graded worse_failure_first_in_step_three 5 145 worse_failure_first_in_step_three_results
  pub worse_failure_second_in_step_three_holds : Graded worse_failure_second_in_step_three 5 145 worse_failure_second_in_step_three_results
  pub unit_that_meets_between_failures_in_step_three_holds : Graded unit_that_meets_between_failures_in_step_three 6 159 unit_that_meets_between_failures_in_step_three_results
  pub break_between_failures_in_step_three_holds : Graded break_between_failures_in_step_three 5 147 break_between_failures_in_step_three_results
  pub redesignation_between_failures_in_step_three_holds : Graded redesignation_between_failures_in_step_three 5 148 redesignation_between_failures_in_step_three_results
  pub end_of_step_three_between_failures_holds : Graded end_of_step_three_between_failures 5 148 end_of_step_three_between_failures_results
  pub run_before_another_lower_plan_holds : Graded run_before_another_lower_plan 8 187 run_before_another_lower_plan_results
  pub recovery_under_another_lower_plan_holds : Graded recovery_under_another_lower_plan 8 187 recovery_under_another_lower_plan_results
  pub redesignation_after_another_lower_plan_holds : Graded redesignation_after_another_lower_plan 5 148 redesignation_after_another_lower_plan_results

-- ---- how far a class is over

-- As many defects as there may be. Over in total by 1+8,000-6-4 = 7,991.0, which is 01 38 26 in
-- tenths; in the others by 1,999.0, 1,997.0 and 1,995.0.
unfoldable pub overshoot_above_two_bytes : List ℕ
overshoot_above_two_bytes =
    peach_plan
    ++ (0x53 ∷ 0x55 ∷ 0 ∷ 1 ∷ 7 ∷ 208 ∷ 7 ∷ 208 ∷ 7 ∷ 208 ∷ 7 ∷ 208 ∷ 0 ∷ 1  -- 1: 2000,2000,2000,2000;A;1
    ∷ [])

unfoldable pub overshoot_above_two_bytes_results : List ℕ
overshoot_above_two_bytes_results =
    0x47 ∷ 0x52 ∷ 0 ∷ 1 ∷ 3 ∷ 3 ∷ 0 ∷ 1 ∷ 0 ∷ 5 ∷ 0 ∷ 20 ∷ 0 ∷ 30 ∷ 0 ∷ 40  -- 1 1 S S f A 0.5 2.0 3.0 4.0
    ∷ 0 ∷ 0 ∷ 78 ∷ 22 ∷ 0 ∷ 0 ∷ 78 ∷ 2 ∷ 0 ∷ 0 ∷ 77 ∷ 238 ∷ 0 ∷ 1 ∷ 56 ∷ 38
    ∷ []

-- Total of unit 1 is the least overshoot that has three bytes, 1.1+6,563-6.5-4 = 6,553.6. That of
-- unit 2, from L, is the largest that has two, 4+6,560-6.5-4 = 6,553.5.
-- The peach plan, but total at A 1.1/6.5/4.
unfoldable pub overshoots_around_two_bytes : List ℕ
overshoots_around_two_bytes =
    set (set peach_plan 22 11) 24 65
    ++ (0x53 ∷ 0x55 ∷ 0 ∷ 1 ∷ 7 ∷ 208 ∷ 7 ∷ 208 ∷ 7 ∷ 208 ∷ 2 ∷ 51 ∷ 0 ∷ 1  -- 1: 2000,2000,2000,563;A;1
    ∷ 0x53 ∷ 0x55 ∷ 0 ∷ 2 ∷ 7 ∷ 208 ∷ 7 ∷ 208 ∷ 7 ∷ 208 ∷ 2 ∷ 48 ∷ 0 ∷ 1  -- 2: 2000,2000,2000,560;A;1
    ∷ [])

unfoldable pub overshoots_around_two_bytes_results : List ℕ
overshoots_around_two_bytes_results =
    0x47 ∷ 0x52 ∷ 0 ∷ 1 ∷ 3 ∷ 3 ∷ 0 ∷ 1 ∷ 0 ∷ 5 ∷ 0 ∷ 20 ∷ 0 ∷ 30 ∷ 0 ∷ 40  -- 1 1 S S f A 0.5 2.0 3.0 4.0
    ∷ 0 ∷ 0 ∷ 78 ∷ 22 ∷ 0 ∷ 0 ∷ 78 ∷ 2 ∷ 0 ∷ 0 ∷ 77 ∷ 238 ∷ 0 ∷ 1 ∷ 0 ∷ 0
    ∷ 0x47 ∷ 0x52 ∷ 0 ∷ 2 ∷ 3 ∷ 3 ∷ 0 ∷ 1 ∷ 0 ∷ 5 ∷ 0 ∷ 20 ∷ 0 ∷ 30 ∷ 0 ∷ 40  -- 2 2 S S f A 0.5 2.0 3.0 4.0
    ∷ 0 ∷ 0 ∷ 78 ∷ 27 ∷ 0 ∷ 0 ∷ 78 ∷ 17 ∷ 0 ∷ 0 ∷ 78 ∷ 2 ∷ 0 ∷ 0 ∷ 255 ∷ 255
    ∷ []

-- Unit 1 fails in every class from S, unit 2 from L, each by its own T and L. Unit 3 fails B, from
-- the S of B: against the L of A it would be over by 1.5, 4.0, 2.0 and 9.0.
unfoldable pub overshoots_in_every_class : List ℕ
overshoots_in_every_class =
    peach_plan
    ++ (0x53 ∷ 0x55 ∷ 0 ∷ 1 ∷ 0 ∷ 2 ∷ 0 ∷ 5 ∷ 0 ∷ 8 ∷ 0 ∷ 2 ∷ 0 ∷ 1  -- 1: 2,5,8,2;A;1
    ∷ 0x53 ∷ 0x55 ∷ 0 ∷ 2 ∷ 0 ∷ 1 ∷ 0 ∷ 4 ∷ 0 ∷ 5 ∷ 0 ∷ 6 ∷ 0 ∷ 1  -- 2: 1,4,5,6;A;1
    ∷ 0x53 ∷ 0x55 ∷ 0 ∷ 3 ∷ 0 ∷ 3 ∷ 0 ∷ 8 ∷ 0 ∷ 9 ∷ 0 ∷ 3 ∷ 0 ∷ 1  -- 3: 3,8,9,3;A;1
    ∷ [])

unfoldable pub overshoots_in_every_class_results : List ℕ
overshoots_in_every_class_results =
    0x47 ∷ 0x52 ∷ 0 ∷ 1 ∷ 1 ∷ 1 ∷ 0 ∷ 1 ∷ 0 ∷ 5 ∷ 0 ∷ 20 ∷ 0 ∷ 30 ∷ 0 ∷ 40  -- 1 1 B B f A 0.5 2.0 3.0 4.0
    ∷ 0 ∷ 0 ∷ 0 ∷ 10 ∷ 0 ∷ 0 ∷ 0 ∷ 20 ∷ 0 ∷ 0 ∷ 0 ∷ 30 ∷ 0 ∷ 0 ∷ 0 ∷ 80
    ∷ 0x47 ∷ 0x52 ∷ 0 ∷ 2 ∷ 1 ∷ 1 ∷ 0 ∷ 1 ∷ 0 ∷ 5 ∷ 0 ∷ 20 ∷ 0 ∷ 30 ∷ 0 ∷ 40  -- 2 2 B B f A 0.5 2.0 3.0 4.0
    ∷ 0 ∷ 0 ∷ 0 ∷ 5 ∷ 0 ∷ 0 ∷ 0 ∷ 25 ∷ 0 ∷ 0 ∷ 0 ∷ 20 ∷ 0 ∷ 0 ∷ 0 ∷ 100
    ∷ 0x47 ∷ 0x52 ∷ 0 ∷ 3 ∷ 2 ∷ 2 ∷ 1 ∷ 2 ∷ 0 ∷ 10 ∷ 0 ∷ 30 ∷ 0 ∷ 30 ∷ 0 ∷ 50  -- 3 3 C C u B 1.0 3.0 3.0 5.0
    ∷ 0 ∷ 0 ∷ 0 ∷ 10 ∷ 0 ∷ 0 ∷ 0 ∷ 30 ∷ 0 ∷ 0 ∷ 0 ∷ 20 ∷ 0 ∷ 0 ∷ 0 ∷ 80
    ∷ []

-- The raw value of unit 1 is 0.9+4-0.9 = 4, which is L and meets; that of unit 2 is 4+1-0.9 = 4.1,
-- a tenth above it.
-- The peach plan, but total at A 0.9/0.9/4.
unfoldable pub raw_value_at_limit : List ℕ
raw_value_at_limit =
    set (set peach_plan 22 9) 24 9
    ++ (0x53 ∷ 0x55 ∷ 0 ∷ 1 ∷ 0 ∷ 0 ∷ 0 ∷ 0 ∷ 0 ∷ 0 ∷ 0 ∷ 4 ∷ 0 ∷ 1  -- 1: 0,0,0,4;A;1
    ∷ 0x53 ∷ 0x55 ∷ 0 ∷ 2 ∷ 0 ∷ 0 ∷ 0 ∷ 0 ∷ 0 ∷ 0 ∷ 0 ∷ 1 ∷ 0 ∷ 1  -- 2: 0,0,0,1;A;1
    ∷ [])

unfoldable pub raw_value_at_limit_results : List ℕ
raw_value_at_limit_results =
    0x47 ∷ 0x52 ∷ 0 ∷ 1 ∷ 0 ∷ 0 ∷ 0 ∷ 0 ∷ 0 ∷ 0 ∷ 0 ∷ 0 ∷ 0 ∷ 0 ∷ 0 ∷ 40  -- 1 1 A A m A 0.0 0.0 0.0 4.0
    ∷ 0 ∷ 0 ∷ 0 ∷ 0 ∷ 0 ∷ 0 ∷ 0 ∷ 0 ∷ 0 ∷ 0 ∷ 0 ∷ 0 ∷ 0 ∷ 0 ∷ 0 ∷ 0
    ∷ 0x47 ∷ 0x52 ∷ 0 ∷ 2 ∷ 1 ∷ 1 ∷ 0 ∷ 1 ∷ 0 ∷ 0 ∷ 0 ∷ 0 ∷ 0 ∷ 0 ∷ 0 ∷ 40  -- 2 2 B B f A 0.0 0.0 0.0 4.0
    ∷ 0 ∷ 0 ∷ 0 ∷ 0 ∷ 0 ∷ 0 ∷ 0 ∷ 0 ∷ 0 ∷ 0 ∷ 0 ∷ 0 ∷ 0 ∷ 0 ∷ 0 ∷ 1
    ∷ []

-- Without a plan nothing is over, however many defects there are.
unfoldable pub no_overshoot_without_plan : List ℕ
no_overshoot_without_plan =
    peach_plan
    ++ (0x53 ∷ 0x55 ∷ 0 ∷ 1 ∷ 0 ∷ 5 ∷ 0 ∷ 0 ∷ 0 ∷ 0 ∷ 0 ∷ 0 ∷ 0 ∷ 1  -- 1: 5,0,0,0;A;1
    ∷ 0x53 ∷ 0x55 ∷ 0 ∷ 2 ∷ 0 ∷ 5 ∷ 0 ∷ 0 ∷ 0 ∷ 0 ∷ 0 ∷ 0 ∷ 0 ∷ 1  -- 2: 5,0,0,0;A;1
    ∷ 0x53 ∷ 0x55 ∷ 0 ∷ 3 ∷ 7 ∷ 208 ∷ 7 ∷ 208 ∷ 7 ∷ 208 ∷ 7 ∷ 208 ∷ 0 ∷ 1  -- 3: 2000,2000,2000,2000;A;1
    ∷ [])

unfoldable pub no_overshoot_without_plan_results : List ℕ
no_overshoot_without_plan_results =
    0x47 ∷ 0x52 ∷ 0 ∷ 1 ∷ 3 ∷ 3 ∷ 0 ∷ 1 ∷ 0 ∷ 5 ∷ 0 ∷ 0 ∷ 0 ∷ 0 ∷ 0 ∷ 0  -- 1 1 S S f A 0.5 0.0 0.0 0.0
    ∷ 0 ∷ 0 ∷ 0 ∷ 40 ∷ 0 ∷ 0 ∷ 0 ∷ 0 ∷ 0 ∷ 0 ∷ 0 ∷ 0 ∷ 0 ∷ 0 ∷ 0 ∷ 0
    ∷ 0x47 ∷ 0x52 ∷ 0 ∷ 2 ∷ 3 ∷ 3 ∷ 0 ∷ 1 ∷ 0 ∷ 5 ∷ 0 ∷ 0 ∷ 0 ∷ 0 ∷ 0 ∷ 0  -- 2 2 S S f A 0.5 0.0 0.0 0.0
    ∷ 0 ∷ 0 ∷ 0 ∷ 45 ∷ 0 ∷ 0 ∷ 0 ∷ 0 ∷ 0 ∷ 0 ∷ 0 ∷ 0 ∷ 0 ∷ 0 ∷ 0 ∷ 0
    ∷ 0x47 ∷ 0x52 ∷ 0 ∷ 3 ∷ 3 ∷ 3 ∷ 3 ∷ 2 ∷ 0 ∷ 0 ∷ 0 ∷ 0 ∷ 0 ∷ 0 ∷ 0 ∷ 0  -- 3 3 S S u S 0.0 0.0 0.0 0.0
    ∷ 0 ∷ 0 ∷ 0 ∷ 0 ∷ 0 ∷ 0 ∷ 0 ∷ 0 ∷ 0 ∷ 0 ∷ 0 ∷ 0 ∷ 0 ∷ 0 ∷ 0 ∷ 0
    ∷ []

pub record OvershootSheets : Type 0 where
  pub overshoot_above_two_bytes_holds : Graded overshoot_above_two_bytes 1 89 overshoot_above_two_bytes_results
  pub overshoots_around_two_bytes_holds : Graded overshoots_around_two_bytes 2 103 overshoots_around_two_bytes_results
  pub overshoots_in_every_class_holds : Graded overshoots_in_every_class 3 117 overshoots_in_every_class_results
  pub raw_value_at_limit_holds : Graded raw_value_at_limit 2 103 raw_value_at_limit_results
  pub no_overshoot_without_plan_holds : Graded no_overshoot_without_plan 3 117 no_overshoot_without_plan_results

-- ---- sheets with a defect fewer than another

-- `break_between_failures` with 2 minor defects in its last unit, and not 3.
unfoldable pub one_minor_defect_fewer : List ℕ
one_minor_defect_fewer =
    peach_plan
    ++ (0x53 ∷ 0x55 ∷ 0 ∷ 1 ∷ 0 ∷ 0 ∷ 0 ∷ 0 ∷ 0 ∷ 0 ∷ 0 ∷ 12 ∷ 0 ∷ 1  -- 1: 0,0,0,12;A;1
    ∷ 0x42 ∷ 0x4B  -- break
    ∷ 0x53 ∷ 0x55 ∷ 0 ∷ 2 ∷ 0 ∷ 0 ∷ 0 ∷ 0 ∷ 0 ∷ 0 ∷ 0 ∷ 12 ∷ 0 ∷ 1  -- 2: 0,0,0,12;A;1
    ∷ 0x53 ∷ 0x55 ∷ 0 ∷ 3 ∷ 0 ∷ 0 ∷ 0 ∷ 0 ∷ 0 ∷ 3 ∷ 0 ∷ 2 ∷ 0 ∷ 1  -- 3: 0,0,3,2;A;1
    ∷ [])

unfoldable pub one_minor_defect_fewer_results : List ℕ
one_minor_defect_fewer_results =
    0x47 ∷ 0x52 ∷ 0 ∷ 1 ∷ 1 ∷ 1 ∷ 0 ∷ 1 ∷ 0 ∷ 0 ∷ 0 ∷ 0 ∷ 0 ∷ 0 ∷ 0 ∷ 40  -- 1 1 B B f A 0.0 0.0 0.0 4.0
    ∷ 0 ∷ 0 ∷ 0 ∷ 0 ∷ 0 ∷ 0 ∷ 0 ∷ 0 ∷ 0 ∷ 0 ∷ 0 ∷ 0 ∷ 0 ∷ 0 ∷ 0 ∷ 30
    ∷ 0x47 ∷ 0x52 ∷ 0 ∷ 2 ∷ 1 ∷ 1 ∷ 0 ∷ 1 ∷ 0 ∷ 0 ∷ 0 ∷ 0 ∷ 0 ∷ 0 ∷ 0 ∷ 40  -- 2 2 B B f A 0.0 0.0 0.0 4.0
    ∷ 0 ∷ 0 ∷ 0 ∷ 0 ∷ 0 ∷ 0 ∷ 0 ∷ 0 ∷ 0 ∷ 0 ∷ 0 ∷ 0 ∷ 0 ∷ 0 ∷ 0 ∷ 30
    ∷ 0x47 ∷ 0x52 ∷ 0 ∷ 3 ∷ 0 ∷ 0 ∷ 0 ∷ 0 ∷ 0 ∷ 0 ∷ 0 ∷ 0 ∷ 0 ∷ 0 ∷ 0 ∷ 30  -- 3 3 A A m A 0.0 0.0 0.0 3.0
    ∷ 0 ∷ 0 ∷ 0 ∷ 0 ∷ 0 ∷ 0 ∷ 0 ∷ 0 ∷ 0 ∷ 0 ∷ 0 ∷ 0 ∷ 0 ∷ 0 ∷ 0 ∷ 0
    ∷ []

-- The peach sheet with 1 severe defect in its second unit, and not 2.
unfoldable pub one_severe_defect_fewer : List ℕ
one_severe_defect_fewer =
    peach_plan
    ++ (0x53 ∷ 0x55 ∷ 0 ∷ 1 ∷ 0 ∷ 0 ∷ 0 ∷ 1 ∷ 0 ∷ 2 ∷ 0 ∷ 4 ∷ 0 ∷ 0  -- 1: 0,1,2,4;A;0
    ∷ 0x53 ∷ 0x55 ∷ 0 ∷ 2 ∷ 0 ∷ 0 ∷ 0 ∷ 1 ∷ 0 ∷ 4 ∷ 0 ∷ 6 ∷ 0 ∷ 0  -- 2: 0,1,4,6;A;0
    ∷ 0x53 ∷ 0x55 ∷ 0 ∷ 3 ∷ 0 ∷ 0 ∷ 0 ∷ 1 ∷ 0 ∷ 3 ∷ 0 ∷ 3 ∷ 0 ∷ 0  -- 3: 0,1,3,3;A;0
    ∷ 0x53 ∷ 0x55 ∷ 0 ∷ 4 ∷ 0 ∷ 0 ∷ 0 ∷ 0 ∷ 0 ∷ 1 ∷ 0 ∷ 5 ∷ 0 ∷ 1  -- 4: 0,0,1,5;A;1
    ∷ 0x53 ∷ 0x55 ∷ 0 ∷ 5 ∷ 0 ∷ 0 ∷ 0 ∷ 1 ∷ 0 ∷ 2 ∷ 0 ∷ 2 ∷ 0 ∷ 1  -- 5: 0,1,2,2;A;1
    ∷ 0x53 ∷ 0x55 ∷ 0 ∷ 5 ∷ 0 ∷ 0 ∷ 0 ∷ 1 ∷ 0 ∷ 1 ∷ 0 ∷ 2 ∷ 0 ∷ 0  -- 5: 0,1,1,2;A;0
    ∷ 0x53 ∷ 0x55 ∷ 0 ∷ 7 ∷ 0 ∷ 1 ∷ 0 ∷ 0 ∷ 0 ∷ 0 ∷ 0 ∷ 0 ∷ 1 ∷ 0  -- 7: 1,0,0,0;B;0
    ∷ [])

unfoldable pub one_severe_defect_fewer_results : List ℕ
one_severe_defect_fewer_results =
    0x47 ∷ 0x52 ∷ 0 ∷ 1 ∷ 0 ∷ 0 ∷ 0 ∷ 0 ∷ 0 ∷ 0 ∷ 0 ∷ 0 ∷ 0 ∷ 0 ∷ 0 ∷ 20  -- 1 1 A A m A 0.0 0.0 0.0 2.0
    ∷ 0 ∷ 0 ∷ 0 ∷ 0 ∷ 0 ∷ 0 ∷ 0 ∷ 0 ∷ 0 ∷ 0 ∷ 0 ∷ 0 ∷ 0 ∷ 0 ∷ 0 ∷ 0
    ∷ 0x47 ∷ 0x52 ∷ 0 ∷ 2 ∷ 1 ∷ 1 ∷ 0 ∷ 1 ∷ 0 ∷ 0 ∷ 0 ∷ 0 ∷ 0 ∷ 10 ∷ 0 ∷ 40  -- 2 2 B B f A 0.0 0.0 1.0 4.0
    ∷ 0 ∷ 0 ∷ 0 ∷ 0 ∷ 0 ∷ 0 ∷ 0 ∷ 0 ∷ 0 ∷ 0 ∷ 0 ∷ 0 ∷ 0 ∷ 0 ∷ 0 ∷ 30
    ∷ 0x47 ∷ 0x52 ∷ 0 ∷ 3 ∷ 1 ∷ 1 ∷ 0 ∷ 1 ∷ 0 ∷ 0 ∷ 0 ∷ 0 ∷ 0 ∷ 10 ∷ 0 ∷ 40  -- 3 3 B B f A 0.0 0.0 1.0 4.0
    ∷ 0 ∷ 0 ∷ 0 ∷ 0 ∷ 0 ∷ 0 ∷ 0 ∷ 0 ∷ 0 ∷ 0 ∷ 0 ∷ 0 ∷ 0 ∷ 0 ∷ 0 ∷ 10
    ∷ 0x47 ∷ 0x52 ∷ 0 ∷ 4 ∷ 0 ∷ 0 ∷ 1 ∷ 3 ∷ 0 ∷ 0 ∷ 0 ∷ 0 ∷ 0 ∷ 0 ∷ 0 ∷ 0  -- 4 4 A A r B 0.0 0.0 0.0 0.0
    ∷ 0 ∷ 0 ∷ 0 ∷ 0 ∷ 0 ∷ 0 ∷ 0 ∷ 0 ∷ 0 ∷ 0 ∷ 0 ∷ 0 ∷ 0 ∷ 0 ∷ 0 ∷ 0
    ∷ 0x47 ∷ 0x52 ∷ 0 ∷ 5 ∷ 0 ∷ 1 ∷ 1 ∷ 3 ∷ 0 ∷ 0 ∷ 0 ∷ 0 ∷ 0 ∷ 0 ∷ 0 ∷ 0  -- 5 5 A B r B 0.0 0.0 0.0 0.0
    ∷ 0 ∷ 0 ∷ 0 ∷ 0 ∷ 0 ∷ 0 ∷ 0 ∷ 0 ∷ 0 ∷ 0 ∷ 0 ∷ 0 ∷ 0 ∷ 0 ∷ 0 ∷ 0
    ∷ 0x47 ∷ 0x52 ∷ 0 ∷ 5 ∷ 1 ∷ 1 ∷ 1 ∷ 2 ∷ 0 ∷ 0 ∷ 0 ∷ 0 ∷ 0 ∷ 0 ∷ 0 ∷ 0  -- 6 5 B B u B 0.0 0.0 0.0 0.0
    ∷ 0 ∷ 0 ∷ 0 ∷ 0 ∷ 0 ∷ 0 ∷ 0 ∷ 0 ∷ 0 ∷ 0 ∷ 0 ∷ 0 ∷ 0 ∷ 0 ∷ 0 ∷ 0
    ∷ 0x47 ∷ 0x52 ∷ 0 ∷ 7 ∷ 1 ∷ 1 ∷ 0 ∷ 0 ∷ 0 ∷ 5 ∷ 0 ∷ 0 ∷ 0 ∷ 0 ∷ 0 ∷ 0  -- 7 7 B B m A 0.5 0.0 0.0 0.0
    ∷ 0 ∷ 0 ∷ 0 ∷ 0 ∷ 0 ∷ 0 ∷ 0 ∷ 0 ∷ 0 ∷ 0 ∷ 0 ∷ 0 ∷ 0 ∷ 0 ∷ 0 ∷ 0
    ∷ []

-- `raw_value_at_limit` with no defect in its last unit, and not 1: it meets.
-- The peach plan, but total at A 0.9/0.9/4.
unfoldable pub no_defect_in_place_of_one : List ℕ
no_defect_in_place_of_one =
    set (set peach_plan 22 9) 24 9
    ++ (0x53 ∷ 0x55 ∷ 0 ∷ 1 ∷ 0 ∷ 0 ∷ 0 ∷ 0 ∷ 0 ∷ 0 ∷ 0 ∷ 4 ∷ 0 ∷ 1  -- 1: 0,0,0,4;A;1
    ∷ 0x53 ∷ 0x55 ∷ 0 ∷ 2 ∷ 0 ∷ 0 ∷ 0 ∷ 0 ∷ 0 ∷ 0 ∷ 0 ∷ 0 ∷ 0 ∷ 1  -- 2: 0,0,0,0;A;1
    ∷ [])

unfoldable pub no_defect_in_place_of_one_results : List ℕ
no_defect_in_place_of_one_results =
    0x47 ∷ 0x52 ∷ 0 ∷ 1 ∷ 0 ∷ 0 ∷ 0 ∷ 0 ∷ 0 ∷ 0 ∷ 0 ∷ 0 ∷ 0 ∷ 0 ∷ 0 ∷ 40  -- 1 1 A A m A 0.0 0.0 0.0 4.0
    ∷ 0 ∷ 0 ∷ 0 ∷ 0 ∷ 0 ∷ 0 ∷ 0 ∷ 0 ∷ 0 ∷ 0 ∷ 0 ∷ 0 ∷ 0 ∷ 0 ∷ 0 ∷ 0
    ∷ 0x47 ∷ 0x52 ∷ 0 ∷ 2 ∷ 0 ∷ 0 ∷ 0 ∷ 0 ∷ 0 ∷ 0 ∷ 0 ∷ 0 ∷ 0 ∷ 0 ∷ 0 ∷ 31  -- 2 2 A A m A 0.0 0.0 0.0 3.1
    ∷ 0 ∷ 0 ∷ 0 ∷ 0 ∷ 0 ∷ 0 ∷ 0 ∷ 0 ∷ 0 ∷ 0 ∷ 0 ∷ 0 ∷ 0 ∷ 0 ∷ 0 ∷ 0
    ∷ []

pub record FewerDefectSheets : Type 0 where
  pub one_minor_defect_fewer_holds : Graded one_minor_defect_fewer 3 119 one_minor_defect_fewer_results
  pub one_severe_defect_fewer_holds : Graded one_severe_defect_fewer 7 173 one_severe_defect_fewer_results
  pub no_defect_in_place_of_one_holds : Graded no_defect_in_place_of_one 2 103 no_defect_in_place_of_one_results

-- ---- refusals, most of them where two rows of the table apply

-- 1: all bytes of a plan but one.
unfoldable pub plan_cut_short : List ℕ
plan_cut_short = take 74 peach_plan

-- 1 and 2: another first mark, and a designated grade above C.
-- The peach plan, but mark 50 4D, designated S.
unfoldable pub grounds1_and2 : List ℕ
grounds1_and2 = set (set peach_plan 1 0x4D) 2 3

-- 2 and 3: a designated grade above C, and an L of 10,000.
-- The peach plan, but designated S, critical at A 0/0.5/1000.
unfoldable pub grounds2_and3 : List ℕ
grounds2_and3 = set (set (set peach_plan 2 3) 7 39) 8 16

-- 3 and 4: an S above its L in the first class, and an L of 10,000 in the last. Rows go over the
-- whole plan, one after the other, and not class by class.
-- The peach plan, but critical at A 0.6/0.5/0.5, total at C 2/17/1000.
unfoldable pub grounds3_and4 : List ℕ
grounds3_and4 = set (set (set peach_plan 4 6) 73 39) 74 16

-- 4 and 5: T smaller at B than at A in the first class, and an S above its L in the last.
-- The peach plan, but critical at B 0/0.4/1.6, total at C 7.1/17/7.
unfoldable pub grounds4_and5 : List ℕ
grounds4_and5 = set (set (set peach_plan 30 4) 32 16) 70 71

-- 5: T+L smaller at B than at A, with T equal.
-- The peach plan, but critical at B 0/0.5/0.4.
unfoldable pub ground5_by_sum : List ℕ
ground5_by_sum = set (set peach_plan 30 5) 32 4

-- 5: T smaller at C than at B, with T+L larger.
-- The peach plan, but total at C 2/11.9/7.
unfoldable pub ground5_by_tolerance : List ℕ
ground5_by_tolerance = set peach_plan 72 119

-- 6: one byte left, though it is the first of a mark; not 7.
unfoldable pub one_byte_left : List ℕ
one_byte_left =
    peach_plan
    ++ (0x53 ∷ 0x55 ∷ 0 ∷ 1 ∷ 0 ∷ 0 ∷ 0 ∷ 0 ∷ 0 ∷ 1 ∷ 0 ∷ 2 ∷ 0 ∷ 1  -- 1: 0,0,1,2;A;1
    ∷ 0x53  -- one byte
    ∷ [])

-- 6: the plan stands first and only there.
unfoldable pub second_plan : List ℕ
second_plan =
    peach_plan
    ++ (0x53 ∷ 0x55 ∷ 0 ∷ 1 ∷ 0 ∷ 0 ∷ 0 ∷ 0 ∷ 0 ∷ 1 ∷ 0 ∷ 2 ∷ 0 ∷ 1  -- 1: 0,0,1,2;A;1
    ∷ 0x50 ∷ 0x4C  -- the mark of a plan
    ∷ [])

-- 7: a redesignation cut short behind its mark; not 6.
unfoldable pub mark_alone : List ℕ
mark_alone =
    peach_plan
    ++ (0x53 ∷ 0x55 ∷ 0 ∷ 1 ∷ 0 ∷ 0 ∷ 0 ∷ 0 ∷ 0 ∷ 1 ∷ 0 ∷ 2 ∷ 0 ∷ 1  -- 1: 0,0,1,2;A;1
    ∷ 0x52 ∷ 0x44  -- 2 bytes of redesignation to B
    ∷ [])

-- 7 and 8: a unit cut short by its last byte, with a count of 2,001.
unfoldable pub grounds7_and8 : List ℕ
grounds7_and8 =
    peach_plan
    ++ (0x53 ∷ 0x55 ∷ 0 ∷ 1 ∷ 0 ∷ 0 ∷ 0 ∷ 0 ∷ 0 ∷ 1 ∷ 0 ∷ 2 ∷ 0 ∷ 1  -- 1: 0,0,1,2;A;1
    ∷ 0x53 ∷ 0x55 ∷ 0 ∷ 2 ∷ 7 ∷ 209 ∷ 0 ∷ 0 ∷ 0 ∷ 0 ∷ 0 ∷ 0 ∷ 0  -- 13 bytes of 2: 2001,0,0,0;A;1
    ∷ [])

-- 8 and 9: a count of 2,001 and a prerequisite of 4.
unfoldable pub grounds8_and9 : List ℕ
grounds8_and9 =
    peach_plan
    ++ (0x53 ∷ 0x55 ∷ 0 ∷ 1 ∷ 0 ∷ 0 ∷ 0 ∷ 0 ∷ 0 ∷ 1 ∷ 0 ∷ 2 ∷ 0 ∷ 1  -- 1: 0,0,1,2;A;1
    ∷ 0x53 ∷ 0x55 ∷ 0 ∷ 2 ∷ 0 ∷ 0 ∷ 0 ∷ 0 ∷ 0 ∷ 0 ∷ 7 ∷ 209 ∷ 4 ∷ 1  -- 2: 0,0,0,2001;4;1
    ∷ [])

-- 9, then 8: each record is checked wholly before the next.
unfoldable pub ground9_before8 : List ℕ
ground9_before8 =
    peach_plan
    ++ (0x53 ∷ 0x55 ∷ 0 ∷ 1 ∷ 0 ∷ 0 ∷ 0 ∷ 0 ∷ 0 ∷ 1 ∷ 0 ∷ 2 ∷ 4 ∷ 1  -- 1: 0,0,1,2;4;1
    ∷ 0x53 ∷ 0x55 ∷ 0 ∷ 2 ∷ 7 ∷ 209 ∷ 0 ∷ 0 ∷ 0 ∷ 0 ∷ 0 ∷ 0 ∷ 0 ∷ 1  -- 2: 2001,0,0,0;A;1
    ∷ [])

-- 9: recoverable is 0 or 1.
unfoldable pub recoverable_above1 : List ℕ
recoverable_above1 =
    peach_plan
    ++ (0x53 ∷ 0x55 ∷ 0 ∷ 1 ∷ 0 ∷ 0 ∷ 0 ∷ 0 ∷ 0 ∷ 1 ∷ 0 ∷ 2 ∷ 0 ∷ 1  -- 1: 0,0,1,2;A;1
    ∷ 0x53 ∷ 0x55 ∷ 0 ∷ 2 ∷ 0 ∷ 0 ∷ 0 ∷ 0 ∷ 0 ∷ 1 ∷ 0 ∷ 2 ∷ 0 ∷ 2  -- 2: 0,0,1,2;A;2
    ∷ [])

-- 10: Substandard cannot be designated.
unfoldable pub new_grade_above_c : List ℕ
new_grade_above_c =
    peach_plan
    ++ (0x53 ∷ 0x55 ∷ 0 ∷ 1 ∷ 0 ∷ 0 ∷ 0 ∷ 0 ∷ 0 ∷ 1 ∷ 0 ∷ 2 ∷ 0 ∷ 1  -- 1: 0,0,1,2;A;1
    ∷ 0x52 ∷ 0x44 ∷ 3  -- redesignation to S
    ∷ [])

-- 11, then 10: the first record met is returned.
unfoldable pub ground11_before10 : List ℕ
ground11_before10 =
    peach_plan
    ++ (0x52 ∷ 0x44 ∷ 0  -- redesignation to A
    ∷ 0x52 ∷ 0x44 ∷ 3  -- redesignation to S
    ∷ [])

-- 11: to B is another grade than A of the plan, back to A another than B, and A again is not.
unfoldable pub ground11_by_last_redesignation : List ℕ
ground11_by_last_redesignation =
    peach_plan
    ++ (0x52 ∷ 0x44 ∷ 1  -- redesignation to B
    ∷ 0x53 ∷ 0x55 ∷ 0 ∷ 1 ∷ 0 ∷ 0 ∷ 0 ∷ 0 ∷ 0 ∷ 1 ∷ 0 ∷ 2 ∷ 0 ∷ 1  -- 1: 0,0,1,2;A;1
    ∷ 0x52 ∷ 0x44 ∷ 0  -- redesignation to A
    ∷ 0x52 ∷ 0x44 ∷ 0  -- redesignation to A
    ∷ [])

-- 11: the grade designated is A, though B is in force. And 13 in a buffer without room: a refusal
-- of the sheet comes first.
unfoldable pub ground11_in_step_three : List ℕ
ground11_in_step_three =
    peach_plan
    ++ (0x53 ∷ 0x55 ∷ 0 ∷ 1 ∷ 0 ∷ 0 ∷ 0 ∷ 0 ∷ 0 ∷ 0 ∷ 0 ∷ 12 ∷ 0 ∷ 1  -- 1: 0,0,0,12;A;1
    ∷ 0x53 ∷ 0x55 ∷ 0 ∷ 2 ∷ 0 ∷ 0 ∷ 0 ∷ 0 ∷ 0 ∷ 0 ∷ 0 ∷ 12 ∷ 0 ∷ 1  -- 2: 0,0,0,12;A;1
    ∷ 0x52 ∷ 0x44 ∷ 0  -- redesignation to A
    ∷ [])

-- 13: at the sheet's length, by the units and not by the records.
unfoldable pub buffer_without_room : List ℕ
buffer_without_room =
    peach_plan
    ++ (0x53 ∷ 0x55 ∷ 0 ∷ 1 ∷ 0 ∷ 0 ∷ 0 ∷ 0 ∷ 0 ∷ 1 ∷ 0 ∷ 2 ∷ 0 ∷ 1  -- 1: 0,0,1,2;A;1
    ∷ 0x42 ∷ 0x4B  -- break
    ∷ 0x53 ∷ 0x55 ∷ 0 ∷ 2 ∷ 0 ∷ 0 ∷ 0 ∷ 0 ∷ 0 ∷ 0 ∷ 0 ∷ 12 ∷ 0 ∷ 1  -- 2: 0,0,0,12;A;1
    ∷ [])

pub record RefusedSheets : Type 0 where
  pub plan_cut_short_holds : RefusedWith 1 plan_cut_short 0
  pub grounds_1_and_2 : RefusedWith 1 grounds1_and2 0
  pub grounds_2_and_3 : RefusedWith 2 grounds2_and3 0
  pub grounds_3_and_4 : RefusedWith 3 grounds3_and4 0
  pub grounds_4_and_5 : RefusedWith 4 grounds4_and5 0
  pub ground_5_by_sum : RefusedWith 5 ground5_by_sum 0
  pub ground_5_by_tolerance : RefusedWith 5 ground5_by_tolerance 0
  pub one_byte_left_holds : RefusedWith 6 one_byte_left 89
  pub second_plan_holds : RefusedWith 6 second_plan 89
  pub mark_alone_holds : RefusedWith 7 mark_alone 89
  pub grounds_7_and_8 : RefusedWith 7 grounds7_and8 89
  pub grounds_8_and_9 : RefusedWith 8 grounds8_and9 89
  pub ground_9_before_8 : RefusedWith 9 ground9_before8 75
  pub recoverable_above_1 : RefusedWith 9 recoverable_above1 89
  pub new_grade_above_c_holds : RefusedWith 10 new_grade_above_c 89
  pub ground_11_before_10 : RefusedWith 11 ground11_before10 75
  pub ground_11_by_last_redesignation : RefusedWith 11 ground11_by_last_redesignation 95
  pub ground_11_in_step_three : RefusedWith 11 ground11_in_step_three 103
  pub buffer_without_room_holds : WithoutRoom 13 buffer_without_room 2 105

-- ---- refusals behind as many units as there may be

-- 12: one unit too many. And 13 in a buffer without room.
unfoldable pub ground12 : List ℕ
ground12 =
    peach_plan
    ++ repeated 1000
    (0x53 ∷ 0x55 ∷ 0 ∷ 1 ∷ 0 ∷ 0 ∷ 0 ∷ 0 ∷ 0 ∷ 1 ∷ 0 ∷ 2 ∷ 0 ∷ 1 ∷ [])  -- 1: 0,0,1,2;A;1
    (0x53 ∷ 0x55 ∷ 0 ∷ 2 ∷ 0 ∷ 0 ∷ 0 ∷ 0 ∷ 0 ∷ 1 ∷ 0 ∷ 2 ∷ 0 ∷ 1 ∷ [])  -- 2: 0,0,1,2;A;1

-- 12 and 8: the unit too many has a count of 2,001. 12 stands before 8.
unfoldable pub grounds12_and8 : List ℕ
grounds12_and8 =
    peach_plan
    ++ repeated 1000
    (0x53 ∷ 0x55 ∷ 0 ∷ 1 ∷ 0 ∷ 0 ∷ 0 ∷ 0 ∷ 0 ∷ 1 ∷ 0 ∷ 2 ∷ 0 ∷ 1 ∷ [])  -- 1: 0,0,1,2;A;1
    (0x53 ∷ 0x55 ∷ 0 ∷ 2 ∷ 7 ∷ 209 ∷ 0 ∷ 0 ∷ 0 ∷ 0 ∷ 0 ∷ 0 ∷ 0 ∷ 1 ∷ [])  -- 2: 2001,0,0,0;A;1

-- 7 and 12: the unit too many is cut short by its last byte.
unfoldable pub grounds7_and12 : List ℕ
grounds7_and12 =
    peach_plan
    ++ repeated 1000
    (0x53 ∷ 0x55 ∷ 0 ∷ 1 ∷ 0 ∷ 0 ∷ 0 ∷ 0 ∷ 0 ∷ 1 ∷ 0 ∷ 2 ∷ 0 ∷ 1 ∷ [])  -- 1: 0,0,1,2;A;1
    (0x53 ∷ 0x55 ∷ 0 ∷ 2 ∷ 0 ∷ 0 ∷ 0 ∷ 0 ∷ 0 ∷ 1 ∷ 0 ∷ 2 ∷ 0 ∷ [])  -- 13 bytes of 2: 0,0,1,2;A;1

pub record FullSheets : Type 0 where
  pub ground_12 : RefusedWith 12 ground12 14075
  pub grounds_12_and_8 : RefusedWith 12 grounds12_and8 14075
  pub grounds_7_and_12 : RefusedWith 7 grounds7_and12 14075

-- ---- what is printed

unfoldable pub recovery_without_plan_lines : List ℕ
recovery_without_plan_lines =
    ascii "1 1 S S f A 0.5 0.0 0.0 0.0\n"
    ++ ascii "2 2 S S f A 0.5 0.0 0.0 0.0\n"
    ++ ascii "3 3 S S u S 0.0 0.0 0.0 0.0\n"
    ++ ascii "4 4 A A r S 0.0 0.0 0.0 0.0\n"
    ++ ascii "5 5 A A r S 0.0 0.0 0.0 0.0\n"
    ++ ascii "6 6 A A r S 0.0 0.0 0.0 0.0\n"
    ++ ascii "7 7 A A m A 0.0 0.0 1.0 2.0\n"

unfoldable pub cusums_of_two_bytes_lines : List ℕ
cusums_of_two_bytes_lines =
    ascii "1 1 A A m A 0.0 0.0 0.0 25.6\n"
    ++ ascii "2 2 A A m A 0.0 0.0 0.0 59.6\n"
    ++ ascii "3 3 B B f A 0.0 0.0 0.0 60.0\n"

-- The result records of twelve units: unit numbers, codes and CuSums of one digit and of many,
-- each grade in each place of a grade, each standing.
unfoldable pub twelve_units_results : List ℕ
twelve_units_results =
    0x47 ∷ 0x52 ∷ 255 ∷ 255 ∷ 0 ∷ 1 ∷ 0 ∷ 0 ∷ 3 ∷ 232 ∷ 0 ∷ 105 ∷ 0 ∷ 0 ∷ 0 ∷ 0  -- 1 65535 A B m A 100.0 10.5 0.0 0.0
    ∷ 0 ∷ 0 ∷ 0 ∷ 0 ∷ 0 ∷ 0 ∷ 0 ∷ 0 ∷ 0 ∷ 0 ∷ 0 ∷ 0 ∷ 0 ∷ 0 ∷ 0 ∷ 0
    ∷ 0x47 ∷ 0x52 ∷ 0 ∷ 0 ∷ 1 ∷ 1 ∷ 0 ∷ 0 ∷ 3 ∷ 232 ∷ 0 ∷ 100 ∷ 0 ∷ 0 ∷ 0 ∷ 0  -- 2 0 B B m A 100.0 10.0 0.0 0.0
    ∷ 0 ∷ 0 ∷ 0 ∷ 0 ∷ 0 ∷ 0 ∷ 0 ∷ 0 ∷ 0 ∷ 0 ∷ 0 ∷ 0 ∷ 0 ∷ 0 ∷ 0 ∷ 0
    ∷ 0x47 ∷ 0x52 ∷ 0 ∷ 9 ∷ 2 ∷ 2 ∷ 0 ∷ 0 ∷ 3 ∷ 232 ∷ 3 ∷ 227 ∷ 0 ∷ 0 ∷ 0 ∷ 0  -- 3 9 C C m A 100.0 99.5 0.0 0.0
    ∷ 0 ∷ 0 ∷ 0 ∷ 0 ∷ 0 ∷ 0 ∷ 0 ∷ 0 ∷ 0 ∷ 0 ∷ 0 ∷ 0 ∷ 0 ∷ 0 ∷ 0 ∷ 0
    ∷ 0x47 ∷ 0x52 ∷ 0 ∷ 10 ∷ 3 ∷ 3 ∷ 0 ∷ 0 ∷ 3 ∷ 232 ∷ 3 ∷ 222 ∷ 0 ∷ 0 ∷ 0 ∷ 0  -- 4 10 S S m A 100.0 99.0 0.0 0.0
    ∷ 0 ∷ 0 ∷ 0 ∷ 0 ∷ 0 ∷ 0 ∷ 0 ∷ 0 ∷ 0 ∷ 0 ∷ 0 ∷ 0 ∷ 0 ∷ 0 ∷ 0 ∷ 0
    ∷ 0x47 ∷ 0x52 ∷ 0 ∷ 100 ∷ 3 ∷ 3 ∷ 0 ∷ 1 ∷ 39 ∷ 15 ∷ 3 ∷ 217 ∷ 0 ∷ 0 ∷ 39 ∷ 15  -- 5 100 S S f A 999.9 98.5 0.0 999.9
    ∷ 0 ∷ 0 ∷ 42 ∷ 249 ∷ 0 ∷ 0 ∷ 0 ∷ 0 ∷ 0 ∷ 0 ∷ 0 ∷ 0 ∷ 0 ∷ 0 ∷ 0 ∷ 2
    ∷ 0x47 ∷ 0x52 ∷ 1 ∷ 0 ∷ 3 ∷ 3 ∷ 0 ∷ 1 ∷ 39 ∷ 15 ∷ 39 ∷ 15 ∷ 0 ∷ 10 ∷ 39 ∷ 15  -- 6 256 S S f A 999.9 999.9 1.0 999.9
    ∷ 0 ∷ 0 ∷ 0 ∷ 0 ∷ 0 ∷ 0 ∷ 42 ∷ 229 ∷ 0 ∷ 0 ∷ 0 ∷ 0 ∷ 0 ∷ 0 ∷ 39 ∷ 37
    ∷ 0x47 ∷ 0x52 ∷ 3 ∷ 232 ∷ 3 ∷ 3 ∷ 3 ∷ 2 ∷ 0 ∷ 0 ∷ 0 ∷ 0 ∷ 0 ∷ 0 ∷ 0 ∷ 0  -- 7 1000 S S u S 0.0 0.0 0.0 0.0
    ∷ 0 ∷ 0 ∷ 0 ∷ 0 ∷ 0 ∷ 0 ∷ 0 ∷ 0 ∷ 0 ∷ 0 ∷ 0 ∷ 0 ∷ 0 ∷ 0 ∷ 0 ∷ 0
    ∷ 0x47 ∷ 0x52 ∷ 39 ∷ 15 ∷ 0 ∷ 0 ∷ 3 ∷ 3 ∷ 0 ∷ 0 ∷ 0 ∷ 0 ∷ 0 ∷ 0 ∷ 0 ∷ 0  -- 8 9999 A A r S 0.0 0.0 0.0 0.0
    ∷ 0 ∷ 0 ∷ 0 ∷ 0 ∷ 0 ∷ 0 ∷ 0 ∷ 0 ∷ 0 ∷ 0 ∷ 0 ∷ 0 ∷ 0 ∷ 0 ∷ 0 ∷ 0
    ∷ 0x47 ∷ 0x52 ∷ 39 ∷ 16 ∷ 3 ∷ 3 ∷ 3 ∷ 2 ∷ 0 ∷ 0 ∷ 0 ∷ 0 ∷ 0 ∷ 0 ∷ 0 ∷ 0  -- 9 10000 S S u S 0.0 0.0 0.0 0.0
    ∷ 0 ∷ 0 ∷ 0 ∷ 0 ∷ 0 ∷ 0 ∷ 0 ∷ 0 ∷ 0 ∷ 0 ∷ 0 ∷ 0 ∷ 0 ∷ 0 ∷ 0 ∷ 0
    ∷ 0x47 ∷ 0x52 ∷ 48 ∷ 57 ∷ 2 ∷ 2 ∷ 3 ∷ 3 ∷ 0 ∷ 0 ∷ 0 ∷ 0 ∷ 0 ∷ 0 ∷ 0 ∷ 0  -- 10 12345 C C r S 0.0 0.0 0.0 0.0
    ∷ 0 ∷ 0 ∷ 0 ∷ 0 ∷ 0 ∷ 0 ∷ 0 ∷ 0 ∷ 0 ∷ 0 ∷ 0 ∷ 0 ∷ 0 ∷ 0 ∷ 0 ∷ 0
    ∷ 0x47 ∷ 0x52 ∷ 160 ∷ 0 ∷ 2 ∷ 2 ∷ 2 ∷ 0 ∷ 0 ∷ 0 ∷ 0 ∷ 5 ∷ 0 ∷ 0 ∷ 0 ∷ 0  -- 11 40960 C C m C 0.0 0.5 0.0 0.0
    ∷ 0 ∷ 0 ∷ 0 ∷ 0 ∷ 0 ∷ 0 ∷ 0 ∷ 0 ∷ 0 ∷ 0 ∷ 0 ∷ 0 ∷ 0 ∷ 0 ∷ 0 ∷ 0
    ∷ 0x47 ∷ 0x52 ∷ 255 ∷ 255 ∷ 1 ∷ 1 ∷ 1 ∷ 0 ∷ 0 ∷ 0 ∷ 0 ∷ 0 ∷ 0 ∷ 50 ∷ 0 ∷ 0  -- 12 65535 B B m B 0.0 0.0 5.0 0.0
    ∷ 0 ∷ 0 ∷ 0 ∷ 0 ∷ 0 ∷ 0 ∷ 0 ∷ 0 ∷ 0 ∷ 0 ∷ 0 ∷ 0 ∷ 0 ∷ 0 ∷ 0 ∷ 0
    ∷ []

unfoldable pub twelve_units_lines : List ℕ
twelve_units_lines =
    ascii "1 65535 A B m A 100.0 10.5 0.0 0.0\n"
    ++ ascii "2 0 B B m A 100.0 10.0 0.0 0.0\n"
    ++ ascii "3 9 C C m A 100.0 99.5 0.0 0.0\n"
    ++ ascii "4 10 S S m A 100.0 99.0 0.0 0.0\n"
    ++ ascii "5 100 S S f A 999.9 98.5 0.0 999.9\n"
    ++ ascii "6 256 S S f A 999.9 999.9 1.0 999.9\n"
    ++ ascii "7 1000 S S u S 0.0 0.0 0.0 0.0\n"
    ++ ascii "8 9999 A A r S 0.0 0.0 0.0 0.0\n"
    ++ ascii "9 10000 S S u S 0.0 0.0 0.0 0.0\n"
    ++ ascii "10 12345 C C r S 0.0 0.0 0.0 0.0\n"
    ++ ascii "11 40960 C C m C 0.0 0.5 0.0 0.0\n"
    ++ ascii "12 65535 B B m B 0.0 0.0 5.0 0.0\n"

pub record PrintedSheets : Type 0 where
  pub recovery_without_plan_holds : printed recovery_without_plan ≡ recovery_without_plan_lines
  pub cusums_of_two_bytes_holds : printed cusums_of_two_bytes ≡ cusums_of_two_bytes_lines
  pub grounds_8_and_9 : printed grounds8_and9 ≡ ascii "refused 8 89\n"
  pub ground_12 : printed ground12 ≡ ascii "refused 12 14075\n"
  pub twelve_units : lines_of twelve_units_results 12 ≡ twelve_units_lines

-- all of them; what is printed is part of `PrintedText` in `Printed`
pub record FurtherSheets : Type 0 where
  pub breaks : BreakSheets
  pub redesignations : RedesignationSheets
  pub units : UnitSheets
  pub step_three_holds : StepThreeSheets
  pub lower_plans : LowerPlanSheets
  pub overshoots : OvershootSheets
  pub fewer_defects : FewerDefectSheets
  pub refusals : RefusedSheets
  pub full : FullSheets

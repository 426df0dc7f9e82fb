-- Lots in bytes, as one group: the record at the end. Each is held to the number and the grade that the independent grader gives for it
-- (tests/grader, written from the papers alone), so that a rule which is wrong on one of them alike in a definition and in the code that
-- meets it is refused here. This file is printed by tests/cases/src/bin/computed_lots.rs.
use Rattle.std.specs.Prelude.{ℕ, List, [], ◌∷◌}
use Rattle.lots_demands.specs.HeldLots.{GradedLot, RefusedLot}

-- AQLs of critical, severe, major and total stand behind the bytes of each grade; in the names of lots they are in tenths.

-- 21: document 003, example 17, whose AQLs 6.5, 10.0, 20.0 and 25.0 are not listed. The rest is filled in.
unfoldable pub example17 : List ℕ
example17 =
    0x4C ∷ 0x54 ∷ 6  -- 6 sample units
    ∷ 0 ∷ 10 ∷ 0 ∷ 15 ∷ 0 ∷ 40 ∷ 0 ∷ 125  -- A: 1.0 1.5 4.0 12.5
    ∷ 0 ∷ 15 ∷ 0 ∷ 40 ∷ 0 ∷ 65 ∷ 0 ∷ 200  -- B: 1.5 4.0 6.5 20.0
    ∷ 0 ∷ 25 ∷ 0 ∷ 65 ∷ 0 ∷ 100 ∷ 0 ∷ 250  -- C: 2.5 6.5 10.0 25.0
    ∷ 0 ∷ 0 ∷ 0 ∷ 0 ∷ 0 ∷ 0 ∷ 0 ∷ 0  -- critical 0, severe 0, major 0, minor 0
    ∷ 0  -- prerequisite A
    ∷ []

-- Document 003, example 19: grade A. It lists the AQLs of A alone; those of B and C are filled in, the same.
unfoldable pub example19 : List ℕ
example19 =
    0x4C ∷ 0x54 ∷ 6  -- 6 sample units
    ∷ 0 ∷ 10 ∷ 0 ∷ 15 ∷ 0 ∷ 40 ∷ 0 ∷ 125  -- A: 1.0 1.5 4.0 12.5
    ∷ 0 ∷ 10 ∷ 0 ∷ 15 ∷ 0 ∷ 40 ∷ 0 ∷ 125  -- B: 1.0 1.5 4.0 12.5
    ∷ 0 ∷ 10 ∷ 0 ∷ 15 ∷ 0 ∷ 40 ∷ 0 ∷ 125  -- C: 1.0 1.5 4.0 12.5
    ∷ 0 ∷ 1 ∷ 0 ∷ 1 ∷ 0 ∷ 3 ∷ 0 ∷ 2  -- critical 1, severe 1, major 3, minor 2
    ∷ 0  -- prerequisite A
    ∷ []

-- AQL 1.0 at 6 units, number 1; 1 critical: A.
unfoldable pub at_number_at6_units_aql10 : List ℕ
at_number_at6_units_aql10 =
    0x4C ∷ 0x54 ∷ 6  -- 6 sample units
    ∷ 0 ∷ 10 ∷ 0 ∷ 125 ∷ 0 ∷ 125 ∷ 0 ∷ 125  -- A: 1.0 12.5 12.5 12.5
    ∷ 0 ∷ 25 ∷ 0 ∷ 125 ∷ 0 ∷ 125 ∷ 0 ∷ 125  -- B: 2.5 12.5 12.5 12.5
    ∷ 0 ∷ 25 ∷ 0 ∷ 125 ∷ 0 ∷ 125 ∷ 0 ∷ 125  -- C: 2.5 12.5 12.5 12.5
    ∷ 0 ∷ 1 ∷ 0 ∷ 0 ∷ 0 ∷ 0 ∷ 0 ∷ 0  -- critical 1, severe 0, major 0, minor 0
    ∷ 0  -- prerequisite A
    ∷ []

-- AQL 1.0 at 6 units, number 1; 2 critical: B.
unfoldable pub above_number_at6_units_aql10 : List ℕ
above_number_at6_units_aql10 =
    0x4C ∷ 0x54 ∷ 6  -- 6 sample units
    ∷ 0 ∷ 10 ∷ 0 ∷ 125 ∷ 0 ∷ 125 ∷ 0 ∷ 125  -- A: 1.0 12.5 12.5 12.5
    ∷ 0 ∷ 25 ∷ 0 ∷ 125 ∷ 0 ∷ 125 ∷ 0 ∷ 125  -- B: 2.5 12.5 12.5 12.5
    ∷ 0 ∷ 25 ∷ 0 ∷ 125 ∷ 0 ∷ 125 ∷ 0 ∷ 125  -- C: 2.5 12.5 12.5 12.5
    ∷ 0 ∷ 2 ∷ 0 ∷ 0 ∷ 0 ∷ 0 ∷ 0 ∷ 0  -- critical 2, severe 0, major 0, minor 0
    ∷ 0  -- prerequisite A
    ∷ []

-- AQL 1.5 at 6 units, number 1; 1 severe: A.
unfoldable pub at_number_at6_units_aql15 : List ℕ
at_number_at6_units_aql15 =
    0x4C ∷ 0x54 ∷ 6  -- 6 sample units
    ∷ 0 ∷ 125 ∷ 0 ∷ 15 ∷ 0 ∷ 125 ∷ 0 ∷ 125  -- A: 12.5 1.5 12.5 12.5
    ∷ 0 ∷ 125 ∷ 0 ∷ 25 ∷ 0 ∷ 125 ∷ 0 ∷ 125  -- B: 12.5 2.5 12.5 12.5
    ∷ 0 ∷ 125 ∷ 0 ∷ 25 ∷ 0 ∷ 125 ∷ 0 ∷ 125  -- C: 12.5 2.5 12.5 12.5
    ∷ 0 ∷ 0 ∷ 0 ∷ 1 ∷ 0 ∷ 0 ∷ 0 ∷ 0  -- critical 0, severe 1, major 0, minor 0
    ∷ 0  -- prerequisite A
    ∷ []

-- AQL 1.5 at 6 units, number 1; 2 severe: B.
unfoldable pub above_number_at6_units_aql15 : List ℕ
above_number_at6_units_aql15 =
    0x4C ∷ 0x54 ∷ 6  -- 6 sample units
    ∷ 0 ∷ 125 ∷ 0 ∷ 15 ∷ 0 ∷ 125 ∷ 0 ∷ 125  -- A: 12.5 1.5 12.5 12.5
    ∷ 0 ∷ 125 ∷ 0 ∷ 25 ∷ 0 ∷ 125 ∷ 0 ∷ 125  -- B: 12.5 2.5 12.5 12.5
    ∷ 0 ∷ 125 ∷ 0 ∷ 25 ∷ 0 ∷ 125 ∷ 0 ∷ 125  -- C: 12.5 2.5 12.5 12.5
    ∷ 0 ∷ 0 ∷ 0 ∷ 2 ∷ 0 ∷ 0 ∷ 0 ∷ 0  -- critical 0, severe 2, major 0, minor 0
    ∷ 0  -- prerequisite A
    ∷ []

-- AQL 2.5 at 6 units, number 3; 3 major: B.
unfoldable pub at_number_at6_units_aql25 : List ℕ
at_number_at6_units_aql25 =
    0x4C ∷ 0x54 ∷ 6  -- 6 sample units
    ∷ 0 ∷ 125 ∷ 0 ∷ 125 ∷ 0 ∷ 15 ∷ 0 ∷ 125  -- A: 12.5 12.5 1.5 12.5
    ∷ 0 ∷ 125 ∷ 0 ∷ 125 ∷ 0 ∷ 25 ∷ 0 ∷ 125  -- B: 12.5 12.5 2.5 12.5
    ∷ 0 ∷ 125 ∷ 0 ∷ 125 ∷ 0 ∷ 40 ∷ 0 ∷ 125  -- C: 12.5 12.5 4.0 12.5
    ∷ 0 ∷ 0 ∷ 0 ∷ 0 ∷ 0 ∷ 3 ∷ 0 ∷ 0  -- critical 0, severe 0, major 3, minor 0
    ∷ 0  -- prerequisite A
    ∷ []

-- AQL 2.5 at 6 units, number 3; 4 major: C.
unfoldable pub above_number_at6_units_aql25 : List ℕ
above_number_at6_units_aql25 =
    0x4C ∷ 0x54 ∷ 6  -- 6 sample units
    ∷ 0 ∷ 125 ∷ 0 ∷ 125 ∷ 0 ∷ 15 ∷ 0 ∷ 125  -- A: 12.5 12.5 1.5 12.5
    ∷ 0 ∷ 125 ∷ 0 ∷ 125 ∷ 0 ∷ 25 ∷ 0 ∷ 125  -- B: 12.5 12.5 2.5 12.5
    ∷ 0 ∷ 125 ∷ 0 ∷ 125 ∷ 0 ∷ 40 ∷ 0 ∷ 125  -- C: 12.5 12.5 4.0 12.5
    ∷ 0 ∷ 0 ∷ 0 ∷ 0 ∷ 0 ∷ 4 ∷ 0 ∷ 0  -- critical 0, severe 0, major 4, minor 0
    ∷ 0  -- prerequisite A
    ∷ []

-- AQL 4.0 at 6 units, number 4; a total of 4 by minor alone: C.
unfoldable pub at_number_at6_units_aql40 : List ℕ
at_number_at6_units_aql40 =
    0x4C ∷ 0x54 ∷ 6  -- 6 sample units
    ∷ 0 ∷ 125 ∷ 0 ∷ 125 ∷ 0 ∷ 125 ∷ 0 ∷ 10  -- A: 12.5 12.5 12.5 1.0
    ∷ 0 ∷ 125 ∷ 0 ∷ 125 ∷ 0 ∷ 125 ∷ 0 ∷ 25  -- B: 12.5 12.5 12.5 2.5
    ∷ 0 ∷ 125 ∷ 0 ∷ 125 ∷ 0 ∷ 125 ∷ 0 ∷ 40  -- C: 12.5 12.5 12.5 4.0
    ∷ 0 ∷ 0 ∷ 0 ∷ 0 ∷ 0 ∷ 0 ∷ 0 ∷ 4  -- critical 0, severe 0, major 0, minor 4
    ∷ 0  -- prerequisite A
    ∷ []

-- AQL 4.0 at 6 units, number 4; a total of 5 by minor alone: S.
unfoldable pub above_number_at6_units_aql40 : List ℕ
above_number_at6_units_aql40 =
    0x4C ∷ 0x54 ∷ 6  -- 6 sample units
    ∷ 0 ∷ 125 ∷ 0 ∷ 125 ∷ 0 ∷ 125 ∷ 0 ∷ 10  -- A: 12.5 12.5 12.5 1.0
    ∷ 0 ∷ 125 ∷ 0 ∷ 125 ∷ 0 ∷ 125 ∷ 0 ∷ 25  -- B: 12.5 12.5 12.5 2.5
    ∷ 0 ∷ 125 ∷ 0 ∷ 125 ∷ 0 ∷ 125 ∷ 0 ∷ 40  -- C: 12.5 12.5 12.5 4.0
    ∷ 0 ∷ 0 ∷ 0 ∷ 0 ∷ 0 ∷ 0 ∷ 0 ∷ 5  -- critical 0, severe 0, major 0, minor 5
    ∷ 0  -- prerequisite A
    ∷ []

-- AQL 5.0 at 6 units, number 4; 4 critical: B.
unfoldable pub at_number_at6_units_aql50 : List ℕ
at_number_at6_units_aql50 =
    0x4C ∷ 0x54 ∷ 6  -- 6 sample units
    ∷ 0 ∷ 25 ∷ 0 ∷ 125 ∷ 0 ∷ 125 ∷ 0 ∷ 125  -- A: 2.5 12.5 12.5 12.5
    ∷ 0 ∷ 50 ∷ 0 ∷ 125 ∷ 0 ∷ 125 ∷ 0 ∷ 125  -- B: 5.0 12.5 12.5 12.5
    ∷ 0 ∷ 125 ∷ 0 ∷ 125 ∷ 0 ∷ 125 ∷ 0 ∷ 125  -- C: 12.5 12.5 12.5 12.5
    ∷ 0 ∷ 4 ∷ 0 ∷ 0 ∷ 0 ∷ 0 ∷ 0 ∷ 0  -- critical 4, severe 0, major 0, minor 0
    ∷ 0  -- prerequisite A
    ∷ []

-- AQL 5.0 at 6 units, number 4; 5 critical: C.
unfoldable pub above_number_at6_units_aql50 : List ℕ
above_number_at6_units_aql50 =
    0x4C ∷ 0x54 ∷ 6  -- 6 sample units
    ∷ 0 ∷ 25 ∷ 0 ∷ 125 ∷ 0 ∷ 125 ∷ 0 ∷ 125  -- A: 2.5 12.5 12.5 12.5
    ∷ 0 ∷ 50 ∷ 0 ∷ 125 ∷ 0 ∷ 125 ∷ 0 ∷ 125  -- B: 5.0 12.5 12.5 12.5
    ∷ 0 ∷ 125 ∷ 0 ∷ 125 ∷ 0 ∷ 125 ∷ 0 ∷ 125  -- C: 12.5 12.5 12.5 12.5
    ∷ 0 ∷ 5 ∷ 0 ∷ 0 ∷ 0 ∷ 0 ∷ 0 ∷ 0  -- critical 5, severe 0, major 0, minor 0
    ∷ 0  -- prerequisite A
    ∷ []

-- AQL 12.5 at 6 units, number 8; a total of 8 by minor alone: A.
unfoldable pub at_number_at6_units_aql125 : List ℕ
at_number_at6_units_aql125 =
    0x4C ∷ 0x54 ∷ 6  -- 6 sample units
    ∷ 0 ∷ 125 ∷ 0 ∷ 125 ∷ 0 ∷ 125 ∷ 0 ∷ 125  -- A: 12.5 12.5 12.5 12.5
    ∷ 0 ∷ 125 ∷ 0 ∷ 125 ∷ 0 ∷ 125 ∷ 0 ∷ 125  -- B: 12.5 12.5 12.5 12.5
    ∷ 0 ∷ 125 ∷ 0 ∷ 125 ∷ 0 ∷ 125 ∷ 0 ∷ 125  -- C: 12.5 12.5 12.5 12.5
    ∷ 0 ∷ 0 ∷ 0 ∷ 0 ∷ 0 ∷ 0 ∷ 0 ∷ 8  -- critical 0, severe 0, major 0, minor 8
    ∷ 0  -- prerequisite A
    ∷ []

-- AQL 12.5 at 6 units, number 8; a total of 9 by minor alone: S.
unfoldable pub above_number_at6_units_aql125 : List ℕ
above_number_at6_units_aql125 =
    0x4C ∷ 0x54 ∷ 6  -- 6 sample units
    ∷ 0 ∷ 125 ∷ 0 ∷ 125 ∷ 0 ∷ 125 ∷ 0 ∷ 125  -- A: 12.5 12.5 12.5 12.5
    ∷ 0 ∷ 125 ∷ 0 ∷ 125 ∷ 0 ∷ 125 ∷ 0 ∷ 125  -- B: 12.5 12.5 12.5 12.5
    ∷ 0 ∷ 125 ∷ 0 ∷ 125 ∷ 0 ∷ 125 ∷ 0 ∷ 125  -- C: 12.5 12.5 12.5 12.5
    ∷ 0 ∷ 0 ∷ 0 ∷ 0 ∷ 0 ∷ 0 ∷ 0 ∷ 9  -- critical 0, severe 0, major 0, minor 9
    ∷ 0  -- prerequisite A
    ∷ []

-- AQL 1.0 at 13 units, number 2; 2 severe: A.
unfoldable pub at_number_at13_units_aql10 : List ℕ
at_number_at13_units_aql10 =
    0x4C ∷ 0x54 ∷ 13  -- 13 sample units
    ∷ 0 ∷ 125 ∷ 0 ∷ 10 ∷ 0 ∷ 125 ∷ 0 ∷ 125  -- A: 12.5 1.0 12.5 12.5
    ∷ 0 ∷ 125 ∷ 0 ∷ 10 ∷ 0 ∷ 125 ∷ 0 ∷ 125  -- B: 12.5 1.0 12.5 12.5
    ∷ 0 ∷ 125 ∷ 0 ∷ 10 ∷ 0 ∷ 125 ∷ 0 ∷ 125  -- C: 12.5 1.0 12.5 12.5
    ∷ 0 ∷ 0 ∷ 0 ∷ 2 ∷ 0 ∷ 0 ∷ 0 ∷ 0  -- critical 0, severe 2, major 0, minor 0
    ∷ 0  -- prerequisite A
    ∷ []

-- AQL 1.0 at 13 units, number 2; 3 severe: S.
unfoldable pub above_number_at13_units_aql10 : List ℕ
above_number_at13_units_aql10 =
    0x4C ∷ 0x54 ∷ 13  -- 13 sample units
    ∷ 0 ∷ 125 ∷ 0 ∷ 10 ∷ 0 ∷ 125 ∷ 0 ∷ 125  -- A: 12.5 1.0 12.5 12.5
    ∷ 0 ∷ 125 ∷ 0 ∷ 10 ∷ 0 ∷ 125 ∷ 0 ∷ 125  -- B: 12.5 1.0 12.5 12.5
    ∷ 0 ∷ 125 ∷ 0 ∷ 10 ∷ 0 ∷ 125 ∷ 0 ∷ 125  -- C: 12.5 1.0 12.5 12.5
    ∷ 0 ∷ 0 ∷ 0 ∷ 3 ∷ 0 ∷ 0 ∷ 0 ∷ 0  -- critical 0, severe 3, major 0, minor 0
    ∷ 0  -- prerequisite A
    ∷ []

-- AQL 1.5 at 13 units, number 3; 3 major: B.
unfoldable pub at_number_at13_units_aql15 : List ℕ
at_number_at13_units_aql15 =
    0x4C ∷ 0x54 ∷ 13  -- 13 sample units
    ∷ 0 ∷ 125 ∷ 0 ∷ 125 ∷ 0 ∷ 10 ∷ 0 ∷ 125  -- A: 12.5 12.5 1.0 12.5
    ∷ 0 ∷ 125 ∷ 0 ∷ 125 ∷ 0 ∷ 15 ∷ 0 ∷ 125  -- B: 12.5 12.5 1.5 12.5
    ∷ 0 ∷ 125 ∷ 0 ∷ 125 ∷ 0 ∷ 25 ∷ 0 ∷ 125  -- C: 12.5 12.5 2.5 12.5
    ∷ 0 ∷ 0 ∷ 0 ∷ 0 ∷ 0 ∷ 3 ∷ 0 ∷ 0  -- critical 0, severe 0, major 3, minor 0
    ∷ 0  -- prerequisite A
    ∷ []

-- AQL 1.5 at 13 units, number 3; 4 major: C.
unfoldable pub above_number_at13_units_aql15 : List ℕ
above_number_at13_units_aql15 =
    0x4C ∷ 0x54 ∷ 13  -- 13 sample units
    ∷ 0 ∷ 125 ∷ 0 ∷ 125 ∷ 0 ∷ 10 ∷ 0 ∷ 125  -- A: 12.5 12.5 1.0 12.5
    ∷ 0 ∷ 125 ∷ 0 ∷ 125 ∷ 0 ∷ 15 ∷ 0 ∷ 125  -- B: 12.5 12.5 1.5 12.5
    ∷ 0 ∷ 125 ∷ 0 ∷ 125 ∷ 0 ∷ 25 ∷ 0 ∷ 125  -- C: 12.5 12.5 2.5 12.5
    ∷ 0 ∷ 0 ∷ 0 ∷ 0 ∷ 0 ∷ 4 ∷ 0 ∷ 0  -- critical 0, severe 0, major 4, minor 0
    ∷ 0  -- prerequisite A
    ∷ []

-- AQL 2.5 at 13 units, number 4; a total of 4 by all four kinds: C.
unfoldable pub at_number_at13_units_aql25 : List ℕ
at_number_at13_units_aql25 =
    0x4C ∷ 0x54 ∷ 13  -- 13 sample units
    ∷ 0 ∷ 125 ∷ 0 ∷ 125 ∷ 0 ∷ 125 ∷ 0 ∷ 10  -- A: 12.5 12.5 12.5 1.0
    ∷ 0 ∷ 125 ∷ 0 ∷ 125 ∷ 0 ∷ 125 ∷ 0 ∷ 15  -- B: 12.5 12.5 12.5 1.5
    ∷ 0 ∷ 125 ∷ 0 ∷ 125 ∷ 0 ∷ 125 ∷ 0 ∷ 25  -- C: 12.5 12.5 12.5 2.5
    ∷ 0 ∷ 1 ∷ 0 ∷ 1 ∷ 0 ∷ 1 ∷ 0 ∷ 1  -- critical 1, severe 1, major 1, minor 1
    ∷ 0  -- prerequisite A
    ∷ []

-- AQL 2.5 at 13 units, number 4; a total of 5 by all four kinds: S.
unfoldable pub above_number_at13_units_aql25 : List ℕ
above_number_at13_units_aql25 =
    0x4C ∷ 0x54 ∷ 13  -- 13 sample units
    ∷ 0 ∷ 125 ∷ 0 ∷ 125 ∷ 0 ∷ 125 ∷ 0 ∷ 10  -- A: 12.5 12.5 12.5 1.0
    ∷ 0 ∷ 125 ∷ 0 ∷ 125 ∷ 0 ∷ 125 ∷ 0 ∷ 15  -- B: 12.5 12.5 12.5 1.5
    ∷ 0 ∷ 125 ∷ 0 ∷ 125 ∷ 0 ∷ 125 ∷ 0 ∷ 25  -- C: 12.5 12.5 12.5 2.5
    ∷ 0 ∷ 1 ∷ 0 ∷ 1 ∷ 0 ∷ 1 ∷ 0 ∷ 2  -- critical 1, severe 1, major 1, minor 2
    ∷ 0  -- prerequisite A
    ∷ []

-- AQL 4.0 at 13 units, number 6; 6 critical: A.
unfoldable pub at_number_at13_units_aql40 : List ℕ
at_number_at13_units_aql40 =
    0x4C ∷ 0x54 ∷ 13  -- 13 sample units
    ∷ 0 ∷ 40 ∷ 0 ∷ 125 ∷ 0 ∷ 125 ∷ 0 ∷ 125  -- A: 4.0 12.5 12.5 12.5
    ∷ 0 ∷ 50 ∷ 0 ∷ 125 ∷ 0 ∷ 125 ∷ 0 ∷ 125  -- B: 5.0 12.5 12.5 12.5
    ∷ 0 ∷ 50 ∷ 0 ∷ 125 ∷ 0 ∷ 125 ∷ 0 ∷ 125  -- C: 5.0 12.5 12.5 12.5
    ∷ 0 ∷ 6 ∷ 0 ∷ 0 ∷ 0 ∷ 0 ∷ 0 ∷ 0  -- critical 6, severe 0, major 0, minor 0
    ∷ 0  -- prerequisite A
    ∷ []

-- AQL 4.0 at 13 units, number 6; 7 critical: B.
unfoldable pub above_number_at13_units_aql40 : List ℕ
above_number_at13_units_aql40 =
    0x4C ∷ 0x54 ∷ 13  -- 13 sample units
    ∷ 0 ∷ 40 ∷ 0 ∷ 125 ∷ 0 ∷ 125 ∷ 0 ∷ 125  -- A: 4.0 12.5 12.5 12.5
    ∷ 0 ∷ 50 ∷ 0 ∷ 125 ∷ 0 ∷ 125 ∷ 0 ∷ 125  -- B: 5.0 12.5 12.5 12.5
    ∷ 0 ∷ 50 ∷ 0 ∷ 125 ∷ 0 ∷ 125 ∷ 0 ∷ 125  -- C: 5.0 12.5 12.5 12.5
    ∷ 0 ∷ 7 ∷ 0 ∷ 0 ∷ 0 ∷ 0 ∷ 0 ∷ 0  -- critical 7, severe 0, major 0, minor 0
    ∷ 0  -- prerequisite A
    ∷ []

-- AQL 5.0 at 13 units, number 7; 7 severe: C.
unfoldable pub at_number_at13_units_aql50 : List ℕ
at_number_at13_units_aql50 =
    0x4C ∷ 0x54 ∷ 13  -- 13 sample units
    ∷ 0 ∷ 125 ∷ 0 ∷ 10 ∷ 0 ∷ 125 ∷ 0 ∷ 125  -- A: 12.5 1.0 12.5 12.5
    ∷ 0 ∷ 125 ∷ 0 ∷ 40 ∷ 0 ∷ 125 ∷ 0 ∷ 125  -- B: 12.5 4.0 12.5 12.5
    ∷ 0 ∷ 125 ∷ 0 ∷ 50 ∷ 0 ∷ 125 ∷ 0 ∷ 125  -- C: 12.5 5.0 12.5 12.5
    ∷ 0 ∷ 0 ∷ 0 ∷ 7 ∷ 0 ∷ 0 ∷ 0 ∷ 0  -- critical 0, severe 7, major 0, minor 0
    ∷ 0  -- prerequisite A
    ∷ []

-- AQL 5.0 at 13 units, number 7; 8 severe: S.
unfoldable pub above_number_at13_units_aql50 : List ℕ
above_number_at13_units_aql50 =
    0x4C ∷ 0x54 ∷ 13  -- 13 sample units
    ∷ 0 ∷ 125 ∷ 0 ∷ 10 ∷ 0 ∷ 125 ∷ 0 ∷ 125  -- A: 12.5 1.0 12.5 12.5
    ∷ 0 ∷ 125 ∷ 0 ∷ 40 ∷ 0 ∷ 125 ∷ 0 ∷ 125  -- B: 12.5 4.0 12.5 12.5
    ∷ 0 ∷ 125 ∷ 0 ∷ 50 ∷ 0 ∷ 125 ∷ 0 ∷ 125  -- C: 12.5 5.0 12.5 12.5
    ∷ 0 ∷ 0 ∷ 0 ∷ 8 ∷ 0 ∷ 0 ∷ 0 ∷ 0  -- critical 0, severe 8, major 0, minor 0
    ∷ 0  -- prerequisite A
    ∷ []

-- AQL 12.5 at 13 units, number 15; a total of 15 by all four kinds: B.
unfoldable pub at_number_at13_units_aql125 : List ℕ
at_number_at13_units_aql125 =
    0x4C ∷ 0x54 ∷ 13  -- 13 sample units
    ∷ 0 ∷ 125 ∷ 0 ∷ 125 ∷ 0 ∷ 125 ∷ 0 ∷ 50  -- A: 12.5 12.5 12.5 5.0
    ∷ 0 ∷ 125 ∷ 0 ∷ 125 ∷ 0 ∷ 125 ∷ 0 ∷ 125  -- B: 12.5 12.5 12.5 12.5
    ∷ 0 ∷ 125 ∷ 0 ∷ 125 ∷ 0 ∷ 125 ∷ 0 ∷ 125  -- C: 12.5 12.5 12.5 12.5
    ∷ 0 ∷ 3 ∷ 0 ∷ 3 ∷ 0 ∷ 3 ∷ 0 ∷ 6  -- critical 3, severe 3, major 3, minor 6
    ∷ 0  -- prerequisite A
    ∷ []

-- AQL 12.5 at 13 units, number 15; a total of 16 by all four kinds: S.
unfoldable pub above_number_at13_units_aql125 : List ℕ
above_number_at13_units_aql125 =
    0x4C ∷ 0x54 ∷ 13  -- 13 sample units
    ∷ 0 ∷ 125 ∷ 0 ∷ 125 ∷ 0 ∷ 125 ∷ 0 ∷ 50  -- A: 12.5 12.5 12.5 5.0
    ∷ 0 ∷ 125 ∷ 0 ∷ 125 ∷ 0 ∷ 125 ∷ 0 ∷ 125  -- B: 12.5 12.5 12.5 12.5
    ∷ 0 ∷ 125 ∷ 0 ∷ 125 ∷ 0 ∷ 125 ∷ 0 ∷ 125  -- C: 12.5 12.5 12.5 12.5
    ∷ 0 ∷ 4 ∷ 0 ∷ 4 ∷ 0 ∷ 4 ∷ 0 ∷ 4  -- critical 4, severe 4, major 4, minor 4
    ∷ 0  -- prerequisite A
    ∷ []

-- AQL 1.0 at 21 units, number 3; 3 major: A.
unfoldable pub at_number_at21_units_aql10 : List ℕ
at_number_at21_units_aql10 =
    0x4C ∷ 0x54 ∷ 21  -- 21 sample units
    ∷ 0 ∷ 125 ∷ 0 ∷ 125 ∷ 0 ∷ 10 ∷ 0 ∷ 125  -- A: 12.5 12.5 1.0 12.5
    ∷ 0 ∷ 125 ∷ 0 ∷ 125 ∷ 0 ∷ 15 ∷ 0 ∷ 125  -- B: 12.5 12.5 1.5 12.5
    ∷ 0 ∷ 125 ∷ 0 ∷ 125 ∷ 0 ∷ 15 ∷ 0 ∷ 125  -- C: 12.5 12.5 1.5 12.5
    ∷ 0 ∷ 0 ∷ 0 ∷ 0 ∷ 0 ∷ 3 ∷ 0 ∷ 0  -- critical 0, severe 0, major 3, minor 0
    ∷ 0  -- prerequisite A
    ∷ []

-- AQL 1.0 at 21 units, number 3; 4 major: B.
unfoldable pub above_number_at21_units_aql10 : List ℕ
above_number_at21_units_aql10 =
    0x4C ∷ 0x54 ∷ 21  -- 21 sample units
    ∷ 0 ∷ 125 ∷ 0 ∷ 125 ∷ 0 ∷ 10 ∷ 0 ∷ 125  -- A: 12.5 12.5 1.0 12.5
    ∷ 0 ∷ 125 ∷ 0 ∷ 125 ∷ 0 ∷ 15 ∷ 0 ∷ 125  -- B: 12.5 12.5 1.5 12.5
    ∷ 0 ∷ 125 ∷ 0 ∷ 125 ∷ 0 ∷ 15 ∷ 0 ∷ 125  -- C: 12.5 12.5 1.5 12.5
    ∷ 0 ∷ 0 ∷ 0 ∷ 0 ∷ 0 ∷ 4 ∷ 0 ∷ 0  -- critical 0, severe 0, major 4, minor 0
    ∷ 0  -- prerequisite A
    ∷ []

-- AQL 1.5 at 21 units, number 4; a total of 4 by minor alone: C.
unfoldable pub at_number_at21_units_aql15 : List ℕ
at_number_at21_units_aql15 =
    0x4C ∷ 0x54 ∷ 21  -- 21 sample units
    ∷ 0 ∷ 125 ∷ 0 ∷ 125 ∷ 0 ∷ 125 ∷ 0 ∷ 10  -- A: 12.5 12.5 12.5 1.0
    ∷ 0 ∷ 125 ∷ 0 ∷ 125 ∷ 0 ∷ 125 ∷ 0 ∷ 10  -- B: 12.5 12.5 12.5 1.0
    ∷ 0 ∷ 125 ∷ 0 ∷ 125 ∷ 0 ∷ 125 ∷ 0 ∷ 15  -- C: 12.5 12.5 12.5 1.5
    ∷ 0 ∷ 0 ∷ 0 ∷ 0 ∷ 0 ∷ 0 ∷ 0 ∷ 4  -- critical 0, severe 0, major 0, minor 4
    ∷ 0  -- prerequisite A
    ∷ []

-- AQL 1.5 at 21 units, number 4; a total of 5 by minor alone: S.
unfoldable pub above_number_at21_units_aql15 : List ℕ
above_number_at21_units_aql15 =
    0x4C ∷ 0x54 ∷ 21  -- 21 sample units
    ∷ 0 ∷ 125 ∷ 0 ∷ 125 ∷ 0 ∷ 125 ∷ 0 ∷ 10  -- A: 12.5 12.5 12.5 1.0
    ∷ 0 ∷ 125 ∷ 0 ∷ 125 ∷ 0 ∷ 125 ∷ 0 ∷ 10  -- B: 12.5 12.5 12.5 1.0
    ∷ 0 ∷ 125 ∷ 0 ∷ 125 ∷ 0 ∷ 125 ∷ 0 ∷ 15  -- C: 12.5 12.5 12.5 1.5
    ∷ 0 ∷ 0 ∷ 0 ∷ 0 ∷ 0 ∷ 0 ∷ 0 ∷ 5  -- critical 0, severe 0, major 0, minor 5
    ∷ 0  -- prerequisite A
    ∷ []

-- AQL 2.5 at 21 units, number 6; 6 critical: C.
unfoldable pub at_number_at21_units_aql25 : List ℕ
at_number_at21_units_aql25 =
    0x4C ∷ 0x54 ∷ 21  -- 21 sample units
    ∷ 0 ∷ 10 ∷ 0 ∷ 125 ∷ 0 ∷ 125 ∷ 0 ∷ 125  -- A: 1.0 12.5 12.5 12.5
    ∷ 0 ∷ 15 ∷ 0 ∷ 125 ∷ 0 ∷ 125 ∷ 0 ∷ 125  -- B: 1.5 12.5 12.5 12.5
    ∷ 0 ∷ 25 ∷ 0 ∷ 125 ∷ 0 ∷ 125 ∷ 0 ∷ 125  -- C: 2.5 12.5 12.5 12.5
    ∷ 0 ∷ 6 ∷ 0 ∷ 0 ∷ 0 ∷ 0 ∷ 0 ∷ 0  -- critical 6, severe 0, major 0, minor 0
    ∷ 0  -- prerequisite A
    ∷ []

-- AQL 2.5 at 21 units, number 6; 7 critical: S.
unfoldable pub above_number_at21_units_aql25 : List ℕ
above_number_at21_units_aql25 =
    0x4C ∷ 0x54 ∷ 21  -- 21 sample units
    ∷ 0 ∷ 10 ∷ 0 ∷ 125 ∷ 0 ∷ 125 ∷ 0 ∷ 125  -- A: 1.0 12.5 12.5 12.5
    ∷ 0 ∷ 15 ∷ 0 ∷ 125 ∷ 0 ∷ 125 ∷ 0 ∷ 125  -- B: 1.5 12.5 12.5 12.5
    ∷ 0 ∷ 25 ∷ 0 ∷ 125 ∷ 0 ∷ 125 ∷ 0 ∷ 125  -- C: 2.5 12.5 12.5 12.5
    ∷ 0 ∷ 7 ∷ 0 ∷ 0 ∷ 0 ∷ 0 ∷ 0 ∷ 0  -- critical 7, severe 0, major 0, minor 0
    ∷ 0  -- prerequisite A
    ∷ []

-- AQL 4.0 at 21 units, number 9; 9 severe: B.
unfoldable pub at_number_at21_units_aql40 : List ℕ
at_number_at21_units_aql40 =
    0x4C ∷ 0x54 ∷ 21  -- 21 sample units
    ∷ 0 ∷ 125 ∷ 0 ∷ 25 ∷ 0 ∷ 125 ∷ 0 ∷ 125  -- A: 12.5 2.5 12.5 12.5
    ∷ 0 ∷ 125 ∷ 0 ∷ 40 ∷ 0 ∷ 125 ∷ 0 ∷ 125  -- B: 12.5 4.0 12.5 12.5
    ∷ 0 ∷ 125 ∷ 0 ∷ 50 ∷ 0 ∷ 125 ∷ 0 ∷ 125  -- C: 12.5 5.0 12.5 12.5
    ∷ 0 ∷ 0 ∷ 0 ∷ 9 ∷ 0 ∷ 0 ∷ 0 ∷ 0  -- critical 0, severe 9, major 0, minor 0
    ∷ 0  -- prerequisite A
    ∷ []

-- AQL 4.0 at 21 units, number 9; 10 severe: C.
unfoldable pub above_number_at21_units_aql40 : List ℕ
above_number_at21_units_aql40 =
    0x4C ∷ 0x54 ∷ 21  -- 21 sample units
    ∷ 0 ∷ 125 ∷ 0 ∷ 25 ∷ 0 ∷ 125 ∷ 0 ∷ 125  -- A: 12.5 2.5 12.5 12.5
    ∷ 0 ∷ 125 ∷ 0 ∷ 40 ∷ 0 ∷ 125 ∷ 0 ∷ 125  -- B: 12.5 4.0 12.5 12.5
    ∷ 0 ∷ 125 ∷ 0 ∷ 50 ∷ 0 ∷ 125 ∷ 0 ∷ 125  -- C: 12.5 5.0 12.5 12.5
    ∷ 0 ∷ 0 ∷ 0 ∷ 10 ∷ 0 ∷ 0 ∷ 0 ∷ 0  -- critical 0, severe 10, major 0, minor 0
    ∷ 0  -- prerequisite A
    ∷ []

-- AQL 5.0 at 21 units, number 11; 11 major: C.
unfoldable pub at_number_at21_units_aql50 : List ℕ
at_number_at21_units_aql50 =
    0x4C ∷ 0x54 ∷ 21  -- 21 sample units
    ∷ 0 ∷ 125 ∷ 0 ∷ 125 ∷ 0 ∷ 10 ∷ 0 ∷ 125  -- A: 12.5 12.5 1.0 12.5
    ∷ 0 ∷ 125 ∷ 0 ∷ 125 ∷ 0 ∷ 40 ∷ 0 ∷ 125  -- B: 12.5 12.5 4.0 12.5
    ∷ 0 ∷ 125 ∷ 0 ∷ 125 ∷ 0 ∷ 50 ∷ 0 ∷ 125  -- C: 12.5 12.5 5.0 12.5
    ∷ 0 ∷ 0 ∷ 0 ∷ 0 ∷ 0 ∷ 11 ∷ 0 ∷ 0  -- critical 0, severe 0, major 11, minor 0
    ∷ 0  -- prerequisite A
    ∷ []

-- AQL 5.0 at 21 units, number 11; 12 major: S.
unfoldable pub above_number_at21_units_aql50 : List ℕ
above_number_at21_units_aql50 =
    0x4C ∷ 0x54 ∷ 21  -- 21 sample units
    ∷ 0 ∷ 125 ∷ 0 ∷ 125 ∷ 0 ∷ 10 ∷ 0 ∷ 125  -- A: 12.5 12.5 1.0 12.5
    ∷ 0 ∷ 125 ∷ 0 ∷ 125 ∷ 0 ∷ 40 ∷ 0 ∷ 125  -- B: 12.5 12.5 4.0 12.5
    ∷ 0 ∷ 125 ∷ 0 ∷ 125 ∷ 0 ∷ 50 ∷ 0 ∷ 125  -- C: 12.5 12.5 5.0 12.5
    ∷ 0 ∷ 0 ∷ 0 ∷ 0 ∷ 0 ∷ 12 ∷ 0 ∷ 0  -- critical 0, severe 0, major 12, minor 0
    ∷ 0  -- prerequisite A
    ∷ []

-- AQL 12.5 at 21 units, number 22; a total of 22 by minor alone: C.
unfoldable pub at_number_at21_units_aql125 : List ℕ
at_number_at21_units_aql125 =
    0x4C ∷ 0x54 ∷ 21  -- 21 sample units
    ∷ 0 ∷ 125 ∷ 0 ∷ 125 ∷ 0 ∷ 125 ∷ 0 ∷ 10  -- A: 12.5 12.5 12.5 1.0
    ∷ 0 ∷ 125 ∷ 0 ∷ 125 ∷ 0 ∷ 125 ∷ 0 ∷ 50  -- B: 12.5 12.5 12.5 5.0
    ∷ 0 ∷ 125 ∷ 0 ∷ 125 ∷ 0 ∷ 125 ∷ 0 ∷ 125  -- C: 12.5 12.5 12.5 12.5
    ∷ 0 ∷ 0 ∷ 0 ∷ 0 ∷ 0 ∷ 0 ∷ 0 ∷ 22  -- critical 0, severe 0, major 0, minor 22
    ∷ 0  -- prerequisite A
    ∷ []

-- AQL 12.5 at 21 units, number 22; a total of 23 by minor alone: S.
unfoldable pub above_number_at21_units_aql125 : List ℕ
above_number_at21_units_aql125 =
    0x4C ∷ 0x54 ∷ 21  -- 21 sample units
    ∷ 0 ∷ 125 ∷ 0 ∷ 125 ∷ 0 ∷ 125 ∷ 0 ∷ 10  -- A: 12.5 12.5 12.5 1.0
    ∷ 0 ∷ 125 ∷ 0 ∷ 125 ∷ 0 ∷ 125 ∷ 0 ∷ 50  -- B: 12.5 12.5 12.5 5.0
    ∷ 0 ∷ 125 ∷ 0 ∷ 125 ∷ 0 ∷ 125 ∷ 0 ∷ 125  -- C: 12.5 12.5 12.5 12.5
    ∷ 0 ∷ 0 ∷ 0 ∷ 0 ∷ 0 ∷ 0 ∷ 0 ∷ 23  -- critical 0, severe 0, major 0, minor 23
    ∷ 0  -- prerequisite A
    ∷ []

-- AQL 1.0 at 29 units, number 4; a total of 4 by all four kinds: A.
unfoldable pub at_number_at29_units_aql10 : List ℕ
at_number_at29_units_aql10 =
    0x4C ∷ 0x54 ∷ 29  -- 29 sample units
    ∷ 0 ∷ 125 ∷ 0 ∷ 125 ∷ 0 ∷ 125 ∷ 0 ∷ 10  -- A: 12.5 12.5 12.5 1.0
    ∷ 0 ∷ 125 ∷ 0 ∷ 125 ∷ 0 ∷ 125 ∷ 0 ∷ 15  -- B: 12.5 12.5 12.5 1.5
    ∷ 0 ∷ 125 ∷ 0 ∷ 125 ∷ 0 ∷ 125 ∷ 0 ∷ 15  -- C: 12.5 12.5 12.5 1.5
    ∷ 0 ∷ 1 ∷ 0 ∷ 1 ∷ 0 ∷ 1 ∷ 0 ∷ 1  -- critical 1, severe 1, major 1, minor 1
    ∷ 0  -- prerequisite A
    ∷ []

-- AQL 1.0 at 29 units, number 4; a total of 5 by all four kinds: B.
unfoldable pub above_number_at29_units_aql10 : List ℕ
above_number_at29_units_aql10 =
    0x4C ∷ 0x54 ∷ 29  -- 29 sample units
    ∷ 0 ∷ 125 ∷ 0 ∷ 125 ∷ 0 ∷ 125 ∷ 0 ∷ 10  -- A: 12.5 12.5 12.5 1.0
    ∷ 0 ∷ 125 ∷ 0 ∷ 125 ∷ 0 ∷ 125 ∷ 0 ∷ 15  -- B: 12.5 12.5 12.5 1.5
    ∷ 0 ∷ 125 ∷ 0 ∷ 125 ∷ 0 ∷ 125 ∷ 0 ∷ 15  -- C: 12.5 12.5 12.5 1.5
    ∷ 0 ∷ 1 ∷ 0 ∷ 1 ∷ 0 ∷ 1 ∷ 0 ∷ 2  -- critical 1, severe 1, major 1, minor 2
    ∷ 0  -- prerequisite A
    ∷ []

-- AQL 1.5 at 29 units, number 5; 5 critical: B.
unfoldable pub at_number_at29_units_aql15 : List ℕ
at_number_at29_units_aql15 =
    0x4C ∷ 0x54 ∷ 29  -- 29 sample units
    ∷ 0 ∷ 10 ∷ 0 ∷ 125 ∷ 0 ∷ 125 ∷ 0 ∷ 125  -- A: 1.0 12.5 12.5 12.5
    ∷ 0 ∷ 15 ∷ 0 ∷ 125 ∷ 0 ∷ 125 ∷ 0 ∷ 125  -- B: 1.5 12.5 12.5 12.5
    ∷ 0 ∷ 25 ∷ 0 ∷ 125 ∷ 0 ∷ 125 ∷ 0 ∷ 125  -- C: 2.5 12.5 12.5 12.5
    ∷ 0 ∷ 5 ∷ 0 ∷ 0 ∷ 0 ∷ 0 ∷ 0 ∷ 0  -- critical 5, severe 0, major 0, minor 0
    ∷ 0  -- prerequisite A
    ∷ []

-- AQL 1.5 at 29 units, number 5; 6 critical: C.
unfoldable pub above_number_at29_units_aql15 : List ℕ
above_number_at29_units_aql15 =
    0x4C ∷ 0x54 ∷ 29  -- 29 sample units
    ∷ 0 ∷ 10 ∷ 0 ∷ 125 ∷ 0 ∷ 125 ∷ 0 ∷ 125  -- A: 1.0 12.5 12.5 12.5
    ∷ 0 ∷ 15 ∷ 0 ∷ 125 ∷ 0 ∷ 125 ∷ 0 ∷ 125  -- B: 1.5 12.5 12.5 12.5
    ∷ 0 ∷ 25 ∷ 0 ∷ 125 ∷ 0 ∷ 125 ∷ 0 ∷ 125  -- C: 2.5 12.5 12.5 12.5
    ∷ 0 ∷ 6 ∷ 0 ∷ 0 ∷ 0 ∷ 0 ∷ 0 ∷ 0  -- critical 6, severe 0, major 0, minor 0
    ∷ 0  -- prerequisite A
    ∷ []

-- AQL 2.5 at 29 units, number 8; 8 severe: C.
unfoldable pub at_number_at29_units_aql25 : List ℕ
at_number_at29_units_aql25 =
    0x4C ∷ 0x54 ∷ 29  -- 29 sample units
    ∷ 0 ∷ 125 ∷ 0 ∷ 10 ∷ 0 ∷ 125 ∷ 0 ∷ 125  -- A: 12.5 1.0 12.5 12.5
    ∷ 0 ∷ 125 ∷ 0 ∷ 15 ∷ 0 ∷ 125 ∷ 0 ∷ 125  -- B: 12.5 1.5 12.5 12.5
    ∷ 0 ∷ 125 ∷ 0 ∷ 25 ∷ 0 ∷ 125 ∷ 0 ∷ 125  -- C: 12.5 2.5 12.5 12.5
    ∷ 0 ∷ 0 ∷ 0 ∷ 8 ∷ 0 ∷ 0 ∷ 0 ∷ 0  -- critical 0, severe 8, major 0, minor 0
    ∷ 0  -- prerequisite A
    ∷ []

-- AQL 2.5 at 29 units, number 8; 9 severe: S.
unfoldable pub above_number_at29_units_aql25 : List ℕ
above_number_at29_units_aql25 =
    0x4C ∷ 0x54 ∷ 29  -- 29 sample units
    ∷ 0 ∷ 125 ∷ 0 ∷ 10 ∷ 0 ∷ 125 ∷ 0 ∷ 125  -- A: 12.5 1.0 12.5 12.5
    ∷ 0 ∷ 125 ∷ 0 ∷ 15 ∷ 0 ∷ 125 ∷ 0 ∷ 125  -- B: 12.5 1.5 12.5 12.5
    ∷ 0 ∷ 125 ∷ 0 ∷ 25 ∷ 0 ∷ 125 ∷ 0 ∷ 125  -- C: 12.5 2.5 12.5 12.5
    ∷ 0 ∷ 0 ∷ 0 ∷ 9 ∷ 0 ∷ 0 ∷ 0 ∷ 0  -- critical 0, severe 9, major 0, minor 0
    ∷ 0  -- prerequisite A
    ∷ []

-- AQL 4.0 at 29 units, number 11; 11 major: A.
unfoldable pub at_number_at29_units_aql40 : List ℕ
at_number_at29_units_aql40 =
    0x4C ∷ 0x54 ∷ 29  -- 29 sample units
    ∷ 0 ∷ 125 ∷ 0 ∷ 125 ∷ 0 ∷ 40 ∷ 0 ∷ 125  -- A: 12.5 12.5 4.0 12.5
    ∷ 0 ∷ 125 ∷ 0 ∷ 125 ∷ 0 ∷ 40 ∷ 0 ∷ 125  -- B: 12.5 12.5 4.0 12.5
    ∷ 0 ∷ 125 ∷ 0 ∷ 125 ∷ 0 ∷ 40 ∷ 0 ∷ 125  -- C: 12.5 12.5 4.0 12.5
    ∷ 0 ∷ 0 ∷ 0 ∷ 0 ∷ 0 ∷ 11 ∷ 0 ∷ 0  -- critical 0, severe 0, major 11, minor 0
    ∷ 0  -- prerequisite A
    ∷ []

-- AQL 4.0 at 29 units, number 11; 12 major: S.
unfoldable pub above_number_at29_units_aql40 : List ℕ
above_number_at29_units_aql40 =
    0x4C ∷ 0x54 ∷ 29  -- 29 sample units
    ∷ 0 ∷ 125 ∷ 0 ∷ 125 ∷ 0 ∷ 40 ∷ 0 ∷ 125  -- A: 12.5 12.5 4.0 12.5
    ∷ 0 ∷ 125 ∷ 0 ∷ 125 ∷ 0 ∷ 40 ∷ 0 ∷ 125  -- B: 12.5 12.5 4.0 12.5
    ∷ 0 ∷ 125 ∷ 0 ∷ 125 ∷ 0 ∷ 40 ∷ 0 ∷ 125  -- C: 12.5 12.5 4.0 12.5
    ∷ 0 ∷ 0 ∷ 0 ∷ 0 ∷ 0 ∷ 12 ∷ 0 ∷ 0  -- critical 0, severe 0, major 12, minor 0
    ∷ 0  -- prerequisite A
    ∷ []

-- AQL 5.0 at 29 units, number 14; a total of 14 by all four kinds: B.
unfoldable pub at_number_at29_units_aql50 : List ℕ
at_number_at29_units_aql50 =
    0x4C ∷ 0x54 ∷ 29  -- 29 sample units
    ∷ 0 ∷ 125 ∷ 0 ∷ 125 ∷ 0 ∷ 125 ∷ 0 ∷ 40  -- A: 12.5 12.5 12.5 4.0
    ∷ 0 ∷ 125 ∷ 0 ∷ 125 ∷ 0 ∷ 125 ∷ 0 ∷ 50  -- B: 12.5 12.5 12.5 5.0
    ∷ 0 ∷ 125 ∷ 0 ∷ 125 ∷ 0 ∷ 125 ∷ 0 ∷ 125  -- C: 12.5 12.5 12.5 12.5
    ∷ 0 ∷ 3 ∷ 0 ∷ 3 ∷ 0 ∷ 3 ∷ 0 ∷ 5  -- critical 3, severe 3, major 3, minor 5
    ∷ 0  -- prerequisite A
    ∷ []

-- AQL 5.0 at 29 units, number 14; a total of 15 by all four kinds: C.
unfoldable pub above_number_at29_units_aql50 : List ℕ
above_number_at29_units_aql50 =
    0x4C ∷ 0x54 ∷ 29  -- 29 sample units
    ∷ 0 ∷ 125 ∷ 0 ∷ 125 ∷ 0 ∷ 125 ∷ 0 ∷ 40  -- A: 12.5 12.5 12.5 4.0
    ∷ 0 ∷ 125 ∷ 0 ∷ 125 ∷ 0 ∷ 125 ∷ 0 ∷ 50  -- B: 12.5 12.5 12.5 5.0
    ∷ 0 ∷ 125 ∷ 0 ∷ 125 ∷ 0 ∷ 125 ∷ 0 ∷ 125  -- C: 12.5 12.5 12.5 12.5
    ∷ 0 ∷ 3 ∷ 0 ∷ 3 ∷ 0 ∷ 3 ∷ 0 ∷ 6  -- critical 3, severe 3, major 3, minor 6
    ∷ 0  -- prerequisite A
    ∷ []

-- AQL 12.5 at 29 units, number 29; a total of 29 by all four kinds: A.
unfoldable pub at_number_at29_units_aql125 : List ℕ
at_number_at29_units_aql125 =
    0x4C ∷ 0x54 ∷ 29  -- 29 sample units
    ∷ 0 ∷ 125 ∷ 0 ∷ 125 ∷ 0 ∷ 125 ∷ 0 ∷ 125  -- A: 12.5 12.5 12.5 12.5
    ∷ 0 ∷ 125 ∷ 0 ∷ 125 ∷ 0 ∷ 125 ∷ 0 ∷ 125  -- B: 12.5 12.5 12.5 12.5
    ∷ 0 ∷ 125 ∷ 0 ∷ 125 ∷ 0 ∷ 125 ∷ 0 ∷ 125  -- C: 12.5 12.5 12.5 12.5
    ∷ 0 ∷ 7 ∷ 0 ∷ 7 ∷ 0 ∷ 7 ∷ 0 ∷ 8  -- critical 7, severe 7, major 7, minor 8
    ∷ 0  -- prerequisite A
    ∷ []

-- AQL 12.5 at 29 units, number 29; a total of 30 by all four kinds: S.
unfoldable pub above_number_at29_units_aql125 : List ℕ
above_number_at29_units_aql125 =
    0x4C ∷ 0x54 ∷ 29  -- 29 sample units
    ∷ 0 ∷ 125 ∷ 0 ∷ 125 ∷ 0 ∷ 125 ∷ 0 ∷ 125  -- A: 12.5 12.5 12.5 12.5
    ∷ 0 ∷ 125 ∷ 0 ∷ 125 ∷ 0 ∷ 125 ∷ 0 ∷ 125  -- B: 12.5 12.5 12.5 12.5
    ∷ 0 ∷ 125 ∷ 0 ∷ 125 ∷ 0 ∷ 125 ∷ 0 ∷ 125  -- C: 12.5 12.5 12.5 12.5
    ∷ 0 ∷ 7 ∷ 0 ∷ 7 ∷ 0 ∷ 7 ∷ 0 ∷ 9  -- critical 7, severe 7, major 7, minor 9
    ∷ 0  -- prerequisite A
    ∷ []

-- No defect, prerequisite A; each AQL rises from A to B and from B to C.
unfoldable pub no_defect : List ℕ
no_defect =
    0x4C ∷ 0x54 ∷ 13  -- 13 sample units
    ∷ 0 ∷ 10 ∷ 0 ∷ 15 ∷ 0 ∷ 25 ∷ 0 ∷ 40  -- A: 1.0 1.5 2.5 4.0
    ∷ 0 ∷ 15 ∷ 0 ∷ 25 ∷ 0 ∷ 40 ∷ 0 ∷ 50  -- B: 1.5 2.5 4.0 5.0
    ∷ 0 ∷ 25 ∷ 0 ∷ 40 ∷ 0 ∷ 50 ∷ 0 ∷ 125  -- C: 2.5 4.0 5.0 12.5
    ∷ 0 ∷ 0 ∷ 0 ∷ 0 ∷ 0 ∷ 0 ∷ 0 ∷ 0  -- critical 0, severe 0, major 0, minor 0
    ∷ 0  -- prerequisite A
    ∷ []

-- Every class is admitted at A.
unfoldable pub some_of_each_kind : List ℕ
some_of_each_kind =
    0x4C ∷ 0x54 ∷ 13  -- 13 sample units
    ∷ 0 ∷ 10 ∷ 0 ∷ 15 ∷ 0 ∷ 25 ∷ 0 ∷ 40  -- A: 1.0 1.5 2.5 4.0
    ∷ 0 ∷ 15 ∷ 0 ∷ 25 ∷ 0 ∷ 40 ∷ 0 ∷ 50  -- B: 1.5 2.5 4.0 5.0
    ∷ 0 ∷ 25 ∷ 0 ∷ 40 ∷ 0 ∷ 50 ∷ 0 ∷ 125  -- C: 2.5 4.0 5.0 12.5
    ∷ 0 ∷ 1 ∷ 0 ∷ 1 ∷ 0 ∷ 1 ∷ 0 ∷ 1  -- critical 1, severe 1, major 1, minor 1
    ∷ 0  -- prerequisite A
    ∷ []

-- The count of critical is admitted not at A, and at B.
unfoldable pub grade_b_by_critical : List ℕ
grade_b_by_critical =
    0x4C ∷ 0x54 ∷ 13  -- 13 sample units
    ∷ 0 ∷ 10 ∷ 0 ∷ 15 ∷ 0 ∷ 25 ∷ 0 ∷ 40  -- A: 1.0 1.5 2.5 4.0
    ∷ 0 ∷ 15 ∷ 0 ∷ 25 ∷ 0 ∷ 40 ∷ 0 ∷ 50  -- B: 1.5 2.5 4.0 5.0
    ∷ 0 ∷ 25 ∷ 0 ∷ 40 ∷ 0 ∷ 50 ∷ 0 ∷ 125  -- C: 2.5 4.0 5.0 12.5
    ∷ 0 ∷ 3 ∷ 0 ∷ 0 ∷ 0 ∷ 0 ∷ 0 ∷ 0  -- critical 3, severe 0, major 0, minor 0
    ∷ 0  -- prerequisite A
    ∷ []

-- The count of critical is admitted not at A nor at B, and at C.
unfoldable pub grade_c_by_critical : List ℕ
grade_c_by_critical =
    0x4C ∷ 0x54 ∷ 13  -- 13 sample units
    ∷ 0 ∷ 10 ∷ 0 ∷ 15 ∷ 0 ∷ 25 ∷ 0 ∷ 40  -- A: 1.0 1.5 2.5 4.0
    ∷ 0 ∷ 15 ∷ 0 ∷ 25 ∷ 0 ∷ 40 ∷ 0 ∷ 50  -- B: 1.5 2.5 4.0 5.0
    ∷ 0 ∷ 25 ∷ 0 ∷ 40 ∷ 0 ∷ 50 ∷ 0 ∷ 125  -- C: 2.5 4.0 5.0 12.5
    ∷ 0 ∷ 4 ∷ 0 ∷ 0 ∷ 0 ∷ 0 ∷ 0 ∷ 0  -- critical 4, severe 0, major 0, minor 0
    ∷ 0  -- prerequisite A
    ∷ []

-- The count of critical is admitted at no grade.
unfoldable pub grade_s_by_critical : List ℕ
grade_s_by_critical =
    0x4C ∷ 0x54 ∷ 13  -- 13 sample units
    ∷ 0 ∷ 10 ∷ 0 ∷ 15 ∷ 0 ∷ 25 ∷ 0 ∷ 40  -- A: 1.0 1.5 2.5 4.0
    ∷ 0 ∷ 15 ∷ 0 ∷ 25 ∷ 0 ∷ 40 ∷ 0 ∷ 50  -- B: 1.5 2.5 4.0 5.0
    ∷ 0 ∷ 25 ∷ 0 ∷ 40 ∷ 0 ∷ 50 ∷ 0 ∷ 125  -- C: 2.5 4.0 5.0 12.5
    ∷ 0 ∷ 5 ∷ 0 ∷ 0 ∷ 0 ∷ 0 ∷ 0 ∷ 0  -- critical 5, severe 0, major 0, minor 0
    ∷ 0  -- prerequisite A
    ∷ []

-- The count of severe is admitted not at A, and at B.
unfoldable pub grade_b_by_severe : List ℕ
grade_b_by_severe =
    0x4C ∷ 0x54 ∷ 13  -- 13 sample units
    ∷ 0 ∷ 10 ∷ 0 ∷ 15 ∷ 0 ∷ 25 ∷ 0 ∷ 40  -- A: 1.0 1.5 2.5 4.0
    ∷ 0 ∷ 15 ∷ 0 ∷ 25 ∷ 0 ∷ 40 ∷ 0 ∷ 50  -- B: 1.5 2.5 4.0 5.0
    ∷ 0 ∷ 25 ∷ 0 ∷ 40 ∷ 0 ∷ 50 ∷ 0 ∷ 125  -- C: 2.5 4.0 5.0 12.5
    ∷ 0 ∷ 0 ∷ 0 ∷ 4 ∷ 0 ∷ 0 ∷ 0 ∷ 0  -- critical 0, severe 4, major 0, minor 0
    ∷ 0  -- prerequisite A
    ∷ []

-- The count of severe is admitted not at A nor at B, and at C.
unfoldable pub grade_c_by_severe : List ℕ
grade_c_by_severe =
    0x4C ∷ 0x54 ∷ 13  -- 13 sample units
    ∷ 0 ∷ 10 ∷ 0 ∷ 15 ∷ 0 ∷ 25 ∷ 0 ∷ 40  -- A: 1.0 1.5 2.5 4.0
    ∷ 0 ∷ 15 ∷ 0 ∷ 25 ∷ 0 ∷ 40 ∷ 0 ∷ 50  -- B: 1.5 2.5 4.0 5.0
    ∷ 0 ∷ 25 ∷ 0 ∷ 40 ∷ 0 ∷ 50 ∷ 0 ∷ 125  -- C: 2.5 4.0 5.0 12.5
    ∷ 0 ∷ 0 ∷ 0 ∷ 5 ∷ 0 ∷ 0 ∷ 0 ∷ 0  -- critical 0, severe 5, major 0, minor 0
    ∷ 0  -- prerequisite A
    ∷ []

-- The count of severe is admitted at no grade.
unfoldable pub grade_s_by_severe : List ℕ
grade_s_by_severe =
    0x4C ∷ 0x54 ∷ 13  -- 13 sample units
    ∷ 0 ∷ 10 ∷ 0 ∷ 15 ∷ 0 ∷ 25 ∷ 0 ∷ 40  -- A: 1.0 1.5 2.5 4.0
    ∷ 0 ∷ 15 ∷ 0 ∷ 25 ∷ 0 ∷ 40 ∷ 0 ∷ 50  -- B: 1.5 2.5 4.0 5.0
    ∷ 0 ∷ 25 ∷ 0 ∷ 40 ∷ 0 ∷ 50 ∷ 0 ∷ 125  -- C: 2.5 4.0 5.0 12.5
    ∷ 0 ∷ 0 ∷ 0 ∷ 7 ∷ 0 ∷ 0 ∷ 0 ∷ 0  -- critical 0, severe 7, major 0, minor 0
    ∷ 0  -- prerequisite A
    ∷ []

-- The count of major is admitted not at A, and at B.
unfoldable pub grade_b_by_major : List ℕ
grade_b_by_major =
    0x4C ∷ 0x54 ∷ 13  -- 13 sample units
    ∷ 0 ∷ 10 ∷ 0 ∷ 15 ∷ 0 ∷ 25 ∷ 0 ∷ 40  -- A: 1.0 1.5 2.5 4.0
    ∷ 0 ∷ 15 ∷ 0 ∷ 25 ∷ 0 ∷ 40 ∷ 0 ∷ 50  -- B: 1.5 2.5 4.0 5.0
    ∷ 0 ∷ 25 ∷ 0 ∷ 40 ∷ 0 ∷ 50 ∷ 0 ∷ 125  -- C: 2.5 4.0 5.0 12.5
    ∷ 0 ∷ 0 ∷ 0 ∷ 0 ∷ 0 ∷ 5 ∷ 0 ∷ 0  -- critical 0, severe 0, major 5, minor 0
    ∷ 0  -- prerequisite A
    ∷ []

-- The count of major is admitted not at A nor at B, and at C.
unfoldable pub grade_c_by_major : List ℕ
grade_c_by_major =
    0x4C ∷ 0x54 ∷ 13  -- 13 sample units
    ∷ 0 ∷ 10 ∷ 0 ∷ 15 ∷ 0 ∷ 25 ∷ 0 ∷ 40  -- A: 1.0 1.5 2.5 4.0
    ∷ 0 ∷ 15 ∷ 0 ∷ 25 ∷ 0 ∷ 40 ∷ 0 ∷ 50  -- B: 1.5 2.5 4.0 5.0
    ∷ 0 ∷ 25 ∷ 0 ∷ 40 ∷ 0 ∷ 50 ∷ 0 ∷ 125  -- C: 2.5 4.0 5.0 12.5
    ∷ 0 ∷ 0 ∷ 0 ∷ 0 ∷ 0 ∷ 7 ∷ 0 ∷ 0  -- critical 0, severe 0, major 7, minor 0
    ∷ 0  -- prerequisite A
    ∷ []

-- The count of major is admitted at no grade.
unfoldable pub grade_s_by_major : List ℕ
grade_s_by_major =
    0x4C ∷ 0x54 ∷ 13  -- 13 sample units
    ∷ 0 ∷ 10 ∷ 0 ∷ 15 ∷ 0 ∷ 25 ∷ 0 ∷ 40  -- A: 1.0 1.5 2.5 4.0
    ∷ 0 ∷ 15 ∷ 0 ∷ 25 ∷ 0 ∷ 40 ∷ 0 ∷ 50  -- B: 1.5 2.5 4.0 5.0
    ∷ 0 ∷ 25 ∷ 0 ∷ 40 ∷ 0 ∷ 50 ∷ 0 ∷ 125  -- C: 2.5 4.0 5.0 12.5
    ∷ 0 ∷ 0 ∷ 0 ∷ 0 ∷ 0 ∷ 8 ∷ 0 ∷ 0  -- critical 0, severe 0, major 8, minor 0
    ∷ 0  -- prerequisite A
    ∷ []

-- The count of total is admitted not at A, and at B.
unfoldable pub grade_b_by_total : List ℕ
grade_b_by_total =
    0x4C ∷ 0x54 ∷ 13  -- 13 sample units
    ∷ 0 ∷ 10 ∷ 0 ∷ 15 ∷ 0 ∷ 25 ∷ 0 ∷ 40  -- A: 1.0 1.5 2.5 4.0
    ∷ 0 ∷ 15 ∷ 0 ∷ 25 ∷ 0 ∷ 40 ∷ 0 ∷ 50  -- B: 1.5 2.5 4.0 5.0
    ∷ 0 ∷ 25 ∷ 0 ∷ 40 ∷ 0 ∷ 50 ∷ 0 ∷ 125  -- C: 2.5 4.0 5.0 12.5
    ∷ 0 ∷ 0 ∷ 0 ∷ 0 ∷ 0 ∷ 0 ∷ 0 ∷ 7  -- critical 0, severe 0, major 0, minor 7
    ∷ 0  -- prerequisite A
    ∷ []

-- The count of total is admitted not at A nor at B, and at C.
unfoldable pub grade_c_by_total : List ℕ
grade_c_by_total =
    0x4C ∷ 0x54 ∷ 13  -- 13 sample units
    ∷ 0 ∷ 10 ∷ 0 ∷ 15 ∷ 0 ∷ 25 ∷ 0 ∷ 40  -- A: 1.0 1.5 2.5 4.0
    ∷ 0 ∷ 15 ∷ 0 ∷ 25 ∷ 0 ∷ 40 ∷ 0 ∷ 50  -- B: 1.5 2.5 4.0 5.0
    ∷ 0 ∷ 25 ∷ 0 ∷ 40 ∷ 0 ∷ 50 ∷ 0 ∷ 125  -- C: 2.5 4.0 5.0 12.5
    ∷ 0 ∷ 0 ∷ 0 ∷ 0 ∷ 0 ∷ 0 ∷ 0 ∷ 8  -- critical 0, severe 0, major 0, minor 8
    ∷ 0  -- prerequisite A
    ∷ []

-- The count of total is admitted at no grade.
unfoldable pub grade_s_by_total : List ℕ
grade_s_by_total =
    0x4C ∷ 0x54 ∷ 13  -- 13 sample units
    ∷ 0 ∷ 10 ∷ 0 ∷ 15 ∷ 0 ∷ 25 ∷ 0 ∷ 40  -- A: 1.0 1.5 2.5 4.0
    ∷ 0 ∷ 15 ∷ 0 ∷ 25 ∷ 0 ∷ 40 ∷ 0 ∷ 50  -- B: 1.5 2.5 4.0 5.0
    ∷ 0 ∷ 25 ∷ 0 ∷ 40 ∷ 0 ∷ 50 ∷ 0 ∷ 125  -- C: 2.5 4.0 5.0 12.5
    ∷ 0 ∷ 0 ∷ 0 ∷ 0 ∷ 0 ∷ 0 ∷ 0 ∷ 16  -- critical 0, severe 0, major 0, minor 16
    ∷ 0  -- prerequisite A
    ∷ []

-- B admits critical and C severe: the first grade that admits both is C.
unfoldable pub critical_b_and_severe_c : List ℕ
critical_b_and_severe_c =
    0x4C ∷ 0x54 ∷ 13  -- 13 sample units
    ∷ 0 ∷ 10 ∷ 0 ∷ 15 ∷ 0 ∷ 25 ∷ 0 ∷ 125  -- A: 1.0 1.5 2.5 12.5
    ∷ 0 ∷ 15 ∷ 0 ∷ 25 ∷ 0 ∷ 40 ∷ 0 ∷ 125  -- B: 1.5 2.5 4.0 12.5
    ∷ 0 ∷ 25 ∷ 0 ∷ 40 ∷ 0 ∷ 50 ∷ 0 ∷ 125  -- C: 2.5 4.0 5.0 12.5
    ∷ 0 ∷ 3 ∷ 0 ∷ 5 ∷ 0 ∷ 0 ∷ 0 ∷ 0  -- critical 3, severe 5, major 0, minor 0
    ∷ 0  -- prerequisite A
    ∷ []

-- C admits critical and B severe.
unfoldable pub critical_c_and_severe_b : List ℕ
critical_c_and_severe_b =
    0x4C ∷ 0x54 ∷ 13  -- 13 sample units
    ∷ 0 ∷ 10 ∷ 0 ∷ 15 ∷ 0 ∷ 25 ∷ 0 ∷ 125  -- A: 1.0 1.5 2.5 12.5
    ∷ 0 ∷ 15 ∷ 0 ∷ 25 ∷ 0 ∷ 40 ∷ 0 ∷ 125  -- B: 1.5 2.5 4.0 12.5
    ∷ 0 ∷ 25 ∷ 0 ∷ 40 ∷ 0 ∷ 50 ∷ 0 ∷ 125  -- C: 2.5 4.0 5.0 12.5
    ∷ 0 ∷ 4 ∷ 0 ∷ 4 ∷ 0 ∷ 0 ∷ 0 ∷ 0  -- critical 4, severe 4, major 0, minor 0
    ∷ 0  -- prerequisite A
    ∷ []

-- B admits critical, and no grade major.
unfoldable pub critical_b_and_major_s : List ℕ
critical_b_and_major_s =
    0x4C ∷ 0x54 ∷ 13  -- 13 sample units
    ∷ 0 ∷ 10 ∷ 0 ∷ 15 ∷ 0 ∷ 25 ∷ 0 ∷ 125  -- A: 1.0 1.5 2.5 12.5
    ∷ 0 ∷ 15 ∷ 0 ∷ 25 ∷ 0 ∷ 40 ∷ 0 ∷ 125  -- B: 1.5 2.5 4.0 12.5
    ∷ 0 ∷ 25 ∷ 0 ∷ 40 ∷ 0 ∷ 50 ∷ 0 ∷ 125  -- C: 2.5 4.0 5.0 12.5
    ∷ 0 ∷ 3 ∷ 0 ∷ 0 ∷ 0 ∷ 8 ∷ 0 ∷ 0  -- critical 3, severe 0, major 8, minor 0
    ∷ 0  -- prerequisite A
    ∷ []

-- 15 minor are above every number of critical, severe and major; minor is no class.
unfoldable pub minor_alone : List ℕ
minor_alone =
    0x4C ∷ 0x54 ∷ 13  -- 13 sample units
    ∷ 0 ∷ 10 ∷ 0 ∷ 15 ∷ 0 ∷ 25 ∷ 0 ∷ 125  -- A: 1.0 1.5 2.5 12.5
    ∷ 0 ∷ 15 ∷ 0 ∷ 25 ∷ 0 ∷ 40 ∷ 0 ∷ 125  -- B: 1.5 2.5 4.0 12.5
    ∷ 0 ∷ 25 ∷ 0 ∷ 40 ∷ 0 ∷ 50 ∷ 0 ∷ 125  -- C: 2.5 4.0 5.0 12.5
    ∷ 0 ∷ 0 ∷ 0 ∷ 0 ∷ 0 ∷ 0 ∷ 0 ∷ 15  -- critical 0, severe 0, major 0, minor 15
    ∷ 0  -- prerequisite A
    ∷ []

-- 16 in total, where no kind is above 15 and every class but total is admitted at A.
unfoldable pub total_of_all_kinds : List ℕ
total_of_all_kinds =
    0x4C ∷ 0x54 ∷ 13  -- 13 sample units
    ∷ 0 ∷ 10 ∷ 0 ∷ 15 ∷ 0 ∷ 25 ∷ 0 ∷ 125  -- A: 1.0 1.5 2.5 12.5
    ∷ 0 ∷ 15 ∷ 0 ∷ 25 ∷ 0 ∷ 40 ∷ 0 ∷ 125  -- B: 1.5 2.5 4.0 12.5
    ∷ 0 ∷ 25 ∷ 0 ∷ 40 ∷ 0 ∷ 50 ∷ 0 ∷ 125  -- C: 2.5 4.0 5.0 12.5
    ∷ 0 ∷ 2 ∷ 0 ∷ 3 ∷ 0 ∷ 4 ∷ 0 ∷ 7  -- critical 2, severe 3, major 4, minor 7
    ∷ 0  -- prerequisite A
    ∷ []

-- No defect, prerequisite B.
unfoldable pub prerequisite_b : List ℕ
prerequisite_b =
    0x4C ∷ 0x54 ∷ 13  -- 13 sample units
    ∷ 0 ∷ 10 ∷ 0 ∷ 15 ∷ 0 ∷ 25 ∷ 0 ∷ 40  -- A: 1.0 1.5 2.5 4.0
    ∷ 0 ∷ 15 ∷ 0 ∷ 25 ∷ 0 ∷ 40 ∷ 0 ∷ 50  -- B: 1.5 2.5 4.0 5.0
    ∷ 0 ∷ 25 ∷ 0 ∷ 40 ∷ 0 ∷ 50 ∷ 0 ∷ 125  -- C: 2.5 4.0 5.0 12.5
    ∷ 0 ∷ 0 ∷ 0 ∷ 0 ∷ 0 ∷ 0 ∷ 0 ∷ 0  -- critical 0, severe 0, major 0, minor 0
    ∷ 1  -- prerequisite B
    ∷ []

-- No defect, prerequisite C.
unfoldable pub prerequisite_c : List ℕ
prerequisite_c =
    0x4C ∷ 0x54 ∷ 13  -- 13 sample units
    ∷ 0 ∷ 10 ∷ 0 ∷ 15 ∷ 0 ∷ 25 ∷ 0 ∷ 40  -- A: 1.0 1.5 2.5 4.0
    ∷ 0 ∷ 15 ∷ 0 ∷ 25 ∷ 0 ∷ 40 ∷ 0 ∷ 50  -- B: 1.5 2.5 4.0 5.0
    ∷ 0 ∷ 25 ∷ 0 ∷ 40 ∷ 0 ∷ 50 ∷ 0 ∷ 125  -- C: 2.5 4.0 5.0 12.5
    ∷ 0 ∷ 0 ∷ 0 ∷ 0 ∷ 0 ∷ 0 ∷ 0 ∷ 0  -- critical 0, severe 0, major 0, minor 0
    ∷ 2  -- prerequisite C
    ∷ []

-- No defect, prerequisite 3: accepted, as S.
unfoldable pub prerequisite_s : List ℕ
prerequisite_s =
    0x4C ∷ 0x54 ∷ 13  -- 13 sample units
    ∷ 0 ∷ 10 ∷ 0 ∷ 15 ∷ 0 ∷ 25 ∷ 0 ∷ 40  -- A: 1.0 1.5 2.5 4.0
    ∷ 0 ∷ 15 ∷ 0 ∷ 25 ∷ 0 ∷ 40 ∷ 0 ∷ 50  -- B: 1.5 2.5 4.0 5.0
    ∷ 0 ∷ 25 ∷ 0 ∷ 40 ∷ 0 ∷ 50 ∷ 0 ∷ 125  -- C: 2.5 4.0 5.0 12.5
    ∷ 0 ∷ 0 ∷ 0 ∷ 0 ∷ 0 ∷ 0 ∷ 0 ∷ 0  -- critical 0, severe 0, major 0, minor 0
    ∷ 3  -- prerequisite S
    ∷ []

-- Defect grade and prerequisite are B.
unfoldable pub both_b : List ℕ
both_b =
    0x4C ∷ 0x54 ∷ 13  -- 13 sample units
    ∷ 0 ∷ 10 ∷ 0 ∷ 15 ∷ 0 ∷ 25 ∷ 0 ∷ 40  -- A: 1.0 1.5 2.5 4.0
    ∷ 0 ∷ 15 ∷ 0 ∷ 25 ∷ 0 ∷ 40 ∷ 0 ∷ 50  -- B: 1.5 2.5 4.0 5.0
    ∷ 0 ∷ 25 ∷ 0 ∷ 40 ∷ 0 ∷ 50 ∷ 0 ∷ 125  -- C: 2.5 4.0 5.0 12.5
    ∷ 0 ∷ 3 ∷ 0 ∷ 0 ∷ 0 ∷ 0 ∷ 0 ∷ 0  -- critical 3, severe 0, major 0, minor 0
    ∷ 1  -- prerequisite B
    ∷ []

-- Defect grade C, prerequisite B.
unfoldable pub prerequisite_better : List ℕ
prerequisite_better =
    0x4C ∷ 0x54 ∷ 13  -- 13 sample units
    ∷ 0 ∷ 10 ∷ 0 ∷ 15 ∷ 0 ∷ 25 ∷ 0 ∷ 40  -- A: 1.0 1.5 2.5 4.0
    ∷ 0 ∷ 15 ∷ 0 ∷ 25 ∷ 0 ∷ 40 ∷ 0 ∷ 50  -- B: 1.5 2.5 4.0 5.0
    ∷ 0 ∷ 25 ∷ 0 ∷ 40 ∷ 0 ∷ 50 ∷ 0 ∷ 125  -- C: 2.5 4.0 5.0 12.5
    ∷ 0 ∷ 4 ∷ 0 ∷ 0 ∷ 0 ∷ 0 ∷ 0 ∷ 0  -- critical 4, severe 0, major 0, minor 0
    ∷ 1  -- prerequisite B
    ∷ []

-- Defect grade B, prerequisite C.
unfoldable pub prerequisite_worse : List ℕ
prerequisite_worse =
    0x4C ∷ 0x54 ∷ 13  -- 13 sample units
    ∷ 0 ∷ 10 ∷ 0 ∷ 15 ∷ 0 ∷ 25 ∷ 0 ∷ 40  -- A: 1.0 1.5 2.5 4.0
    ∷ 0 ∷ 15 ∷ 0 ∷ 25 ∷ 0 ∷ 40 ∷ 0 ∷ 50  -- B: 1.5 2.5 4.0 5.0
    ∷ 0 ∷ 25 ∷ 0 ∷ 40 ∷ 0 ∷ 50 ∷ 0 ∷ 125  -- C: 2.5 4.0 5.0 12.5
    ∷ 0 ∷ 3 ∷ 0 ∷ 0 ∷ 0 ∷ 0 ∷ 0 ∷ 0  -- critical 3, severe 0, major 0, minor 0
    ∷ 2  -- prerequisite C
    ∷ []

-- Defect grade S, prerequisite C.
unfoldable pub prerequisite_c_and_defects_s : List ℕ
prerequisite_c_and_defects_s =
    0x4C ∷ 0x54 ∷ 13  -- 13 sample units
    ∷ 0 ∷ 10 ∷ 0 ∷ 15 ∷ 0 ∷ 25 ∷ 0 ∷ 40  -- A: 1.0 1.5 2.5 4.0
    ∷ 0 ∷ 15 ∷ 0 ∷ 25 ∷ 0 ∷ 40 ∷ 0 ∷ 50  -- B: 1.5 2.5 4.0 5.0
    ∷ 0 ∷ 25 ∷ 0 ∷ 40 ∷ 0 ∷ 50 ∷ 0 ∷ 125  -- C: 2.5 4.0 5.0 12.5
    ∷ 0 ∷ 5 ∷ 0 ∷ 0 ∷ 0 ∷ 0 ∷ 0 ∷ 0  -- critical 5, severe 0, major 0, minor 0
    ∷ 2  -- prerequisite C
    ∷ []

-- Defect grade C, prerequisite S.
unfoldable pub prerequisite_s_and_defects_c : List ℕ
prerequisite_s_and_defects_c =
    0x4C ∷ 0x54 ∷ 13  -- 13 sample units
    ∷ 0 ∷ 10 ∷ 0 ∷ 15 ∷ 0 ∷ 25 ∷ 0 ∷ 40  -- A: 1.0 1.5 2.5 4.0
    ∷ 0 ∷ 15 ∷ 0 ∷ 25 ∷ 0 ∷ 40 ∷ 0 ∷ 50  -- B: 1.5 2.5 4.0 5.0
    ∷ 0 ∷ 25 ∷ 0 ∷ 40 ∷ 0 ∷ 50 ∷ 0 ∷ 125  -- C: 2.5 4.0 5.0 12.5
    ∷ 0 ∷ 4 ∷ 0 ∷ 0 ∷ 0 ∷ 0 ∷ 0 ∷ 0  -- critical 4, severe 0, major 0, minor 0
    ∷ 3  -- prerequisite S
    ∷ []

-- 2,000 critical are no ground of refusal: S.
unfoldable pub most_critical : List ℕ
most_critical =
    0x4C ∷ 0x54 ∷ 13  -- 13 sample units
    ∷ 0 ∷ 10 ∷ 0 ∷ 15 ∷ 0 ∷ 25 ∷ 0 ∷ 40  -- A: 1.0 1.5 2.5 4.0
    ∷ 0 ∷ 15 ∷ 0 ∷ 25 ∷ 0 ∷ 40 ∷ 0 ∷ 50  -- B: 1.5 2.5 4.0 5.0
    ∷ 0 ∷ 25 ∷ 0 ∷ 40 ∷ 0 ∷ 50 ∷ 0 ∷ 125  -- C: 2.5 4.0 5.0 12.5
    ∷ 7 ∷ 208 ∷ 0 ∷ 0 ∷ 0 ∷ 0 ∷ 0 ∷ 0  -- critical 2000, severe 0, major 0, minor 0
    ∷ 0  -- prerequisite A
    ∷ []

-- 2,000 severe are no ground of refusal: S.
unfoldable pub most_severe : List ℕ
most_severe =
    0x4C ∷ 0x54 ∷ 13  -- 13 sample units
    ∷ 0 ∷ 10 ∷ 0 ∷ 15 ∷ 0 ∷ 25 ∷ 0 ∷ 40  -- A: 1.0 1.5 2.5 4.0
    ∷ 0 ∷ 15 ∷ 0 ∷ 25 ∷ 0 ∷ 40 ∷ 0 ∷ 50  -- B: 1.5 2.5 4.0 5.0
    ∷ 0 ∷ 25 ∷ 0 ∷ 40 ∷ 0 ∷ 50 ∷ 0 ∷ 125  -- C: 2.5 4.0 5.0 12.5
    ∷ 0 ∷ 0 ∷ 7 ∷ 208 ∷ 0 ∷ 0 ∷ 0 ∷ 0  -- critical 0, severe 2000, major 0, minor 0
    ∷ 0  -- prerequisite A
    ∷ []

-- 2,000 major are no ground of refusal: S.
unfoldable pub most_major : List ℕ
most_major =
    0x4C ∷ 0x54 ∷ 13  -- 13 sample units
    ∷ 0 ∷ 10 ∷ 0 ∷ 15 ∷ 0 ∷ 25 ∷ 0 ∷ 40  -- A: 1.0 1.5 2.5 4.0
    ∷ 0 ∷ 15 ∷ 0 ∷ 25 ∷ 0 ∷ 40 ∷ 0 ∷ 50  -- B: 1.5 2.5 4.0 5.0
    ∷ 0 ∷ 25 ∷ 0 ∷ 40 ∷ 0 ∷ 50 ∷ 0 ∷ 125  -- C: 2.5 4.0 5.0 12.5
    ∷ 0 ∷ 0 ∷ 0 ∷ 0 ∷ 7 ∷ 208 ∷ 0 ∷ 0  -- critical 0, severe 0, major 2000, minor 0
    ∷ 0  -- prerequisite A
    ∷ []

-- 2,000 minor are no ground of refusal: S.
unfoldable pub most_minor : List ℕ
most_minor =
    0x4C ∷ 0x54 ∷ 13  -- 13 sample units
    ∷ 0 ∷ 10 ∷ 0 ∷ 15 ∷ 0 ∷ 25 ∷ 0 ∷ 40  -- A: 1.0 1.5 2.5 4.0
    ∷ 0 ∷ 15 ∷ 0 ∷ 25 ∷ 0 ∷ 40 ∷ 0 ∷ 50  -- B: 1.5 2.5 4.0 5.0
    ∷ 0 ∷ 25 ∷ 0 ∷ 40 ∷ 0 ∷ 50 ∷ 0 ∷ 125  -- C: 2.5 4.0 5.0 12.5
    ∷ 0 ∷ 0 ∷ 0 ∷ 0 ∷ 0 ∷ 0 ∷ 7 ∷ 208  -- critical 0, severe 0, major 0, minor 2000
    ∷ 0  -- prerequisite A
    ∷ []

-- 8,000 in total are no ground of refusal: S.
unfoldable pub most_of_each_kind : List ℕ
most_of_each_kind =
    0x4C ∷ 0x54 ∷ 13  -- 13 sample units
    ∷ 0 ∷ 10 ∷ 0 ∷ 15 ∷ 0 ∷ 25 ∷ 0 ∷ 40  -- A: 1.0 1.5 2.5 4.0
    ∷ 0 ∷ 15 ∷ 0 ∷ 25 ∷ 0 ∷ 40 ∷ 0 ∷ 50  -- B: 1.5 2.5 4.0 5.0
    ∷ 0 ∷ 25 ∷ 0 ∷ 40 ∷ 0 ∷ 50 ∷ 0 ∷ 125  -- C: 2.5 4.0 5.0 12.5
    ∷ 7 ∷ 208 ∷ 7 ∷ 208 ∷ 7 ∷ 208 ∷ 7 ∷ 208  -- critical 2000, severe 2000, major 2000, minor 2000
    ∷ 0  -- prerequisite A
    ∷ []

-- 256 critical, of which the low byte is 0: S.
unfoldable pub critical256 : List ℕ
critical256 =
    0x4C ∷ 0x54 ∷ 13  -- 13 sample units
    ∷ 0 ∷ 10 ∷ 0 ∷ 15 ∷ 0 ∷ 25 ∷ 0 ∷ 40  -- A: 1.0 1.5 2.5 4.0
    ∷ 0 ∷ 15 ∷ 0 ∷ 25 ∷ 0 ∷ 40 ∷ 0 ∷ 50  -- B: 1.5 2.5 4.0 5.0
    ∷ 0 ∷ 25 ∷ 0 ∷ 40 ∷ 0 ∷ 50 ∷ 0 ∷ 125  -- C: 2.5 4.0 5.0 12.5
    ∷ 1 ∷ 0 ∷ 0 ∷ 0 ∷ 0 ∷ 0 ∷ 0 ∷ 0  -- critical 256, severe 0, major 0, minor 0
    ∷ 0  -- prerequisite A
    ∷ []

-- 256 minor, of which the low byte is 0: S.
unfoldable pub minor256 : List ℕ
minor256 =
    0x4C ∷ 0x54 ∷ 13  -- 13 sample units
    ∷ 0 ∷ 10 ∷ 0 ∷ 15 ∷ 0 ∷ 25 ∷ 0 ∷ 40  -- A: 1.0 1.5 2.5 4.0
    ∷ 0 ∷ 15 ∷ 0 ∷ 25 ∷ 0 ∷ 40 ∷ 0 ∷ 50  -- B: 1.5 2.5 4.0 5.0
    ∷ 0 ∷ 25 ∷ 0 ∷ 40 ∷ 0 ∷ 50 ∷ 0 ∷ 125  -- C: 2.5 4.0 5.0 12.5
    ∷ 0 ∷ 0 ∷ 0 ∷ 0 ∷ 0 ∷ 0 ∷ 1 ∷ 0  -- critical 0, severe 0, major 0, minor 256
    ∷ 0  -- prerequisite A
    ∷ []

-- AQLs that are the same at A, B and C do not fall.
unfoldable pub equal_aq_ls : List ℕ
equal_aq_ls =
    0x4C ∷ 0x54 ∷ 13  -- 13 sample units
    ∷ 0 ∷ 25 ∷ 0 ∷ 25 ∷ 0 ∷ 25 ∷ 0 ∷ 125  -- A: 2.5 2.5 2.5 12.5
    ∷ 0 ∷ 25 ∷ 0 ∷ 25 ∷ 0 ∷ 25 ∷ 0 ∷ 125  -- B: 2.5 2.5 2.5 12.5
    ∷ 0 ∷ 25 ∷ 0 ∷ 25 ∷ 0 ∷ 25 ∷ 0 ∷ 125  -- C: 2.5 2.5 2.5 12.5
    ∷ 0 ∷ 4 ∷ 0 ∷ 4 ∷ 0 ∷ 4 ∷ 0 ∷ 3  -- critical 4, severe 4, major 4, minor 3
    ∷ 0  -- prerequisite A
    ∷ []

-- The same AQLs at A, B and C: admitted at A or not at all.
unfoldable pub equal_aq_ls_above_number : List ℕ
equal_aq_ls_above_number =
    0x4C ∷ 0x54 ∷ 13  -- 13 sample units
    ∷ 0 ∷ 25 ∷ 0 ∷ 25 ∷ 0 ∷ 25 ∷ 0 ∷ 125  -- A: 2.5 2.5 2.5 12.5
    ∷ 0 ∷ 25 ∷ 0 ∷ 25 ∷ 0 ∷ 25 ∷ 0 ∷ 125  -- B: 2.5 2.5 2.5 12.5
    ∷ 0 ∷ 25 ∷ 0 ∷ 25 ∷ 0 ∷ 25 ∷ 0 ∷ 125  -- C: 2.5 2.5 2.5 12.5
    ∷ 0 ∷ 0 ∷ 0 ∷ 0 ∷ 0 ∷ 5 ∷ 0 ∷ 0  -- critical 0, severe 0, major 5, minor 0
    ∷ 0  -- prerequisite A
    ∷ []

-- Each AQL rises from A to B, and is the same at B and C.
unfoldable pub rising_aq_ls_at_b_alone : List ℕ
rising_aq_ls_at_b_alone =
    0x4C ∷ 0x54 ∷ 13  -- 13 sample units
    ∷ 0 ∷ 10 ∷ 0 ∷ 15 ∷ 0 ∷ 25 ∷ 0 ∷ 40  -- A: 1.0 1.5 2.5 4.0
    ∷ 0 ∷ 15 ∷ 0 ∷ 25 ∷ 0 ∷ 40 ∷ 0 ∷ 50  -- B: 1.5 2.5 4.0 5.0
    ∷ 0 ∷ 15 ∷ 0 ∷ 25 ∷ 0 ∷ 40 ∷ 0 ∷ 50  -- C: 1.5 2.5 4.0 5.0
    ∷ 0 ∷ 0 ∷ 0 ∷ 4 ∷ 0 ∷ 0 ∷ 0 ∷ 0  -- critical 0, severe 4, major 0, minor 0
    ∷ 0  -- prerequisite A
    ∷ []

-- Each AQL is the same at A and B, and rises from B to C.
unfoldable pub rising_aq_ls_at_c_alone : List ℕ
rising_aq_ls_at_c_alone =
    0x4C ∷ 0x54 ∷ 13  -- 13 sample units
    ∷ 0 ∷ 10 ∷ 0 ∷ 15 ∷ 0 ∷ 25 ∷ 0 ∷ 40  -- A: 1.0 1.5 2.5 4.0
    ∷ 0 ∷ 10 ∷ 0 ∷ 15 ∷ 0 ∷ 25 ∷ 0 ∷ 40  -- B: 1.0 1.5 2.5 4.0
    ∷ 0 ∷ 15 ∷ 0 ∷ 25 ∷ 0 ∷ 40 ∷ 0 ∷ 50  -- C: 1.5 2.5 4.0 5.0
    ∷ 0 ∷ 0 ∷ 0 ∷ 4 ∷ 0 ∷ 0 ∷ 0 ∷ 0  -- critical 0, severe 4, major 0, minor 0
    ∷ 0  -- prerequisite A
    ∷ []

-- 6: no byte.
unfoldable pub no_byte : List ℕ
no_byte = []

-- 6: the first byte of the mark.
unfoldable pub one_byte : List ℕ
one_byte =
    0x4C
    ∷ []

-- 6: another second byte of the mark.
unfoldable pub mark4_c55 : List ℕ
mark4_c55 =
    0x4C ∷ 0x55 ∷ 13  -- 13 sample units
    ∷ 0 ∷ 10 ∷ 0 ∷ 15 ∷ 0 ∷ 25 ∷ 0 ∷ 40  -- A: 1.0 1.5 2.5 4.0
    ∷ 0 ∷ 15 ∷ 0 ∷ 25 ∷ 0 ∷ 40 ∷ 0 ∷ 50  -- B: 1.5 2.5 4.0 5.0
    ∷ 0 ∷ 25 ∷ 0 ∷ 40 ∷ 0 ∷ 50 ∷ 0 ∷ 125  -- C: 2.5 4.0 5.0 12.5
    ∷ 0 ∷ 0 ∷ 0 ∷ 0 ∷ 0 ∷ 0 ∷ 0 ∷ 0  -- critical 0, severe 0, major 0, minor 0
    ∷ 0  -- prerequisite A
    ∷ []

-- 6: another first byte of the mark.
unfoldable pub mark4_d54 : List ℕ
mark4_d54 =
    0x4D ∷ 0x54 ∷ 13  -- 13 sample units
    ∷ 0 ∷ 10 ∷ 0 ∷ 15 ∷ 0 ∷ 25 ∷ 0 ∷ 40  -- A: 1.0 1.5 2.5 4.0
    ∷ 0 ∷ 15 ∷ 0 ∷ 25 ∷ 0 ∷ 40 ∷ 0 ∷ 50  -- B: 1.5 2.5 4.0 5.0
    ∷ 0 ∷ 25 ∷ 0 ∷ 40 ∷ 0 ∷ 50 ∷ 0 ∷ 125  -- C: 2.5 4.0 5.0 12.5
    ∷ 0 ∷ 0 ∷ 0 ∷ 0 ∷ 0 ∷ 0 ∷ 0 ∷ 0  -- critical 0, severe 0, major 0, minor 0
    ∷ 0  -- prerequisite A
    ∷ []

-- 6: the bytes of the mark exchanged.
unfoldable pub mark544_c : List ℕ
mark544_c =
    0x54 ∷ 0x4C ∷ 13  -- 13 sample units
    ∷ 0 ∷ 10 ∷ 0 ∷ 15 ∷ 0 ∷ 25 ∷ 0 ∷ 40  -- A: 1.0 1.5 2.5 4.0
    ∷ 0 ∷ 15 ∷ 0 ∷ 25 ∷ 0 ∷ 40 ∷ 0 ∷ 50  -- B: 1.5 2.5 4.0 5.0
    ∷ 0 ∷ 25 ∷ 0 ∷ 40 ∷ 0 ∷ 50 ∷ 0 ∷ 125  -- C: 2.5 4.0 5.0 12.5
    ∷ 0 ∷ 0 ∷ 0 ∷ 0 ∷ 0 ∷ 0 ∷ 0 ∷ 0  -- critical 0, severe 0, major 0, minor 0
    ∷ 0  -- prerequisite A
    ∷ []

-- 7: 2 bytes.
unfoldable pub mark_alone : List ℕ
mark_alone =
    0x4C ∷ 0x54
    ∷ []

-- 7: 35 bytes, without the prerequisite.
unfoldable pub one_byte_less : List ℕ
one_byte_less =
    0x4C ∷ 0x54 ∷ 13  -- 13 sample units
    ∷ 0 ∷ 10 ∷ 0 ∷ 15 ∷ 0 ∷ 25 ∷ 0 ∷ 40  -- A: 1.0 1.5 2.5 4.0
    ∷ 0 ∷ 15 ∷ 0 ∷ 25 ∷ 0 ∷ 40 ∷ 0 ∷ 50  -- B: 1.5 2.5 4.0 5.0
    ∷ 0 ∷ 25 ∷ 0 ∷ 40 ∷ 0 ∷ 50 ∷ 0 ∷ 125  -- C: 2.5 4.0 5.0 12.5
    ∷ 0 ∷ 0 ∷ 0 ∷ 0 ∷ 0 ∷ 0 ∷ 0 ∷ 0  -- critical 0, severe 0, major 0, minor 0
    ∷ []

-- 7: 37 bytes, a lot and the first byte of another.
unfoldable pub one_byte_more : List ℕ
one_byte_more =
    0x4C ∷ 0x54 ∷ 13  -- 13 sample units
    ∷ 0 ∷ 10 ∷ 0 ∷ 15 ∷ 0 ∷ 25 ∷ 0 ∷ 40  -- A: 1.0 1.5 2.5 4.0
    ∷ 0 ∷ 15 ∷ 0 ∷ 25 ∷ 0 ∷ 40 ∷ 0 ∷ 50  -- B: 1.5 2.5 4.0 5.0
    ∷ 0 ∷ 25 ∷ 0 ∷ 40 ∷ 0 ∷ 50 ∷ 0 ∷ 125  -- C: 2.5 4.0 5.0 12.5
    ∷ 0 ∷ 0 ∷ 0 ∷ 0 ∷ 0 ∷ 0 ∷ 0 ∷ 0  -- critical 0, severe 0, major 0, minor 0
    ∷ 0  -- prerequisite A
    ∷ 0x4C
    ∷ []

-- 7: 72 bytes, two lots one behind the other.
unfoldable pub two_lots : List ℕ
two_lots =
    0x4C ∷ 0x54 ∷ 13  -- 13 sample units
    ∷ 0 ∷ 10 ∷ 0 ∷ 15 ∷ 0 ∷ 25 ∷ 0 ∷ 40  -- A: 1.0 1.5 2.5 4.0
    ∷ 0 ∷ 15 ∷ 0 ∷ 25 ∷ 0 ∷ 40 ∷ 0 ∷ 50  -- B: 1.5 2.5 4.0 5.0
    ∷ 0 ∷ 25 ∷ 0 ∷ 40 ∷ 0 ∷ 50 ∷ 0 ∷ 125  -- C: 2.5 4.0 5.0 12.5
    ∷ 0 ∷ 0 ∷ 0 ∷ 0 ∷ 0 ∷ 0 ∷ 0 ∷ 0  -- critical 0, severe 0, major 0, minor 0
    ∷ 0  -- prerequisite A
    ∷ 0x4C ∷ 0x54 ∷ 13  -- 13 sample units
    ∷ 0 ∷ 10 ∷ 0 ∷ 15 ∷ 0 ∷ 25 ∷ 0 ∷ 40  -- A: 1.0 1.5 2.5 4.0
    ∷ 0 ∷ 15 ∷ 0 ∷ 25 ∷ 0 ∷ 40 ∷ 0 ∷ 50  -- B: 1.5 2.5 4.0 5.0
    ∷ 0 ∷ 25 ∷ 0 ∷ 40 ∷ 0 ∷ 50 ∷ 0 ∷ 125  -- C: 2.5 4.0 5.0 12.5
    ∷ 0 ∷ 0 ∷ 0 ∷ 0 ∷ 0 ∷ 0 ∷ 0 ∷ 0  -- critical 0, severe 0, major 0, minor 0
    ∷ 0  -- prerequisite A
    ∷ []

-- 20: 0 sample units.
unfoldable pub sample_units0 : List ℕ
sample_units0 =
    0x4C ∷ 0x54 ∷ 0  -- 0 sample units
    ∷ 0 ∷ 10 ∷ 0 ∷ 15 ∷ 0 ∷ 25 ∷ 0 ∷ 40  -- A: 1.0 1.5 2.5 4.0
    ∷ 0 ∷ 15 ∷ 0 ∷ 25 ∷ 0 ∷ 40 ∷ 0 ∷ 50  -- B: 1.5 2.5 4.0 5.0
    ∷ 0 ∷ 25 ∷ 0 ∷ 40 ∷ 0 ∷ 50 ∷ 0 ∷ 125  -- C: 2.5 4.0 5.0 12.5
    ∷ 0 ∷ 0 ∷ 0 ∷ 0 ∷ 0 ∷ 0 ∷ 0 ∷ 0  -- critical 0, severe 0, major 0, minor 0
    ∷ 0  -- prerequisite A
    ∷ []

-- 20: 3 sample units.
unfoldable pub sample_units3 : List ℕ
sample_units3 =
    0x4C ∷ 0x54 ∷ 3  -- 3 sample units
    ∷ 0 ∷ 10 ∷ 0 ∷ 15 ∷ 0 ∷ 25 ∷ 0 ∷ 40  -- A: 1.0 1.5 2.5 4.0
    ∷ 0 ∷ 15 ∷ 0 ∷ 25 ∷ 0 ∷ 40 ∷ 0 ∷ 50  -- B: 1.5 2.5 4.0 5.0
    ∷ 0 ∷ 25 ∷ 0 ∷ 40 ∷ 0 ∷ 50 ∷ 0 ∷ 125  -- C: 2.5 4.0 5.0 12.5
    ∷ 0 ∷ 0 ∷ 0 ∷ 0 ∷ 0 ∷ 0 ∷ 0 ∷ 0  -- critical 0, severe 0, major 0, minor 0
    ∷ 0  -- prerequisite A
    ∷ []

-- 20: 5 sample units.
unfoldable pub sample_units5 : List ℕ
sample_units5 =
    0x4C ∷ 0x54 ∷ 5  -- 5 sample units
    ∷ 0 ∷ 10 ∷ 0 ∷ 15 ∷ 0 ∷ 25 ∷ 0 ∷ 40  -- A: 1.0 1.5 2.5 4.0
    ∷ 0 ∷ 15 ∷ 0 ∷ 25 ∷ 0 ∷ 40 ∷ 0 ∷ 50  -- B: 1.5 2.5 4.0 5.0
    ∷ 0 ∷ 25 ∷ 0 ∷ 40 ∷ 0 ∷ 50 ∷ 0 ∷ 125  -- C: 2.5 4.0 5.0 12.5
    ∷ 0 ∷ 0 ∷ 0 ∷ 0 ∷ 0 ∷ 0 ∷ 0 ∷ 0  -- critical 0, severe 0, major 0, minor 0
    ∷ 0  -- prerequisite A
    ∷ []

-- 20: 7 sample units.
unfoldable pub sample_units7 : List ℕ
sample_units7 =
    0x4C ∷ 0x54 ∷ 7  -- 7 sample units
    ∷ 0 ∷ 10 ∷ 0 ∷ 15 ∷ 0 ∷ 25 ∷ 0 ∷ 40  -- A: 1.0 1.5 2.5 4.0
    ∷ 0 ∷ 15 ∷ 0 ∷ 25 ∷ 0 ∷ 40 ∷ 0 ∷ 50  -- B: 1.5 2.5 4.0 5.0
    ∷ 0 ∷ 25 ∷ 0 ∷ 40 ∷ 0 ∷ 50 ∷ 0 ∷ 125  -- C: 2.5 4.0 5.0 12.5
    ∷ 0 ∷ 0 ∷ 0 ∷ 0 ∷ 0 ∷ 0 ∷ 0 ∷ 0  -- critical 0, severe 0, major 0, minor 0
    ∷ 0  -- prerequisite A
    ∷ []

-- 20: 14 sample units.
unfoldable pub sample_units14 : List ℕ
sample_units14 =
    0x4C ∷ 0x54 ∷ 14  -- 14 sample units
    ∷ 0 ∷ 10 ∷ 0 ∷ 15 ∷ 0 ∷ 25 ∷ 0 ∷ 40  -- A: 1.0 1.5 2.5 4.0
    ∷ 0 ∷ 15 ∷ 0 ∷ 25 ∷ 0 ∷ 40 ∷ 0 ∷ 50  -- B: 1.5 2.5 4.0 5.0
    ∷ 0 ∷ 25 ∷ 0 ∷ 40 ∷ 0 ∷ 50 ∷ 0 ∷ 125  -- C: 2.5 4.0 5.0 12.5
    ∷ 0 ∷ 0 ∷ 0 ∷ 0 ∷ 0 ∷ 0 ∷ 0 ∷ 0  -- critical 0, severe 0, major 0, minor 0
    ∷ 0  -- prerequisite A
    ∷ []

-- 20: 30 sample units.
unfoldable pub sample_units30 : List ℕ
sample_units30 =
    0x4C ∷ 0x54 ∷ 30  -- 30 sample units
    ∷ 0 ∷ 10 ∷ 0 ∷ 15 ∷ 0 ∷ 25 ∷ 0 ∷ 40  -- A: 1.0 1.5 2.5 4.0
    ∷ 0 ∷ 15 ∷ 0 ∷ 25 ∷ 0 ∷ 40 ∷ 0 ∷ 50  -- B: 1.5 2.5 4.0 5.0
    ∷ 0 ∷ 25 ∷ 0 ∷ 40 ∷ 0 ∷ 50 ∷ 0 ∷ 125  -- C: 2.5 4.0 5.0 12.5
    ∷ 0 ∷ 0 ∷ 0 ∷ 0 ∷ 0 ∷ 0 ∷ 0 ∷ 0  -- critical 0, severe 0, major 0, minor 0
    ∷ 0  -- prerequisite A
    ∷ []

-- 21: 9 tenths, one less than a listed one, at the first place.
unfoldable pub unlisted_a_critical : List ℕ
unlisted_a_critical =
    0x4C ∷ 0x54 ∷ 13  -- 13 sample units
    ∷ 0 ∷ 9 ∷ 0 ∷ 15 ∷ 0 ∷ 25 ∷ 0 ∷ 40  -- A: 0.9 1.5 2.5 4.0
    ∷ 0 ∷ 15 ∷ 0 ∷ 25 ∷ 0 ∷ 40 ∷ 0 ∷ 50  -- B: 1.5 2.5 4.0 5.0
    ∷ 0 ∷ 25 ∷ 0 ∷ 40 ∷ 0 ∷ 50 ∷ 0 ∷ 125  -- C: 2.5 4.0 5.0 12.5
    ∷ 0 ∷ 0 ∷ 0 ∷ 0 ∷ 0 ∷ 0 ∷ 0 ∷ 0  -- critical 0, severe 0, major 0, minor 0
    ∷ 0  -- prerequisite A
    ∷ []

-- 21: 0 tenths, the least.
unfoldable pub unlisted_a_severe : List ℕ
unlisted_a_severe =
    0x4C ∷ 0x54 ∷ 13  -- 13 sample units
    ∷ 0 ∷ 10 ∷ 0 ∷ 0 ∷ 0 ∷ 25 ∷ 0 ∷ 40  -- A: 1.0 0.0 2.5 4.0
    ∷ 0 ∷ 15 ∷ 0 ∷ 25 ∷ 0 ∷ 40 ∷ 0 ∷ 50  -- B: 1.5 2.5 4.0 5.0
    ∷ 0 ∷ 25 ∷ 0 ∷ 40 ∷ 0 ∷ 50 ∷ 0 ∷ 125  -- C: 2.5 4.0 5.0 12.5
    ∷ 0 ∷ 0 ∷ 0 ∷ 0 ∷ 0 ∷ 0 ∷ 0 ∷ 0  -- critical 0, severe 0, major 0, minor 0
    ∷ 0  -- prerequisite A
    ∷ []

-- 21: 24 tenths, one less than a listed one.
unfoldable pub unlisted_a_major : List ℕ
unlisted_a_major =
    0x4C ∷ 0x54 ∷ 13  -- 13 sample units
    ∷ 0 ∷ 10 ∷ 0 ∷ 15 ∷ 0 ∷ 24 ∷ 0 ∷ 40  -- A: 1.0 1.5 2.4 4.0
    ∷ 0 ∷ 15 ∷ 0 ∷ 25 ∷ 0 ∷ 40 ∷ 0 ∷ 50  -- B: 1.5 2.5 4.0 5.0
    ∷ 0 ∷ 25 ∷ 0 ∷ 40 ∷ 0 ∷ 50 ∷ 0 ∷ 125  -- C: 2.5 4.0 5.0 12.5
    ∷ 0 ∷ 0 ∷ 0 ∷ 0 ∷ 0 ∷ 0 ∷ 0 ∷ 0  -- critical 0, severe 0, major 0, minor 0
    ∷ 0  -- prerequisite A
    ∷ []

-- 21: 39 tenths, one less than a listed one.
unfoldable pub unlisted_a_total : List ℕ
unlisted_a_total =
    0x4C ∷ 0x54 ∷ 13  -- 13 sample units
    ∷ 0 ∷ 10 ∷ 0 ∷ 15 ∷ 0 ∷ 25 ∷ 0 ∷ 39  -- A: 1.0 1.5 2.5 3.9
    ∷ 0 ∷ 15 ∷ 0 ∷ 25 ∷ 0 ∷ 40 ∷ 0 ∷ 50  -- B: 1.5 2.5 4.0 5.0
    ∷ 0 ∷ 25 ∷ 0 ∷ 40 ∷ 0 ∷ 50 ∷ 0 ∷ 125  -- C: 2.5 4.0 5.0 12.5
    ∷ 0 ∷ 0 ∷ 0 ∷ 0 ∷ 0 ∷ 0 ∷ 0 ∷ 0  -- critical 0, severe 0, major 0, minor 0
    ∷ 0  -- prerequisite A
    ∷ []

-- 21: 11 tenths, one more than a listed one.
unfoldable pub unlisted_b_critical : List ℕ
unlisted_b_critical =
    0x4C ∷ 0x54 ∷ 13  -- 13 sample units
    ∷ 0 ∷ 10 ∷ 0 ∷ 15 ∷ 0 ∷ 25 ∷ 0 ∷ 40  -- A: 1.0 1.5 2.5 4.0
    ∷ 0 ∷ 11 ∷ 0 ∷ 25 ∷ 0 ∷ 40 ∷ 0 ∷ 50  -- B: 1.1 2.5 4.0 5.0
    ∷ 0 ∷ 25 ∷ 0 ∷ 40 ∷ 0 ∷ 50 ∷ 0 ∷ 125  -- C: 2.5 4.0 5.0 12.5
    ∷ 0 ∷ 0 ∷ 0 ∷ 0 ∷ 0 ∷ 0 ∷ 0 ∷ 0  -- critical 0, severe 0, major 0, minor 0
    ∷ 0  -- prerequisite A
    ∷ []

-- 21: 26 tenths, one more than a listed one.
unfoldable pub unlisted_b_severe : List ℕ
unlisted_b_severe =
    0x4C ∷ 0x54 ∷ 13  -- 13 sample units
    ∷ 0 ∷ 10 ∷ 0 ∷ 15 ∷ 0 ∷ 25 ∷ 0 ∷ 40  -- A: 1.0 1.5 2.5 4.0
    ∷ 0 ∷ 15 ∷ 0 ∷ 26 ∷ 0 ∷ 40 ∷ 0 ∷ 50  -- B: 1.5 2.6 4.0 5.0
    ∷ 0 ∷ 25 ∷ 0 ∷ 40 ∷ 0 ∷ 50 ∷ 0 ∷ 125  -- C: 2.5 4.0 5.0 12.5
    ∷ 0 ∷ 0 ∷ 0 ∷ 0 ∷ 0 ∷ 0 ∷ 0 ∷ 0  -- critical 0, severe 0, major 0, minor 0
    ∷ 0  -- prerequisite A
    ∷ []

-- 21: 41 tenths, one more than a listed one.
unfoldable pub unlisted_b_major : List ℕ
unlisted_b_major =
    0x4C ∷ 0x54 ∷ 13  -- 13 sample units
    ∷ 0 ∷ 10 ∷ 0 ∷ 15 ∷ 0 ∷ 25 ∷ 0 ∷ 40  -- A: 1.0 1.5 2.5 4.0
    ∷ 0 ∷ 15 ∷ 0 ∷ 25 ∷ 0 ∷ 41 ∷ 0 ∷ 50  -- B: 1.5 2.5 4.1 5.0
    ∷ 0 ∷ 25 ∷ 0 ∷ 40 ∷ 0 ∷ 50 ∷ 0 ∷ 125  -- C: 2.5 4.0 5.0 12.5
    ∷ 0 ∷ 0 ∷ 0 ∷ 0 ∷ 0 ∷ 0 ∷ 0 ∷ 0  -- critical 0, severe 0, major 0, minor 0
    ∷ 0  -- prerequisite A
    ∷ []

-- 21: 100 tenths, 10.0, and not the 1.0 that is listed.
unfoldable pub unlisted_b_total : List ℕ
unlisted_b_total =
    0x4C ∷ 0x54 ∷ 13  -- 13 sample units
    ∷ 0 ∷ 10 ∷ 0 ∷ 15 ∷ 0 ∷ 25 ∷ 0 ∷ 40  -- A: 1.0 1.5 2.5 4.0
    ∷ 0 ∷ 15 ∷ 0 ∷ 25 ∷ 0 ∷ 40 ∷ 0 ∷ 100  -- B: 1.5 2.5 4.0 10.0
    ∷ 0 ∷ 25 ∷ 0 ∷ 40 ∷ 0 ∷ 50 ∷ 0 ∷ 125  -- C: 2.5 4.0 5.0 12.5
    ∷ 0 ∷ 0 ∷ 0 ∷ 0 ∷ 0 ∷ 0 ∷ 0 ∷ 0  -- critical 0, severe 0, major 0, minor 0
    ∷ 0  -- prerequisite A
    ∷ []

-- 21: 2560 tenths, 10 with its bytes exchanged.
unfoldable pub unlisted_c_critical : List ℕ
unlisted_c_critical =
    0x4C ∷ 0x54 ∷ 13  -- 13 sample units
    ∷ 0 ∷ 10 ∷ 0 ∷ 15 ∷ 0 ∷ 25 ∷ 0 ∷ 40  -- A: 1.0 1.5 2.5 4.0
    ∷ 0 ∷ 15 ∷ 0 ∷ 25 ∷ 0 ∷ 40 ∷ 0 ∷ 50  -- B: 1.5 2.5 4.0 5.0
    ∷ 10 ∷ 0 ∷ 0 ∷ 40 ∷ 0 ∷ 50 ∷ 0 ∷ 125  -- C: 256.0 4.0 5.0 12.5
    ∷ 0 ∷ 0 ∷ 0 ∷ 0 ∷ 0 ∷ 0 ∷ 0 ∷ 0  -- critical 0, severe 0, major 0, minor 0
    ∷ 0  -- prerequisite A
    ∷ []

-- 21: 296 tenths, 40 with another high byte.
unfoldable pub unlisted_c_severe : List ℕ
unlisted_c_severe =
    0x4C ∷ 0x54 ∷ 13  -- 13 sample units
    ∷ 0 ∷ 10 ∷ 0 ∷ 15 ∷ 0 ∷ 25 ∷ 0 ∷ 40  -- A: 1.0 1.5 2.5 4.0
    ∷ 0 ∷ 15 ∷ 0 ∷ 25 ∷ 0 ∷ 40 ∷ 0 ∷ 50  -- B: 1.5 2.5 4.0 5.0
    ∷ 0 ∷ 25 ∷ 1 ∷ 40 ∷ 0 ∷ 50 ∷ 0 ∷ 125  -- C: 2.5 29.6 5.0 12.5
    ∷ 0 ∷ 0 ∷ 0 ∷ 0 ∷ 0 ∷ 0 ∷ 0 ∷ 0  -- critical 0, severe 0, major 0, minor 0
    ∷ 0  -- prerequisite A
    ∷ []

-- 21: 65 tenths, an AQL of document 003 that is not in the table.
unfoldable pub unlisted_c_major : List ℕ
unlisted_c_major =
    0x4C ∷ 0x54 ∷ 13  -- 13 sample units
    ∷ 0 ∷ 10 ∷ 0 ∷ 15 ∷ 0 ∷ 25 ∷ 0 ∷ 40  -- A: 1.0 1.5 2.5 4.0
    ∷ 0 ∷ 15 ∷ 0 ∷ 25 ∷ 0 ∷ 40 ∷ 0 ∷ 50  -- B: 1.5 2.5 4.0 5.0
    ∷ 0 ∷ 25 ∷ 0 ∷ 40 ∷ 0 ∷ 65 ∷ 0 ∷ 125  -- C: 2.5 4.0 6.5 12.5
    ∷ 0 ∷ 0 ∷ 0 ∷ 0 ∷ 0 ∷ 0 ∷ 0 ∷ 0  -- critical 0, severe 0, major 0, minor 0
    ∷ 0  -- prerequisite A
    ∷ []

-- 21: 65535 tenths, the greatest, at the last place.
unfoldable pub unlisted_c_total : List ℕ
unlisted_c_total =
    0x4C ∷ 0x54 ∷ 13  -- 13 sample units
    ∷ 0 ∷ 10 ∷ 0 ∷ 15 ∷ 0 ∷ 25 ∷ 0 ∷ 40  -- A: 1.0 1.5 2.5 4.0
    ∷ 0 ∷ 15 ∷ 0 ∷ 25 ∷ 0 ∷ 40 ∷ 0 ∷ 50  -- B: 1.5 2.5 4.0 5.0
    ∷ 0 ∷ 25 ∷ 0 ∷ 40 ∷ 0 ∷ 50 ∷ 255 ∷ 255  -- C: 2.5 4.0 5.0 6553.5
    ∷ 0 ∷ 0 ∷ 0 ∷ 0 ∷ 0 ∷ 0 ∷ 0 ∷ 0  -- critical 0, severe 0, major 0, minor 0
    ∷ 0  -- prerequisite A
    ∷ []

-- 22: critical falls from A to B; at C it is as at A.
unfoldable pub critical_falls_from_a_to_b : List ℕ
critical_falls_from_a_to_b =
    0x4C ∷ 0x54 ∷ 13  -- 13 sample units
    ∷ 0 ∷ 25 ∷ 0 ∷ 15 ∷ 0 ∷ 25 ∷ 0 ∷ 40  -- A: 2.5 1.5 2.5 4.0
    ∷ 0 ∷ 15 ∷ 0 ∷ 25 ∷ 0 ∷ 40 ∷ 0 ∷ 50  -- B: 1.5 2.5 4.0 5.0
    ∷ 0 ∷ 25 ∷ 0 ∷ 40 ∷ 0 ∷ 50 ∷ 0 ∷ 125  -- C: 2.5 4.0 5.0 12.5
    ∷ 0 ∷ 0 ∷ 0 ∷ 0 ∷ 0 ∷ 0 ∷ 0 ∷ 0  -- critical 0, severe 0, major 0, minor 0
    ∷ 0  -- prerequisite A
    ∷ []

-- 22: severe falls from A to B; at C it is above A.
unfoldable pub severe_falls_from_a_to_b : List ℕ
severe_falls_from_a_to_b =
    0x4C ∷ 0x54 ∷ 13  -- 13 sample units
    ∷ 0 ∷ 10 ∷ 0 ∷ 25 ∷ 0 ∷ 25 ∷ 0 ∷ 40  -- A: 1.0 2.5 2.5 4.0
    ∷ 0 ∷ 15 ∷ 0 ∷ 15 ∷ 0 ∷ 40 ∷ 0 ∷ 50  -- B: 1.5 1.5 4.0 5.0
    ∷ 0 ∷ 25 ∷ 0 ∷ 40 ∷ 0 ∷ 50 ∷ 0 ∷ 125  -- C: 2.5 4.0 5.0 12.5
    ∷ 0 ∷ 0 ∷ 0 ∷ 0 ∷ 0 ∷ 0 ∷ 0 ∷ 0  -- critical 0, severe 0, major 0, minor 0
    ∷ 0  -- prerequisite A
    ∷ []

-- 22: major falls from A to B; at C it is as at A.
unfoldable pub major_falls_from_a_to_b : List ℕ
major_falls_from_a_to_b =
    0x4C ∷ 0x54 ∷ 13  -- 13 sample units
    ∷ 0 ∷ 10 ∷ 0 ∷ 15 ∷ 0 ∷ 50 ∷ 0 ∷ 40  -- A: 1.0 1.5 5.0 4.0
    ∷ 0 ∷ 15 ∷ 0 ∷ 25 ∷ 0 ∷ 40 ∷ 0 ∷ 50  -- B: 1.5 2.5 4.0 5.0
    ∷ 0 ∷ 25 ∷ 0 ∷ 40 ∷ 0 ∷ 50 ∷ 0 ∷ 125  -- C: 2.5 4.0 5.0 12.5
    ∷ 0 ∷ 0 ∷ 0 ∷ 0 ∷ 0 ∷ 0 ∷ 0 ∷ 0  -- critical 0, severe 0, major 0, minor 0
    ∷ 0  -- prerequisite A
    ∷ []

-- 22: total falls from A to B; at C it is above A.
unfoldable pub total_falls_from_a_to_b : List ℕ
total_falls_from_a_to_b =
    0x4C ∷ 0x54 ∷ 13  -- 13 sample units
    ∷ 0 ∷ 10 ∷ 0 ∷ 15 ∷ 0 ∷ 25 ∷ 0 ∷ 50  -- A: 1.0 1.5 2.5 5.0
    ∷ 0 ∷ 15 ∷ 0 ∷ 25 ∷ 0 ∷ 40 ∷ 0 ∷ 40  -- B: 1.5 2.5 4.0 4.0
    ∷ 0 ∷ 25 ∷ 0 ∷ 40 ∷ 0 ∷ 50 ∷ 0 ∷ 125  -- C: 2.5 4.0 5.0 12.5
    ∷ 0 ∷ 0 ∷ 0 ∷ 0 ∷ 0 ∷ 0 ∷ 0 ∷ 0  -- critical 0, severe 0, major 0, minor 0
    ∷ 0  -- prerequisite A
    ∷ []

-- 22: critical falls from B to C, and not below A.
unfoldable pub critical_falls_from_b_to_c : List ℕ
critical_falls_from_b_to_c =
    0x4C ∷ 0x54 ∷ 13  -- 13 sample units
    ∷ 0 ∷ 10 ∷ 0 ∷ 15 ∷ 0 ∷ 25 ∷ 0 ∷ 40  -- A: 1.0 1.5 2.5 4.0
    ∷ 0 ∷ 25 ∷ 0 ∷ 25 ∷ 0 ∷ 40 ∷ 0 ∷ 50  -- B: 2.5 2.5 4.0 5.0
    ∷ 0 ∷ 15 ∷ 0 ∷ 40 ∷ 0 ∷ 50 ∷ 0 ∷ 125  -- C: 1.5 4.0 5.0 12.5
    ∷ 0 ∷ 0 ∷ 0 ∷ 0 ∷ 0 ∷ 0 ∷ 0 ∷ 0  -- critical 0, severe 0, major 0, minor 0
    ∷ 0  -- prerequisite A
    ∷ []

-- 22: severe falls from B to C, to what it is at A.
unfoldable pub severe_falls_from_b_to_c : List ℕ
severe_falls_from_b_to_c =
    0x4C ∷ 0x54 ∷ 13  -- 13 sample units
    ∷ 0 ∷ 10 ∷ 0 ∷ 15 ∷ 0 ∷ 25 ∷ 0 ∷ 40  -- A: 1.0 1.5 2.5 4.0
    ∷ 0 ∷ 15 ∷ 0 ∷ 40 ∷ 0 ∷ 40 ∷ 0 ∷ 50  -- B: 1.5 4.0 4.0 5.0
    ∷ 0 ∷ 25 ∷ 0 ∷ 15 ∷ 0 ∷ 50 ∷ 0 ∷ 125  -- C: 2.5 1.5 5.0 12.5
    ∷ 0 ∷ 0 ∷ 0 ∷ 0 ∷ 0 ∷ 0 ∷ 0 ∷ 0  -- critical 0, severe 0, major 0, minor 0
    ∷ 0  -- prerequisite A
    ∷ []

-- 22: major falls from B to C, and not below A.
unfoldable pub major_falls_from_b_to_c : List ℕ
major_falls_from_b_to_c =
    0x4C ∷ 0x54 ∷ 13  -- 13 sample units
    ∷ 0 ∷ 10 ∷ 0 ∷ 15 ∷ 0 ∷ 25 ∷ 0 ∷ 40  -- A: 1.0 1.5 2.5 4.0
    ∷ 0 ∷ 15 ∷ 0 ∷ 25 ∷ 0 ∷ 50 ∷ 0 ∷ 50  -- B: 1.5 2.5 5.0 5.0
    ∷ 0 ∷ 25 ∷ 0 ∷ 40 ∷ 0 ∷ 40 ∷ 0 ∷ 125  -- C: 2.5 4.0 4.0 12.5
    ∷ 0 ∷ 0 ∷ 0 ∷ 0 ∷ 0 ∷ 0 ∷ 0 ∷ 0  -- critical 0, severe 0, major 0, minor 0
    ∷ 0  -- prerequisite A
    ∷ []

-- 22: total falls from B to C, to what it is at A.
unfoldable pub total_falls_from_b_to_c : List ℕ
total_falls_from_b_to_c =
    0x4C ∷ 0x54 ∷ 13  -- 13 sample units
    ∷ 0 ∷ 10 ∷ 0 ∷ 15 ∷ 0 ∷ 25 ∷ 0 ∷ 50  -- A: 1.0 1.5 2.5 5.0
    ∷ 0 ∷ 15 ∷ 0 ∷ 25 ∷ 0 ∷ 40 ∷ 0 ∷ 125  -- B: 1.5 2.5 4.0 12.5
    ∷ 0 ∷ 25 ∷ 0 ∷ 40 ∷ 0 ∷ 50 ∷ 0 ∷ 50  -- C: 2.5 4.0 5.0 5.0
    ∷ 0 ∷ 0 ∷ 0 ∷ 0 ∷ 0 ∷ 0 ∷ 0 ∷ 0  -- critical 0, severe 0, major 0, minor 0
    ∷ 0  -- prerequisite A
    ∷ []

-- 8: 2,001 critical.
unfoldable pub too_many_critical : List ℕ
too_many_critical =
    0x4C ∷ 0x54 ∷ 13  -- 13 sample units
    ∷ 0 ∷ 10 ∷ 0 ∷ 15 ∷ 0 ∷ 25 ∷ 0 ∷ 40  -- A: 1.0 1.5 2.5 4.0
    ∷ 0 ∷ 15 ∷ 0 ∷ 25 ∷ 0 ∷ 40 ∷ 0 ∷ 50  -- B: 1.5 2.5 4.0 5.0
    ∷ 0 ∷ 25 ∷ 0 ∷ 40 ∷ 0 ∷ 50 ∷ 0 ∷ 125  -- C: 2.5 4.0 5.0 12.5
    ∷ 7 ∷ 209 ∷ 0 ∷ 0 ∷ 0 ∷ 0 ∷ 0 ∷ 0  -- critical 2001, severe 0, major 0, minor 0
    ∷ 0  -- prerequisite A
    ∷ []

-- 8: 2,001 severe.
unfoldable pub too_many_severe : List ℕ
too_many_severe =
    0x4C ∷ 0x54 ∷ 13  -- 13 sample units
    ∷ 0 ∷ 10 ∷ 0 ∷ 15 ∷ 0 ∷ 25 ∷ 0 ∷ 40  -- A: 1.0 1.5 2.5 4.0
    ∷ 0 ∷ 15 ∷ 0 ∷ 25 ∷ 0 ∷ 40 ∷ 0 ∷ 50  -- B: 1.5 2.5 4.0 5.0
    ∷ 0 ∷ 25 ∷ 0 ∷ 40 ∷ 0 ∷ 50 ∷ 0 ∷ 125  -- C: 2.5 4.0 5.0 12.5
    ∷ 0 ∷ 0 ∷ 7 ∷ 209 ∷ 0 ∷ 0 ∷ 0 ∷ 0  -- critical 0, severe 2001, major 0, minor 0
    ∷ 0  -- prerequisite A
    ∷ []

-- 8: 2,001 major.
unfoldable pub too_many_major : List ℕ
too_many_major =
    0x4C ∷ 0x54 ∷ 13  -- 13 sample units
    ∷ 0 ∷ 10 ∷ 0 ∷ 15 ∷ 0 ∷ 25 ∷ 0 ∷ 40  -- A: 1.0 1.5 2.5 4.0
    ∷ 0 ∷ 15 ∷ 0 ∷ 25 ∷ 0 ∷ 40 ∷ 0 ∷ 50  -- B: 1.5 2.5 4.0 5.0
    ∷ 0 ∷ 25 ∷ 0 ∷ 40 ∷ 0 ∷ 50 ∷ 0 ∷ 125  -- C: 2.5 4.0 5.0 12.5
    ∷ 0 ∷ 0 ∷ 0 ∷ 0 ∷ 7 ∷ 209 ∷ 0 ∷ 0  -- critical 0, severe 0, major 2001, minor 0
    ∷ 0  -- prerequisite A
    ∷ []

-- 8: 2,001 minor.
unfoldable pub too_many_minor : List ℕ
too_many_minor =
    0x4C ∷ 0x54 ∷ 13  -- 13 sample units
    ∷ 0 ∷ 10 ∷ 0 ∷ 15 ∷ 0 ∷ 25 ∷ 0 ∷ 40  -- A: 1.0 1.5 2.5 4.0
    ∷ 0 ∷ 15 ∷ 0 ∷ 25 ∷ 0 ∷ 40 ∷ 0 ∷ 50  -- B: 1.5 2.5 4.0 5.0
    ∷ 0 ∷ 25 ∷ 0 ∷ 40 ∷ 0 ∷ 50 ∷ 0 ∷ 125  -- C: 2.5 4.0 5.0 12.5
    ∷ 0 ∷ 0 ∷ 0 ∷ 0 ∷ 0 ∷ 0 ∷ 7 ∷ 209  -- critical 0, severe 0, major 0, minor 2001
    ∷ 0  -- prerequisite A
    ∷ []

-- 8: 65,535 major.
unfoldable pub greatest_count : List ℕ
greatest_count =
    0x4C ∷ 0x54 ∷ 13  -- 13 sample units
    ∷ 0 ∷ 10 ∷ 0 ∷ 15 ∷ 0 ∷ 25 ∷ 0 ∷ 40  -- A: 1.0 1.5 2.5 4.0
    ∷ 0 ∷ 15 ∷ 0 ∷ 25 ∷ 0 ∷ 40 ∷ 0 ∷ 50  -- B: 1.5 2.5 4.0 5.0
    ∷ 0 ∷ 25 ∷ 0 ∷ 40 ∷ 0 ∷ 50 ∷ 0 ∷ 125  -- C: 2.5 4.0 5.0 12.5
    ∷ 0 ∷ 0 ∷ 0 ∷ 0 ∷ 255 ∷ 255 ∷ 0 ∷ 0  -- critical 0, severe 0, major 65535, minor 0
    ∷ 0  -- prerequisite A
    ∷ []

-- 9: prerequisite 4.
unfoldable pub prerequisite4 : List ℕ
prerequisite4 =
    0x4C ∷ 0x54 ∷ 13  -- 13 sample units
    ∷ 0 ∷ 10 ∷ 0 ∷ 15 ∷ 0 ∷ 25 ∷ 0 ∷ 40  -- A: 1.0 1.5 2.5 4.0
    ∷ 0 ∷ 15 ∷ 0 ∷ 25 ∷ 0 ∷ 40 ∷ 0 ∷ 50  -- B: 1.5 2.5 4.0 5.0
    ∷ 0 ∷ 25 ∷ 0 ∷ 40 ∷ 0 ∷ 50 ∷ 0 ∷ 125  -- C: 2.5 4.0 5.0 12.5
    ∷ 0 ∷ 0 ∷ 0 ∷ 0 ∷ 0 ∷ 0 ∷ 0 ∷ 0  -- critical 0, severe 0, major 0, minor 0
    ∷ 4  -- prerequisite
    ∷ []

-- 9: prerequisite 255.
unfoldable pub prerequisite255 : List ℕ
prerequisite255 =
    0x4C ∷ 0x54 ∷ 13  -- 13 sample units
    ∷ 0 ∷ 10 ∷ 0 ∷ 15 ∷ 0 ∷ 25 ∷ 0 ∷ 40  -- A: 1.0 1.5 2.5 4.0
    ∷ 0 ∷ 15 ∷ 0 ∷ 25 ∷ 0 ∷ 40 ∷ 0 ∷ 50  -- B: 1.5 2.5 4.0 5.0
    ∷ 0 ∷ 25 ∷ 0 ∷ 40 ∷ 0 ∷ 50 ∷ 0 ∷ 125  -- C: 2.5 4.0 5.0 12.5
    ∷ 0 ∷ 0 ∷ 0 ∷ 0 ∷ 0 ∷ 0 ∷ 0 ∷ 0  -- critical 0, severe 0, major 0, minor 0
    ∷ 255  -- prerequisite
    ∷ []

-- 6: a wrong mark and 35 bytes.
unfoldable pub mark_before_length : List ℕ
mark_before_length =
    0x4C ∷ 0x55 ∷ 13  -- 13 sample units
    ∷ 0 ∷ 10 ∷ 0 ∷ 15 ∷ 0 ∷ 25 ∷ 0 ∷ 40  -- A: 1.0 1.5 2.5 4.0
    ∷ 0 ∷ 15 ∷ 0 ∷ 25 ∷ 0 ∷ 40 ∷ 0 ∷ 50  -- B: 1.5 2.5 4.0 5.0
    ∷ 0 ∷ 25 ∷ 0 ∷ 40 ∷ 0 ∷ 50 ∷ 0 ∷ 125  -- C: 2.5 4.0 5.0 12.5
    ∷ 0 ∷ 0 ∷ 0 ∷ 0 ∷ 0 ∷ 0 ∷ 0 ∷ 0  -- critical 0, severe 0, major 0, minor 0
    ∷ []

-- 7: 35 bytes and 7 sample units.
unfoldable pub length_before_sample_units : List ℕ
length_before_sample_units =
    0x4C ∷ 0x54 ∷ 7  -- 7 sample units
    ∷ 0 ∷ 10 ∷ 0 ∷ 15 ∷ 0 ∷ 25 ∷ 0 ∷ 40  -- A: 1.0 1.5 2.5 4.0
    ∷ 0 ∷ 15 ∷ 0 ∷ 25 ∷ 0 ∷ 40 ∷ 0 ∷ 50  -- B: 1.5 2.5 4.0 5.0
    ∷ 0 ∷ 25 ∷ 0 ∷ 40 ∷ 0 ∷ 50 ∷ 0 ∷ 125  -- C: 2.5 4.0 5.0 12.5
    ∷ 0 ∷ 0 ∷ 0 ∷ 0 ∷ 0 ∷ 0 ∷ 0 ∷ 0  -- critical 0, severe 0, major 0, minor 0
    ∷ []

-- 20: 7 sample units and an AQL of 12.6.
unfoldable pub sample_units_before_unlisted_aql : List ℕ
sample_units_before_unlisted_aql =
    0x4C ∷ 0x54 ∷ 7  -- 7 sample units
    ∷ 0 ∷ 10 ∷ 0 ∷ 15 ∷ 0 ∷ 25 ∷ 0 ∷ 40  -- A: 1.0 1.5 2.5 4.0
    ∷ 0 ∷ 15 ∷ 0 ∷ 25 ∷ 0 ∷ 40 ∷ 0 ∷ 50  -- B: 1.5 2.5 4.0 5.0
    ∷ 0 ∷ 25 ∷ 0 ∷ 40 ∷ 0 ∷ 50 ∷ 0 ∷ 126  -- C: 2.5 4.0 5.0 12.6
    ∷ 0 ∷ 0 ∷ 0 ∷ 0 ∷ 0 ∷ 0 ∷ 0 ∷ 0  -- critical 0, severe 0, major 0, minor 0
    ∷ 0  -- prerequisite A
    ∷ []

-- 21: the first class falls from A to B, and the AQL at the last place is 12.6.
unfoldable pub unlisted_aql_before_fall : List ℕ
unlisted_aql_before_fall =
    0x4C ∷ 0x54 ∷ 13  -- 13 sample units
    ∷ 0 ∷ 25 ∷ 0 ∷ 15 ∷ 0 ∷ 25 ∷ 0 ∷ 40  -- A: 2.5 1.5 2.5 4.0
    ∷ 0 ∷ 15 ∷ 0 ∷ 25 ∷ 0 ∷ 40 ∷ 0 ∷ 50  -- B: 1.5 2.5 4.0 5.0
    ∷ 0 ∷ 25 ∷ 0 ∷ 40 ∷ 0 ∷ 50 ∷ 0 ∷ 126  -- C: 2.5 4.0 5.0 12.6
    ∷ 0 ∷ 0 ∷ 0 ∷ 0 ∷ 0 ∷ 0 ∷ 0 ∷ 0  -- critical 0, severe 0, major 0, minor 0
    ∷ 0  -- prerequisite A
    ∷ []

-- 21: an AQL of 12.6 falls from A to B.
unfoldable pub unlisted_aql_that_falls : List ℕ
unlisted_aql_that_falls =
    0x4C ∷ 0x54 ∷ 13  -- 13 sample units
    ∷ 0 ∷ 10 ∷ 0 ∷ 15 ∷ 0 ∷ 25 ∷ 0 ∷ 126  -- A: 1.0 1.5 2.5 12.6
    ∷ 0 ∷ 15 ∷ 0 ∷ 25 ∷ 0 ∷ 40 ∷ 0 ∷ 50  -- B: 1.5 2.5 4.0 5.0
    ∷ 0 ∷ 25 ∷ 0 ∷ 40 ∷ 0 ∷ 50 ∷ 0 ∷ 125  -- C: 2.5 4.0 5.0 12.5
    ∷ 0 ∷ 0 ∷ 0 ∷ 0 ∷ 0 ∷ 0 ∷ 0 ∷ 0  -- critical 0, severe 0, major 0, minor 0
    ∷ 0  -- prerequisite A
    ∷ []

-- 22: the first class falls from A to B, and 2,001 minor.
unfoldable pub fall_before_count : List ℕ
fall_before_count =
    0x4C ∷ 0x54 ∷ 13  -- 13 sample units
    ∷ 0 ∷ 25 ∷ 0 ∷ 15 ∷ 0 ∷ 25 ∷ 0 ∷ 40  -- A: 2.5 1.5 2.5 4.0
    ∷ 0 ∷ 15 ∷ 0 ∷ 25 ∷ 0 ∷ 40 ∷ 0 ∷ 50  -- B: 1.5 2.5 4.0 5.0
    ∷ 0 ∷ 25 ∷ 0 ∷ 40 ∷ 0 ∷ 50 ∷ 0 ∷ 125  -- C: 2.5 4.0 5.0 12.5
    ∷ 0 ∷ 0 ∷ 0 ∷ 0 ∷ 0 ∷ 0 ∷ 7 ∷ 209  -- critical 0, severe 0, major 0, minor 2001
    ∷ 0  -- prerequisite A
    ∷ []

-- 8: 2,001 minor and prerequisite 4.
unfoldable pub count_before_prerequisite : List ℕ
count_before_prerequisite =
    0x4C ∷ 0x54 ∷ 13  -- 13 sample units
    ∷ 0 ∷ 10 ∷ 0 ∷ 15 ∷ 0 ∷ 25 ∷ 0 ∷ 40  -- A: 1.0 1.5 2.5 4.0
    ∷ 0 ∷ 15 ∷ 0 ∷ 25 ∷ 0 ∷ 40 ∷ 0 ∷ 50  -- B: 1.5 2.5 4.0 5.0
    ∷ 0 ∷ 25 ∷ 0 ∷ 40 ∷ 0 ∷ 50 ∷ 0 ∷ 125  -- C: 2.5 4.0 5.0 12.5
    ∷ 0 ∷ 0 ∷ 0 ∷ 0 ∷ 0 ∷ 0 ∷ 7 ∷ 209  -- critical 0, severe 0, major 0, minor 2001
    ∷ 4  -- prerequisite
    ∷ []

-- 20: 7 sample units, an AQL of 12.6, a fall, 2,001 minor and prerequisite 4.
unfoldable pub all_grounds_of_fields : List ℕ
all_grounds_of_fields =
    0x4C ∷ 0x54 ∷ 7  -- 7 sample units
    ∷ 0 ∷ 25 ∷ 0 ∷ 15 ∷ 0 ∷ 25 ∷ 0 ∷ 40  -- A: 2.5 1.5 2.5 4.0
    ∷ 0 ∷ 15 ∷ 0 ∷ 25 ∷ 0 ∷ 40 ∷ 0 ∷ 50  -- B: 1.5 2.5 4.0 5.0
    ∷ 0 ∷ 25 ∷ 0 ∷ 40 ∷ 0 ∷ 50 ∷ 0 ∷ 126  -- C: 2.5 4.0 5.0 12.6
    ∷ 0 ∷ 0 ∷ 0 ∷ 0 ∷ 0 ∷ 0 ∷ 7 ∷ 209  -- critical 0, severe 0, major 0, minor 2001
    ∷ 4  -- prerequisite
    ∷ []

-- 6: the same with a wrong mark and a byte behind it.
unfoldable pub all_grounds : List ℕ
all_grounds =
    0x4C ∷ 0x55 ∷ 7  -- 7 sample units
    ∷ 0 ∷ 25 ∷ 0 ∷ 15 ∷ 0 ∷ 25 ∷ 0 ∷ 40  -- A: 2.5 1.5 2.5 4.0
    ∷ 0 ∷ 15 ∷ 0 ∷ 25 ∷ 0 ∷ 40 ∷ 0 ∷ 50  -- B: 1.5 2.5 4.0 5.0
    ∷ 0 ∷ 25 ∷ 0 ∷ 40 ∷ 0 ∷ 50 ∷ 0 ∷ 126  -- C: 2.5 4.0 5.0 12.6
    ∷ 0 ∷ 0 ∷ 0 ∷ 0 ∷ 0 ∷ 0 ∷ 7 ∷ 209  -- critical 0, severe 0, major 0, minor 2001
    ∷ 4  -- prerequisite
    ∷ 0x4C
    ∷ []

-- all of them: of an accepted lot the grade, of a refused one the number
pub record ComputedLots : Type 0 where
  pub example_17 : RefusedLot example17 21
  pub example_19 : GradedLot example19 0
  pub at_number_at_6_units_aql_10 : GradedLot at_number_at6_units_aql10 0
  pub above_number_at_6_units_aql_10 : GradedLot above_number_at6_units_aql10 1
  pub at_number_at_6_units_aql_15 : GradedLot at_number_at6_units_aql15 0
  pub above_number_at_6_units_aql_15 : GradedLot above_number_at6_units_aql15 1
  pub at_number_at_6_units_aql_25 : GradedLot at_number_at6_units_aql25 1
  pub above_number_at_6_units_aql_25 : GradedLot above_number_at6_units_aql25 2
  pub at_number_at_6_units_aql_40 : GradedLot at_number_at6_units_aql40 2
  pub above_number_at_6_units_aql_40 : GradedLot above_number_at6_units_aql40 3
  pub at_number_at_6_units_aql_50 : GradedLot at_number_at6_units_aql50 1
  pub above_number_at_6_units_aql_50 : GradedLot above_number_at6_units_aql50 2
  pub at_number_at_6_units_aql_125 : GradedLot at_number_at6_units_aql125 0
  pub above_number_at_6_units_aql_125 : GradedLot above_number_at6_units_aql125 3
  pub at_number_at_13_units_aql_10 : GradedLot at_number_at13_units_aql10 0
  pub above_number_at_13_units_aql_10 : GradedLot above_number_at13_units_aql10 3
  pub at_number_at_13_units_aql_15 : GradedLot at_number_at13_units_aql15 1
  pub above_number_at_13_units_aql_15 : GradedLot above_number_at13_units_aql15 2
  pub at_number_at_13_units_aql_25 : GradedLot at_number_at13_units_aql25 2
  pub above_number_at_13_units_aql_25 : GradedLot above_number_at13_units_aql25 3
  pub at_number_at_13_units_aql_40 : GradedLot at_number_at13_units_aql40 0
  pub above_number_at_13_units_aql_40 : GradedLot above_number_at13_units_aql40 1
  pub at_number_at_13_units_aql_50 : GradedLot at_number_at13_units_aql50 2
  pub above_number_at_13_units_aql_50 : GradedLot above_number_at13_units_aql50 3
  pub at_number_at_13_units_aql_125 : GradedLot at_number_at13_units_aql125 1
  pub above_number_at_13_units_aql_125 : GradedLot above_number_at13_units_aql125 3
  pub at_number_at_21_units_aql_10 : GradedLot at_number_at21_units_aql10 0
  pub above_number_at_21_units_aql_10 : GradedLot above_number_at21_units_aql10 1
  pub at_number_at_21_units_aql_15 : GradedLot at_number_at21_units_aql15 2
  pub above_number_at_21_units_aql_15 : GradedLot above_number_at21_units_aql15 3
  pub at_number_at_21_units_aql_25 : GradedLot at_number_at21_units_aql25 2
  pub above_number_at_21_units_aql_25 : GradedLot above_number_at21_units_aql25 3
  pub at_number_at_21_units_aql_40 : GradedLot at_number_at21_units_aql40 1
  pub above_number_at_21_units_aql_40 : GradedLot above_number_at21_units_aql40 2
  pub at_number_at_21_units_aql_50 : GradedLot at_number_at21_units_aql50 2
  pub above_number_at_21_units_aql_50 : GradedLot above_number_at21_units_aql50 3
  pub at_number_at_21_units_aql_125 : GradedLot at_number_at21_units_aql125 2
  pub above_number_at_21_units_aql_125 : GradedLot above_number_at21_units_aql125 3
  pub at_number_at_29_units_aql_10 : GradedLot at_number_at29_units_aql10 0
  pub above_number_at_29_units_aql_10 : GradedLot above_number_at29_units_aql10 1
  pub at_number_at_29_units_aql_15 : GradedLot at_number_at29_units_aql15 1
  pub above_number_at_29_units_aql_15 : GradedLot above_number_at29_units_aql15 2
  pub at_number_at_29_units_aql_25 : GradedLot at_number_at29_units_aql25 2
  pub above_number_at_29_units_aql_25 : GradedLot above_number_at29_units_aql25 3
  pub at_number_at_29_units_aql_40 : GradedLot at_number_at29_units_aql40 0
  pub above_number_at_29_units_aql_40 : GradedLot above_number_at29_units_aql40 3
  pub at_number_at_29_units_aql_50 : GradedLot at_number_at29_units_aql50 1
  pub above_number_at_29_units_aql_50 : GradedLot above_number_at29_units_aql50 2
  pub at_number_at_29_units_aql_125 : GradedLot at_number_at29_units_aql125 0
  pub above_number_at_29_units_aql_125 : GradedLot above_number_at29_units_aql125 3
  pub no_defect_holds : GradedLot no_defect 0
  pub some_of_each_kind_holds : GradedLot some_of_each_kind 0
  pub grade_b_by_critical_holds : GradedLot grade_b_by_critical 1
  pub grade_c_by_critical_holds : GradedLot grade_c_by_critical 2
  pub grade_s_by_critical_holds : GradedLot grade_s_by_critical 3
  pub grade_b_by_severe_holds : GradedLot grade_b_by_severe 1
  pub grade_c_by_severe_holds : GradedLot grade_c_by_severe 2
  pub grade_s_by_severe_holds : GradedLot grade_s_by_severe 3
  pub grade_b_by_major_holds : GradedLot grade_b_by_major 1
  pub grade_c_by_major_holds : GradedLot grade_c_by_major 2
  pub grade_s_by_major_holds : GradedLot grade_s_by_major 3
  pub grade_b_by_total_holds : GradedLot grade_b_by_total 1
  pub grade_c_by_total_holds : GradedLot grade_c_by_total 2
  pub grade_s_by_total_holds : GradedLot grade_s_by_total 3
  pub critical_b_and_severe_c_holds : GradedLot critical_b_and_severe_c 2
  pub critical_c_and_severe_b_holds : GradedLot critical_c_and_severe_b 2
  pub critical_b_and_major_s_holds : GradedLot critical_b_and_major_s 3
  pub minor_alone_holds : GradedLot minor_alone 0
  pub total_of_all_kinds_holds : GradedLot total_of_all_kinds 3
  pub prerequisite_b_holds : GradedLot prerequisite_b 1
  pub prerequisite_c_holds : GradedLot prerequisite_c 2
  pub prerequisite_s_holds : GradedLot prerequisite_s 3
  pub both_b_holds : GradedLot both_b 1
  pub prerequisite_better_holds : GradedLot prerequisite_better 2
  pub prerequisite_worse_holds : GradedLot prerequisite_worse 2
  pub prerequisite_c_and_defects_s_holds : GradedLot prerequisite_c_and_defects_s 3
  pub prerequisite_s_and_defects_c_holds : GradedLot prerequisite_s_and_defects_c 3
  pub most_critical_holds : GradedLot most_critical 3
  pub most_severe_holds : GradedLot most_severe 3
  pub most_major_holds : GradedLot most_major 3
  pub most_minor_holds : GradedLot most_minor 3
  pub most_of_each_kind_holds : GradedLot most_of_each_kind 3
  pub critical_256 : GradedLot critical256 3
  pub minor_256 : GradedLot minor256 3
  pub equal_aqls : GradedLot equal_aq_ls 0
  pub equal_aqls_above_number : GradedLot equal_aq_ls_above_number 3
  pub rising_aqls_at_b_alone : GradedLot rising_aq_ls_at_b_alone 1
  pub rising_aqls_at_c_alone : GradedLot rising_aq_ls_at_c_alone 2
  pub no_byte_holds : RefusedLot no_byte 6
  pub one_byte_holds : RefusedLot one_byte 6
  pub mark_4c_55 : RefusedLot mark4_c55 6
  pub mark_4d_54 : RefusedLot mark4_d54 6
  pub mark_54_4c : RefusedLot mark544_c 6
  pub mark_alone_holds : RefusedLot mark_alone 7
  pub one_byte_less_holds : RefusedLot one_byte_less 7
  pub one_byte_more_holds : RefusedLot one_byte_more 7
  pub two_lots_holds : RefusedLot two_lots 7
  pub sample_units_0 : RefusedLot sample_units0 20
  pub sample_units_3 : RefusedLot sample_units3 20
  pub sample_units_5 : RefusedLot sample_units5 20
  pub sample_units_7 : RefusedLot sample_units7 20
  pub sample_units_14 : RefusedLot sample_units14 20
  pub sample_units_30 : RefusedLot sample_units30 20
  pub unlisted_a_critical_holds : RefusedLot unlisted_a_critical 21
  pub unlisted_a_severe_holds : RefusedLot unlisted_a_severe 21
  pub unlisted_a_major_holds : RefusedLot unlisted_a_major 21
  pub unlisted_a_total_holds : RefusedLot unlisted_a_total 21
  pub unlisted_b_critical_holds : RefusedLot unlisted_b_critical 21
  pub unlisted_b_severe_holds : RefusedLot unlisted_b_severe 21
  pub unlisted_b_major_holds : RefusedLot unlisted_b_major 21
  pub unlisted_b_total_holds : RefusedLot unlisted_b_total 21
  pub unlisted_c_critical_holds : RefusedLot unlisted_c_critical 21
  pub unlisted_c_severe_holds : RefusedLot unlisted_c_severe 21
  pub unlisted_c_major_holds : RefusedLot unlisted_c_major 21
  pub unlisted_c_total_holds : RefusedLot unlisted_c_total 21
  pub critical_falls_from_a_to_b_holds : RefusedLot critical_falls_from_a_to_b 22
  pub severe_falls_from_a_to_b_holds : RefusedLot severe_falls_from_a_to_b 22
  pub major_falls_from_a_to_b_holds : RefusedLot major_falls_from_a_to_b 22
  pub total_falls_from_a_to_b_holds : RefusedLot total_falls_from_a_to_b 22
  pub critical_falls_from_b_to_c_holds : RefusedLot critical_falls_from_b_to_c 22
  pub severe_falls_from_b_to_c_holds : RefusedLot severe_falls_from_b_to_c 22
  pub major_falls_from_b_to_c_holds : RefusedLot major_falls_from_b_to_c 22
  pub total_falls_from_b_to_c_holds : RefusedLot total_falls_from_b_to_c 22
  pub too_many_critical_holds : RefusedLot too_many_critical 8
  pub too_many_severe_holds : RefusedLot too_many_severe 8
  pub too_many_major_holds : RefusedLot too_many_major 8
  pub too_many_minor_holds : RefusedLot too_many_minor 8
  pub greatest_count_holds : RefusedLot greatest_count 8
  pub prerequisite_4 : RefusedLot prerequisite4 9
  pub prerequisite_255 : RefusedLot prerequisite255 9
  pub mark_before_length_holds : RefusedLot mark_before_length 6
  pub length_before_sample_units_holds : RefusedLot length_before_sample_units 7
  pub sample_units_before_unlisted_aql_holds : RefusedLot sample_units_before_unlisted_aql 20
  pub unlisted_aql_before_fall_holds : RefusedLot unlisted_aql_before_fall 21
  pub unlisted_aql_that_falls_holds : RefusedLot unlisted_aql_that_falls 21
  pub fall_before_count_holds : RefusedLot fall_before_count 22
  pub count_before_prerequisite_holds : RefusedLot count_before_prerequisite 8
  pub all_grounds_of_fields_holds : RefusedLot all_grounds_of_fields 20
  pub all_grounds_holds : RefusedLot all_grounds 6

-- Look-ups in bytes, as one group: the record at the end. Each is held to the number, the offset and the bytes of the part that the
-- independent grader gives for it (tests/grader, written from the papers alone), so that a rule which is wrong on one of them alike in a
-- definition and in the code that meets it is refused here. This file is printed by tests/cases/src/bin/computed_lookups.rs.
use Rattle.std.specs.Prelude.{ℕ, List, [], ◌∷◌}
use Rattle.lookup_demands.specs.HandedBack.{FoundWith, NotOnSheet, RefusedResults}

-- Behind each record its code, its portion grade byte and its code grade byte. Where nothing else is said, every byte behind these is its
-- offset in the results, so that the part tells which record it is.

-- The results of the peach sheet of paper 01: code 5 is A at unit 5 and B at unit 6.
unfoldable pub peach_sheet : List ℕ
peach_sheet =
    0x47 ∷ 0x52 ∷ 0 ∷ 1 ∷ 0 ∷ 0 ∷ 0 ∷ 0 ∷ 0 ∷ 0 ∷ 0 ∷ 0 ∷ 0 ∷ 0 ∷ 0 ∷ 20  -- 1: 0, 0
    ∷ 0 ∷ 0 ∷ 0 ∷ 0 ∷ 0 ∷ 0 ∷ 0 ∷ 0 ∷ 0 ∷ 0 ∷ 0 ∷ 0 ∷ 0 ∷ 0 ∷ 0 ∷ 0
    ∷ 0x47 ∷ 0x52 ∷ 0 ∷ 2 ∷ 1 ∷ 1 ∷ 0 ∷ 1 ∷ 0 ∷ 0 ∷ 0 ∷ 5 ∷ 0 ∷ 10 ∷ 0 ∷ 40  -- 2: 1, 1
    ∷ 0 ∷ 0 ∷ 0 ∷ 0 ∷ 0 ∷ 0 ∷ 0 ∷ 0 ∷ 0 ∷ 0 ∷ 0 ∷ 0 ∷ 0 ∷ 0 ∷ 0 ∷ 40
    ∷ 0x47 ∷ 0x52 ∷ 0 ∷ 3 ∷ 1 ∷ 1 ∷ 0 ∷ 1 ∷ 0 ∷ 0 ∷ 0 ∷ 0 ∷ 0 ∷ 10 ∷ 0 ∷ 40  -- 3: 1, 1
    ∷ 0 ∷ 0 ∷ 0 ∷ 0 ∷ 0 ∷ 0 ∷ 0 ∷ 0 ∷ 0 ∷ 0 ∷ 0 ∷ 0 ∷ 0 ∷ 0 ∷ 0 ∷ 10
    ∷ 0x47 ∷ 0x52 ∷ 0 ∷ 4 ∷ 0 ∷ 0 ∷ 1 ∷ 3 ∷ 0 ∷ 0 ∷ 0 ∷ 0 ∷ 0 ∷ 0 ∷ 0 ∷ 0  -- 4: 0, 0
    ∷ 0 ∷ 0 ∷ 0 ∷ 0 ∷ 0 ∷ 0 ∷ 0 ∷ 0 ∷ 0 ∷ 0 ∷ 0 ∷ 0 ∷ 0 ∷ 0 ∷ 0 ∷ 0
    ∷ 0x47 ∷ 0x52 ∷ 0 ∷ 5 ∷ 0 ∷ 1 ∷ 1 ∷ 3 ∷ 0 ∷ 0 ∷ 0 ∷ 0 ∷ 0 ∷ 0 ∷ 0 ∷ 0  -- 5: 0, 1
    ∷ 0 ∷ 0 ∷ 0 ∷ 0 ∷ 0 ∷ 0 ∷ 0 ∷ 0 ∷ 0 ∷ 0 ∷ 0 ∷ 0 ∷ 0 ∷ 0 ∷ 0 ∷ 0
    ∷ 0x47 ∷ 0x52 ∷ 0 ∷ 5 ∷ 1 ∷ 1 ∷ 1 ∷ 2 ∷ 0 ∷ 0 ∷ 0 ∷ 0 ∷ 0 ∷ 0 ∷ 0 ∷ 0  -- 5: 1, 1
    ∷ 0 ∷ 0 ∷ 0 ∷ 0 ∷ 0 ∷ 0 ∷ 0 ∷ 0 ∷ 0 ∷ 0 ∷ 0 ∷ 0 ∷ 0 ∷ 0 ∷ 0 ∷ 0
    ∷ 0x47 ∷ 0x52 ∷ 0 ∷ 7 ∷ 1 ∷ 1 ∷ 0 ∷ 0 ∷ 0 ∷ 5 ∷ 0 ∷ 0 ∷ 0 ∷ 0 ∷ 0 ∷ 0  -- 7: 1, 1
    ∷ 0 ∷ 0 ∷ 0 ∷ 0 ∷ 0 ∷ 0 ∷ 0 ∷ 0 ∷ 0 ∷ 0 ∷ 0 ∷ 0 ∷ 0 ∷ 0 ∷ 0 ∷ 0
    ∷ []

unfoldable pub peach_sheet_part : List ℕ
peach_sheet_part =
    0x47 ∷ 0x52 ∷ 0 ∷ 5 ∷ 1 ∷ 1 ∷ 1 ∷ 2 ∷ 0 ∷ 0 ∷ 0 ∷ 0 ∷ 0 ∷ 0 ∷ 0 ∷ 0  -- 5: 1, 1
    ∷ 0 ∷ 0 ∷ 0 ∷ 0 ∷ 0 ∷ 0 ∷ 0 ∷ 0 ∷ 0 ∷ 0 ∷ 0 ∷ 0 ∷ 0 ∷ 0 ∷ 0 ∷ 0
    ∷ []

-- One record, of grade A: there is no better grade that it would have to be worse than.
unfoldable pub only_record : List ℕ
only_record =
    0x47 ∷ 0x52 ∷ 0 ∷ 5 ∷ 0 ∷ 0 ∷ 6 ∷ 7 ∷ 8 ∷ 9 ∷ 10 ∷ 11 ∷ 12 ∷ 13 ∷ 14 ∷ 15  -- 5: 0, 0
    ∷ 16 ∷ 17 ∷ 18 ∷ 19 ∷ 20 ∷ 21 ∷ 22 ∷ 23 ∷ 24 ∷ 25 ∷ 26 ∷ 27 ∷ 28 ∷ 29 ∷ 30 ∷ 31
    ∷ []

unfoldable pub only_record_part : List ℕ
only_record_part =
    0x47 ∷ 0x52 ∷ 0 ∷ 5 ∷ 0 ∷ 0 ∷ 6 ∷ 7 ∷ 8 ∷ 9 ∷ 10 ∷ 11 ∷ 12 ∷ 13 ∷ 14 ∷ 15  -- 5: 0, 0
    ∷ 16 ∷ 17 ∷ 18 ∷ 19 ∷ 20 ∷ 21 ∷ 22 ∷ 23 ∷ 24 ∷ 25 ∷ 26 ∷ 27 ∷ 28 ∷ 29 ∷ 30 ∷ 31
    ∷ []

-- C, then B and A.
unfoldable pub worst_first : List ℕ
worst_first =
    0x47 ∷ 0x52 ∷ 0 ∷ 5 ∷ 2 ∷ 2 ∷ 6 ∷ 7 ∷ 8 ∷ 9 ∷ 10 ∷ 11 ∷ 12 ∷ 13 ∷ 14 ∷ 15  -- 5: 2, 2
    ∷ 16 ∷ 17 ∷ 18 ∷ 19 ∷ 20 ∷ 21 ∷ 22 ∷ 23 ∷ 24 ∷ 25 ∷ 26 ∷ 27 ∷ 28 ∷ 29 ∷ 30 ∷ 31
    ∷ 0x47 ∷ 0x52 ∷ 0 ∷ 5 ∷ 1 ∷ 2 ∷ 38 ∷ 39 ∷ 40 ∷ 41 ∷ 42 ∷ 43 ∷ 44 ∷ 45 ∷ 46 ∷ 47  -- 5: 1, 2
    ∷ 48 ∷ 49 ∷ 50 ∷ 51 ∷ 52 ∷ 53 ∷ 54 ∷ 55 ∷ 56 ∷ 57 ∷ 58 ∷ 59 ∷ 60 ∷ 61 ∷ 62 ∷ 63
    ∷ 0x47 ∷ 0x52 ∷ 0 ∷ 5 ∷ 0 ∷ 2 ∷ 70 ∷ 71 ∷ 72 ∷ 73 ∷ 74 ∷ 75 ∷ 76 ∷ 77 ∷ 78 ∷ 79  -- 5: 0, 2
    ∷ 80 ∷ 81 ∷ 82 ∷ 83 ∷ 84 ∷ 85 ∷ 86 ∷ 87 ∷ 88 ∷ 89 ∷ 90 ∷ 91 ∷ 92 ∷ 93 ∷ 94 ∷ 95
    ∷ []

unfoldable pub worst_first_part : List ℕ
worst_first_part =
    0x47 ∷ 0x52 ∷ 0 ∷ 5 ∷ 2 ∷ 2 ∷ 6 ∷ 7 ∷ 8 ∷ 9 ∷ 10 ∷ 11 ∷ 12 ∷ 13 ∷ 14 ∷ 15  -- 5: 2, 2
    ∷ 16 ∷ 17 ∷ 18 ∷ 19 ∷ 20 ∷ 21 ∷ 22 ∷ 23 ∷ 24 ∷ 25 ∷ 26 ∷ 27 ∷ 28 ∷ 29 ∷ 30 ∷ 31
    ∷ []

-- A, B, and behind another code C.
unfoldable pub worst_last : List ℕ
worst_last =
    0x47 ∷ 0x52 ∷ 0 ∷ 5 ∷ 0 ∷ 2 ∷ 6 ∷ 7 ∷ 8 ∷ 9 ∷ 10 ∷ 11 ∷ 12 ∷ 13 ∷ 14 ∷ 15  -- 5: 0, 2
    ∷ 16 ∷ 17 ∷ 18 ∷ 19 ∷ 20 ∷ 21 ∷ 22 ∷ 23 ∷ 24 ∷ 25 ∷ 26 ∷ 27 ∷ 28 ∷ 29 ∷ 30 ∷ 31
    ∷ 0x47 ∷ 0x52 ∷ 0 ∷ 5 ∷ 1 ∷ 2 ∷ 38 ∷ 39 ∷ 40 ∷ 41 ∷ 42 ∷ 43 ∷ 44 ∷ 45 ∷ 46 ∷ 47  -- 5: 1, 2
    ∷ 48 ∷ 49 ∷ 50 ∷ 51 ∷ 52 ∷ 53 ∷ 54 ∷ 55 ∷ 56 ∷ 57 ∷ 58 ∷ 59 ∷ 60 ∷ 61 ∷ 62 ∷ 63
    ∷ 0x47 ∷ 0x52 ∷ 0 ∷ 6 ∷ 0 ∷ 0 ∷ 70 ∷ 71 ∷ 72 ∷ 73 ∷ 74 ∷ 75 ∷ 76 ∷ 77 ∷ 78 ∷ 79  -- 6: 0, 0
    ∷ 80 ∷ 81 ∷ 82 ∷ 83 ∷ 84 ∷ 85 ∷ 86 ∷ 87 ∷ 88 ∷ 89 ∷ 90 ∷ 91 ∷ 92 ∷ 93 ∷ 94 ∷ 95
    ∷ 0x47 ∷ 0x52 ∷ 0 ∷ 5 ∷ 2 ∷ 2 ∷ 102 ∷ 103 ∷ 104 ∷ 105 ∷ 106 ∷ 107 ∷ 108 ∷ 109 ∷ 110 ∷ 111  -- 5: 2, 2
    ∷ 112 ∷ 113 ∷ 114 ∷ 115 ∷ 116 ∷ 117 ∷ 118 ∷ 119 ∷ 120 ∷ 121 ∷ 122 ∷ 123 ∷ 124 ∷ 125 ∷ 126 ∷ 127
    ∷ []

unfoldable pub worst_last_part : List ℕ
worst_last_part =
    0x47 ∷ 0x52 ∷ 0 ∷ 5 ∷ 2 ∷ 2 ∷ 102 ∷ 103 ∷ 104 ∷ 105 ∷ 106 ∷ 107 ∷ 108 ∷ 109 ∷ 110 ∷ 111  -- 5: 2, 2
    ∷ 112 ∷ 113 ∷ 114 ∷ 115 ∷ 116 ∷ 117 ∷ 118 ∷ 119 ∷ 120 ∷ 121 ∷ 122 ∷ 123 ∷ 124 ∷ 125 ∷ 126 ∷ 127
    ∷ []

-- B between two portions of A.
unfoldable pub worst_between : List ℕ
worst_between =
    0x47 ∷ 0x52 ∷ 0 ∷ 6 ∷ 0 ∷ 0 ∷ 6 ∷ 7 ∷ 8 ∷ 9 ∷ 10 ∷ 11 ∷ 12 ∷ 13 ∷ 14 ∷ 15  -- 6: 0, 0
    ∷ 16 ∷ 17 ∷ 18 ∷ 19 ∷ 20 ∷ 21 ∷ 22 ∷ 23 ∷ 24 ∷ 25 ∷ 26 ∷ 27 ∷ 28 ∷ 29 ∷ 30 ∷ 31
    ∷ 0x47 ∷ 0x52 ∷ 0 ∷ 5 ∷ 0 ∷ 1 ∷ 38 ∷ 39 ∷ 40 ∷ 41 ∷ 42 ∷ 43 ∷ 44 ∷ 45 ∷ 46 ∷ 47  -- 5: 0, 1
    ∷ 48 ∷ 49 ∷ 50 ∷ 51 ∷ 52 ∷ 53 ∷ 54 ∷ 55 ∷ 56 ∷ 57 ∷ 58 ∷ 59 ∷ 60 ∷ 61 ∷ 62 ∷ 63
    ∷ 0x47 ∷ 0x52 ∷ 0 ∷ 5 ∷ 1 ∷ 1 ∷ 70 ∷ 71 ∷ 72 ∷ 73 ∷ 74 ∷ 75 ∷ 76 ∷ 77 ∷ 78 ∷ 79  -- 5: 1, 1
    ∷ 80 ∷ 81 ∷ 82 ∷ 83 ∷ 84 ∷ 85 ∷ 86 ∷ 87 ∷ 88 ∷ 89 ∷ 90 ∷ 91 ∷ 92 ∷ 93 ∷ 94 ∷ 95
    ∷ 0x47 ∷ 0x52 ∷ 0 ∷ 5 ∷ 0 ∷ 1 ∷ 102 ∷ 103 ∷ 104 ∷ 105 ∷ 106 ∷ 107 ∷ 108 ∷ 109 ∷ 110 ∷ 111  -- 5: 0, 1
    ∷ 112 ∷ 113 ∷ 114 ∷ 115 ∷ 116 ∷ 117 ∷ 118 ∷ 119 ∷ 120 ∷ 121 ∷ 122 ∷ 123 ∷ 124 ∷ 125 ∷ 126 ∷ 127
    ∷ []

unfoldable pub worst_between_part : List ℕ
worst_between_part =
    0x47 ∷ 0x52 ∷ 0 ∷ 5 ∷ 1 ∷ 1 ∷ 70 ∷ 71 ∷ 72 ∷ 73 ∷ 74 ∷ 75 ∷ 76 ∷ 77 ∷ 78 ∷ 79  -- 5: 1, 1
    ∷ 80 ∷ 81 ∷ 82 ∷ 83 ∷ 84 ∷ 85 ∷ 86 ∷ 87 ∷ 88 ∷ 89 ∷ 90 ∷ 91 ∷ 92 ∷ 93 ∷ 94 ∷ 95
    ∷ []

-- Two portions of B: the first of them.
unfoldable pub first_of_equals : List ℕ
first_of_equals =
    0x47 ∷ 0x52 ∷ 0 ∷ 6 ∷ 0 ∷ 0 ∷ 6 ∷ 7 ∷ 8 ∷ 9 ∷ 10 ∷ 11 ∷ 12 ∷ 13 ∷ 14 ∷ 15  -- 6: 0, 0
    ∷ 16 ∷ 17 ∷ 18 ∷ 19 ∷ 20 ∷ 21 ∷ 22 ∷ 23 ∷ 24 ∷ 25 ∷ 26 ∷ 27 ∷ 28 ∷ 29 ∷ 30 ∷ 31
    ∷ 0x47 ∷ 0x52 ∷ 0 ∷ 5 ∷ 1 ∷ 1 ∷ 38 ∷ 39 ∷ 40 ∷ 41 ∷ 42 ∷ 43 ∷ 44 ∷ 45 ∷ 46 ∷ 47  -- 5: 1, 1
    ∷ 48 ∷ 49 ∷ 50 ∷ 51 ∷ 52 ∷ 53 ∷ 54 ∷ 55 ∷ 56 ∷ 57 ∷ 58 ∷ 59 ∷ 60 ∷ 61 ∷ 62 ∷ 63
    ∷ 0x47 ∷ 0x52 ∷ 0 ∷ 5 ∷ 1 ∷ 1 ∷ 70 ∷ 71 ∷ 72 ∷ 73 ∷ 74 ∷ 75 ∷ 76 ∷ 77 ∷ 78 ∷ 79  -- 5: 1, 1
    ∷ 80 ∷ 81 ∷ 82 ∷ 83 ∷ 84 ∷ 85 ∷ 86 ∷ 87 ∷ 88 ∷ 89 ∷ 90 ∷ 91 ∷ 92 ∷ 93 ∷ 94 ∷ 95
    ∷ 0x47 ∷ 0x52 ∷ 0 ∷ 5 ∷ 0 ∷ 1 ∷ 102 ∷ 103 ∷ 104 ∷ 105 ∷ 106 ∷ 107 ∷ 108 ∷ 109 ∷ 110 ∷ 111  -- 5: 0, 1
    ∷ 112 ∷ 113 ∷ 114 ∷ 115 ∷ 116 ∷ 117 ∷ 118 ∷ 119 ∷ 120 ∷ 121 ∷ 122 ∷ 123 ∷ 124 ∷ 125 ∷ 126 ∷ 127
    ∷ []

unfoldable pub first_of_equals_part : List ℕ
first_of_equals_part =
    0x47 ∷ 0x52 ∷ 0 ∷ 5 ∷ 1 ∷ 1 ∷ 38 ∷ 39 ∷ 40 ∷ 41 ∷ 42 ∷ 43 ∷ 44 ∷ 45 ∷ 46 ∷ 47  -- 5: 1, 1
    ∷ 48 ∷ 49 ∷ 50 ∷ 51 ∷ 52 ∷ 53 ∷ 54 ∷ 55 ∷ 56 ∷ 57 ∷ 58 ∷ 59 ∷ 60 ∷ 61 ∷ 62 ∷ 63
    ∷ []

-- Two portions of C: the first of them, and not the first of the code.
unfoldable pub first_of_equals_behind_better_one : List ℕ
first_of_equals_behind_better_one =
    0x47 ∷ 0x52 ∷ 0 ∷ 5 ∷ 0 ∷ 2 ∷ 6 ∷ 7 ∷ 8 ∷ 9 ∷ 10 ∷ 11 ∷ 12 ∷ 13 ∷ 14 ∷ 15  -- 5: 0, 2
    ∷ 16 ∷ 17 ∷ 18 ∷ 19 ∷ 20 ∷ 21 ∷ 22 ∷ 23 ∷ 24 ∷ 25 ∷ 26 ∷ 27 ∷ 28 ∷ 29 ∷ 30 ∷ 31
    ∷ 0x47 ∷ 0x52 ∷ 0 ∷ 5 ∷ 2 ∷ 2 ∷ 38 ∷ 39 ∷ 40 ∷ 41 ∷ 42 ∷ 43 ∷ 44 ∷ 45 ∷ 46 ∷ 47  -- 5: 2, 2
    ∷ 48 ∷ 49 ∷ 50 ∷ 51 ∷ 52 ∷ 53 ∷ 54 ∷ 55 ∷ 56 ∷ 57 ∷ 58 ∷ 59 ∷ 60 ∷ 61 ∷ 62 ∷ 63
    ∷ 0x47 ∷ 0x52 ∷ 0 ∷ 5 ∷ 1 ∷ 2 ∷ 70 ∷ 71 ∷ 72 ∷ 73 ∷ 74 ∷ 75 ∷ 76 ∷ 77 ∷ 78 ∷ 79  -- 5: 1, 2
    ∷ 80 ∷ 81 ∷ 82 ∷ 83 ∷ 84 ∷ 85 ∷ 86 ∷ 87 ∷ 88 ∷ 89 ∷ 90 ∷ 91 ∷ 92 ∷ 93 ∷ 94 ∷ 95
    ∷ 0x47 ∷ 0x52 ∷ 0 ∷ 5 ∷ 2 ∷ 2 ∷ 102 ∷ 103 ∷ 104 ∷ 105 ∷ 106 ∷ 107 ∷ 108 ∷ 109 ∷ 110 ∷ 111  -- 5: 2, 2
    ∷ 112 ∷ 113 ∷ 114 ∷ 115 ∷ 116 ∷ 117 ∷ 118 ∷ 119 ∷ 120 ∷ 121 ∷ 122 ∷ 123 ∷ 124 ∷ 125 ∷ 126 ∷ 127
    ∷ []

unfoldable pub first_of_equals_behind_better_one_part : List ℕ
first_of_equals_behind_better_one_part =
    0x47 ∷ 0x52 ∷ 0 ∷ 5 ∷ 2 ∷ 2 ∷ 38 ∷ 39 ∷ 40 ∷ 41 ∷ 42 ∷ 43 ∷ 44 ∷ 45 ∷ 46 ∷ 47  -- 5: 2, 2
    ∷ 48 ∷ 49 ∷ 50 ∷ 51 ∷ 52 ∷ 53 ∷ 54 ∷ 55 ∷ 56 ∷ 57 ∷ 58 ∷ 59 ∷ 60 ∷ 61 ∷ 62 ∷ 63
    ∷ []

-- Both are Substandard: the first of equals, and not the greater byte.
unfoldable pub byte3_before200 : List ℕ
byte3_before200 =
    0x47 ∷ 0x52 ∷ 0 ∷ 5 ∷ 1 ∷ 3 ∷ 6 ∷ 7 ∷ 8 ∷ 9 ∷ 10 ∷ 11 ∷ 12 ∷ 13 ∷ 14 ∷ 15  -- 5: 1, 3
    ∷ 16 ∷ 17 ∷ 18 ∷ 19 ∷ 20 ∷ 21 ∷ 22 ∷ 23 ∷ 24 ∷ 25 ∷ 26 ∷ 27 ∷ 28 ∷ 29 ∷ 30 ∷ 31
    ∷ 0x47 ∷ 0x52 ∷ 0 ∷ 5 ∷ 3 ∷ 3 ∷ 38 ∷ 39 ∷ 40 ∷ 41 ∷ 42 ∷ 43 ∷ 44 ∷ 45 ∷ 46 ∷ 47  -- 5: 3, 3
    ∷ 48 ∷ 49 ∷ 50 ∷ 51 ∷ 52 ∷ 53 ∷ 54 ∷ 55 ∷ 56 ∷ 57 ∷ 58 ∷ 59 ∷ 60 ∷ 61 ∷ 62 ∷ 63
    ∷ 0x47 ∷ 0x52 ∷ 0 ∷ 5 ∷ 200 ∷ 3 ∷ 70 ∷ 71 ∷ 72 ∷ 73 ∷ 74 ∷ 75 ∷ 76 ∷ 77 ∷ 78 ∷ 79  -- 5: 200, 3
    ∷ 80 ∷ 81 ∷ 82 ∷ 83 ∷ 84 ∷ 85 ∷ 86 ∷ 87 ∷ 88 ∷ 89 ∷ 90 ∷ 91 ∷ 92 ∷ 93 ∷ 94 ∷ 95
    ∷ []

unfoldable pub byte3_before200_part : List ℕ
byte3_before200_part =
    0x47 ∷ 0x52 ∷ 0 ∷ 5 ∷ 3 ∷ 3 ∷ 38 ∷ 39 ∷ 40 ∷ 41 ∷ 42 ∷ 43 ∷ 44 ∷ 45 ∷ 46 ∷ 47  -- 5: 3, 3
    ∷ 48 ∷ 49 ∷ 50 ∷ 51 ∷ 52 ∷ 53 ∷ 54 ∷ 55 ∷ 56 ∷ 57 ∷ 58 ∷ 59 ∷ 60 ∷ 61 ∷ 62 ∷ 63
    ∷ []

-- 200 is Substandard, too, and worse than C.
unfoldable pub byte200_before3 : List ℕ
byte200_before3 =
    0x47 ∷ 0x52 ∷ 0 ∷ 5 ∷ 2 ∷ 3 ∷ 6 ∷ 7 ∷ 8 ∷ 9 ∷ 10 ∷ 11 ∷ 12 ∷ 13 ∷ 14 ∷ 15  -- 5: 2, 3
    ∷ 16 ∷ 17 ∷ 18 ∷ 19 ∷ 20 ∷ 21 ∷ 22 ∷ 23 ∷ 24 ∷ 25 ∷ 26 ∷ 27 ∷ 28 ∷ 29 ∷ 30 ∷ 31
    ∷ 0x47 ∷ 0x52 ∷ 0 ∷ 5 ∷ 200 ∷ 3 ∷ 38 ∷ 39 ∷ 40 ∷ 41 ∷ 42 ∷ 43 ∷ 44 ∷ 45 ∷ 46 ∷ 47  -- 5: 200, 3
    ∷ 48 ∷ 49 ∷ 50 ∷ 51 ∷ 52 ∷ 53 ∷ 54 ∷ 55 ∷ 56 ∷ 57 ∷ 58 ∷ 59 ∷ 60 ∷ 61 ∷ 62 ∷ 63
    ∷ 0x47 ∷ 0x52 ∷ 0 ∷ 5 ∷ 3 ∷ 3 ∷ 70 ∷ 71 ∷ 72 ∷ 73 ∷ 74 ∷ 75 ∷ 76 ∷ 77 ∷ 78 ∷ 79  -- 5: 3, 3
    ∷ 80 ∷ 81 ∷ 82 ∷ 83 ∷ 84 ∷ 85 ∷ 86 ∷ 87 ∷ 88 ∷ 89 ∷ 90 ∷ 91 ∷ 92 ∷ 93 ∷ 94 ∷ 95
    ∷ []

unfoldable pub byte200_before3_part : List ℕ
byte200_before3_part =
    0x47 ∷ 0x52 ∷ 0 ∷ 5 ∷ 200 ∷ 3 ∷ 38 ∷ 39 ∷ 40 ∷ 41 ∷ 42 ∷ 43 ∷ 44 ∷ 45 ∷ 46 ∷ 47  -- 5: 200, 3
    ∷ 48 ∷ 49 ∷ 50 ∷ 51 ∷ 52 ∷ 53 ∷ 54 ∷ 55 ∷ 56 ∷ 57 ∷ 58 ∷ 59 ∷ 60 ∷ 61 ∷ 62 ∷ 63
    ∷ []

-- Neither is 3, and both are Substandard.
unfoldable pub byte200_before255 : List ℕ
byte200_before255 =
    0x47 ∷ 0x52 ∷ 0 ∷ 5 ∷ 200 ∷ 3 ∷ 6 ∷ 7 ∷ 8 ∷ 9 ∷ 10 ∷ 11 ∷ 12 ∷ 13 ∷ 14 ∷ 15  -- 5: 200, 3
    ∷ 16 ∷ 17 ∷ 18 ∷ 19 ∷ 20 ∷ 21 ∷ 22 ∷ 23 ∷ 24 ∷ 25 ∷ 26 ∷ 27 ∷ 28 ∷ 29 ∷ 30 ∷ 31
    ∷ 0x47 ∷ 0x52 ∷ 0 ∷ 5 ∷ 255 ∷ 3 ∷ 38 ∷ 39 ∷ 40 ∷ 41 ∷ 42 ∷ 43 ∷ 44 ∷ 45 ∷ 46 ∷ 47  -- 5: 255, 3
    ∷ 48 ∷ 49 ∷ 50 ∷ 51 ∷ 52 ∷ 53 ∷ 54 ∷ 55 ∷ 56 ∷ 57 ∷ 58 ∷ 59 ∷ 60 ∷ 61 ∷ 62 ∷ 63
    ∷ []

unfoldable pub byte200_before255_part : List ℕ
byte200_before255_part =
    0x47 ∷ 0x52 ∷ 0 ∷ 5 ∷ 200 ∷ 3 ∷ 6 ∷ 7 ∷ 8 ∷ 9 ∷ 10 ∷ 11 ∷ 12 ∷ 13 ∷ 14 ∷ 15  -- 5: 200, 3
    ∷ 16 ∷ 17 ∷ 18 ∷ 19 ∷ 20 ∷ 21 ∷ 22 ∷ 23 ∷ 24 ∷ 25 ∷ 26 ∷ 27 ∷ 28 ∷ 29 ∷ 30 ∷ 31
    ∷ []

-- 4 is Substandard as 3 is, and no C.
unfoldable pub byte4_before3 : List ℕ
byte4_before3 =
    0x47 ∷ 0x52 ∷ 0 ∷ 5 ∷ 2 ∷ 3 ∷ 6 ∷ 7 ∷ 8 ∷ 9 ∷ 10 ∷ 11 ∷ 12 ∷ 13 ∷ 14 ∷ 15  -- 5: 2, 3
    ∷ 16 ∷ 17 ∷ 18 ∷ 19 ∷ 20 ∷ 21 ∷ 22 ∷ 23 ∷ 24 ∷ 25 ∷ 26 ∷ 27 ∷ 28 ∷ 29 ∷ 30 ∷ 31
    ∷ 0x47 ∷ 0x52 ∷ 0 ∷ 5 ∷ 4 ∷ 3 ∷ 38 ∷ 39 ∷ 40 ∷ 41 ∷ 42 ∷ 43 ∷ 44 ∷ 45 ∷ 46 ∷ 47  -- 5: 4, 3
    ∷ 48 ∷ 49 ∷ 50 ∷ 51 ∷ 52 ∷ 53 ∷ 54 ∷ 55 ∷ 56 ∷ 57 ∷ 58 ∷ 59 ∷ 60 ∷ 61 ∷ 62 ∷ 63
    ∷ 0x47 ∷ 0x52 ∷ 0 ∷ 5 ∷ 3 ∷ 3 ∷ 70 ∷ 71 ∷ 72 ∷ 73 ∷ 74 ∷ 75 ∷ 76 ∷ 77 ∷ 78 ∷ 79  -- 5: 3, 3
    ∷ 80 ∷ 81 ∷ 82 ∷ 83 ∷ 84 ∷ 85 ∷ 86 ∷ 87 ∷ 88 ∷ 89 ∷ 90 ∷ 91 ∷ 92 ∷ 93 ∷ 94 ∷ 95
    ∷ []

unfoldable pub byte4_before3_part : List ℕ
byte4_before3_part =
    0x47 ∷ 0x52 ∷ 0 ∷ 5 ∷ 4 ∷ 3 ∷ 38 ∷ 39 ∷ 40 ∷ 41 ∷ 42 ∷ 43 ∷ 44 ∷ 45 ∷ 46 ∷ 47  -- 5: 4, 3
    ∷ 48 ∷ 49 ∷ 50 ∷ 51 ∷ 52 ∷ 53 ∷ 54 ∷ 55 ∷ 56 ∷ 57 ∷ 58 ∷ 59 ∷ 60 ∷ 61 ∷ 62 ∷ 63
    ∷ []

-- All eight bits of the grade byte count.
unfoldable pub byte128_behind_c : List ℕ
byte128_behind_c =
    0x47 ∷ 0x52 ∷ 0 ∷ 5 ∷ 2 ∷ 3 ∷ 6 ∷ 7 ∷ 8 ∷ 9 ∷ 10 ∷ 11 ∷ 12 ∷ 13 ∷ 14 ∷ 15  -- 5: 2, 3
    ∷ 16 ∷ 17 ∷ 18 ∷ 19 ∷ 20 ∷ 21 ∷ 22 ∷ 23 ∷ 24 ∷ 25 ∷ 26 ∷ 27 ∷ 28 ∷ 29 ∷ 30 ∷ 31
    ∷ 0x47 ∷ 0x52 ∷ 0 ∷ 5 ∷ 128 ∷ 3 ∷ 38 ∷ 39 ∷ 40 ∷ 41 ∷ 42 ∷ 43 ∷ 44 ∷ 45 ∷ 46 ∷ 47  -- 5: 128, 3
    ∷ 48 ∷ 49 ∷ 50 ∷ 51 ∷ 52 ∷ 53 ∷ 54 ∷ 55 ∷ 56 ∷ 57 ∷ 58 ∷ 59 ∷ 60 ∷ 61 ∷ 62 ∷ 63
    ∷ 0x47 ∷ 0x52 ∷ 0 ∷ 5 ∷ 2 ∷ 3 ∷ 70 ∷ 71 ∷ 72 ∷ 73 ∷ 74 ∷ 75 ∷ 76 ∷ 77 ∷ 78 ∷ 79  -- 5: 2, 3
    ∷ 80 ∷ 81 ∷ 82 ∷ 83 ∷ 84 ∷ 85 ∷ 86 ∷ 87 ∷ 88 ∷ 89 ∷ 90 ∷ 91 ∷ 92 ∷ 93 ∷ 94 ∷ 95
    ∷ []

unfoldable pub byte128_behind_c_part : List ℕ
byte128_behind_c_part =
    0x47 ∷ 0x52 ∷ 0 ∷ 5 ∷ 128 ∷ 3 ∷ 38 ∷ 39 ∷ 40 ∷ 41 ∷ 42 ∷ 43 ∷ 44 ∷ 45 ∷ 46 ∷ 47  -- 5: 128, 3
    ∷ 48 ∷ 49 ∷ 50 ∷ 51 ∷ 52 ∷ 53 ∷ 54 ∷ 55 ∷ 56 ∷ 57 ∷ 58 ∷ 59 ∷ 60 ∷ 61 ∷ 62 ∷ 63
    ∷ []

-- Reading goes on behind C, and C behind Substandard changes nothing.
unfoldable pub byte3_between_two_of_c : List ℕ
byte3_between_two_of_c =
    0x47 ∷ 0x52 ∷ 0 ∷ 5 ∷ 2 ∷ 3 ∷ 6 ∷ 7 ∷ 8 ∷ 9 ∷ 10 ∷ 11 ∷ 12 ∷ 13 ∷ 14 ∷ 15  -- 5: 2, 3
    ∷ 16 ∷ 17 ∷ 18 ∷ 19 ∷ 20 ∷ 21 ∷ 22 ∷ 23 ∷ 24 ∷ 25 ∷ 26 ∷ 27 ∷ 28 ∷ 29 ∷ 30 ∷ 31
    ∷ 0x47 ∷ 0x52 ∷ 0 ∷ 5 ∷ 3 ∷ 3 ∷ 38 ∷ 39 ∷ 40 ∷ 41 ∷ 42 ∷ 43 ∷ 44 ∷ 45 ∷ 46 ∷ 47  -- 5: 3, 3
    ∷ 48 ∷ 49 ∷ 50 ∷ 51 ∷ 52 ∷ 53 ∷ 54 ∷ 55 ∷ 56 ∷ 57 ∷ 58 ∷ 59 ∷ 60 ∷ 61 ∷ 62 ∷ 63
    ∷ 0x47 ∷ 0x52 ∷ 0 ∷ 5 ∷ 2 ∷ 3 ∷ 70 ∷ 71 ∷ 72 ∷ 73 ∷ 74 ∷ 75 ∷ 76 ∷ 77 ∷ 78 ∷ 79  -- 5: 2, 3
    ∷ 80 ∷ 81 ∷ 82 ∷ 83 ∷ 84 ∷ 85 ∷ 86 ∷ 87 ∷ 88 ∷ 89 ∷ 90 ∷ 91 ∷ 92 ∷ 93 ∷ 94 ∷ 95
    ∷ []

unfoldable pub byte3_between_two_of_c_part : List ℕ
byte3_between_two_of_c_part =
    0x47 ∷ 0x52 ∷ 0 ∷ 5 ∷ 3 ∷ 3 ∷ 38 ∷ 39 ∷ 40 ∷ 41 ∷ 42 ∷ 43 ∷ 44 ∷ 45 ∷ 46 ∷ 47  -- 5: 3, 3
    ∷ 48 ∷ 49 ∷ 50 ∷ 51 ∷ 52 ∷ 53 ∷ 54 ∷ 55 ∷ 56 ∷ 57 ∷ 58 ∷ 59 ∷ 60 ∷ 61 ∷ 62 ∷ 63
    ∷ []

-- Reading does not end at Substandard portions of other codes, nor are they found.
unfoldable pub another_code_substandard : List ℕ
another_code_substandard =
    0x47 ∷ 0x52 ∷ 0 ∷ 6 ∷ 3 ∷ 3 ∷ 6 ∷ 7 ∷ 8 ∷ 9 ∷ 10 ∷ 11 ∷ 12 ∷ 13 ∷ 14 ∷ 15  -- 6: 3, 3
    ∷ 16 ∷ 17 ∷ 18 ∷ 19 ∷ 20 ∷ 21 ∷ 22 ∷ 23 ∷ 24 ∷ 25 ∷ 26 ∷ 27 ∷ 28 ∷ 29 ∷ 30 ∷ 31
    ∷ 0x47 ∷ 0x52 ∷ 0 ∷ 5 ∷ 0 ∷ 1 ∷ 38 ∷ 39 ∷ 40 ∷ 41 ∷ 42 ∷ 43 ∷ 44 ∷ 45 ∷ 46 ∷ 47  -- 5: 0, 1
    ∷ 48 ∷ 49 ∷ 50 ∷ 51 ∷ 52 ∷ 53 ∷ 54 ∷ 55 ∷ 56 ∷ 57 ∷ 58 ∷ 59 ∷ 60 ∷ 61 ∷ 62 ∷ 63
    ∷ 0x47 ∷ 0x52 ∷ 0 ∷ 7 ∷ 200 ∷ 3 ∷ 70 ∷ 71 ∷ 72 ∷ 73 ∷ 74 ∷ 75 ∷ 76 ∷ 77 ∷ 78 ∷ 79  -- 7: 200, 3
    ∷ 80 ∷ 81 ∷ 82 ∷ 83 ∷ 84 ∷ 85 ∷ 86 ∷ 87 ∷ 88 ∷ 89 ∷ 90 ∷ 91 ∷ 92 ∷ 93 ∷ 94 ∷ 95
    ∷ 0x47 ∷ 0x52 ∷ 0 ∷ 5 ∷ 1 ∷ 1 ∷ 102 ∷ 103 ∷ 104 ∷ 105 ∷ 106 ∷ 107 ∷ 108 ∷ 109 ∷ 110 ∷ 111  -- 5: 1, 1
    ∷ 112 ∷ 113 ∷ 114 ∷ 115 ∷ 116 ∷ 117 ∷ 118 ∷ 119 ∷ 120 ∷ 121 ∷ 122 ∷ 123 ∷ 124 ∷ 125 ∷ 126 ∷ 127
    ∷ []

unfoldable pub another_code_substandard_part : List ℕ
another_code_substandard_part =
    0x47 ∷ 0x52 ∷ 0 ∷ 5 ∷ 1 ∷ 1 ∷ 102 ∷ 103 ∷ 104 ∷ 105 ∷ 106 ∷ 107 ∷ 108 ∷ 109 ∷ 110 ∷ 111  -- 5: 1, 1
    ∷ 112 ∷ 113 ∷ 114 ∷ 115 ∷ 116 ∷ 117 ∷ 118 ∷ 119 ∷ 120 ∷ 121 ∷ 122 ∷ 123 ∷ 124 ∷ 125 ∷ 126 ∷ 127
    ∷ []

-- The portion grade counts, and not the code grade, which is worse in other records.
unfoldable pub misleading_code_grades : List ℕ
misleading_code_grades =
    0x47 ∷ 0x52 ∷ 0 ∷ 5 ∷ 0 ∷ 3 ∷ 6 ∷ 7 ∷ 8 ∷ 9 ∷ 10 ∷ 11 ∷ 12 ∷ 13 ∷ 14 ∷ 15  -- 5: 0, 3
    ∷ 16 ∷ 17 ∷ 18 ∷ 19 ∷ 20 ∷ 21 ∷ 22 ∷ 23 ∷ 24 ∷ 25 ∷ 26 ∷ 27 ∷ 28 ∷ 29 ∷ 30 ∷ 31
    ∷ 0x47 ∷ 0x52 ∷ 0 ∷ 5 ∷ 1 ∷ 0 ∷ 38 ∷ 39 ∷ 40 ∷ 41 ∷ 42 ∷ 43 ∷ 44 ∷ 45 ∷ 46 ∷ 47  -- 5: 1, 0
    ∷ 48 ∷ 49 ∷ 50 ∷ 51 ∷ 52 ∷ 53 ∷ 54 ∷ 55 ∷ 56 ∷ 57 ∷ 58 ∷ 59 ∷ 60 ∷ 61 ∷ 62 ∷ 63
    ∷ 0x47 ∷ 0x52 ∷ 0 ∷ 5 ∷ 0 ∷ 2 ∷ 70 ∷ 71 ∷ 72 ∷ 73 ∷ 74 ∷ 75 ∷ 76 ∷ 77 ∷ 78 ∷ 79  -- 5: 0, 2
    ∷ 80 ∷ 81 ∷ 82 ∷ 83 ∷ 84 ∷ 85 ∷ 86 ∷ 87 ∷ 88 ∷ 89 ∷ 90 ∷ 91 ∷ 92 ∷ 93 ∷ 94 ∷ 95
    ∷ []

unfoldable pub misleading_code_grades_part : List ℕ
misleading_code_grades_part =
    0x47 ∷ 0x52 ∷ 0 ∷ 5 ∷ 1 ∷ 0 ∷ 38 ∷ 39 ∷ 40 ∷ 41 ∷ 42 ∷ 43 ∷ 44 ∷ 45 ∷ 46 ∷ 47  -- 5: 1, 0
    ∷ 48 ∷ 49 ∷ 50 ∷ 51 ∷ 52 ∷ 53 ∷ 54 ∷ 55 ∷ 56 ∷ 57 ∷ 58 ∷ 59 ∷ 60 ∷ 61 ∷ 62 ∷ 63
    ∷ []

-- Marks are not looked at: the record found has none.
unfoldable pub mark_of_zeros : List ℕ
mark_of_zeros =
    0x47 ∷ 0x52 ∷ 0 ∷ 6 ∷ 2 ∷ 2 ∷ 6 ∷ 7 ∷ 8 ∷ 9 ∷ 10 ∷ 11 ∷ 12 ∷ 13 ∷ 14 ∷ 15  -- 6: 2, 2
    ∷ 16 ∷ 17 ∷ 18 ∷ 19 ∷ 20 ∷ 21 ∷ 22 ∷ 23 ∷ 24 ∷ 25 ∷ 26 ∷ 27 ∷ 28 ∷ 29 ∷ 30 ∷ 31
    ∷ 0x00 ∷ 0x00 ∷ 0 ∷ 5 ∷ 1 ∷ 1 ∷ 38 ∷ 39 ∷ 40 ∷ 41 ∷ 42 ∷ 43 ∷ 44 ∷ 45 ∷ 46 ∷ 47  -- 5: 1, 1, another mark
    ∷ 48 ∷ 49 ∷ 50 ∷ 51 ∷ 52 ∷ 53 ∷ 54 ∷ 55 ∷ 56 ∷ 57 ∷ 58 ∷ 59 ∷ 60 ∷ 61 ∷ 62 ∷ 63
    ∷ 0x47 ∷ 0x52 ∷ 0 ∷ 5 ∷ 0 ∷ 1 ∷ 70 ∷ 71 ∷ 72 ∷ 73 ∷ 74 ∷ 75 ∷ 76 ∷ 77 ∷ 78 ∷ 79  -- 5: 0, 1
    ∷ 80 ∷ 81 ∷ 82 ∷ 83 ∷ 84 ∷ 85 ∷ 86 ∷ 87 ∷ 88 ∷ 89 ∷ 90 ∷ 91 ∷ 92 ∷ 93 ∷ 94 ∷ 95
    ∷ []

unfoldable pub mark_of_zeros_part : List ℕ
mark_of_zeros_part =
    0x00 ∷ 0x00 ∷ 0 ∷ 5 ∷ 1 ∷ 1 ∷ 38 ∷ 39 ∷ 40 ∷ 41 ∷ 42 ∷ 43 ∷ 44 ∷ 45 ∷ 46 ∷ 47  -- 5: 1, 1, another mark
    ∷ 48 ∷ 49 ∷ 50 ∷ 51 ∷ 52 ∷ 53 ∷ 54 ∷ 55 ∷ 56 ∷ 57 ∷ 58 ∷ 59 ∷ 60 ∷ 61 ∷ 62 ∷ 63
    ∷ []

-- Marks are not looked at: before the record found that of a unit, in it that of a mold result.
unfoldable pub other_marks : List ℕ
other_marks =
    0x53 ∷ 0x55 ∷ 0 ∷ 6 ∷ 3 ∷ 3 ∷ 6 ∷ 7 ∷ 8 ∷ 9 ∷ 10 ∷ 11 ∷ 12 ∷ 13 ∷ 14 ∷ 15  -- 6: 3, 3, another mark
    ∷ 16 ∷ 17 ∷ 18 ∷ 19 ∷ 20 ∷ 21 ∷ 22 ∷ 23 ∷ 24 ∷ 25 ∷ 26 ∷ 27 ∷ 28 ∷ 29 ∷ 30 ∷ 31
    ∷ 0x47 ∷ 0x52 ∷ 0 ∷ 5 ∷ 0 ∷ 2 ∷ 38 ∷ 39 ∷ 40 ∷ 41 ∷ 42 ∷ 43 ∷ 44 ∷ 45 ∷ 46 ∷ 47  -- 5: 0, 2
    ∷ 48 ∷ 49 ∷ 50 ∷ 51 ∷ 52 ∷ 53 ∷ 54 ∷ 55 ∷ 56 ∷ 57 ∷ 58 ∷ 59 ∷ 60 ∷ 61 ∷ 62 ∷ 63
    ∷ 0x4D ∷ 0x52 ∷ 0 ∷ 5 ∷ 2 ∷ 2 ∷ 70 ∷ 71 ∷ 72 ∷ 73 ∷ 74 ∷ 75 ∷ 76 ∷ 77 ∷ 78 ∷ 79  -- 5: 2, 2, another mark
    ∷ 80 ∷ 81 ∷ 82 ∷ 83 ∷ 84 ∷ 85 ∷ 86 ∷ 87 ∷ 88 ∷ 89 ∷ 90 ∷ 91 ∷ 92 ∷ 93 ∷ 94 ∷ 95
    ∷ 0x47 ∷ 0x52 ∷ 0 ∷ 5 ∷ 1 ∷ 2 ∷ 102 ∷ 103 ∷ 104 ∷ 105 ∷ 106 ∷ 107 ∷ 108 ∷ 109 ∷ 110 ∷ 111  -- 5: 1, 2
    ∷ 112 ∷ 113 ∷ 114 ∷ 115 ∷ 116 ∷ 117 ∷ 118 ∷ 119 ∷ 120 ∷ 121 ∷ 122 ∷ 123 ∷ 124 ∷ 125 ∷ 126 ∷ 127
    ∷ []

unfoldable pub other_marks_part : List ℕ
other_marks_part =
    0x4D ∷ 0x52 ∷ 0 ∷ 5 ∷ 2 ∷ 2 ∷ 70 ∷ 71 ∷ 72 ∷ 73 ∷ 74 ∷ 75 ∷ 76 ∷ 77 ∷ 78 ∷ 79  -- 5: 2, 2, another mark
    ∷ 80 ∷ 81 ∷ 82 ∷ 83 ∷ 84 ∷ 85 ∷ 86 ∷ 87 ∷ 88 ∷ 89 ∷ 90 ∷ 91 ∷ 92 ∷ 93 ∷ 94 ∷ 95
    ∷ []

-- Code 261 has the bytes 1 and 5; before it stands 1281, with the bytes 5 and 1.
unfoldable pub bytes_exchanged : List ℕ
bytes_exchanged =
    0x47 ∷ 0x52 ∷ 5 ∷ 1 ∷ 3 ∷ 3 ∷ 6 ∷ 7 ∷ 8 ∷ 9 ∷ 10 ∷ 11 ∷ 12 ∷ 13 ∷ 14 ∷ 15  -- 1281: 3, 3
    ∷ 16 ∷ 17 ∷ 18 ∷ 19 ∷ 20 ∷ 21 ∷ 22 ∷ 23 ∷ 24 ∷ 25 ∷ 26 ∷ 27 ∷ 28 ∷ 29 ∷ 30 ∷ 31
    ∷ 0x47 ∷ 0x52 ∷ 1 ∷ 5 ∷ 0 ∷ 0 ∷ 38 ∷ 39 ∷ 40 ∷ 41 ∷ 42 ∷ 43 ∷ 44 ∷ 45 ∷ 46 ∷ 47  -- 261: 0, 0
    ∷ 48 ∷ 49 ∷ 50 ∷ 51 ∷ 52 ∷ 53 ∷ 54 ∷ 55 ∷ 56 ∷ 57 ∷ 58 ∷ 59 ∷ 60 ∷ 61 ∷ 62 ∷ 63
    ∷ []

unfoldable pub bytes_exchanged_part : List ℕ
bytes_exchanged_part =
    0x47 ∷ 0x52 ∷ 1 ∷ 5 ∷ 0 ∷ 0 ∷ 38 ∷ 39 ∷ 40 ∷ 41 ∷ 42 ∷ 43 ∷ 44 ∷ 45 ∷ 46 ∷ 47  -- 261: 0, 0
    ∷ 48 ∷ 49 ∷ 50 ∷ 51 ∷ 52 ∷ 53 ∷ 54 ∷ 55 ∷ 56 ∷ 57 ∷ 58 ∷ 59 ∷ 60 ∷ 61 ∷ 62 ∷ 63
    ∷ []

-- Before it stands a code with the same low byte, behind it one with the same high byte.
unfoldable pub largest_code : List ℕ
largest_code =
    0x47 ∷ 0x52 ∷ 0 ∷ 255 ∷ 3 ∷ 3 ∷ 6 ∷ 7 ∷ 8 ∷ 9 ∷ 10 ∷ 11 ∷ 12 ∷ 13 ∷ 14 ∷ 15  -- 255: 3, 3
    ∷ 16 ∷ 17 ∷ 18 ∷ 19 ∷ 20 ∷ 21 ∷ 22 ∷ 23 ∷ 24 ∷ 25 ∷ 26 ∷ 27 ∷ 28 ∷ 29 ∷ 30 ∷ 31
    ∷ 0x47 ∷ 0x52 ∷ 255 ∷ 255 ∷ 0 ∷ 0 ∷ 38 ∷ 39 ∷ 40 ∷ 41 ∷ 42 ∷ 43 ∷ 44 ∷ 45 ∷ 46 ∷ 47  -- 65535: 0, 0
    ∷ 48 ∷ 49 ∷ 50 ∷ 51 ∷ 52 ∷ 53 ∷ 54 ∷ 55 ∷ 56 ∷ 57 ∷ 58 ∷ 59 ∷ 60 ∷ 61 ∷ 62 ∷ 63
    ∷ 0x47 ∷ 0x52 ∷ 255 ∷ 254 ∷ 3 ∷ 3 ∷ 70 ∷ 71 ∷ 72 ∷ 73 ∷ 74 ∷ 75 ∷ 76 ∷ 77 ∷ 78 ∷ 79  -- 65534: 3, 3
    ∷ 80 ∷ 81 ∷ 82 ∷ 83 ∷ 84 ∷ 85 ∷ 86 ∷ 87 ∷ 88 ∷ 89 ∷ 90 ∷ 91 ∷ 92 ∷ 93 ∷ 94 ∷ 95
    ∷ []

unfoldable pub largest_code_part : List ℕ
largest_code_part =
    0x47 ∷ 0x52 ∷ 255 ∷ 255 ∷ 0 ∷ 0 ∷ 38 ∷ 39 ∷ 40 ∷ 41 ∷ 42 ∷ 43 ∷ 44 ∷ 45 ∷ 46 ∷ 47  -- 65535: 0, 0
    ∷ 48 ∷ 49 ∷ 50 ∷ 51 ∷ 52 ∷ 53 ∷ 54 ∷ 55 ∷ 56 ∷ 57 ∷ 58 ∷ 59 ∷ 60 ∷ 61 ∷ 62 ∷ 63
    ∷ []

-- Every code is one: 32 zeros are a record of code 0, of grade A.
unfoldable pub code0_in_zeros : List ℕ
code0_in_zeros =
    0x47 ∷ 0x52 ∷ 0 ∷ 6 ∷ 1 ∷ 1 ∷ 6 ∷ 7 ∷ 8 ∷ 9 ∷ 10 ∷ 11 ∷ 12 ∷ 13 ∷ 14 ∷ 15  -- 6: 1, 1
    ∷ 16 ∷ 17 ∷ 18 ∷ 19 ∷ 20 ∷ 21 ∷ 22 ∷ 23 ∷ 24 ∷ 25 ∷ 26 ∷ 27 ∷ 28 ∷ 29 ∷ 30 ∷ 31
    ∷ 0x00 ∷ 0x00 ∷ 0 ∷ 0 ∷ 0 ∷ 0 ∷ 0 ∷ 0 ∷ 0 ∷ 0 ∷ 0 ∷ 0 ∷ 0 ∷ 0 ∷ 0 ∷ 0  -- 0: 0, 0, another mark
    ∷ 0 ∷ 0 ∷ 0 ∷ 0 ∷ 0 ∷ 0 ∷ 0 ∷ 0 ∷ 0 ∷ 0 ∷ 0 ∷ 0 ∷ 0 ∷ 0 ∷ 0 ∷ 0
    ∷ []

unfoldable pub code0_in_zeros_part : List ℕ
code0_in_zeros_part =
    0x00 ∷ 0x00 ∷ 0 ∷ 0 ∷ 0 ∷ 0 ∷ 0 ∷ 0 ∷ 0 ∷ 0 ∷ 0 ∷ 0 ∷ 0 ∷ 0 ∷ 0 ∷ 0  -- 0: 0, 0, another mark
    ∷ 0 ∷ 0 ∷ 0 ∷ 0 ∷ 0 ∷ 0 ∷ 0 ∷ 0 ∷ 0 ∷ 0 ∷ 0 ∷ 0 ∷ 0 ∷ 0 ∷ 0 ∷ 0
    ∷ []

-- No record: not there, and not refused.
unfoldable pub no_byte : List ℕ
no_byte = []

-- The codes beside it, Substandard.
unfoldable pub not_there : List ℕ
not_there =
    0x47 ∷ 0x52 ∷ 0 ∷ 4 ∷ 3 ∷ 3 ∷ 6 ∷ 7 ∷ 8 ∷ 9 ∷ 10 ∷ 11 ∷ 12 ∷ 13 ∷ 14 ∷ 15  -- 4: 3, 3
    ∷ 16 ∷ 17 ∷ 18 ∷ 19 ∷ 20 ∷ 21 ∷ 22 ∷ 23 ∷ 24 ∷ 25 ∷ 26 ∷ 27 ∷ 28 ∷ 29 ∷ 30 ∷ 31
    ∷ 0x47 ∷ 0x52 ∷ 0 ∷ 6 ∷ 3 ∷ 3 ∷ 38 ∷ 39 ∷ 40 ∷ 41 ∷ 42 ∷ 43 ∷ 44 ∷ 45 ∷ 46 ∷ 47  -- 6: 3, 3
    ∷ 48 ∷ 49 ∷ 50 ∷ 51 ∷ 52 ∷ 53 ∷ 54 ∷ 55 ∷ 56 ∷ 57 ∷ 58 ∷ 59 ∷ 60 ∷ 61 ∷ 62 ∷ 63
    ∷ []

-- 18258 has the bytes of the mark, 47 52.
unfoldable pub code_at_mark : List ℕ
code_at_mark =
    0x47 ∷ 0x52 ∷ 0 ∷ 5 ∷ 0 ∷ 0 ∷ 6 ∷ 7 ∷ 8 ∷ 9 ∷ 10 ∷ 11 ∷ 12 ∷ 13 ∷ 14 ∷ 15  -- 5: 0, 0
    ∷ 16 ∷ 17 ∷ 18 ∷ 19 ∷ 20 ∷ 21 ∷ 22 ∷ 23 ∷ 24 ∷ 25 ∷ 26 ∷ 27 ∷ 28 ∷ 29 ∷ 30 ∷ 31
    ∷ 0x47 ∷ 0x52 ∷ 0 ∷ 6 ∷ 3 ∷ 3 ∷ 38 ∷ 39 ∷ 40 ∷ 41 ∷ 42 ∷ 43 ∷ 44 ∷ 45 ∷ 46 ∷ 47  -- 6: 3, 3
    ∷ 48 ∷ 49 ∷ 50 ∷ 51 ∷ 52 ∷ 53 ∷ 54 ∷ 55 ∷ 56 ∷ 57 ∷ 58 ∷ 59 ∷ 60 ∷ 61 ∷ 62 ∷ 63
    ∷ []

-- 515 has the bytes 2 and 3, which are grade bytes in the second record.
unfoldable pub code_at_grades : List ℕ
code_at_grades =
    0x47 ∷ 0x52 ∷ 0 ∷ 5 ∷ 0 ∷ 0 ∷ 6 ∷ 7 ∷ 8 ∷ 9 ∷ 10 ∷ 11 ∷ 12 ∷ 13 ∷ 14 ∷ 15  -- 5: 0, 0
    ∷ 16 ∷ 17 ∷ 18 ∷ 19 ∷ 20 ∷ 21 ∷ 22 ∷ 23 ∷ 24 ∷ 25 ∷ 26 ∷ 27 ∷ 28 ∷ 29 ∷ 30 ∷ 31
    ∷ 0x47 ∷ 0x52 ∷ 0 ∷ 6 ∷ 2 ∷ 3 ∷ 38 ∷ 39 ∷ 40 ∷ 41 ∷ 42 ∷ 43 ∷ 44 ∷ 45 ∷ 46 ∷ 47  -- 6: 2, 3
    ∷ 48 ∷ 49 ∷ 50 ∷ 51 ∷ 52 ∷ 53 ∷ 54 ∷ 55 ∷ 56 ∷ 57 ∷ 58 ∷ 59 ∷ 60 ∷ 61 ∷ 62 ∷ 63
    ∷ []

-- 8007 has the bytes 31 and 71, 47 in hexadecimal: the last of one record, the first of the next.
unfoldable pub code_across_two_records : List ℕ
code_across_two_records =
    0x47 ∷ 0x52 ∷ 0 ∷ 5 ∷ 0 ∷ 0 ∷ 6 ∷ 7 ∷ 8 ∷ 9 ∷ 10 ∷ 11 ∷ 12 ∷ 13 ∷ 14 ∷ 15  -- 5: 0, 0
    ∷ 16 ∷ 17 ∷ 18 ∷ 19 ∷ 20 ∷ 21 ∷ 22 ∷ 23 ∷ 24 ∷ 25 ∷ 26 ∷ 27 ∷ 28 ∷ 29 ∷ 30 ∷ 31
    ∷ 0x47 ∷ 0x52 ∷ 0 ∷ 6 ∷ 3 ∷ 3 ∷ 38 ∷ 39 ∷ 40 ∷ 41 ∷ 42 ∷ 43 ∷ 44 ∷ 45 ∷ 46 ∷ 47  -- 6: 3, 3
    ∷ 48 ∷ 49 ∷ 50 ∷ 51 ∷ 52 ∷ 53 ∷ 54 ∷ 55 ∷ 56 ∷ 57 ∷ 58 ∷ 59 ∷ 60 ∷ 61 ∷ 62 ∷ 63
    ∷ []

-- 19: a byte and no more.
unfoldable pub one_byte : List ℕ
one_byte =
    0x47  -- one byte
    ∷ []

-- 19: a record of the code without its last byte; not 'not on this sheet'.
unfoldable pub one_byte_less : List ℕ
one_byte_less =
    0x47 ∷ 0x52 ∷ 0 ∷ 5 ∷ 3 ∷ 3 ∷ 6 ∷ 7 ∷ 8 ∷ 9 ∷ 10 ∷ 11 ∷ 12 ∷ 13 ∷ 14 ∷ 15  -- 31 bytes of 5: 3, 3
    ∷ 16 ∷ 17 ∷ 18 ∷ 19 ∷ 20 ∷ 21 ∷ 22 ∷ 23 ∷ 24 ∷ 25 ∷ 26 ∷ 27 ∷ 28 ∷ 29 ∷ 30
    ∷ []

-- 19: a record of the code and a byte, though reading would end at the record.
unfoldable pub one_byte_more : List ℕ
one_byte_more =
    0x47 ∷ 0x52 ∷ 0 ∷ 5 ∷ 3 ∷ 3 ∷ 6 ∷ 7 ∷ 8 ∷ 9 ∷ 10 ∷ 11 ∷ 12 ∷ 13 ∷ 14 ∷ 15  -- 5: 3, 3
    ∷ 16 ∷ 17 ∷ 18 ∷ 19 ∷ 20 ∷ 21 ∷ 22 ∷ 23 ∷ 24 ∷ 25 ∷ 26 ∷ 27 ∷ 28 ∷ 29 ∷ 30 ∷ 31
    ∷ 0x47  -- one byte
    ∷ []

-- 19: a whole record of the code, and another one without its last byte.
unfoldable pub one_byte_less_than_two_records : List ℕ
one_byte_less_than_two_records =
    0x47 ∷ 0x52 ∷ 0 ∷ 5 ∷ 1 ∷ 1 ∷ 6 ∷ 7 ∷ 8 ∷ 9 ∷ 10 ∷ 11 ∷ 12 ∷ 13 ∷ 14 ∷ 15  -- 5: 1, 1
    ∷ 16 ∷ 17 ∷ 18 ∷ 19 ∷ 20 ∷ 21 ∷ 22 ∷ 23 ∷ 24 ∷ 25 ∷ 26 ∷ 27 ∷ 28 ∷ 29 ∷ 30 ∷ 31
    ∷ 0x47 ∷ 0x52 ∷ 0 ∷ 5 ∷ 3 ∷ 3 ∷ 38 ∷ 39 ∷ 40 ∷ 41 ∷ 42 ∷ 43 ∷ 44 ∷ 45 ∷ 46 ∷ 47  -- 31 bytes of 5: 3, 3
    ∷ 48 ∷ 49 ∷ 50 ∷ 51 ∷ 52 ∷ 53 ∷ 54 ∷ 55 ∷ 56 ∷ 57 ∷ 58 ∷ 59 ∷ 60 ∷ 61 ∷ 62
    ∷ []

-- 19: 16 bytes of a record.
unfoldable pub half_record : List ℕ
half_record =
    0x47 ∷ 0x52 ∷ 0 ∷ 5 ∷ 3 ∷ 3 ∷ 6 ∷ 7 ∷ 8 ∷ 9 ∷ 10 ∷ 11 ∷ 12 ∷ 13 ∷ 14 ∷ 15  -- 16 bytes of 5: 3, 3
    ∷ []

-- 19: 48 bytes, a multiple of 16 and not of 32.
unfoldable pub record_and_half : List ℕ
record_and_half =
    0x47 ∷ 0x52 ∷ 0 ∷ 5 ∷ 1 ∷ 1 ∷ 6 ∷ 7 ∷ 8 ∷ 9 ∷ 10 ∷ 11 ∷ 12 ∷ 13 ∷ 14 ∷ 15  -- 5: 1, 1
    ∷ 16 ∷ 17 ∷ 18 ∷ 19 ∷ 20 ∷ 21 ∷ 22 ∷ 23 ∷ 24 ∷ 25 ∷ 26 ∷ 27 ∷ 28 ∷ 29 ∷ 30 ∷ 31
    ∷ 0x47 ∷ 0x52 ∷ 0 ∷ 5 ∷ 3 ∷ 3 ∷ 38 ∷ 39 ∷ 40 ∷ 41 ∷ 42 ∷ 43 ∷ 44 ∷ 45 ∷ 46 ∷ 47  -- 16 bytes of 5: 3, 3
    ∷ []

-- all of them: results and code; of a code that is found also the offset and the bytes of the part
pub record LookupSheets : Type 0 where
  pub peach_sheet_holds : FoundWith peach_sheet 5 160 peach_sheet_part
  pub only_record_holds : FoundWith only_record 5 0 only_record_part
  pub worst_first_holds : FoundWith worst_first 5 0 worst_first_part
  pub worst_last_holds : FoundWith worst_last 5 96 worst_last_part
  pub worst_between_holds : FoundWith worst_between 5 64 worst_between_part
  pub first_of_equals_holds : FoundWith first_of_equals 5 32 first_of_equals_part
  pub first_of_equals_behind_better_one_holds : FoundWith first_of_equals_behind_better_one 5 32 first_of_equals_behind_better_one_part
  pub byte_3_before_200 : FoundWith byte3_before200 5 32 byte3_before200_part
  pub byte_200_before_3 : FoundWith byte200_before3 5 32 byte200_before3_part
  pub byte_200_before_255 : FoundWith byte200_before255 5 0 byte200_before255_part
  pub byte_4_before_3 : FoundWith byte4_before3 5 32 byte4_before3_part
  pub byte_128_behind_c : FoundWith byte128_behind_c 5 32 byte128_behind_c_part
  pub byte_3_between_two_of_c : FoundWith byte3_between_two_of_c 5 32 byte3_between_two_of_c_part
  pub another_code_substandard_holds : FoundWith another_code_substandard 5 96 another_code_substandard_part
  pub misleading_code_grades_holds : FoundWith misleading_code_grades 5 32 misleading_code_grades_part
  pub mark_of_zeros_holds : FoundWith mark_of_zeros 5 32 mark_of_zeros_part
  pub other_marks_holds : FoundWith other_marks 5 64 other_marks_part
  pub bytes_exchanged_holds : FoundWith bytes_exchanged 261 32 bytes_exchanged_part
  pub largest_code_holds : FoundWith largest_code 65535 32 largest_code_part
  pub code_0_in_zeros : FoundWith code0_in_zeros 0 32 code0_in_zeros_part
  pub no_byte_holds : NotOnSheet no_byte 5
  pub not_there_holds : NotOnSheet not_there 5
  pub code_at_mark_holds : NotOnSheet code_at_mark 18258
  pub code_at_grades_holds : NotOnSheet code_at_grades 515
  pub code_across_two_records_holds : NotOnSheet code_across_two_records 8007
  pub one_byte_holds : RefusedResults one_byte 5
  pub one_byte_less_holds : RefusedResults one_byte_less 5
  pub one_byte_more_holds : RefusedResults one_byte_more 5
  pub one_byte_less_than_two_records_holds : RefusedResults one_byte_less_than_two_records 5
  pub half_record_holds : RefusedResults half_record 5
  pub record_and_half_holds : RefusedResults record_and_half 5

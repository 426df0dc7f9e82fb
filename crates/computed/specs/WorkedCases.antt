-- The cases P1 to P10 of paper 01, "Small sheets by hand", as one group: the record at the end, with a field for each case under
-- the paper's words. S, T, L, CuSums and overshoots are tenths, so that 1/3/3 is 10, 30, 30; counts are defects; grades are 0, 1, 2, 3
-- for A, B, C, Substandard. The paper has no overshoots (they came with A.1): these are raw value less L.
use Rattle.std.specs.Prelude.{ℕ, ◌+◌, ◌≤◌, ◌≡◌, Bool, true, false, List, [], ◌∷◌, ◌++◌, map, length, drop, get_or, pos, negsuc}
use Rattle.cusum.specs.declared.PlanNumbers.{PlanNumbers}
use Rattle.cusum.specs.declared.Cusum.{Cusum}
use Rattle.cusum.specs.declared.Stepped.{Stepped}
use Rattle.cusum.specs.declared.Defects.{Defects}
use Rattle.cusum.specs.Counts.{defect_tenths}
use Rattle.cusum.specs.Step.{start_of, raw_value, step_of}
use Rattle.encoding.specs.Bytes.{high, low}
use Rattle.units.specs.Words.{Table, zero_cusum}
use Rattle.rules.specs.Sheet.{Sheet, in_force_at, graded_at, qualifies_at, step_three_ends_at}
use Rattle.units.specs.declared.SampleUnit.{SampleUnit}
use Rattle.units.specs.declared.Grading.{Grading}
use Rattle.units.specs.declared.Entry.TheVariants.{UnitRecord, Break}
use Rattle.outcome.specs.Outcome.{refusal}
use Rattle.tally.specs.Outcome.{outcome}

-- ---- one class from unit to unit

-- a class that meets, with its new CuSum, and one that fails, with its overshoot, too
abbrev pub met : ℕ → Stepped
met tenths = record { cusum = record { tenths = tenths }; fails = false; overshoot = 0 }

abbrev pub failed : ℕ → ℕ → Stepped
failed tenths over = record { cusum = record { tenths = tenths }; fails = true; overshoot = over }

-- so many defects, as rule 2 takes them
abbrev pub in_tenths : ℕ → ℕ
in_tenths count = defect_tenths (record { 0 = count })

-- rule 2 at one unit after the other
unfoldable pub steps_from : PlanNumbers → Cusum → List ℕ → List Stepped
steps_from numbers old [] = []
steps_from numbers old (count ∷ counts) =
    step_of numbers old (in_tenths count) ∷ steps_from numbers (step_of numbers old (in_tenths count)).cusum counts

-- what each unit makes of a CuSum that begins at its S
abbrev pub steps : PlanNumbers → List ℕ → List Stepped
steps numbers counts = steps_from numbers (start_of numbers) counts

-- ---- sheets of units that have minor defects only, so that the class total alone decides

-- S, T and L that such units never come near: 0/999.9/999.9
abbrev pub wide : PlanNumbers
wide = record { start = 0; tolerance = 9999; limit = 9999 }

-- the plan of total at A, B and C, with wide S, T and L in the other classes
abbrev pub total_table : PlanNumbers → PlanNumbers → PlanNumbers → Table
total_table a b c = (wide ∷ wide ∷ wide ∷ a ∷ []) ∷ (wide ∷ wide ∷ wide ∷ b ∷ []) ∷ (wide ∷ wide ∷ wide ∷ c ∷ []) ∷ []

abbrev pub none : Defects
none = record { 0 = 0 }

abbrev pub minor_unit : ℕ → SampleUnit
minor_unit count =
    record {
      code = 1;
      critical = none;
      severe = none;
      major = none;
      minor = record { 0 = count };
      prerequisite = 0;
      recoverable = true;
    }

-- a unit for each count, and no other record; A is designated
unfoldable pub minor_sheet : Table → List ℕ → Sheet
minor_sheet table counts =
    record {
      table = table;
      designated = 0;
      entry = λ i. get_or (map (λ count. UnitRecord (minor_unit count)) counts) i Break;
      size = length counts;
    }

-- its unit i, the first being 0, graded
unfoldable pub minor_graded : Table → List ℕ → ℕ → Grading
minor_graded table counts i = graded_at (minor_sheet table counts) i (minor_unit (get_or counts i 0))

-- and whether it qualifies
unfoldable pub minor_qualifies : Table → List ℕ → ℕ → Bool
minor_qualifies table counts i = qualifies_at (minor_sheet table counts) i (minor_unit (get_or counts i 0))

-- P1 and P2: 1/3/3 at A
abbrev pub p1_counts : List ℕ
p1_counts = 8 ∷ 3 ∷ 2 ∷ 1 ∷ 12 ∷ []

abbrev pub p2_table : PlanNumbers → PlanNumbers → Table
p2_table b c = total_table (record { start = 10; tolerance = 30; limit = 30 }) b c

-- P8: the counts of P7, then 2,2,1,1,1; 1.5/1.5/3 at A, 1/3/3 at B
abbrev pub p8_counts : List ℕ
p8_counts = 1 ∷ 4 ∷ 3 ∷ 2 ∷ 2 ∷ 1 ∷ 1 ∷ 1 ∷ []

abbrev pub p8_table : PlanNumbers → Table
p8_table c = total_table (record { start = 15; tolerance = 15; limit = 30 }) (record { start = 10; tolerance = 30; limit = 30 }) c

-- those five units
abbrev pub p8_units : List ℕ
p8_units = 3 ∷ 4 ∷ 5 ∷ 6 ∷ 7 ∷ []

-- the CuSums of the four classes, all zero
abbrev pub zeros : List Cusum
zeros = zero_cusum ∷ zero_cusum ∷ zero_cusum ∷ zero_cusum ∷ []

-- ---- the peach sheet in bytes

-- 50 4C, designated A; then for A, B, C a line for each class, with its S/T/L
unfoldable pub peach_plan : List ℕ
peach_plan =
    0x50 ∷ 0x4C ∷ 0
    -- A
    ∷ 0 ∷ 0 ∷ 0 ∷ 5 ∷ 0 ∷ 5  -- 0/0.5/0.5
    ∷ 0 ∷ 5 ∷ 0 ∷ 15 ∷ 0 ∷ 20  -- 0.5/1.5/2
    ∷ 0 ∷ 10 ∷ 0 ∷ 30 ∷ 0 ∷ 30  -- 1/3/3
    ∷ 0 ∷ 10 ∷ 0 ∷ 60 ∷ 0 ∷ 40  -- 1/6/4
    -- B
    ∷ 0 ∷ 0 ∷ 0 ∷ 10 ∷ 0 ∷ 10  -- 0/1/1
    ∷ 0 ∷ 10 ∷ 0 ∷ 30 ∷ 0 ∷ 30  -- 1/3/3
    ∷ 0 ∷ 10 ∷ 0 ∷ 50 ∷ 0 ∷ 30  -- 1/5/3
    ∷ 0 ∷ 20 ∷ 0 ∷ 120 ∷ 0 ∷ 50  -- 2/12/5
    -- C
    ∷ 0 ∷ 10 ∷ 0 ∷ 20 ∷ 0 ∷ 20  -- 1/2/2
    ∷ 0 ∷ 10 ∷ 0 ∷ 50 ∷ 0 ∷ 30  -- 1/5/3
    ∷ 0 ∷ 10 ∷ 0 ∷ 60 ∷ 0 ∷ 40  -- 1/6/4
    ∷ 0 ∷ 20 ∷ 0 ∷ 170 ∷ 0 ∷ 70  -- 2/17/7
    ∷ []

-- 53 55, code, critical, severe, major, minor, prerequisite, recoverable
unfoldable pub peach_units : List ℕ
peach_units =
    0x53 ∷ 0x55 ∷ 0 ∷ 1 ∷ 0 ∷ 0 ∷ 0 ∷ 1 ∷ 0 ∷ 2 ∷ 0 ∷ 4 ∷ 0 ∷ 0  -- 1: 0,1,2,4;A;0
    ∷ 0x53 ∷ 0x55 ∷ 0 ∷ 2 ∷ 0 ∷ 0 ∷ 0 ∷ 2 ∷ 0 ∷ 4 ∷ 0 ∷ 6 ∷ 0 ∷ 0  -- 2: 0,2,4,6;A;0
    ∷ 0x53 ∷ 0x55 ∷ 0 ∷ 3 ∷ 0 ∷ 0 ∷ 0 ∷ 1 ∷ 0 ∷ 3 ∷ 0 ∷ 3 ∷ 0 ∷ 0  -- 3: 0,1,3,3;A;0
    ∷ 0x53 ∷ 0x55 ∷ 0 ∷ 4 ∷ 0 ∷ 0 ∷ 0 ∷ 0 ∷ 0 ∷ 1 ∷ 0 ∷ 5 ∷ 0 ∷ 1  -- 4: 0,0,1,5;A;1
    ∷ 0x53 ∷ 0x55 ∷ 0 ∷ 5 ∷ 0 ∷ 0 ∷ 0 ∷ 1 ∷ 0 ∷ 2 ∷ 0 ∷ 2 ∷ 0 ∷ 1  -- 5: 0,1,2,2;A;1
    ∷ 0x53 ∷ 0x55 ∷ 0 ∷ 5 ∷ 0 ∷ 0 ∷ 0 ∷ 1 ∷ 0 ∷ 1 ∷ 0 ∷ 2 ∷ 0 ∷ 0  -- 5: 0,1,1,2;A;0
    ∷ 0x53 ∷ 0x55 ∷ 0 ∷ 7 ∷ 0 ∷ 1 ∷ 0 ∷ 0 ∷ 0 ∷ 0 ∷ 0 ∷ 0 ∷ 1 ∷ 0  -- 7: 1,0,0,0;B;0
    ∷ []

unfoldable pub peach : List ℕ
peach = peach_plan ++ peach_units

-- its result records, two lines each: 47 52, code, portion grade, code grade, plan grade, standing, four CuSums, and behind them the
-- printed line, which has the standing before the plan grade; then four overshoots: 4.0 and 1.0 in total at units 2 and 3
unfoldable pub peach_results : List ℕ
peach_results =
    0x47 ∷ 0x52 ∷ 0 ∷ 1 ∷ 0 ∷ 0 ∷ 0 ∷ 0 ∷ 0 ∷ 0 ∷ 0 ∷ 0 ∷ 0 ∷ 0 ∷ 0 ∷ 20  -- 1 1 A A m A 0.0 0.0 0.0 2.0
    ∷ 0 ∷ 0 ∷ 0 ∷ 0 ∷ 0 ∷ 0 ∷ 0 ∷ 0 ∷ 0 ∷ 0 ∷ 0 ∷ 0 ∷ 0 ∷ 0 ∷ 0 ∷ 0
    ∷ 0x47 ∷ 0x52 ∷ 0 ∷ 2 ∷ 1 ∷ 1 ∷ 0 ∷ 1 ∷ 0 ∷ 0 ∷ 0 ∷ 5 ∷ 0 ∷ 10 ∷ 0 ∷ 40  -- 2 2 B B f A 0.0 0.5 1.0 4.0
    ∷ 0 ∷ 0 ∷ 0 ∷ 0 ∷ 0 ∷ 0 ∷ 0 ∷ 0 ∷ 0 ∷ 0 ∷ 0 ∷ 0 ∷ 0 ∷ 0 ∷ 0 ∷ 40
    ∷ 0x47 ∷ 0x52 ∷ 0 ∷ 3 ∷ 1 ∷ 1 ∷ 0 ∷ 1 ∷ 0 ∷ 0 ∷ 0 ∷ 0 ∷ 0 ∷ 10 ∷ 0 ∷ 40  -- 3 3 B B f A 0.0 0.0 1.0 4.0
    ∷ 0 ∷ 0 ∷ 0 ∷ 0 ∷ 0 ∷ 0 ∷ 0 ∷ 0 ∷ 0 ∷ 0 ∷ 0 ∷ 0 ∷ 0 ∷ 0 ∷ 0 ∷ 10
    ∷ 0x47 ∷ 0x52 ∷ 0 ∷ 4 ∷ 0 ∷ 0 ∷ 1 ∷ 3 ∷ 0 ∷ 0 ∷ 0 ∷ 0 ∷ 0 ∷ 0 ∷ 0 ∷ 0  -- 4 4 A A r B 0.0 0.0 0.0 0.0
    ∷ 0 ∷ 0 ∷ 0 ∷ 0 ∷ 0 ∷ 0 ∷ 0 ∷ 0 ∷ 0 ∷ 0 ∷ 0 ∷ 0 ∷ 0 ∷ 0 ∷ 0 ∷ 0
    ∷ 0x47 ∷ 0x52 ∷ 0 ∷ 5 ∷ 0 ∷ 1 ∷ 1 ∷ 3 ∷ 0 ∷ 0 ∷ 0 ∷ 0 ∷ 0 ∷ 0 ∷ 0 ∷ 0  -- 5 5 A B r B 0.0 0.0 0.0 0.0
    ∷ 0 ∷ 0 ∷ 0 ∷ 0 ∷ 0 ∷ 0 ∷ 0 ∷ 0 ∷ 0 ∷ 0 ∷ 0 ∷ 0 ∷ 0 ∷ 0 ∷ 0 ∷ 0
    ∷ 0x47 ∷ 0x52 ∷ 0 ∷ 5 ∷ 1 ∷ 1 ∷ 1 ∷ 2 ∷ 0 ∷ 0 ∷ 0 ∷ 0 ∷ 0 ∷ 0 ∷ 0 ∷ 0  -- 6 5 B B u B 0.0 0.0 0.0 0.0
    ∷ 0 ∷ 0 ∷ 0 ∷ 0 ∷ 0 ∷ 0 ∷ 0 ∷ 0 ∷ 0 ∷ 0 ∷ 0 ∷ 0 ∷ 0 ∷ 0 ∷ 0 ∷ 0
    ∷ 0x47 ∷ 0x52 ∷ 0 ∷ 7 ∷ 1 ∷ 1 ∷ 0 ∷ 0 ∷ 0 ∷ 5 ∷ 0 ∷ 0 ∷ 0 ∷ 0 ∷ 0 ∷ 0  -- 7 7 B B m A 0.5 0.0 0.0 0.0
    ∷ 0 ∷ 0 ∷ 0 ∷ 0 ∷ 0 ∷ 0 ∷ 0 ∷ 0 ∷ 0 ∷ 0 ∷ 0 ∷ 0 ∷ 0 ∷ 0 ∷ 0 ∷ 0
    ∷ []

-- the peach plan and one unit with these counts of critical, severe, major, minor
unfoldable pub one_unit : ℕ → ℕ → ℕ → ℕ → List ℕ
one_unit critical severe major minor =
    peach_plan
    ++ (0x53 ∷ 0x55 ∷ 0 ∷ 1
    ∷ high critical ∷ low critical ∷ high severe ∷ low severe ∷ high major ∷ low major ∷ high minor ∷ low minor
    ∷ 0 ∷ 0 ∷ [])

-- ---- the cases

pub record WorkedCases : Type 0 where
  -- "P1: 1/3/3, counts 8,3,2,1,12: CuSums 3 (fails),3,2,0,3 (fails)." The overshoots are 3 and 6
  pub p1 : steps (record { start = 10; tolerance = 30; limit = 30 }) p1_counts ≡ failed 30 30 ∷ met 30 ∷ met 20 ∷ met 0 ∷ failed 30 60 ∷ []
  -- "P2: there, T+L at B 10 and at C 13: the 8 grades B, the 12 C." The three units between meet A
  pub p2 : (b c : PlanNumbers) → b.tolerance + b.limit ≡ 100 → c.tolerance + c.limit ≡ 130
      → map (λ i. (minor_graded (p2_table b c) p1_counts i).grade) (0 ∷ 1 ∷ 2 ∷ 3 ∷ 4 ∷ []) ≡ 1 ∷ 0 ∷ 0 ∷ 0 ∷ 2 ∷ []
  -- "P3: CuSum at L, count equal to T: stays L, meets." Under any S, T and L; the second unit of P1 is a case
  pub p3 : (numbers : PlanNumbers) (count : ℕ) → in_tenths count ≡ numbers.tolerance
      → step_of numbers (record { tenths = numbers.limit }) (in_tenths count) ≡ met numbers.limit
  -- "P4: raw value L+0.1 fails." Under any S, T and L, and the CuSum becomes L, the overshoot 0.1; 1/3/3 with 6 defects from the CuSum
  -- 0.1 is a case
  pub p4 :
      ((numbers : PlanNumbers) (old count : ℕ) → raw_value numbers old (in_tenths count) ≡ pos (numbers.limit + 1)
      → step_of numbers (record { tenths = old }) (in_tenths count) ≡ failed numbers.limit 1)
      × (raw_value (record { start = 10; tolerance = 30; limit = 30 }) 1 (in_tenths 6) ≡ pos 31)
  -- "P5: raw -0.1 gives 0." Under any S, T and L, and the class meets; 1/3/3 with no defect from the CuSum 2.9 is a case. negsuc 0 is -1
  pub p5 :
      ((numbers : PlanNumbers) (old count : ℕ) → raw_value numbers old (in_tenths count) ≡ negsuc 0
      → step_of numbers (record { tenths = old }) (in_tenths count) ≡ met 0)
      × (raw_value (record { start = 10; tolerance = 30; limit = 30 }) 29 (in_tenths 0) ≡ negsuc 0)
  -- "P6: 0/0.5/0.5, counts 1,0,1: 0.5,0,0.5."
  pub p6 : steps (record { start = 0; tolerance = 5; limit = 5 }) (1 ∷ 0 ∷ 1 ∷ []) ≡ met 5 ∷ met 0 ∷ met 5 ∷ []
  -- "P7: 1.5/1.5/3, counts 1,4,3: 1, 3 (fails), 3 (fails)." The overshoots are 0.5 and 1.5
  pub p7 : steps (record { start = 15; tolerance = 15; limit = 30 }) (1 ∷ 4 ∷ 3 ∷ []) ≡ met 10 ∷ failed 30 5 ∷ failed 30 15 ∷ []
  -- "P8: then 2,2,1,1,1 at lower plan 1/3/3 are all zero; the last three qualify, since 2 is above 1.5." Whatever the plan of C: the
  -- plan in force for each unit, and for one after them; the CuSums; which qualify; where step 3 ends
  pub p8 : (c : PlanNumbers) →
      (map (in_force_at (minor_sheet (p8_table c) p8_counts)) (0 ∷ 1 ∷ 2 ∷ 3 ∷ 4 ∷ 5 ∷ 6 ∷ 7 ∷ 8 ∷ []) ≡ 0 ∷ 0 ∷ 0 ∷ 1 ∷ 1 ∷ 1 ∷ 1 ∷ 1 ∷ 0 ∷ [])
      × (map (λ i. (minor_graded (p8_table c) p8_counts i).cusums) p8_units ≡ zeros ∷ zeros ∷ zeros ∷ zeros ∷ zeros ∷ [])
      × (map (minor_qualifies (p8_table c) p8_counts) p8_units ≡ false ∷ false ∷ true ∷ true ∷ true ∷ [])
      × (map (step_three_ends_at (minor_sheet (p8_table c) p8_counts)) p8_units ≡ false ∷ false ∷ false ∷ false ∷ true ∷ [])
  -- "P9: count 2,001 is refused with 8, 2,000 is not." The refusal is at the unit's mark, for each of its counts and every buffer
  pub p9 : (buffer : List ℕ) →
      (outcome (one_unit 2001 0 0 0) buffer ≡ refusal 8 75 buffer)
      × (outcome (one_unit 0 2001 0 0) buffer ≡ refusal 8 75 buffer)
      × (outcome (one_unit 0 0 2001 0) buffer ≡ refusal 8 75 buffer)
      × (outcome (one_unit 0 0 0 2001) buffer ≡ refusal 8 75 buffer)
      × (32 ≤ length buffer → (outcome (one_unit 2000 2000 2000 2000) buffer).answer ≡ record { number = 0; units = 1; offset = 89 })
  -- "P10: the seven lines above." In every buffer that holds them; bytes behind the last record keep theirs
  pub p10 : (buffer : List ℕ) → 224 ≤ length buffer
      → outcome peach buffer ≡ record { answer = record { number = 0; units = 7; offset = 173 }; buffer = peach_results ++ drop 224 buffer }

-- Where a sheet is turned away: numbers 1 to 12, in the order of the table. A refusal is its number and an offset.
use Rattle.std.specs.Prelude.{ℕ, zero, suc, ◌+◌, Option, Some, None, Bool, true, false, not, ◌||◌, List, ltb, leb, eqb, length}
use Rattle.outcome.specs.Outcome.{accepted_as, refused_as}
use Rattle.outcome.specs.declared.Answer.{Answer}
use Rattle.cusum.specs.declared.PlanNumbers.{PlanNumbers}
use Rattle.encoding.specs.Bytes.{byte, number}
use Rattle.units.specs.Conditions.{any, pick}
use Rattle.units.specs.Words.{classes, cell_of, numbers_of, table_of}
use Rattle.units.specs.Records.{designated_by}
use Rattle.units.specs.declared.Plan.{Plan}
use Rattle.units.specs.declared.SampleUnit.{SampleUnit}
use Rattle.layout.specs.Layout.{mark_size, grade_offset, plan_size, unit_size, redesignation_size, prerequisite_offset, recoverable_offset, cells, plan_of, sample_unit_at, mark_at, offset, entry_at, units_before}
use Rattle.layout.specs.declared.Mark.{Mark}
use Rattle.layout.specs.declared.Mark.TheVariants.{UnitMark, RedesignationMark, BreakMark}
use Rattle.sheet.specs.LeftToRight.{left_to_right}
use Rattle.sheet.specs.Verdict.{Verdict, Accepted, Refused}

-- a ground of refusal, a row of the table: its number if its condition is met, else what the grounds after it say, 0 at their end
unfoldable pub refused_if : Bool → ℕ → ℕ → ℕ
refused_if true number rest = number
refused_if false number rest = rest

-- the largest S, T, L and count, and the most units, of a sheet
abbrev pub largest_plan_number : ℕ
largest_plan_number = 9999

abbrev pub largest_count : ℕ
largest_count = 2000

abbrev pub most_units : ℕ
most_units = 1000

-- ---- the plan, at offset 0

-- a condition holds of the numbers of a class in the plan of a grade
unfoldable pub any_numbers : (PlanNumbers → Bool) → Plan → Bool
any_numbers condition plan = any (λ cell. condition (cell_of plan cell)) cells

-- 1: shorter than a plan, or first mark not 50 4C
unfoldable pub no_plan_record : List ℕ → Bool
no_plan_record bytes = ltb (length bytes) plan_size || not (eqb (number bytes 0) 0x504C)

-- 3: an S, T or L above 9,999
unfoldable pub too_large : PlanNumbers → Bool
too_large numbers =
    ltb largest_plan_number numbers.start
    || (ltb largest_plan_number numbers.tolerance || ltb largest_plan_number numbers.limit)

-- 4: an S above its L
unfoldable pub start_above_limit : PlanNumbers → Bool
start_above_limit numbers = ltb numbers.limit numbers.start

-- T or T+L smaller at a lower grade than at a better one
unfoldable pub smaller : PlanNumbers → PlanNumbers → Bool
smaller better lower =
    ltb lower.tolerance better.tolerance || ltb (lower.tolerance + lower.limit) (better.tolerance + better.limit)

-- 5: in a class, T or T+L smaller at B than at A, or at C than at B
unfoldable pub smaller_in_class : Plan → ℕ → Bool
smaller_in_class plan class =
    let numbers : ℕ → PlanNumbers = λ grade. numbers_of (table_of plan) grade class in
    smaller (numbers 0) (numbers 1) || smaller (numbers 1) (numbers 2)

unfoldable pub table_refusal : Plan → ℕ
table_refusal plan =
    refused_if (any_numbers too_large plan) 3
    (refused_if (any_numbers start_above_limit plan) 4
    (refused_if (any (smaller_in_class plan) classes) 5
    0))

unfoldable pub plan_refusal : List ℕ → ℕ
plan_refusal bytes =
    refused_if (no_plan_record bytes) 1
    (refused_if (ltb 2 (byte bytes grade_offset)) 2
    (table_refusal (plan_of bytes)))

-- ---- a record, at the offset of its mark

-- 8: a count above 2,000
unfoldable pub count_too_large : SampleUnit → Bool
count_too_large unit =
    ltb largest_count unit.critical.0
    || (ltb largest_count unit.severe.0 || (ltb largest_count unit.major.0 || ltb largest_count unit.minor.0))

-- of a unit at an offset, with so many units before it. 7: cut short; 12: after the 1,000th; 8; 9: prerequisite above 3 or
-- recoverable above 1
unfoldable pub unit_refusal : List ℕ → ℕ → ℕ → ℕ
unit_refusal bytes at units =
    refused_if (ltb (length bytes) (at + unit_size)) 7
    (refused_if (leb most_units units) 12
    (refused_if (count_too_large (sample_unit_at bytes at)) 8
    (refused_if (ltb 3 (byte bytes (at + prerequisite_offset)) || ltb 1 (byte bytes (at + recoverable_offset))) 9
    0)))

-- of a redesignation, with the grade designated just before it. 7: cut short; 10: new grade above 2; 11: equal to that one
unfoldable pub redesignation_refusal : List ℕ → ℕ → ℕ → ℕ
redesignation_refusal bytes at designated =
    refused_if (ltb (length bytes) (at + redesignation_size)) 7
    (refused_if (ltb 2 (byte bytes (at + grade_offset))) 10
    (refused_if (eqb (byte bytes (at + grade_offset)) designated) 11
    0))

-- 6: a mark not of a unit, redesignation or break
unfoldable pub refusal_by : List ℕ → ℕ → ℕ → ℕ → Option Mark → ℕ
refusal_by bytes at units designated (Some UnitMark) = unit_refusal bytes at units
refusal_by bytes at units designated (Some RedesignationMark) = redesignation_refusal bytes at designated
refusal_by bytes at units designated (Some BreakMark) = 0
refusal_by bytes at units designated None = 6

-- 6: one byte left (with none left there is no record)
unfoldable pub refusal_at : List ℕ → ℕ → ℕ → ℕ → ℕ
refusal_at bytes at units designated =
    refused_if (ltb (length bytes) (at + mark_size)) 6 (refusal_by bytes at units designated (mark_at bytes at))

-- the grade designated just before record i, told without grading
unfoldable pub designated_before : List ℕ → ℕ → ℕ
designated_before bytes zero = (plan_of bytes).designated
designated_before bytes (suc i) = designated_by (designated_before bytes i) (entry_at bytes i)

unfoldable pub record_refusal : List ℕ → ℕ → ℕ
record_refusal bytes i = refusal_at bytes (offset bytes i) (units_before bytes i) (designated_before bytes i)

-- ---- the sheet

-- records are checked left to right, from record i on, at most so many (every record has two bytes or more, so the sheet's length is
-- always enough: law `check_says`)
abbrev pub check_from : List ℕ → ℕ → ℕ → Verdict
check_from bytes = left_to_right (length bytes) (offset bytes) (record_refusal bytes) (λ i. Accepted i (units_before bytes i)) Refused

-- a sheet that passes numbers 1 to 12, with its records and units, or the number of the first ground met and its offset
unfoldable pub verdict : List ℕ → Verdict
verdict bytes =
    pick (eqb (plan_refusal bytes) 0) (check_from bytes (length bytes) 0) (Refused (plan_refusal bytes) 0)

-- ---- the answer

-- of each case: acceptance has the number of units and the sheet's length, a refusal no units and the place where the sheet stopped
abbrev pub answer_of : List ℕ → Verdict → Answer
answer_of bytes (Accepted records units) = accepted_as units (length bytes)
answer_of bytes (Refused number offset) = refused_as number offset

-- The tally sheet in bytes: the plan, and the records behind it by their number.
use Rattle.std.specs.Prelude.{ℕ, zero, suc, ◌+◌, ◌*◌, Option, Some, None, List, map, eqb, length}
use Rattle.cusum.specs.declared.Defects.{Defects}
use Rattle.cusum.specs.declared.PlanNumbers.{PlanNumbers}
use Rattle.encoding.specs.Bytes.{byte, number}
use Rattle.units.specs.Conditions.{pick}
use Rattle.units.specs.Words.{planned_grades, classes, up_from}
use Rattle.units.specs.declared.Plan.{Plan}
use Rattle.units.specs.declared.SampleUnit.{SampleUnit}
use Rattle.units.specs.declared.Entry.{Entry}
use Rattle.units.specs.declared.Entry.TheVariants.{UnitRecord, Redesignation, Break}
use Rattle.layout.specs.declared.Mark.{Mark}
use Rattle.layout.specs.declared.Mark.TheVariants.{UnitMark, RedesignationMark, BreakMark}

-- ---- sizes of the records, and offsets of their fields, each behind the one before it

-- a record opens with its mark
abbrev pub mark_size : ℕ
mark_size = 2

-- a number: S, T, L, a production code, a count
abbrev pub number_size : ℕ
number_size = 2

-- the grade behind a mark: the designated one of a plan, the new one of a redesignation
abbrev pub grade_offset : ℕ
grade_offset = mark_size

-- plan: mark, designated grade (a byte), then the table: for grades A, B, C, within each the classes, within each S, T, L
abbrev pub table_offset : ℕ
table_offset = grade_offset + 1

abbrev pub tolerance_offset : ℕ
tolerance_offset = number_size

abbrev pub limit_offset : ℕ
limit_offset = tolerance_offset + number_size

abbrev pub plan_numbers_size : ℕ
plan_numbers_size = limit_offset + number_size

-- how many cells the table has: a class of a grade each
abbrev pub table_size : ℕ
table_size = length planned_grades * length classes

abbrev pub plan_size : ℕ
plan_size = table_offset + plan_numbers_size * table_size

-- sample unit: mark, production code, a count of each kind, prerequisite grade (a byte), recoverable (a byte)
abbrev pub code_offset : ℕ
code_offset = mark_size

abbrev pub counts_offset : ℕ
counts_offset = code_offset + number_size

-- the kinds of counts of a unit, in this order: critical, severe, major, minor
abbrev pub kinds : ℕ
kinds = 4

abbrev pub count_offset : ℕ → ℕ
count_offset kind = counts_offset + number_size * kind

abbrev pub prerequisite_offset : ℕ
prerequisite_offset = count_offset kinds

abbrev pub recoverable_offset : ℕ
recoverable_offset = prerequisite_offset + 1

abbrev pub unit_size : ℕ
unit_size = recoverable_offset + 1

-- redesignation: mark, new designated grade (a byte)
abbrev pub redesignation_size : ℕ
redesignation_size = grade_offset + 1

-- ---- the plan

-- S, T and L at an offset
abbrev pub plan_numbers_at : List ℕ → ℕ → PlanNumbers
plan_numbers_at bytes at =
    record {
      start = number bytes at;
      tolerance = number bytes (at + tolerance_offset);
      limit = number bytes (at + limit_offset);
    }

-- the cells of the table, grade by grade and in each class by class
abbrev pub cells : List ℕ
cells = up_from 0 table_size

-- the plan of a sheet: its designated grade (A, B or C; any other is refused with number 2), and its table
unfoldable pub plan_of : List ℕ → Plan
plan_of bytes =
    record { designated = byte bytes grade_offset; numbers = map (λ cell. plan_numbers_at bytes (table_offset + plan_numbers_size * cell)) cells }

-- ---- the records

-- marks: 53 55 a sample unit, 52 44 a redesignation, 42 4B a break in production
unfoldable pub mark_of : ℕ → Option Mark
mark_of mark =
    pick (eqb mark 0x5355) (Some UnitMark)
    (pick (eqb mark 0x5244) (Some RedesignationMark)
    (pick (eqb mark 0x424B) (Some BreakMark) None))

-- the mark at an offset, if there is one
unfoldable pub mark_at : List ℕ → ℕ → Option Mark
mark_at bytes at = mark_of (number bytes at)

-- the size of a record by its mark; two bytes where there is none, so that the next offset is always a later one
unfoldable pub size_of : Option Mark → ℕ
size_of (Some UnitMark) = unit_size
size_of (Some RedesignationMark) = redesignation_size
size_of (Some BreakMark) = mark_size
size_of None = mark_size

-- a count of defects at an offset
abbrev pub defects_at : List ℕ → ℕ → Defects
defects_at bytes at = record { 0 = number bytes at }

-- the sample unit at an offset; recoverable: 1 if the portion is separately coded and within reach, else 0
unfoldable pub sample_unit_at : List ℕ → ℕ → SampleUnit
sample_unit_at bytes at =
    record {
      code = number bytes (at + code_offset);
      critical = defects_at bytes (at + count_offset 0);
      severe = defects_at bytes (at + count_offset 1);
      major = defects_at bytes (at + count_offset 2);
      minor = defects_at bytes (at + count_offset 3);
      prerequisite = byte bytes (at + prerequisite_offset);
      recoverable = eqb (byte bytes (at + recoverable_offset)) 1;
    }

-- the record at an offset. In an accepted sheet every record has a mark; where there is none, behind the last record, a break
-- stands in, which grades no unit
unfoldable pub entry_of : List ℕ → ℕ → Option Mark → Entry
entry_of bytes at (Some UnitMark) = UnitRecord (sample_unit_at bytes at)
entry_of bytes at (Some RedesignationMark) = Redesignation (byte bytes (at + grade_offset))
entry_of bytes at (Some BreakMark) = Break
entry_of bytes at None = Break

-- the offset of record i: the first stands behind the plan, each other behind the one before it
unfoldable pub offset : List ℕ → ℕ → ℕ
offset bytes zero = plan_size
offset bytes (suc i) = offset bytes i + size_of (mark_at bytes (offset bytes i))

-- the mark of record i, and the record
abbrev pub mark : List ℕ → ℕ → Option Mark
mark bytes i = mark_at bytes (offset bytes i)

unfoldable pub entry_at : List ℕ → ℕ → Entry
entry_at bytes i = entry_of bytes (offset bytes i) (mark bytes i)

-- how many sample units a record is: one or none
unfoldable pub units_in : Option Mark → ℕ
units_in (Some UnitMark) = 1
units_in (Some RedesignationMark) = 0
units_in (Some BreakMark) = 0
units_in None = 0

-- how many sample units stand before record i
unfoldable pub units_before : List ℕ → ℕ → ℕ
units_before bytes zero = 0
units_before bytes (suc i) = units_before bytes i + units_in (mark bytes i)

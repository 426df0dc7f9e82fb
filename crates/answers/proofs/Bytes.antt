-- The layout in the paper's numbers: sizes and offsets by computing, the place of S, T and L by arithmetic, the next record by the mark of
-- the one before it.
use Prim.Native.Nat.{ℕ, ◌+◌, ◌*◌}
use mathlib.Core.Path.{◌≡◌, refl, ap}
use mathlib.Core.List.{List}
use native.Mathlib.Nat.{add-zero}
use native.Mathlib.Omega.{arith}
use Rattle.std.proofs.Common.{Some}
use Rattle.encoding.specs.Bytes.{byte, number, wide_number}
use Rattle.layout.specs.Layout.{size_of, offset, units_in, units_before}
use Rattle.layout.specs.declared.Mark.TheVariants.{UnitMark, RedesignationMark, BreakMark}
use Rattle.layout.proofs.Units.{offset_behind, units_behind}
use Rattle.answers.specs.Bytes.{Sizes, Fields, Records, Results, PaperLayout}
use Rattle.answers.proofs.Rows.{is_unit_mark, is_redesignation_mark, is_break_mark}

sizes : Sizes
sizes =
    record {
      plan = refl;
      unit = refl;
      redesignation = refl;
      break_in_production = refl;
      result = refl;
      three_grades = refl;
      four_classes = refl;
      four_kinds = refl;
    }

fields : Fields
fields =
    record {
      grade_behind_mark = refl;
      start = λ bytes grade class. ap (number bytes) (omega arith);
      tolerance = λ bytes grade class. ap (number bytes) (omega arith);
      limit = λ bytes grade class. ap (number bytes) (omega arith);
      code = refl;
      counts = refl;
      critical = refl;
      severe = refl;
      major = refl;
      minor = refl;
      prerequisite = refl;
      recoverable = refl;
    }

records : (bytes : List ℕ) → Records bytes
unfolding offset units_before size_of units_in
records bytes =
    record {
      first = refl;
      no_unit_yet = refl;
      behind_unit = λ i e.
          let is_unit = is_unit_mark bytes i e in (offset_behind bytes i (Some UnitMark) is_unit, units_behind bytes i (Some UnitMark) is_unit);
      behind_redesignation = λ i e.
          let is_new = is_redesignation_mark bytes i e in
          (offset_behind bytes i (Some RedesignationMark) is_new, omega (arith, units_behind bytes i (Some RedesignationMark) is_new));
      behind_break = λ i e.
          let is_break_holds = is_break_mark bytes i e in (offset_behind bytes i (Some BreakMark) is_break_holds, omega (arith, units_behind bytes i (Some BreakMark) is_break_holds));
    }

-- a number of four bytes by the places of its bytes
four_bytes : (bytes : List ℕ) (at first second third last : ℕ) → first ≡ at → second ≡ at + 1 → third ≡ at + 2 → last ≡ at + 3
    → wide_number 4 bytes at ≡ 16777216 * byte bytes first + 65536 * byte bytes second + 256 * byte bytes third + byte bytes last
unfolding wide_number
four_bytes bytes at first second third last one two three four = rw (one, two, three, four, add-zero at) (omega arith)

results : (buffer : List ℕ) (j : ℕ) → Results buffer j
results buffer j =
    record {
      mark = ap (number buffer) (omega arith);
      code = refl;
      portion_grade_holds = refl;
      code_grade_holds = refl;
      plan_grade_holds = refl;
      standing = refl;
      cusums = λ class. ap (number buffer) (omega arith);
      overshoots = λ class.
          four_bytes buffer _ (32 * j + 16 + 4 * class) (32 * j + 17 + 4 * class) (32 * j + 18 + 4 * class) (32 * j + 19 + 4 * class)
          (omega arith) (omega arith) (omega arith) (omega arith);
    }

pub paper_layout : PaperLayout
paper_layout = record { high_byte_first = λ bytes at. refl; sizes = sizes; fields = fields; records = records; results = results }

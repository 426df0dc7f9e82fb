-- The sample units among the records: what a record is by its mark, and how many units stand before it, the same by marks and by
-- records. By cases on the mark, and by induction on the number of the record.
use Prim.Native.Nat.{ℕ, zero, suc, ◌+◌, ◌≤◌}
use mathlib.Core.Path.{◌≡◌, refl, sym, ◌∙◌, ap, ap₂}
use mathlib.Core.Logic.{◌⊎◌, inl, inr, ⊎_elim}
use mathlib.Core.List.{List}
use Rattle.std.proofs.Common.{Option, Some, None}
use native.Mathlib.Omega.{arith}
use Rattle.encoding.specs.Bytes.{byte}
use Rattle.units.specs.Records.{units_of, units_among}
use Rattle.units.specs.declared.SampleUnit.{SampleUnit}
use Rattle.units.specs.declared.Entry.TheVariants.{UnitRecord, Redesignation}
use Rattle.units.proofs.Records as records
use Rattle.layout.specs.Layout.{grade_offset, unit_size, size_of, sample_unit_at, entry_of, offset, mark, entry_at, units_in, units_before}
use Rattle.layout.specs.declared.Mark.{Mark}
use Rattle.layout.specs.declared.Mark.TheVariants.{UnitMark, RedesignationMark, BreakMark}

-- ---- what a record is

-- as many units by the mark as by the record
units_by : (bytes : List ℕ) (at : ℕ) (m : Option Mark) → units_in m ≡ units_of (entry_of bytes at m)
unfolding units_in units_of entry_of
units_by bytes at (Some UnitMark) = refl
units_by bytes at (Some RedesignationMark) = refl
units_by bytes at (Some BreakMark) = refl
units_by bytes at None = refl

unit_or_none : (m : Option Mark) → (m ≡ Some UnitMark) ⊎ (units_in m ≡ 0)
unfolding units_in
unit_or_none (Some UnitMark) = inl refl
unit_or_none (Some RedesignationMark) = inr refl
unit_or_none (Some BreakMark) = inr refl
unit_or_none None = inr refl

units_in_le : (m : Option Mark) → units_in m ≤ 1
unfolding units_in
units_in_le (Some UnitMark) = omega arith
units_in_le (Some RedesignationMark) = omega arith
units_in_le (Some BreakMark) = omega arith
units_in_le None = omega arith

redesignation_by : (bytes : List ℕ) (at : ℕ) (m : Option Mark) (new : ℕ) → entry_of bytes at m ≡ Redesignation new
    → (m ≡ Some RedesignationMark) × (byte bytes (at + grade_offset) ≡ new)
unfolding entry_of
redesignation_by bytes at (Some UnitMark) new e = cc
redesignation_by bytes at (Some RedesignationMark) new e = (refl, cc)
redesignation_by bytes at (Some BreakMark) new e = cc
redesignation_by bytes at None new e = cc

module _ (bytes : List ℕ) (i : ℕ) where
  units_here : units_in (mark bytes i) ≡ units_of (entry_at bytes i)
  unfolding entry_at
  units_here = units_by bytes (offset bytes i) (mark bytes i)

  -- a record has the mark of a unit, or is no unit
  pub unit_or_not : (mark bytes i ≡ Some UnitMark) ⊎ (units_of (entry_at bytes i) ≡ 0)
  unit_or_not = ⊎_elim inl (λ none. inr (sym units_here ∙ none)) (unit_or_none (mark bytes i))

  pub entry_unit : mark bytes i ≡ Some UnitMark → entry_at bytes i ≡ UnitRecord (sample_unit_at bytes (offset bytes i))
  unfolding entry_at entry_of
  entry_unit is_unit = ap (entry_of bytes (offset bytes i)) is_unit

  -- a record that reads as a unit has its mark
  pub unit_mark : (unit : SampleUnit) → entry_at bytes i ≡ UnitRecord unit → mark bytes i ≡ Some UnitMark
  unfolding units_of
  unit_mark unit e =
      ⊎_elim (λ is_unit. is_unit) (λ none. absurd (omega (arith, units_here, ap units_of e))) (unit_or_none (mark bytes i))

  -- one that reads as a redesignation has its mark, and the new grade behind it
  pub redesignation_mark : (new : ℕ) → entry_at bytes i ≡ Redesignation new
      → (mark bytes i ≡ Some RedesignationMark) × (byte bytes (offset bytes i + grade_offset) ≡ new)
  unfolding entry_at
  redesignation_mark new e = redesignation_by bytes (offset bytes i) (mark bytes i) new e

  -- the next record by the mark of this one: its offset, and the units before it
  pub offset_behind : (m : Option Mark) → mark bytes i ≡ m → offset bytes (suc i) ≡ offset bytes i + size_of m
  unfolding offset
  offset_behind m is_marked = ap (λ (m : Option Mark). offset bytes i + size_of m) is_marked

  pub units_behind : (m : Option Mark) → mark bytes i ≡ m → units_before bytes (suc i) ≡ units_before bytes i + units_in m
  unfolding units_before
  units_behind m is_marked = ap (λ (m : Option Mark). units_before bytes i + units_in m) is_marked

  pub next_offset : mark bytes i ≡ Some UnitMark → offset bytes (suc i) ≡ offset bytes i + unit_size
  unfolding size_of
  next_offset = offset_behind (Some UnitMark)

  pub next_units : mark bytes i ≡ Some UnitMark → units_before bytes (suc i) ≡ units_before bytes i + 1
  unfolding units_in
  next_units = units_behind (Some UnitMark)

  pub same_units : units_of (entry_at bytes i) ≡ 0 → units_before bytes (suc i) ≡ units_before bytes i
  unfolding units_before
  same_units none = omega (arith, units_here)

-- ---- how many

module _ (bytes : List ℕ) where
  -- counted by their marks, and among the records
  pub units_among_holds : (n : ℕ) → units_before bytes n ≡ units_among (entry_at bytes) n
  unfolding units_before units_among
  units_among_holds zero = refl
  units_among_holds (suc n) = ap₂ ◌+◌ (units_among_holds n) (units_here bytes n)

  -- no more units than records
  pub units_before_le : (i : ℕ) → units_before bytes i ≤ i
  unfolding units_before
  units_before_le zero = omega arith
  units_before_le (suc i) = omega (arith, units_before_le i, units_in_le (mark bytes i))

  pub units_mono : (i n : ℕ) → i ≤ n → units_before bytes i ≤ units_before bytes n
  units_mono i n within = omega (arith, units_among_holds i, units_among_holds n, records.units_mono (entry_at bytes) i n within)

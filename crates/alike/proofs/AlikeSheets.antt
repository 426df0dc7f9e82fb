-- Two sheets alike have the same plan and the same records at the same offsets, but for the counts, which are compared.
-- A byte of a record outside its own counts lies in no count; offsets and marks follow by induction on the records.
use Prim.Native.Nat.{ℕ, zero, suc, ◌+◌, ◌*◌, ◌≤◌, ◌<◌}
use mathlib.Core.Path.{◌≡◌, refl, sym, ◌∙◌, ap, ap₂, subst, subst⁻¹}
use mathlib.Core.Logic.{◌⊎◌, inl, inr}
use mathlib.Core.Bool.{Bool, true, false, cond}
use mathlib.Core.List.{List, map}
use native.Mathlib.Nat.{eq-or-lt_of_le}
use native.Mathlib.Omega.{arith}
use lib.Dec.{ltb, leb, eqb, lit<}
use borrow.Author.Tests.{ltb-true, leb-true, leb-false}
use Rattle.std.proofs.Common.{Option, Some, None}
use Rattle.encoding.specs.Bytes.{byte}
use Rattle.units.specs.declared.Plan.{Plan}
use Rattle.units.specs.declared.Entry.{Entry}
use Rattle.anchors.proofs.Fellows.{UnitBelow, Below}
use Rattle.anchors.proofs.SideBySide.{NoRedesignation}
use Rattle.layout.specs.Layout.{plan_size, number_size, grade_offset, code_offset, count_offset, recoverable_offset, tolerance_offset, limit_offset, table_offset, plan_numbers_size, cells, counts_offset, kinds, prerequisite_offset, unit_size, plan_of, mark_of, mark_at, size_of, sample_unit_at, entry_of, offset, mark, entry_at}
use Rattle.layout.specs.declared.Mark.{Mark}
use Rattle.layout.specs.declared.Mark.TheVariants.{UnitMark, RedesignationMark, BreakMark}
use Rattle.layout.proofs.Offsets.{size_ge, offset_lt, offset_ge, inside_unit, inside_redesignation}
use Rattle.sheet.proofs.Accepted.{Facts}
use Rattle.tally.specs.Outcome.{records_in}
use Rattle.tally.specs.Accepted.{UnitAt}
use Rattle.alike.specs.Alike.{InCount, Alike, NoMore}

-- ---- bytes outside the counts

-- of two numbers one is smaller, or they are equal
in_order : (i j : ℕ) → (i < j) ⊎ ((i ≡ j) ⊎ (j < i))
in_order i j = go (leb i j) refl
  where
    same_or_smaller : (i ≡ j) ⊎ (i < j) → (i < j) ⊎ ((i ≡ j) ⊎ (j < i))
    same_or_smaller (inl same) = inr (inl same)
    same_or_smaller (inr less) = inl less

    go : (test : Bool) → leb i j ≡ test → (i < j) ⊎ ((i ≡ j) ⊎ (j < i))
    go true e = same_or_smaller (eq-or-lt_of_le (leb-true i j e))
    go false e = inr (inr (leb-false i j e))

-- a byte of record i that is in none of its own counts is in no count
outside_counts : (bytes : List ℕ) (i place : ℕ) → place < size_of (mark bytes i)
    → (mark bytes i ≡ Some UnitMark → counts_offset ≤ place → place < prerequisite_offset → ⊥) → InCount bytes (offset bytes i + place) → ⊥
unfolding size_of
outside_counts bytes i place own out count = go (in_order i count.i)
  where
    go : (i < count.i) ⊎ ((i ≡ count.i) ⊎ (count.i < i)) → ⊥
    go (inl less) = omega (arith, count.from, offset_lt bytes i count.i less)
    go (inr (inl same)) =
        let at = ap (offset bytes) same in
        out (ap (mark bytes) same ∙ count.unit.is_unit) (omega (arith, count.from)) (omega (arith, count.to))
    go (inr (inr less)) = omega (arith, count.to, offset_lt bytes count.i i less, ap size_of count.unit.is_unit)

-- and each byte of a unit's counts is in one
pub own_count : (bytes : List ℕ) (i kind place : ℕ) → UnitAt bytes i → kind < kinds → place < number_size
    → InCount bytes (offset bytes i + (count_offset kind + place))
own_count bytes i kind place at a_kind within = record { i = i; unit = at; from = omega arith; to = omega arith }

-- ---- the plan

-- a number and a plan whose bytes are given by their offsets
abbrev number_by : (ℕ → ℕ) → ℕ → ℕ
number_by given at = 256 * given at + given (at + 1)

plan_by : (ℕ → ℕ) → Plan
plan_by given =
    record {
      designated = given grade_offset;
      numbers = map (λ cell. let at = table_offset + plan_numbers_size * cell in
          record { start = number_by given at; tolerance = number_by given (at + tolerance_offset); limit = number_by given (at + limit_offset) }) cells;
    }

-- the bytes of the plan, and 0 behind it
in_plan : List ℕ → ℕ → ℕ
in_plan bytes at = cond (ltb at plan_size) (byte bytes at) 0

plan_by_holds : (bytes : List ℕ) → plan_of bytes ≡ plan_by (in_plan bytes)
unfolding plan_of plan_by in_plan
plan_by_holds bytes = refl

-- ---- two sheets alike

module _ (bytes bytes' : List ℕ) (alike : Alike bytes bytes') where
  in_plan_same : (at : ℕ) → in_plan bytes at ≡ in_plan bytes' at
  unfolding in_plan
  in_plan_same at = go (ltb at plan_size) refl
    where
      go : (test : Bool) → ltb at plan_size ≡ test → cond test (byte bytes at) 0 ≡ cond test (byte bytes' at) 0
      go true e = alike.same_bytes at (λ count. omega (arith, ltb-true at plan_size e, count.from, offset_ge bytes count.i))
      go false e = refl

  pub same_plans : plan_of bytes ≡ plan_of bytes'
  same_plans = plan_by_holds bytes ∙ ap plan_by (λ k at. in_plan_same at k) ∙ sym (plan_by_holds bytes')

  -- a byte of record i outside its counts
  same_byte : (i place at : ℕ) → at ≡ offset bytes i + place → place < size_of (mark bytes i)
      → (mark bytes i ≡ Some UnitMark → counts_offset ≤ place → place < prerequisite_offset → ⊥) → byte bytes at ≡ byte bytes' at
  same_byte i place at e own out = alike.same_bytes at (λ count. outside_counts bytes i place own out (rw e at count))

  same_mark : (i : ℕ) → mark bytes i ≡ mark_at bytes' (offset bytes i)
  unfolding mark_at mark_of
  same_mark i =
      let size = size_ge (mark bytes i) in
      let high : byte bytes (offset bytes i) ≡ byte bytes' (offset bytes i) =
      same_byte i 0 (offset bytes i) (omega arith) (omega arith) (λ is_unit from to. omega arith) in
      let low : byte bytes (offset bytes i + 1) ≡ byte bytes' (offset bytes i + 1) =
      same_byte i 1 (offset bytes i + 1) refl (omega arith) (λ is_unit from to. omega arith) in
      rw (high, low)

  pub same_offsets : (i : ℕ) → offset bytes i ≡ offset bytes' i
  unfolding offset
  same_offsets zero = refl
  same_offsets (suc i) = ap₂ ◌+◌ (same_offsets i) (ap size_of (same_mark i ∙ ap (mark_at bytes') (same_offsets i)))

  pub same_marks : (i : ℕ) → mark bytes i ≡ mark bytes' i
  same_marks i = same_mark i ∙ ap (mark_at bytes') (same_offsets i)

  -- sheets alike that are accepted have as many records
  pub same_records : (n n' : ℕ) → Facts bytes n → Facts bytes' n' → n ≡ n'
  same_records n n' facts facts' = go (in_order n n')
    where
      go : (n < n') ⊎ ((n ≡ n') ⊎ (n' < n)) → n ≡ n'
      go (inl less) = absurd (omega (arith, facts.end, (facts'.within n less).0, same_offsets n, alike.same_length))
      go (inr (inl same)) = same
      go (inr (inr less)) = absurd (omega (arith, facts'.end, (facts.within n' less).0, same_offsets n', alike.same_length))

  -- the fellow of a unit is a unit
  pub unit_fellow : Facts bytes' (records_in bytes') → (i : ℕ) → UnitAt bytes i → UnitAt bytes' i
  unit_fellow facts' i at =
      let is_unit : mark bytes' i ≡ Some UnitMark = sym (same_marks i) ∙ at.is_unit in
      record { inside = inside_unit bytes' (records_in bytes') facts'.end i is_unit; is_unit = is_unit }

  module _ (facts : Facts bytes (records_in bytes)) where
    unit_at : (i : ℕ) → mark bytes i ≡ Some UnitMark → UnitAt bytes i
    unit_at i e = record { inside = inside_unit bytes (records_in bytes) facts.end i e; is_unit = e }

    module _ (no_more : NoMore bytes bytes') where
      below_unit : (i : ℕ) → mark bytes i ≡ Some UnitMark → UnitBelow (sample_unit_at bytes (offset bytes i)) (sample_unit_at bytes' (offset bytes i))
      unfolding sample_unit_at size_of
      below_unit i e =
          let size : size_of (mark bytes i) ≡ unit_size = ap size_of e in
          let same : (place at : ℕ) → at ≡ offset bytes i + place → place < unit_size → (counts_offset ≤ place → place < prerequisite_offset → ⊥)
          → byte bytes at ≡ byte bytes' at
          = λ place at q h out. same_byte i place at q (omega arith) (λ is_unit. out) in
          record {
            same_code =
                ap₂ (λ (high low : ℕ). 256 * high + low)
                (same code_offset (offset bytes i + code_offset) refl (lit< tt) (λ from to. omega arith))
                (same (code_offset + 1) (offset bytes i + code_offset + 1) (omega arith) (lit< tt) (λ from to. omega arith));
            fewer =
                record {
                  critical = no_more i 0 (unit_at i e) (lit< tt);
                  severe = no_more i 1 (unit_at i e) (lit< tt);
                  major = no_more i 2 (unit_at i e) (lit< tt);
                  minor = no_more i 3 (unit_at i e) (lit< tt);
                };
            same_prerequisite = same prerequisite_offset (offset bytes i + prerequisite_offset) refl (lit< tt) (λ from to. omega arith);
            same_recoverable = ap (λ (x : ℕ). eqb x 1) (same recoverable_offset (offset bytes i + recoverable_offset) refl (lit< tt) (λ from to. omega arith));
          }

      below_by : (i : ℕ) (m : Option Mark) → mark bytes i ≡ m → Below (entry_of bytes (offset bytes i) m) (entry_of bytes' (offset bytes i) m)
      unfolding Below entry_of size_of
      below_by i (Some UnitMark) e = below_unit i e
      below_by i (Some RedesignationMark) e =
          same_byte i grade_offset (offset bytes i + grade_offset) refl (subst⁻¹ (λ (m : Option Mark). grade_offset < size_of m) e (lit< tt)) (λ is_unit from to. omega arith)
      below_by i (Some BreakMark) e = tt
      below_by i None e = tt

      -- each record and its fellow are alike but for the counts, none of which exceeds its fellow
      pub fellows_below : (i : ℕ) → Below (entry_at bytes i) (entry_at bytes' i)
      unfolding entry_at
      fellows_below i =
          subst (λ (entry : Entry). Below (entry_at bytes i) entry) (ap₂ (entry_of bytes') (same_offsets i) (same_marks i))
          (below_by i (mark bytes i) refl)

-- ---- a sheet without redesignation

module _ (bytes : List ℕ) (facts : Facts bytes (records_in bytes)) (none : (i : ℕ) → i < records_in bytes → mark bytes i ≡ Some RedesignationMark → ⊥) where
  no_redesignation_by : (i : ℕ) (m : Option Mark) → mark bytes i ≡ m → NoRedesignation (entry_of bytes (offset bytes i) m)
  unfolding NoRedesignation entry_of
  no_redesignation_by i (Some UnitMark) e = tt
  no_redesignation_by i (Some RedesignationMark) e = none i (inside_redesignation bytes (records_in bytes) facts.end i e) e
  no_redesignation_by i (Some BreakMark) e = tt
  no_redesignation_by i None e = tt

  pub no_redesignations : (i : ℕ) → NoRedesignation (entry_at bytes i)
  unfolding entry_at
  no_redesignations i = no_redesignation_by i (mark bytes i) refl

-- Where the records of a sheet stand: each has two bytes or more and ends before a later one begins; behind the sheet's end none has a
-- mark. By cases on the mark, and by induction on the number of the record; bytes behind the end read as 0.
use Prim.Native.Nat.{ℕ, zero, suc, ◌+◌, ◌*◌, ◌≤◌, ◌<◌}
use mathlib.Core.Path.{◌≡◌, refl, ap}
use mathlib.Core.Logic.{◌⊎◌, inl, inr}
use mathlib.Core.Bool.{Bool, true, false}
use mathlib.Core.List.{List}
use Rattle.std.proofs.Common.{Option, Some, None}
use native.Mathlib.Nat.{eq-or-lt_of_le, le_of_suc-le-suc}
use native.Mathlib.Omega.{arith}
use lib.Dec.{ltb, leb, lit<}
use lib.ListN.{length, get_or-eq_default}
use borrow.Author.Tests.{ltb-true, ltb-false, leb-true, leb-false, ne_eqb}
use Rattle.encoding.specs.Bytes.{byte, number}
use Rattle.units.specs.Conditions.{pick}
use Rattle.units.specs.declared.Entry.TheVariants.{Break}
use Rattle.layout.specs.Layout.{mark_size, plan_size, mark_of, mark_at, size_of, offset, mark, entry_of, entry_at}
use Rattle.layout.specs.declared.Mark.{Mark}
use Rattle.layout.specs.declared.Mark.TheVariants.{UnitMark, RedesignationMark, BreakMark}

pub size_ge : (m : Option Mark) → mark_size ≤ size_of m
unfolding size_of
size_ge (Some UnitMark) = lit< tt
size_ge (Some RedesignationMark) = lit< tt
size_ge (Some BreakMark) = lit< tt
size_ge None = lit< tt

-- a record ends before a later one begins
pub offset_lt : (bytes : List ℕ) (i j : ℕ) → i < j → offset bytes i + size_of (mark bytes i) ≤ offset bytes j
unfolding offset
offset_lt bytes i zero h = absurd (omega arith)
offset_lt bytes i (suc j) h = go (eq-or-lt_of_le (le_of_suc-le-suc h)) (offset_lt bytes i j)
  where
    go : (i ≡ j) ⊎ (i < j) → (i < j → offset bytes i + size_of (mark bytes i) ≤ offset bytes j)
        → offset bytes i + size_of (mark bytes i) ≤ offset bytes j + size_of (mark bytes j)
    go (inl same) earlier = rw same (omega arith)
    go (inr less) earlier = omega (arith, earlier less)

-- a record at a smaller offset is an earlier one, and one at the same offset the same
pub offset_order : (bytes : List ℕ) (i j : ℕ) → offset bytes i < offset bytes j → i < j
offset_order bytes i j h = go (ltb i j) refl (ltb j i) refl
  where
    go : (t : Bool) → ltb i j ≡ t → (t' : Bool) → ltb j i ≡ t' → i < j
    go true e t' e' = ltb-true i j e
    go false e true e' = absurd (omega (arith, offset_lt bytes j i (ltb-true j i e')))
    go false e false e' =
        let same : i ≡ j = omega (arith, ltb-false i j e, ltb-false j i e') in absurd (omega (arith, ap (offset bytes) same))

pub offset_same : (bytes : List ℕ) (i j : ℕ) → offset bytes i ≡ offset bytes j → i ≡ j
offset_same bytes i j h = go (ltb i j) refl (ltb j i) refl
  where
    go : (t : Bool) → ltb i j ≡ t → (t' : Bool) → ltb j i ≡ t' → i ≡ j
    go true e t' e' = absurd (omega (arith, offset_lt bytes i j (ltb-true i j e), size_ge (mark bytes i)))
    go false e true e' = absurd (omega (arith, offset_lt bytes j i (ltb-true j i e'), size_ge (mark bytes j)))
    go false e false e' = omega (arith, ltb-false i j e, ltb-false j i e')

pub offset_ge : (bytes : List ℕ) (i : ℕ) → plan_size + mark_size * i ≤ offset bytes i
unfolding offset
offset_ge bytes zero = lit< tt
offset_ge bytes (suc i) = omega (arith, offset_ge bytes i, size_ge (mark bytes i))

-- ---- behind the end of the sheet

past_byte : (bytes : List ℕ) (at : ℕ) → length bytes ≤ at → byte bytes at ≡ 0
past_byte bytes at h = get_or-eq_default bytes 0 {n = at} h

-- where fewer than two bytes are left there is no mark: none ends in the byte 0
pub short_mark : (bytes : List ℕ) (at : ℕ) → length bytes < at + mark_size → mark_at bytes at ≡ None
unfolding mark_at mark_of pick
short_mark bytes at h =
    let low : byte bytes (at + 1) ≡ 0 = past_byte bytes (at + 1) (omega arith) in
    rw (
      ne_eqb (number bytes at) 0x5355 (λ e. omega arith),
      ne_eqb (number bytes at) 0x5244 (λ e. omega arith),
      ne_eqb (number bytes at) 0x424B (λ e. omega arith),
    )

module _ (bytes : List ℕ) (n : ℕ) (end : offset bytes n ≡ length bytes) where
  past_end : (i : ℕ) → n ≤ i → length bytes ≤ offset bytes i
  past_end i h = go (eq-or-lt_of_le h)
    where
      go : (n ≡ i) ⊎ (n < i) → length bytes ≤ offset bytes i
      go (inl same) = omega (arith, ap (offset bytes) same)
      go (inr less) = omega (arith, offset_lt bytes n i less)

  past_mark : (i : ℕ) → n ≤ i → mark bytes i ≡ None
  past_mark i h = short_mark bytes (offset bytes i) (omega (arith, past_end i h))

  -- a break stands in
  pub past_entry : (i : ℕ) → n ≤ i → entry_at bytes i ≡ Break
  unfolding entry_at entry_of
  past_entry i h = rw (past_mark i h)

  -- only a record of the sheet has a mark
  inside_records : (i : ℕ) → (mark bytes i ≡ None → ⊥) → i < n
  inside_records i marked = go (leb n i) refl
    where
      go : (test : Bool) → leb n i ≡ test → i < n
      go true e = absurd (marked (past_mark i (leb-true n i e)))
      go false e = leb-false n i e

  pub inside_unit : (i : ℕ) → mark bytes i ≡ Some UnitMark → i < n
  inside_unit i e = inside_records i (λ none. cc)

  pub inside_redesignation : (i : ℕ) → mark bytes i ≡ Some RedesignationMark → i < n
  inside_redesignation i e = inside_records i (λ none. cc)

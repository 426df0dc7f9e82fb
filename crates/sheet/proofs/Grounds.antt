-- The grounds of refusal one by one: what a refusal of 0 says, and how the code tests them.
-- By cases on the test of a ground, and on the mark.
use Prim.Native.Nat.{ℕ, ◌+◌, ◌*◌, ◌≤◌, ◌<◌}
use mathlib.Core.Path.{◌≡◌, refl, sym, ◌∙◌, ap}
use mathlib.Core.Bool.{Bool, true, false, ◌||◌}
use mathlib.Core.List.{List}
use Rattle.std.proofs.Common.{Option, Some, None}
use native.Mathlib.Omega.{arith}
use lib.Dec.{ltb, lit<}
use lib.ListN.{length}
use borrow.Author.Tests.{ltb-true, ltb-false}
use Rattle.units.proofs.Tests.{or_first}
use Rattle.units.specs.Words.{substandard, classes, cell_of, numbers_of, table_of}
use Rattle.units.specs.declared.Plan.{Plan}
use Rattle.layout.proofs.Offsets.{short_mark}
use Rattle.units.proofs.Classes.{cell_at}
use Rattle.layout.specs.Layout.{mark_size, plan_size, unit_size, redesignation_size, mark_at, size_of, offset, mark}
use Rattle.sheet.specs.Refusals.{refused_if, no_plan_record, smaller, smaller_in_class, plan_refusal, unit_refusal, redesignation_refusal, refusal_by, refusal_at, record_refusal}
use Rattle.layout.specs.declared.Mark.{Mark}
use Rattle.layout.specs.declared.Mark.TheVariants.{UnitMark, RedesignationMark, BreakMark}

-- a ground that is not met, and the grounds after it
pub ground_passed : (test : Bool) (number rest : ℕ) → 0 < number → refused_if test number rest ≡ 0 → (test ≡ false) × (rest ≡ 0)
unfolding refused_if
ground_passed true number rest positive e = absurd (omega arith)
ground_passed false number rest positive e = (refl, e)

-- a plan that is not refused is whole
pub plan_whole : (bytes : List ℕ) → plan_refusal bytes ≡ 0 → plan_size ≤ length bytes
unfolding plan_refusal no_plan_record
plan_whole bytes e =
    ltb-false (length bytes) plan_size (or_first _ _ (ground_passed (no_plan_record bytes) 1 _ (lit< tt) e).0)

-- the cells that the code compares in a class
pub smaller_at : (plan : Plan) (class : ℕ) → class < length classes
    → (smaller (cell_of plan class) (cell_of plan (length classes + class))
    || smaller (cell_of plan (length classes + class)) (cell_of plan (2 * length classes + class)))
    ≡ smaller_in_class plan class
unfolding smaller_in_class
smaller_at plan class h =
    let cell : (grade at : ℕ) → grade < substandard → at ≡ length classes * grade + class
    → cell_of plan at ≡ numbers_of (table_of plan) grade class
    = λ grade at g e. ap (cell_of plan) e ∙ sym (cell_at plan grade class g h) in
    rw (
      cell 0 class (lit< tt) (omega arith),
      cell 1 (length classes + class) (lit< tt) (omega arith),
      cell 2 (2 * length classes + class) (lit< tt) (omega arith),
    )

no_mark : (bytes : List ℕ) (at units designated : ℕ) → mark_at bytes at ≡ None → refusal_by bytes at units designated (mark_at bytes at) ≡ 6
unfolding refusal_by
no_mark bytes at units designated e = rw e

-- where one byte is left there is no mark, and the ground is the same
pub refusal_by_mark : (bytes : List ℕ) (at units designated : ℕ)
    → refusal_by bytes at units designated (mark_at bytes at) ≡ refusal_at bytes at units designated
unfolding refusal_at refused_if
refusal_by_mark bytes at units designated = go (ltb (length bytes) (at + mark_size)) refl
  where
    go : (test : Bool) → ltb (length bytes) (at + mark_size) ≡ test
        → refusal_by bytes at units designated (mark_at bytes at) ≡ refused_if test 6 (refusal_by bytes at units designated (mark_at bytes at))
    go true e = no_mark bytes at units designated (short_mark bytes at (ltb-true (length bytes) (at + mark_size) e))
    go false e = refl

whole_by : (bytes : List ℕ) (at units designated : ℕ) (m : Option Mark) → at + mark_size ≤ length bytes
    → refusal_by bytes at units designated m ≡ 0 → at + size_of m ≤ length bytes
unfolding refusal_by unit_refusal redesignation_refusal size_of
whole_by bytes at units designated (Some UnitMark) marked e =
    ltb-false (length bytes) (at + unit_size) (ground_passed _ 7 _ (lit< tt) e).0
whole_by bytes at units designated (Some RedesignationMark) marked e =
    ltb-false (length bytes) (at + redesignation_size) (ground_passed _ 7 _ (lit< tt) e).0
whole_by bytes at units designated (Some BreakMark) marked e = marked
whole_by bytes at units designated None marked e = marked

-- a record that is not refused is whole
pub whole_record : (bytes : List ℕ) (i : ℕ) → record_refusal bytes i ≡ 0 → offset bytes i + size_of (mark bytes i) ≤ length bytes
unfolding record_refusal refusal_at
whole_record bytes i e =
    let (marked, rest) = ground_passed (ltb (length bytes) (offset bytes i + mark_size)) 6 _ (lit< tt) e in
    whole_by bytes (offset bytes i) _ _ (mark bytes i) (ltb-false (length bytes) (offset bytes i + mark_size) marked) rest

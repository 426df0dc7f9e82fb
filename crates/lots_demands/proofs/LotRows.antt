-- Each row of the table against the test of its refusal, which tells exactly whether the row applies.
-- Where a number is listed by induction on the list; the AQLs by grade and class.
use Prim.Native.Nat.{ℕ, suc, ◌+◌, ◌*◌, ◌/◌, ◌%◌, ◌<◌}
use mathlib.Core.Path.{◌≡◌, refl, sym, ◌∙◌, ap, subst, subst⁻¹}
use mathlib.Core.Bool.{Bool, true, false, cond}
use mathlib.Core.List.{List, [], ◌∷◌}
use mathlib.Core.Logic.{◌⊎◌, inl, inr}
use native.Mathlib.Omega.{arith}
use lib.Dec.{eqb}
use lib.ListN.{length}
use borrow.Author.Tests.{eqb-true, eqb-false}
use Rattle.encoding.specs.Bytes.{number}
use Rattle.units.specs.Conditions.{any, place_of}
use Rattle.grounds.specs.Tells.{Tells}
use Rattle.grounds.proofs.Tells.{tells_lt, tells_eq, tells_as, tells_not, tells_or, tells_any}
use Rattle.lots.specs.Layout.{classes, kinds, cells, sample_units, aql_of_cell, aql_of, count_of_kind}
use Rattle.lots.specs.Acceptance.{listed_sample_units, listed_aqls}
use Rattle.lots.specs.Refusals.{no_lot_mark, not_among, is_unlisted, aql_falls_in_class, count_too_large}
use Rattle.lots_demands.specs.LotFields.{aql_at}
use Rattle.lots_demands.specs.LotTable.{OneOf, ListedAql}
use Rattle.lots_demands.specs.LotGrounds.{NoLotMark, UnlistedSampleUnits, UnlistedAql, FallingAql, CountAbove}
use Rattle.lots_demands.proofs.LotFields.{aql_is, count_is}

-- ---- a number that is not listed has no place before the end

not_there_holds : (list : List ℕ) (value : ℕ) → place_of list value ≡ length list → OneOf list value → ⊥
unfolding place_of
not_there_holds [] value end one = elim one [ ]
not_there_holds (first ∷ others) value end one = go (eqb first value) refl (not_there_holds others value) end one
  where
    go : (same : Bool) → eqb first value ≡ same → (place_of others value ≡ length others → OneOf others value → ⊥)
        → cond same 0 (suc (place_of others value)) ≡ suc (length others) → (value ≡ first) ⊎ OneOf others value → ⊥
    go true e later end one = omega arith
    go false e later end (inl is) = eqb-false first value e (sym is)
    go false e later end (inr one) = later (omega arith) one

no_place : (list : List ℕ) (value : ℕ) → (OneOf list value → ⊥) → place_of list value ≡ length list
unfolding place_of
no_place [] value none = refl
no_place (first ∷ others) value none = go (eqb first value) refl (no_place others value (λ one. none (inr one)))
  where
    go : (same : Bool) → eqb first value ≡ same → place_of others value ≡ length others
        → cond same 0 (suc (place_of others value)) ≡ suc (length others)
    go true e later = absurd (none (inl (sym (eqb-true first value e))))
    go false e later = ap suc later

tells_not_among : (list : List ℕ) (value : ℕ) → Tells (not_among list value) (OneOf list value → ⊥)
unfolding not_among
tells_not_among list value = tells_as (not_there_holds list value) (no_place list value) (tells_eq (place_of list value) (length list))

-- ---- the rows

module _ (lot : List ℕ) where
  pub tells_6 : Tells (no_lot_mark lot) (NoLotMark lot)
  unfolding no_lot_mark
  tells_6 = tells_or (tells_lt (length lot) 2) (tells_not (tells_eq (number lot 0) 0x4C54))

  pub tells_20 : Tells (not_among listed_sample_units (sample_units lot)) (UnlistedSampleUnits lot)
  tells_20 = tells_not_among listed_sample_units (sample_units lot)

  pub tells_21 : Tells (any (is_unlisted lot) cells) (UnlistedAql lot)
  unfolding is_unlisted
  tells_21 = tells_as to from (tells_any (length cells) _ _ (λ cell inside. tells_not_among listed_aqls (aql_of_cell lot cell)))
    where
      to : (cell : ℕ) × (cell < length cells) × (ListedAql (aql_of_cell lot cell) → ⊥) → UnlistedAql lot
      to (cell, inside, unlisted) =
          let grade = cell / 4 in
          let class = cell % 4 in
          let same : cell ≡ 4 * grade + class = omega arith in
          record {
            grade = grade;
            class = class;
            is_grade = omega arith;
            is_class = omega arith;
            unlisted = λ listed. unlisted (subst ListedAql (aql_is lot grade class ∙ ap (aql_of_cell lot) (sym same)) listed);
          }

      from : UnlistedAql lot → (cell : ℕ) × (cell < length cells) × (ListedAql (aql_of_cell lot cell) → ⊥)
      from found =
          let grade = found.grade in
          let class = found.class in (
            4 * grade + class,
            omega (arith, found.is_grade, found.is_class),
            λ listed. found.unlisted (subst⁻¹ ListedAql (aql_is lot grade class) listed),
          )

  pub tells_22 : Tells (any (aql_falls_in_class lot) classes) (FallingAql lot)
  unfolding aql_falls_in_class
  tells_22 =
      tells_as
      (λ (class, inside, falls). record { class = class; is_class = inside; falls = in_bytes class falls })
      (λ found. (found.class, found.is_class, in_fields found.class found.falls))
      (tells_any (length classes) _ _
      (λ class inside. tells_or (tells_lt (aql_of lot 1 class) (aql_of lot 0 class)) (tells_lt (aql_of lot 2 class) (aql_of lot 1 class))))
    where
      in_bytes : (class : ℕ) → (aql_of lot 1 class < aql_of lot 0 class) ⊎ (aql_of lot 2 class < aql_of lot 1 class)
          → (aql_at lot 1 class < aql_at lot 0 class) ⊎ (aql_at lot 2 class < aql_at lot 1 class)
      in_bytes class falls = rw (aql_is lot 0 class, aql_is lot 1 class, aql_is lot 2 class) falls

      in_fields : (class : ℕ) → (aql_at lot 1 class < aql_at lot 0 class) ⊎ (aql_at lot 2 class < aql_at lot 1 class)
          → (aql_of lot 1 class < aql_of lot 0 class) ⊎ (aql_of lot 2 class < aql_of lot 1 class)
      in_fields class falls = rw (aql_is lot 0 class, aql_is lot 1 class, aql_is lot 2 class) at falls

  pub tells_8 : Tells (any (count_too_large lot) kinds) (CountAbove lot)
  unfolding count_too_large
  tells_8 =
      tells_as
      (λ (kind, inside, above). record { kind = kind; is_kind = inside; above = omega (arith, count_is lot kind) })
      (λ found. (found.kind, found.is_kind, omega (arith, found.above, count_is lot found.kind)))
      (tells_any (length kinds) _ _ (λ kind inside. tells_lt 2000 (count_of_kind lot kind).0))

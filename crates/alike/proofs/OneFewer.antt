-- Two sheets that differ in one byte of a count, which is smaller in the first, are alike, and no count in the first exceeds its fellow.
-- Bytes other than the one that differs by the law of a store.
use Prim.Native.Nat.{ℕ, ◌+◌, ◌≤◌, ◌<◌}
use mathlib.Core.Path.{◌≡◌, refl, sym, subst, ◌∙◌, ap}
use mathlib.Core.Bool.{Bool, true, false}
use mathlib.Core.List.{List}
use native.Mathlib.Omega.{arith}
use lib.Dec.{eqb}
use lib.ListN.{length, set, length-set}
use lib.Seq.{get_or-set_same, get_or-set_other}
use borrow.Author.Tests.{eqb-true, eqb-false}
use Rattle.encoding.specs.Bytes.{byte}
use Rattle.layout.specs.Layout.{count_offset, offset}
use Rattle.alike.specs.Alike.{InCount, Alike, NoMore}

module _ (bytes bytes' : List ℕ) (place fewer : ℕ) (stored : bytes ≡ set bytes' place fewer)
    (inside : place < length bytes') (less : fewer < byte bytes' place) (in_count : InCount bytes place) where
  here : byte bytes place ≡ fewer
  here = ap (λ (s : List ℕ). byte s place) stored ∙ get_or-set_same bytes' place fewer 0 inside

  elsewhere : (at : ℕ) → (at ≡ place → ⊥) → byte bytes at ≡ byte bytes' at
  elsewhere at other = ap (λ (s : List ℕ). byte s at) stored ∙ get_or-set_other bytes' place at fewer 0 other

  pub alike_but_place : Alike bytes bytes'
  alike_but_place =
      record {
        same_length = ap length stored ∙ simp length-set;
        same_bytes = λ at out. elsewhere at (λ same. out (subst (InCount bytes) (sym same) in_count));
      }

  no_larger : (at : ℕ) → byte bytes at ≤ byte bytes' at
  no_larger at = go (eqb at place) refl
    where
      go : (test : Bool) → eqb at place ≡ test → byte bytes at ≤ byte bytes' at
      go true e = rw (eqb-true at place e) (omega (arith, here, less))
      go false e = omega (arith, elsewhere at (eqb-false at place e))

  pub no_more_but_place : NoMore bytes bytes'
  no_more_but_place i kind at a_kind =
      let count = offset bytes i + count_offset kind in
      omega (arith, no_larger count, no_larger (count + 1))

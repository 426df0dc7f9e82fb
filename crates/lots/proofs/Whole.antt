-- A lot that is not refused is whole.
use Prim.Native.Nat.{ℕ}
use mathlib.Core.Path.{◌≡◌}
use mathlib.Core.List.{List}
use lib.Dec.{eqb, lit<}
use lib.ListN.{length}
use borrow.Author.Tests.{eqb-true, not-false}
use Rattle.sheet.proofs.Grounds.{ground_passed}
use Rattle.lots.specs.Layout.{lot_size}
use Rattle.lots.specs.Refusals.{no_lot_mark, lot_refusal}

pub lot_whole : (lot : List ℕ) → lot_refusal lot ≡ 0 → length lot ≡ lot_size
unfolding lot_refusal
lot_whole lot passed =
    let marked = (ground_passed (no_lot_mark lot) 6 _ (lit< tt) passed).1 in
    eqb-true (length lot) lot_size (not-false (eqb (length lot) lot_size) (ground_passed _ 7 _ (lit< tt) marked).0)

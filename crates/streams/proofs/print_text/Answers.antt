-- The text that is made stands first in the room.
use Rattle.std.proofs.Common.{◌≡◌, ℕ, List, rules, length, take, drop, sym, ap, ◌∙◌, length-take-le}
use Rattle.std.proofs.Math.Seq.{take-append_seam}
use Rattle.text.specs.Text.{Printing, leaving}
use Rattle.text.proofs.Printed.{text_inside}
use Rattle.streams.proofs.print_text.Goals as goal

-- what is printed, in the room that is left
text_taken : (text before : List ℕ) {after : List ℕ} {end : ℕ}
    → ◌≡◌ {A = Printing} (record { size = end; text = after }) (leaving text before) → take end after ≡ text
unfolding leaving
text_taken text before {after} {end} promise =
    let size = ap (λ (given : Printing). given.size) promise in
    let whole = ap (λ (given : Printing). given.text) promise in
    ap (λ n. take n after) size ∙ ap (take (length text)) whole ∙ take-append_seam text (drop (length text) before)

pub slice_bounds-write_all-end : goal.slice_bounds-write_all-end
slice_bounds-write_all-end g c =
    let (text, made) = c.requires.made in
    let inside = text_inside text _ (made c.make-end.new.arg2 c.make-end.result (search rules)) in
    rw c.as_slice.ensures (sym (length-take-le c.make-end.result (g.T.AsSlice.items c.make-end.new.arg2) inside))

pub returns : goal.returns
returns g c = λ text made.
    let whole = text_taken text _ (made c.make-end.new.arg2 c.make-end.result (search rules)) in
    rw (← whole, ← c.as_slice.ensures) c.write_all.ensures.bytes

-- Texts written one behind the other are one text; and a text on a page that was empty stands first in the caller's bytes.
use Rattle.std.proofs.Common.{◌≡◌, ℕ, ◌+◌, List, [], ◌++◌, length, take, drop, refl, sym, ap, ◌∙◌, append_assoc, append-nil, add-one, arith, length-append, length-take-le}
use Rattle.std.proofs.lemmas.List.{drop-drop, take-append-drop}
use Rattle.text.specs.declared.page.Page.{Page}
use Rattle.text.specs.Text.{lines_by, Printing, leaving}
use Rattle.text.specs.Wrote.{written, behind, Wrote}

pub joined : {before middle after : Page} {first second : List ℕ}
    → Wrote before first middle → Wrote middle second after → Wrote before (first ++ second) after
joined {before} {first = first} {second} one other =
    record {
      same_bytes = other.same_bytes ∙ one.same_bytes;
      holds = other.holds ∙ rw one.holds (append_assoc (written before) first second);
      kept = other.kept ∙ rw (one.kept, length-append first second) (drop-drop (length second) (length first) (behind before));
      room = omega (arith, one.room, other.room, length-append first second);
    }

pub nothing_written : (page : Page) → Wrote page [] page
nothing_written page =
    record {
      same_bytes = refl;
      holds = sym (append-nil (written page));
      kept = refl;
      room = omega arith;
    }

-- the lines of one unit more
pub lines_more : (line : ℕ → List ℕ) (units : ℕ) → lines_by line (units + 1) ≡ lines_by line units ++ line units
unfolding lines_by
lines_more line units = rw add-one

-- what is written, in front of the bytes behind it
pub whole_text : (printed : List ℕ) {before after : Page} → before.size ≡ 0 → Wrote before printed after
    → ◌≡◌ {A = Printing} (record { size = after.size; text = after.text.now }) (leaving printed before.text.now)
unfolding leaving
whole_text printed {before} {after} empty wrote =
    let front : take after.size after.text.now ≡ printed = wrote.holds ∙ rw empty in
    let rest : drop after.size after.text.now ≡ drop (length printed) before.text.now = wrote.kept ∙ rw empty in
    let size : after.size ≡ length printed = sym (length-take-le after.size after.text.now after.inside) ∙ ap length front in
    rw (← take-append-drop after.size after.text.now, front, rest, size)

-- What a turn reads stands behind what was read before it, so what was read is still what the input lost.
use Rattle.std.proofs.Common.{◌≡◌, ℕ, ◌+◌, ◌-◌, ◌≤◌, List, ◌++◌, rules, length, take, sym, ap, ◌∙◌, subst, length-take-le}
use Rattle.std.proofs.Math.Seq.{take-append-add}
use Rattle.std.proofs.lemmas.List.{take-append-le}
use Rattle.std.specs.Io.KnownBytes.{Consumes}
use Rattle.std.proofs.KnownBytes.{Consumes-trans}
use borrow.Rule.Slice.PartMut.{put_mid, post_of}
use Rattle.streams.proofs.read_input.Goals as goal

-- what stood before a part of the room, and the first n bytes of what was written there
taken_on : (at size n : ℕ) (room part : List ℕ) → at ≤ length room → n ≤ length part
    → take at room ++ take n part ≡ take (at + n) (put_mid at size room part)
taken_on at size n room part within fits =
    let before = take at room in
    let behind = part ++ post_of at size room in
    sym (
    ap (λ start. take (start + n) (before ++ behind)) (sym (length-take-le at room within))
    ∙ take-append-add before behind n
    ∙ ap (λ more. before ++ more) (take-append-le n part (post_of at size room) fits)
    )

pub loop-bytes-preserved : goal.loop-bytes-preserved
loop-bytes-preserved g c =
    let bytes = c.loop-bytes.bytes in
    let room = c.loop-bytes.room in
    let read = c.in_ok-more.ensures in
    let whole = taken_on bytes (length room - bytes) c.in_ok-more.more room c.read.new.buf c.loop-bytes.invariant.0 read.bound.0 in (
      search rules,
      search rules,
      subst (Consumes _ _) whole (Consumes-trans _ _ _ _ _ c.loop-bytes.invariant.2 read.bytes.0),
    )

-- How a loop over the records follows `check_from`: what it knows at a place, and what each of its ways out answers.
-- From one step of `check_from`; the length of the sheet is enough, as a record has two bytes or more.
use Prim.Native.Nat.{ℕ, suc, ◌+◌, ◌-◌, ◌≤◌, ◌<◌}
use mathlib.Core.Path.{◌≡◌, refl, sym, ◌∙◌, ap, ap₂, subst⁻¹}
use mathlib.Core.List.{List}
use Rattle.std.proofs.Common.{Option, None}
use native.Mathlib.Nat.{sub-zero}
use native.Mathlib.Omega.{arith}
use native.Mathlib.Numerals.{add-one}
use lib.ListN.{length}
use Rattle.encoding.specs.Bytes.{byte}
use Rattle.units.specs.Records.{designated_by}
use Rattle.layout.specs.Layout.{mark_size, grade_offset, plan_size, plan_of, mark_at, size_of, entry_of, entry_at, offset, units_before}
use Rattle.layout.specs.Walk.{first_place, place_at, place_after, Walk, largest_offset, RoomPast}
use Rattle.layout.specs.declared.Mark.{Mark}
use Rattle.layout.specs.declared.Place.{Place}
use Rattle.layout.proofs.Offsets.{size_ge, short_mark}
use Rattle.layout.proofs.Walk.{walk_first, walk_longer, at_is, units_are, whole_here, next_place, room_past}
use Rattle.sheet.specs.Refusals.{refusal_by, designated_before, record_refusal, check_from}
use Rattle.sheet.specs.Verdict.{Accepted, Refused}
use Rattle.sheet.proofs.LeftToRight.{check_done, check_more, check_refused}
use Rattle.sheet.proofs.Accepted.{offset_further}
use Rattle.sheet.proofs.Grounds.{refusal_by_mark, whole_record}

-- ---- the loop

-- the place of the next record, the records before it whole, and the grade designated before it
pub record Stands (bytes : List ℕ) (place : Place) (designated : ℕ) : Type 0 where
  pub walk : Walk bytes place.index place
  pub within : place.at ≤ length bytes
  pub designated_before_holds : designated ≡ designated_before bytes place.index
  pub still : check_from bytes (length bytes) 0 ≡ check_from bytes (length bytes - place.index) place.index

-- past the record at a place, with its mark, if it is not refused
pub record GoesOn (bytes : List ℕ) (place : Place) (designated : ℕ) (mark : Option Mark) : Type 0 where
  pub whole : place.at + size_of mark ≤ length bytes
  pub room : length bytes ≤ largest_offset → RoomPast place mark
  pub less : (later : Place) → later ≡ place_after place mark → length bytes - later.at < length bytes - place.at
  pub on : (later : Place) (behind : ℕ) → later ≡ place_after place mark → behind ≡ designated_by designated (entry_of bytes place.at mark)
      → Stands bytes later behind

-- behind the plan
pub stands_first : (bytes : List ℕ) → plan_size ≤ length bytes → (place : Place) → place ≡ first_place
    → Stands bytes place (byte bytes grade_offset)
unfolding designated_before plan_of
stands_first bytes h place e =
    subst⁻¹ (λ (p : Place). Stands bytes p (byte bytes grade_offset)) e
    (record {
      walk = walk_first bytes 0 (λ j none. absurd (omega arith));
      within = h;
      designated_before_holds = refl;
      still = ap (λ (most : ℕ). check_from bytes most 0) (sym (sub-zero (length bytes)));
    })

module _ (bytes : List ℕ) (place : Place) (designated : ℕ) (stands : Stands bytes place designated) where
  abbrev i : ℕ
  i = place.index

  at_offset : place.at ≡ offset bytes i
  at_offset = at_is bytes i place stands.walk

  units_before_holds : place.units ≡ units_before bytes i
  units_before_holds = units_are bytes i place stands.walk

  pub stands_done : length bytes ≤ place.at → Accepted i place.units ≡ check_from bytes (length bytes) 0
  stands_done h =
      ap (Accepted i) units_before_holds ∙ sym (stands.still ∙ check_done _ _ _ _ _ (length bytes - i) i (omega (arith, at_offset)))

  module _ (h : place.at < length bytes) (mark : Option Mark) (is_mark : mark ≡ mark_at bytes place.at)
      (number : ℕ) (e : number ≡ refusal_by bytes place.at place.units designated mark) where
    before_end : offset bytes i < length bytes
    before_end = omega (arith, at_offset)

    refusal_here : number ≡ record_refusal bytes i
    unfolding record_refusal
    refusal_here =
        e
        ∙ ap (refusal_by bytes place.at place.units designated) is_mark
        ∙ refusal_by_mark bytes place.at place.units designated
        ∙ rw (at_offset, units_before_holds, stands.designated_before_holds)

    pub stands_refused : (number ≡ 0 → ⊥) → Refused number place.at ≡ check_from bytes (length bytes) 0
    stands_refused refused =
        ap₂ Refused refusal_here at_offset
        ∙ sym (stands.still ∙ check_refused _ _ _ _ _ (offset_further bytes) i before_end (λ zero_here. refused (refusal_here ∙ zero_here)))

    module _ (passed : number ≡ 0) where
      -- the walk over one record more
      longer : Walk bytes (suc i) place
      longer = walk_longer bytes i place stands.walk (whole_record bytes i (sym refusal_here ∙ passed))

      on : (later : Place) (behind : ℕ) → later ≡ place_after place mark → behind ≡ designated_by designated (entry_of bytes place.at mark)
          → Stands bytes later behind
      unfolding offset designated_before entry_at
      on later behind p q =
          let there : later ≡ place_at bytes (suc i)
          = p ∙ ap (place_after place) is_mark ∙ next_place bytes (suc i) place longer (omega arith) ∙ ap (place_at bytes) (add-one i) in
          subst⁻¹ (λ (x : Place). Stands bytes x behind) there
          (record {
            walk = record { whole = longer.whole; inside = omega arith; here = refl };
            within = longer.whole i (omega arith);
            designated_before_holds = q ∙ rw (is_mark, at_offset, stands.designated_before_holds);
            still = stands.still ∙ check_more _ _ _ _ _ (offset_further bytes) i before_end (sym refusal_here ∙ passed);
          })

      pub stands_on : GoesOn bytes place designated mark
      stands_on =
          record {
            whole = rw is_mark (whole_here bytes (suc i) place longer (omega arith));
            room = λ fits. rw is_mark (room_past bytes (suc i) place longer (omega arith) fits);
            less = λ later p. omega (arith, ap (λ (x : Place). x.at) p, size_ge mark);
            on = on;
          }

  -- where one byte is left, there is no mark
  pub stands_short : place.at < length bytes → length bytes < place.at + mark_size → Refused 6 place.at ≡ check_from bytes (length bytes) 0
  unfolding refusal_by
  stands_short h short =
      stands_refused h None (sym (short_mark bytes place.at short)) 6 refl (λ e. omega arith)

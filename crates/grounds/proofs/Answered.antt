-- The first record that is refused, as the check finds it. Only one record is: of two, neither is before the other; that follows from the
-- statement alone, and would not from a weaker one. An answer and its buffer, from what is known of a refusal and of an acceptance.
use Prim.Native.Nat.{ℕ, ◌*◌, ◌≤◌, ◌<◌}
use mathlib.Core.Path.{◌≡◌, refl, sym, ◌∙◌, ap, subst⁻¹}
use mathlib.Core.Bool.{Bool, true, false}
use mathlib.Core.List.{List}
use native.Mathlib.Omega.{arith}
use lib.Dec.{ltb, eqb}
use lib.ListN.{length, drop}
use borrow.Author.Tests.{ltb-true, ltb-false, eqb-true, eqb-false}
use Rattle.outcome.specs.declared.Answer.{Answer}
use Rattle.sheet.proofs.LeftToRight.{Stops}
use Rattle.grounds.specs.Answered.{StoppedAt, AnswerAndBuffer}

pub stopped : (end : ℕ) (offset refusal : ℕ → ℕ) (number at : ℕ) → Stops end offset refusal number at → StoppedAt offset refusal end number at
stopped end offset refusal number at stops =
    record {
      stop = stops.stop;
      at_mark = stops.at_offset;
      inside = subst⁻¹ (λ (place : ℕ). place < end) stops.at_offset stops.inside;
      refused_by = stops.refused_by;
      earlier = stops.earlier;
    }

pub one_stop : (offset refusal : ℕ → ℕ) (end number at number' at' : ℕ) → (number ≡ 0 → ⊥) → (number' ≡ 0 → ⊥)
    → StoppedAt offset refusal end number at → StoppedAt offset refusal end number' at' → (number ≡ number') × (at ≡ at')
one_stop offset refusal end number at number' at' refused refused' one other =
    let stops = same (ltb one.stop other.stop) refl (ltb other.stop one.stop) refl in
    (one.refused_by ∙ ap refusal stops ∙ sym other.refused_by, one.at_mark ∙ ap offset stops ∙ sym other.at_mark)
  where
    same : (less : Bool) → ltb one.stop other.stop ≡ less → (more : Bool) → ltb other.stop one.stop ≡ more → one.stop ≡ other.stop
    same true l more m = absurd (refused (one.refused_by ∙ other.earlier one.stop (ltb-true _ _ l)))
    same false l true m = absurd (refused' (other.refused_by ∙ one.earlier other.stop (ltb-true _ _ m)))
    same false l false m = omega (arith, ltb-false one.stop other.stop l, ltb-false other.stop one.stop m)

-- what is known of an accepted sheet
pub record AcceptedWith (size units : ℕ) (buffer : List ℕ) (answer : Answer) (results : List ℕ) : Type 0 where
  pub counted : answer.units ≡ units
  pub room : size * units ≤ length buffer
  pub rest : drop (size * answer.units) results ≡ drop (size * answer.units) buffer
  pub same_length : length results ≡ length buffer

pub answer_and_buffer : {size units : ℕ} {Listed : Answer → Type 0} (buffer : List ℕ) (answer : Answer) (results : List ℕ) → Listed answer
    → ((answer.number ≡ 0 → ⊥) → (results ≡ buffer) × (answer.units ≡ 0))
    → (answer.number ≡ 0 → AcceptedWith size units buffer answer results)
    → AnswerAndBuffer size Listed units buffer answer results
answer_and_buffer {size} buffer answer results listed refused accepted =
    record {
      listed = listed;
      refused_units = λ other. (refused other).1;
      refused_buffer = λ other. (refused other).0;
      accepted_units = λ none. (accepted none).counted;
      accepted_room = λ none. subst⁻¹ (λ (k : ℕ). size * k ≤ length buffer) (accepted none).counted (accepted none).room;
      accepted_rest = λ none. (accepted none).rest;
      same_length = go (eqb answer.number 0) refl;
    }
  where
    go : (test : Bool) → eqb answer.number 0 ≡ test → length results ≡ length buffer
    go true e = (accepted (eqb-true answer.number 0 e)).same_length
    go false e = ap length (refused (eqb-false answer.number 0 e)).0

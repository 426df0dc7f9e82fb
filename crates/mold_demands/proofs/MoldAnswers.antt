-- Demand 1 for mold sheets: the answer is acceptance or a listed refusal, and which bytes of the buffer are kept. By the cases of the
-- outcome; numbers ground by ground.
use Prim.Native.Nat.{ℕ, ◌*◌}
use mathlib.Core.Path.{◌≡◌, refl, sym, ◌∙◌, ap, subst⁻¹}
use mathlib.Core.Bool.{Bool, true, false}
use mathlib.Core.List.{List, ◌++◌}
use mathlib.Core.Logic.{◌⊎◌, inl, inr}
use native.Mathlib.Omega.{arith}
use lib.ListN.{drop, length-append, length-drop}
use lib.Seq.{drop-append_seam}
use Rattle.outcome.specs.declared.Answer.{Answer}
use Rattle.outcome.specs.Outcome.{Outcome}
use Rattle.sheet.specs.Refusals.{refused_if}
use Rattle.grounds.specs.Answered.{AnswerAndBuffer}
use Rattle.grounds.proofs.Answered.{stopped}
use Rattle.mold.specs.Refusals.{opening_refusal, unit_refusal, record_refusal, checked}
use Rattle.mold.specs.Results.{result_size, written}
use Rattle.mold.proofs.Checking.{Facts, Says, checked_says}
use Rattle.mold.proofs.Written.{length_written}
use Rattle.mold_demands.specs.MoldAnswers.{MoldListed, accepted, by_opening, by_record, by_buffer, units_by_length, MoldAnswered}
use Rattle.mold.proofs.Accepted.{Case, by_check, without_room, graded, outcome_case}

-- ---- the numbers

-- a ground's number, or one of those after it
one_of : (P : ℕ → Type 0) (test : Bool) (number rest : ℕ) → P number → ((rest ≡ 0 → ⊥) → P rest) → (refused_if test number rest ≡ 0 → ⊥)
    → P (refused_if test number rest)
unfolding refused_if
one_of P true number rest here later other = here
one_of P false number rest here later other = later other

opening_number : (bytes : List ℕ) → (opening_refusal bytes ≡ 0 → ⊥) → (opening_refusal bytes ≡ 1) ⊎ (opening_refusal bytes ≡ 16)
unfolding opening_refusal
opening_number bytes =
    one_of (λ n. (n ≡ 1) ⊎ (n ≡ 16)) _ 1 _ (inl refl) (one_of (λ n. (n ≡ 1) ⊎ (n ≡ 16)) _ 16 _ (inr refl) (λ none. absurd (none refl)))

abbrev OfRecord : ℕ → Type 0
OfRecord n = ((n ≡ 6) ⊎ (n ≡ 7)) ⊎ ((n ≡ 12) ⊎ (n ≡ 17))

record_number : (bytes : List ℕ) (i : ℕ) → (record_refusal bytes i ≡ 0 → ⊥) → OfRecord (record_refusal bytes i)
unfolding unit_refusal
record_number bytes i =
    one_of OfRecord _ 6 _ (inl (inl refl))
    (one_of OfRecord _ 7 _ (inl (inr refl))
    (one_of OfRecord _ 12 _ (inr (inl refl))
    (one_of OfRecord _ 17 _ (inr (inr refl)) (λ none. absurd (none refl)))))

-- ---- the answer

module _ (bytes buffer : List ℕ) where
  listed_by : (answer : Answer) → (answer.number ≡ 0 → ⊥) → Says bytes answer → MoldListed bytes answer
  listed_by answer other (inl (is, facts)) = absurd (other (ap (λ (given : Answer). given.number) is))
  listed_by answer other (inr (refused, units, inl (in_opening, at_start_holds))) =
      by_opening (subst⁻¹ (λ (n : ℕ). (n ≡ 1) ⊎ (n ≡ 16)) in_opening (opening_number bytes (λ e. refused (in_opening ∙ e)))) in_opening at_start_holds
  listed_by answer other (inr (refused, units, inr (passed, stops))) =
      by_record (subst⁻¹ OfRecord stops.refused_by (record_number bytes stops.stop (λ e. refused (stops.refused_by ∙ e))))
      (stopped _ _ _ _ _ stops)

  no_units : (answer : Answer) → (answer.number ≡ 0 → ⊥) → Says bytes answer → answer.units ≡ 0
  no_units answer other (inl (is, facts)) = absurd (other (ap (λ (given : Answer). given.number) is))
  no_units answer other (inr (refused, units, which)) = units

  units_are : (units : ℕ) → Facts bytes units → units ≡ units_by_length bytes
  units_are units facts = omega (arith, facts.end)

  kept_behind : (units : ℕ) → drop (result_size * units) (written bytes units ++ drop (result_size * units) buffer) ≡ drop (result_size * units) buffer
  kept_behind units =
      ap (λ (n : ℕ). drop n (written bytes units ++ drop (result_size * units) buffer)) (sym (length_written bytes units))
      ∙ drop-append_seam (written bytes units) (drop (result_size * units) buffer)

  answered : (given : Outcome) → Case bytes buffer given
      → AnswerAndBuffer result_size (MoldListed bytes) (units_by_length bytes) buffer given.answer given.buffer
  answered given (by_check refused) =
      record {
        listed = listed_by (checked bytes) refused (checked_says bytes);
        refused_units = λ other. no_units (checked bytes) refused (checked_says bytes);
        refused_buffer = λ other. refl;
        accepted_units = λ none. absurd (refused none);
        accepted_room = λ none. absurd (refused none);
        accepted_rest = λ none. absurd (refused none);
        same_length = refl;
      }
  answered given (without_room units facts short) =
      record {
        listed = by_buffer refl refl;
        refused_units = λ other. refl;
        refused_buffer = λ other. refl;
        accepted_units = λ none. absurd (omega arith);
        accepted_room = λ none. absurd (omega arith);
        accepted_rest = λ none. absurd (omega arith);
        same_length = refl;
      }
  answered given (graded units facts room) =
      record {
        listed = accepted refl refl;
        refused_units = λ other. absurd (other refl);
        refused_buffer = λ other. absurd (other refl);
        accepted_units = λ none. units_are units facts;
        accepted_room = λ none. room;
        accepted_rest = λ none. kept_behind units;
        same_length = simp (length-append, length-drop, length_written bytes units) (omega arith);
      }

pub mold_answered : MoldAnswered
mold_answered bytes buffer answer results promise =
    subst⁻¹ (λ (given : Outcome). AnswerAndBuffer result_size (MoldListed bytes) (units_by_length bytes) buffer given.answer given.buffer) promise
    (answered bytes buffer _ (outcome_case bytes buffer))

-- Demand 1: the answer is acceptance or a listed refusal, and which bytes of the buffer are kept.
-- By the cases of the answer; the buffer by the laws of an accepted and of a refused sheet.
use Prim.Native.Nat.{ℕ}
use mathlib.Core.Path.{refl, subst⁻¹}
use mathlib.Core.List.{List}
use mathlib.Core.Logic.{inl, inr, ⊎_elim}
use Rattle.sheet.proofs.Listed.{refusal_listed}
use Rattle.grounds.proofs.Answered.{stopped, answer_and_buffer}
use Rattle.outcome.specs.declared.Answer.{Answer}
use Rattle.outcome.specs.Outcome.{Outcome}
use Rattle.tally.specs.Accepted.{AcceptedAs}
use Rattle.answers.specs.Demand1.{Listed, Demand1}
use Rattle.answers.proofs.Cases.{Case, by_check, without_room, with_room, outcome_case}
use Rattle.tally.proofs.AcceptedSheet.{accepted_sheet, refused_untouched, rest_untouched}

pub listed_case : (bytes buffer : List ℕ) {Passed : ℕ → Type 0} (answer : Answer) → Case bytes buffer Passed answer → Listed bytes answer
unfolding Listed
listed_case bytes buffer answer (by_check number at says) =
    ⊎_elim (λ of_plan. inr (inl of_plan)) (λ (from, to, stops). inr (inr (inl (from, to, stopped _ _ _ _ _ stops)))) (refusal_listed bytes number at says)
listed_case bytes buffer answer (without_room records passed short) = inr (inr (inr (refl, refl)))
listed_case bytes buffer answer (with_room records units passed counted room) = inl (refl, refl)

pub demand1 : Demand1
demand1 bytes buffer answer results promise =
    answer_and_buffer buffer answer results
    (subst⁻¹ (λ (given : Outcome). Listed bytes given.answer) promise (listed_case bytes buffer _ (outcome_case bytes buffer)))
    (refused_untouched bytes buffer answer results promise)
    (λ none.
    let accepted : AcceptedAs bytes buffer answer results = record { promise = promise; accepted = none } in
    let sheet = accepted_sheet bytes buffer answer results accepted in
    record {
      counted = sheet.answered_units;
      room = sheet.room;
      rest = rest_untouched bytes buffer answer results accepted;
      same_length = sheet.same_length;
    })

-- Demand 1 for regradings: 18 at offset 0 is listed, and every other case as for a grading; the buffer by the laws of an accepted and of a
-- refused regrading.
use Prim.Native.Nat.{ℕ}
use mathlib.Core.Path.{refl, subst⁻¹}
use mathlib.Core.List.{List}
use mathlib.Core.Logic.{inl, inr}
use Rattle.grounds.proofs.Answered.{answer_and_buffer}
use Rattle.outcome.specs.declared.Answer.{Answer}
use Rattle.outcome.specs.Outcome.{Outcome}
use Rattle.answers.proofs.Listed.{listed_case}
use Rattle.regrade.proofs.AcceptedRegrading.{accepted_regrading, refused_untouched, rest_untouched}
use Rattle.regrade_demands.specs.RegradeAccepted.{RegradedAs}
use Rattle.regrade_demands.specs.RegradeAnswers.{RegradeListed, RegradeAnswered}
use Rattle.regrade_demands.proofs.RegradeCases.{RegradeCase, wrong_plan, as_graded, regrade_case}

regrade_listed : (bytes plan buffer : List ℕ) (answer : Answer) → RegradeCase bytes plan buffer answer → RegradeListed bytes answer
regrade_listed bytes plan buffer answer (wrong_plan records facts wrong) = inr (refl, refl)
regrade_listed bytes plan buffer answer (as_graded by) = inl (listed_case bytes buffer answer by)

pub regrade_answered : RegradeAnswered
regrade_answered bytes plan buffer answer results promise =
    answer_and_buffer buffer answer results
    (subst⁻¹ (λ (given : Outcome). RegradeListed bytes given.answer) promise
    (regrade_listed bytes plan buffer _ (regrade_case bytes plan buffer)))
    (refused_untouched bytes plan buffer answer results promise)
    (λ none.
    let accepted : RegradedAs bytes plan buffer answer results = record { promise = promise; accepted = none } in
    let sheet = accepted_regrading bytes plan buffer answer results accepted in
    record {
      counted = sheet.answered_units;
      room = sheet.room;
      rest = rest_untouched bytes plan buffer answer results accepted;
      same_length = sheet.same_length;
    })

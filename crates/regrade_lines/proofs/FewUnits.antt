-- No sheet that is regraded into a buffer for the most units is answered with more units: an accepted one has room there, and a refusal
-- has none.
use Rattle.std.proofs.Common.{◌≡◌, ℕ, ◌≤◌, Bool, true, false, eqb, eqb-true, List, arith, refl}
use Rattle.std.proofs.lemmas.Bool.{eqb-false}
use Rattle.sheet.specs.Refusals.{most_units}
use Rattle.outcome.specs.declared.Answer.{Answer}
use Rattle.outcome.specs.Outcome.{Outcome}
use Rattle.regrade.specs.Outcome.{regrade_outcome}
use Rattle.regrade.proofs.AcceptedRegrading.{accepted_regrading, refused_untouched}
use Rattle.lines.specs.Lines.{empty_results}
use Rattle.lines.proofs.Printed.{units_inside}

pub few_units : (sheet plan : List ℕ) (answer : Answer) (results : List ℕ)
    → ◌≡◌ {A = Outcome} (record { answer = answer; buffer = results }) (regrade_outcome sheet plan empty_results) → answer.units ≤ most_units
few_units sheet plan answer results promise = go (eqb answer.number 0) refl
  where
    go : (test : Bool) → eqb answer.number 0 ≡ test → answer.units ≤ most_units
    go true accepted =
        let regraded = accepted_regrading sheet plan empty_results answer results (record { promise = promise; accepted = eqb-true _ _ accepted }) in
        units_inside answer.units (omega (arith, regraded.room, regraded.answered_units))
    go false refused = omega (arith, (refused_untouched sheet plan empty_results answer results promise (eqb-false _ _ refused)).1)

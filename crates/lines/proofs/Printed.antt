-- No sheet that is graded into a buffer for the most units is answered with more units: an accepted one has room there, and a refusal has
-- none.
use Rattle.std.proofs.Common.{◌≡◌, ℕ, ◌*◌, ◌≤◌, Bool, true, false, eqb, eqb-true, List, length, arith, refl}
use Rattle.std.proofs.lemmas.Bool.{eqb-false}
use lib.ListN.{length-replicate}
use Rattle.sheet.specs.Refusals.{most_units}
use Rattle.results.specs.Record.{result_size}
use Rattle.outcome.specs.declared.Answer.{Answer}
use Rattle.outcome.specs.Outcome.{Outcome}
use Rattle.tally.specs.Outcome.{outcome}
use Rattle.tally.proofs.AcceptedSheet.{accepted_sheet, refused_untouched}
use Rattle.lines.specs.Lines.{empty_results}

-- units with room for their records
pub units_inside : (units : ℕ) → result_size * units ≤ length empty_results → units ≤ most_units
unfolding empty_results
units_inside units room = omega (arith, room, length-replicate {A = ℕ} (result_size * most_units) 0)

pub few_units : (input : List ℕ) (answer : Answer) (results : List ℕ)
    → ◌≡◌ {A = Outcome} (record { answer = answer; buffer = results }) (outcome input empty_results) → answer.units ≤ most_units
few_units input answer results promise = go (eqb answer.number 0) refl
  where
    go : (test : Bool) → eqb answer.number 0 ≡ test → answer.units ≤ most_units
    go true accepted =
        let sheet = accepted_sheet input empty_results answer results (record { promise = promise; accepted = eqb-true _ _ accepted }) in
        units_inside answer.units (omega (arith, sheet.room, sheet.answered_units))
    go false refused = omega (arith, (refused_untouched input empty_results answer results promise (eqb-false _ _ refused)).1)

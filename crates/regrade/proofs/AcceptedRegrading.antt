-- What acceptance says of a regrading: of the sheet, of the second plan, of the answer and the result buffer; and that a refusal keeps the
-- buffer and counts no units. By what every grading leaves.
use Prim.Native.Nat.{ℕ, ◌*◌}
use mathlib.Core.Path.{◌≡◌, sym, ◌∙◌}
use mathlib.Core.List.{List}
use lib.ListN.{drop}
use Rattle.results.specs.Record.{result_size}
use Rattle.layout.specs.Layout.{plan_of}
use Rattle.single_plan.specs.SinglePlan.{result_under}
use Rattle.outcome.specs.declared.Answer.{Answer}
use Rattle.outcome.specs.Outcome.{Outcome, AcceptedBy}
use Rattle.tally.specs.Outcome.{records_in}
use Rattle.tally.proofs.Gradings.{AcceptedInto, accepted_leaves, refused_leaves}
use Rattle.regrade.specs.Regrading.{regraded_portion, regraded_code}
use Rattle.regrade.specs.Outcome.{sheet_under, second_plan_wrong, regraded_results, regrade_outcome}
use Rattle.regrade.proofs.Cases.{second_plan, is_graded}

-- what acceptance says, with the result records of the sheet under the second plan, which is right
abbrev pub AcceptedRegrading : List ℕ → List ℕ → List ℕ → Answer → List ℕ → Type 0
AcceptedRegrading bytes plan buffer answer results =
    let n = records_in bytes in
    AcceptedInto bytes buffer (second_plan_wrong plan) n (regraded_results (sheet_under bytes (plan_of plan) n)) answer results

pub accepted_regrading : (bytes plan buffer : List ℕ) (answer : Answer) (results : List ℕ)
    → AcceptedBy (λ sheet room. regrade_outcome sheet plan room) bytes buffer answer results
    → AcceptedRegrading bytes plan buffer answer results
unfolding regraded_code regraded_portion sheet_under result_under
accepted_regrading bytes plan buffer answer results accepted =
    accepted_leaves (second_plan bytes plan) bytes buffer answer results (accepted.promise ∙ sym (is_graded bytes plan buffer))
    accepted.accepted

-- a refusal leaves every byte of the buffer, and no units are counted
pub refused_untouched : (bytes plan buffer : List ℕ) (answer : Answer) (results : List ℕ)
    → ◌≡◌ {A = Outcome} (record { answer = answer; buffer = results }) (regrade_outcome bytes plan buffer)
    → (answer.number ≡ 0 → ⊥) → (results ≡ buffer) × (answer.units ≡ 0)
refused_untouched bytes plan buffer answer results promise =
    refused_leaves (second_plan bytes plan) bytes buffer answer results (promise ∙ sym (is_graded bytes plan buffer))

-- an accepted one changes only its result records: the bytes behind them are as before
pub rest_untouched : (bytes plan buffer : List ℕ) (answer : Answer) (results : List ℕ)
    → AcceptedBy (λ sheet room. regrade_outcome sheet plan room) bytes buffer answer results
    → drop (result_size * answer.units) results ≡ drop (result_size * answer.units) buffer
rest_untouched bytes plan buffer answer results accepted = (accepted_regrading bytes plan buffer answer results accepted).rest

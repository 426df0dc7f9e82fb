-- What acceptance says of a sheet, its answer and its result buffer; and that a refusal keeps the buffer and counts no units.
-- By what every grading leaves.
use Prim.Native.Nat.{ℕ, ◌*◌}
use mathlib.Core.Path.{◌≡◌, sym, ◌∙◌}
use mathlib.Core.Bool.{false}
use mathlib.Core.List.{List}
use lib.ListN.{drop}
use Rattle.results.specs.Record.{result_size}
use Rattle.rules.specs.Sheet.{portion_grade, code_grade}
use Rattle.recording.specs.Sheet.{sheet_of, result_with, result_of}
use Rattle.outcome.specs.declared.Answer.{Answer}
use Rattle.outcome.specs.Outcome.{Outcome}
use Rattle.tally.specs.Outcome.{results_of, outcome, records_in}
use Rattle.tally.specs.Accepted.{AcceptedAs, sheet_in}
use Rattle.tally.proofs.Gradings.{AcceptedInto, accepted_leaves, refused_leaves}
use Rattle.tally.proofs.Cases.{own_plan, is_graded}

-- what acceptance says, with the result records of the sheet
abbrev pub AcceptedSheet : List ℕ → List ℕ → Answer → List ℕ → Type 0
AcceptedSheet bytes buffer answer results = AcceptedInto bytes buffer false (records_in bytes) (results_of (sheet_in bytes)) answer results

pub accepted_sheet : (bytes buffer : List ℕ) (answer : Answer) (results : List ℕ)
    → AcceptedAs bytes buffer answer results → AcceptedSheet bytes buffer answer results
unfolding sheet_in sheet_of code_grade portion_grade result_of result_with
accepted_sheet bytes buffer answer results accepted =
    accepted_leaves (own_plan bytes) bytes buffer answer results (accepted.promise ∙ sym (is_graded bytes buffer)) accepted.accepted

-- a refused sheet leaves every byte of the buffer, and no units are counted
pub refused_untouched : (bytes buffer : List ℕ) (answer : Answer) (results : List ℕ)
    → ◌≡◌ {A = Outcome} (record { answer = answer; buffer = results }) (outcome bytes buffer)
    → (answer.number ≡ 0 → ⊥) → (results ≡ buffer) × (answer.units ≡ 0)
refused_untouched bytes buffer answer results promise =
    refused_leaves (own_plan bytes) bytes buffer answer results (promise ∙ sym (is_graded bytes buffer))

-- an accepted sheet changes only its result records: the bytes behind them are as before
pub rest_untouched : (bytes buffer : List ℕ) (answer : Answer) (results : List ℕ)
    → AcceptedAs bytes buffer answer results → drop (result_size * answer.units) results ≡ drop (result_size * answer.units) buffer
rest_untouched bytes buffer answer results accepted = (accepted_sheet bytes buffer answer results accepted).rest

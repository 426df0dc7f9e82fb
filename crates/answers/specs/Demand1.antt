-- Demand 1: any file at all is accepted, or refused by one of the listed refusals with the place where it stopped. A refused sheet
-- changes nothing in the result buffer, an accepted one changes only its result records. No premise is on the bytes or on the
-- buffer: the caller has nothing to check beforehand.
use Rattle.std.specs.Prelude.{ℕ, ◌≤◌, ◌≡◌, List, ◌⊎◌, length}
use Rattle.layout.specs.Layout.{offset, units_before}
use Rattle.sheet.specs.Refusals.{plan_refusal, record_refusal}
use Rattle.grounds.specs.Answered.{StoppedAt, AnswerAndBuffer}
use Rattle.results.specs.Record.{result_size}
use Rattle.outcome.specs.declared.Answer.{Answer}
use Rattle.outcome.specs.Outcome.{Outcome}
use Rattle.tally.specs.Outcome.{outcome, records_in}

-- accepted: 0 and the sheet's length. Refused: 1 to 5 for the plan, at offset 0; 6 to 12 for a record, at its mark; 13 for the result
-- buffer, at the sheet's length
unfoldable pub Listed : List ℕ → Answer → Type 0
Listed bytes answer =
    ((answer.number ≡ 0) × (answer.offset ≡ length bytes))
    ⊎ (((1 ≤ answer.number) × (answer.number ≤ 5) × (answer.number ≡ plan_refusal bytes) × (answer.offset ≡ 0))
    ⊎ (((6 ≤ answer.number) × (answer.number ≤ 12) × StoppedAt (offset bytes) (record_refusal bytes) (length bytes) answer.number answer.offset)
    ⊎ ((answer.number ≡ 13) × (answer.offset ≡ length bytes))))

-- for every sheet and every buffer, as the promise of `grade` says
abbrev pub Demand1 : Type 0
Demand1 =
    (bytes buffer : List ℕ) (answer : Answer) (results : List ℕ)
    → ◌≡◌ {A = Outcome} (record { answer = answer; buffer = results }) (outcome bytes buffer)
    → AnswerAndBuffer result_size (Listed bytes) (units_before bytes (records_in bytes)) buffer answer results

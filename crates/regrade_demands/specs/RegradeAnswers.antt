-- Demand 1 for regradings: any bytes at all as a sheet and as a second plan are accepted, or refused by a listed number with the place. A
-- refusal changes nothing in the result buffer, acceptance only the result records.
use Rattle.std.specs.Prelude.{ℕ, ◌≡◌, List, ◌⊎◌}
use Rattle.layout.specs.Layout.{units_before}
use Rattle.results.specs.Record.{result_size}
use Rattle.outcome.specs.declared.Answer.{Answer}
use Rattle.outcome.specs.Outcome.{Outcome}
use Rattle.grounds.specs.Answered.{AnswerAndBuffer}
use Rattle.tally.specs.Outcome.{records_in}
use Rattle.answers.specs.Demand1.{Listed}
use Rattle.regrade.specs.Outcome.{regrade_outcome}

-- as for a grading, and 18 at offset 0
abbrev pub RegradeListed : List ℕ → Answer → Type 0
RegradeListed bytes answer = Listed bytes answer ⊎ ((answer.number ≡ 18) × (answer.offset ≡ 0))

-- for every sheet, every second plan and every buffer, as the promise of `regrade` says
abbrev pub RegradeAnswered : Type 0
RegradeAnswered =
    (bytes plan buffer : List ℕ) (answer : Answer) (results : List ℕ)
    → ◌≡◌ {A = Outcome} (record { answer = answer; buffer = results }) (regrade_outcome bytes plan buffer)
    → AnswerAndBuffer result_size (RegradeListed bytes) (units_before bytes (records_in bytes)) buffer answer results

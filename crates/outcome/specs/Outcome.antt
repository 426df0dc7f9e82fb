-- What a grading comes to: the answer, and the result buffer as it is left.
use Rattle.std.specs.Prelude.{ℕ, ◌≡◌, List, Result, Ok, Err}
use Rattle.outcome.specs.declared.Answer.{Answer}
use Rattle.outcome.specs.declared.Refusal.{Refusal}
use Rattle.outcome.specs.Grounds.{number_of}

pub record Outcome : Type 0 where
  pub answer : Answer
  pub buffer : List ℕ

-- acceptance returns 0, the number of units and an offset
abbrev pub accepted_as : ℕ → ℕ → Answer
accepted_as units offset = record { number = 0; units = units; offset = offset }

-- a refusal returns its number, no units and an offset
abbrev pub refused_as : ℕ → ℕ → Answer
refused_as number offset = record { number = number; units = 0; offset = offset }

-- what a grading of a sheet of this length answers: its units, or the refusal
abbrev pub answered : ℕ → Result ℕ Refusal → Answer
answered length (Ok units) = accepted_as units length
answered length (Err refusal) = refused_as (number_of refusal.cause) refusal.offset

-- and the buffer keeps every byte
abbrev pub refusal : ℕ → ℕ → List ℕ → Outcome
refusal number offset buffer = record { answer = refused_as number offset; buffer = buffer }

-- grading a sheet into a buffer gave this answer and left these bytes, as the promise of the grading says, and the sheet was accepted
pub record AcceptedBy (outcome : List ℕ → List ℕ → Outcome) (bytes buffer : List ℕ) (answer : Answer) (results : List ℕ) : Type 0 where
  pub promise : ◌≡◌ {A = Outcome} (record { answer = answer; buffer = results }) (outcome bytes buffer)
  pub accepted : answer.number ≡ 0

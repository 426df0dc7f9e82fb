-- Demand 1 for mold sheets, "returns and buffer are as for a sheet": any bytes are accepted, or refused by a listed number with the place.
use Rattle.std.specs.Prelude.{ℕ, ◌-◌, ◌/◌, ◌≡◌, List, ◌⊎◌, length}
use Rattle.outcome.specs.declared.Answer.{Answer}
use Rattle.outcome.specs.Outcome.{Outcome}
use Rattle.grounds.specs.Answered.{StoppedAt, AnswerAndBuffer}
use Rattle.mold.specs.Layout.{opening_size, unit_size, offset}
use Rattle.mold.specs.Refusals.{opening_refusal, record_refusal}
use Rattle.mold.specs.Results.{result_size}
use Rattle.mold.specs.Outcome.{mold_outcome}

-- what is answered: acceptance with the sheet's length; a refusal of the opening at offset 0, of a record at its mark, of the result
-- buffer at the sheet's length
pub data MoldListed (bytes : List ℕ) (answer : Answer) : Type 0 where
  accepted : answer.number ≡ 0 → answer.offset ≡ length bytes → MoldListed bytes answer
  by_opening : (answer.number ≡ 1) ⊎ (answer.number ≡ 16) → answer.number ≡ opening_refusal bytes → answer.offset ≡ 0 → MoldListed bytes answer
  by_record : ((answer.number ≡ 6) ⊎ (answer.number ≡ 7)) ⊎ ((answer.number ≡ 12) ⊎ (answer.number ≡ 17))
      → StoppedAt offset (record_refusal bytes) (length bytes) answer.number answer.offset → MoldListed bytes answer
  by_buffer : answer.number ≡ 13 → answer.offset ≡ length bytes → MoldListed bytes answer

-- how many units fill a sheet that is accepted: its records are units, of the same size
abbrev pub units_by_length : List ℕ → ℕ
units_by_length bytes = (length bytes - opening_size) / unit_size

-- for every sheet and every buffer, as the promise of `grade_mold` says
abbrev pub MoldAnswered : Type 0
MoldAnswered =
    (bytes buffer : List ℕ) (answer : Answer) (results : List ℕ)
    → ◌≡◌ {A = Outcome} (record { answer = answer; buffer = results }) (mold_outcome bytes buffer)
    → AnswerAndBuffer result_size (MoldListed bytes) (units_by_length bytes) buffer answer results

-- Grading a mold sheet into a result buffer: the answer and the buffer as it is left, for every sheet and every buffer.
use Rattle.std.specs.Prelude.{ℕ, ◌*◌, List, ◌++◌, ltb, eqb, length, drop}
use Rattle.outcome.specs.Outcome.{Outcome, accepted_as, refusal, AcceptedBy}
use Rattle.outcome.specs.declared.Answer.{Answer}
use Rattle.units.specs.Conditions.{pick}
use Rattle.mold.specs.Refusals.{checked}
use Rattle.mold.specs.Results.{result_size, written}

-- accepted with so many units: their result records; bytes behind the last one keep theirs
abbrev pub acceptance : List ℕ → List ℕ → ℕ → Outcome
acceptance bytes buffer units =
    record { answer = accepted_as units (length bytes); buffer = written bytes units ++ drop (result_size * units) buffer }

-- 1, 16, 6, 7, 12 and 17 by the check of the sheet; then 13, a buffer shorter than 5 times the units, at the sheet's length
unfoldable pub mold_outcome : List ℕ → List ℕ → Outcome
mold_outcome bytes buffer =
    let answer = checked bytes in
    pick (eqb answer.number 0)
    (pick (ltb (length buffer) (result_size * answer.units)) (refusal 13 (length bytes) buffer) (acceptance bytes buffer answer.units))
    (record { answer = answer; buffer = buffer })

-- a mold sheet that `grade_mold` accepts
abbrev pub MoldAcceptedAs : List ℕ → List ℕ → Answer → List ℕ → Type 0
MoldAcceptedAs = AcceptedBy mold_outcome

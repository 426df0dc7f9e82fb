-- Grading a whole sheet into a result buffer: the answer and the buffer as it is left, for every sheet and every buffer.
use Rattle.std.specs.Prelude.{ℕ, ◌*◌, List, ◌++◌, ltb, length, drop}
use Rattle.units.specs.Conditions.{pick}
use Rattle.rules.specs.Sheet.{Sheet, code_grade}
use Rattle.sheet.specs.Refusals.{verdict, answer_of}
use Rattle.sheet.specs.Verdict.{Verdict, Accepted, Refused}
use Rattle.results.specs.Record.{result_size}
use Rattle.results.specs.Written.{written}
use Rattle.recording.specs.Sheet.{sheet_of, result_of}
use Rattle.outcome.specs.Outcome.{Outcome, refusal}

-- what a sheet writes: the result records of its units, one after the other, with the code grades of the sheet
abbrev pub results_of : Sheet → List ℕ
results_of sheet = written (result_of sheet) (code_grade sheet) sheet.entry sheet.size

-- acceptance is the check's; bytes behind the last result record keep theirs
unfoldable pub acceptance : List ℕ → List ℕ → ℕ → ℕ → Outcome
acceptance bytes buffer records units =
    record {
      answer = answer_of bytes (Accepted records units);
      buffer = results_of (sheet_of bytes records) ++ drop (result_size * units) buffer;
    }

-- 1 to 12 by the check of the sheet; then 13, a buffer shorter than 32 times the units, at the sheet's length
unfoldable pub outcome_by : List ℕ → List ℕ → Verdict → Outcome
outcome_by bytes buffer (Refused number offset) = record { answer = answer_of bytes (Refused number offset); buffer = buffer }
outcome_by bytes buffer (Accepted records units) =
    pick (ltb (length buffer) (result_size * units)) (refusal 13 (length bytes) buffer)
    (acceptance bytes buffer records units)

-- for every sheet and every buffer
unfoldable pub outcome : List ℕ → List ℕ → Outcome
outcome bytes buffer = outcome_by bytes buffer (verdict bytes)

-- how many records an accepted sheet has behind its plan
unfoldable pub records_of : Verdict → ℕ
records_of (Accepted records units) = records
records_of (Refused number offset) = 0

unfoldable pub records_in : List ℕ → ℕ
records_in bytes = records_of (verdict bytes)

-- Grading a recorded sheet again under a second plan record: the answer and the buffer as it is left, for every sheet, every second plan and
-- every buffer.
use Rattle.std.specs.Prelude.{ℕ, ◌*◌, Bool, not, ◌||◌, List, ◌++◌, ltb, eqb, length, drop}
use Rattle.units.specs.Conditions.{pick}
use Rattle.units.specs.Words.{table_of}
use Rattle.units.specs.declared.Plan.{Plan}
use Rattle.rules.specs.Sheet.{Sheet}
use Rattle.layout.specs.Layout.{plan_size, plan_of, entry_at}
use Rattle.sheet.specs.Refusals.{plan_refusal, verdict, answer_of}
use Rattle.sheet.specs.Verdict.{Verdict, Accepted, Refused}
use Rattle.results.specs.Record.{result_size}
use Rattle.results.specs.Written.{written}
use Rattle.outcome.specs.Outcome.{Outcome, refusal}
use Rattle.regrade.specs.Regrading.{regraded_result, regraded_code}

-- so many records of the sheet behind the second plan in place of its own
unfoldable pub sheet_under : List ℕ → Plan → ℕ → Sheet
sheet_under bytes second records =
    record { table = table_of second; designated = second.designated; entry = entry_at bytes; size = records }

-- 18: the second plan is not exactly one plan record free of 2 to 5 (of number 1 it is free if it has the mark)
unfoldable pub second_plan_wrong : List ℕ → Bool
second_plan_wrong plan = not (eqb (length plan) plan_size) || not (eqb (plan_refusal plan) 0)

-- what the records write: the result records of all units in their order, with the code grades of the regrading
abbrev pub regraded_results : Sheet → List ℕ
regraded_results sheet = written (regraded_result sheet) (regraded_code sheet) sheet.entry sheet.size

-- acceptance is the check's; bytes behind the last result record keep theirs
unfoldable pub regraded : List ℕ → List ℕ → List ℕ → ℕ → ℕ → Outcome
regraded bytes plan buffer records units =
    record {
      answer = answer_of bytes (Accepted records units);
      buffer = regraded_results (sheet_under bytes (plan_of plan) records) ++ drop (result_size * units) buffer;
    }

-- 1 to 12 by the check of the sheet; then 18, at offset 0; then 13, a buffer shorter than 32 times the units, at the sheet's length
unfoldable pub regrade_by : List ℕ → List ℕ → List ℕ → Verdict → Outcome
regrade_by bytes plan buffer (Refused number offset) = record { answer = answer_of bytes (Refused number offset); buffer = buffer }
regrade_by bytes plan buffer (Accepted records units) =
    pick (second_plan_wrong plan) (refusal 18 0 buffer)
    (pick (ltb (length buffer) (result_size * units)) (refusal 13 (length bytes) buffer)
    (regraded bytes plan buffer records units))

-- for every sheet, every second plan and every buffer
unfoldable pub regrade_outcome : List ℕ → List ℕ → List ℕ → Outcome
regrade_outcome bytes plan buffer = regrade_by bytes plan buffer (verdict bytes)

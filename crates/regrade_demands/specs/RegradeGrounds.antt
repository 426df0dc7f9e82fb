-- The grounds on which a regrading is refused, by what stands in the bytes; which is returned is said in `Grounds` of the crate grounds. The
-- rows of the sheet are those of its grading.
use Rattle.std.specs.Prelude.{ℕ, ◌≡◌, cond, List, eqb, length}
use Rattle.layout.specs.Layout.{plan_size, offset}
use Rattle.outcome.specs.declared.Answer.{Answer}
use Rattle.outcome.specs.Outcome.{Outcome}
use Rattle.grounds.specs.Grounds.{Grounds, RefusedByGround}
use Rattle.answers.specs.Grounds.{BufferShort, PlanRow, RecordRow, rows, WholeSheet}
use Rattle.regrade.specs.Outcome.{regrade_outcome}

-- 18: "the second plan isn't exactly one plan record free of 2 to 5": it is longer or shorter than 75 bytes, or it has, for itself, a ground
-- of a sheet's plan (1 is another mark, where the length is right)
pub data SecondPlanWrong (plan : List ℕ) : Type 0 where
  other_length : (length plan ≡ plan_size → ⊥) → SecondPlanWrong plan
  plan_ground : {number : ℕ} → PlanRow plan number → SecondPlanWrong plan

-- behind the records come the second plan, "after all checks of the sheet's records and before 13", and the result buffer
pub data LastRow (bytes plan buffer : List ℕ) : ℕ → Type 0 where
  row18 : SecondPlanWrong plan → LastRow bytes plan buffer 18
  row13 : BufferShort bytes buffer → LastRow bytes plan buffer 13

abbrev pub regrade_grounds : List ℕ → List ℕ → List ℕ → Grounds
regrade_grounds bytes plan buffer =
    record {
      rows = rows;
      OpeningRow = PlanRow bytes;
      RecordRow = RecordRow bytes;
      LastRow = LastRow bytes plan buffer;
      offset = offset bytes;
      end = length bytes;
    }

-- an answer with the place where its ground is looked at for its offset: 18 is looked at behind the last record, and returned with 0
abbrev pub where_looked_at : List ℕ → Answer → Answer
where_looked_at bytes answer =
    record { number = answer.number; units = answer.units; offset = cond (eqb answer.number 18) (length bytes) answer.offset }

pub record RegradeRefused (bytes plan buffer : List ℕ) (answer : Answer) : Type 0 where
  -- refused exactly if a ground applies, and then the first row met is returned, with its number and place
  pub by_ground : RefusedByGround (regrade_grounds bytes plan buffer) (WholeSheet bytes) (where_looked_at bytes answer)
  pub offset_of_18 : answer.number ≡ 18 → answer.offset ≡ 0

-- for every sheet, every second plan and every buffer, as the promise of `regrade` says
abbrev pub RegradeRefusals : Type 0
RegradeRefusals =
    (bytes plan buffer : List ℕ) (answer : Answer) (results : List ℕ)
    → ◌≡◌ {A = Outcome} (record { answer = answer; buffer = results }) (regrade_outcome bytes plan buffer)
    → RegradeRefused bytes plan buffer answer

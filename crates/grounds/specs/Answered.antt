-- Demand 1, for sheets of every kind: a record that is refused, and an answer with the result buffer before and after.
use Rattle.std.specs.Prelude.{ℕ, ◌*◌, ◌<◌, ◌≤◌, ◌≡◌, List, length, drop}
use Rattle.outcome.specs.declared.Answer.{Answer}

-- a record is refused: by its number, at the offset of its mark, and no record before it is. Given are where the records stand, which
-- number each is refused by (0 if none), and where the sheet ends
pub record StoppedAt (offset refusal : ℕ → ℕ) (end number at : ℕ) : Type 0 where
  pub stop : ℕ
  pub at_mark : at ≡ offset stop
  pub inside : at < end
  pub refused_by : number ≡ refusal stop
  pub earlier : (j : ℕ) → j < stop → refusal j ≡ 0

-- given are the size of a result record, the answers that are listed, and how many units the sheet has
pub record AnswerAndBuffer (size : ℕ) (Listed : Answer → Type 0) (units : ℕ) (buffer : List ℕ) (answer : Answer) (results : List ℕ) : Type 0 where
  pub listed : Listed answer
  -- refused: no units, and every byte of the buffer is kept
  pub refused_units : (answer.number ≡ 0 → ⊥) → answer.units ≡ 0
  pub refused_buffer : (answer.number ≡ 0 → ⊥) → results ≡ buffer
  -- accepted: the units are those of the sheet, there is room for their result records, and every byte behind them is kept
  pub accepted_units : answer.number ≡ 0 → answer.units ≡ units
  pub accepted_room : answer.number ≡ 0 → size * answer.units ≤ length buffer
  pub accepted_rest : answer.number ≡ 0 → drop (size * answer.units) results ≡ drop (size * answer.units) buffer
  pub same_length : length results ≡ length buffer

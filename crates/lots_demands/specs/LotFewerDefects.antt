-- Demand 3 for lots: "of two accepted lots alike except that no count in the first exceeds its fellow in the second, the first never grades
-- lower".
use Rattle.std.specs.Prelude.{ℕ, ◌≤◌, ◌<◌, ◌≡◌, List, ◌⊎◌, length}
use Rattle.encoding.specs.Bytes.{byte}
use Rattle.lots.specs.Answer.{lot_answer}
use Rattle.lots.specs.declared.LotAnswer.{LotAnswer}
use Rattle.lots_demands.specs.LotFields.{count_at}

-- two lots are alike if they have the same length and the same bytes outside the counts, which stand at 27 to 34
pub record AlikeLots (lot lot' : List ℕ) : Type 0 where
  pub same_length : length lot ≡ length lot'
  pub same_bytes : (at : ℕ) → (at < 27) ⊎ (34 < at) → byte lot at ≡ byte lot' at

-- no count in the first exceeds its fellow in the second
abbrev pub NoMoreDefects : List ℕ → List ℕ → Type 0
NoMoreDefects lot lot' = (kind : ℕ) → kind < 4 → count_at lot kind ≤ count_at lot' kind

-- a lot was accepted with this grade, as the promises of `grade_lot` and `hatmuyon_grade_lot` say
pub record AcceptedWith (lot : List ℕ) (grade : ℕ) : Type 0 where
  pub answer : LotAnswer
  pub promise : answer ≡ lot_answer lot
  pub accepted : answer.number ≡ 0
  pub its_grade : answer.grade ≡ grade

-- lower means a larger grade code
abbrev pub LotFewerDefects : Type 0
LotFewerDefects =
    (lot lot' : List ℕ) (grade grade' : ℕ) → AcceptedWith lot grade → AcceptedWith lot' grade' → AlikeLots lot lot' → NoMoreDefects lot lot'
    → grade ≤ grade'

-- What lots that are proved by computing are held to: the whole answer.
use Rattle.std.specs.Prelude.{ℕ, ◌≡◌, List}
use Rattle.lots.specs.Answer.{lot_answer}
use Rattle.lots.specs.declared.LotAnswer.{LotAnswer}

-- accepted with this grade
abbrev pub GradedLot : List ℕ → ℕ → Type 0
GradedLot lot grade = ◌≡◌ {A = LotAnswer} (lot_answer lot) (record { number = 0; grade = grade; offset = 0 })

-- refused with this number, and with 3 in the place of a grade
abbrev pub RefusedLot : List ℕ → ℕ → Type 0
RefusedLot lot number = ◌≡◌ {A = LotAnswer} (lot_answer lot) (record { number = number; grade = 3; offset = 0 })

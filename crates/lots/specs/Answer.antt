-- What grading a lot answers, for every slice of bytes.
use Rattle.std.specs.Prelude.{ℕ, List, eqb, Result, Ok, Err}
use Rattle.outcome.specs.Grounds.{number_of}
use Rattle.outcome.specs.declared.Ground.{Ground}
use Rattle.units.specs.Conditions.{pick}
use Rattle.lots.specs.declared.LotAnswer.{LotAnswer}
use Rattle.lots.specs.Refusals.{lot_refusal}
use Rattle.lots.specs.Grading.{lot_grade}

-- "Acceptance returns 0 and the lot grade"; the offset is 0 always
abbrev pub accepted_lot : ℕ → LotAnswer
accepted_lot grade = record { number = 0; grade = grade; offset = 0 }

-- "a refusal its number and 3", which is no grade then
abbrev pub refused_lot : ℕ → LotAnswer
refused_lot number = record { number = number; grade = 3; offset = 0 }

-- what is answered where a lot gets a grade, or meets a ground
abbrev pub answered : Result ℕ Ground → LotAnswer
answered (Ok grade) = accepted_lot grade
answered (Err cause) = refused_lot (number_of cause)

unfoldable pub lot_answer : List ℕ → LotAnswer
lot_answer lot = pick (eqb (lot_refusal lot) 0) (accepted_lot (lot_grade lot)) (refused_lot (lot_refusal lot))

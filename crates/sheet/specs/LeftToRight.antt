-- "Records are checked left to right, each wholly before the next; the first row met is returned": for sheets of every kind. Given are
-- where the sheet ends, where record i stands, the number of the first ground that it meets (0 if none), and what is answered where no
-- record is refused, by how many there are, and for a refusal, by its number and offset.
use Rattle.std.specs.Prelude.{ℕ, zero, suc, leb, eqb}
use Rattle.units.specs.Conditions.{pick}

module _ {A : Type 0} (end : ℕ) (offset refusal : ℕ → ℕ) (accepted : ℕ → A) (refused : ℕ → ℕ → A) where
  -- from record i on, at most so many
  unfoldable pub left_to_right : ℕ → ℕ → A
  left_to_right zero i = accepted i
  left_to_right (suc most) i =
      pick (leb end (offset i)) (accepted i)
      (pick (eqb (refusal i) 0) (left_to_right most (suc i))
      (refused (refusal i) (offset i)))

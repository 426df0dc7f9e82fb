-- One law for each case of `mold_outcome`: refused by the check, without room, graded.
use Rattle.std.proofs.Common.{◌≡◌, ℕ, ◌*◌, ◌≤◌, ◌<◌, List, length, refl, arith, lt-ltb, ne_eqb}
use borrow.Author.Tests.{le-ltb}
use Rattle.outcome.specs.Outcome.{accepted_as, Outcome, refusal}
use Rattle.outcome.specs.declared.Answer.{Answer}
use Rattle.units.specs.Conditions.{pick}
use Rattle.mold.specs.Levels.{last_row}
use Rattle.mold.specs.Layout.{level_row, offset}
use Rattle.mold.specs.Refusals.{checked}
use Rattle.mold.specs.Results.{result_size}
use Rattle.mold.specs.Outcome.{acceptance, mold_outcome}
use Rattle.mold.proofs.Checking.{opening_passed, accepted_facts}

pub outcome_refused : (bytes buffer : List ℕ) (answer : Answer) → answer ≡ checked bytes → 0 < answer.number
    → ◌≡◌ {A = Outcome} (record { answer = answer; buffer = buffer }) (mold_outcome bytes buffer)
unfolding mold_outcome pick
outcome_refused bytes buffer answer is refused = rw (← is, ne_eqb answer.number 0 (λ none. omega arith))

-- a sheet that passes with so many units
module _ (bytes : List ℕ) (units : ℕ) (passes : accepted_as units (length bytes) ≡ checked bytes) where
  -- what the writing of their records asks
  pub passed_whole : (level_row bytes ≤ last_row) × (offset units ≤ length bytes)
  passed_whole =
      let facts = ((rw (← passes) at (accepted_facts bytes)) refl).1 in ((opening_passed bytes facts.opening).1, omega (arith, facts.end))

  module _ (buffer : List ℕ) where
    pub outcome_short : length buffer < result_size * units → refusal 13 (length bytes) buffer ≡ mold_outcome bytes buffer
    unfolding mold_outcome pick
    outcome_short short = rw (← passes, lt-ltb (length buffer) (result_size * units) short)

    pub outcome_graded : result_size * units ≤ length buffer → acceptance bytes buffer units ≡ mold_outcome bytes buffer
    unfolding mold_outcome pick
    outcome_graded room = rw (← passes, le-ltb (length buffer) (result_size * units) room)

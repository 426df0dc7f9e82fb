-- The monotone half of demand 3 for regradings, "both under the same second plan, through the whole sheet and without its premise on failures
-- and redesignations": of bytes, and of the bytes that the two leave in their result buffers.
use Rattle.std.specs.Prelude.{ℕ, ◌<◌, ◌≤◌, ◌≡◌, true, List, length}
use Rattle.units.specs.Words.{classes}
use Rattle.outcome.specs.declared.Answer.{Answer}
use Rattle.tally.specs.Accepted.{UnitAt, recorded_cusum, recorded_overshoot, recorded_portion_grade, recorded_code_grade}
use Rattle.alike.specs.Alike.{Alike, NoMore}
use Rattle.regrade_demands.specs.RegradeAccepted.{RegradedAs, regraded_sheet, fails_regraded_at}

-- two accepted regradings under the same second plan, of sheets alike except that no count in the first exceeds its fellow in the second
pub record FewerRegraded (bytes bytes' plan buffer buffer' : List ℕ) (answer answer' : Answer) (results results' : List ℕ) : Type 0 where
  pub first : RegradedAs bytes plan buffer answer results
  pub second : RegradedAs bytes' plan buffer' answer' results'
  pub alike : Alike bytes bytes'
  pub no_more : NoMore bytes bytes'

-- at the unit that is record i no CuSum in the first is higher, no overshoot is larger, no class fails that does not fail in the second, and
-- neither its portion nor its code grades lower than its fellow; lower means a larger grade code
pub record NoWorseAt (bytes bytes' plan results results' : List ℕ) (i : ℕ) : Type 0 where
  pub cusums : (class : ℕ) → class < length classes → recorded_cusum bytes results i class ≤ recorded_cusum bytes' results' i class
  pub overshoots : (class : ℕ) → class < length classes → recorded_overshoot bytes results i class ≤ recorded_overshoot bytes' results' i class
  pub failures : (class : ℕ) → class < length classes
      → fails_regraded_at (regraded_sheet bytes plan) class i ≡ true → fails_regraded_at (regraded_sheet bytes' plan) class i ≡ true
  pub portions : recorded_portion_grade bytes results i ≤ recorded_portion_grade bytes' results' i
  pub codes : recorded_code_grade bytes results i ≤ recorded_code_grade bytes' results' i

-- for every two such regradings, at every unit of the whole sheet
abbrev pub RegradeFewerDefects : Type 0
RegradeFewerDefects =
    (bytes bytes' plan buffer buffer' : List ℕ) (answer answer' : Answer) (results results' : List ℕ)
    → FewerRegraded bytes bytes' plan buffer buffer' answer answer' results results' → (i : ℕ) → UnitAt bytes i → NoWorseAt bytes bytes' plan results results' i

-- A second plan that is none of 18 has the length of a plan record and is refused by none of 1 to 5: so what holds of the plan of an accepted
-- sheet holds of it.
use Prim.Native.Nat.{ℕ, ◌<◌}
use mathlib.Core.Path.{◌≡◌, refl, sym, ◌∙◌}
use mathlib.Core.Bool.{Bool, true, false, not}
use mathlib.Core.List.{List}
use native.Mathlib.Omega.{arith}
use lib.Dec.{eqb}
use lib.ListN.{length}
use borrow.Author.Tests.{eqb-true, lt-ltb}
use Rattle.units.specs.Words.{substandard, has_plan}
use Rattle.units.proofs.Tests.{or_first, or_second}
use Rattle.layout.specs.Layout.{plan_size, plan_of}
use Rattle.sheet.specs.Refusals.{plan_refusal, refused_if}
use Rattle.sheet.proofs.Grounds.{ground_passed}
use Rattle.sheet.proofs.Ranges.{designated_le}
use Rattle.regrade.specs.Outcome.{second_plan_wrong}

not_false : (test : Bool) → not test ≡ false → test ≡ true
not_false true e = refl
not_false false e = sym e

-- by the number of the ground that is found of it, if any
module _ (plan : List ℕ) {found : ℕ} (is_found : found ≡ refused_if (second_plan_wrong plan) 18 0) where
  pub wrong_by : 0 < found → (second_plan_wrong plan ≡ true) × (found ≡ 18)
  unfolding refused_if
  wrong_by positive = go (second_plan_wrong plan) refl is_found
    where
      go : (wrong : Bool) → second_plan_wrong plan ≡ wrong → found ≡ refused_if wrong 18 0 → (second_plan_wrong plan ≡ true) × (found ≡ 18)
      go true is_wrong given = (is_wrong, given)
      go false is_right given = absurd (omega arith)

  pub right_by : found ≡ 0 → second_plan_wrong plan ≡ false
  right_by none = (ground_passed (second_plan_wrong plan) 18 0 (omega arith) (sym is_found ∙ none)).0

module _ (plan : List ℕ) (right : second_plan_wrong plan ≡ false) where
  pub plan_length : length plan ≡ plan_size
  unfolding second_plan_wrong
  plan_length = eqb-true (length plan) plan_size (not_false _ (or_first (not (eqb (length plan) plan_size)) _ right))

  pub plan_passes : plan_refusal plan ≡ 0
  unfolding second_plan_wrong
  plan_passes = eqb-true (plan_refusal plan) 0 (not_false _ (or_second (not (eqb (length plan) plan_size)) _ right))

  -- its designated grade has a plan
  pub designated_planned : has_plan (plan_of plan).designated ≡ true
  unfolding has_plan
  designated_planned = lt-ltb (plan_of plan).designated substandard (omega (arith, designated_le plan plan_passes))

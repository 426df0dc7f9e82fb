-- The cases of the outcome of a mold sheet: an answer of 0 is acceptance, of a sheet that its units fill, into a buffer with room for
-- them; any other keeps the buffer. By the law of each case.
use Prim.Native.Nat.{ℕ, ◌*◌, ◌≤◌, ◌<◌}
use mathlib.Core.Path.{◌≡◌, refl, sym, ◌∙◌, ap, subst, subst⁻¹}
use mathlib.Core.Logic.{inl, inr}
use mathlib.Core.List.{List, ◌++◌}
use native.Mathlib.Omega.{arith}
use lib.ListN.{length, drop}
use Rattle.std.proofs.lemmas.Bool.{cases_lt, cases_eq}
use Rattle.outcome.specs.declared.Answer.{Answer}
use Rattle.outcome.specs.Outcome.{Outcome, refusal}
use Rattle.mold.specs.Refusals.{checked}
use Rattle.mold.specs.Results.{result_size, written}
use Rattle.mold.specs.Outcome.{acceptance, mold_outcome, MoldAcceptedAs}
use Rattle.mold.proofs.Checking.{Facts, accepted_facts}
use Rattle.mold.proofs.Cases.{outcome_refused, outcome_short, outcome_graded}

-- what each case says of the outcome
pub data Case (bytes buffer : List ℕ) : Outcome → Type 0 where
  by_check : ((checked bytes).number ≡ 0 → ⊥) → Case bytes buffer (record { answer = checked bytes; buffer = buffer })
  without_room : (units : ℕ) → Facts bytes units → length buffer < result_size * units → Case bytes buffer (refusal 13 (length bytes) buffer)
  graded : (units : ℕ) → Facts bytes units → result_size * units ≤ length buffer → Case bytes buffer (acceptance bytes buffer units)

pub outcome_case : (bytes buffer : List ℕ) → Case bytes buffer (mold_outcome bytes buffer)
outcome_case bytes buffer =
    elim (cases_eq (checked bytes).number 0) [
      | inr refused ↦ subst (Case bytes buffer) (outcome_refused bytes buffer (checked bytes) refl (omega arith)) (by_check refused)
      | inl accepted ↦
          let (is, facts) = accepted_facts bytes accepted in
          elim (cases_lt (length buffer) (result_size * (checked bytes).units)) [
            | inl short ↦ subst (Case bytes buffer) (outcome_short bytes _ (sym is) buffer short) (without_room _ facts short)
            | inr room ↦ subst (Case bytes buffer) (outcome_graded bytes _ (sym is) buffer room) (graded _ facts room)
          ]
    ]

-- an accepted sheet
pub record MoldAccepted (bytes buffer : List ℕ) (answer : Answer) (results : List ℕ) : Type 0 where
  pub facts : Facts bytes answer.units
  pub room : result_size * answer.units ≤ length buffer
  pub filled : results ≡ written bytes answer.units ++ drop (result_size * answer.units) buffer

pub mold_accepted : (bytes buffer : List ℕ) (answer : Answer) (results : List ℕ) → MoldAcceptedAs bytes buffer answer results
    → MoldAccepted bytes buffer answer results
mold_accepted bytes buffer answer results given_as = go _ (outcome_case bytes buffer) given_as.promise given_as.accepted
  where
    go : (given : Outcome) → Case bytes buffer given → ◌≡◌ {A = Outcome} (record { answer = answer; buffer = results }) given → answer.number ≡ 0
        → MoldAccepted bytes buffer answer results
    go given (by_check refused) promise accepted =
        absurd (refused (sym (ap (λ (o : Outcome). o.answer.number) promise) ∙ accepted))
    go given (without_room units facts short) promise accepted =
        absurd (omega (arith, ap (λ (o : Outcome). o.answer.number) promise, accepted))
    go given (graded units facts room) promise accepted =
        subst⁻¹ (λ (o : Outcome). MoldAccepted bytes buffer o.answer o.buffer) promise
        (record { facts = facts; room = room; filled = refl })

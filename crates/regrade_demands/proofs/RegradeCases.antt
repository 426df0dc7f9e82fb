-- How the answer of a regrading comes about: by 18, where the sheet passes its check and the second plan is wrong, or as for a grading.
-- By the verdict, then by the test of 18.
use Prim.Native.Nat.{ℕ}
use mathlib.Core.Path.{◌≡◌, refl}
use mathlib.Core.Bool.{Bool, true, false}
use mathlib.Core.List.{List}
use Rattle.units.specs.Conditions.{pick}
use Rattle.sheet.specs.Refusals.{verdict}
use Rattle.sheet.specs.Verdict.{Verdict, Accepted, Refused}
use Rattle.sheet.proofs.Accepted.{Facts, facts}
use Rattle.outcome.specs.declared.Answer.{Answer}
use Rattle.outcome.specs.Outcome.{Outcome, refused_as, refusal}
use Rattle.answers.proofs.Cases.{Case, by_check, by_buffer}
use Rattle.regrade.specs.Outcome.{second_plan_wrong, regraded, regrade_by, regrade_outcome}

-- the sheet passes its check with so many records, and the second plan is right
abbrev pub PassedUnder : List ℕ → List ℕ → ℕ → Type 0
PassedUnder bytes plan records = Facts bytes records × (second_plan_wrong plan ≡ false)

pub data RegradeCase (bytes plan buffer : List ℕ) : Answer → Type 0 where
  wrong_plan : (records : ℕ) → Facts bytes records → second_plan_wrong plan ≡ true → RegradeCase bytes plan buffer (refused_as 18 0)
  as_graded : {answer : Answer} → Case bytes buffer (PassedUnder bytes plan) answer → RegradeCase bytes plan buffer answer

module _ (bytes plan buffer : List ℕ) where
  case_by : (v : Verdict) → verdict bytes ≡ v → RegradeCase bytes plan buffer (regrade_by bytes plan buffer v).answer
  unfolding regrade_by regraded pick
  case_by (Refused number at) says = as_graded (by_check number at says)
  case_by (Accepted records units) says =
      let (passes, counted) = facts bytes records units says in
      go _ (second_plan_wrong plan) refl
      (λ right. by_buffer bytes buffer records units (passes, right) counted _)
    where
      go : (rest : Outcome) (wrong : Bool) → second_plan_wrong plan ≡ wrong
          → (second_plan_wrong plan ≡ false → Case bytes buffer (PassedUnder bytes plan) rest.answer)
          → RegradeCase bytes plan buffer (pick wrong (refusal 18 0 buffer) rest).answer
      go rest true wrong otherwise = wrong_plan records (facts bytes records units says).0 wrong
      go rest false right otherwise = as_graded (otherwise right)

  pub regrade_case : RegradeCase bytes plan buffer (regrade_outcome bytes plan buffer).answer
  unfolding regrade_outcome
  regrade_case = case_by (verdict bytes) refl

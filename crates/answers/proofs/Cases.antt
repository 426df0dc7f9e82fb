-- How an answer about a tally sheet comes about: by the check of the sheet, or where that passes by the room in the result buffer.
-- What is known of a sheet that passes is a parameter: a regrading has the same cases where its second plan is right.
use Prim.Native.Nat.{ℕ, ◌*◌, ◌≤◌, ◌<◌}
use mathlib.Core.Path.{◌≡◌, refl}
use mathlib.Core.Bool.{Bool, true, false}
use mathlib.Core.List.{List}
use mathlib.Core.Logic.{⊎_elim}
use native.Mathlib.Omega.{arith}
use lib.Dec.{ltb}
use lib.ListN.{length}
use borrow.Author.Tests.{ltb-true, ltb-false}
use Rattle.units.specs.Conditions.{pick}
use Rattle.layout.specs.Layout.{units_before}
use Rattle.sheet.specs.Refusals.{verdict}
use Rattle.sheet.specs.Verdict.{Verdict, Accepted, Refused}
use Rattle.sheet.proofs.Accepted.{Facts, facts}
use Rattle.sheet.proofs.Listed.{refusal_listed}
use Rattle.results.specs.Record.{result_size}
use Rattle.outcome.specs.declared.Answer.{Answer}
use Rattle.outcome.specs.Outcome.{accepted_as, refused_as, refusal}
use Rattle.tally.specs.Outcome.{acceptance, outcome_by, outcome}

pub data Case (bytes buffer : List ℕ) (Passed : ℕ → Type 0) : Answer → Type 0 where
  by_check : (number at : ℕ) → verdict bytes ≡ Refused number at → Case bytes buffer Passed (refused_as number at)
  without_room : (records : ℕ) → Passed records → length buffer < result_size * units_before bytes records
      → Case bytes buffer Passed (refused_as 13 (length bytes))
  with_room : (records units : ℕ) → Passed records → units ≡ units_before bytes records → result_size * units_before bytes records ≤ length buffer
      → Case bytes buffer Passed (accepted_as units (length bytes))

module _ (bytes buffer : List ℕ) {Passed : ℕ → Type 0} where
  -- by the test of number 13, whatever an acceptance leaves in the buffer
  pub by_buffer : (records units : ℕ) → Passed records → units ≡ units_before bytes records → (results : List ℕ)
      → Case bytes buffer Passed (pick (ltb (length buffer) (result_size * units)) (refusal 13 (length bytes) buffer)
      (record { answer = accepted_as units (length bytes); buffer = results })).answer
  unfolding pick
  by_buffer records units passed counted results = go (ltb (length buffer) (result_size * units)) refl
    where
      go : (short : Bool) → ltb (length buffer) (result_size * units) ≡ short
          → Case bytes buffer Passed
          (pick short (refusal 13 (length bytes) buffer) (record { answer = accepted_as units (length bytes); buffer = results })).answer
      go true s = without_room records passed (omega (arith, ltb-true (length buffer) (result_size * units) s, counted))
      go false s = with_room records units passed counted (omega (arith, ltb-false (length buffer) (result_size * units) s, counted))

  -- so no number is above 13
  pub to_13 : (answer : Answer) → Case bytes buffer Passed answer → answer.number ≤ 13
  to_13 answer (by_check number at says) =
      ⊎_elim (λ (from, to, refusal, start). omega arith) (λ (from, to, stops). omega arith) (refusal_listed bytes number at says)
  to_13 answer (without_room records passed short) = omega arith
  to_13 answer (with_room records units passed counted room) = omega arith

-- ---- of a grading

module _ (bytes buffer : List ℕ) where
  case_by : (v : Verdict) → verdict bytes ≡ v → Case bytes buffer (Facts bytes) (outcome_by bytes buffer v).answer
  unfolding outcome_by acceptance
  case_by (Refused number at) says = by_check number at says
  case_by (Accepted records units) says =
      let (passes, counted) = facts bytes records units says in
      by_buffer bytes buffer records units passes counted _

  pub outcome_case : Case bytes buffer (Facts bytes) (outcome bytes buffer).answer
  unfolding outcome
  outcome_case = case_by (verdict bytes) refl

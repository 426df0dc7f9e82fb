-- What the check of a mold sheet comes to. A unit that passes is whole, and each has the same size.
use Rattle.std.proofs.Common.{◌≡◌, ℕ, suc, ◌+◌, ◌≤◌, ◌<◌, List, length, ◌⊎◌, inl, inr, refl, arith, eq-eqb, ne_eqb}
use Rattle.std.proofs.lemmas.Bool.{cases_eq}
use Rattle.std.proofs.lemmas.Bool.Decides.{nat_tests}
use mathlib.Core.Logic.{⊎_elim}
use Rattle.outcome.specs.Outcome.{accepted_as, refused_as}
use Rattle.outcome.specs.declared.Answer.{Answer}
use Rattle.units.specs.Conditions.{pick}
use Rattle.sheet.specs.Refusals.{refused_if}
use Rattle.sheet.proofs.LeftToRight.{Stops, check_says}
use Rattle.mold.specs.Levels.{last_row}
use Rattle.mold.specs.Layout.{opening_size, unit_size, level_row, offset}
use Rattle.mold.specs.Refusals.{no_opening, opening_refusal, unit_refusal, record_refusal, check_from, checked}

-- an opening that is not refused is whole, and its row has a level
pub opening_passed : (bytes : List ℕ) → opening_refusal bytes ≡ 0 → (opening_size ≤ length bytes) × (level_row bytes ≤ last_row)
unfolding opening_refusal no_opening refused_if
opening_passed bytes passed = (grind (arith, nat_tests), grind (arith, nat_tests))

-- a unit that is not refused is whole
pub unit_passed : (bytes : List ℕ) (at units : ℕ) → unit_refusal bytes at units ≡ 0 → at + unit_size ≤ length bytes
unfolding unit_refusal refused_if
unit_passed bytes at units passed = grind (arith, nat_tests)

-- every unit stands further on than its number says
pub further : (i : ℕ) → i < offset i
further i = omega arith

-- of a sheet that passes with n units: all bytes are read, and every unit passes
pub record Facts (bytes : List ℕ) (n : ℕ) : Type 0 where
  pub opening : opening_refusal bytes ≡ 0
  pub end : offset n ≡ length bytes
  pub within : (j : ℕ) → j < n → (offset j < length bytes) × (record_refusal bytes j ≡ 0)

-- acceptance, or a refusal, which is that of the opening or of the first record refused
abbrev pub Says : List ℕ → Answer → Type 0
Says bytes answer =
    ((answer ≡ accepted_as answer.units (length bytes)) × Facts bytes answer.units)
    ⊎ ((answer.number ≡ 0 → ⊥) × (answer.units ≡ 0)
    × (((answer.number ≡ opening_refusal bytes) × (answer.offset ≡ 0)) ⊎ ((opening_refusal bytes ≡ 0) × Stops (length bytes) offset (record_refusal bytes) answer.number answer.offset)))

module _ (bytes : List ℕ) where
  next_within : (i : ℕ) → record_refusal bytes i ≡ 0 → offset (suc i) ≤ length bytes
  next_within i passed = omega (arith, unit_passed bytes (offset i) i passed)

  says_records : opening_refusal bytes ≡ 0 → Says bytes (check_from bytes (length bytes) 0)
  says_records passed =
      check_says (length bytes) offset (record_refusal bytes) (λ units. accepted_as units (length bytes)) refused_as further next_within (Says bytes)
      (λ n end within. inl (refl, record { opening = passed; end = end; within = within }))
      (λ number at stops. inr (stops.refused, refl, inr (passed, stops)))
      (opening_passed bytes passed).0

  pub checked_says : Says bytes (checked bytes)
  unfolding checked pick
  checked_says =
      elim (cases_eq (opening_refusal bytes) 0) [
        | inl passed ↦ rw (eq-eqb (opening_refusal bytes) 0 passed) (says_records passed)
        | inr refused ↦ rw (ne_eqb (opening_refusal bytes) 0 refused) (inr (refused, refl, inl (refl, refl)))
      ]

  -- an answer of 0 is acceptance
  pub accepted_facts : (checked bytes).number ≡ 0 → (checked bytes ≡ accepted_as (checked bytes).units (length bytes)) × Facts bytes (checked bytes).units
  accepted_facts e = ⊎_elim (λ passed. passed) (λ (refused, units, which). absurd (refused e)) checked_says

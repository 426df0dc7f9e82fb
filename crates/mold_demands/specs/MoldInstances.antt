-- The demands once more on mold sheets, written out here and proved from their theorems: statements for fewer sheets or units, or without
-- one of the parts used here, would no longer give these.
use Rattle.std.specs.Prelude.{ℕ, suc, ◌+◌, ◌*◌, ◌<◌, ◌≤◌, ◌≡◌, Bool, true, false, List, [], ◌∷◌, ◌++◌, length, drop, pos}
use Rattle.cusum.specs.LargestForm.{largest_form, anchor_value}
use Rattle.grounds.specs.Grounds.{Ground}
use Rattle.mold.specs.Grading.{numbers_of, fails_at}
use Rattle.mold.specs.Results.{result_size, met_in, cusum_in}
use Rattle.mold.specs.Outcome.{mold_outcome}
use Rattle.mold_demands.specs.MoldGrounds.{mold_grounds}
use Rattle.mold_demands.specs.MoldLargest.{MoldAnchor, ten_fields_from}
use Rattle.mold_demands.specs.MoldSheets.{manual_example, manual_example_results, ground17_at_second_unit}

-- what the manual's example leaves of a buffer with room for its five units
abbrev pub example_left : List ℕ → List ℕ
example_left buffer = manual_example_results ++ drop (result_size * 5) buffer

pub record MoldInstances : Type 0 where
  -- demand 1: every byte behind the five records is kept
  pub kept : (buffer : List ℕ) → result_size * 5 ≤ length buffer → drop (result_size * 5) (mold_outcome manual_example buffer).buffer ≡ drop (result_size * 5) buffer
  -- the grounds: none applies to it, and before the second unit with 255 fields none does to the other
  pub none_accepted : (buffer : List ℕ) → result_size * 5 ≤ length buffer → (number at : ℕ) → Ground (mold_grounds manual_example buffer) number at → ⊥
  pub none_earlier : (buffer : List ℕ) (number at : ℕ) → at < 8 → Ground (mold_grounds ground17_at_second_unit buffer) number at → ⊥
  -- demand 2: the fifth unit goes on from L of the fourth, which fails: 2 + 3 - 3 = 2
  pub fourth : (buffer : List ℕ) → result_size * 5 ≤ length buffer → (met_in (example_left buffer) 3 ≡ 0) × (cusum_in (example_left buffer) 3 ≡ 20)
  pub fifth : (buffer : List ℕ) → result_size * 5 ≤ length buffer → (met_in (example_left buffer) 4 ≡ 1) × (cusum_in (example_left buffer) 4 ≡ 20)
  -- demand 3: from any latest anchor of each of the five units, wherever it lies
  pub largest_of : (buffer : List ℕ) → result_size * 5 ≤ length buffer → (i : ℕ) → i < 5
      → (from units : ℕ) (at_failure : Bool) → from + units ≡ suc i → MoldAnchor manual_example i from at_failure
      → ((j : ℕ) → from ≤ j → j ≤ i → fails_at manual_example j ≡ false)
      → pos (cusum_in (example_left buffer) i)
      ≡ largest_form (numbers_of manual_example) (anchor_value (numbers_of manual_example) at_failure) (ten_fields_from manual_example from units)
  -- and at the fifth in numbers: L at the failure of the fourth, and 3 fields since it
  pub fifth_anchor : MoldAnchor manual_example 4 4 true
  pub fifth_fields : ten_fields_from manual_example 4 1 ≡ 30 ∷ []
  pub fifth_largest : largest_form (numbers_of manual_example) (anchor_value (numbers_of manual_example) true) (30 ∷ []) ≡ pos 20

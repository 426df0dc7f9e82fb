-- The demands once more on one regrading and its pair, written out here and proved from their theorems: statements for fewer sheets, units or
-- classes, or without one of the parts used here, would no longer give these. The sheet has units as its records 0, 1, 3 and 5; records 0
-- and 1 fail, record 2 is a redesignation, and record 4 a break. For number 18 it is another sheet.
use Rattle.std.specs.Prelude.{ℕ, suc, ◌+◌, ◌*◌, ◌<◌, ◌≤◌, ◌≡◌, Bool, true, false, List, [], ◌∷◌, ◌++◌, length, drop, take, pos}
use Rattle.cusum.specs.LargestForm.{largest_form, anchor_value}
use Rattle.units.specs.Words.{classes}
use Rattle.anchors.specs.Anchor.{tenths_from}
use Rattle.results.specs.Record.{result_size}
use Rattle.grounds.specs.Grounds.{Ground, FirstRowMet}
use Rattle.tally.specs.Accepted.{recorded_cusum, recorded_overshoot, recorded_portion_grade, recorded_code_grade}
use Rattle.answers.specs.Grounds.{IsBreak}
use Rattle.courses.specs.Demand2.{recorded_mark, recorded_plan_grade, recorded_standing}
use Rattle.regrade.specs.Outcome.{regrade_outcome}
use Rattle.regrade_demands.specs.RegradeAccepted.{regraded_sheet, second_numbers, fails_regraded_at}
use Rattle.regrade_demands.specs.RegradeGrounds.{regrade_grounds}
use Rattle.regrade_demands.specs.RegradeLargest.{RegradeAnchor}
use Rattle.regrade_demands.specs.RegradeSheets.{buyer_b, two_failures_before_redesignation, two_failures_before_redesignation_results, five_minor_defects_fewer, five_minor_defects_fewer_results, failure_of_second_plan}

-- what they leave of a buffer with room for their four units
abbrev pub more_left : List ℕ → List ℕ
more_left buffer = two_failures_before_redesignation_results ++ drop (result_size * 4) buffer

abbrev pub fewer_left : List ℕ → List ℕ
fewer_left buffer = five_minor_defects_fewer_results ++ drop (result_size * 4) buffer

-- one of the four units
pub data OneOfFour : ℕ → Type 0 where
  record0 : OneOfFour 0
  record1 : OneOfFour 1
  record3 : OneOfFour 3
  record5 : OneOfFour 5

-- what is recorded of the unit that is record i, under B
pub record RecordedInstance (buffer : List ℕ) (i cusum overshoot portion standing : ℕ) : Type 0 where
  pub mark : recorded_mark two_failures_before_redesignation (more_left buffer) i ≡ 0x4752
  pub plan_grade_holds : recorded_plan_grade two_failures_before_redesignation (more_left buffer) i ≡ 1
  pub cusum_of_total : recorded_cusum two_failures_before_redesignation (more_left buffer) i 3 ≡ cusum
  pub overshoot_of_total : recorded_overshoot two_failures_before_redesignation (more_left buffer) i 3 ≡ overshoot
  pub portion_grade_holds : recorded_portion_grade two_failures_before_redesignation (more_left buffer) i ≡ portion
  pub standing_recorded : recorded_standing two_failures_before_redesignation (more_left buffer) i ≡ standing

-- no worse at the unit that is record i, in every class
pub record NoWorseInstance (buffer buffer' : List ℕ) (i : ℕ) : Type 0 where
  pub cusums : (class : ℕ) → class < length classes
      → recorded_cusum five_minor_defects_fewer (fewer_left buffer) i class ≤ recorded_cusum two_failures_before_redesignation (more_left buffer') i class
  pub overshoots : (class : ℕ) → class < length classes
      → recorded_overshoot five_minor_defects_fewer (fewer_left buffer) i class ≤ recorded_overshoot two_failures_before_redesignation (more_left buffer') i class
  pub failures : (class : ℕ) → class < length classes → fails_regraded_at (regraded_sheet five_minor_defects_fewer buyer_b) class i ≡ true
      → fails_regraded_at (regraded_sheet two_failures_before_redesignation buyer_b) class i ≡ true
  pub portions : recorded_portion_grade five_minor_defects_fewer (fewer_left buffer) i ≤ recorded_portion_grade two_failures_before_redesignation (more_left buffer') i
  pub codes : recorded_code_grade five_minor_defects_fewer (fewer_left buffer) i ≤ recorded_code_grade two_failures_before_redesignation (more_left buffer') i

pub record RegradeInstances : Type 0 where
  -- demand 1: every byte behind the four records is kept
  pub kept : (buffer : List ℕ) → result_size * 4 ≤ length buffer
      → drop (result_size * 4) (regrade_outcome two_failures_before_redesignation buyer_b buffer).buffer ≡ drop (result_size * 4) buffer
  -- the grounds: none applies to it; under a second plan cut short by its last byte 18 is the first row met of another sheet, behind its
  -- records and before 13, whatever the buffer
  pub none_accepted : (buffer : List ℕ) → result_size * 4 ≤ length buffer → (number at : ℕ)
      → Ground (regrade_grounds two_failures_before_redesignation buyer_b buffer) number at → ⊥
  pub first_is_18 : (buffer : List ℕ) → FirstRowMet (regrade_grounds failure_of_second_plan (take 74 buyer_b) buffer) 18 (length failure_of_second_plan)
  -- demand 2: record 1 fails from L of record 0, record 3 goes on from L behind the redesignation, record 5 from S behind the break. C is
  -- the lower grade of B that 14 defects get; standing 1 failed, 0 met
  pub opening_fails : (buffer : List ℕ) → result_size * 4 ≤ length buffer → RecordedInstance buffer 0 60 10 2 1
  pub fails_again : (buffer : List ℕ) → result_size * 4 ≤ length buffer → RecordedInstance buffer 1 60 45 2 1
  pub behind_redesignation : (buffer : List ℕ) → result_size * 4 ≤ length buffer → RecordedInstance buffer 3 55 0 1 0
  pub behind_break : (buffer : List ℕ) → result_size * 4 ≤ length buffer → RecordedInstance buffer 5 50 0 1 0
  -- demand 3: from any latest anchor of each of the four units, wherever it lies, in every class
  pub largest_of : (buffer : List ℕ) → result_size * 4 ≤ length buffer → (i : ℕ) → OneOfFour i → (class : ℕ) → class < length classes
      → (from records : ℕ) (failed : Bool) → from + records ≡ suc i → RegradeAnchor two_failures_before_redesignation buyer_b class i from failed
      → ((j : ℕ) → from ≤ j → j ≤ i → fails_regraded_at (regraded_sheet two_failures_before_redesignation buyer_b) class j ≡ false)
      → ((j : ℕ) → from ≤ j → j < i → IsBreak two_failures_before_redesignation j → ⊥)
      → pos (recorded_cusum two_failures_before_redesignation (more_left buffer) i class)
      ≡ largest_form (second_numbers two_failures_before_redesignation buyer_b class) (anchor_value (second_numbers two_failures_before_redesignation buyer_b class) failed)
      (tenths_from (regraded_sheet two_failures_before_redesignation buyer_b) class from records)
  -- and of total at record 3 in numbers: L at the failure of record 1, and 9 defects since it, as the redesignation is no restart
  pub anchor_of_failure : RegradeAnchor two_failures_before_redesignation buyer_b 3 3 2 true
  pub tenths_since : tenths_from (regraded_sheet two_failures_before_redesignation buyer_b) 3 2 2 ≡ 90 ∷ []
  pub largest_in_numbers : largest_form (second_numbers two_failures_before_redesignation buyer_b 3)
      (anchor_value (second_numbers two_failures_before_redesignation buyer_b 3) true) (90 ∷ [])
      ≡ pos 55
  -- the pair: alike but for five minor defects of record 1. No unit is worse, behind the two failures in a row of the second and behind the
  -- redesignation, too; at records 1 and 3 the first is better, and so is its code behind the break
  pub no_worse : (buffer buffer' : List ℕ) → result_size * 4 ≤ length buffer → result_size * 4 ≤ length buffer' → (i : ℕ) → OneOfFour i
      → NoWorseInstance buffer buffer' i
  pub better_portion : (buffer buffer' : List ℕ)
      → recorded_portion_grade five_minor_defects_fewer (fewer_left buffer) 1 < recorded_portion_grade two_failures_before_redesignation (more_left buffer') 1
  pub lower_cusum : (buffer buffer' : List ℕ)
      → recorded_cusum five_minor_defects_fewer (fewer_left buffer) 3 3 < recorded_cusum two_failures_before_redesignation (more_left buffer') 3 3
  pub smaller_overshoot : (buffer buffer' : List ℕ)
      → recorded_overshoot five_minor_defects_fewer (fewer_left buffer) 1 3 < recorded_overshoot two_failures_before_redesignation (more_left buffer') 1 3
  pub better_code : (buffer buffer' : List ℕ)
      → recorded_code_grade five_minor_defects_fewer (fewer_left buffer) 5 < recorded_code_grade two_failures_before_redesignation (more_left buffer') 5
  pub fails_only_in_second : (fails_regraded_at (regraded_sheet five_minor_defects_fewer buyer_b) 3 1 ≡ false)
      × (fails_regraded_at (regraded_sheet two_failures_before_redesignation buyer_b) 3 1 ≡ true)

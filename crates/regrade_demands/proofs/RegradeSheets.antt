-- The regradings, each by computation in a buffer of which only the length is known. The two numbers are the sheet's records and units.
use Prim.Native.Nat.{ℕ, ◌*◌, ◌<◌, ◌≤◌}
use mathlib.Core.Path.{◌≡◌, refl}
use mathlib.Core.Bool.{false}
use mathlib.Core.List.{List}
use lib.ListN.{length}
use borrow.Author.Tests.{lt-ltb, le-ltb}
use Rattle.units.specs.Conditions.{pick}
use Rattle.sheet.specs.Refusals.{verdict}
use Rattle.sheet.specs.Verdict.{Accepted}
use Rattle.results.specs.Record.{result_size}
use Rattle.outcome.specs.Outcome.{refusal}
use Rattle.regrade.specs.Outcome.{second_plan_wrong, regraded, regrade_by, regrade_outcome}
use Rattle.regrade.proofs.Computing.{computing}
use Rattle.computed.specs.FurtherSheets.{largest_plan}
use Rattle.regrade_demands.specs.RegradeSheets.{FailureSheets, RedesignationSheets, BreakSheets, SecondPlanSheets, UnitSheets, FewerSheets, RefusedSheets, WrongPlanSheets, RegradeSheets, recorded_plan, buyer_a, buyer_b, buyer_c, manual_plan, manual_example, manual_example_results, failure_of_recorded_plan, failure_of_recorded_plan_results, failure_of_second_plan, failure_of_second_plan_results, two_failures, two_failures_results, three_failures, three_failures_results, failure_behind_worse_one, failure_behind_worse_one_results, two_failures_in_different_classes, two_failures_in_different_classes_results, step_three_of_recorded_plan, step_three_of_recorded_plan_results, no_unit_recoverable, no_unit_recoverable_results, redesignation_between_units, redesignation_between_units_results, redesignation_before_first_unit, redesignation_before_first_unit_results, redesignations_to_every_grade, redesignations_to_every_grade_results, redesignation_between_failures, redesignation_between_failures_results, redesignation_beside_break, redesignation_beside_break_results, redesignation_to_c_under_a, redesignation_to_c_under_a_results, break_between_units, break_between_units_results, break_between_failures, break_between_failures_results, break_behind_zero, break_behind_zero_results, breaks_in_every_class, breaks_in_every_class_results, second_plan_of_c, second_plan_of_c_results, second_plan_of_a, second_plan_of_a_results, every_class_under_a, every_class_under_a_results, every_class_under_b, every_class_under_b_results, every_class_under_c, every_class_under_c_results, lower_grades_by_total, lower_grades_by_total_results, lower_grades_by_other_classes, lower_grades_by_other_classes_results, counts_that_a_admits, counts_that_a_admits_results, raw_value_at_limit, raw_value_at_limit_results, tenth_above_limit, tenth_above_limit_results, below_zero, below_zero_results, overshoot_above_two_bytes, overshoot_above_two_bytes_results, largest_cusums_regraded, largest_cusums_regraded_results, prerequisites, prerequisites_results, prerequisite_substandard, prerequisite_substandard_results, code_met_again, code_met_again_results, code_met_again_later, code_met_again_later_results, codes_across_break_and_redesignation, codes_across_break_and_redesignation_results, codes_alike_in_one_byte, codes_alike_in_one_byte_results, no_unit, no_unit_results, no_unit_but_records, no_unit_but_records_results, two_failures_before_redesignation, two_failures_before_redesignation_results, five_minor_defects_fewer, five_minor_defects_fewer_results, ground1, ground2, ground3, ground4, ground5, ground6, ground7, ground8, ground9, ground10, ground11, ground11_by_recorded_plan, buffer_without_room}

-- a sheet that passes is graded under a right second plan in a buffer that has room for its records, and refused with 13 in one that has not
module _ (bytes plan buffer : List ℕ) (records units : ℕ) (passes : verdict bytes ≡ Accepted records units) (right : second_plan_wrong plan ≡ false) where
  accepts : result_size * units ≤ length buffer → regrade_outcome bytes plan buffer ≡ regraded bytes plan buffer records units
  unfolding pick regrade_by regrade_outcome
  accepts room = rw (passes, right, le-ltb (length buffer) (result_size * units) room)

  without_room : length buffer < result_size * units → regrade_outcome bytes plan buffer ≡ refusal 13 (length bytes) buffer
  unfolding pick regrade_by regrade_outcome
  without_room short = rw (passes, right, lt-ltb (length buffer) (result_size * units) short)

right_a : second_plan_wrong buyer_a ≡ false
unfolding computing buyer_a
right_a = refl

right_b : second_plan_wrong buyer_b ≡ false
unfolding computing buyer_a buyer_b
right_b = refl

right_c : second_plan_wrong buyer_c ≡ false
unfolding computing buyer_a buyer_c
right_c = refl

right_manual : second_plan_wrong manual_plan ≡ false
unfolding computing manual_plan
right_manual = refl

right_largest : second_plan_wrong largest_plan ≡ false
unfolding computing largest_plan
right_largest = refl

failure_sheets : FailureSheets
unfolding computing recorded_plan buyer_a buyer_b manual_plan manual_example manual_example_results failure_of_recorded_plan
    failure_of_recorded_plan_results failure_of_second_plan failure_of_second_plan_results two_failures two_failures_results three_failures
    three_failures_results two_failures_in_different_classes two_failures_in_different_classes_results step_three_of_recorded_plan
    step_three_of_recorded_plan_results no_unit_recoverable no_unit_recoverable_results
    failure_behind_worse_one failure_behind_worse_one_results
failure_sheets =
    record {
      manual_example_holds = λ buffer room. accepts manual_example manual_plan buffer 7 7 refl right_manual room;
      failure_of_recorded_plan_holds = λ buffer room. accepts failure_of_recorded_plan buyer_b buffer 3 3 refl right_b room;
      failure_of_second_plan_holds = λ buffer room. accepts failure_of_second_plan buyer_b buffer 3 3 refl right_b room;
      two_failures_holds = λ buffer room. accepts two_failures buyer_b buffer 3 3 refl right_b room;
      three_failures_holds = λ buffer room. accepts three_failures buyer_b buffer 4 4 refl right_b room;
      failure_behind_worse_one_holds = λ buffer room. accepts failure_behind_worse_one buyer_b buffer 3 3 refl right_b room;
      two_failures_in_different_classes_holds = λ buffer room. accepts two_failures_in_different_classes buyer_b buffer 3 3 refl right_b room;
      step_three_of_recorded_plan_holds = λ buffer room. accepts step_three_of_recorded_plan buyer_b buffer 7 7 refl right_b room;
      no_unit_recoverable_holds = λ buffer room. accepts no_unit_recoverable buyer_b buffer 7 7 refl right_b room;
    }

redesignation_sheets : RedesignationSheets
unfolding computing recorded_plan buyer_a buyer_b redesignation_between_units redesignation_between_units_results redesignation_before_first_unit
    redesignation_before_first_unit_results redesignations_to_every_grade redesignations_to_every_grade_results redesignation_between_failures
    redesignation_between_failures_results redesignation_beside_break redesignation_beside_break_results redesignation_to_c_under_a
    redesignation_to_c_under_a_results
redesignation_sheets =
    record {
      redesignation_between_units_holds = λ buffer room. accepts redesignation_between_units buyer_b buffer 3 2 refl right_b room;
      redesignation_before_first_unit_holds = λ buffer room. accepts redesignation_before_first_unit buyer_b buffer 3 2 refl right_b room;
      redesignations_to_every_grade_holds = λ buffer room. accepts redesignations_to_every_grade buyer_b buffer 6 3 refl right_b room;
      redesignation_between_failures_holds = λ buffer room. accepts redesignation_between_failures buyer_b buffer 4 3 refl right_b room;
      redesignation_beside_break_holds = λ buffer room. accepts redesignation_beside_break buyer_b buffer 7 3 refl right_b room;
      redesignation_to_c_under_a_holds = λ buffer room. accepts redesignation_to_c_under_a buyer_a buffer 4 3 refl right_a room;
    }

break_sheets : BreakSheets
unfolding computing recorded_plan buyer_a buyer_b buyer_c break_between_units break_between_units_results break_between_failures
    break_between_failures_results break_behind_zero break_behind_zero_results breaks_in_every_class breaks_in_every_class_results
break_sheets =
    record {
      break_between_units_holds = λ buffer room. accepts break_between_units buyer_b buffer 4 3 refl right_b room;
      break_between_failures_holds = λ buffer room. accepts break_between_failures buyer_b buffer 4 3 refl right_b room;
      break_behind_zero_holds = λ buffer room. accepts break_behind_zero buyer_b buffer 7 3 refl right_b room;
      breaks_in_every_class_holds = λ buffer room. accepts breaks_in_every_class buyer_c buffer 3 2 refl right_c room;
    }

second_plan_sheets : SecondPlanSheets
unfolding computing recorded_plan buyer_a buyer_b buyer_c second_plan_of_c second_plan_of_c_results second_plan_of_a second_plan_of_a_results every_class_under_a
    every_class_under_a_results every_class_under_b every_class_under_b_results every_class_under_c every_class_under_c_results lower_grades_by_total
    lower_grades_by_total_results lower_grades_by_other_classes lower_grades_by_other_classes_results counts_that_a_admits counts_that_a_admits_results
second_plan_sheets =
    record {
      second_plan_of_c_holds = λ buffer room. accepts second_plan_of_c buyer_c buffer 3 3 refl right_c room;
      second_plan_of_a_holds = λ buffer room. accepts second_plan_of_a buyer_a buffer 2 2 refl right_a room;
      every_class_under_a_holds = λ buffer room. accepts every_class_under_a buyer_a buffer 3 3 refl right_a room;
      every_class_under_b_holds = λ buffer room. accepts every_class_under_b buyer_b buffer 3 3 refl right_b room;
      every_class_under_c_holds = λ buffer room. accepts every_class_under_c buyer_c buffer 3 3 refl right_c room;
      lower_grades_by_total_holds = λ buffer room. accepts lower_grades_by_total buyer_a buffer 5 5 refl right_a room;
      lower_grades_by_other_classes_holds = λ buffer room. accepts lower_grades_by_other_classes buyer_a buffer 6 6 refl right_a room;
      counts_that_a_admits_holds = λ buffer room. accepts counts_that_a_admits buyer_b buffer 4 4 refl right_b room;
    }

unit_sheets : UnitSheets
unfolding computing recorded_plan buyer_a buyer_b raw_value_at_limit raw_value_at_limit_results tenth_above_limit tenth_above_limit_results below_zero
    below_zero_results overshoot_above_two_bytes overshoot_above_two_bytes_results largest_plan largest_cusums_regraded largest_cusums_regraded_results
    prerequisites prerequisites_results prerequisite_substandard
    prerequisite_substandard_results code_met_again code_met_again_results code_met_again_later code_met_again_later_results codes_alike_in_one_byte
    codes_alike_in_one_byte_results no_unit no_unit_results no_unit_but_records no_unit_but_records_results
    codes_across_break_and_redesignation codes_across_break_and_redesignation_results
unit_sheets =
    record {
      raw_value_at_limit_holds = λ buffer room. accepts raw_value_at_limit buyer_b buffer 2 2 refl right_b room;
      tenth_above_limit_holds = λ buffer room. accepts tenth_above_limit buyer_b buffer 1 1 refl right_b room;
      below_zero_holds = λ buffer room. accepts below_zero buyer_b buffer 2 2 refl right_b room;
      overshoot_above_two_bytes_holds = λ buffer room. accepts overshoot_above_two_bytes buyer_b buffer 1 1 refl right_b room;
      largest_cusums_regraded_holds = λ buffer room. accepts largest_cusums_regraded largest_plan buffer 3 3 refl right_largest room;
      prerequisites = λ buffer room. accepts prerequisites buyer_b buffer 4 4 refl right_b room;
      prerequisite_substandard_holds = λ buffer room. accepts prerequisite_substandard buyer_b buffer 3 3 refl right_b room;
      code_met_again_holds = λ buffer room. accepts code_met_again buyer_b buffer 3 3 refl right_b room;
      code_met_again_later_holds = λ buffer room. accepts code_met_again_later buyer_b buffer 4 4 refl right_b room;
      codes_across_break_and_redesignation_holds = λ buffer room. accepts codes_across_break_and_redesignation buyer_b buffer 7 4 refl right_b room;
      codes_alike_in_one_byte_holds = λ buffer room. accepts codes_alike_in_one_byte buyer_b buffer 3 3 refl right_b room;
      no_unit_holds = λ buffer room. accepts no_unit buyer_b buffer 0 0 refl right_b room;
      no_unit_but_records_holds = λ buffer room. accepts no_unit_but_records buyer_b buffer 4 0 refl right_b room;
    }

fewer_sheets : FewerSheets
unfolding computing recorded_plan buyer_a buyer_b two_failures_before_redesignation two_failures_before_redesignation_results five_minor_defects_fewer
    five_minor_defects_fewer_results
fewer_sheets =
    record {
      two_failures_before_redesignation_holds = λ buffer room. accepts two_failures_before_redesignation buyer_b buffer 6 4 refl right_b room;
      five_minor_defects_fewer_holds = λ buffer room. accepts five_minor_defects_fewer buyer_b buffer 6 4 refl right_b room;
    }

refused_sheets : RefusedSheets
unfolding computing recorded_plan buyer_a buyer_b ground1 ground2 ground3 ground4 ground5 ground6 ground7 ground8 ground9 ground10 ground11
    ground11_by_recorded_plan buffer_without_room
refused_sheets =
    record {
      ground_1 = λ buffer. refl;
      ground_2 = λ buffer. refl;
      ground_3 = λ buffer. refl;
      ground_4 = λ buffer. refl;
      ground_5 = λ buffer. refl;
      ground_6 = λ buffer. refl;
      ground_7 = λ buffer. refl;
      ground_8 = λ buffer. refl;
      ground_9 = λ buffer. refl;
      ground_10 = λ buffer. refl;
      ground_11 = λ buffer. refl;
      ground_11_by_recorded_plan = λ buffer. refl;
      buffer_without_room_holds = λ buffer short. without_room buffer_without_room buyer_b buffer 4 2 refl right_b short;
    }

wrong_plan_sheets : WrongPlanSheets
unfolding computing recorded_plan buyer_a buyer_b failure_of_second_plan no_unit
wrong_plan_sheets =
    record {
      no_byte_holds = λ buffer. refl;
      byte_less = λ buffer. refl;
      byte_more = λ buffer. refl;
      plan_and_unit = λ buffer. refl;
      another_first_byte = λ buffer. refl;
      another_second_byte = λ buffer. refl;
      no_designated_plan = λ buffer. refl;
      limit_too_large = λ buffer. refl;
      start_too_large = λ buffer. refl;
      tolerance_too_large = λ buffer. refl;
      start_above_limit_holds = λ buffer. refl;
      start_above_limit_at_c = λ buffer. refl;
      smaller_tolerance = λ buffer. refl;
      smaller_sum = λ buffer. refl;
      smaller_tolerance_at_c = λ buffer. refl;
      smaller_sum_at_c = λ buffer. refl;
      no_unit_to_grade = λ buffer. refl;
    }

pub regrade_sheets : RegradeSheets
regrade_sheets =
    record {
      failures = failure_sheets;
      redesignations = redesignation_sheets;
      breaks = break_sheets;
      second_plans = second_plan_sheets;
      units = unit_sheets;
      fewer_defects = fewer_sheets;
      refusals = refused_sheets;
      wrong_plans = wrong_plan_sheets;
    }

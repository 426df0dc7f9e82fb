-- The further sheets, each by computation in a buffer of which only the length is known. The two numbers are the sheet's records and
-- units. Each record doubles the cost of the offsets, which are found from the plan on: eight records take a fraction of a second,
-- twenty more steps than a declaration may. The full sheets are cases of a law.
use mathlib.Core.Path.{refl}
use lib.Dec.{lit<}
use Rattle.tally.proofs.Computing.{computing}
use Rattle.computed.specs.WorkedCases.{peach_plan}
use Rattle.computed.specs.FurtherSheets.{BreakSheets, RedesignationSheets, UnitSheets, StepThreeSheets, LowerPlanSheets, OvershootSheets, FewerDefectSheets, RefusedSheets, FullSheets, FurtherSheets, largest_plan, ground12, grounds12_and8, grounds7_and12, break_between_units, break_between_units_results, break_between_failures, break_between_failures_results, break_in_step_three, break_in_step_three_results, break_in_run, break_in_run_results, break_without_plan, break_without_plan_results, no_unit, no_unit_results, no_unit_but_records, no_unit_but_records_results, redesignation_outside_step_three, redesignation_outside_step_three_results, redesignation_in_step_three, redesignation_in_step_three_results, redesignation_in_run, redesignation_in_run_results, redesignation_to_lower_grade, redesignation_to_lower_grade_results, redesignation_below_lower_grade, redesignation_below_lower_grade_results, redesignation_without_plan, redesignation_without_plan_results, redesignation_after_step_three, redesignation_after_step_three_results, every_kind_of_record, every_kind_of_record_results, best_lower_grade, best_lower_grade_results, designated_c_failed_twice, designated_c_failed_twice_results, prerequisite_substandard, prerequisite_substandard_results, prerequisites_of_two_failures, prerequisites_of_two_failures_results, total_alone_fails, total_alone_fails_results, two_classes_fail_in_turn, two_classes_fail_in_turn_results, unit_that_meets_between_failures, unit_that_meets_between_failures_results, code_met_again, code_met_again_results, start_equal_to_limit, start_equal_to_limit_results, cusums_of_two_bytes, cusums_of_two_bytes_results, largest_cusums, largest_cusums_results, p1_in_bytes, p1_in_bytes_results, failure_in_step_three, failure_in_step_three_results, lower_than_plan_in_force, lower_than_plan_in_force_results, above_tolerance, above_tolerance_results, cusum_above_zero, cusum_above_zero_results, recovery, recovery_results, recovery_without_plan, recovery_without_plan_results, after_step_three, after_step_three_results, p7_and_p8_in_bytes, p7_and_p8_in_bytes_results, every_lower_plan, every_lower_plan_results, one_failure_behind_start_of_step_three, one_failure_behind_start_of_step_three_results, three_failures_in_step_three, three_failures_in_step_three_results, worse_failure_first_in_step_three, worse_failure_first_in_step_three_results, worse_failure_second_in_step_three, worse_failure_second_in_step_three_results, unit_that_meets_between_failures_in_step_three, unit_that_meets_between_failures_in_step_three_results, break_between_failures_in_step_three, break_between_failures_in_step_three_results, redesignation_between_failures_in_step_three, redesignation_between_failures_in_step_three_results, end_of_step_three_between_failures, end_of_step_three_between_failures_results, run_before_another_lower_plan, run_before_another_lower_plan_results, recovery_under_another_lower_plan, recovery_under_another_lower_plan_results, redesignation_after_another_lower_plan, redesignation_after_another_lower_plan_results, overshoot_above_two_bytes, overshoot_above_two_bytes_results, overshoots_around_two_bytes, overshoots_around_two_bytes_results, overshoots_in_every_class, overshoots_in_every_class_results, raw_value_at_limit, raw_value_at_limit_results, no_overshoot_without_plan, no_overshoot_without_plan_results, one_minor_defect_fewer, one_minor_defect_fewer_results, one_severe_defect_fewer, one_severe_defect_fewer_results, no_defect_in_place_of_one, no_defect_in_place_of_one_results, plan_cut_short, grounds1_and2, grounds2_and3, grounds3_and4, grounds4_and5, ground5_by_sum, ground5_by_tolerance, one_byte_left, second_plan, mark_alone, grounds7_and8, grounds8_and9, ground9_before8, recoverable_above1, new_grade_above_c, ground11_before10, ground11_by_last_redesignation, ground11_in_step_three, buffer_without_room}
use Rattle.computed.proofs.Computed.{accepts, without_room}
use Rattle.computed.proofs.FullSheet.{cut_short, one_too_many}

break_sheets : BreakSheets
unfolding computing peach_plan break_between_units break_between_units_results break_between_failures break_between_failures_results break_in_step_three
    break_in_step_three_results break_in_run break_in_run_results break_without_plan break_without_plan_results no_unit no_unit_results no_unit_but_records no_unit_but_records_results
break_sheets =
    record {
      break_between_units_holds = λ buffer holds. accepts break_between_units buffer 4 3 refl holds;
      break_between_failures_holds = λ buffer holds. accepts break_between_failures buffer 4 3 refl holds;
      break_in_step_three_holds = λ buffer holds. accepts break_in_step_three buffer 5 4 refl holds;
      break_in_run_holds = λ buffer holds. accepts break_in_run buffer 7 6 refl holds;
      break_without_plan_holds = λ buffer holds. accepts break_without_plan buffer 8 7 refl holds;
      no_unit_holds = λ buffer holds. accepts no_unit buffer 0 0 refl holds;
      no_unit_but_records_holds = λ buffer holds. accepts no_unit_but_records buffer 4 0 refl holds;
    }

redesignation_sheets : RedesignationSheets
unfolding computing peach_plan redesignation_outside_step_three redesignation_outside_step_three_results redesignation_in_step_three
    redesignation_in_step_three_results redesignation_in_run redesignation_in_run_results redesignation_to_lower_grade redesignation_to_lower_grade_results
    redesignation_below_lower_grade redesignation_below_lower_grade_results redesignation_without_plan redesignation_without_plan_results
    redesignation_after_step_three redesignation_after_step_three_results every_kind_of_record every_kind_of_record_results
redesignation_sheets =
    record {
      redesignation_outside_step_three_holds = λ buffer holds. accepts redesignation_outside_step_three buffer 4 3 refl holds;
      redesignation_in_step_three_holds = λ buffer holds. accepts redesignation_in_step_three buffer 5 4 refl holds;
      redesignation_in_run_holds = λ buffer holds. accepts redesignation_in_run buffer 8 7 refl holds;
      redesignation_to_lower_grade_holds = λ buffer holds. accepts redesignation_to_lower_grade buffer 5 4 refl holds;
      redesignation_below_lower_grade_holds = λ buffer holds. accepts redesignation_below_lower_grade buffer 5 4 refl holds;
      redesignation_without_plan_holds = λ buffer holds. accepts redesignation_without_plan buffer 7 6 refl holds;
      redesignation_after_step_three_holds = λ buffer holds. accepts redesignation_after_step_three buffer 7 6 refl holds;
      every_kind_of_record_holds = λ buffer holds. accepts every_kind_of_record buffer 9 6 refl holds;
    }

unit_sheets : UnitSheets
unfolding computing peach_plan best_lower_grade best_lower_grade_results designated_c_failed_twice designated_c_failed_twice_results prerequisite_substandard
    prerequisite_substandard_results prerequisites_of_two_failures prerequisites_of_two_failures_results total_alone_fails total_alone_fails_results
    two_classes_fail_in_turn two_classes_fail_in_turn_results unit_that_meets_between_failures unit_that_meets_between_failures_results code_met_again code_met_again_results
    start_equal_to_limit start_equal_to_limit_results cusums_of_two_bytes cusums_of_two_bytes_results largest_plan largest_cusums largest_cusums_results
    p1_in_bytes p1_in_bytes_results
unit_sheets =
    record {
      best_lower_grade_holds = λ buffer holds. accepts best_lower_grade buffer 7 4 refl holds;
      designated_c_failed_twice_holds = λ buffer holds. accepts designated_c_failed_twice buffer 3 3 refl holds;
      prerequisite_substandard_holds = λ buffer holds. accepts prerequisite_substandard buffer 3 3 refl holds;
      prerequisites_of_two_failures_holds = λ buffer holds. accepts prerequisites_of_two_failures buffer 3 3 refl holds;
      total_alone_fails_holds = λ buffer holds. accepts total_alone_fails buffer 5 3 refl holds;
      two_classes_fail_in_turn_holds = λ buffer holds. accepts two_classes_fail_in_turn buffer 3 3 refl holds;
      unit_that_meets_between_failures_holds = λ buffer holds. accepts unit_that_meets_between_failures buffer 4 4 refl holds;
      code_met_again_holds = λ buffer holds. accepts code_met_again buffer 4 4 refl holds;
      start_equal_to_limit_holds = λ buffer holds. accepts start_equal_to_limit buffer 2 2 refl holds;
      cusums_of_two_bytes_holds = λ buffer holds. accepts cusums_of_two_bytes buffer 3 3 refl holds;
      largest_cusums_holds = λ buffer holds. accepts largest_cusums buffer 3 3 refl holds;
      p1_in_bytes_holds = λ buffer holds. accepts p1_in_bytes buffer 5 5 refl holds;
    }

step_three_sheets : StepThreeSheets
unfolding computing peach_plan failure_in_step_three failure_in_step_three_results lower_than_plan_in_force lower_than_plan_in_force_results
    above_tolerance above_tolerance_results cusum_above_zero cusum_above_zero_results recovery recovery_results recovery_without_plan recovery_without_plan_results after_step_three
    after_step_three_results p7_and_p8_in_bytes p7_and_p8_in_bytes_results
step_three_sheets =
    record {
      failure_in_step_three_holds = λ buffer holds. accepts failure_in_step_three buffer 4 4 refl holds;
      lower_than_plan_in_force_holds = λ buffer holds. accepts lower_than_plan_in_force buffer 4 4 refl holds;
      above_tolerance_holds = λ buffer holds. accepts above_tolerance buffer 6 6 refl holds;
      cusum_above_zero_holds = λ buffer holds. accepts cusum_above_zero buffer 6 6 refl holds;
      recovery = λ buffer holds. accepts recovery buffer 6 6 refl holds;
      recovery_without_plan_holds = λ buffer holds. accepts recovery_without_plan buffer 7 7 refl holds;
      after_step_three_holds = λ buffer holds. accepts after_step_three buffer 7 7 refl holds;
      p7_and_p8_in_bytes_holds = λ buffer holds. accepts p7_and_p8_in_bytes buffer 8 8 refl holds;
    }

lower_plan_sheets : LowerPlanSheets
unfolding computing peach_plan every_lower_plan every_lower_plan_results one_failure_behind_start_of_step_three one_failure_behind_start_of_step_three_results
    three_failures_in_step_three three_failures_in_step_three_results worse_failure_first_in_step_three worse_failure_first_in_step_three_results
    worse_failure_second_in_step_three worse_failure_second_in_step_three_results unit_that_meets_between_failures_in_step_three
    unit_that_meets_between_failures_in_step_three_results break_between_failures_in_step_three break_between_failures_in_step_three_results
    redesignation_between_failures_in_step_three redesignation_between_failures_in_step_three_results end_of_step_three_between_failures
    end_of_step_three_between_failures_results run_before_another_lower_plan run_before_another_lower_plan_results recovery_under_another_lower_plan recovery_under_another_lower_plan_results
    redesignation_after_another_lower_plan redesignation_after_another_lower_plan_results
lower_plan_sheets =
    record {
      every_lower_plan_holds = λ buffer holds. accepts every_lower_plan buffer 7 7 refl holds;
      one_failure_behind_start_of_step_three_holds = λ buffer holds. accepts one_failure_behind_start_of_step_three buffer 4 4 refl holds;
      three_failures_in_step_three_holds = λ buffer holds. accepts three_failures_in_step_three buffer 6 6 refl holds;
      worse_failure_first_in_step_three_holds = λ buffer holds. accepts worse_failure_first_in_step_three buffer 5 5 refl holds;
      worse_failure_second_in_step_three_holds = λ buffer holds. accepts worse_failure_second_in_step_three buffer 5 5 refl holds;
      unit_that_meets_between_failures_in_step_three_holds = λ buffer holds. accepts unit_that_meets_between_failures_in_step_three buffer 6 6 refl holds;
      break_between_failures_in_step_three_holds = λ buffer holds. accepts break_between_failures_in_step_three buffer 6 5 refl holds;
      redesignation_between_failures_in_step_three_holds = λ buffer holds. accepts redesignation_between_failures_in_step_three buffer 6 5 refl holds;
      end_of_step_three_between_failures_holds = λ buffer holds. accepts end_of_step_three_between_failures buffer 6 5 refl holds;
      run_before_another_lower_plan_holds = λ buffer holds. accepts run_before_another_lower_plan buffer 8 8 refl holds;
      recovery_under_another_lower_plan_holds = λ buffer holds. accepts recovery_under_another_lower_plan buffer 8 8 refl holds;
      redesignation_after_another_lower_plan_holds = λ buffer holds. accepts redesignation_after_another_lower_plan buffer 6 5 refl holds;
    }

overshoot_sheets : OvershootSheets
unfolding computing peach_plan overshoot_above_two_bytes overshoot_above_two_bytes_results overshoots_around_two_bytes overshoots_around_two_bytes_results
    overshoots_in_every_class overshoots_in_every_class_results raw_value_at_limit raw_value_at_limit_results no_overshoot_without_plan no_overshoot_without_plan_results
overshoot_sheets =
    record {
      overshoot_above_two_bytes_holds = λ buffer holds. accepts overshoot_above_two_bytes buffer 1 1 refl holds;
      overshoots_around_two_bytes_holds = λ buffer holds. accepts overshoots_around_two_bytes buffer 2 2 refl holds;
      overshoots_in_every_class_holds = λ buffer holds. accepts overshoots_in_every_class buffer 3 3 refl holds;
      raw_value_at_limit_holds = λ buffer holds. accepts raw_value_at_limit buffer 2 2 refl holds;
      no_overshoot_without_plan_holds = λ buffer holds. accepts no_overshoot_without_plan buffer 3 3 refl holds;
    }

fewer_defect_sheets : FewerDefectSheets
unfolding computing peach_plan one_minor_defect_fewer one_minor_defect_fewer_results one_severe_defect_fewer one_severe_defect_fewer_results
    no_defect_in_place_of_one no_defect_in_place_of_one_results
fewer_defect_sheets =
    record {
      one_minor_defect_fewer_holds = λ buffer holds. accepts one_minor_defect_fewer buffer 4 3 refl holds;
      one_severe_defect_fewer_holds = λ buffer holds. accepts one_severe_defect_fewer buffer 7 7 refl holds;
      no_defect_in_place_of_one_holds = λ buffer holds. accepts no_defect_in_place_of_one buffer 2 2 refl holds;
    }

refused_sheets : RefusedSheets
unfolding computing peach_plan plan_cut_short grounds1_and2 grounds2_and3 grounds3_and4 grounds4_and5 ground5_by_sum ground5_by_tolerance one_byte_left second_plan
    mark_alone grounds7_and8 grounds8_and9 ground9_before8 recoverable_above1 new_grade_above_c ground11_before10 ground11_by_last_redesignation
    ground11_in_step_three buffer_without_room
refused_sheets =
    record {
      plan_cut_short_holds = λ buffer. refl;
      grounds_1_and_2 = λ buffer. refl;
      grounds_2_and_3 = λ buffer. refl;
      grounds_3_and_4 = λ buffer. refl;
      grounds_4_and_5 = λ buffer. refl;
      ground_5_by_sum = λ buffer. refl;
      ground_5_by_tolerance = λ buffer. refl;
      one_byte_left_holds = λ buffer. refl;
      second_plan_holds = λ buffer. refl;
      mark_alone_holds = λ buffer. refl;
      grounds_7_and_8 = λ buffer. refl;
      grounds_8_and_9 = λ buffer. refl;
      ground_9_before_8 = λ buffer. refl;
      recoverable_above_1 = λ buffer. refl;
      new_grade_above_c_holds = λ buffer. refl;
      ground_11_before_10 = λ buffer. refl;
      ground_11_by_last_redesignation = λ buffer. refl;
      ground_11_in_step_three = λ buffer. refl;
      buffer_without_room_holds = λ buffer short. without_room buffer_without_room buffer 3 2 refl short;
    }

full_sheets : FullSheets
unfolding ground12 grounds12_and8 grounds7_and12
full_sheets =
    record {
      ground_12 = one_too_many _ refl (lit< tt);
      grounds_12_and_8 = one_too_many _ refl (lit< tt);
      grounds_7_and_12 = cut_short _ refl (lit< tt) (lit< tt);
    }

pub further_sheets : FurtherSheets
further_sheets =
    record {
      breaks = break_sheets;
      redesignations = redesignation_sheets;
      units = unit_sheets;
      step_three_holds = step_three_sheets;
      lower_plans = lower_plan_sheets;
      overshoots = overshoot_sheets;
      fewer_defects = fewer_defect_sheets;
      refusals = refused_sheets;
      full = full_sheets;
    }

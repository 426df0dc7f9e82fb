-- The lots in bytes, each by computing.
use mathlib.Core.Path.{refl}
use Rattle.lots.proofs.Computing.{computing}
use Rattle.lots_demands.specs.ComputedLots as lots
use Rattle.lots_demands.specs.ComputedLots.{ComputedLots}

pub computed_lots : ComputedLots
unfolding computing lots.example17 lots.example19 lots.at_number_at6_units_aql10 lots.above_number_at6_units_aql10 lots.at_number_at6_units_aql15
    lots.above_number_at6_units_aql15 lots.at_number_at6_units_aql25 lots.above_number_at6_units_aql25 lots.at_number_at6_units_aql40
    lots.above_number_at6_units_aql40 lots.at_number_at6_units_aql50 lots.above_number_at6_units_aql50 lots.at_number_at6_units_aql125
    lots.above_number_at6_units_aql125 lots.at_number_at13_units_aql10 lots.above_number_at13_units_aql10 lots.at_number_at13_units_aql15
    lots.above_number_at13_units_aql15 lots.at_number_at13_units_aql25 lots.above_number_at13_units_aql25 lots.at_number_at13_units_aql40
    lots.above_number_at13_units_aql40 lots.at_number_at13_units_aql50 lots.above_number_at13_units_aql50 lots.at_number_at13_units_aql125
    lots.above_number_at13_units_aql125 lots.at_number_at21_units_aql10 lots.above_number_at21_units_aql10 lots.at_number_at21_units_aql15
    lots.above_number_at21_units_aql15 lots.at_number_at21_units_aql25 lots.above_number_at21_units_aql25 lots.at_number_at21_units_aql40
    lots.above_number_at21_units_aql40 lots.at_number_at21_units_aql50 lots.above_number_at21_units_aql50 lots.at_number_at21_units_aql125
    lots.above_number_at21_units_aql125 lots.at_number_at29_units_aql10 lots.above_number_at29_units_aql10 lots.at_number_at29_units_aql15
    lots.above_number_at29_units_aql15 lots.at_number_at29_units_aql25 lots.above_number_at29_units_aql25 lots.at_number_at29_units_aql40
    lots.above_number_at29_units_aql40 lots.at_number_at29_units_aql50 lots.above_number_at29_units_aql50 lots.at_number_at29_units_aql125
    lots.above_number_at29_units_aql125 lots.no_defect lots.some_of_each_kind lots.grade_b_by_critical lots.grade_c_by_critical lots.grade_s_by_critical
    lots.grade_b_by_severe lots.grade_c_by_severe lots.grade_s_by_severe lots.grade_b_by_major lots.grade_c_by_major lots.grade_s_by_major lots.grade_b_by_total
    lots.grade_c_by_total lots.grade_s_by_total lots.critical_b_and_severe_c lots.critical_c_and_severe_b lots.critical_b_and_major_s lots.minor_alone
    lots.total_of_all_kinds lots.prerequisite_b lots.prerequisite_c lots.prerequisite_s lots.both_b lots.prerequisite_better lots.prerequisite_worse
    lots.prerequisite_c_and_defects_s lots.prerequisite_s_and_defects_c lots.most_critical lots.most_severe lots.most_major lots.most_minor
    lots.most_of_each_kind lots.critical256 lots.minor256 lots.equal_aq_ls lots.equal_aq_ls_above_number lots.rising_aq_ls_at_b_alone
    lots.rising_aq_ls_at_c_alone lots.no_byte lots.one_byte lots.mark4_c55 lots.mark4_d54 lots.mark544_c lots.mark_alone lots.one_byte_less
    lots.one_byte_more lots.two_lots lots.sample_units0 lots.sample_units3 lots.sample_units5 lots.sample_units7 lots.sample_units14
    lots.sample_units30 lots.unlisted_a_critical lots.unlisted_a_severe lots.unlisted_a_major lots.unlisted_a_total lots.unlisted_b_critical
    lots.unlisted_b_severe lots.unlisted_b_major lots.unlisted_b_total lots.unlisted_c_critical lots.unlisted_c_severe lots.unlisted_c_major
    lots.unlisted_c_total lots.critical_falls_from_a_to_b lots.severe_falls_from_a_to_b lots.major_falls_from_a_to_b lots.total_falls_from_a_to_b
    lots.critical_falls_from_b_to_c lots.severe_falls_from_b_to_c lots.major_falls_from_b_to_c lots.total_falls_from_b_to_c lots.too_many_critical
    lots.too_many_severe lots.too_many_major lots.too_many_minor lots.greatest_count lots.prerequisite4 lots.prerequisite255 lots.mark_before_length
    lots.length_before_sample_units lots.sample_units_before_unlisted_aql lots.unlisted_aql_before_fall lots.unlisted_aql_that_falls lots.fall_before_count
    lots.count_before_prerequisite lots.all_grounds_of_fields lots.all_grounds
computed_lots =
    record {
      example_17 = refl;
      example_19 = refl;
      at_number_at_6_units_aql_10 = refl;
      above_number_at_6_units_aql_10 = refl;
      at_number_at_6_units_aql_15 = refl;
      above_number_at_6_units_aql_15 = refl;
      at_number_at_6_units_aql_25 = refl;
      above_number_at_6_units_aql_25 = refl;
      at_number_at_6_units_aql_40 = refl;
      above_number_at_6_units_aql_40 = refl;
      at_number_at_6_units_aql_50 = refl;
      above_number_at_6_units_aql_50 = refl;
      at_number_at_6_units_aql_125 = refl;
      above_number_at_6_units_aql_125 = refl;
      at_number_at_13_units_aql_10 = refl;
      above_number_at_13_units_aql_10 = refl;
      at_number_at_13_units_aql_15 = refl;
      above_number_at_13_units_aql_15 = refl;
      at_number_at_13_units_aql_25 = refl;
      above_number_at_13_units_aql_25 = refl;
      at_number_at_13_units_aql_40 = refl;
      above_number_at_13_units_aql_40 = refl;
      at_number_at_13_units_aql_50 = refl;
      above_number_at_13_units_aql_50 = refl;
      at_number_at_13_units_aql_125 = refl;
      above_number_at_13_units_aql_125 = refl;
      at_number_at_21_units_aql_10 = refl;
      above_number_at_21_units_aql_10 = refl;
      at_number_at_21_units_aql_15 = refl;
      above_number_at_21_units_aql_15 = refl;
      at_number_at_21_units_aql_25 = refl;
      above_number_at_21_units_aql_25 = refl;
      at_number_at_21_units_aql_40 = refl;
      above_number_at_21_units_aql_40 = refl;
      at_number_at_21_units_aql_50 = refl;
      above_number_at_21_units_aql_50 = refl;
      at_number_at_21_units_aql_125 = refl;
      above_number_at_21_units_aql_125 = refl;
      at_number_at_29_units_aql_10 = refl;
      above_number_at_29_units_aql_10 = refl;
      at_number_at_29_units_aql_15 = refl;
      above_number_at_29_units_aql_15 = refl;
      at_number_at_29_units_aql_25 = refl;
      above_number_at_29_units_aql_25 = refl;
      at_number_at_29_units_aql_40 = refl;
      above_number_at_29_units_aql_40 = refl;
      at_number_at_29_units_aql_50 = refl;
      above_number_at_29_units_aql_50 = refl;
      at_number_at_29_units_aql_125 = refl;
      above_number_at_29_units_aql_125 = refl;
      no_defect_holds = refl;
      some_of_each_kind_holds = refl;
      grade_b_by_critical_holds = refl;
      grade_c_by_critical_holds = refl;
      grade_s_by_critical_holds = refl;
      grade_b_by_severe_holds = refl;
      grade_c_by_severe_holds = refl;
      grade_s_by_severe_holds = refl;
      grade_b_by_major_holds = refl;
      grade_c_by_major_holds = refl;
      grade_s_by_major_holds = refl;
      grade_b_by_total_holds = refl;
      grade_c_by_total_holds = refl;
      grade_s_by_total_holds = refl;
      critical_b_and_severe_c_holds = refl;
      critical_c_and_severe_b_holds = refl;
      critical_b_and_major_s_holds = refl;
      minor_alone_holds = refl;
      total_of_all_kinds_holds = refl;
      prerequisite_b_holds = refl;
      prerequisite_c_holds = refl;
      prerequisite_s_holds = refl;
      both_b_holds = refl;
      prerequisite_better_holds = refl;
      prerequisite_worse_holds = refl;
      prerequisite_c_and_defects_s_holds = refl;
      prerequisite_s_and_defects_c_holds = refl;
      most_critical_holds = refl;
      most_severe_holds = refl;
      most_major_holds = refl;
      most_minor_holds = refl;
      most_of_each_kind_holds = refl;
      critical_256 = refl;
      minor_256 = refl;
      equal_aqls = refl;
      equal_aqls_above_number = refl;
      rising_aqls_at_b_alone = refl;
      rising_aqls_at_c_alone = refl;
      no_byte_holds = refl;
      one_byte_holds = refl;
      mark_4c_55 = refl;
      mark_4d_54 = refl;
      mark_54_4c = refl;
      mark_alone_holds = refl;
      one_byte_less_holds = refl;
      one_byte_more_holds = refl;
      two_lots_holds = refl;
      sample_units_0 = refl;
      sample_units_3 = refl;
      sample_units_5 = refl;
      sample_units_7 = refl;
      sample_units_14 = refl;
      sample_units_30 = refl;
      unlisted_a_critical_holds = refl;
      unlisted_a_severe_holds = refl;
      unlisted_a_major_holds = refl;
      unlisted_a_total_holds = refl;
      unlisted_b_critical_holds = refl;
      unlisted_b_severe_holds = refl;
      unlisted_b_major_holds = refl;
      unlisted_b_total_holds = refl;
      unlisted_c_critical_holds = refl;
      unlisted_c_severe_holds = refl;
      unlisted_c_major_holds = refl;
      unlisted_c_total_holds = refl;
      critical_falls_from_a_to_b_holds = refl;
      severe_falls_from_a_to_b_holds = refl;
      major_falls_from_a_to_b_holds = refl;
      total_falls_from_a_to_b_holds = refl;
      critical_falls_from_b_to_c_holds = refl;
      severe_falls_from_b_to_c_holds = refl;
      major_falls_from_b_to_c_holds = refl;
      total_falls_from_b_to_c_holds = refl;
      too_many_critical_holds = refl;
      too_many_severe_holds = refl;
      too_many_major_holds = refl;
      too_many_minor_holds = refl;
      greatest_count_holds = refl;
      prerequisite_4 = refl;
      prerequisite_255 = refl;
      mark_before_length_holds = refl;
      length_before_sample_units_holds = refl;
      sample_units_before_unlisted_aql_holds = refl;
      unlisted_aql_before_fall_holds = refl;
      unlisted_aql_that_falls_holds = refl;
      fall_before_count_holds = refl;
      count_before_prerequisite_holds = refl;
      all_grounds_of_fields_holds = refl;
      all_grounds_holds = refl;
    }

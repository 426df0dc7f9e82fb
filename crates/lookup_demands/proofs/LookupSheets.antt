-- The look-ups in bytes, each by computing.
use mathlib.Core.Path.{refl}
use Rattle.lookup.proofs.Computing.{computing}
use Rattle.lookup_demands.specs.LookupSheets as sheets
use Rattle.lookup_demands.specs.LookupSheets.{LookupSheets}

pub lookup_sheets : LookupSheets
unfolding computing sheets.peach_sheet sheets.peach_sheet_part sheets.only_record sheets.only_record_part sheets.worst_first
    sheets.worst_first_part sheets.worst_last sheets.worst_last_part sheets.worst_between sheets.worst_between_part sheets.first_of_equals
    sheets.first_of_equals_part sheets.first_of_equals_behind_better_one sheets.first_of_equals_behind_better_one_part sheets.byte3_before200
    sheets.byte3_before200_part sheets.byte200_before3 sheets.byte200_before3_part sheets.byte200_before255 sheets.byte200_before255_part
    sheets.byte4_before3 sheets.byte4_before3_part sheets.byte128_behind_c sheets.byte128_behind_c_part sheets.byte3_between_two_of_c
    sheets.byte3_between_two_of_c_part sheets.another_code_substandard sheets.another_code_substandard_part sheets.misleading_code_grades
    sheets.misleading_code_grades_part sheets.mark_of_zeros sheets.mark_of_zeros_part sheets.other_marks sheets.other_marks_part
    sheets.bytes_exchanged sheets.bytes_exchanged_part sheets.largest_code sheets.largest_code_part sheets.code0_in_zeros sheets.code0_in_zeros_part
    sheets.no_byte sheets.not_there sheets.code_at_mark sheets.code_at_grades sheets.code_across_two_records sheets.one_byte sheets.one_byte_less
    sheets.one_byte_more sheets.one_byte_less_than_two_records sheets.half_record sheets.record_and_half
lookup_sheets =
    record {
      peach_sheet_holds = record { place = refl; in_memory = λ block at. refl };
      only_record_holds = record { place = refl; in_memory = λ block at. refl };
      worst_first_holds = record { place = refl; in_memory = λ block at. refl };
      worst_last_holds = record { place = refl; in_memory = λ block at. refl };
      worst_between_holds = record { place = refl; in_memory = λ block at. refl };
      first_of_equals_holds = record { place = refl; in_memory = λ block at. refl };
      first_of_equals_behind_better_one_holds = record { place = refl; in_memory = λ block at. refl };
      byte_3_before_200 = record { place = refl; in_memory = λ block at. refl };
      byte_200_before_3 = record { place = refl; in_memory = λ block at. refl };
      byte_200_before_255 = record { place = refl; in_memory = λ block at. refl };
      byte_4_before_3 = record { place = refl; in_memory = λ block at. refl };
      byte_128_behind_c = record { place = refl; in_memory = λ block at. refl };
      byte_3_between_two_of_c = record { place = refl; in_memory = λ block at. refl };
      another_code_substandard_holds = record { place = refl; in_memory = λ block at. refl };
      misleading_code_grades_holds = record { place = refl; in_memory = λ block at. refl };
      mark_of_zeros_holds = record { place = refl; in_memory = λ block at. refl };
      other_marks_holds = record { place = refl; in_memory = λ block at. refl };
      bytes_exchanged_holds = record { place = refl; in_memory = λ block at. refl };
      largest_code_holds = record { place = refl; in_memory = λ block at. refl };
      code_0_in_zeros = record { place = refl; in_memory = λ block at. refl };
      no_byte_holds = record { place = refl; in_memory = λ block at. refl };
      not_there_holds = record { place = refl; in_memory = λ block at. refl };
      code_at_mark_holds = record { place = refl; in_memory = λ block at. refl };
      code_at_grades_holds = record { place = refl; in_memory = λ block at. refl };
      code_across_two_records_holds = record { place = refl; in_memory = λ block at. refl };
      one_byte_holds = record { place = refl; in_memory = λ block at. refl };
      one_byte_less_holds = record { place = refl; in_memory = λ block at. refl };
      one_byte_more_holds = record { place = refl; in_memory = λ block at. refl };
      one_byte_less_than_two_records_holds = record { place = refl; in_memory = λ block at. refl };
      half_record_holds = record { place = refl; in_memory = λ block at. refl };
      record_and_half_holds = record { place = refl; in_memory = λ block at. refl };
    }

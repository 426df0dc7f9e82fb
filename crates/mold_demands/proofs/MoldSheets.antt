-- The mold sheets, each by computation in a buffer of which only the length is known.
use mathlib.Core.Path.{◌≡◌, refl, sym}
use mathlib.Core.List.{List}
use Prim.Native.Nat.{ℕ, ◌*◌, ◌<◌, ◌≤◌}
use lib.ListN.{length}
use Rattle.outcome.specs.Outcome.{accepted_as, refusal}
use Rattle.mold.specs.Refusals.{checked}
use Rattle.mold.specs.Results.{result_size}
use Rattle.mold.specs.Outcome.{acceptance, mold_outcome}
use Rattle.mold.proofs.Cases.{outcome_short, outcome_graded}
use Rattle.mold.proofs.Computing.{computing}
use Rattle.mold_demands.specs.MoldSheets.{LevelSheets, UnitSheets, RefusedSheets, MoldSheets, manual_example, manual_example_results, level5, level5_results, level10, level10_results, level12, level12_results, level15, level15_results, level20, level20_results, level25, level25_results, below_zero, below_zero_results, two_failures, two_failures_results, no_recovery, no_recovery_results, every_field_positive, every_field_positive_results, large_codes, large_codes_results, no_unit, no_unit_results, two_bytes, another_mark, mark_of_tally_sheet, grounds1_and16, ground16, largest_level_row, grounds16_and6, one_byte_left, unit_of_tally_sheet, second_opening, ground6_before17, unit_cut_short, mark_alone, fields_missing, ground17, ground17_at_second_unit, ground17_before7, buffer_without_room}

-- a sheet that passes is graded in a buffer that has room for its records, and refused with 13 in one that has not
module _ (bytes buffer : List ℕ) (units : ℕ) (passes : accepted_as units (length bytes) ≡ checked bytes) where
  accepts : result_size * units ≤ length buffer → mold_outcome bytes buffer ≡ acceptance bytes buffer units
  accepts room = sym (outcome_graded bytes units passes buffer room)

  without_room : length buffer < result_size * units → mold_outcome bytes buffer ≡ refusal 13 (length bytes) buffer
  without_room short = sym (outcome_short bytes units passes buffer short)

level_sheets : LevelSheets
unfolding computing manual_example manual_example_results level5 level5_results level10 level10_results level12 level12_results level15
    level15_results level20 level20_results level25 level25_results
level_sheets =
    record {
      manual_example_holds = λ buffer room. accepts manual_example buffer 5 refl room;
      level_5 = λ buffer room. accepts level5 buffer 5 refl room;
      level_10 = λ buffer room. accepts level10 buffer 5 refl room;
      level_12 = λ buffer room. accepts level12 buffer 5 refl room;
      level_15 = λ buffer room. accepts level15 buffer 5 refl room;
      level_20 = λ buffer room. accepts level20 buffer 5 refl room;
      level_25 = λ buffer room. accepts level25 buffer 5 refl room;
    }

unit_sheets : UnitSheets
unfolding computing below_zero below_zero_results two_failures two_failures_results no_recovery no_recovery_results every_field_positive
    every_field_positive_results large_codes large_codes_results no_unit no_unit_results
unit_sheets =
    record {
      below_zero_holds = λ buffer room. accepts below_zero buffer 4 refl room;
      two_failures_holds = λ buffer room. accepts two_failures buffer 4 refl room;
      no_recovery_holds = λ buffer room. accepts no_recovery buffer 6 refl room;
      every_field_positive_holds = λ buffer room. accepts every_field_positive buffer 3 refl room;
      large_codes_holds = λ buffer room. accepts large_codes buffer 3 refl room;
      no_unit_holds = λ buffer room. accepts no_unit buffer 0 refl room;
    }

refused_sheets : RefusedSheets
unfolding computing two_bytes another_mark mark_of_tally_sheet grounds1_and16 ground16 largest_level_row grounds16_and6 one_byte_left
    unit_of_tally_sheet second_opening ground6_before17 unit_cut_short mark_alone fields_missing ground17 ground17_at_second_unit ground17_before7
    buffer_without_room
refused_sheets =
    record {
      two_bytes_holds = λ buffer. refl;
      another_mark_holds = λ buffer. refl;
      mark_of_tally_sheet_holds = λ buffer. refl;
      grounds_1_and_16 = λ buffer. refl;
      ground_16 = λ buffer. refl;
      largest_level_row_holds = λ buffer. refl;
      grounds_16_and_6 = λ buffer. refl;
      one_byte_left_holds = λ buffer. refl;
      unit_of_tally_sheet_holds = λ buffer. refl;
      second_opening_holds = λ buffer. refl;
      ground_6_before_17 = λ buffer. refl;
      unit_cut_short_holds = λ buffer. refl;
      mark_alone_holds = λ buffer. refl;
      fields_missing_holds = λ buffer. refl;
      ground_17 = λ buffer. refl;
      ground_17_at_second_unit = λ buffer. refl;
      ground_17_before_7 = λ buffer. refl;
      buffer_without_room_holds = λ buffer short. without_room buffer_without_room buffer 3 refl short;
    }

pub mold_sheets : MoldSheets
mold_sheets = record { levels = level_sheets; units = unit_sheets; refusals = refused_sheets }

-- Each demand on its concrete sheets, from the demand's theorem. Only its premises are computed: which answer a sheet gets, which records
-- are units, of which standing and with which code, that a plan is in force, where two units in a row fail.
use Prim.Native.Nat.{ℕ, ◌*◌, ◌≤◌}
use mathlib.Core.Path.{◌≡◌, refl, sym, ◌∙◌, ap}
use mathlib.Core.Bool.{true, false}
use mathlib.Core.List.{List, [], ◌∷◌}
use native.Mathlib.Omega.{arith}
use lib.Dec.{lit<, lit≤}
use lib.ListN.{length, replicate}
use Rattle.units.proofs.Lists.{in_none}
use Rattle.anchors.specs.TwoInARow.{second_in_a_row}
use Rattle.anchors.specs.Anchor.{class_fails_at, restart, failure, Latest}
use Rattle.results.specs.Record.{result_size}
use Rattle.outcome.specs.declared.Answer.{Answer}
use Rattle.tally.specs.Accepted.{AcceptedAs, sheet_in}
use Rattle.lookup.specs.declared.Part.{Part}
use Rattle.lookup.specs.Lookup.{lookup}
use Rattle.lookup.proofs.Computing as lookup
use Rattle.demands.specs.Demand3.{NeverWorse}
use Rattle.demands.specs.CusumsFit.{AcceptedPlan}
use Rattle.demands.specs.LookupGraded.{unit_records, LookupInSheet}
use Rattle.regrade_demands.specs.RegradeAccepted.{RegradedAs}
use Rattle.regrade_demands.specs.RegradeGrounds.{plan_ground, row18}
use Rattle.regrade_demands.specs.RegradeSheets.{recorded_plan, buyer_b, largest_cusums_regraded, largest_cusums_regraded_results, two_failures_before_redesignation, two_failures_before_redesignation_results}
use Rattle.regrade_demands.specs.RegradeInstances.{more_left}
use Rattle.regrade_demands.proofs.RegradeGrounds.{regrade_refusals}
use Rattle.regrade_demands.proofs.RegradeSheets.{regrade_sheets}
use Rattle.regrade_demands.proofs.RegradePair.{four_accepted, more_accepted}
use Rattle.computed.specs.WorkedCases.{peach_plan, peach_units, peach, peach_results}
use Rattle.computed.specs.FurtherSheets.{break_between_failures, break_between_failures_results, every_kind_of_record, every_kind_of_record_results, every_lower_plan, every_lower_plan_results, one_minor_defect_fewer, one_minor_defect_fewer_results, one_severe_defect_fewer, one_severe_defect_fewer_results, raw_value_at_limit, raw_value_at_limit_results, no_defect_in_place_of_one, no_defect_in_place_of_one_results, largest_plan, largest_cusums, largest_cusums_results}
use Rattle.demands.specs.Instances.{left, peach_left, every_kind_left, lower_plans_left, peach_standings, every_kind_standings, peach_planned, lower_plans_planned, every_kind_planned, standing_byte, CourseInstance, LowerPlansInstance, CodeInstance, LargestInstance, LargestNumber, FewerInstance, FewerTwiceInstance, FewerMeetsInstance, many_defects, units_and_breaks, FitInstance, LookupInstance, Instances}
use Rattle.demands.proofs.Computing.{computing}
use Rattle.grounds.specs.Grounds.{of_opening, of_last}
use Rattle.answers.proofs.Grounds.{demand2_grounds}
use Rattle.answers.proofs.AnswerInstances.{answer_instances}
use Rattle.computed.proofs.WorkedCases.{worked_cases}
use Rattle.computed.proofs.FurtherSheets.{further_sheets}
use Rattle.demands.proofs.OneFewer.{one_fewer_compared}
use Rattle.demands.proofs.AtUnits.{course_recorded, lower_plans_recorded, code_graded, largest_recorded, number_recorded, none_higher, none_lower, all_bytes}
use Rattle.demands.proofs.CusumsFit.{cusums_fit}
use Rattle.demands.proofs.LookupGraded.{lookup_graded}

-- ---- the accepted sheets

abbrev peach_answer : Answer
peach_answer = record { number = 0; units = 7; offset = 173 }

peach_accepted : (buffer : List ℕ) → result_size * 7 ≤ length buffer → AcceptedAs peach buffer peach_answer (peach_left buffer)
peach_accepted buffer holds = record { promise = sym (worked_cases.p10 buffer holds); accepted = refl }

abbrev every_kind_answer : Answer
every_kind_answer = record { number = 0; units = 6; offset = 167 }

every_kind_accepted : (buffer : List ℕ) → result_size * 6 ≤ length buffer
    → AcceptedAs every_kind_of_record buffer every_kind_answer (every_kind_left buffer)
every_kind_accepted buffer holds = record { promise = sym (further_sheets.redesignations.every_kind_of_record_holds buffer holds); accepted = refl }

lower_plans_accepted : (buffer : List ℕ) → result_size * 7 ≤ length buffer → AcceptedAs every_lower_plan buffer peach_answer (lower_plans_left buffer)
lower_plans_accepted buffer holds = record { promise = sym (further_sheets.lower_plans.every_lower_plan_holds buffer holds); accepted = refl }

-- ---- demand 2

peach_course : (buffer : List ℕ) → result_size * 7 ≤ length buffer → CourseInstance peach (peach_left buffer) peach_standings
unfolding computing peach_plan peach_units peach peach_results standing_byte
peach_course buffer holds =
    course_recorded peach buffer peach_answer (peach_left buffer) (peach_accepted buffer holds) 7 refl refl peach_standings refl

every_kind_course : (buffer : List ℕ) → result_size * 6 ≤ length buffer
    → CourseInstance every_kind_of_record (every_kind_left buffer) every_kind_standings
unfolding computing peach_plan every_kind_of_record every_kind_of_record_results standing_byte
every_kind_course buffer holds =
    course_recorded every_kind_of_record buffer every_kind_answer (every_kind_left buffer) (every_kind_accepted buffer holds) 9 refl refl every_kind_standings refl

lower_plans : (buffer : List ℕ) → result_size * 7 ≤ length buffer → LowerPlansInstance every_lower_plan (lower_plans_left buffer) (3 ∷ 5 ∷ [])
unfolding computing peach_plan every_lower_plan every_lower_plan_results
lower_plans buffer holds =
    lower_plans_recorded every_lower_plan buffer peach_answer (lower_plans_left buffer) (lower_plans_accepted buffer holds) 7 refl (3 ∷ 5 ∷ []) refl

code_five : (buffer : List ℕ) → result_size * 7 ≤ length buffer → CodeInstance peach (peach_left buffer) 4 5
unfolding computing peach_plan peach_units peach
code_five buffer holds =
    code_graded peach buffer peach_answer (peach_left buffer) (peach_accepted buffer holds) 7 refl 5 4 5 refl refl refl refl refl

code_met_again_holds : (buffer : List ℕ) → result_size * 6 ≤ length buffer → CodeInstance every_kind_of_record (every_kind_left buffer) 0 8
unfolding computing peach_plan every_kind_of_record
code_met_again_holds buffer holds =
    code_graded every_kind_of_record buffer every_kind_answer (every_kind_left buffer) (every_kind_accepted buffer holds)
    9 refl 300 0 8 refl refl refl refl refl

-- ---- CuSums fit in two bytes

-- the sheet and the regrading with the largest CuSums, in a buffer for their three records
abbrev largest_answer : Answer
largest_answer = record { number = 0; units = 3; offset = 117 }

abbrev three_zeros : List ℕ
three_zeros = replicate (result_size * 3) 0

largest_graded : AcceptedAs largest_cusums three_zeros largest_answer (left largest_cusums_results 3 three_zeros)
largest_graded = record { promise = sym (further_sheets.units.largest_cusums_holds three_zeros (lit≤ tt)); accepted = refl }

largest_regraded : RegradedAs largest_cusums_regraded largest_plan three_zeros largest_answer (left largest_cusums_regraded_results 3 three_zeros)
largest_regraded = record { promise = sym (regrade_sheets.units.largest_cusums_regraded_holds three_zeros (lit≤ tt)); accepted = refl }

-- they are accepted, so that no ground applies to the plan
plan_accepted : AcceptedPlan largest_cusums
plan_accepted number applies =
    (demand2_grounds largest_cusums three_zeros largest_answer _ largest_graded.promise).accepted refl number 0 (of_opening applies)

second_plan_accepted : AcceptedPlan largest_plan
second_plan_accepted number applies =
    (regrade_refusals largest_cusums_regraded largest_plan three_zeros largest_answer _ largest_regraded.promise).by_ground.accepted refl
    18 (length largest_cusums_regraded) (of_last (row18 (plan_ground applies)))

fit : FitInstance
unfolding computing largest_plan largest_cusums largest_cusums_regraded recorded_plan
fit =
    record {
      before_record = λ i class known. omega (arith, cusums_fit.before_record largest_cusums plan_accepted units_and_breaks 4000 i class known);
      of_unit = λ i class known. omega (arith, cusums_fit.of_unit many_defects largest_cusums plan_accepted units_and_breaks 4000 i class known);
      before_record_regraded = λ i class known.
          omega (arith, cusums_fit.before_record_regraded largest_plan second_plan_accepted units_and_breaks 4000 i class known);
      of_unit_regraded = λ i class known.
          omega (arith, cusums_fit.of_unit_regraded many_defects largest_plan second_plan_accepted units_and_breaks 4000 i class known);
      in_grading = λ course rules class known.
          let fits = cusums_fit.in_grading largest_cusums three_zeros largest_answer _ largest_graded course rules in (
            omega (arith, fits.of_unit 1 class (record { inside = lit< tt; is_unit = refl }) known),
            λ planned. omega (arith, fits.before_record 2 class (lit≤ tt) planned known),
          );
      in_regrading = λ course rules class known.
          let fits = cusums_fit.in_regrading largest_cusums_regraded largest_plan three_zeros largest_answer _ largest_regraded course rules in (
            omega (arith, fits.of_regraded_unit 1 class (record { inside = lit< tt; is_unit = refl }) known),
            omega (arith, fits.before_record 2 class (lit≤ tt) known),
          );
    }

-- ---- look-ups

-- a look-up in the records of so many units, by what it answers in the results that stand first in the buffer
module _ (bytes results buffer : List ℕ) (units : ℕ) (first : unit_records (left results units buffer) units ≡ results)
    (in_sheet : (code : ℕ) (part : Part) → part ≡ lookup (unit_records (left results units buffer) units) code
    → LookupInSheet bytes (left results units buffer) code part) where
  looked_up : (code : ℕ) (answer : Part) → lookup results code ≡ answer → (part : Part) → part ≡ lookup (unit_records (left results units buffer) units) code
      → LookupInstance bytes (left results units buffer) code answer part
  looked_up code answer is part given =
      record { answered = given ∙ ap (λ (records : List ℕ). lookup records code) first ∙ is; in_sheet = in_sheet code part given }

module _ (buffer : List ℕ) (holds : result_size * 7 ≤ length buffer) where
  peach_looked_up : (code : ℕ) (answer : Part) → lookup peach_results code ≡ answer → (part : Part) → part ≡ lookup (unit_records (peach_left buffer) 7) code
      → LookupInstance peach (peach_left buffer) code answer part
  unfolding computing peach_plan peach_units peach peach_results
  peach_looked_up =
      looked_up peach peach_results buffer 7 refl
      (lookup_graded.in_grading peach buffer peach_answer (peach_left buffer) (peach_accepted buffer holds) (all_bytes peach refl))

  code_found : (part : Part) → part ≡ lookup (unit_records (peach_left buffer) 7) 5
      → LookupInstance peach (peach_left buffer) 5 (record { number = 0; offset = 160; length = 32 }) part
  unfolding lookup.computing peach_results
  code_found = peach_looked_up 5 (record { number = 0; offset = 160; length = 32 }) refl

  code_not_found : (part : Part) → part ≡ lookup (unit_records (peach_left buffer) 7) 6
      → LookupInstance peach (peach_left buffer) 6 (record { number = 1; offset = 0; length = 0 }) part
  unfolding lookup.computing peach_results
  code_not_found = peach_looked_up 6 (record { number = 1; offset = 0; length = 0 }) refl

code_found_regraded : (buffer : List ℕ) → result_size * 4 ≤ length buffer → (part : Part) → part ≡ lookup (unit_records (more_left buffer) 4) 3
    → LookupInstance two_failures_before_redesignation (more_left buffer) 3 (record { number = 0; offset = 64; length = 32 }) part
unfolding computing lookup.computing two_failures_before_redesignation two_failures_before_redesignation_results recorded_plan
code_found_regraded buffer holds =
    let accepted = more_accepted buffer holds in
    looked_up two_failures_before_redesignation two_failures_before_redesignation_results buffer 4 refl
    (lookup_graded.in_regrading two_failures_before_redesignation buyer_b buffer four_accepted (more_left buffer) accepted
    (all_bytes two_failures_before_redesignation refl))
    3 (record { number = 0; offset = 64; length = 32 }) refl

-- ---- demand 3, the first half

peach_largest : LargestInstance peach peach_results 7 peach_planned
unfolding computing peach_plan peach_units peach
peach_largest = largest_recorded peach peach_results 7 peach_answer peach_accepted 7 refl peach_planned refl

every_kind_largest : LargestInstance every_kind_of_record every_kind_of_record_results 6 every_kind_planned
unfolding computing peach_plan every_kind_of_record
every_kind_largest = largest_recorded every_kind_of_record every_kind_of_record_results 6 every_kind_answer every_kind_accepted 9 refl every_kind_planned refl

lower_plans_largest : LargestInstance every_lower_plan every_lower_plan_results 7 lower_plans_planned
unfolding computing peach_plan every_lower_plan
lower_plans_largest = largest_recorded every_lower_plan every_lower_plan_results 7 peach_answer lower_plans_accepted 7 refl lower_plans_planned refl

largest_started : (buffer : List ℕ) → result_size * 7 ≤ length buffer
    → LargestNumber every_lower_plan (lower_plans_left buffer) 4 2 4 false (70 ∷ []) 20
unfolding computing peach_plan every_lower_plan
largest_started =
    number_recorded every_lower_plan every_lower_plan_results 7 peach_answer lower_plans_accepted 7 refl 4 2 4 false (70 ∷ []) 20
    refl (lit< tt) refl (restart 3 (lit< tt) refl)
    (record { no_failure = λ j from to. let here : j ≡ 4 = omega arith in rw here; no_restart = λ j from before. absurd (omega arith) }) refl refl

run_latest : Latest (sheet_in every_kind_of_record) 2 6 5
unfolding computing peach_plan every_kind_of_record
run_latest =
    record {
      no_failure = λ j from to. in_none 7 (class_fails_at (sheet_in every_kind_of_record) 2) refl j (omega arith);
      no_restart = λ j from before. let here : j ≡ 5 = omega arith in rw here;
    }

largest_run : (buffer : List ℕ) → result_size * 6 ≤ length buffer
    → LargestNumber every_kind_of_record (every_kind_left buffer) 6 2 5 false (0 ∷ 90 ∷ []) 30
unfolding computing peach_plan every_kind_of_record
largest_run =
    number_recorded every_kind_of_record every_kind_of_record_results 6 every_kind_answer every_kind_accepted 9 refl 6 2 5 false (0 ∷ 90 ∷ []) 30
    refl (lit< tt) refl (restart 4 (lit< tt) refl) run_latest refl refl

-- ---- demand 3, the second half

-- the accepted pairs
abbrev three_accepted : Answer
three_accepted = record { number = 0; units = 3; offset = 119 }

minor_accepted : (buffer : List ℕ) → result_size * 3 ≤ length buffer
    → AcceptedAs one_minor_defect_fewer buffer three_accepted (left one_minor_defect_fewer_results 3 buffer)
minor_accepted buffer holds = record { promise = sym (further_sheets.fewer_defects.one_minor_defect_fewer_holds buffer holds); accepted = refl }

break_accepted : (buffer : List ℕ) → result_size * 3 ≤ length buffer
    → AcceptedAs break_between_failures buffer three_accepted (left break_between_failures_results 3 buffer)
break_accepted buffer holds = record { promise = sym (further_sheets.breaks.break_between_failures_holds buffer holds); accepted = refl }

severe_accepted : (buffer : List ℕ) → result_size * 7 ≤ length buffer
    → AcceptedAs one_severe_defect_fewer buffer peach_answer (left one_severe_defect_fewer_results 7 buffer)
severe_accepted buffer holds = record { promise = sym (further_sheets.fewer_defects.one_severe_defect_fewer_holds buffer holds); accepted = refl }

-- the minor count of record 3, and the severe count of record 1
minor_compared : (buffer buffer' : List ℕ) → result_size * 3 ≤ length buffer → result_size * 3 ≤ length buffer'
    → NeverWorse one_minor_defect_fewer break_between_failures (left one_minor_defect_fewer_results 3 buffer) (left break_between_failures_results 3 buffer')
unfolding computing peach_plan one_minor_defect_fewer break_between_failures
minor_compared buffer buffer' holds holds' =
    one_fewer_compared one_minor_defect_fewer break_between_failures 116 2 refl (lit< tt) (lit< tt)
    (record { i = 3; unit = record { inside = lit< tt; is_unit = refl }; from = lit< tt; to = lit< tt })
    buffer buffer' three_accepted three_accepted _ _ (minor_accepted buffer holds) (break_accepted buffer' holds') refl

severe_compared : (buffer buffer' : List ℕ) → result_size * 7 ≤ length buffer → result_size * 7 ≤ length buffer'
    → NeverWorse one_severe_defect_fewer peach (left one_severe_defect_fewer_results 7 buffer) (peach_left buffer')
unfolding computing peach_plan one_severe_defect_fewer peach_units peach
severe_compared buffer buffer' holds holds' =
    one_fewer_compared one_severe_defect_fewer peach 96 1 refl (lit< tt) (lit< tt)
    (record { i = 1; unit = record { inside = lit< tt; is_unit = refl }; from = lit< tt; to = lit< tt })
    buffer buffer' peach_answer peach_answer _ _ (severe_accepted buffer holds) (peach_accepted buffer' holds') refl

fewer_defects : (buffer buffer' : List ℕ) → result_size * 3 ≤ length buffer → result_size * 3 ≤ length buffer' → FewerInstance buffer buffer'
unfolding computing peach_plan one_minor_defect_fewer one_minor_defect_fewer_results break_between_failures break_between_failures_results
fewer_defects buffer buffer' holds holds' =
    let compared = minor_compared buffer buffer' holds holds' in
    let never = in_none 4 (second_in_a_row (sheet_in break_between_failures)) refl in
    record {
      no_higher = none_higher _ _ _ _ compared 4 refl _ 4 never refl;
      no_lower = none_lower _ _ _ _ compared 4 refl _ never refl;
      fails = (refl, refl);
      smaller = lit< tt;
    }

fewer_defects_twice : (buffer buffer' : List ℕ) → result_size * 7 ≤ length buffer → result_size * 7 ≤ length buffer' → FewerTwiceInstance buffer buffer'
unfolding computing peach_plan one_severe_defect_fewer one_severe_defect_fewer_results peach_units peach peach_results
fewer_defects_twice buffer buffer' holds holds' =
    record {
      two_in_a_row_holds = refl;
      no_higher = none_higher _ _ _ _ (severe_compared buffer buffer' holds holds') 7 refl _ 2 (in_none 2 (second_in_a_row (sheet_in peach)) refl) refl;
      fails = (refl, refl);
      smaller = lit< tt;
      less_over = (refl, refl);
    }

-- the minor count of record 1
abbrev two_accepted : Answer
two_accepted = record { number = 0; units = 2; offset = 103 }

meets_compared : (buffer buffer' : List ℕ) → result_size * 2 ≤ length buffer → result_size * 2 ≤ length buffer'
    → NeverWorse no_defect_in_place_of_one raw_value_at_limit (left no_defect_in_place_of_one_results 2 buffer) (left raw_value_at_limit_results 2 buffer')
unfolding computing peach_plan no_defect_in_place_of_one raw_value_at_limit
meets_compared buffer buffer' holds holds' =
    one_fewer_compared no_defect_in_place_of_one raw_value_at_limit 100 0 refl (lit< tt) (lit< tt)
    (record { i = 1; unit = record { inside = lit< tt; is_unit = refl }; from = lit< tt; to = lit< tt })
    buffer buffer' two_accepted two_accepted _ _
    (record { promise = sym (further_sheets.fewer_defects.no_defect_in_place_of_one_holds buffer holds); accepted = refl })
    (record { promise = sym (further_sheets.overshoots.raw_value_at_limit_holds buffer' holds'); accepted = refl }) refl

fewer_defects_meets : (buffer buffer' : List ℕ) → result_size * 2 ≤ length buffer → result_size * 2 ≤ length buffer' → FewerMeetsInstance buffer buffer'
unfolding computing peach_plan no_defect_in_place_of_one no_defect_in_place_of_one_results raw_value_at_limit raw_value_at_limit_results
fewer_defects_meets buffer buffer' holds holds' =
    record {
      no_higher =
          none_higher _ _ _ _ (meets_compared buffer buffer' holds holds') 2 refl _ 2 (in_none 2 (second_in_a_row (sheet_in raw_value_at_limit)) refl) refl;
      not_over = refl;
      over = refl;
    }

-- ---- and once more the first half

largest_anchored : (buffer : List ℕ) → result_size * 3 ≤ length buffer
    → LargestNumber one_minor_defect_fewer (left one_minor_defect_fewer_results 3 buffer) 3 3 3 true (50 ∷ []) 30
unfolding computing peach_plan one_minor_defect_fewer
largest_anchored =
    number_recorded one_minor_defect_fewer one_minor_defect_fewer_results 3 three_accepted minor_accepted 4 refl 3 3 3 true (50 ∷ []) 30
    refl (lit< tt) refl (failure 2 (lit< tt) refl (λ before. refl))
    (record { no_failure = λ j from to. let here : j ≡ 3 = omega arith in rw here; no_restart = λ j from before. absurd (omega arith) }) refl refl

-- ---- together

pub instances : Instances
instances =
    record {
      answers = answer_instances;
      course = peach_course;
      every_kind_course = every_kind_course;
      lower_plans = lower_plans;
      code_grades = code_five;
      code_met_again_holds = code_met_again_holds;
      largest_form_holds = peach_largest;
      every_kind_largest = every_kind_largest;
      lower_plans_largest = lower_plans_largest;
      largest_started = largest_started;
      largest_run = largest_run;
      largest_anchored = largest_anchored;
      fewer_defects = fewer_defects;
      fewer_defects_twice = fewer_defects_twice;
      fewer_defects_meets = fewer_defects_meets;
      cusums_fit = fit;
      code_found = code_found;
      code_not_found = code_not_found;
      code_found_regraded = code_found_regraded;
    }

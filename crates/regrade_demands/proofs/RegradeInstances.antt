-- The instances, each from its theorem; the course of the sheet in total by its rules, record by record.
use Prim.Native.Nat.{ℕ, zero, suc, ◌+◌, ◌*◌, ◌<◌, ◌≤◌}
use mathlib.Core.Path.{◌≡◌, refl, sym, ◌∙◌, ap, subst, subst⁻¹}
use mathlib.Core.Bool.{Bool, true, false}
use mathlib.Core.List.{List}
use native.Mathlib.Omega.{arith}
use lib.Dec.{ltb, lit<, lit≤}
use lib.ListN.{length, drop, take}
use borrow.Author.Tests.{ltb-true, ltb-false}
use Rattle.cusum.specs.Integers.{largest_of_zero_and, sumℤ, runs_to_end}
use Rattle.cusum.specs.LargestForm.{tenths_less_t, largest_form, anchor_value}
use Rattle.encoding.specs.Bytes.{wide_number}
use Rattle.units.specs.Words.{classes}
use Rattle.anchors.specs.Anchor.{tenths_at, tenths_from}
use Rattle.results.specs.Record.{result_size}
use Rattle.outcome.specs.Outcome.{Outcome, refused_as, refusal}
use Rattle.answers.specs.Grounds.{start_in, tolerance_in, limit_in, IsRedesignation, IsBreak}
use Rattle.courses.specs.Course.{ten_times_count, prerequisite}
use Rattle.regrade.specs.Outcome.{regrade_outcome}
use Rattle.regrade.proofs.Computing.{computing}
use Rattle.regrade_demands.specs.RegradeAccepted.{second_designated, fails_regraded_at, regraded_sheet}
use Rattle.regrade_demands.specs.RegradeRecords.{RuleTwoBy, UnitFailsRegraded, BestLowerUnder, RegradeCourse, RegradedByRules}
use Rattle.regrade_demands.specs.RegradeLargest.{at_failure}
use Rattle.regrade_demands.specs.RegradeSheets.{recorded_plan, buyer_a, buyer_b, two_failures_before_redesignation, two_failures_before_redesignation_results, five_minor_defects_fewer, five_minor_defects_fewer_results, failure_of_second_plan}
use Rattle.regrade_demands.specs.RegradeInstances.{more_left, OneOfFour, record0, record1, record3, record5, RecordedInstance, NoWorseInstance, RegradeInstances}
use Rattle.regrade_demands.proofs.RegradeAnswers.{regrade_answered}
use Rattle.regrade_demands.proofs.RegradeGrounds.{regrade_refusals}
use Rattle.regrade_demands.proofs.RegradeRecords.{regrade_graded}
use Rattle.regrade_demands.proofs.RegradeLargest.{regrade_largest_form}
use Rattle.regrade_demands.proofs.RegradeSheets.{regrade_sheets}
use Rattle.regrade_demands.proofs.RegradePair.{more, fewer, four_accepted, more_accepted, unit_at, unit_of_fewer, compared}

-- ---- the pair

module _ (buffer buffer' : List ℕ) (holds : result_size * 4 ≤ length buffer) (holds' : result_size * 4 ≤ length buffer') where
  no_worse : (i : ℕ) → OneOfFour i → NoWorseInstance buffer buffer' i
  no_worse i one =
      let here = compared buffer buffer' holds holds' i (unit_of_fewer i one) in
      record { cusums = here.cusums; overshoots = here.overshoots; failures = here.failures; portions = here.portions; codes = here.codes }

-- ---- the course of the sheet in total, S 2.5, T 9.5, L 6, with 14, 14, 9 and 12 defects; 14 are admitted under C, T+L 23

numbers : (start_in buyer_b 1 3 ≡ 25) × (tolerance_in buyer_b 1 3 ≡ 95) × (limit_in buyer_b 1 3 ≡ 60)
unfolding buyer_a buyer_b
numbers = (refl, refl, refl)

defects : (ten_times_count more 0 3 ≡ 140) × (ten_times_count more 1 3 ≡ 140) × (ten_times_count more 3 3 ≡ 90) × (ten_times_count more 5 3 ≡ 120)
unfolding computing recorded_plan two_failures_before_redesignation
defects = (refl, refl, refl, refl)

designated : second_designated buyer_b ≡ 1
unfolding buyer_a buyer_b
designated = refl

no_prerequisite : (prerequisite more 0 ≡ 0) × (prerequisite more 1 ≡ 0) × (prerequisite more 3 ≡ 0) × (prerequisite more 5 ≡ 0)
unfolding computing recorded_plan two_failures_before_redesignation
no_prerequisite = (refl, refl, refl, refl)

-- no defect of another class
others_none : (class : ℕ) → class < 3 → (ten_times_count more 0 class ≡ 0) × (ten_times_count more 1 class ≡ 0) × (ten_times_count more 3 class ≡ 0) × (ten_times_count more 5 class ≡ 0)
unfolding computing recorded_plan two_failures_before_redesignation
others_none zero inside = (refl, refl, refl, refl)
others_none (suc zero) inside = (refl, refl, refl, refl)
others_none (suc (suc zero)) inside = (refl, refl, refl, refl)
others_none (suc (suc (suc class))) inside = absurd (omega arith)

start_within : (class : ℕ) → class < 3 → start_in buyer_b 1 class ≤ limit_in buyer_b 1 class
unfolding buyer_a buyer_b
start_within zero inside = lit≤ tt
start_within (suc zero) inside = lit≤ tt
start_within (suc (suc zero)) inside = lit≤ tt
start_within (suc (suc (suc class))) inside = absurd (omega arith)

-- by rule 2 no CuSum is above L
at_most : {reached tolerance limit new over : ℕ} → RuleTwoBy reached tolerance limit new over → new ≤ limit
at_most {reached} {tolerance} {limit} {new} {over} rule = go (ltb (tolerance + limit) reached) refl (ltb reached tolerance) refl
  where
    go : (high : Bool) → ltb (tolerance + limit) reached ≡ high → (low : Bool) → ltb reached tolerance ≡ low → new ≤ limit
    go true e low f = omega (arith, rule.fails (ltb-true (tolerance + limit) reached e))
    go false e true f = omega (arith, rule.below (ltb-true reached tolerance f))
    go false e false f =
        omega (arith, rule.between (ltb-false reached tolerance f) (ltb-false (tolerance + limit) reached e), ltb-false (tolerance + limit) reached e)

-- C admits 14 minor defects
admitted : (class : ℕ) → class < length classes
    → (ten_times_count more 0 class ≤ tolerance_in buyer_b 2 class + limit_in buyer_b 2 class)
    × (ten_times_count more 1 class ≤ tolerance_in buyer_b 2 class + limit_in buyer_b 2 class)
unfolding computing recorded_plan two_failures_before_redesignation buyer_a buyer_b
admitted zero inside = (lit≤ tt, lit≤ tt)
admitted (suc zero) inside = (lit≤ tt, lit≤ tt)
admitted (suc (suc zero)) inside = (lit≤ tt, lit≤ tt)
admitted (suc (suc (suc zero))) inside = (lit≤ tt, lit≤ tt)
admitted (suc (suc (suc (suc class)))) inside = absurd (omega arith)

grade_c : (course : RegradeCourse) (i grade : ℕ) → BestLowerUnder more buyer_b course i grade
    → ((class : ℕ) → class < length classes → ten_times_count more i class ≤ tolerance_in buyer_b 2 class + limit_in buyer_b 2 class) → grade ≡ 2
grade_c course i grade best admits = go (ltb 2 grade) refl
  where
    go : (worse : Bool) → ltb 2 grade ≡ worse → grade ≡ 2
    go true e = absurd (best.none_better 2 (omega (arith, designated)) (ltb-true 2 grade e) admits)
    go false e = omega (arith, ltb-false 2 grade e, best.lower, designated)

between_records : IsRedesignation more 2 × IsBreak more 4
unfolding computing recorded_plan two_failures_before_redesignation
between_records = (refl, refl)

module _ (buffer : List ℕ) (holds : result_size * 4 ≤ length buffer) where
  by_rules : RegradedByRules more buyer_b (more_left buffer)
  by_rules = regrade_graded more buyer_b buffer four_accepted (more_left buffer) (more_accepted buffer holds)

  abbrev course : RegradeCourse
  course = by_rules.course

  -- S, T and L as the rules name them
  S : start_in buyer_b (second_designated buyer_b) 3 ≡ 25
  S = ap (λ (grade : ℕ). start_in buyer_b grade 3) designated ∙ numbers.0

  T : tolerance_in buyer_b (second_designated buyer_b) 3 ≡ 95
  T = ap (λ (grade : ℕ). tolerance_in buyer_b grade 3) designated ∙ numbers.1

  L : limit_in buyer_b (second_designated buyer_b) 3 ≡ 60
  L = ap (λ (grade : ℕ). limit_in buyer_b grade 3) designated ∙ numbers.2

  total : 3 < length classes
  total = lit< tt

  rule_two : (i : ℕ) → OneOfFour i → (class : ℕ) → class < length classes
      → RuleTwoBy (course.cusum i class + ten_times_count more i class) (tolerance_in buyer_b (second_designated buyer_b) class) (limit_in buyer_b (second_designated buyer_b) class)
      (course.new_cusum i class) (course.overshoot i class)
  rule_two i one class known = by_rules.rules.rule_two i class (unit_at i one) known

  from_start_holds : course.cusum 0 3 ≡ 25
  from_start_holds = by_rules.rules.opening 3 total ∙ S

  first_above : tolerance_in buyer_b (second_designated buyer_b) 3 + limit_in buyer_b (second_designated buyer_b) 3 < course.cusum 0 3 + ten_times_count more 0 3
  first_above = omega (arith, from_start_holds, T, L, defects.0)

  from_limit : course.cusum 1 3 ≡ 60
  from_limit = by_rules.rules.unit_goes_on 0 3 (unit_at 0 record0) total ∙ (rule_two 0 record0 3 total).fails first_above ∙ L

  second_above : tolerance_in buyer_b (second_designated buyer_b) 3 + limit_in buyer_b (second_designated buyer_b) 3 < course.cusum 1 3 + ten_times_count more 1 3
  second_above = omega (arith, from_limit, T, L, defects.1)

  behind_second : course.cusum 3 3 ≡ 60
  behind_second =
      by_rules.rules.redesignation_passed 2 3 between_records.0 total
      ∙ by_rules.rules.unit_goes_on 1 3 (unit_at 1 record1) total
      ∙ (rule_two 1 record1 3 total).fails second_above
      ∙ L

  behind_break : course.cusum 5 3 ≡ 25
  behind_break = by_rules.rules.break_restarts 4 3 between_records.1 total ∙ S

  -- a unit meets where no class is above T+L; in the others, without defects, no CuSum is above L
  meets_if : (i : ℕ) → ((class : ℕ) → class < 3 → ten_times_count more i class ≡ 0)
      → ((class : ℕ) → class < 3 → course.cusum i class ≤ limit_in buyer_b (second_designated buyer_b) class)
      → course.cusum i 3 + ten_times_count more i 3 ≤ tolerance_in buyer_b (second_designated buyer_b) 3 + limit_in buyer_b (second_designated buyer_b) 3
      → UnitFailsRegraded more buyer_b course i → ⊥
  meets_if i none within most here = go here.class here.a_class here.fails (ltb here.class 3) refl
    where
      go : (class : ℕ) → class < length classes
          → tolerance_in buyer_b (second_designated buyer_b) class + limit_in buyer_b (second_designated buyer_b) class < course.cusum i class + ten_times_count more i class
          → (other : Bool) → ltb class 3 ≡ other → ⊥
      go class known above true e =
          let other = ltb-true class 3 e in
          omega (arith, above, none class other, within class other)
      go class known above false e =
          let is_total : class ≡ 3 = omega (arith, ltb-false class 3 e, known) in
          let total_above : tolerance_in buyer_b (second_designated buyer_b) 3 + limit_in buyer_b (second_designated buyer_b) 3 < course.cusum i 3 + ten_times_count more i 3
          = subst (λ (k : ℕ). tolerance_in buyer_b (second_designated buyer_b) k + limit_in buyer_b (second_designated buyer_b) k < course.cusum i k + ten_times_count more i k) is_total above in
          omega (arith, most, total_above)

  third_meets : UnitFailsRegraded more buyer_b course 3 → ⊥
  third_meets =
      meets_if 3 (λ class other. (others_none class other).2)
      (λ class other.
      let known : class < length classes = omega arith in
      omega (
        arith,
        by_rules.rules.redesignation_passed 2 class between_records.0 known,
        by_rules.rules.unit_goes_on 1 class (unit_at 1 record1) known,
        at_most (rule_two 1 record1 class known),
      ))
      (omega (arith, behind_second, T, L, defects.2))

  fourth_meets : UnitFailsRegraded more buyer_b course 5 → ⊥
  fourth_meets =
      meets_if 5 (λ class other. (others_none class other).3)
      (λ class other.
      let known : class < length classes = omega arith in
      omega (
        arith,
        by_rules.rules.break_restarts 4 class between_records.1 known,
        subst⁻¹ (λ (grade : ℕ). start_in buyer_b grade class ≤ limit_in buyer_b grade class) designated (start_within class other),
      ))
      (omega (arith, behind_break, T, L, defects.3))

  -- what is recorded of a unit that fails, and of one that meets
  failing_recorded : (i over : ℕ) (one : OneOfFour i)
      → tolerance_in buyer_b (second_designated buyer_b) 3 + limit_in buyer_b (second_designated buyer_b) 3 < course.cusum i 3 + ten_times_count more i 3
      → course.cusum i 3 + ten_times_count more i 3 ≡ 155 + over → prerequisite more i ≡ 0
      → ((class : ℕ) → class < length classes → ten_times_count more i class ≤ tolerance_in buyer_b 2 class + limit_in buyer_b 2 class)
      → RecordedInstance buffer i 60 over 2 1
  failing_recorded i over one above reached none admits =
      let recorded = by_rules.recorded i (unit_at i one) in
      let fails : UnitFailsRegraded more buyer_b course i = record { class = 3; a_class = total; fails = above } in
      let grade = grade_c course i (course.defect_grade i) ((by_rules.rules.rule_three i (unit_at i one)).fails fails) admits in
      record {
        mark = recorded.mark;
        plan_grade_holds = recorded.plan_grade_holds ∙ designated;
        cusum_of_total = recorded.cusums 3 total ∙ (rule_two i one 3 total).fails above ∙ L;
        overshoot_of_total = recorded.overshoots 3 total ∙ omega (arith, (rule_two i one 3 total).over_by above, T, L, reached);
        portion_grade_holds = omega (arith, recorded.portion, grade, none);
        standing_recorded = recorded.standing_failed fails;
      }

  meeting_recorded : (i cusum : ℕ) (one : OneOfFour i) → (UnitFailsRegraded more buyer_b course i → ⊥)
      → course.cusum i 3 + ten_times_count more i 3 ≡ 95 + cusum → cusum ≤ 60 → prerequisite more i ≡ 0 → RecordedInstance buffer i cusum 0 1 0
  meeting_recorded i cusum one meets reached most none =
      let recorded = by_rules.recorded i (unit_at i one) in
      let within : course.cusum i 3 + ten_times_count more i 3 ≤ tolerance_in buyer_b (second_designated buyer_b) 3 + limit_in buyer_b (second_designated buyer_b) 3
      = omega (arith, reached, most, T, L) in
      record {
        mark = recorded.mark;
        plan_grade_holds = recorded.plan_grade_holds ∙ designated;
        cusum_of_total = omega (arith, recorded.cusums 3 total, (rule_two i one 3 total).between (omega (arith, reached, T)) within, reached, T);
        overshoot_of_total = recorded.overshoots 3 total ∙ (rule_two i one 3 total).not_over within;
        portion_grade_holds = omega (arith, recorded.portion, (by_rules.rules.rule_three i (unit_at i one)).meets meets, designated, none);
        standing_recorded = recorded.standing_met meets;
      }

  opening_fails : RecordedInstance buffer 0 60 10 2 1
  opening_fails =
      failing_recorded 0 10 record0 first_above (omega (arith, from_start_holds, defects.0)) no_prerequisite.0 (λ class known. (admitted class known).0)

  fails_again : RecordedInstance buffer 1 60 45 2 1
  fails_again =
      failing_recorded 1 45 record1 second_above (omega (arith, from_limit, defects.1)) no_prerequisite.1 (λ class known. (admitted class known).1)

  behind_redesignation : RecordedInstance buffer 3 55 0 1 0
  behind_redesignation =
      meeting_recorded 3 55 record3 third_meets (omega (arith, behind_second, defects.2)) (lit≤ tt) no_prerequisite.2

  behind_a_break : RecordedInstance buffer 5 50 0 1 0
  behind_a_break =
      meeting_recorded 5 50 record5 fourth_meets (omega (arith, behind_break, defects.3)) (lit≤ tt) no_prerequisite.3

-- ---- together

cut_short : (buffer : List ℕ) → regrade_outcome failure_of_second_plan (take 74 buyer_b) buffer ≡ refusal 18 0 buffer
unfolding computing recorded_plan buyer_a buyer_b failure_of_second_plan
cut_short buffer = refl

second_fails_total : fails_regraded_at (regraded_sheet more buyer_b) 3 1 ≡ true
unfolding computing recorded_plan buyer_a buyer_b two_failures_before_redesignation regraded_sheet fails_regraded_at
second_fails_total = refl

second_meets_total : fails_regraded_at (regraded_sheet fewer buyer_b) 3 1 ≡ false
unfolding computing recorded_plan buyer_a buyer_b five_minor_defects_fewer regraded_sheet fails_regraded_at
second_meets_total = refl

pub regrade_instances : RegradeInstances
unfolding computing recorded_plan buyer_a buyer_b two_failures_before_redesignation two_failures_before_redesignation_results five_minor_defects_fewer
    five_minor_defects_fewer_results regraded_sheet tenths_less_t largest_form anchor_value tenths_at tenths_from largest_of_zero_and sumℤ runs_to_end wide_number
regrade_instances =
    record {
      kept = λ buffer holds.
          ap (λ (given : Outcome). drop (result_size * 4) given.buffer) (regrade_sheets.fewer_defects.two_failures_before_redesignation_holds buffer holds)
          ∙ (regrade_answered more buyer_b buffer four_accepted (more_left buffer) (more_accepted buffer holds).promise).accepted_rest refl;
      none_accepted = λ buffer holds.
          (regrade_refusals more buyer_b buffer four_accepted (more_left buffer) (more_accepted buffer holds).promise).by_ground.accepted refl;
      first_is_18 = λ buffer.
          (regrade_refusals failure_of_second_plan (take 74 buyer_b) buffer (refused_as 18 0) buffer (sym (cut_short buffer))).by_ground.refused
          (λ none. omega arith);
      opening_fails = opening_fails;
      fails_again = fails_again;
      behind_redesignation = behind_redesignation;
      behind_break = behind_a_break;
      largest_of = λ buffer holds i one class known from records failed to anchor no_failure no_break.
          (regrade_largest_form more buyer_b buffer four_accepted (more_left buffer) (more_accepted buffer holds) i (unit_at i one) class known).largest_of
          (record { from = from; records = records; failed = failed; to_this_unit = to; is_anchor = anchor; no_failure = no_failure; no_break = no_break });
      anchor_of_failure = at_failure 1 (omega arith) second_fails_total;
      tenths_since = refl;
      largest_in_numbers = refl;
      no_worse = no_worse;
      better_portion = λ buffer buffer'. lit< tt;
      lower_cusum = λ buffer buffer'. lit< tt;
      smaller_overshoot = λ buffer buffer'. lit< tt;
      better_code = λ buffer buffer'. lit< tt;
      fails_only_in_second = (second_meets_total, second_fails_total);
    }

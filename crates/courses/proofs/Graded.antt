-- Demand 2 for accepted sheets: the course of the definitions follows the rules by place, and the result records hold what it says.
-- Each rule is a law of the definitions, read through what their tests tell; the code grade is by induction on the records.
use Prim.Native.Nat.{ℕ, suc, ◌+◌, ◌-◌, ◌<◌, ◌≤◌, min}
use mathlib.Core.Path.{◌≡◌, refl, sym, ◌∙◌, ap, subst, subst⁻¹}
use mathlib.Core.Bool.{Bool, true, false, cond, not, ◌&&◌, true≢false, false≢true}
use mathlib.Core.Logic.{◌⊎◌, inl, inr, ◌↔◌, ⊎_elim}
use mathlib.Core.List.{List}
use native.Mathlib.Omega.{arith}
use lib.Dec.{eqb, ltb}
use lib.ListN.{length}
use borrow.Author.Tests.{lt-ltb, le-ltb, eqb-true, eqb-false, eq-eqb}
use Rattle.cusum.specs.declared.PlanNumbers.{PlanNumbers}
use Rattle.cusum.specs.Step.{overshoot}
use Rattle.cusum.proofs.Laws.{new_cusum_is, overshoot_is, overshoot_met}
use Rattle.encoding.specs.Bytes.{byte}
use Rattle.units.specs.Words.{substandard, has_plan, classes, worse, row_of, in_class, numbers_of, tenths_of, count_tenths, tenths_in}
use Rattle.units.specs.Unit.{starting, class_fails, class_cusum, class_overshoot, unit_fails, defect_grade, portion_grade_of}
use Rattle.units.specs.BestLower.{BestLower}
use Rattle.units.specs.Records.{is_unit_that, designated_by}
use Rattle.units.specs.declared.SampleUnit.{SampleUnit}
use Rattle.units.specs.declared.Entry.TheVariants.{Redesignation, Break}
use Rattle.units.proofs.BestLower.{best_lower_is}
use Rattle.units.proofs.Classes.{at_class}
use Rattle.units.proofs.Tests.{and_both}
use Rattle.rules.specs.StepThree.{in_step_three, in_force_in, ends_step_three, restarted, graded}
use Rattle.rules.specs.Sheet.{Sheet, before, designated_at, in_force_at, qualifies_at, in_finished_run, recovered, portion_grade, standing_of, standing, code_grade}
use Rattle.anchors.specs.ThreeInARow.{record_qualifies, unit_qualifies_at}
use Rattle.anchors.specs.Anchor.{tenths_from}
use Rattle.rules.specs.declared.Phase.{Phase}
use Rattle.rules.specs.declared.Phase.TheVariants.{Designated, StepThree}
use Rattle.anchors.proofs.Trails.{tenths_go_on}
use Rattle.rules.proofs.FailingUnits.{FailingNeverQualifies, failing_never_qualifies}
use Rattle.rules.proofs.Grades.{in_force_at_most}
use Rattle.rules.proofs.GradedClasses.{cusum_graded}
use Rattle.rules.proofs.FinishedRun.{finished_run, in_run, run_in}
use Rattle.anchors.proofs.TwoFailures.{begins_at_second, lower_is_worse}
use Rattle.anchors.proofs.ThreeQualify.{qualifies_at_holds, third_ends}
use Rattle.anchors.proofs.Restarts.{cusums_behind, restart_starts, no_restart_keeps}
use Rattle.anchors.proofs.StepThreeStands as stands
use Rattle.rules.proofs.Steps.{in_force_outside, ends_qualifying}
use Rattle.layout.specs.Layout.{recoverable_offset, sample_unit_at, offset}
use Rattle.layout.proofs.Units.{entry_unit}
use Rattle.sheet.proofs.Accepted.{Facts}
use Rattle.sheet.specs.Refusals.{designated_before}
use Rattle.sheet.proofs.Ranges.{designated_le, start_le_limit, tolerance_rises}
use Rattle.recording.specs.Sheet.{sheet_of}
use Rattle.outcome.specs.declared.Answer.{Answer}
use Rattle.tally.specs.Outcome.{records_in}
use Rattle.tally.specs.Accepted.{AcceptedAs, sheet_in, UnitAt, recorded_overshoot, recorded_portion_grade}
use Rattle.tally.proofs.AcceptedSheet.{accepted_sheet}
use Rattle.tally.proofs.Entries.{new_grades}
use Rattle.answers.specs.Grounds.{start_in, tolerance_in, limit_in, new_grade, IsBreak, IsRedesignation}
use Rattle.courses.specs.Course.{Course, ten_times_count, prerequisite, ClassFails, UnitFails, SecondFails, SecondFailsLower, Qualifies, AmongThree, Recovered, Restart, RuleTwo, BestLowerGrade, RuleThree, Rules, LowerPlans, SameBefore, SameAt}
use Rattle.courses.specs.Demand2.{recorded_standing, UnitRecorded, WorstOfCode, SameRecords, SameWords, Demand2Records}
use Rattle.grounds.proofs.Tells.{told, not_told}
use Rattle.answers.proofs.Rows.{designated_just_before, is_redesignation_mark, redesignation_mark_is}
use Rattle.courses.proofs.CourseWords as words
use Rattle.courses.proofs.CourseWords.{unit_in, course_of, break_entry, redesignation_entry}
use Rattle.courses.proofs.CodeGrades.{worst_of_code}
use Rattle.courses.proofs.OneCourse.{settled, one_course}
use Rattle.courses.proofs.Recorded.{recorded_portion_holds, recorded_code_grade_holds, recorded_plan_holds, recorded_standing_holds, recorded_code_holds, recorded_cusum_holds, recorded_overshoot_holds, recorded_mark_holds, overshoot_at_most}

-- ---- of a phase

standing_outside : (phase : Phase) (fails : Bool) → in_step_three phase ≡ false → standing_of phase fails false ≡ cond fails 1 0
unfolding in_step_three standing_of
standing_outside Designated fails out = refl
standing_outside (StepThree lower run) fails out = absurd (true≢false out)

standing_inside : (phase : Phase) (fails : Bool) → in_step_three phase ≡ true → standing_of phase fails false ≡ 2
unfolding in_step_three standing_of
standing_inside Designated fails inside = absurd (false≢true inside)
standing_inside (StepThree lower run) fails inside = refl

-- ---- the rules

module _ (bytes : List ℕ) (facts : Facts bytes (records_in bytes)) where
  abbrev sheet : Sheet
  sheet = sheet_in bytes

  abbrev course : Course
  course = course_of bytes

  -- none of its units fails and qualifies
  pub apart : FailingNeverQualifies sheet
  unfolding sheet_in sheet_of
  apart =
      failing_never_qualifies sheet
      (record { start_within = start_le_limit bytes facts.plan; tolerance_rises = tolerance_rises bytes facts.plan })

  -- S of every class of a plan
  start_is : (grade class : ℕ) → grade < substandard → class < length classes → tenths_in (starting (row_of sheet.table grade)) class ≡ start_in bytes grade class
  unfolding starting
  start_is grade class planned known =
      at_class (λ k. (in_class (row_of sheet.table grade) k).start) class known ∙ (words.numbers_in bytes facts grade class planned known).0

  opening_cusums : (class : ℕ) → class < length classes → course.cusum 0 class ≡ start_in bytes (course.designated 0) class
  unfolding before restarted in_force_in
  opening_cusums class known =
      start_is (designated_at sheet 0) class (words.designated_lt bytes facts 0) known
      ∙ ap (λ (grade : ℕ). start_in bytes grade class) (words.designated_is bytes facts 0)

  -- rule 2 under a plan
  planned_cusum : (i class : ℕ) → class < length classes → in_force_at sheet i < substandard
      → course.new_cusum i class ≡ min (limit_in bytes (in_force_at sheet i) class)
      (course.cusum i class + ten_times_count bytes i class - tolerance_in bytes (in_force_at sheet i) class)
  unfolding class_cusum has_plan
  planned_cusum i class known planned =
      let (start, tolerance, limit) = words.numbers_in bytes facts (in_force_at sheet i) class planned known in
      rw (lt-ltb (in_force_at sheet i) substandard planned, ← tolerance, ← limit, ← words.count_is bytes i class)
      (new_cusum_is (numbers_of sheet.table (in_force_at sheet i) class) (course.cusum i class) (count_tenths (tenths_of (unit_in bytes i)) class))

  no_plan_cusum : (i class : ℕ) → in_force_at sheet i ≡ substandard → course.new_cusum i class ≡ 0
  unfolding class_cusum has_plan
  no_plan_cusum i class none = rw (le-ltb (in_force_at sheet i) substandard (omega arith))

  -- what is above T+L
  planned_overshoot : (i class : ℕ) → class < length classes → in_force_at sheet i < substandard
      → course.overshoot i class
      ≡ course.cusum i class + ten_times_count bytes i class - tolerance_in bytes (in_force_at sheet i) class - limit_in bytes (in_force_at sheet i) class
  unfolding class_overshoot has_plan
  planned_overshoot i class known planned =
      let (start, tolerance, limit) = words.numbers_in bytes facts (in_force_at sheet i) class planned known in
      rw (lt-ltb (in_force_at sheet i) substandard planned, ← tolerance, ← limit, ← words.count_is bytes i class)
      (overshoot_is (numbers_of sheet.table (in_force_at sheet i) class) (course.cusum i class) (count_tenths (tenths_of (unit_in bytes i)) class))

  not_over : (i class : ℕ) → class < length classes → (ClassFails bytes course i class → ⊥) → course.overshoot i class ≡ 0
  unfolding class_overshoot
  not_over i class known none = go (has_plan (in_force_at sheet i)) refl
    where
      numbers : PlanNumbers
      numbers = numbers_of sheet.table (in_force_at sheet i) class

      meets : class_fails sheet.table (in_force_at sheet i) (before sheet i).cusums (tenths_of (unit_in bytes i)) class ≡ false
      meets = not_told (words.tells_class bytes facts i class known) none

      go : (planned : Bool) → has_plan (in_force_at sheet i) ≡ planned
          → cond planned (overshoot numbers (course.cusum i class) (count_tenths (tenths_of (unit_in bytes i)) class)) 0 ≡ 0
      go true planned = overshoot_met numbers (course.cusum i class) (count_tenths (tenths_of (unit_in bytes i)) class) (unfold class_fails in rw planned at meets)
      go false no_plan = refl

  rule_two : (i class : ℕ) → UnitAt bytes i → class < length classes → RuleTwo bytes course i class
  rule_two i class at known =
      record {
        fails = λ here. omega (arith, planned_cusum i class known here.planned, here.above);
        below = λ planned small. omega (arith, planned_cusum i class known planned, small);
        between = λ planned from to. omega (arith, planned_cusum i class known planned, from, to);
        over = λ here. omega (arith, planned_overshoot i class known here.planned, here.above);
        not_over = not_over i class known;
        no_plan = λ none. (no_plan_cusum i class none, not_over i class known (λ here. omega (arith, here.planned, none)));
      }

  -- ---- rule 3

  abbrev pub failing : ℕ → Bool
  failing i = unit_fails sheet.table (in_force_at sheet i) (before sheet i).cusums (tenths_of (unit_in bytes i))

  defect_meets : (i : ℕ) → failing i ≡ false → course.defect_grade i ≡ in_force_at sheet i
  unfolding graded defect_grade
  defect_meets i e = rw e

  defect_fails : (i : ℕ) → failing i ≡ true → in_force_at sheet i < substandard
      → BestLower sheet.table (in_force_at sheet i) (tenths_of (unit_in bytes i)) (course.defect_grade i)
  unfolding graded defect_grade
  defect_fails i e planned = rw e (best_lower_is sheet.table (tenths_of (unit_in bytes i)) (in_force_at sheet i) planned)

  -- the bound of a grade that has a plan
  bound_is : (grade class : ℕ) → grade < substandard → class < length classes
      → (numbers_of sheet.table grade class).tolerance + (numbers_of sheet.table grade class).limit
      ≡ tolerance_in bytes grade class + limit_in bytes grade class
  bound_is grade class planned known =
      let (start, tolerance, limit) = words.numbers_in bytes facts grade class planned known in
      omega (arith, tolerance, limit)

  best_lower_holds : (i grade : ℕ) → BestLower sheet.table (in_force_at sheet i) (tenths_of (unit_in bytes i)) grade → BestLowerGrade bytes course i grade
  best_lower_holds i grade best =
      record {
        lower = best.lower;
        a_grade = best.grade_or_none;
        admits = λ planned class known.
            omega (arith, best.admits planned class known, words.count_is bytes i class, bound_is grade class planned known);
        none_better = λ better above below every.
            best.none_better better above below
            (λ class known.
            omega (arith, every class known, words.count_is bytes i class, bound_is better class (omega (arith, best.grade_or_none)) known));
      }

  rule_three : (i : ℕ) → UnitAt bytes i → RuleThree bytes course i
  rule_three i at =
      record {
        meets = λ none. defect_meets i (not_told (words.tells_unit bytes facts i) none);
        fails = λ here. best_lower_holds i (course.defect_grade i) (defect_fails i (told (words.tells_unit bytes facts i) here) here.fails.planned);
      }

  -- ---- step 3

  -- the grade of the plan in force, by the phase
  in_force_lower : (i lower : ℕ) → (before sheet i).phase ≡ StepThree lower 0 → in_force_at sheet i ≡ lower
  unfolding in_force_in
  in_force_lower i lower same = ap (in_force_in (before sheet i).designated) same

  -- a unit that fails does not qualify
  fails_unqualified : (i : ℕ) → UnitFails bytes course i → qualifies_at sheet i (unit_in bytes i) ≡ false
  unfolding graded
  fails_unqualified i fails = apart i (unit_in bytes i) (told (words.tells_unit bytes facts i) fails)

  -- where two fail in a row a lower plan starts, as the second does not end step 3
  two_start : (i : ℕ) → UnitAt bytes i → UnitAt bytes (suc i) → UnitFails bytes course (suc i)
      → SecondFails bytes course (suc i) ⊎ SecondFailsLower bytes course (suc i)
      → course.plan_grade (suc (suc i)) ≡ worse (course.defect_grade i) (course.defect_grade (suc i))
  two_start i first second fails starts =
      in_force_lower (suc (suc i)) _
      (lower_is_worse sheet i (unit_in bytes i) (unit_in bytes (suc i)) (words.unit_here bytes facts i first) (words.unit_here bytes facts (suc i) second)
      (told (words.tells_starts bytes facts (suc i)) starts)
      (ap (ends_step_three (before sheet (suc i)).phase) (fails_unqualified (suc i) fails) ∙ ends_qualifying (before sheet (suc i)).phase))

  lower_plan : (i : ℕ) → SecondFails bytes course (suc i) ⊎ SecondFailsLower bytes course (suc i)
      → course.plan_grade (suc (suc i)) ≡ worse (course.defect_grade i) (course.defect_grade (suc i))
  unfolding SecondFailsLower
  lower_plan i (inl second) =
      let first_is : second.first ≡ i = omega (arith, second.next) in
      two_start i (subst (λ (j : ℕ). UnitAt bytes j) first_is second.first_fails.unit) second.second_fails.unit second.second_fails.fails (inl second)
  lower_plan i (inr (one, none, two)) = two_start i one.unit two.unit two.fails (inr (one, none, two))

  break_here : (i : ℕ) → IsBreak bytes i → sheet.entry i ≡ Break
  break_here i is_break_holds = words.entry_is bytes facts i ∙ break_entry bytes i is_break_holds

  redesignation_here : (i : ℕ) → IsRedesignation bytes i → sheet.entry i ≡ Redesignation (new_grade bytes i)
  redesignation_here i is_redesignation = words.entry_is bytes facts i ∙ redesignation_entry bytes i is_redesignation

  after_redesignation_holds : (i : ℕ) → IsRedesignation bytes i
      → course.in_step_three (suc i) ≡ (course.in_step_three i && ltb (new_grade bytes i) (in_force_at sheet i))
  after_redesignation_holds i is_redesignation = stands.at_redesignation sheet i (new_grade bytes i) (redesignation_here i is_redesignation)

  -- ---- the CuSums before the next record

  at_start_holds : (i class : ℕ) → Restart bytes course i → in_force_at sheet (suc i) < substandard → class < length classes
      → course.cusum (suc i) class ≡ start_in bytes (in_force_at sheet (suc i)) class
  at_start_holds i class restart planned known =
      ap (λ cusums. tenths_in cusums class) (restart_starts sheet apart i (words.restart_told bytes facts i restart))
      ∙ start_is (in_force_at sheet (suc i)) class planned known

  unit_goes_on : (i class : ℕ) → UnitAt bytes i → (Restart bytes course i → ⊥) → class < length classes → course.cusum (suc i) class ≡ course.new_cusum i class
  unfolding cusums_behind
  unit_goes_on i class at none known =
      let kept = (no_restart_keeps sheet apart i (not_told (words.tells_restart_unit bytes facts i at) none)).1 in
      ap (λ cusums. tenths_in cusums class) (kept ∙ ap (cusums_behind sheet.table (before sheet i)) (words.unit_here bytes facts i at))
      ∙ cusum_graded sheet i (unit_in bytes i) class known

  redesignation_goes_on : (i class : ℕ) → IsRedesignation bytes i → (Restart bytes course i → ⊥) → class < length classes
      → course.cusum (suc i) class ≡ course.cusum i class
  unfolding cusums_behind
  redesignation_goes_on i class is_redesignation none known =
      let kept = (no_restart_keeps sheet apart i (not_told (words.tells_restart_redesignation bytes facts i is_redesignation) none)).1 in
      ap (λ cusums. tenths_in cusums class) (kept ∙ ap (cusums_behind sheet.table (before sheet i)) (redesignation_here i is_redesignation))

  pub rules : Rules bytes course
  rules =
      record {
        designated = designated_just_before bytes;
        opening = unfold before restarted in_step_three in refl;
        opening_cusums = opening_cusums;
        rule_two = rule_two;
        rule_three = rule_three;
        designated_plan = λ i out. in_force_outside (designated_at sheet i) (before sheet i).phase out ∙ words.designated_is bytes facts i;
        lower_plan = lower_plan;
        lower_stays = λ i inside still none. stands.lower_stays sheet apart i inside still (not_told (words.tells_second_lower bytes facts i) none);
        begins = λ i second. begins_at_second sheet i second.second_fails.step_three_holds ∙ told (words.tells_second bytes facts i) second;
        not_begun = λ i out none. begins_at_second sheet i out ∙ not_told (words.tells_second bytes facts i) none;
        ends = λ i third.
            let at = words.unit_third bytes facts i third in
            stands.at_unit sheet apart i (unit_in bytes i) (words.unit_here bytes facts i at) (words.inside_third bytes facts i third)
            ∙ ap not (told (words.tells_third bytes facts i) third);
        unit_stays = λ i at inside none.
            stands.at_unit sheet apart i (unit_in bytes i) (words.unit_here bytes facts i at) inside ∙ ap not (not_told (words.tells_third bytes facts i) none);
        break_stays = λ i is_break_holds inside. stands.at_break sheet i (break_here i is_break_holds) ∙ inside;
        redesignation_stays = λ i is_redesignation keeps. after_redesignation_holds i is_redesignation ∙ told (words.tells_keeps bytes facts i) keeps;
        redesignation_ends = λ i is_redesignation none. after_redesignation_holds i is_redesignation ∙ not_told (words.tells_keeps bytes facts i) none;
        restarts = at_start_holds;
        unit_goes_on = unit_goes_on;
        redesignation_goes_on = redesignation_goes_on;
      }

  pub same_words : SameWords bytes course
  unfolding tenths_from
  same_words =
      record {
        class_fails_holds = words.tells_class_at bytes facts;
        only_units_fail = words.only_units_fail bytes facts;
        second_fails = words.tells_second bytes facts;
        restart = words.tells_restart bytes facts;
        plan_grade_holds = λ i. refl;
        numbers = λ i class planned known. words.numbers_in bytes facts (in_force_at sheet i) class planned known;
        tenths_of_unit = words.tenths_of_unit bytes facts;
        tenths_of_other = words.tenths_of_other bytes facts;
        tenths_of_none = λ class from. refl;
        tenths_go_on = tenths_go_on sheet;
      }

  pub same_records : SameRecords bytes
  same_records =
      record {
        inside = words.inside_iff bytes facts;
        unit = words.unit_iff bytes facts;
        redesignation = λ i. (redesignation_mark_is bytes i, is_redesignation_mark bytes i);
      }

  -- ---- no other course

  bounded : (i : ℕ) → course.plan_grade i ≤ substandard
  unfolding sheet_in sheet_of
  bounded = in_force_at_most sheet (designated_le bytes facts.plan) (new_grades bytes (records_in bytes) facts)

  same_course : (other : Course) → Rules bytes other
      → ((i : ℕ) → i ≤ records_in bytes → SameBefore course other i) × ((i : ℕ) → UnitAt bytes i → i < records_in bytes → SameAt course other i)
  same_course other others =
      one_course bytes (records_in bytes) course other rules others bounded
      (λ j. settled (words.tells_unit bytes facts j)) (λ j. settled (words.tells_second bytes facts j))
      (λ j. settled (words.tells_second_lower bytes facts j)) (λ j. settled (words.tells_third bytes facts j))
      (λ j. settled (words.tells_keeps bytes facts j)) (λ j inside. settled (words.tells_restart bytes facts j inside)) (words.kind bytes facts)

  pub only_course : (other : Course) → Rules bytes other → (i : ℕ) → UnitAt bytes i → SameAt course other i
  only_course other others i at = (same_course other others).1 i at at.inside

  pub only_course_before : (other : Course) → Rules bytes other → (i : ℕ) → i ≤ records_in bytes → SameBefore course other i
  only_course_before other others = (same_course other others).0

  -- ---- recovery

  in_three : (i : ℕ) → AmongThree bytes course i → in_finished_run sheet i ≡ true
  in_three i among =
      let last = suc (suc among.first) in
      let row = among.in_a_row in
      let ends = third_ends sheet apart among.first (told (words.tells_qualifies bytes facts _) row.one) (told (words.tells_qualifies bytes facts _) row.two)
      (told (words.tells_qualifies bytes facts _) row.three) in
      let run = finished_run sheet last ends in
      run_in sheet i (record { last = last; run = run; ends = ends; from = omega (arith, run.ends_here, among.from); to = omega (arith, among.to) })

  three_of_run : (i : ℕ) → in_finished_run sheet i ≡ true → AmongThree bytes course i
  three_of_run i e =
      let found = in_run sheet i e in
      let run = found.run in
      record {
        first = run.start;
        from = found.from;
        to = omega (arith, found.to, run.ends_here);
        in_a_row =
            record {
              one = (words.tells_qualifies bytes facts _).so (qualifies_at_holds sheet run.first);
              two = (words.tells_qualifies bytes facts _).so (qualifies_at_holds sheet run.second);
              three = (words.tells_qualifies bytes facts _).so (qualifies_at_holds sheet run.third);
            };
      }

  pub recovered_is : (i : ℕ) → Recovered bytes course i → recovered sheet i (unit_in bytes i) ≡ true
  unfolding recovered sample_unit_at
  recovered_is i is_recovered =
      rw (eq-eqb (byte bytes (offset bytes i + recoverable_offset)) 1 is_recovered.marked) (in_three i is_recovered.among_three)

  is_recovered : (i : ℕ) → recovered sheet i (unit_in bytes i) ≡ true → Recovered bytes course i
  unfolding recovered sample_unit_at
  is_recovered i e =
      let (marked, inside) = and_both (eqb (byte bytes (offset bytes i + recoverable_offset)) 1) (in_finished_run sheet i) e in
      record { marked = eqb-true (byte bytes (offset bytes i + recoverable_offset)) 1 marked; among_three = three_of_run i inside }

  pub not_recovered_holds : (i : ℕ) → (Recovered bytes course i → ⊥) → recovered sheet i (unit_in bytes i) ≡ false
  not_recovered_holds i none = go (recovered sheet i (unit_in bytes i)) refl
    where
      go : (flag : Bool) → recovered sheet i (unit_in bytes i) ≡ flag → flag ≡ false
      go true e = absurd (none (is_recovered i e))
      go false e = refl

  -- a unit among the three qualifies
  three_qualify : (i : ℕ) → AmongThree bytes course i → Qualifies bytes course i
  three_qualify i among = go (eqb i among.first) refl (eqb i (suc among.first)) refl
    where
      go : (one : Bool) → eqb i among.first ≡ one → (two : Bool) → eqb i (suc among.first) ≡ two → Qualifies bytes course i
      go true e two f = subst⁻¹ (Qualifies bytes course) (eqb-true i among.first e) among.in_a_row.one
      go false e true f = subst⁻¹ (Qualifies bytes course) (eqb-true i (suc among.first) f) among.in_a_row.two
      go false e false f =
          let last : i ≡ suc (suc among.first)
          = omega (arith, eqb-false i among.first e, eqb-false i (suc among.first) f, among.from, among.to) in
          subst⁻¹ (Qualifies bytes course) last among.in_a_row.three

  pub outside_not_recovered : (i : ℕ) → course.in_step_three i ≡ false → recovered sheet i (unit_in bytes i) ≡ false
  outside_not_recovered i out = not_recovered_holds i (λ here. true≢false (sym (three_qualify i here.among_three).in_step_three_holds ∙ out))

  -- ---- where another lower plan starts

  -- behind the second failure the phase is step 3, at a worse grade
  starts_worse : (i : ℕ) → SecondFailsLower bytes course i → (course.plan_grade i < course.plan_grade (suc i)) × (course.in_step_three (suc i) ≡ true)
  unfolding in_step_three
  starts_worse i second =
      let (lower, phase, less) = stands.lower_plan_worse sheet apart i (told (words.tells_second_lower bytes facts i) second) in
      (omega (arith, less, in_force_lower (suc i) lower phase), ap in_step_three phase)

  designated_kept : (i : ℕ) → UnitAt bytes i → course.designated (suc i) ≡ course.designated i
  unfolding designated_before designated_by
  designated_kept i at = ap (designated_by (designated_before bytes i)) (entry_unit bytes i at.is_unit)

  not_qualifying : (i : ℕ) → UnitFails bytes course i → Qualifies bytes course i → ⊥
  unfolding unit_qualifies_at record_qualifies is_unit_that
  not_qualifying i fails here =
      let qualifies : qualifies_at sheet i (unit_in bytes i) ≡ true
      = sym (ap (record_qualifies sheet.table (before sheet i)) (words.unit_here bytes facts i here.unit)) ∙ told (words.tells_qualifies bytes facts i) here in
      true≢false (sym qualifies ∙ fails_unqualified i fails)

  same_plan : (i : ℕ) → SecondFailsLower bytes course (suc i) → course.plan_grade (suc i) ≡ course.plan_grade i
  unfolding SecondFailsLower
  same_plan i (one, none, two) = rules.lower_stays i one.step_three_holds two.step_three_holds none

  pub lower_plans : LowerPlans bytes course
  lower_plans =
      record {
        same_plan = same_plan;
        worse_grade = λ i second. (starts_worse i second).0;
        step_three_stays = λ i second. (starts_worse i second).1;
        designated_stays = λ i second. designated_kept i (words.second_lower_fails bytes course i second).unit;
        failing_not_qualifying = not_qualifying;
        no_run = λ i first second row from to.
            not_qualifying i (words.second_lower_fails bytes course i second).fails
            (three_qualify i (record { first = first; from = from; to = to; in_a_row = row }));
      }

-- ---- what is recorded

module _ (bytes buffer : List ℕ) (answer : Answer) (results : List ℕ) (accepted : AcceptedAs bytes buffer answer results) where
  passed : Facts bytes (records_in bytes)
  passed = (accepted_sheet bytes buffer answer results accepted).facts

  abbrev graded_sheet : Sheet
  graded_sheet = sheet_in bytes

  abbrev its_course : Course
  its_course = course_of bytes

  module _ (i : ℕ) (at : UnitAt bytes i) where
    abbrev unit : SampleUnit
    unit = unit_in bytes i

    portion_is : (flag : Bool) → recovered graded_sheet i unit ≡ flag
        → recorded_portion_grade bytes results i ≡ worse (cond flag (designated_at graded_sheet i) (its_course.defect_grade i)) (prerequisite bytes i)
    unfolding portion_grade portion_grade_of sample_unit_at
    portion_is flag e =
        recorded_portion_holds bytes buffer answer results accepted i at
        ∙ ap (λ (b : Bool). worse (cond b (designated_at graded_sheet i) (its_course.defect_grade i)) (prerequisite bytes i)) e

    standing_is : (flag : Bool) → recovered graded_sheet i unit ≡ flag
        → recorded_standing bytes results i ≡ standing_of (before graded_sheet i).phase (failing bytes passed i) flag
    unfolding standing graded
    standing_is flag e =
        recorded_standing_holds bytes buffer answer results accepted i at ∙ ap (standing_of (before graded_sheet i).phase (failing bytes passed i)) e

    standing_out : its_course.in_step_three i ≡ false → (fails : Bool) → failing bytes passed i ≡ fails → recorded_standing bytes results i ≡ cond fails 1 0
    standing_out out fails e =
        standing_is false (outside_not_recovered bytes passed i out)
        ∙ standing_outside (before graded_sheet i).phase (failing bytes passed i) out
        ∙ ap (λ (b : Bool). cond b 1 0) e

    overshoot_tells : (class : ℕ) → class < length classes → ClassFails bytes its_course i class ↔ (0 < recorded_overshoot bytes results i class)
    overshoot_tells class known =
        let rule = rule_two bytes passed i class at known in
        let is = recorded_overshoot_holds bytes buffer answer results accepted i at class known in (
          λ fails. omega (arith, is, rule.over fails, fails.above),
          λ positive.
              ⊎_elim (λ fails. fails) (λ none. absurd (omega (arith, is, positive, rule.not_over none)))
              (settled (words.tells_class bytes passed i class known)),
        )

    pub unit_recorded : UnitRecorded bytes results its_course i
    unfolding sample_unit_at
    unit_recorded =
        record {
          mark = recorded_mark_holds bytes buffer answer results accepted i at;
          code = recorded_code_holds bytes buffer answer results accepted i at;
          plan_grade_holds = recorded_plan_holds bytes buffer answer results accepted i at;
          cusums = recorded_cusum_holds bytes buffer answer results accepted i at;
          overshoots = recorded_overshoot_holds bytes buffer answer results accepted i at;
          overshoot_tells = overshoot_tells;
          overshoot_at_most = λ class known.
              omega (
                arith,
                recorded_overshoot_holds bytes buffer answer results accepted i at class known,
                overshoot_at_most bytes buffer answer results accepted i at class known,
                words.count_is bytes i class,
              );
          portion = λ none. portion_is false (not_recovered_holds bytes passed i none);
          recovered_portion = λ here.
              portion_is true (recovered_is bytes passed i here)
              ∙ ap (λ (grade : ℕ). worse grade (prerequisite bytes i)) (words.designated_is bytes passed i);
          standing_met = λ out none. standing_out out false (not_told (words.tells_unit bytes passed i) none);
          standing_failed = λ out fails. standing_out out true (told (words.tells_unit bytes passed i) fails);
          standing_not_recovered = λ inside none.
              standing_is false (not_recovered_holds bytes passed i none) ∙ standing_inside (before graded_sheet i).phase (failing bytes passed i) inside;
          standing_recovered = λ here. standing_is true (recovered_is bytes passed i here) ∙ unfold standing_of in refl;
        }

  -- ---- the code grade

  pub code_grades : (i : ℕ) → UnitAt bytes i → WorstOfCode bytes results i
  unfolding code_grade sheet_in sheet_of
  code_grades =
      worst_of_code bytes results (portion_grade graded_sheet) (recorded_portion_holds bytes buffer answer results accepted)
      (recorded_code_grade_holds bytes buffer answer results accepted)

pub demand2_records : Demand2Records
demand2_records bytes buffer answer results accepted =
    let facts = (accepted_sheet bytes buffer answer results accepted).facts in
    record {
      course = course_of bytes;
      rules = rules bytes facts;
      lower_plans = lower_plans bytes facts;
      only_course = only_course bytes facts;
      only_course_before = only_course_before bytes facts;
      recorded = unit_recorded bytes buffer answer results accepted;
      code_grades = code_grades bytes buffer answer results accepted;
      same_records = same_records bytes facts;
      same_words = same_words bytes facts;
    }

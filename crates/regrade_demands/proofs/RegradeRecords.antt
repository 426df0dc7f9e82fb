-- Demand 2 for regradings: the course of the definitions follows the rules by place, no other course does, and the result records hold what
-- it says. Each rule is a law of the definitions; that there is one course only is by induction on the records.
use Prim.Native.Nat.{ℕ, zero, suc, ◌+◌, ◌-◌, ◌<◌, ◌≤◌, min}
use mathlib.Core.Path.{◌≡◌, refl, sym, ◌∙◌, ap, subst⁻¹}
use mathlib.Core.Bool.{Bool, true, false, cond}
use mathlib.Core.Logic.{◌⊎◌, inl, inr, ⊎_elim, ◌↔◌}
use mathlib.Core.List.{List, [], ◌∷◌}
use native.Mathlib.Omega.{arith}
use lib.Dec.{ltb}
use lib.ListN.{length}
use borrow.Author.Tests.{ltb-true, ltb-false, lt-ltb}
use Rattle.cusum.specs.Step.{fails}
use Rattle.cusum.proofs.Laws.{new_cusum_is, overshoot_is, fails_true, fails_false}
use Rattle.units.specs.Words.{substandard, has_plan, classes, numbers_of, tenths_in, tenths_of, count_tenths}
use Rattle.units.specs.Unit.{class_cusum, class_overshoot, class_fails, unit_fails, new_cusums, defect_grade}
use Rattle.units.specs.Records.{is_unit_that}
use Rattle.units.specs.BestLower.{BestLower}
use Rattle.units.specs.declared.Entry.{Entry}
use Rattle.units.specs.declared.Entry.TheVariants.{UnitRecord, Redesignation, Break}
use Rattle.units.proofs.BestLower.{best_lower_is}
use Rattle.units.proofs.Classes.{at_class}
use Rattle.rules.specs.Sheet.{Sheet}
use Rattle.rules.proofs.FailingUnits.{starts_at}
use Rattle.anchors.specs.Anchor.{tenths_from}
use Rattle.anchors.proofs.Trails.{tenths_go_on}
use Rattle.layout.specs.Layout.{plan_of, sample_unit_at, entry_at}
use Rattle.layout.proofs.Units.{entry_unit}
use Rattle.sheet.specs.Refusals.{plan_refusal}
use Rattle.sheet.proofs.Accepted.{Facts}
use Rattle.sheet.proofs.Ranges.{designated_le}
use Rattle.recording.specs.Sheet.{sheet_of}
use Rattle.outcome.specs.declared.Answer.{Answer}
use Rattle.tally.specs.Outcome.{records_in}
use Rattle.tally.specs.Accepted.{sheet_in, UnitAt, recorded_overshoot}
use Rattle.regrade.specs.Regrading.{cusums_behind, cusums_before, regraded_portion, regraded_code}
use Rattle.regrade.specs.Outcome.{sheet_under}
use Rattle.grounds.specs.Tells.{Tells}
use Rattle.grounds.proofs.Tells.{told, not_told, tells_as, tells_any}
use Rattle.answers.specs.Grounds.{start_in, tolerance_in, limit_in, IsRedesignation, IsBreak}
use Rattle.answers.proofs.Rows.{numbers_there}
use Rattle.courses.specs.Course.{ten_times_count}
use Rattle.courses.specs.Demand2.{recorded_standing, WorstOfCode}
use Rattle.courses.proofs.CourseWords.{unit_in, count_is, break_entry, redesignation_entry}
use Rattle.courses.proofs.CourseWords as words
use Rattle.courses.proofs.CodeGrades.{worst_of_code}
use Rattle.courses.proofs.OneCourse.{settled}
use Rattle.courses.proofs.Graded.{same_records}
use Rattle.regrade_demands.specs.RegradeAccepted.{RegradedAs, regraded_sheet, second_designated, second_numbers, fails_regraded_at}
use Rattle.regrade_demands.specs.RegradeRecords.{RegradeCourse, RuleTwoBy, ClassFailsRegraded, UnitFailsRegraded, BestLowerUnder, RuleThreeUnder, RegradeRules, RegradeRecorded, SameRegradedAt, RegradeGraded}
use Rattle.regrade_demands.proofs.RegradeRecorded.{its_facts, second_passes, recorded_mark_holds, recorded_code_holds, recorded_plan_holds, recorded_portion_holds, recorded_code_grade_holds, recorded_standing_holds, recorded_cusum_holds, overshoot_at_most, recorded_overshoot_holds}

-- ---- rule 2 tells one CuSum and one overshoot

module _ {reached tolerance limit new over new' over' : ℕ} (one : RuleTwoBy reached tolerance limit new over) (two : RuleTwoBy reached tolerance limit new' over') where
  same_by_rule_two : (new ≡ new') × (over ≡ over')
  same_by_rule_two = go (ltb (tolerance + limit) reached) refl (ltb reached tolerance) refl
    where
      go : (high : Bool) → ltb (tolerance + limit) reached ≡ high → (low : Bool) → ltb reached tolerance ≡ low → (new ≡ new') × (over ≡ over')
      go true e low f =
          let above = ltb-true (tolerance + limit) reached e in
          (one.fails above ∙ sym (two.fails above), omega (arith, one.over_by above, two.over_by above))
      go false e true f =
          let most = ltb-false (tolerance + limit) reached e in
          let below = ltb-true reached tolerance f in
          (one.below below ∙ sym (two.below below), one.not_over most ∙ sym (two.not_over most))
      go false e false f =
          let most = ltb-false (tolerance + limit) reached e in
          let least = ltb-false reached tolerance f in
          (omega (arith, one.between least most, two.between least most), one.not_over most ∙ sym (two.not_over most))

over_or_not : (bound reached : ℕ) → (bound < reached) ⊎ (reached ≤ bound)
over_or_not bound reached = go (ltb bound reached) refl
  where
    go : (test : Bool) → ltb bound reached ≡ test → (bound < reached) ⊎ (reached ≤ bound)
    go true e = inl (ltb-true bound reached e)
    go false e = inr (ltb-false bound reached e)

-- no grade is better than the best lower one, so that there is one; whatever course it is of
not_better : (bytes plan : List ℕ) (course other : RegradeCourse) (i grade grade' : ℕ) → BestLowerUnder bytes plan course i grade
    → BestLowerUnder bytes plan other i grade' → grade < grade' → ⊥
not_better bytes plan course other i grade grade' one two less =
    two.none_better grade one.lower less (one.admits (omega (arith, less, two.a_grade)))

one_best : (bytes plan : List ℕ) (course other : RegradeCourse) (i grade grade' : ℕ) → BestLowerUnder bytes plan course i grade
    → BestLowerUnder bytes plan other i grade' → grade ≡ grade'
one_best bytes plan course other i grade grade' one two = go (ltb grade grade') refl (ltb grade' grade) refl
  where
    go : (less : Bool) → ltb grade grade' ≡ less → (more : Bool) → ltb grade' grade ≡ more → grade ≡ grade'
    go true e more f = absurd (not_better bytes plan course other i grade grade' one two (ltb-true grade grade' e))
    go false e true f = absurd (not_better bytes plan other course i grade' grade two one (ltb-true grade' grade f))
    go false e false f = omega (arith, ltb-false grade grade' e, ltb-false grade' grade f)

-- ---- the course of the definitions

abbrev pub regraded_course : List ℕ → List ℕ → RegradeCourse
regraded_course bytes plan =
    let sheet = regraded_sheet bytes plan in
    record {
      cusum = λ i class. tenths_in (cusums_before sheet i) class;
      new_cusum = λ i class. class_cusum sheet.table sheet.designated (cusums_before sheet i) (tenths_of (unit_in bytes i)) class;
      overshoot = λ i class. class_overshoot sheet.table sheet.designated (cusums_before sheet i) (tenths_of (unit_in bytes i)) class;
      defect_grade = λ i. defect_grade sheet.table sheet.designated (cusums_before sheet i) (tenths_of (unit_in bytes i));
    }

module _ (bytes plan : List ℕ) (facts : Facts bytes (records_in bytes)) (second : plan_refusal plan ≡ 0) where
  abbrev sheet : Sheet
  sheet = regraded_sheet bytes plan

  abbrev course : RegradeCourse
  course = regraded_course bytes plan

  abbrev its_grade : ℕ
  its_grade = second_designated plan

  designated_is : sheet.designated ≡ second_designated plan
  unfolding regraded_sheet sheet_under plan_of
  designated_is = refl

  planned : second_designated plan < substandard
  unfolding plan_of
  planned = omega (arith, designated_le plan second)

  entry_here : (i : ℕ) {entry : Entry} → entry_at bytes i ≡ entry → sheet.entry i ≡ entry
  unfolding regraded_sheet sheet_under
  entry_here i reads = reads

  -- S, T and L of a grade of the second plan
  numbers_in : (grade class : ℕ) → grade < substandard → class < length classes →
      let numbers = numbers_of sheet.table grade class in
      (numbers.start ≡ start_in plan grade class) × (numbers.tolerance ≡ tolerance_in plan grade class) × (numbers.limit ≡ limit_in plan grade class)
  unfolding regraded_sheet sheet_under
  numbers_in grade class has known = rw (numbers_there plan grade class has known) (refl, refl, refl)

  numbers_here : (class : ℕ) → class < length classes →
      let numbers = second_numbers bytes plan class in
      (numbers.start ≡ start_in plan its_grade class) × (numbers.tolerance ≡ tolerance_in plan its_grade class) × (numbers.limit ≡ limit_in plan its_grade class)
  numbers_here class known =
      subst⁻¹ (λ (grade : ℕ).
      let numbers = numbers_of sheet.table grade class in
      (numbers.start ≡ start_in plan its_grade class) × (numbers.tolerance ≡ tolerance_in plan its_grade class) × (numbers.limit ≡ limit_in plan its_grade class))
      designated_is (numbers_in its_grade class planned known)

  has_plan_holds : has_plan sheet.designated ≡ true
  unfolding has_plan
  has_plan_holds = lt-ltb sheet.designated substandard (omega (arith, planned, designated_is))

  -- ---- rule 2

  cusum_is : (i class : ℕ) → class < length classes
      → course.new_cusum i class ≡ min (limit_in plan its_grade class) (course.cusum i class + ten_times_count bytes i class - tolerance_in plan its_grade class)
  unfolding class_cusum
  cusum_is i class known =
      let (start, tolerance, limit) = numbers_here class known in
      rw (has_plan_holds, ← tolerance, ← limit, ← count_is bytes i class)
      (new_cusum_is (second_numbers bytes plan class) (course.cusum i class) (count_tenths (tenths_of (unit_in bytes i)) class))

  overshoot_is_above : (i class : ℕ) → class < length classes
      → course.overshoot i class
      ≡ course.cusum i class + ten_times_count bytes i class - tolerance_in plan its_grade class - limit_in plan its_grade class
  unfolding class_overshoot
  overshoot_is_above i class known =
      let (start, tolerance, limit) = numbers_here class known in
      rw (has_plan_holds, ← tolerance, ← limit, ← count_is bytes i class)
      (overshoot_is (second_numbers bytes plan class) (course.cusum i class) (count_tenths (tenths_of (unit_in bytes i)) class))

  rule_two : (i class : ℕ) → class < length classes
      → RuleTwoBy (course.cusum i class + ten_times_count bytes i class) (tolerance_in plan its_grade class) (limit_in plan its_grade class)
      (course.new_cusum i class) (course.overshoot i class)
  rule_two i class known =
      record {
        fails = λ above. omega (arith, cusum_is i class known, above);
        below = λ small. omega (arith, cusum_is i class known, small);
        between = λ from to. omega (arith, cusum_is i class known, from, to);
        over_by = λ above. omega (arith, overshoot_is_above i class known, above);
        not_over = λ most. omega (arith, overshoot_is_above i class known, most);
      }

  -- a class fails
  tells_class : (i class : ℕ) → class < length classes
      → Tells (class_fails sheet.table sheet.designated (cusums_before sheet i) (tenths_of (unit_in bytes i)) class) (ClassFailsRegraded bytes plan course i class)
  unfolding class_fails
  tells_class i class known =
      let (start, tolerance, limit) = numbers_here class known in
      rw has_plan_holds
      (record {
        so = λ e. omega (arith, fails_true _ _ _ e, tolerance, limit, count_is bytes i class);
        not_so = λ e above. omega (arith, fails_false _ _ _ e, tolerance, limit, count_is bytes i class, above);
      })

  -- ---- rule 3

  abbrev failing : ℕ → Bool
  failing i = unit_fails sheet.table sheet.designated (cusums_before sheet i) (tenths_of (unit_in bytes i))

  tells_unit : (i : ℕ) → Tells (failing i) (UnitFailsRegraded bytes plan course i)
  unfolding unit_fails
  tells_unit i =
      tells_as
      (λ (class, known, here). record { class = class; a_class = known; fails = here })
      (λ (found : UnitFailsRegraded bytes plan course i). (found.class, found.a_class, found.fails))
      (tells_any (length classes) _ (ClassFailsRegraded bytes plan course i) (tells_class i))

  defect_meets : (i : ℕ) → failing i ≡ false → course.defect_grade i ≡ its_grade
  unfolding defect_grade
  defect_meets i meets = rw meets designated_is

  defect_fails : (i : ℕ) → failing i ≡ true → BestLower sheet.table sheet.designated (tenths_of (unit_in bytes i)) (course.defect_grade i)
  unfolding defect_grade
  defect_fails i failed =
      rw failed (best_lower_is sheet.table (tenths_of (unit_in bytes i)) sheet.designated (omega (arith, planned, designated_is)))

  -- T+L of a grade that has a plan
  bound_is : (grade class : ℕ) → grade < substandard → class < length classes
      → (numbers_of sheet.table grade class).tolerance + (numbers_of sheet.table grade class).limit ≡ tolerance_in plan grade class + limit_in plan grade class
  bound_is grade class has known =
      let (start, tolerance, limit) = numbers_in grade class has known in
      omega (arith, tolerance, limit)

  best_lower_holds : (i grade : ℕ) → BestLower sheet.table sheet.designated (tenths_of (unit_in bytes i)) grade → BestLowerUnder bytes plan course i grade
  best_lower_holds i grade best =
      record {
        lower = omega (arith, best.lower, designated_is);
        a_grade = best.grade_or_none;
        admits = λ has class known. omega (arith, best.admits has class known, count_is bytes i class, bound_is grade class has known);
        none_better = λ better above below every.
            best.none_better better (omega (arith, above, designated_is)) below
            (λ class known.
            omega (arith, every class known, count_is bytes i class, bound_is better class (omega (arith, below, best.grade_or_none)) known));
      }

  rule_three : (i : ℕ) → RuleThreeUnder bytes plan course i
  rule_three i =
      record {
        meets = λ none. defect_meets i (not_told (tells_unit i) none);
        fails = λ here. best_lower_holds i (course.defect_grade i) (defect_fails i (told (tells_unit i) here));
      }

  -- ---- from record to record

  at_start_holds : (class : ℕ) → class < length classes → course.cusum 0 class ≡ start_in plan its_grade class
  unfolding cusums_before
  at_start_holds class known = starts_at sheet.table class known sheet.designated ∙ (numbers_here class known).0

  -- the CuSums behind record i, by the record there
  behind : (i class : ℕ) {entry : Entry} → entry_at bytes i ≡ entry → course.cusum (suc i) class ≡ tenths_in (cusums_behind sheet (cusums_before sheet i) entry) class
  unfolding cusums_before
  behind i class reads = ap (λ (entry : Entry). tenths_in (cusums_behind sheet (cusums_before sheet i) entry) class) (entry_here i reads)

  unit_goes_on : (i class : ℕ) → UnitAt bytes i → class < length classes → course.cusum (suc i) class ≡ course.new_cusum i class
  unfolding cusums_behind new_cusums
  unit_goes_on i class at known =
      behind i class (entry_unit bytes i at.is_unit)
      ∙ at_class (class_cusum sheet.table sheet.designated (cusums_before sheet i) (tenths_of (unit_in bytes i))) class known

  break_restarts : (i class : ℕ) → IsBreak bytes i → class < length classes → course.cusum (suc i) class ≡ start_in plan its_grade class
  unfolding cusums_behind cusums_before
  break_restarts i class is_break_holds known = behind i class (break_entry bytes i is_break_holds) ∙ at_start_holds class known

  redesignation_passed : (i class : ℕ) → IsRedesignation bytes i → course.cusum (suc i) class ≡ course.cusum i class
  unfolding cusums_behind
  redesignation_passed i class is_redesignation = behind i class (redesignation_entry bytes i is_redesignation)

  rules : RegradeRules bytes plan course
  rules =
      record {
        opening = at_start_holds;
        rule_two = λ i class at known. rule_two i class known;
        rule_three = λ i at. rule_three i;
        unit_goes_on = unit_goes_on;
        break_restarts = break_restarts;
        redesignation_passed = λ i class is_redesignation known. redesignation_passed i class is_redesignation;
      }

  -- ---- no other course

  module _ (other : RegradeCourse) (others : RegradeRules bytes plan other) where
    abbrev SameBefore : ℕ → Type 0
    SameBefore i = (class : ℕ) → class < length classes → course.cusum i class ≡ other.cusum i class

    same_at : (i class : ℕ) → UnitAt bytes i → SameBefore i → class < length classes
        → (course.new_cusum i class ≡ other.new_cusum i class) × (course.overshoot i class ≡ other.overshoot i class)
    same_at i class at same known =
        same_by_rule_two (rule_two i class known)
        (subst⁻¹ (λ (old : ℕ). RuleTwoBy (old + ten_times_count bytes i class) (tolerance_in plan its_grade class) (limit_in plan its_grade class)
        (other.new_cusum i class) (other.overshoot i class)) (same class known) (others.rule_two i class at known))

    pub same_before : (i : ℕ) → i ≤ records_in bytes → SameBefore i
    same_before zero inside class known = rules.opening class known ∙ sym (others.opening class known)
    same_before (suc i) inside class known = go (words.kind bytes facts i (omega (arith, inside))) (same_before i (omega arith))
      where
        go : UnitAt bytes i ⊎ (IsRedesignation bytes i ⊎ IsBreak bytes i) → SameBefore i → course.cusum (suc i) class ≡ other.cusum (suc i) class
        go (inl at) same = unit_goes_on i class at known ∙ (same_at i class at same known).0 ∙ sym (others.unit_goes_on i class at known)
        go (inr (inl is_redesignation)) same =
            redesignation_passed i class is_redesignation ∙ same class known ∙ sym (others.redesignation_passed i class is_redesignation known)
        go (inr (inr is_break_holds)) same = break_restarts i class is_break_holds known ∙ sym (others.break_restarts i class is_break_holds known)

    -- a unit fails in both or in neither
    fails_too : (i : ℕ) → SameBefore i → UnitFailsRegraded bytes plan course i → UnitFailsRegraded bytes plan other i
    fails_too i same here =
        record { class = here.class; a_class = here.a_class; fails = omega (arith, here.fails, same here.class here.a_class) }

    fails_first : (i : ℕ) → SameBefore i → UnitFailsRegraded bytes plan other i → UnitFailsRegraded bytes plan course i
    fails_first i same here =
        record { class = here.class; a_class = here.a_class; fails = omega (arith, here.fails, same here.class here.a_class) }

    same_grade : (i : ℕ) → UnitAt bytes i → SameBefore i → course.defect_grade i ≡ other.defect_grade i
    same_grade i at same =
        ⊎_elim
        (λ here. one_best bytes plan course other i (course.defect_grade i) (other.defect_grade i) ((rule_three i).fails here)
        ((others.rule_three i at).fails (fails_too i same here)))
        (λ none. (rule_three i).meets none ∙ sym ((others.rule_three i at).meets (λ here. none (fails_first i same here))))
        (settled (tells_unit i))

    pub only_course : (i : ℕ) → UnitAt bytes i → SameRegradedAt course other i
    only_course i at =
        let same = same_before i (omega (arith, at.inside)) in
        record {
          new_cusums_holds = λ class known. (same_at i class at same known).0;
          overshoots = λ class known. (same_at i class at same known).1;
          defect_grade_holds = same_grade i at same;
        }

  -- ---- the words of demand 3

  tells_class_at : (i class : ℕ) → UnitAt bytes i → class < length classes
      → Tells (fails_regraded_at sheet class i) (ClassFailsRegraded bytes plan course i class)
  unfolding fails_regraded_at is_unit_that
  tells_class_at i class at known = rw (entry_here i (entry_unit bytes i at.is_unit)) (tells_class i class known)

  only_units_fail : (i class : ℕ) → (UnitAt bytes i → ⊥) → fails_regraded_at sheet class i ≡ false
  unfolding fails_regraded_at is_unit_that regraded_sheet sheet_under
  only_units_fail i class none = go (entry_at bytes i) refl
    where
      go : (entry : Entry) → entry_at bytes i ≡ entry
          → is_unit_that (λ unit. class_fails sheet.table sheet.designated (cusums_before sheet i) (tenths_of unit) class) entry ≡ false
      go (UnitRecord unit) e = absurd (none (words.unit_there bytes facts i unit (words.entry_is bytes facts i ∙ e)))
      go (Redesignation new) e = refl
      go Break e = refl

  -- counts go by the records of the sheet, whatever plan stands before them
  tenths_of_unit : (i class : ℕ) → UnitAt bytes i → tenths_from (regraded_sheet bytes plan) class i 1 ≡ ten_times_count bytes i class ∷ []
  unfolding regraded_sheet sheet_under sheet_in sheet_of tenths_from
  tenths_of_unit = words.tenths_of_unit bytes facts

  tenths_of_other : (i class : ℕ) → (UnitAt bytes i → ⊥) → tenths_from (regraded_sheet bytes plan) class i 1 ≡ []
  unfolding regraded_sheet sheet_under sheet_in sheet_of tenths_from
  tenths_of_other = words.tenths_of_other bytes facts

-- ---- what is recorded

module _ (bytes plan buffer : List ℕ) (answer : Answer) (results : List ℕ) (accepted : RegradedAs bytes plan buffer answer results) where
  passed : Facts bytes (records_in bytes)
  passed = its_facts bytes plan buffer answer results accepted

  right : plan_refusal plan ≡ 0
  right = second_passes bytes plan buffer answer results accepted

  abbrev its_course : RegradeCourse
  its_course = regraded_course bytes plan

  module _ (i : ℕ) (at : UnitAt bytes i) where
    standing_by : (fails : Bool) → failing bytes plan passed right i ≡ fails → recorded_standing bytes results i ≡ cond fails 1 0
    standing_by fails e = recorded_standing_holds bytes plan buffer answer results accepted i at ∙ ap (λ (b : Bool). cond b 1 0) e

    overshoot_tells : (class : ℕ) → class < length classes → ClassFailsRegraded bytes plan its_course i class ↔ (0 < recorded_overshoot bytes results i class)
    overshoot_tells class known =
        let rule = rule_two bytes plan passed right i class known in
        let is = recorded_overshoot_holds bytes plan buffer answer results accepted i at class known in (
          λ fails. omega (arith, is, rule.over_by fails, fails),
          λ positive.
              ⊎_elim (λ fails. fails) (λ none. absurd (omega (arith, is, positive, rule.not_over (omega (arith, none)))))
              (over_or_not (tolerance_in plan (second_designated plan) class + limit_in plan (second_designated plan) class)
              (its_course.cusum i class + ten_times_count bytes i class)),
        )

    unit_recorded : RegradeRecorded bytes plan results its_course i
    unfolding regraded_portion sample_unit_at
    unit_recorded =
        record {
          mark = recorded_mark_holds bytes plan buffer answer results accepted i at;
          code = recorded_code_holds bytes plan buffer answer results accepted i at;
          plan_grade_holds = recorded_plan_holds bytes plan buffer answer results accepted i at ∙ designated_is bytes plan passed right;
          cusums = recorded_cusum_holds bytes plan buffer answer results accepted i at;
          overshoots = recorded_overshoot_holds bytes plan buffer answer results accepted i at;
          overshoot_tells = overshoot_tells;
          overshoot_at_most = λ class known.
              omega (
                arith,
                recorded_overshoot_holds bytes plan buffer answer results accepted i at class known,
                overshoot_at_most bytes plan buffer answer results accepted i at class known,
                count_is bytes i class,
              );
          portion = recorded_portion_holds bytes plan buffer answer results accepted i at;
          standing_met = λ none. standing_by false (not_told (tells_unit bytes plan passed right i) none);
          standing_failed = λ here. standing_by true (told (tells_unit bytes plan passed right i) here);
        }

  code_grades : (i : ℕ) → UnitAt bytes i → WorstOfCode bytes results i
  unfolding regraded_code regraded_sheet sheet_under
  code_grades =
      worst_of_code bytes results (regraded_portion (regraded_sheet bytes plan)) (recorded_portion_holds bytes plan buffer answer results accepted)
      (recorded_code_grade_holds bytes plan buffer answer results accepted)

pub regrade_graded : RegradeGraded
unfolding tenths_from
regrade_graded bytes plan buffer answer results accepted =
    let facts = its_facts bytes plan buffer answer results accepted in
    let second = second_passes bytes plan buffer answer results accepted in
    record {
      course = regraded_course bytes plan;
      rules = rules bytes plan facts second;
      only_course_before = λ other others i class inside known. same_before bytes plan facts second other others i inside class known;
      only_course = only_course bytes plan facts second;
      recorded = unit_recorded bytes plan buffer answer results accepted;
      code_grades = code_grades bytes plan buffer answer results accepted;
      class_fails_holds = tells_class_at bytes plan facts second;
      only_units_fail = only_units_fail bytes plan facts second;
      numbers = numbers_here bytes plan facts second;
      tenths_of_none = λ class from. refl;
      tenths_go_on = tenths_go_on (regraded_sheet bytes plan);
      tenths_of_unit = tenths_of_unit bytes plan facts second;
      tenths_of_other = tenths_of_other bytes plan facts second;
      same_records = same_records bytes facts;
    }

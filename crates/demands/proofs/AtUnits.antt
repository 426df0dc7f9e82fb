-- The statements of `Instances` at some units of any accepted sheet, from the demands' theorems. What a standing says of a unit: each other
-- reading of the course would have another standing recorded.
use Prim.Native.Nat.{ℕ, suc, ◌+◌, ◌*◌, ◌<◌, ◌≤◌}
use mathlib.Core.Path.{◌≡◌, refl, sym, ◌∙◌, ap, subst}
use mathlib.Core.Bool.{Bool, true, false, not, ◌&&◌, ◌||◌, false≢true}
use mathlib.Core.List.{List, [], ◌∷◌}
use mathlib.Core.Logic.{◌⊎◌, inl, inr, ⊎_elim}
use native.Mathlib.Omega.{arith}
use lib.Dec.{leb, ltb, eqb, lit<}
use lib.IntN.{pos}
use lib.ListN.{length, replicate, length-replicate, get_or-eq_default}
use borrow.Author.Tests.{ltb-true, ltb-false, leb-true, eqb-true, eqb-false, eq-eqb, not-true}
use Rattle.std.proofs.Common.{Option, Some, None}
use Rattle.cusum.specs.LargestForm.{largest_form, anchor_value}
use Rattle.encoding.specs.Bytes.{byte}
use Rattle.units.specs.Conditions.{all}
use Rattle.units.specs.Words.{classes, has_plan, worse, up_from}
use Rattle.units.proofs.Lists.{all_each}
use Rattle.units.proofs.Tests.{and_both}
use Rattle.rules.specs.Sheet.{in_force_at}
use Rattle.anchors.specs.TwoInARow.{second_in_a_row}
use Rattle.anchors.specs.Anchor.{tenths_from, Anchor, Latest}
use Rattle.layout.specs.Layout.{units_in, mark}
use Rattle.layout.specs.declared.Mark.{Mark}
use Rattle.layout.specs.declared.Mark.TheVariants.{UnitMark, RedesignationMark, BreakMark}
use Rattle.results.specs.Record.{result_size}
use Rattle.outcome.specs.declared.Answer.{Answer}
use Rattle.tally.specs.Outcome.{records_in}
use Rattle.tally.specs.Accepted.{AcceptedAs, sheet_in, UnitAt, recorded_portion_grade, recorded_code_grade, numbers_in_force}
use Rattle.courses.specs.Course.{Course, prerequisite, ClassFails, SecondFailsLower, RuleTwo}
use Rattle.courses.specs.Demand2.{GradedByRules, UnitRecorded, recorded_plan_grade, recorded_standing, code_of}
use Rattle.demands.specs.Demand3.{LargestOf, NoHigherAt, NeverWorse}
use Rattle.demands.specs.Instances.{left, Each, Standing, met, failed, not_recovered, recovered, standing_byte, StandingSays, grade_by, UnitInstance, CourseInstance, LowerPlanInstance, LowerPlansInstance, CodeInstance, LargestInstance, LargestNumber, NoHigherInstance, NoLowerInstance}
use Rattle.grounds.specs.Tells.{Tells}
use Rattle.grounds.proofs.Tells.{tells_lt, tells_eq, tells_true}
use Rattle.courses.proofs.OneCourse.{settled}
use Rattle.courses.proofs.CourseWords.{second_lower_fails}
use Rattle.courses.proofs.Graded.{demand2_records}
use Rattle.demands.proofs.LargestOf.{demand3_largest_form}

-- ---- what is tested and is not other than so

unless : {test : Bool} {P : Type 0} → Tells test P → ((P → ⊥) → ⊥) → P
unless tells other = ⊎_elim (λ here. here) (λ none. absurd (other none)) (settled tells)

-- ---- what is computed of each member of a list

each : {A : Type 0} {P : A → Type 0} (test : A → Bool) → ((member : A) → test member ≡ true → P member)
    → (members : List A) → all test members ≡ true → Each members P
unfolding all
each test so [] e = tt
each test so (member ∷ members) e =
    let (here, others) = and_both (test member) (all test members) e in
    (so member here, each test so members others)

-- record i of so many is a unit, by its mark
abbrev unit_test : List ℕ → ℕ → ℕ → Bool
unit_test bytes records i = ltb i records && eqb (units_in (mark bytes i)) 1

module _ (bytes : List ℕ) (records : ℕ) (counted : records_in bytes ≡ records) (i : ℕ) where
  unit_at : unit_test bytes records i ≡ true → UnitAt bytes i
  unfolding units_in
  unit_at e =
      let (inside, one) = and_both (ltb i records) (eqb (units_in (mark bytes i)) 1) e in
      record { inside = omega (arith, ltb-true i records inside); is_unit = by_mark (mark bytes i) one }
    where
      by_mark : (m : Option Mark) → eqb (units_in m) 1 ≡ true → m ≡ Some UnitMark
      by_mark (Some UnitMark) e = refl
      by_mark (Some RedesignationMark) e = absurd (false≢true e)
      by_mark (Some BreakMark) e = absurd (false≢true e)
      by_mark None e = absurd (false≢true e)

  -- a unit of which something more is computed
  unit_and : (more : Bool) → (unit_test bytes records i && more) ≡ true → UnitAt bytes i × (more ≡ true)
  unit_and more e = let (unit, so) = and_both (unit_test bytes records i) more e in (unit_at unit, so)

-- every byte is below 256; behind the end of a sheet they are read as 0
pub all_bytes : (bytes : List ℕ) → all (λ place. ltb (byte bytes place) 256) (up_from 0 (length bytes)) ≡ true → (place : ℕ) → byte bytes place < 256
all_bytes bytes small place = go (ltb place (length bytes)) refl
  where
    go : (inside : Bool) → ltb place (length bytes) ≡ inside → byte bytes place < 256
    go true e = ltb-true _ _ (all_each (length bytes) (λ k. ltb (byte bytes k) 256) small place (ltb-true place (length bytes) e))
    go false e = rw (get_or-eq_default bytes 0 (ltb-false place (length bytes) e)) (lit< tt)

-- ---- demand 2

module _ (bytes results : List ℕ) (course : Course) (i : ℕ) (unit : UnitRecorded bytes results course i) where
  outside : recorded_standing bytes results i < 2 → course.in_step_three i ≡ false
  outside below = go (course.in_step_three i) refl
    where
      go : (test : Bool) → course.in_step_three i ≡ test → course.in_step_three i ≡ false
      go false e = e
      go true e = absurd (omega (arith, unit.standing_not_recovered e (λ yes. omega (arith, unit.standing_recovered yes))))

  inside : 2 ≤ recorded_standing bytes results i → course.in_step_three i ≡ true
  inside above = go (course.in_step_three i) refl
    where
      go : (test : Bool) → course.in_step_three i ≡ test → course.in_step_three i ≡ true
      go true e = e
      go false e = absurd (omega (arith, unit.standing_met e (λ fails. omega (arith, unit.standing_failed e fails))))

  standing_says : (given : Standing) → recorded_standing bytes results i ≡ standing_byte given → StandingSays bytes course i given
  unfolding standing_byte StandingSays
  standing_says met e = let out = outside (omega arith) in (out, λ fails. omega (arith, unit.standing_failed out fails))
  standing_says failed e = let out = outside (omega arith) in (out, λ meets. omega (arith, unit.standing_met out meets))
  standing_says not_recovered e = (inside (omega arith), λ yes. omega (arith, unit.standing_recovered yes))
  standing_says recovered e = λ no. omega (arith, unit.standing_not_recovered (inside (omega arith)) no)

  portion_by : (given : Standing) → recorded_standing bytes results i ≡ standing_byte given
      → recorded_portion_grade bytes results i ≡ worse (grade_by course i given) (prerequisite bytes i)
  unfolding standing_byte StandingSays grade_by
  portion_by met e = unit.portion (λ yes. omega (arith, unit.standing_recovered yes))
  portion_by failed e = unit.portion (λ yes. omega (arith, unit.standing_recovered yes))
  portion_by not_recovered e = unit.portion (λ yes. omega (arith, unit.standing_recovered yes))
  portion_by recovered e = unless (tells_eq _ _) (λ other. standing_says recovered e (λ yes. other (unit.recovered_portion yes)))

module _ (bytes buffer : List ℕ) (answer : Answer) (results : List ℕ) (accepted : AcceptedAs bytes buffer answer results)
    (records : ℕ) (counted : records_in bytes ≡ records) where
  by_rules : GradedByRules bytes results
  by_rules = demand2_records bytes buffer answer results accepted

  module _ (small : all (λ place. ltb (byte bytes place) 256) (up_from 0 (length bytes)) ≡ true) where
    -- a unit with the standing that is recorded of it
    unit_recorded : (i : ℕ) (given : Standing) → UnitAt bytes i → recorded_standing bytes results i ≡ standing_byte given
        → UnitInstance bytes results by_rules.course i given
    unit_recorded i given at standing =
        let unit = by_rules.recorded i at in
        let rule : (class : ℕ) → class < length classes → RuleTwo bytes by_rules.course i class = λ class. by_rules.rules.rule_two i class at in
        record {
          mark = unit.mark;
          code = unit.code (all_bytes bytes small);
          plan_grade_holds = unit.plan_grade_holds;
          cusums = unit.cusums;
          overshoots = unit.overshoots;
          standing = standing;
          standing_says = standing_says bytes results by_rules.course i unit given standing;
          portion = portion_by bytes results by_rules.course i unit given standing;
          above = λ class in_range planned exceeds.
              let failed : ClassFails bytes by_rules.course i class = record { planned = planned; above = exceeds } in
              ((rule class in_range).fails failed, (rule class in_range).over failed);
          below = λ class in_range. (rule class in_range).below;
          between = λ class in_range. (rule class in_range).between;
          not_above = λ class in_range planned within. (rule class in_range).not_over (λ fails. omega (arith, fails.above, within));
          without_plan = λ class in_range. (rule class in_range).no_plan;
          overshoot_tells = unit.overshoot_tells;
          overshoot_at_most = unit.overshoot_at_most;
        }

    pub course_recorded : (standings : List (ℕ × Standing))
        → all (λ (i, given). unit_test bytes records i && eqb (recorded_standing bytes results i) (standing_byte given)) standings ≡ true
        → CourseInstance bytes results standings
    course_recorded standings units =
        record {
          course = by_rules.course;
          rules = by_rules.rules;
          units = each _ (λ (i, given) e. recorded_by i given (unit_and bytes records counted i _ e)) standings units;
        }
      where
        recorded_by : (i : ℕ) (given : Standing) → UnitAt bytes i × (eqb (recorded_standing bytes results i) (standing_byte given) ≡ true)
            → UnitInstance bytes results by_rules.course i given
        recorded_by i given (at, same) = unit_recorded i given at (eqb-true _ _ same)

  -- behind a unit in step 3 another lower plan is recorded, in step 3 too
  abbrev start_test : ℕ → Bool
  start_test i =
      (unit_test bytes records i && unit_test bytes records (suc i))
      && ((leb 2 (recorded_standing bytes results i) && leb 2 (recorded_standing bytes results (suc i)))
      && not (eqb (recorded_plan_grade bytes results (suc i)) (recorded_plan_grade bytes results i)))

  lower_plan_started : (i : ℕ) → start_test i ≡ true → LowerPlanInstance bytes results by_rules.course i
  lower_plan_started i e =
      let course = by_rules.course in
      let lower = by_rules.lower_plans in
      let (units, rest) = and_both (unit_test bytes records i && unit_test bytes records (suc i)) _ e in
      let (unit, unit_next) = and_both (unit_test bytes records i) (unit_test bytes records (suc i)) units in
      let (standings, other) = and_both (leb 2 (recorded_standing bytes results i) && leb 2 (recorded_standing bytes results (suc i))) _ rest in
      let (standing, standing_next) = and_both (leb 2 (recorded_standing bytes results i)) (leb 2 (recorded_standing bytes results (suc i))) standings in
      let here = by_rules.recorded i (unit_at bytes records counted i unit) in
      let next = by_rules.recorded (suc i) (unit_at bytes records counted (suc i) unit_next) in
      let stands = inside bytes results course i here (leb-true 2 _ standing) in
      let still = inside bytes results course (suc i) next (leb-true 2 _ standing_next) in
      let second : (SecondFailsLower bytes course i → ⊥) → ⊥ =
      λ none. eqb-false _ _ (not-true _ other) (next.plan_grade_holds ∙ by_rules.rules.lower_stays i stands still none ∙ sym here.plan_grade_holds) in
      let same_plan : (first : ℕ) → i ≡ suc first → SecondFailsLower bytes course i → course.plan_grade i ≡ course.plan_grade first =
      λ first next_is fails. ap course.plan_grade next_is ∙ lower.same_plan first (subst (SecondFailsLower bytes course) next_is fails) in
      record {
        second_fails = second;
        same_plan = λ first next_is. unless (tells_eq _ _) (λ others. second (λ fails. others (same_plan first next_is fails)));
        not_qualifying = λ qualifies. second (λ fails. lower.failing_not_qualifying i (second_lower_fails bytes course i fails).fails qualifies);
        no_run = λ first row from to. second (λ fails. lower.no_run i first fails row from to);
        step_three_stays = unless (tells_true _) (λ ended. second (λ fails. ended (lower.step_three_stays i fails)));
        designated_stays = unless (tells_eq _ _) (λ other_grade. second (λ fails. other_grade (lower.designated_stays i fails)));
        worse_grade = unless (tells_lt _ _) (λ not_worse.
            second (λ fails. not_worse (omega (arith, lower.worse_grade i fails, here.plan_grade_holds, next.plan_grade_holds))));
      }

  pub lower_plans_recorded : (starts : List ℕ) → all start_test starts ≡ true → LowerPlansInstance bytes results starts
  lower_plans_recorded starts so =
      record { course = by_rules.course; rules = by_rules.rules; lower_plans = each start_test lower_plan_started starts so }

  -- a code that records i and j have and no other record has
  module _ (code i j : ℕ) (unit_i : unit_test bytes records i ≡ true) (unit_j : unit_test bytes records j ≡ true)
      (code_i : code_of bytes i ≡ code) (code_j : code_of bytes j ≡ code)
      (no_other : all (λ k. not (eqb (code_of bytes k) code) || (eqb k i || eqb k j)) (up_from 0 records) ≡ true) where
    one_of_both : (k : ℕ) → k < records → code_of bytes k ≡ code → (k ≡ i) ⊎ (k ≡ j)
    one_of_both k h same =
        go (eqb k i) refl (eqb k j) refl (rw (eq-eqb (code_of bytes k) code same) at (all_each records _ no_other k h))
      where
        go : (first : Bool) → eqb k i ≡ first → (second : Bool) → eqb k j ≡ second → (eqb k i || eqb k j) ≡ true → (k ≡ i) ⊎ (k ≡ j)
        go true e second f either = inl (eqb-true k i e)
        go false e true f either = inr (eqb-true k j f)
        go false e false f either = absurd (false≢true (rw (e, f) at either))

    worse_of_both : (k : ℕ) → UnitAt bytes k → code_of bytes k ≡ code
        → recorded_code_grade bytes results k ≡ worse (recorded_portion_grade bytes results i) (recorded_portion_grade bytes results j)
    worse_of_both k at same =
        let worst = by_rules.code_grades k at in
        let it = worst.one_has_it in
        let first = worst.none_worse i (unit_at bytes records counted i unit_i) (code_i ∙ sym same) in
        let second = worst.none_worse j (unit_at bytes records counted j unit_j) (code_j ∙ sym same) in
        ⊎_elim (λ at_first. omega (arith, ap (recorded_portion_grade bytes results) at_first, it.same_grade, first, second))
        (λ at_second. omega (arith, ap (recorded_portion_grade bytes results) at_second, it.same_grade, first, second))
        (one_of_both it.index (omega (arith, it.unit.inside, counted)) (it.same_code ∙ same))

    pub code_graded : CodeInstance bytes results i j
    code_graded =
        let at_i = unit_at bytes records counted i unit_i in
        let at_j = unit_at bytes records counted j unit_j in
        record { first = worse_of_both i at_i code_i; second = worse_of_both j at_j code_j }

-- ---- demand 3, the first half

module _ (bytes results : List ℕ) (units : ℕ) (answer : Answer)
    (accepted : (buffer : List ℕ) → result_size * units ≤ length buffer → AcceptedAs bytes buffer answer (left results units buffer))
    (records : ℕ) (counted : records_in bytes ≡ records) where
  abbrev planned_test : ℕ → Bool
  planned_test i = unit_test bytes records i && has_plan (in_force_at (sheet_in bytes) i)

  largest : (buffer : List ℕ) → result_size * units ≤ length buffer → (i : ℕ) → planned_test i ≡ true → (class : ℕ) → class < length classes
      → LargestOf bytes (left results units buffer) i class
  largest buffer holds i e class in_range =
      let (at, plan) = unit_and bytes records counted i _ e in
      demand3_largest_form bytes buffer answer (left results units buffer) (accepted buffer holds) i at plan class in_range

  pub largest_recorded : (planned : List ℕ) → all planned_test planned ≡ true → LargestInstance bytes results units planned
  largest_recorded planned so =
      let size = result_size * units in
      record {
        an_anchor = each planned_test (λ i at class in_range.
            (largest (replicate size 0) (omega (arith, length-replicate {A = ℕ} size 0)) i at class in_range).an_anchor) planned so;
        largest_of = λ buffer holds. each planned_test (λ i at class in_range from records at_failure to_this_unit is_anchor latest.
            (largest buffer holds i at class in_range).largest_of
            (record {
              from = from;
              records = records;
              at_failure = at_failure;
              to_this_unit = to_this_unit;
              is_anchor = is_anchor;
              latest = latest;
            })) planned so;
      }

  pub number_recorded : (i class from : ℕ) (at_failure : Bool) (counts : List ℕ) (tenths : ℕ)
      → planned_test i ≡ true → class < length classes → from + length counts ≡ suc i
      → Anchor (sheet_in bytes) class i from at_failure → Latest (sheet_in bytes) class i from
      → tenths_from (sheet_in bytes) class from (length counts) ≡ counts
      → largest_form (numbers_in_force bytes i class) (anchor_value (numbers_in_force bytes i class) at_failure) counts ≡ pos tenths
      → (buffer : List ℕ) → result_size * units ≤ length buffer
      → LargestNumber bytes (left results units buffer) i class from at_failure counts tenths
  number_recorded i class from at_failure counts tenths at in_range to_this_unit is_anchor latest since number buffer holds =
      let form = (largest buffer holds i at class in_range).largest_of
      (record {
        from = from;
        records = length counts;
        at_failure = at_failure;
        to_this_unit = to_this_unit;
        is_anchor = is_anchor;
        latest = latest;
      }) in
      record { is_anchor = is_anchor; latest = latest; since = since; largest = number; recorded = cc ((rw since at form) ∙ number) }

-- ---- demand 3, the second half

module _ (bytes bytes' results results' : List ℕ) (compared : NeverWorse bytes bytes' results results')
    (records : ℕ) (counted : records_in bytes ≡ records) (units : List ℕ) where
  -- up to a record before which the second sheet never fails two in a row
  pub none_higher : (last : ℕ) → ((j : ℕ) → j < last → second_in_a_row (sheet_in bytes') j ≡ false)
      → all (λ i. unit_test bytes records i && leb i last) units ≡ true → NoHigherInstance bytes bytes' results results' units
  none_higher last never so =
      record {
        cusums = each _ (λ i e. (at i (unit_and bytes records counted i _ e)).cusums) units so;
        overshoots = each _ (λ i e. (at i (unit_and bytes records counted i _ e)).overshoots) units so;
        failures = each _ (λ i e. (at i (unit_and bytes records counted i _ e)).failures) units so;
      }
    where
      at : (i : ℕ) → UnitAt bytes i × (leb i last ≡ true) → NoHigherAt bytes bytes' results results' i
      at i (unit, within) = compared.up_to_two_in_a_row i unit (λ j before. never j (omega (arith, leb-true i last within)))

  pub none_lower : ((j : ℕ) → j < records_in bytes' → second_in_a_row (sheet_in bytes') j ≡ false)
      → all (unit_test bytes records) units ≡ true → NoLowerInstance bytes bytes' results results' units
  none_lower never so =
      record {
        portions = each _ (λ i e. (compared.never_two_in_a_row never i (unit_at bytes records counted i e)).portions) units so;
        codes = each _ (λ i e. (compared.never_two_in_a_row never i (unit_at bytes records counted i e)).codes) units so;
      }

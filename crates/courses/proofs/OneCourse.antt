-- Only one course follows the rules: two that do agree before each record of the sheet and at each unit. By induction on the records: a
-- course that agrees up to a record has the same failures, qualifying units and restarts there, and so agrees behind it.
use Prim.Native.Nat.{ℕ, zero, suc, ◌+◌, ◌<◌, ◌≤◌}
use mathlib.Core.Path.{◌≡◌, refl, sym, ◌∙◌, ap, ap₂, subst, subst⁻¹}
use mathlib.Core.Bool.{Bool, true, false, ◌&&◌, true≢false}
use mathlib.Core.List.{List}
use mathlib.Core.Logic.{◌⊎◌, inl, inr, ⊎_elim}
use native.Mathlib.Nat.{eq-or-lt_of_le}
use native.Mathlib.Omega.{arith}
use lib.Dec.{ltb}
use lib.ListN.{length}
use borrow.Author.Tests.{ltb-true, ltb-false}
use Rattle.units.specs.Words.{substandard, classes, worse}
use Rattle.tally.specs.Accepted.{UnitAt}
use Rattle.grounds.specs.Tells.{Tells}
use Rattle.answers.specs.Grounds.{start_in, tolerance_in, limit_in, IsBreak, IsRedesignation}
use Rattle.courses.specs.Course.{Course, ten_times_count, reached, tolerance_at, limit_at, ClassFails, UnitFails, FailsInForce, SecondFails, SecondFailsLower, Qualifies, ThirdQualifies, KeepsStepThree, Restart, at_break, step_three_begins, another_lower_plan, step_three_ends, at_redesignation, BestLowerGrade, Rules, SameBefore, SameAt}
use Rattle.grounds.proofs.Tells.{tells_lt, tells_as, tells_and}
use Rattle.answers.proofs.Rows.{one_designated}

-- a test settles what it tells
pub settled : {test : Bool} {P : Type 0} → Tells test P → P ⊎ (P → ⊥)
settled {test} {P} = go test
  where
    go : (test : Bool) → Tells test P → P ⊎ (P → ⊥)
    go true tells = inl (tells.so refl)
    go false tells = inr (tells.not_so refl)

turned : {course other : Course} {i : ℕ} → SameBefore course other i → SameBefore other course i
turned same =
    record {
      step_three_holds = sym same.step_three_holds;
      designated = sym same.designated;
      plan_grade_holds = sym same.plan_grade_holds;
      cusums = λ planned class known. sym (same.cusums (omega (arith, same.plan_grade_holds, planned)) class known);
    }

-- before each record up to this one
abbrev Upto : Course → Course → ℕ → Type 0
Upto course other i = (j : ℕ) → j ≤ i → SameBefore course other j × (course.plan_grade j ≤ substandard)

upto_turned : {course other : Course} {i : ℕ} → Upto course other i → Upto other course i
upto_turned upto j inside = let (same, bound) = upto j inside in (turned same, omega (arith, same.plan_grade_holds, bound))

-- ---- at a record, from one course to the other

module _ (bytes : List ℕ) (course other : Course) (rules : Rules bytes course) (others : Rules bytes other) where
  module _ (i : ℕ) (same : SameBefore course other i) (bounded : course.plan_grade i ≤ substandard) where
    tolerance_same : (class : ℕ) → tolerance_in bytes (course.plan_grade i) class ≡ tolerance_in bytes (other.plan_grade i) class
    tolerance_same class = ap (λ (grade : ℕ). tolerance_in bytes grade class) same.plan_grade_holds

    limit_same : (class : ℕ) → limit_in bytes (course.plan_grade i) class ≡ limit_in bytes (other.plan_grade i) class
    limit_same class = ap (λ (grade : ℕ). limit_in bytes grade class) same.plan_grade_holds

    class_to : (class : ℕ) → class < length classes → ClassFails bytes course i class → ClassFails bytes other i class
    class_to class known here =
        record {
          planned = omega (arith, same.plan_grade_holds, here.planned);
          above = omega (arith, tolerance_same class, limit_same class, same.cusums here.planned class known, here.above);
        }

    unit_to : UnitFails bytes course i → UnitFails bytes other i
    unit_to here = record { class = here.class; a_class = here.a_class; fails = class_to here.class here.a_class here.fails }

    in_force_to : {step_three : Bool} → FailsInForce bytes course step_three i → FailsInForce bytes other step_three i
    in_force_to here = record { unit = here.unit; step_three_holds = sym same.step_three_holds ∙ here.step_three_holds; fails = unit_to here.fails }

    new_same : (class : ℕ) → UnitAt bytes i → class < length classes → course.new_cusum i class ≡ other.new_cusum i class
    new_same class at known = go (ltb (course.plan_grade i) substandard) refl
      where
        under : course.plan_grade i < substandard
            → (low : Bool) → ltb (course.cusum i class + ten_times_count bytes i class) (tolerance_in bytes (course.plan_grade i) class) ≡ low
            → (high : Bool)
            → ltb (tolerance_in bytes (course.plan_grade i) class + limit_in bytes (course.plan_grade i) class) (course.cusum i class + ten_times_count bytes i class) ≡ high
            → course.new_cusum i class ≡ other.new_cusum i class
        under planned true e high f =
            let small = ltb-true (course.cusum i class + ten_times_count bytes i class) (tolerance_in bytes (course.plan_grade i) class) e in
            (rules.rule_two i class at known).below planned small
            ∙ sym ((others.rule_two i class at known).below (omega (arith, same.plan_grade_holds, planned))
            (omega (arith, small, tolerance_same class, same.cusums planned class known)))
        under planned false e true f =
            let large = ltb-true (tolerance_in bytes (course.plan_grade i) class + limit_in bytes (course.plan_grade i) class)
            (course.cusum i class + ten_times_count bytes i class) f in
            let failed : ClassFails bytes course i class = record { planned = planned; above = large } in
            (rules.rule_two i class at known).fails failed ∙ limit_same class ∙ sym ((others.rule_two i class at known).fails (class_to class known failed))
        under planned false e false f =
            let from = ltb-false (course.cusum i class + ten_times_count bytes i class) (tolerance_in bytes (course.plan_grade i) class) e in
            let to = ltb-false (tolerance_in bytes (course.plan_grade i) class + limit_in bytes (course.plan_grade i) class)
            (course.cusum i class + ten_times_count bytes i class) f in
            let old = same.cusums planned class known in
            let one = (rules.rule_two i class at known).between planned from to in
            let two = (others.rule_two i class at known).between (omega (arith, same.plan_grade_holds, planned))
            (omega (arith, from, tolerance_same class, old)) (omega (arith, to, tolerance_same class, limit_same class, old)) in
            omega (arith, one, two, tolerance_same class, old)

        go : (planned : Bool) → ltb (course.plan_grade i) substandard ≡ planned → course.new_cusum i class ≡ other.new_cusum i class
        go true e = under (ltb-true (course.plan_grade i) substandard e) _ refl _ refl
        go false e =
            let none : course.plan_grade i ≡ substandard = omega (arith, ltb-false (course.plan_grade i) substandard e, bounded) in
            ((rules.rule_two i class at known).no_plan none).0 ∙ sym ((others.rule_two i class at known).no_plan (sym same.plan_grade_holds ∙ none)).0

    qualifies_to : Qualifies bytes course i → Qualifies bytes other i
    qualifies_to here =
        record {
          unit = here.unit;
          in_step_three_holds = sym same.step_three_holds ∙ here.in_step_three_holds;
          zero = λ class known. sym (new_same class here.unit known) ∙ here.zero class known;
          within = λ class known. subst (λ (grade : ℕ). ten_times_count bytes i class ≤ tolerance_in bytes grade class) same.designated (here.within class known);
        }

    keeps_to : KeepsStepThree bytes course i → KeepsStepThree bytes other i
    keeps_to (inside, better) = (sym same.step_three_holds ∙ inside, omega (arith, better, same.plan_grade_holds))

    best_same : (one two : ℕ) → BestLowerGrade bytes course i one → BestLowerGrade bytes other i two → one ≡ two
    best_same one two best best' = go (ltb one two) refl (ltb two one) refl
      where
        go : (less : Bool) → ltb one two ≡ less → (more : Bool) → ltb two one ≡ more → one ≡ two
        go true e more f =
            let less = ltb-true one two e in
            absurd (best'.none_better one (omega (arith, best.lower, same.plan_grade_holds)) less (best.admits (omega (arith, less, best'.a_grade))))
        go false e true f =
            let more = ltb-true two one f in
            absurd (best.none_better two (omega (arith, best'.lower, same.plan_grade_holds)) more (best'.admits (omega (arith, more, best.a_grade))))
        go false e false f = omega (arith, ltb-false one two e, ltb-false two one f)

  second_to : (i : ℕ) → Upto course other i → SecondFails bytes course i → SecondFails bytes other i
  second_to i upto here =
      let (before, bound) = upto here.first (omega (arith, here.next)) in
      let (now, bound_now) = upto i (omega arith) in
      record {
        first = here.first;
        next = here.next;
        first_fails = in_force_to here.first before bound here.first_fails;
        second_fails = in_force_to i now bound_now here.second_fails;
      }

  third_to : (i : ℕ) → Upto course other i → ThirdQualifies bytes course i → ThirdQualifies bytes other i
  third_to i upto here =
      let (one, bound_one) = upto here.first (omega (arith, here.last)) in
      let (two, bound_two) = upto (suc here.first) (omega (arith, here.last)) in
      let (three, bound_three) = upto (suc (suc here.first)) (omega (arith, here.last)) in
      let row = here.in_a_row in
      record {
        first = here.first;
        last = here.last;
        in_a_row =
            record {
              one = qualifies_to here.first one bound_one row.one;
              two = qualifies_to (suc here.first) two bound_two row.two;
              three = qualifies_to (suc (suc here.first)) three bound_three row.three;
            };
      }

-- the second failure of the lower plan, both ways at once: what does not hold of one course does not hold of the other
second_lower_both : (bytes : List ℕ) (course other : Course) → Rules bytes course → Rules bytes other → (i : ℕ) → Upto course other i
    → (SecondFailsLower bytes course i → SecondFailsLower bytes other i) × (SecondFailsLower bytes other i → SecondFailsLower bytes course i)
unfolding SecondFailsLower
second_lower_both bytes course other rules others zero upto = (λ here. here, λ here. here)
second_lower_both bytes course other rules others (suc i) upto =
    let (same, bound) = upto i (omega arith) in
    let (same_next, bound_next) = upto (suc i) (omega arith) in
    let (to, from) = second_lower_both bytes course other rules others i (λ j below. upto j (omega arith)) in (
      λ (one, none, two). (
        in_force_to bytes course other rules others i same bound one,
        λ second. none (from second),
        in_force_to bytes course other rules others (suc i) same_next bound_next two,
      ),
      λ (one, none, two). (
        in_force_to bytes other course others rules i (turned same) (omega (arith, same.plan_grade_holds, bound)) one,
        λ second. none (to second),
        in_force_to bytes other course others rules (suc i) (turned same_next) (omega (arith, same_next.plan_grade_holds, bound_next)) two,
      ),
    )

-- ---- the course that a sheet takes, and another

module _ (bytes : List ℕ) (size : ℕ) (course other : Course) (rules : Rules bytes course) (others : Rules bytes other)
    (bounded : (i : ℕ) → course.plan_grade i ≤ substandard)
    (unit_settled : (i : ℕ) → UnitFails bytes course i ⊎ (UnitFails bytes course i → ⊥))
    (second_settled : (i : ℕ) → SecondFails bytes course i ⊎ (SecondFails bytes course i → ⊥))
    (second_lower_settled : (i : ℕ) → SecondFailsLower bytes course i ⊎ (SecondFailsLower bytes course i → ⊥))
    (third_settled : (i : ℕ) → ThirdQualifies bytes course i ⊎ (ThirdQualifies bytes course i → ⊥))
    (keeps_settled : (i : ℕ) → KeepsStepThree bytes course i ⊎ (KeepsStepThree bytes course i → ⊥))
    (restart_settled : (i : ℕ) → i < size → Restart bytes course i ⊎ (Restart bytes course i → ⊥))
    (kind : (i : ℕ) → i < size → UnitAt bytes i ⊎ (IsRedesignation bytes i ⊎ IsBreak bytes i)) where
  overshoot_same : (i : ℕ) → SameBefore course other i → UnitAt bytes i → (class : ℕ) → class < length classes
      → course.overshoot i class ≡ other.overshoot i class
  overshoot_same i same at class known = go (settled tells)
    where
      tells : Tells (ltb (course.plan_grade i) substandard
          && ltb (tolerance_at bytes course i class + limit_at bytes course i class) (reached bytes course i class)) (ClassFails bytes course i class)
      tells =
          tells_as (λ (planned, above). record { planned = planned; above = above }) (λ here. (here.planned, here.above))
          (tells_and (tells_lt _ _) (tells_lt _ _))

      fails_from : ClassFails bytes other i class → ClassFails bytes course i class
      fails_from = class_to bytes other course others rules i (turned same) (omega (arith, same.plan_grade_holds, bounded i)) class known

      go : ClassFails bytes course i class ⊎ (ClassFails bytes course i class → ⊥) → course.overshoot i class ≡ other.overshoot i class
      go (inl fails) =
          let one = (rules.rule_two i class at known).over fails in
          let two = (others.rule_two i class at known).over (class_to bytes course other rules others i same (bounded i) class known fails) in
          let tolerance = tolerance_same bytes course other rules others i same (bounded i) class in
          let limit = limit_same bytes course other rules others i same (bounded i) class in
          omega (arith, one, two, tolerance, limit, same.cusums fails.planned class known)
      go (inr none) =
          (rules.rule_two i class at known).not_over none ∙ sym ((others.rule_two i class at known).not_over (λ here. none (fails_from here)))

  defect_same : (i : ℕ) → SameBefore course other i → UnitAt bytes i → course.defect_grade i ≡ other.defect_grade i
  defect_same i same at = go (unit_settled i)
    where
      bound : other.plan_grade i ≤ substandard
      bound = omega (arith, same.plan_grade_holds, bounded i)

      go : UnitFails bytes course i ⊎ (UnitFails bytes course i → ⊥) → course.defect_grade i ≡ other.defect_grade i
      go (inl fails) =
          best_same bytes course other rules others i same (bounded i) (course.defect_grade i) (other.defect_grade i)
          ((rules.rule_three i at).fails fails)
          ((others.rule_three i at).fails (unit_to bytes course other rules others i same (bounded i) fails))
      go (inr meets) =
          (rules.rule_three i at).meets meets
          ∙ same.plan_grade_holds
          ∙ sym ((others.rule_three i at).meets (λ fails. meets (unit_to bytes other course others rules i (turned same) bound fails)))

  module _ (i : ℕ) (inside : i < size) (upto : Upto course other i) where
    here : SameBefore course other i
    here = (upto i (omega arith)).0

    back : Upto other course i
    back = upto_turned upto

    step_next : course.in_step_three (suc i) ≡ other.in_step_three (suc i)
    step_next = go (course.in_step_three i) refl
      where
        out : course.in_step_three i ≡ false → SecondFails bytes course i ⊎ (SecondFails bytes course i → ⊥)
            → course.in_step_three (suc i) ≡ other.in_step_three (suc i)
        out e (inl second) = rules.begins i second ∙ sym (others.begins i (second_to bytes course other rules others i upto second))
        out e (inr none) =
            rules.not_begun i e none
            ∙ sym (others.not_begun i (sym here.step_three_holds ∙ e) (λ second. none (second_to bytes other course others rules i back second)))

        at_unit : course.in_step_three i ≡ true → UnitAt bytes i → ThirdQualifies bytes course i ⊎ (ThirdQualifies bytes course i → ⊥)
            → course.in_step_three (suc i) ≡ other.in_step_three (suc i)
        at_unit e at (inl third) = rules.ends i third ∙ sym (others.ends i (third_to bytes course other rules others i upto third))
        at_unit e at (inr none) =
            rules.unit_stays i at e none
            ∙ sym (others.unit_stays i at (sym here.step_three_holds ∙ e) (λ third. none (third_to bytes other course others rules i back third)))

        at_new : course.in_step_three i ≡ true → IsRedesignation bytes i → KeepsStepThree bytes course i ⊎ (KeepsStepThree bytes course i → ⊥)
            → course.in_step_three (suc i) ≡ other.in_step_three (suc i)
        at_new e new (inl keeps) =
            rules.redesignation_stays i new keeps
            ∙ sym (others.redesignation_stays i new (keeps_to bytes course other rules others i here (bounded i) keeps))
        at_new e new (inr none) =
            rules.redesignation_ends i new none
            ∙ sym (others.redesignation_ends i new
            (λ keeps. none (keeps_to bytes other course others rules i (turned here) (back i (omega arith)).1 keeps)))

        go : (stands : Bool) → course.in_step_three i ≡ stands → course.in_step_three (suc i) ≡ other.in_step_three (suc i)
        go false e = out e (second_settled i)
        go true e =
            ⊎_elim (λ at. at_unit e at (third_settled i))
            (⊎_elim (λ new. at_new e new (keeps_settled i))
            (λ is_break_holds. rules.break_stays i is_break_holds e ∙ sym (others.break_stays i is_break_holds (sym here.step_three_holds ∙ e))))
            (kind i inside)

    grade_next : course.designated (suc i) ≡ other.designated (suc i)
    grade_next = one_designated bytes (rules.designated (suc i)) (others.designated (suc i))

    second_lower_to : SecondFailsLower bytes course i → SecondFailsLower bytes other i
    second_lower_to = (second_lower_both bytes course other rules others i upto).0

    second_lower_from : SecondFailsLower bytes other i → SecondFailsLower bytes course i
    second_lower_from = (second_lower_both bytes course other rules others i upto).1

    -- where a lower plan starts, it is that of the worse of two defect grades
    lower_next : (k : ℕ) → i ≡ k → SecondFails bytes course k ⊎ SecondFailsLower bytes course k → course.plan_grade (suc k) ≡ other.plan_grade (suc k)
    unfolding SecondFailsLower
    lower_next zero e (inl second) = omega (arith, second.next)
    lower_next zero e (inr second) = absurd second
    lower_next (suc k) e starts =
        let row : Upto course other (suc k) = λ j inside_row. upto j (omega (arith, e, inside_row)) in
        let (first_unit, second_unit) : UnitAt bytes k × UnitAt bytes (suc k)
        = ⊎_elim
        (λ second. (subst (λ (j : ℕ). UnitAt bytes j) (omega (arith, second.next)) second.first_fails.unit, second.second_fails.unit))
        (λ (one, none, two). (one.unit, two.unit)) starts in
        rules.lower_plan k starts
        ∙ ap₂ worse (defect_same k (upto k (omega (arith, e))).0 first_unit) (defect_same (suc k) (upto (suc k) (omega (arith, e))).0 second_unit)
        ∙ sym (others.lower_plan k
        (⊎_elim (λ second. inl (second_to bytes course other rules others (suc k) row second))
        (λ second. inr ((second_lower_both bytes course other rules others (suc k) row).0 second)) starts))

    plan_next : course.plan_grade (suc i) ≡ other.plan_grade (suc i)
    plan_next = go (course.in_step_three (suc i)) refl (course.in_step_three i) refl (second_settled i) (second_lower_settled i)
      where
        go : (stands : Bool) → course.in_step_three (suc i) ≡ stands → (stood : Bool) → course.in_step_three i ≡ stood
            → SecondFails bytes course i ⊎ (SecondFails bytes course i → ⊥) → SecondFailsLower bytes course i ⊎ (SecondFailsLower bytes course i → ⊥)
            → course.plan_grade (suc i) ≡ other.plan_grade (suc i)
        go false e stood f second again =
            rules.designated_plan (suc i) e ∙ grade_next ∙ sym (others.designated_plan (suc i) (sym step_next ∙ e))
        go true e true f second (inl again) = lower_next i refl (inr again)
        go true e true f second (inr none) =
            rules.lower_stays i f e none
            ∙ here.plan_grade_holds
            ∙ sym (others.lower_stays i (sym here.step_three_holds ∙ f) (sym step_next ∙ e) (λ again. none (second_lower_from again)))
        go true e false f (inl second) again = lower_next i refl (inl second)
        go true e false f (inr none) again = absurd (true≢false (sym e ∙ rules.not_begun i f none))

    -- the restarts are the same
    restart_to : Restart bytes course i → Restart bytes other i
    restart_to (at_break is_break_holds) = at_break is_break_holds
    restart_to (step_three_begins second) = step_three_begins (second_to bytes course other rules others i upto second)
    restart_to (another_lower_plan second) = another_lower_plan (second_lower_to second)
    restart_to (step_three_ends third) = step_three_ends (third_to bytes course other rules others i upto third)
    restart_to (at_redesignation new none) =
        at_redesignation new (λ keeps. none (keeps_to bytes other course others rules i (turned here) (back i (omega arith)).1 keeps))

    restart_from : Restart bytes other i → Restart bytes course i
    restart_from (at_break is_break_holds) = at_break is_break_holds
    restart_from (step_three_begins second) = step_three_begins (second_to bytes other course others rules i back second)
    restart_from (another_lower_plan second) = another_lower_plan (second_lower_from second)
    restart_from (step_three_ends third) = step_three_ends (third_to bytes other course others rules i back third)
    restart_from (at_redesignation new none) =
        at_redesignation new (λ keeps. none (keeps_to bytes course other rules others i here (bounded i) keeps))

    cusum_next : course.plan_grade (suc i) < substandard → (class : ℕ) → class < length classes
        → course.cusum (suc i) class ≡ other.cusum (suc i) class
    cusum_next planned class known = go (restart_settled i inside)
      where
        goes_on : (Restart bytes course i → ⊥) → UnitAt bytes i ⊎ (IsRedesignation bytes i ⊎ IsBreak bytes i)
            → course.cusum (suc i) class ≡ other.cusum (suc i) class
        goes_on none (inl at) =
            rules.unit_goes_on i class at none known
            ∙ new_same bytes course other rules others i here (bounded i) class at known
            ∙ sym (others.unit_goes_on i class at (λ restart. none (restart_from restart)) known)
        goes_on none (inr (inl new)) = kept (keeps_settled i)
          where
            kept : KeepsStepThree bytes course i ⊎ (KeepsStepThree bytes course i → ⊥) → course.cusum (suc i) class ≡ other.cusum (suc i) class
            kept (inl keeps) =
                let same_plan = rules.lower_stays i keeps.0 (rules.redesignation_stays i new keeps) (λ second. none (another_lower_plan second)) in
                rules.redesignation_goes_on i class new none known
                ∙ here.cusums (omega (arith, planned, same_plan)) class known
                ∙ sym (others.redesignation_goes_on i class new (λ restart. none (restart_from restart)) known)
            kept (inr ends) = absurd (none (at_redesignation new ends))
        goes_on none (inr (inr is_break_holds)) = absurd (none (at_break is_break_holds))

        go : Restart bytes course i ⊎ (Restart bytes course i → ⊥) → course.cusum (suc i) class ≡ other.cusum (suc i) class
        go (inl restart) =
            rules.restarts i class restart planned known
            ∙ ap (λ (grade : ℕ). start_in bytes grade class) plan_next
            ∙ sym (others.restarts i class (restart_to restart) (omega (arith, planned, plan_next)) known)
        go (inr none) = goes_on none (kind i inside)

    same_next : SameBefore course other (suc i)
    same_next = record { step_three_holds = step_next; designated = grade_next; plan_grade_holds = plan_next; cusums = cusum_next }

  -- ---- the whole sheet

  same_first : SameBefore course other 0
  same_first =
      let grade = one_designated bytes (rules.designated 0) (others.designated 0) in
      record {
        step_three_holds = rules.opening ∙ sym others.opening;
        designated = grade;
        plan_grade_holds = rules.designated_plan 0 rules.opening ∙ grade ∙ sym (others.designated_plan 0 others.opening);
        cusums = λ planned class known.
            rules.opening_cusums class known ∙ ap (λ (designated : ℕ). start_in bytes designated class) grade ∙ sym (others.opening_cusums class known);
      }

  abbrev Agreed : ℕ → Type 0
  Agreed j = SameBefore course other j × (course.plan_grade j ≤ substandard)

  all_same : (i : ℕ) → i ≤ size → Upto course other i
  all_same zero inside j below = let first : j ≡ 0 = omega arith in subst⁻¹ Agreed first (same_first, bounded 0)
  all_same (suc i) inside j below = go (all_same i (omega arith)) (eq-or-lt_of_le below)
    where
      go : Upto course other i → (j ≡ suc i) ⊎ (j < suc i) → Agreed j
      go earlier (inl last) = subst⁻¹ Agreed last (same_next i (omega arith) earlier, bounded (suc i))
      go earlier (inr less) = earlier j (omega arith)

  same_before : (i : ℕ) → i ≤ size → SameBefore course other i
  same_before i inside = (all_same i inside i (omega arith)).0

  same_at : (i : ℕ) → UnitAt bytes i → i < size → SameAt course other i
  same_at i at inside =
      let same = same_before i (omega arith) in
      record {
        step_three_holds = same.step_three_holds;
        designated = same.designated;
        plan_grade_holds = same.plan_grade_holds;
        old_cusums = same.cusums;
        new_cusums_holds = λ class known. new_same bytes course other rules others i same (bounded i) class at known;
        overshoots = overshoot_same i same at;
        defect_grade_holds = defect_same i same at;
      }

  -- before every record and behind the last, and at every unit
  pub one_course : ((i : ℕ) → i ≤ size → SameBefore course other i) × ((i : ℕ) → UnitAt bytes i → i < size → SameAt course other i)
  one_course = (same_before, same_at)

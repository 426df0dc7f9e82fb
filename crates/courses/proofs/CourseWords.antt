-- The course of an accepted sheet, and its words: each test of the definitions tells the statement that the course makes of the bytes.
-- Each by cases on the record there; a test over the classes tells what holds of one, or of every, class.
use Prim.Native.Nat.{ℕ, zero, suc, ◌+◌, ◌*◌, ◌<◌, ◌≤◌}
use mathlib.Core.Path.{◌≡◌, refl, sym, ◌∙◌, ap, subst, subst⁻¹}
use mathlib.Core.Bool.{Bool, true, false, ◌&&◌, true≢false, false≢true}
use mathlib.Core.List.{List, [], ◌∷◌, map}
use mathlib.Core.Logic.{◌⊎◌, inl, inr, ⊎_elim, ◌↔◌}
use native.Mathlib.Omega.{arith}
use lib.Dec.{ltb, leb, eqb}
use lib.ListN.{length, get_or}
use borrow.Author.Tests.{ltb-true, ltb-false}
use Rattle.std.proofs.Common.{Option, Some, None}
use Rattle.cusum.specs.Step.{fails}
use Rattle.cusum.proofs.Laws.{fails_true, fails_false}
use Rattle.encoding.specs.Bytes.{number}
use Rattle.units.specs.Words.{substandard, classes, has_plan, numbers_of, tenths_of, count_tenths, tenths_in}
use Rattle.units.specs.Unit.{class_fails, class_cusum, class_overshoot, unit_fails, all_zero, none_above, within_tolerance, qualifies}
use Rattle.units.specs.Records.{is_unit_that}
use Rattle.units.specs.declared.SampleUnit.{SampleUnit}
use Rattle.units.specs.declared.Entry.{Entry}
use Rattle.units.specs.declared.Entry.TheVariants.{UnitRecord, Redesignation, Break}
use Rattle.rules.specs.StepThree.{in_step_three, qualifies_with}
use Rattle.rules.specs.Sheet.{Sheet, before, designated_at, in_force_at, graded_at}
use Rattle.anchors.specs.TwoInARow.{fails_in_force, fails_designated, fails_lower, unit_fails_at, unit_fails_before, second_in_a_row, unit_fails_lower_at, second_at_lower, lower_plan_starts_at}
use Rattle.anchors.specs.ThreeInARow.{record_qualifies, unit_qualifies_at, third_in_a_row}
use Rattle.anchors.specs.Anchor.{fails_at, tenths_at, class_fails_at, restart_by, restart_at, tenths_from}
use Rattle.anchors.proofs.Trails.{tenths_of_one}
use Rattle.rules.proofs.GradedClasses.{cusum_graded}
use Rattle.layout.specs.Layout.{mark_size, sample_unit_at, offset, mark, entry_of, entry_at, units_before}
use Rattle.layout.specs.declared.Mark.{Mark}
use Rattle.layout.specs.declared.Mark.TheVariants.{UnitMark, RedesignationMark, BreakMark}
use Rattle.layout.proofs.Units.{entry_unit, unit_mark}
use Rattle.layout.proofs.Offsets.{offset_order, inside_unit}
use Rattle.sheet.specs.Refusals.{designated_before, refused_if, refusal_by, refusal_at, record_refusal}
use Rattle.sheet.proofs.Accepted.{Facts}
use Rattle.recording.specs.Sheet.{sheet_of}
use Rattle.tally.specs.Outcome.{records_in}
use Rattle.tally.specs.Accepted.{sheet_in, UnitAt}
use Rattle.tally.proofs.Entries.{unit_is, designated_before_holds, designated_planned}
use Rattle.grounds.specs.Tells.{Tells}
use Rattle.answers.specs.Grounds.{tolerance_in, limit_in, start_in, IsUnit, IsRedesignation, IsBreak, new_grade}
use Rattle.courses.specs.Course.{Course, class_counts, ten_times_count, ClassFails, UnitFails, FailsInForce, FailsDesignated, FailsLower, SecondFails, SecondFailsLower, Qualifies, ThreeQualify, ThirdQualifies, KeepsStepThree, Restart, at_break, step_three_begins, another_lower_plan, step_three_ends, at_redesignation}
use Rattle.grounds.proofs.Tells.{told, tells_true, tells_false, tells_lt, tells_le, tells_eq, tells_as, tells_not, tells_and, tells_or, tells_any, tells_all}
use Rattle.answers.proofs.Rows.{numbers_there, Marked, as_unit, as_redesignation, as_break, as_none, marked, is_unit_mark, is_redesignation_mark, is_break_mark, unit_mark_is}

-- the unit that is record i
abbrev pub unit_in : List ℕ → ℕ → SampleUnit
unit_in bytes i = sample_unit_at bytes (offset bytes i)

ten_times_each : (counts : List ℕ) (class : ℕ) → count_tenths (map (λ count. 10 * count) counts) class ≡ 10 * get_or counts class 0
ten_times_each [] class = refl
ten_times_each (count ∷ counts) zero = refl
ten_times_each (count ∷ counts) (suc class) = ten_times_each counts class

-- its count in a class, in tenths, is ten times the one that stands in the bytes
pub count_is : (bytes : List ℕ) (i class : ℕ) → count_tenths (tenths_of (unit_in bytes i)) class ≡ ten_times_count bytes i class
unfolding sample_unit_at
count_is bytes i class = ten_times_each (class_counts bytes i) class

-- as the definitions grade it
abbrev pub course_of : List ℕ → Course
course_of bytes =
    record {
      in_step_three = λ i. in_step_three (before (sheet_in bytes) i).phase;
      designated = designated_before bytes;
      plan_grade = in_force_at (sheet_in bytes);
      cusum = λ i class. tenths_in (before (sheet_in bytes) i).cusums class;
      new_cusum = λ i class.
          class_cusum (sheet_in bytes).table (in_force_at (sheet_in bytes) i) (before (sheet_in bytes) i).cusums (tenths_of (unit_in bytes i)) class;
      overshoot = λ i class.
          class_overshoot (sheet_in bytes).table (in_force_at (sheet_in bytes) i) (before (sheet_in bytes) i).cusums (tenths_of (unit_in bytes i)) class;
      defect_grade = λ i. (graded_at (sheet_in bytes) i (unit_in bytes i)).grade;
    }

-- the second of two failures fails
pub second_lower_fails : (bytes : List ℕ) (course : Course) (i : ℕ) → SecondFailsLower bytes course i → FailsLower bytes course i
unfolding SecondFailsLower
second_lower_fails bytes course zero here = absurd here
second_lower_fails bytes course (suc i) (one, none, two) = two

-- ---- records by their marks

module _ (bytes : List ℕ) (i : ℕ) where
  pub break_entry : IsBreak bytes i → entry_at bytes i ≡ Break
  unfolding entry_at entry_of
  break_entry is_break_holds = rw (is_break_mark bytes i is_break_holds)

  pub redesignation_entry : IsRedesignation bytes i → entry_at bytes i ≡ Redesignation (new_grade bytes i)
  unfolding entry_at entry_of
  redesignation_entry is_redesignation = rw (is_redesignation_mark bytes i is_redesignation)

-- ---- an accepted sheet

module _ (bytes : List ℕ) (facts : Facts bytes (records_in bytes)) where
  abbrev sheet : Sheet
  sheet = sheet_in bytes

  abbrev course : Course
  course = course_of bytes

  pub entry_is : (i : ℕ) → sheet.entry i ≡ entry_at bytes i
  unfolding sheet_in sheet_of
  entry_is i = refl

  pub unit_here : (i : ℕ) → UnitAt bytes i → sheet.entry i ≡ UnitRecord (unit_in bytes i)
  unit_here i at = entry_is i ∙ entry_unit bytes i at.is_unit

  pub unit_there : (i : ℕ) (unit : SampleUnit) → sheet.entry i ≡ UnitRecord unit → UnitAt bytes i
  unit_there i unit e =
      let is_unit = unit_mark bytes i unit (sym (entry_is i) ∙ e) in
      record { inside = inside_unit bytes (records_in bytes) facts.end i is_unit; is_unit = is_unit }

  -- a record is no unit
  not_redesignation : (i new : ℕ) → sheet.entry i ≡ Redesignation new → UnitAt bytes i → ⊥
  not_redesignation i new e at =
      let both : Redesignation new ≡ UnitRecord (unit_in bytes i) = sym e ∙ unit_here i at in
      let differ : ◌≡◌ {A = ℕ} 0 1 = cc in omega arith

  not_break : (i : ℕ) → sheet.entry i ≡ Break → UnitAt bytes i → ⊥
  not_break i e at =
      let both : Break ≡ UnitRecord (unit_in bytes i) = sym e ∙ unit_here i at in
      let differ : ◌≡◌ {A = ℕ} 0 1 = cc in omega arith

  -- a record that is no unit
  other_entry : (i : ℕ) → (UnitAt bytes i → ⊥) → (Holds : Entry → Type 0) → ((new : ℕ) → Holds (Redesignation new)) → Holds Break → Holds (sheet.entry i)
  other_entry i none Holds new break = go (sheet.entry i) refl
    where
      go : (entry : Entry) → sheet.entry i ≡ entry → Holds entry
      go (UnitRecord unit) e = absurd (none (unit_there i unit e))
      go (Redesignation grade) e = new grade
      go Break e = break

  -- a test of units tells, at a record, what it tells of the unit there
  tells_that : (i : ℕ) (holds : SampleUnit → Bool) (P : Type 0) → (P → UnitAt bytes i) → (UnitAt bytes i → Tells (holds (unit_in bytes i)) P)
      → Tells (is_unit_that holds (sheet.entry i)) P
  unfolding is_unit_that
  tells_that i holds P only_units of_unit = go (sheet.entry i) refl
    where
      go : (entry : Entry) → sheet.entry i ≡ entry → Tells (is_unit_that holds entry) P
      go (UnitRecord unit) e =
          let same : unit ≡ unit_in bytes i = unit_is bytes i unit (sym (entry_is i) ∙ e) in
          subst⁻¹ (λ (u : SampleUnit). Tells (holds u) P) same (of_unit (unit_there i unit e))
      go (Redesignation new) e = record { so = λ never. absurd (false≢true never); not_so = λ _ here. not_redesignation i new e (only_units here) }
      go Break e = record { so = λ never. absurd (false≢true never); not_so = λ _ here. not_break i e (only_units here) }

  pub designated_is : (i : ℕ) → designated_at sheet i ≡ designated_before bytes i
  unfolding sheet_in
  designated_is i = designated_before_holds bytes (records_in bytes) i

  pub designated_lt : (i : ℕ) → designated_at sheet i < substandard
  unfolding sheet_in has_plan
  designated_lt i = ltb-true (designated_at sheet i) substandard (designated_planned bytes (records_in bytes) facts i)

  -- S, T and L of a class in the plan of a grade
  pub numbers_in : (grade class : ℕ) → grade < substandard → class < length classes →
      let numbers = numbers_of sheet.table grade class in
      (numbers.start ≡ start_in bytes grade class) × (numbers.tolerance ≡ tolerance_in bytes grade class) × (numbers.limit ≡ limit_in bytes grade class)
  unfolding sheet_in sheet_of
  numbers_in grade class planned known = rw (numbers_there bytes grade class planned known) (refl, refl, refl)

  -- ---- failing

  pub tells_class : (i class : ℕ) → class < length classes
      → Tells (class_fails sheet.table (in_force_at sheet i) (before sheet i).cusums (tenths_of (unit_in bytes i)) class) (ClassFails bytes course i class)
  unfolding class_fails has_plan
  tells_class i class known =
      go (ltb (in_force_at sheet i) substandard) refl
      (fails (numbers_of sheet.table (in_force_at sheet i) class) (tenths_in (before sheet i).cusums class) (count_tenths (tenths_of (unit_in bytes i)) class)) refl
    where
      go : (planned : Bool) → ltb (in_force_at sheet i) substandard ≡ planned → (failing : Bool)
          → fails (numbers_of sheet.table (in_force_at sheet i) class) (tenths_in (before sheet i).cusums class) (count_tenths (tenths_of (unit_in bytes i)) class) ≡ failing
          → Tells (planned && failing) (ClassFails bytes course i class)
      go false e failing f =
          record { so = λ never. absurd (false≢true never); not_so = λ _ here. omega (arith, ltb-false (in_force_at sheet i) substandard e, here.planned) }
      go true e true f =
          let planned = ltb-true (in_force_at sheet i) substandard e in
          let (start, tolerance, limit) = numbers_in (in_force_at sheet i) class planned known in
          record {
            so = λ _. record { planned = planned; above = omega (arith, fails_true _ _ _ f, count_is bytes i class, tolerance, limit) };
            not_so = λ never. absurd (true≢false never);
          }
      go true e false f =
          let planned = ltb-true (in_force_at sheet i) substandard e in
          let (start, tolerance, limit) = numbers_in (in_force_at sheet i) class planned known in
          record {
            so = λ never. absurd (false≢true never);
            not_so = λ _ here. omega (arith, fails_false _ _ _ f, count_is bytes i class, here.above, tolerance, limit);
          }

  pub tells_class_at : (i class : ℕ) → UnitAt bytes i → class < length classes → Tells (class_fails_at sheet class i) (ClassFails bytes course i class)
  unfolding class_fails_at fails_at is_unit_that
  tells_class_at i class at known =
      subst⁻¹ (λ (entry : Entry). Tells (fails_at sheet.table class (before sheet i) entry) (ClassFails bytes course i class))
      (unit_here i at) (tells_class i class known)

  pub only_units_fail : (i class : ℕ) → (UnitAt bytes i → ⊥) → class_fails_at sheet class i ≡ false
  unfolding class_fails_at fails_at is_unit_that
  only_units_fail i class none = other_entry i none (λ entry. fails_at sheet.table class (before sheet i) entry ≡ false) (λ new. refl) refl

  -- a unit fails in one of its classes
  pub tells_unit : (i : ℕ) → Tells (unit_fails sheet.table (in_force_at sheet i) (before sheet i).cusums (tenths_of (unit_in bytes i))) (UnitFails bytes course i)
  unfolding unit_fails
  tells_unit i =
      tells_as
      (λ (class, known, here). record { class = class; a_class = known; fails = here })
      (λ (found : UnitFails bytes course i). (found.class, found.a_class, found.fails))
      (tells_any (length classes) _ (ClassFails bytes course i) (tells_class i))

  -- a record fails the plan in force
  tells_failing : (i : ℕ) → Tells (fails_in_force sheet.table (before sheet i) (sheet.entry i)) (UnitAt bytes i × UnitFails bytes course i)
  unfolding fails_in_force
  tells_failing i =
      tells_that i _ (UnitAt bytes i × UnitFails bytes course i) (λ (at, fails_here). at)
      (λ at. tells_as (λ fails_here. (at, fails_here)) (λ (at, fails_here). fails_here) (tells_unit i))

  -- in step 3 or outside it
  tells_in_force : (step_three test : Bool) (i : ℕ) → Tells test (course.in_step_three i ≡ step_three)
      → Tells (test && fails_in_force sheet.table (before sheet i) (sheet.entry i)) (FailsInForce bytes course step_three i)
  tells_in_force step_three test i standing =
      tells_as
      (λ (stands, (at, fails_here)). record { unit = at; step_three_holds = stands; fails = fails_here })
      (λ (here : FailsInForce bytes course step_three i). (here.step_three_holds, (here.unit, here.fails)))
      (tells_and standing (tells_failing i))

  pub tells_designated : (i : ℕ) → Tells (unit_fails_at sheet i) (FailsDesignated bytes course i)
  unfolding unit_fails_at fails_designated
  tells_designated i = tells_in_force false _ i (tells_false (in_step_three (before sheet i).phase))

  tells_lower : (i : ℕ) → Tells (unit_fails_lower_at sheet i) (FailsLower bytes course i)
  unfolding unit_fails_lower_at fails_lower
  tells_lower i = tells_in_force true _ i (tells_true (in_step_three (before sheet i).phase))

  pub tells_second : (i : ℕ) → Tells (second_in_a_row sheet i) (SecondFails bytes course i)
  unfolding second_in_a_row unit_fails_before
  tells_second zero = record { so = λ never. absurd (false≢true never); not_so = λ _ here. omega (arith, here.next) }
  tells_second (suc i) =
      tells_as
      (λ (one, two). record { first = i; next = refl; first_fails = one; second_fails = two })
      (λ (here : SecondFails bytes course (suc i)).
      let same : here.first ≡ i = omega (arith, here.next) in
      (subst (FailsDesignated bytes course) same here.first_fails, here.second_fails))
      (tells_and (tells_designated i) (tells_designated (suc i)))

  pub tells_second_lower : (i : ℕ) → Tells (second_at_lower sheet i) (SecondFailsLower bytes course i)
  unfolding second_at_lower SecondFailsLower
  tells_second_lower zero = record { so = λ never. absurd (false≢true never); not_so = λ _ here. here }
  tells_second_lower (suc i) =
      tells_as (λ ((one, none), two). (one, none, two)) (λ (one, none, two). ((one, none), two))
      (tells_and (tells_and (tells_lower i) (tells_not (tells_second_lower i))) (tells_lower (suc i)))

  pub tells_starts : (i : ℕ) → Tells (lower_plan_starts_at sheet i) (SecondFails bytes course i ⊎ SecondFailsLower bytes course i)
  unfolding lower_plan_starts_at
  tells_starts i = tells_or (tells_second i) (tells_second_lower i)

  -- ---- counts

  pub tenths_of_unit : (i class : ℕ) → UnitAt bytes i → tenths_from sheet class i 1 ≡ ten_times_count bytes i class ∷ []
  unfolding tenths_at
  tenths_of_unit i class at = tenths_of_one sheet class i ∙ ap (tenths_at class) (unit_here i at) ∙ ap (λ (tenths : ℕ). tenths ∷ []) (count_is bytes i class)

  pub tenths_of_other : (i class : ℕ) → (UnitAt bytes i → ⊥) → tenths_from sheet class i 1 ≡ []
  unfolding tenths_at
  tenths_of_other i class none = tenths_of_one sheet class i ∙ other_entry i none (λ entry. tenths_at class entry ≡ []) (λ new. refl) refl

  -- ---- qualifying

  zero_tells : (i class : ℕ) → class < length classes
      → Tells (eqb (tenths_in (graded_at sheet i (unit_in bytes i)).cusums class) 0) (course.new_cusum i class ≡ 0)
  zero_tells i class known =
      subst⁻¹ (λ (tenths : ℕ). Tells (eqb tenths 0) (course.new_cusum i class ≡ 0)) (cusum_graded sheet i (unit_in bytes i) class known)
      (tells_eq (course.new_cusum i class) 0)

  within_tells : (i class : ℕ) → class < length classes
      → Tells (leb (count_tenths (tenths_of (unit_in bytes i)) class) (numbers_of sheet.table (designated_at sheet i) class).tolerance)
      (ten_times_count bytes i class ≤ tolerance_in bytes (designated_before bytes i) class)
  within_tells i class known =
      let (start, tolerance, limit) = numbers_in (designated_at sheet i) class (designated_lt i) known in
      let same : (numbers_of sheet.table (designated_at sheet i) class).tolerance ≡ tolerance_in bytes (designated_before bytes i) class
      = tolerance ∙ ap (λ (grade : ℕ). tolerance_in bytes grade class) (designated_is i) in
      rw (same, count_is bytes i class) (tells_le (ten_times_count bytes i class) (tolerance_in bytes (designated_before bytes i) class))

  pub tells_qualifies : (i : ℕ) → Tells (unit_qualifies_at sheet i) (Qualifies bytes course i)
  unfolding unit_qualifies_at record_qualifies qualifies_with qualifies all_zero within_tolerance none_above
  tells_qualifies i =
      tells_that i _ (Qualifies bytes course i) (λ here. here.unit)
      (λ at. tells_as
      (λ (inside, (zero_here, within_here)). record { unit = at; in_step_three_holds = inside; zero = zero_here; within = within_here })
      (λ (here : Qualifies bytes course i). (here.in_step_three_holds, (here.zero, here.within)))
      (tells_and (tells_true (in_step_three (before sheet i).phase))
      (tells_and (tells_all (length classes) _ _ (zero_tells i)) (tells_all (length classes) _ _ (within_tells i)))))

  pub tells_third : (i : ℕ) → Tells (third_in_a_row sheet i) (ThirdQualifies bytes course i)
  unfolding third_in_a_row
  tells_third zero = record { so = λ never. absurd (false≢true never); not_so = λ _ here. omega (arith, here.last) }
  tells_third (suc zero) = record { so = λ never. absurd (false≢true never); not_so = λ _ here. omega (arith, here.last) }
  tells_third (suc (suc i)) =
      tells_as
      (λ (one, (two, three)). record { first = i; last = refl; in_a_row = record { one = one; two = two; three = three } })
      (λ (here : ThirdQualifies bytes course (suc (suc i))).
      let same : here.first ≡ i = omega (arith, here.last) in
      let row : ThreeQualify bytes course i = subst (ThreeQualify bytes course) same here.in_a_row in
      (row.one, (row.two, row.three)))
      (tells_and (tells_qualifies i) (tells_and (tells_qualifies (suc i)) (tells_qualifies (suc (suc i)))))

  -- ---- restarts

  pub tells_keeps : (i : ℕ) → Tells (in_step_three (before sheet i).phase && ltb (new_grade bytes i) (in_force_at sheet i)) (KeepsStepThree bytes course i)
  tells_keeps i = tells_and (tells_true (in_step_three (before sheet i).phase)) (tells_lt (new_grade bytes i) (in_force_at sheet i))

  -- the three kinds of records exclude each other
  pub unit_third : (i : ℕ) → ThirdQualifies bytes course i → UnitAt bytes i
  unit_third i here = subst⁻¹ (UnitAt bytes) here.last here.in_a_row.three.unit

  pub inside_third : (i : ℕ) → ThirdQualifies bytes course i → course.in_step_three i ≡ true
  inside_third i here = subst⁻¹ (λ (j : ℕ). course.in_step_three j ≡ true) here.last here.in_a_row.three.in_step_three_holds

  unit_no_break : (i : ℕ) → UnitAt bytes i → IsBreak bytes i → ⊥
  unit_no_break i at is_break_holds = not_break i (entry_is i ∙ break_entry bytes i is_break_holds) at

  pub unit_no_redesignation : (i : ℕ) → UnitAt bytes i → IsRedesignation bytes i → ⊥
  unit_no_redesignation i at is_redesignation =
      not_redesignation i (new_grade bytes i) (entry_is i ∙ redesignation_entry bytes i is_redesignation) at

  pub tells_restart_unit : (i : ℕ) → UnitAt bytes i → Tells (restart_at sheet i) (Restart bytes course i)
  unfolding restart_at restart_by
  tells_restart_unit i at =
      subst⁻¹ (λ (entry : Entry). Tells (restart_by sheet i entry) (Restart bytes course i)) (unit_here i at)
      (unfold restart_by in tells_as (⊎_elim (⊎_elim step_three_begins another_lower_plan) step_three_ends) from (tells_or (tells_starts i) (tells_third i)))
    where
      from : Restart bytes course i → (SecondFails bytes course i ⊎ SecondFailsLower bytes course i) ⊎ ThirdQualifies bytes course i
      from (at_break is_break_holds) = absurd (unit_no_break i at is_break_holds)
      from (step_three_begins second) = inl (inl second)
      from (another_lower_plan second) = inl (inr second)
      from (step_three_ends third) = inr third
      from (at_redesignation is_redesignation other) = absurd (unit_no_redesignation i at is_redesignation)

  pub tells_restart_redesignation : (i : ℕ) → IsRedesignation bytes i → Tells (restart_at sheet i) (Restart bytes course i)
  unfolding restart_at restart_by
  tells_restart_redesignation i is_redesignation =
      subst⁻¹ (λ (entry : Entry). Tells (restart_by sheet i entry) (Restart bytes course i))
      (entry_is i ∙ redesignation_entry bytes i is_redesignation)
      (unfold restart_by in tells_as (at_redesignation is_redesignation) from (tells_not (tells_keeps i)))
    where
      from : Restart bytes course i → KeepsStepThree bytes course i → ⊥
      from (at_break is_break_holds) keeps = omega (arith, is_break_holds, is_redesignation)
      from (step_three_begins second) keeps = unit_no_redesignation i second.second_fails.unit is_redesignation
      from (another_lower_plan second) keeps = unit_no_redesignation i (second_lower_fails bytes course i second).unit is_redesignation
      from (step_three_ends third) keeps = unit_no_redesignation i (unit_third i third) is_redesignation
      from (at_redesignation _ other) keeps = other keeps

  pub tells_restart_break : (i : ℕ) → IsBreak bytes i → Tells (restart_at sheet i) (Restart bytes course i)
  unfolding restart_at restart_by
  tells_restart_break i is_break_holds =
      subst⁻¹ (λ (entry : Entry). Tells (restart_by sheet i entry) (Restart bytes course i)) (entry_is i ∙ break_entry bytes i is_break_holds)
      (unfold restart_by in record { so = λ _. at_break is_break_holds; not_so = λ never. absurd (true≢false never) })

  -- a restart is told at every record
  pub restart_told : (i : ℕ) → Restart bytes course i → restart_at sheet i ≡ true
  restart_told i (at_break is_break_holds) = told (tells_restart_break i is_break_holds) (at_break is_break_holds)
  restart_told i (step_three_begins second) = told (tells_restart_unit i second.second_fails.unit) (step_three_begins second)
  restart_told i (another_lower_plan second) = told (tells_restart_unit i (second_lower_fails bytes course i second).unit) (another_lower_plan second)
  restart_told i (step_three_ends third) = told (tells_restart_unit i (unit_third i third)) (step_three_ends third)
  restart_told i (at_redesignation is_redesignation other) =
      told (tells_restart_redesignation i is_redesignation) (at_redesignation is_redesignation other)

  -- every record of the sheet has a mark, and so it is of one of the three kinds
  has_mark : (i : ℕ) → i < records_in bytes → mark bytes i ≡ None → ⊥
  unfolding record_refusal refusal_at refused_if refusal_by
  has_mark i inside none = go (ltb (length bytes) (offset bytes i + mark_size)) (facts.within i inside).1
    where
      go : (short : Bool) → refused_if short 6 (refusal_by bytes (offset bytes i) (units_before bytes i) (designated_before bytes i) (mark bytes i)) ≡ 0 → ⊥
      go true e = omega arith
      go false e =
          let six : ◌≡◌ {A = ℕ} 6 0 = sym (ap (refusal_by bytes (offset bytes i) (units_before bytes i) (designated_before bytes i)) none) ∙ e in
          omega arith

  pub kind : (i : ℕ) → i < records_in bytes → UnitAt bytes i ⊎ (IsRedesignation bytes i ⊎ IsBreak bytes i)
  kind i inside = go (mark bytes i) refl (marked bytes i)
    where
      go : (m : Option Mark) → mark bytes i ≡ m → Marked (number bytes (offset bytes i)) m → UnitAt bytes i ⊎ (IsRedesignation bytes i ⊎ IsBreak bytes i)
      go (Some UnitMark) e (as_unit _) = inl (record { inside = inside; is_unit = e })
      go (Some RedesignationMark) e (as_redesignation is_redesignation) = inr (inl is_redesignation)
      go (Some BreakMark) e (as_break is_break_holds) = inr (inr is_break_holds)
      go None e (as_none _ _ _) = absurd (has_mark i inside e)

  -- the records of the sheet, and the units among them, by the bytes
  pub inside_iff : (i : ℕ) → (i < records_in bytes) ↔ (offset bytes i < length bytes)
  inside_iff i = (λ inside. (facts.within i inside).0, λ before_end. offset_order bytes i (records_in bytes) (omega (arith, facts.end)))

  pub unit_iff : (i : ℕ) → UnitAt bytes i ↔ ((offset bytes i < length bytes) × IsUnit bytes i)
  unit_iff i = (
    λ at. ((inside_iff i).0 at.inside, unit_mark_is bytes i at.is_unit),
    λ (before_end, is_unit). record { inside = (inside_iff i).1 before_end; is_unit = is_unit_mark bytes i is_unit },
  )

  pub tells_restart : (i : ℕ) → i < records_in bytes → Tells (restart_at sheet i) (Restart bytes course i)
  tells_restart i inside = ⊎_elim (tells_restart_unit i) (⊎_elim (tells_restart_redesignation i) (tells_restart_break i)) (kind i inside)

-- Demand 3's second half over records: two sheets with one plan, alike but for fewer counts in the first, graded side by side.
-- While the second has not failed two in a row both stay under the designated plan; by induction on the records.
use Rattle.std.proofs.Common.{Option, is_some, ℕ, zero, suc, ◌+◌, ◌≤◌, ◌<◌, ◌≡◌, refl, sym, ◌∙◌, ap, ap₂, subst₂, Bool, true, false, ◌&&◌, true≢false, List, arith}
use mathlib.Core.Bool.{false≢true}
use Rattle.cusum.specs.declared.Cusum.{Cusum}
use Rattle.units.specs.Words.{substandard, Table, row_of, tenths_of}
use Rattle.units.specs.Unit.{starting, class_cusum, class_overshoot, unit_fails, grading_of, portion_grade_of}
use Rattle.units.specs.Records.{is_unit_that}
use Rattle.units.specs.declared.SampleUnit.{SampleUnit}
use Rattle.units.specs.declared.Entry.{Entry}
use Rattle.units.specs.declared.Entry.TheVariants.{UnitRecord, Redesignation, Break}
use Rattle.std.proofs.Math.Bool.{and-false}
use Rattle.units.proofs.Monotone.{counts_fewer, NoHigher, same_no_higher, class_cusum_mono, class_overshoot_mono, cusums_mono, class_fails_mono, unit_fails_mono, defect_grade_mono}
use Rattle.rules.specs.StepThree.{in_step_three, in_force_in, two_in_a_row, failure_after, ends_step_three, with_unit, without_run, restarted, graded, qualifies_in, after_break, next, record_ends_step_three}
use Rattle.rules.specs.Sheet.{Sheet, before, in_force_at, step_three_ends_at, in_finished_run, recovered, portion_grade, code_grade}
use Rattle.anchors.specs.TwoInARow.{fails_in_force, fails_designated, unit_fails_at, unit_fails_before, second_in_a_row}
use Rattle.anchors.specs.Anchor.{fails_at, class_fails_at}
use Rattle.rules.specs.declared.Phase.{Phase}
use Rattle.rules.specs.declared.Phase.TheVariants.{Designated}
use Rattle.rules.specs.declared.State.{State}
use Rattle.rules.proofs.Steps.{state_of, unit_passes, two_in_a_row_is, failure_is}
use Rattle.anchors.proofs.Fellows.{UnitBelow, Below, worst_mono}

-- ---- what is compared

-- no redesignation
unfoldable pub NoRedesignation : Entry → Type 0
NoRedesignation (UnitRecord u) = Unit {0}
NoRedesignation (Redesignation new) = ⊥
NoRedesignation Break = Unit {0}

-- ---- the two gradings side by side, both under the designated plan

-- just-failed: the second's unit just before failed
record Both (designated : ℕ) (just_failed : Bool) (first second : State) : Type 0 where
  first_designated : first.designated ≡ designated
  second_designated_holds : second.designated ≡ designated
  first_phase : first.phase ≡ Designated
  second_phase : second.phase ≡ Designated
  no_new_failure : is_some first.previous ≡ true → is_some second.previous ≡ true
  remembered : is_some second.previous ≡ true → just_failed ≡ true
  no_higher : NoHigher first.cusums second.cusums

and_then_false : (b c : Bool) → (b && c) ≡ false → b ≡ true → c ≡ false
and_then_false true c e h = e
and_then_false false c e h = absurd (false≢true h)

no_two : (previous : Option ℕ) (fails : Bool) → (is_some previous ≡ true → fails ≡ false) → two_in_a_row previous fails ≡ false
no_two previous fails none = two_in_a_row_is previous fails ∙ go (is_some previous) none
  where
    go : (failed : Bool) → (failed ≡ true → fails ≡ false) → (failed && fails) ≡ false
    go true none = none refl
    go false none = refl

module _ (table : Table) (designated : ℕ) where
  -- under the designated plan, where the unit does not fail behind one that failed
  passes : (previous : Option ℕ) (cusums : List Cusum) (unit : SampleUnit) →
      let state = state_of designated previous Designated cusums in
      let grading = grading_of table designated cusums (tenths_of unit) in
      (is_some previous ≡ true → grading.fails ≡ false)
      → next table state (UnitRecord unit) ≡ state_of designated (failure_after grading.fails grading.grade) Designated grading.cusums
  unfolding next graded in_force_in ends_step_three with_unit
  passes previous cusums unit none =
      let state = state_of designated previous Designated cusums in
      unit_passes table state (grading_of table designated cusums (tenths_of unit)) (qualifies_in table state unit) refl
      (no_two previous (unit_fails table designated cusums (tenths_of unit)) none)

  -- at the start of the designated plan
  at_start_holds : Both designated false (restarted table designated Designated) (restarted table designated Designated)
  unfolding restarted
  at_start_holds =
      record {
        first_designated = refl;
        second_designated_holds = refl;
        first_phase = refl;
        second_phase = refl;
        no_new_failure = λ failed. failed;
        remembered = λ failed. absurd (false≢true failed);
        no_higher = same_no_higher (starting (row_of table (in_force_in designated Designated)));
      }

  -- a record of each
  record_beside : (p p' : Option ℕ) (cs cs' : List Cusum) (just_failed : Bool) (e e' : Entry)
      → (is_some p ≡ true → is_some p' ≡ true) → (is_some p' ≡ true → just_failed ≡ true) → NoHigher cs cs'
      → Below e e' → NoRedesignation e
      → (just_failed && fails_designated table (state_of designated p' Designated cs') e') ≡ false
      → Both designated (fails_designated table (state_of designated p' Designated cs') e')
      (next table (state_of designated p Designated cs) e) (next table (state_of designated p' Designated cs') e')
  unfolding Below NoRedesignation fails_designated fails_in_force is_unit_that in_force_in in_step_three
  record_beside p p' cs cs' just_failed (UnitRecord u) (UnitRecord v) new remembered lower below none two =
      let fewer = counts_fewer u v below.fewer in
      let fails_too = unit_fails_mono table designated cs cs' (tenths_of u) (tenths_of v) lower fewer in
      let second_once : is_some p' ≡ true → unit_fails table designated cs' (tenths_of v) ≡ false =
      λ failed. and_then_false just_failed _ two (remembered failed) in
      let first_once : is_some p ≡ true → unit_fails table designated cs (tenths_of u) ≡ false =
      λ failed. not_too (unit_fails table designated cs (tenths_of u)) (unit_fails table designated cs' (tenths_of v)) fails_too (second_once (new failed)) in
      subst₂ (λ (first second : State). Both designated (unit_fails table designated cs' (tenths_of v)) first second)
      (sym (passes p cs u first_once)) (sym (passes p' cs' v second_once))
      (record {
        first_designated = refl;
        second_designated_holds = refl;
        first_phase = refl;
        second_phase = refl;
        no_new_failure = λ failed. failure_is _ _ ∙ fails_too (sym (failure_is _ _) ∙ failed);
        remembered = λ failed. sym (failure_is _ _) ∙ failed;
        no_higher = cusums_mono table designated cs cs' (tenths_of u) (tenths_of v) lower fewer;
      })
    where
      not_too : (x y : Bool) → (x ≡ true → y ≡ true) → y ≡ false → x ≡ false
      not_too true y too meets = absurd (true≢false (sym (too refl) ∙ meets))
      not_too false y too meets = refl
  record_beside p p' cs cs' just_failed Break Break new remembered lower below none two =
      unfold next after_break without_run in at_start_holds
  record_beside p p' cs cs' just_failed (UnitRecord u) Break new remembered lower below none two = absurd below
  record_beside p p' cs cs' just_failed (UnitRecord u) (Redesignation g) new remembered lower below none two = absurd below
  record_beside p p' cs cs' just_failed Break (UnitRecord u) new remembered lower below none two = absurd below
  record_beside p p' cs cs' just_failed Break (Redesignation g) new remembered lower below none two = absurd below
  record_beside p p' cs cs' just_failed (Redesignation g) e' new remembered lower below none two = absurd none

  both_next : (first second : State) (just_failed : Bool) (e e' : Entry) → Both designated just_failed first second → Below e e' → NoRedesignation e
      → (just_failed && fails_designated table second e') ≡ false
      → Both designated (fails_designated table second e') (next table first e) (next table second e')
  both_next first second just_failed e e' both below none =
      subst₂ (λ (s t : State). (just_failed && fails_designated table t e') ≡ false
      → Both designated (fails_designated table t e') (next table s e) (next table t e'))
      (λ k. state_of (sym both.first_designated k) first.previous (sym both.first_phase k) first.cusums)
      (λ k. state_of (sym both.second_designated_holds k) second.previous (sym both.second_phase k) second.cusums)
      (record_beside first.previous second.previous first.cusums second.cusums just_failed e e' both.no_new_failure both.remembered
      both.no_higher below none)

-- ---- two whole sheets

module _ (table : Table) (designated : ℕ) (es fs : ℕ → Entry) (size : ℕ)
    (fellows : (i : ℕ) → Below (es i) (fs i)) (none : (i : ℕ) → NoRedesignation (es i)) where
  abbrev pub first : Sheet
  first = record { table = table; designated = designated; entry = es; size = size }

  abbrev pub second : Sheet
  second = record { table = table; designated = designated; entry = fs; size = size }

  together : (i : ℕ) → ((j : ℕ) → j < i → second_in_a_row second j ≡ false)
      → Both designated (unit_fails_before second i) (before first i) (before second i)
  unfolding before unit_fails_before unit_fails_at second_in_a_row
  together zero h = at_start_holds table designated
  together (suc i) h =
      both_next table designated (before first i) (before second i) (unit_fails_before second i) (es i) (fs i)
      (together i (λ j k. h j (omega arith))) (fellows i) (none i) (h i (omega arith))

  both_in_force : (i : ℕ) → Both designated (unit_fails_before second i) (before first i) (before second i)
      → (in_force_at first i ≡ designated) × (in_force_at second i ≡ designated)
  unfolding in_force_in
  both_in_force i both = (
    ap₂ in_force_in both.first_designated both.first_phase,
    ap₂ in_force_in both.second_designated_holds both.second_phase,
  )

  -- THE SECOND HALF OF DEMAND 3, over records: CuSums, overshoots and failures
  pub fewer_cusums : (i : ℕ) (u v : SampleUnit) → es i ≡ UnitRecord u → fs i ≡ UnitRecord v
      → ((j : ℕ) → j < i → second_in_a_row second j ≡ false) → (class : ℕ)
      → (class_cusum table (in_force_at first i) (before first i).cusums (tenths_of u) class
      ≤ class_cusum table (in_force_at second i) (before second i).cusums (tenths_of v) class)
      × (class_overshoot table (in_force_at first i) (before first i).cusums (tenths_of u) class
      ≤ class_overshoot table (in_force_at second i) (before second i).cusums (tenths_of v) class)
      × (class_fails_at first class i ≡ true → class_fails_at second class i ≡ true)
  unfolding Below class_fails_at fails_at is_unit_that
  fewer_cusums i u v eu ev h class =
      let both = together i h in
      let below : Below (UnitRecord u) (UnitRecord v) = subst₂ Below eu ev (fellows i) in
      let (plan, plan') = both_in_force i both in
      let fewer = counts_fewer u v below.fewer in
      rw (eu, ev, plan, plan') (
        class_cusum_mono table _ _ _ (tenths_of u) (tenths_of v) both.no_higher fewer class,
        class_overshoot_mono table _ _ _ (tenths_of u) (tenths_of v) both.no_higher fewer class,
        class_fails_mono table _ _ _ (tenths_of u) (tenths_of v) both.no_higher fewer class,
      )

  -- ---- grades, where the second never fails two in a row

  no_end : (state : State) (e : Entry) → state.phase ≡ Designated → record_ends_step_three table state e ≡ false
  unfolding record_ends_step_three is_unit_that ends_step_three
  no_end state (UnitRecord u) outside = ap (λ (phase : Phase). ends_step_three phase (qualifies_in table state u)) outside
  no_end state (Redesignation g) outside = refl
  no_end state Break outside = refl

  module _ (graded_designated : designated ≤ substandard) (never : (j : ℕ) → second_in_a_row second j ≡ false) where
    always : (i : ℕ) → Both designated (unit_fails_before second i) (before first i) (before second i)
    always i = together i (λ j h. never j)

    ends_first : (i : ℕ) → step_three_ends_at first i ≡ false
    unfolding step_three_ends_at
    ends_first i = no_end (before first i) (es i) (always i).first_phase

    ends_second : (i : ℕ) → step_three_ends_at second i ≡ false
    unfolding step_three_ends_at
    ends_second i = no_end (before second i) (fs i) (always i).second_phase

    recovered_first : (i : ℕ) (u : SampleUnit) → recovered first i u ≡ false
    unfolding recovered in_finished_run
    recovered_first i u = simp (ends_first i, ends_first (i + 1), ends_first (i + 2)) (and-false u.recoverable)

    recovered_second : (i : ℕ) (v : SampleUnit) → recovered second i v ≡ false
    unfolding recovered in_finished_run
    recovered_second i v = simp (ends_second i, ends_second (i + 1), ends_second (i + 2)) (and-false v.recoverable)

    portion_mono : (i : ℕ) (u v : SampleUnit) → UnitBelow u v → portion_grade first i u ≤ portion_grade second i v
    unfolding portion_grade portion_grade_of graded
    portion_mono i u v below =
        let both = always i in
        let (plan, plan') = both_in_force i both in
        rw (recovered_first i u, recovered_second i v, plan, plan')
        (omega (
          arith,
          below.same_prerequisite,
          defect_grade_mono table designated (before first i).cusums (before second i).cusums (tenths_of u) (tenths_of v) both.no_higher
              (counts_fewer u v below.fewer) graded_designated,
        ))

    -- THE SECOND HALF OF DEMAND 3, over records: portion and code grades
    pub fewer_grades : (i : ℕ) (u v : SampleUnit) → es i ≡ UnitRecord u → fs i ≡ UnitRecord v
        → (portion_grade first i u ≤ portion_grade second i v) × (code_grade first u.code ≤ code_grade second v.code)
    unfolding code_grade Below
    fewer_grades i u v eu ev =
        let w : Below (UnitRecord u) (UnitRecord v) = subst₂ Below eu ev (fellows i) in
        (portion_mono i u v w, rw w.same_code (worst_mono es fs fellows (portion_grade first) (portion_grade second) portion_mono v.code size))

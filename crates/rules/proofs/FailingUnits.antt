-- In step 3 a unit that fails does not qualify, on a sheet whose S is nowhere above its L and whose T is nowhere smaller at a lower
-- grade. Two facts carry through every record: a CuSum is at most the L of the plan in force, and the designated grade is no worse than
-- that of the plan in force.
use Rattle.std.proofs.Common.{ℕ, zero, suc, ◌≤◌, ◌<◌, ◌≡◌, refl, sym, ◌∙◌, ap, Bool, true, false, ◌&&◌, List, arith, length, ltb-true, Option, None, Some}
use mathlib.Core.Path.{subst⁻¹}
use Rattle.cusum.specs.declared.Cusum.{Cusum}
use Rattle.units.specs.Words.{substandard, has_plan, classes, Table, row_of, numbers_of, tenths_of, tenths_in}
use Rattle.units.specs.Unit.{starting, unit_fails, defect_grade}
use Rattle.units.specs.declared.SampleUnit.{SampleUnit}
use Rattle.units.specs.declared.Entry.{Entry}
use Rattle.units.specs.declared.Entry.TheVariants.{UnitRecord, Redesignation, Break}
use Rattle.units.proofs.Bounds.{new_cusum_le}
use Rattle.units.proofs.Classes.{at_class}
use Rattle.units.proofs.Failing as failing
use Rattle.std.proofs.Math.Bool.{and-false}
use Rattle.units.proofs.Tests.{and_both}
use Rattle.rules.specs.StepThree.{in_step_three, in_force_in, in_force, worse_of_two, without_run, restarted, graded, qualifies_with, qualifies_in, after_break, next}
use Rattle.rules.specs.Sheet.{Sheet, before, in_force_at, graded_at, qualifies_at}
use Rattle.rules.specs.declared.Phase.{Phase}
use Rattle.rules.specs.declared.Phase.TheVariants.{Designated, StepThree}
use Rattle.rules.specs.declared.State.{State}
use Rattle.rules.proofs.Steps.{unit_by, redesignation_by, with_unit_in_force, without_run_in_force, keeps_is, kept_in_force}

-- ---- a CuSum is at most L

module _ (table : Table) (class : ℕ) (known : class < length classes) where
  -- S of a class
  pub starts_at : (grade : ℕ) → tenths_in (starting (row_of table grade)) class ≡ (numbers_of table grade class).start
  unfolding starting
  starts_at grade = at_class (λ k. (numbers_of table grade k).start) class known

  -- where S is
  abbrev WithinLimit : ℕ → List Cusum → Type 0
  WithinLimit grade cusums = (numbers_of table grade class).start ≤ (numbers_of table grade class).limit → tenths_in cusums class ≤ (numbers_of table grade class).limit

  abbrev Within : State → Type 0
  Within state = WithinLimit (in_force state) state.cusums

  restarted_within : (designated : ℕ) (phase : Phase) → Within (restarted table designated phase)
  unfolding restarted
  restarted_within designated phase start_within = omega (arith, starts_at (in_force_in designated phase))

  unit_within : (state : State) (unit : SampleUnit) → WithinLimit (in_force state) (graded table state unit).cusums
  unfolding graded
  unit_within state unit start_within = new_cusum_le table (in_force state) state.cusums (tenths_of unit) class known

  next_within : (state : State) (entry : Entry) → Within state → Within (next table state entry)
  unfolding next after_break restarted without_run
  next_within state (UnitRecord unit) within =
      unit_by table state (graded table state unit) (qualifies_in table state unit) Within
      (λ ends. restarted_within state.designated Designated)
      (λ ends two. restarted_within state.designated (StepThree (worse_of_two state.previous (graded table state unit).grade) 0))
      (λ ends one. subst⁻¹ (λ (grade : ℕ). WithinLimit grade (graded table state unit).cusums)
      (with_unit_in_force state.designated state.phase (qualifies_in table state unit)) (unit_within state unit))
  next_within state (Redesignation new) within =
      redesignation_by table state new Within
      (λ keeps. subst⁻¹ (λ (grade : ℕ). WithinLimit grade state.cusums) (kept_in_force state.phase state.designated new keeps) within)
      (λ other. restarted_within new Designated)
  next_within state Break within = restarted_within state.designated (without_run state.phase)

-- where S is at most L the CuSum before a record is, too
pub within_limit : (sheet : Sheet) (class : ℕ) → class < length classes → (i : ℕ) →
    let numbers = numbers_of sheet.table (in_force_at sheet i) class in
    numbers.start ≤ numbers.limit → tenths_in (before sheet i).cusums class ≤ numbers.limit
unfolding before
within_limit sheet class known zero = restarted_within sheet.table class known sheet.designated Designated
within_limit sheet class known (suc i) =
    next_within sheet.table class known (before sheet i) (sheet.entry i) (within_limit sheet class known i)

-- ---- the designated grade is no worse than that of the plan in force

-- the defect grade of a unit is not better
grade_at_least : (table : Table) (state : State) (unit : SampleUnit) → in_force state ≤ (graded table state unit).grade
unfolding graded
grade_at_least table state unit = go (unit_fails table (in_force state) state.cusums (tenths_of unit)) refl
  where
    go : (fails : Bool) → unit_fails table (in_force state) state.cusums (tenths_of unit) ≡ fails
        → in_force state ≤ defect_grade table (in_force state) state.cusums (tenths_of unit)
    go true e = omega (arith, failing.failing_worse table (in_force state) state.cusums (tenths_of unit) e)
    go false e = unfold defect_grade in rw e (omega arith)

-- nor is the worse of two defect grades better than the second
pub worse_at_least : (previous : Option ℕ) (grade : ℕ) → grade ≤ worse_of_two previous grade
unfolding worse_of_two
worse_at_least None grade = omega arith
worse_at_least (Some earlier) grade = omega arith

abbrev NoWorse : State → Type 0
NoWorse state = state.designated ≤ in_force state

next_no_worse : (table : Table) (state : State) (entry : Entry) → NoWorse state → NoWorse (next table state entry)
unfolding next after_break restarted in_force_in
next_no_worse table state (UnitRecord unit) no_worse =
    unit_by table state (graded table state unit) (qualifies_in table state unit) NoWorse
    (λ ends. omega arith)
    (λ ends two. omega (arith, no_worse, grade_at_least table state unit, worse_at_least state.previous (graded table state unit).grade))
    (λ ends one. omega (arith, no_worse, with_unit_in_force state.designated state.phase (qualifies_in table state unit)))
next_no_worse table state (Redesignation new) no_worse =
    redesignation_by table state new NoWorse
    (λ keeps.
    let (inside, better) = and_both (in_step_three state.phase) _ (sym (keeps_is state.designated state.phase new) ∙ keeps) in
    omega (arith, ltb-true new (in_force state) better, kept_in_force state.phase state.designated new keeps))
    (λ other. omega arith)
next_no_worse table state Break no_worse = omega (arith, no_worse, without_run_in_force state.designated state.phase)

designated_no_worse : (sheet : Sheet) (i : ℕ) → (before sheet i).designated ≤ in_force_at sheet i
unfolding before restarted in_force_in
designated_no_worse sheet zero = omega arith
designated_no_worse sheet (suc i) = next_no_worse sheet.table (before sheet i) (sheet.entry i) (designated_no_worse sheet i)

-- ---- a unit that fails

-- of a sheet: none of its units fails and qualifies
abbrev pub FailingNeverQualifies : Sheet → Type 0
FailingNeverQualifies sheet = (i : ℕ) (unit : SampleUnit) → (graded_at sheet i unit).fails ≡ true → qualifies_at sheet i unit ≡ false

-- what no ground against a plan leaves: S is at most its L, and T is not smaller at a lower grade
pub record Orderly (table : Table) : Type 0 where
  pub start_within : (grade class : ℕ) → (numbers_of table grade class).start ≤ (numbers_of table grade class).limit
  pub tolerance_rises : (better lower class : ℕ) → better ≤ lower → lower < substandard → class < length classes
      → (numbers_of table better class).tolerance ≤ (numbers_of table lower class).tolerance

pub failing_never_qualifies : (sheet : Sheet) → Orderly sheet.table → FailingNeverQualifies sheet
unfolding qualifies_with graded
failing_never_qualifies sheet orderly i unit fails =
    ap (λ (b : Bool). in_step_three (before sheet i).phase && b)
    (failing.failing_not_qualifying sheet.table (in_force_at sheet i) (before sheet i).cusums (tenths_of unit) (before sheet i).designated
    (λ planned class known.
    let has_plan_holds : in_force_at sheet i < substandard = unfold has_plan in ltb-true (in_force_at sheet i) substandard planned in (
      within_limit sheet class known i (orderly.start_within (in_force_at sheet i) class),
      orderly.tolerance_rises (before sheet i).designated (in_force_at sheet i) class (designated_no_worse sheet i) has_plan_holds known,
    ))
    fails)
    ∙ and-false (in_step_three (before sheet i).phase)

-- Every grade that is recorded is a grade, for designated grades that have a plan. The grades in a state are bounded by induction on
-- the records.
use Rattle.std.proofs.Common.{ℕ, zero, suc, ◌≤◌, ◌≡◌, refl, Bool, true, false, arith, eqb, Option, None, Some, IfSome}
use Rattle.units.specs.Words.{substandard, Table, tenths_of}
use Rattle.units.specs.Unit.{portion_grade_of}
use Rattle.units.specs.Records.{portion_grade_with, worst_before}
use Rattle.units.specs.declared.SampleUnit.{SampleUnit}
use Rattle.units.specs.declared.Entry.{Entry}
use Rattle.units.specs.declared.Entry.TheVariants.{UnitRecord, Redesignation, Break}
use Rattle.units.proofs.Bounds.{choice_le, defect_grade_at_most}
use Rattle.rules.specs.declared.Phase.{Phase}
use Rattle.rules.specs.declared.Phase.TheVariants.{Designated, StepThree}
use Rattle.rules.specs.declared.State.{State}
use Rattle.rules.specs.StepThree.{in_force_in, in_force, worse_of_two, failure_after, with_unit, without_run, restarted, graded, qualifies_in, after_unit, after_redesignation, after_break, next}
use Rattle.rules.specs.Sheet.{Sheet, before, designated_at, in_force_at, graded_at, recovered, portion_grade, code_grade}
use Rattle.rules.proofs.Steps.{unit_by, redesignation_by}

-- ---- the grades in a state

abbrev FailureBounded : Option ℕ → Type 0
FailureBounded previous = IfSome previous (λ grade. grade ≤ substandard)

unfoldable PhaseBounded : Phase → Type 0
PhaseBounded Designated = Unit {0}
PhaseBounded (StepThree lower run) = lower ≤ substandard

record Bounded (state : State) : Type 0 where
  designated : state.designated ≤ 2
  previous : FailureBounded state.previous
  phase : PhaseBounded state.phase

in_force_bounded : (designated : ℕ) (phase : Phase) → designated ≤ 2 → PhaseBounded phase → in_force_in designated phase ≤ substandard
unfolding PhaseBounded in_force_in
in_force_bounded designated Designated planned bounded = omega arith
in_force_bounded designated (StepThree lower run) planned bounded = bounded

restarted_bounded : (table : Table) (designated : ℕ) (phase : Phase) → designated ≤ 2 → PhaseBounded phase
    → Bounded (restarted table designated phase)
unfolding restarted
restarted_bounded table designated phase planned bounded = record { designated = planned; previous = tt; phase = bounded }

worse_bounded : (previous : Option ℕ) (grade : ℕ) → FailureBounded previous → grade ≤ substandard → worse_of_two previous grade ≤ substandard
unfolding worse_of_two
worse_bounded None grade before here = here
worse_bounded (Some earlier) grade before here = omega arith

failure_bounded : (fails : Bool) (grade : ℕ) → grade ≤ substandard → FailureBounded (failure_after fails grade)
unfolding failure_after
failure_bounded true grade bounded = bounded
failure_bounded false grade bounded = tt

with_unit_bounded : (phase : Phase) (qualifies : Bool) → PhaseBounded phase → PhaseBounded (with_unit phase qualifies)
unfolding PhaseBounded with_unit
with_unit_bounded Designated qualifies bounded = tt
with_unit_bounded (StepThree lower run) qualifies bounded = bounded

without_run_bounded : (phase : Phase) → PhaseBounded phase → PhaseBounded (without_run phase)
unfolding PhaseBounded without_run
without_run_bounded Designated bounded = tt
without_run_bounded (StepThree lower run) bounded = bounded

-- a redesignation names A, B or C
unfoldable pub NewGrade : Entry → Type 0
NewGrade (UnitRecord unit) = Unit {0}
NewGrade (Redesignation new) = new ≤ 2
NewGrade Break = Unit {0}

module _ (table : Table) (state : State) (bounded : Bounded state) where
  grade_bounded : (unit : SampleUnit) → (graded table state unit).grade ≤ substandard
  unfolding graded
  grade_bounded unit =
      defect_grade_at_most table (in_force state) state.cusums (tenths_of unit)
      (in_force_bounded state.designated state.phase bounded.designated bounded.phase)

  after_unit_holds : (unit : SampleUnit) → Bounded (after_unit table state (graded table state unit) (qualifies_in table state unit))
  unfolding PhaseBounded
  after_unit_holds unit =
      let grading = graded table state unit in
      unit_by table state grading (qualifies_in table state unit) Bounded
      (λ ends. restarted_bounded table state.designated Designated bounded.designated tt)
      (λ ends two. restarted_bounded table state.designated (StepThree (worse_of_two state.previous grading.grade) 0) bounded.designated
      (worse_bounded state.previous grading.grade bounded.previous (grade_bounded unit)))
      (λ ends two. record {
        designated = bounded.designated;
        previous = failure_bounded grading.fails grading.grade (grade_bounded unit);
        phase = with_unit_bounded state.phase (qualifies_in table state unit) bounded.phase;
      })

  after_redesignation_holds : (new : ℕ) → new ≤ 2 → Bounded (after_redesignation table state new)
  unfolding PhaseBounded
  after_redesignation_holds new planned =
      redesignation_by table state new Bounded
      (λ keeps. record { designated = planned; previous = tt; phase = without_run_bounded state.phase bounded.phase })
      (λ other. restarted_bounded table new Designated planned tt)

  after_entry : (entry : Entry) → NewGrade entry → Bounded (next table state entry)
  unfolding next NewGrade after_break
  after_entry (UnitRecord unit) planned = after_unit_holds unit
  after_entry (Redesignation new) planned = after_redesignation_holds new planned
  after_entry Break planned =
      restarted_bounded table state.designated (without_run state.phase) bounded.designated (without_run_bounded state.phase bounded.phase)

module _ (sheet : Sheet) (designated : sheet.designated ≤ 2) (new_grades : (i : ℕ) → NewGrade (sheet.entry i)) where
  bounded : (i : ℕ) → Bounded (before sheet i)
  unfolding before
  bounded zero = restarted_bounded sheet.table sheet.designated Designated designated (unfold PhaseBounded in tt)
  bounded (suc i) = after_entry sheet.table (before sheet i) (bounded i) (sheet.entry i) (new_grades i)

  pub designated_at_most : (i : ℕ) → designated_at sheet i ≤ 2
  designated_at_most i = (bounded i).designated

  -- the grade of the plan in force is at most 3
  pub in_force_at_most : (i : ℕ) → in_force_at sheet i ≤ substandard
  in_force_at_most i =
      in_force_bounded (before sheet i).designated (before sheet i).phase (bounded i).designated (bounded i).phase

  -- portion grades are at most 3
  pub portion_at_most : (i : ℕ) (unit : SampleUnit) → unit.prerequisite ≤ substandard → portion_grade sheet i unit ≤ substandard
  unfolding portion_grade portion_grade_of graded
  portion_at_most i unit h =
      let d = designated_at_most i in
      let g = defect_grade_at_most sheet.table (in_force_at sheet i) (before sheet i).cusums (tenths_of unit) (in_force_at_most i) in
      let c = choice_le (recovered sheet i unit) (designated_at sheet i) (graded_at sheet i unit).grade substandard (omega arith) g in
      omega arith

  -- and so are code grades
  pub code_grade_at_most : ((i : ℕ) (unit : SampleUnit) → sheet.entry i ≡ UnitRecord unit → unit.prerequisite ≤ substandard)
      → (code : ℕ) → code_grade sheet code ≤ substandard
  unfolding code_grade portion_grade_with worst_before
  code_grade_at_most prerequisites code = worst sheet.size
    where
      one : (i : ℕ) (entry : Entry) → sheet.entry i ≡ entry → portion_grade_with (portion_grade sheet) code i entry ≤ substandard
      one i (UnitRecord unit) e =
          choice_le (eqb unit.code code) (portion_grade sheet i unit) 0 substandard (portion_at_most i unit (prerequisites i unit e)) (omega arith)
      one i (Redesignation new) e = omega arith
      one i Break e = omega arith

      worst : (n : ℕ) → worst_before (portion_grade sheet) sheet.entry code n ≤ substandard
      worst zero = omega arith
      worst (suc n) = omega (arith, worst n, one n (sheet.entry n) refl)

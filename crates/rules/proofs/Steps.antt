-- What a unit, a redesignation or a break makes of a state, case by case of the definitions: each case by its tests.
use Rattle.std.proofs.Common.{ℕ, ◌≡◌, refl, ap, Bool, true, false, ◌&&◌, List, ltb, Option, None, Some, is_some}
use mathlib.Core.Path.{subst⁻¹}
use Rattle.cusum.specs.declared.Cusum.{Cusum}
use Rattle.units.specs.Conditions.{pick}
use Rattle.units.specs.Words.{Table}
use Rattle.units.specs.Records.{designated_by}
use Rattle.units.specs.declared.Grading.{Grading}
use Rattle.units.specs.declared.Entry.{Entry}
use Rattle.units.specs.declared.Entry.TheVariants.{UnitRecord, Redesignation, Break}
use Rattle.rules.specs.StepThree.{in_step_three, in_force_in, two_in_a_row, worse_of_two, failure_after, ends_step_three, with_unit, without_run, keeps_step_three, restarted, graded, qualifies_in, after_unit, after_redesignation, after_break, next}
use Rattle.rules.specs.declared.Phase.{Phase}
use Rattle.rules.specs.declared.Phase.TheVariants.{Designated, StepThree}
use Rattle.rules.specs.declared.State.{State}

-- a state by its parts, so that a law can go by cases of one of them
abbrev pub state_of : ℕ → Option ℕ → Phase → List Cusum → State
state_of designated previous phase cusums =
    record { designated = designated; previous = previous; phase = phase; cusums = cusums }

-- ---- a unit

module _ (table : Table) (state : State) (grading : Grading) (qualifies : Bool) where
  pub unit_ends : ends_step_three state.phase qualifies ≡ true
      → after_unit table state grading qualifies ≡ restarted table state.designated Designated
  unfolding after_unit pick
  unit_ends ends = rw ends

  pub unit_starts_lower : ends_step_three state.phase qualifies ≡ false → two_in_a_row state.previous grading.fails ≡ true
      → after_unit table state grading qualifies
      ≡ restarted table state.designated (StepThree (worse_of_two state.previous grading.grade) 0)
  unfolding after_unit pick
  unit_starts_lower going_on two = rw (going_on, two)

  pub unit_passes : ends_step_three state.phase qualifies ≡ false → two_in_a_row state.previous grading.fails ≡ false
      → after_unit table state grading qualifies
      ≡ state_of state.designated (failure_after grading.fails grading.grade) (with_unit state.phase qualifies) grading.cusums
  unfolding after_unit pick
  unit_passes going_on one = rw (going_on, one)

  -- what holds in each of the three cases
  pub unit_by : (P : State → Type 0)
      → (ends_step_three state.phase qualifies ≡ true → P (restarted table state.designated Designated))
      → (ends_step_three state.phase qualifies ≡ false → two_in_a_row state.previous grading.fails ≡ true
      → P (restarted table state.designated (StepThree (worse_of_two state.previous grading.grade) 0)))
      → (ends_step_three state.phase qualifies ≡ false → two_in_a_row state.previous grading.fails ≡ false
      → P (state_of state.designated (failure_after grading.fails grading.grade) (with_unit state.phase qualifies) grading.cusums))
      → P (after_unit table state grading qualifies)
  unit_by P ends starts passes = go (ends_step_three state.phase qualifies) refl (two_in_a_row state.previous grading.fails) refl
    where
      go : (e : Bool) → ends_step_three state.phase qualifies ≡ e → (t : Bool) → two_in_a_row state.previous grading.fails ≡ t
          → P (after_unit table state grading qualifies)
      go true e t two = subst⁻¹ P (unit_ends e) (ends e)
      go false e true two = subst⁻¹ P (unit_starts_lower e two) (starts e two)
      go false e false two = subst⁻¹ P (unit_passes e two) (passes e two)

two_needs_failure : (previous : Option ℕ) → two_in_a_row previous false ≡ false
unfolding two_in_a_row
two_needs_failure None = refl
two_needs_failure (Some grade) = refl

-- one that meets the designated plan leaves it in force
pub stays_designated : (table : Table) (state : State) (grading : Grading) (qualifies : Bool) → state.phase ≡ Designated → grading.fails ≡ false
    → (after_unit table state grading qualifies).phase ≡ Designated
unfolding restarted with_unit
stays_designated table state grading qualifies outside meets =
    unit_by table state grading qualifies (λ (behind : State). behind.phase ≡ Designated)
    (λ ends. refl)
    (λ ends two. cc (two_needs_failure state.previous))
    (λ ends one. ap (λ (phase : Phase). with_unit phase qualifies) outside)

-- ---- a redesignation

module _ (table : Table) (state : State) (new : ℕ) where
  pub redesignation_keeps : keeps_step_three state.phase new ≡ true
      → after_redesignation table state new ≡ state_of new None (without_run state.phase) state.cusums
  unfolding after_redesignation pick
  redesignation_keeps keeps = rw keeps

  pub redesignation_restarts : keeps_step_three state.phase new ≡ false → after_redesignation table state new ≡ restarted table new Designated
  unfolding after_redesignation pick
  redesignation_restarts other = rw other

  -- what holds in both cases
  pub redesignation_by : (P : State → Type 0)
      → (keeps_step_three state.phase new ≡ true → P (state_of new None (without_run state.phase) state.cusums))
      → (keeps_step_three state.phase new ≡ false → P (restarted table new Designated)) → P (after_redesignation table state new)
  redesignation_by P keeps restarts = go (keeps_step_three state.phase new) refl
    where
      go : (k : Bool) → keeps_step_three state.phase new ≡ k → P (after_redesignation table state new)
      go true e = subst⁻¹ P (redesignation_keeps e) (keeps e)
      go false e = subst⁻¹ P (redesignation_restarts e) (restarts e)

-- ---- the parts of a state

-- two in a row, and a failure remembered
pub two_in_a_row_is : (previous : Option ℕ) (fails : Bool) → two_in_a_row previous fails ≡ (is_some previous && fails)
unfolding two_in_a_row
two_in_a_row_is None fails = refl
two_in_a_row_is (Some grade) fails = refl

pub failure_is : (fails : Bool) (grade : ℕ) → is_some (failure_after fails grade) ≡ fails
unfolding failure_after
failure_is true grade = refl
failure_is false grade = refl

-- the plan in force does not depend on the run, nor the phase being step 3
pub without_run_in_force : (designated : ℕ) (phase : Phase) → in_force_in designated (without_run phase) ≡ in_force_in designated phase
unfolding in_force_in without_run
without_run_in_force designated Designated = refl
without_run_in_force designated (StepThree lower run) = refl

pub with_unit_in_force : (designated : ℕ) (phase : Phase) (qualifies : Bool)
    → in_force_in designated (with_unit phase qualifies) ≡ in_force_in designated phase
unfolding in_force_in with_unit
with_unit_in_force designated Designated qualifies = refl
with_unit_in_force designated (StepThree lower run) qualifies = refl

pub with_unit_in_step_three : (phase : Phase) (qualifies : Bool) → in_step_three (with_unit phase qualifies) ≡ in_step_three phase
unfolding in_step_three with_unit
with_unit_in_step_three Designated qualifies = refl
with_unit_in_step_three (StepThree lower run) qualifies = refl

pub without_run_in_step_three : (phase : Phase) → in_step_three (without_run phase) ≡ in_step_three phase
unfolding in_step_three without_run
without_run_in_step_three Designated = refl
without_run_in_step_three (StepThree lower run) = refl

-- whether a redesignation keeps step 3, as the state has it and by its place
pub keeps_is : (designated : ℕ) (phase : Phase) (new : ℕ) → keeps_step_three phase new ≡ (in_step_three phase && ltb new (in_force_in designated phase))
unfolding keeps_step_three in_step_three in_force_in
keeps_is designated Designated new = refl
keeps_is designated (StepThree lower run) new = refl

-- one that does keeps its lower grade
pub kept_in_force : (phase : Phase) (designated new : ℕ) → keeps_step_three phase new ≡ true → in_force_in new (without_run phase) ≡ in_force_in designated phase
unfolding keeps_step_three in_force_in without_run
kept_in_force Designated designated new keeps = cc
kept_in_force (StepThree lower run) designated new keeps = refl

-- outside step 3 the plan in force is the designated one
pub in_force_outside : (designated : ℕ) (phase : Phase) → in_step_three phase ≡ false → in_force_in designated phase ≡ designated
unfolding in_step_three in_force_in
in_force_outside designated Designated out = refl
in_force_outside designated (StepThree lower run) out = cc

-- and nothing ends step 3
pub ends_none : (phase : Phase) (qualifies : Bool) → in_step_three phase ≡ false → ends_step_three phase qualifies ≡ false
unfolding in_step_three ends_step_three
ends_none Designated qualifies out = refl
ends_none (StepThree lower run) qualifies out = cc

-- nor does a unit that does not qualify
pub ends_qualifying : (phase : Phase) → ends_step_three phase false ≡ false
unfolding ends_step_three
ends_qualifying Designated = refl
ends_qualifying (StepThree lower run) = refl

-- ---- the designated grade

-- moves with redesignations alone
pub designated_after : (table : Table) (state : State) (entry : Entry) → (next table state entry).designated ≡ designated_by state.designated entry
unfolding next after_break restarted designated_by
designated_after table state (UnitRecord unit) =
    unit_by table state (graded table state unit) (qualifies_in table state unit) (λ (behind : State). behind.designated ≡ state.designated)
    (λ ends. refl) (λ ends two. refl) (λ ends two. refl)
designated_after table state (Redesignation new) =
    redesignation_by table state new (λ (behind : State). behind.designated ≡ new) (λ keeps. refl) (λ other. refl)
designated_after table state Break = refl

-- When step 3 ends at a record, that record and the two right before it are sample units in step 3 that qualify: the finished run.
-- The run counts back record by record, since every record that is no qualifying unit sets it to none.
use Rattle.std.proofs.Common.{ℕ, zero, suc, ◌+◌, ◌≤◌, ◌<◌, ◌≡◌, refl, sym, ◌∙◌, ap, Bool, true, false, ◌||◌, arith, leb, leb-true, leb-false}
use Rattle.std.proofs.lemmas.Bool.{or_left, or_right}
use Rattle.units.specs.Words.{Table}
use Rattle.units.specs.declared.SampleUnit.{SampleUnit}
use Rattle.units.specs.declared.Entry.{Entry}
use Rattle.units.specs.declared.Entry.TheVariants.{UnitRecord, Redesignation, Break}
use Rattle.units.proofs.Records.{unit_that}
use Rattle.rules.specs.declared.Phase.{Phase}
use Rattle.rules.specs.declared.Phase.TheVariants.{Designated, StepThree}
use Rattle.rules.specs.declared.State.{State}
use Rattle.rules.specs.StepThree.{worse_of_two, ends_step_three, with_unit, without_run, restarted, graded, qualifies_in, after_unit, after_redesignation, after_break, next, record_ends_step_three}
use Rattle.rules.specs.Sheet.{Sheet, before, step_three_ends_at, in_finished_run}
use Rattle.rules.proofs.Steps.{unit_by, redesignation_by}

-- a state is in step 3 with this designated grade, lower grade and run
pub record InStepThree (state : State) (designated lower run : ℕ) : Type 0 where
  pub same_designated : state.designated ≡ designated
  pub same_phase : state.phase ≡ StepThree lower run

-- a record is a unit that qualifies in step 3, after so many in a row
pub record Qualifying (table : Table) (state : State) (entry : Entry) (designated lower run : ℕ) : Type 0 where
  pub unit : SampleUnit
  pub is_unit : entry ≡ UnitRecord unit
  pub in_step_three_holds : InStepThree state designated lower run
  pub qualifies : qualifies_in table state unit ≡ true

-- ---- one record back

-- a run of one or more is neither outside step 3 nor a run of none
no_run : (phase : Phase) (lower run : ℕ) → without_run phase ≡ StepThree lower (suc run) → ⊥
unfolding without_run
no_run Designated lower run e = cc
no_run (StepThree lower' run') lower run e = cc

-- it comes from a qualifying unit, after one less
run_back : (phase : Phase) (qualifies : Bool) (lower run : ℕ) → ends_step_three phase qualifies ≡ false
    → with_unit phase qualifies ≡ StepThree lower (suc run)
    → (qualifies ≡ true) × (phase ≡ StepThree lower run) × (run < 2)
unfolding ends_step_three with_unit
run_back Designated qualifies lower run going_on e = cc
run_back (StepThree lower' run') false lower run going_on e = cc
run_back (StepThree lower' run') true lower run going_on e =
    let more : run' + 1 ≡ suc run = cc in
    let same_run : run' ≡ run = omega arith in
    (refl, cc, omega (arith, leb-false 2 run' going_on))

module _ (table : Table) (state : State) where
  -- in step 3 after one qualifying unit or more: what the record just before was
  abbrev Back : Entry → ℕ → ℕ → ℕ → State → Type 0
  Back entry designated lower run behind =
      InStepThree behind designated lower (suc run) → Qualifying table state entry designated lower run × (run < 2)

  none_back : (entry : Entry) (phase : Phase) (designated lower run : ℕ) (behind : State) → behind.phase ≡ without_run phase
      → Back entry designated lower run behind
  none_back entry phase designated lower run behind e inside = absurd (no_run phase lower run (sym e ∙ inside.same_phase))

  unit_back : (unit : SampleUnit) (designated lower run : ℕ)
      → Back (UnitRecord unit) designated lower run (after_unit table state (graded table state unit) (qualifies_in table state unit))
  unfolding restarted
  unit_back unit designated lower run =
      unit_by table state (graded table state unit) (qualifies_in table state unit) (Back (UnitRecord unit) designated lower run)
      (λ ends. unfold without_run in none_back (UnitRecord unit) Designated designated lower run _ refl)
      (λ ends two. unfold without_run in
      none_back (UnitRecord unit) (StepThree (worse_of_two state.previous (graded table state unit).grade) 0) designated lower run _ refl)
      (λ ends two inside.
      let (qualifies, phase, below_two) = run_back state.phase (qualifies_in table state unit) lower run ends inside.same_phase in (
        record {
          unit = unit;
          is_unit = refl;
          in_step_three_holds = record { same_designated = inside.same_designated; same_phase = phase };
          qualifies = qualifies;
        },
        below_two,
      ))

  redesignation_back : (new designated lower run : ℕ) → Back (Redesignation new) designated lower run (after_redesignation table state new)
  unfolding restarted
  redesignation_back new designated lower run =
      redesignation_by table state new (Back (Redesignation new) designated lower run)
      (λ keeps. none_back (Redesignation new) state.phase designated lower run _ refl)
      (λ other. unfold without_run in none_back (Redesignation new) Designated designated lower run _ refl)

  one_back : (entry : Entry) (designated lower run : ℕ) → Back entry designated lower run (next table state entry)
  unfolding next after_break restarted
  one_back (UnitRecord unit) designated lower run = unit_back unit designated lower run
  one_back (Redesignation new) designated lower run = redesignation_back new designated lower run
  one_back Break designated lower run = none_back Break state.phase designated lower run _ refl

-- ---- the finished run

pub record FinishedRun (sheet : Sheet) (i : ℕ) : Type 0 where
  pub start : ℕ
  pub designated : ℕ
  pub lower : ℕ
  pub first : Qualifying sheet.table (before sheet start) (sheet.entry start) designated lower 0
  pub second : Qualifying sheet.table (before sheet (suc start)) (sheet.entry (suc start)) designated lower 1
  pub third : Qualifying sheet.table (before sheet (suc (suc start))) (sheet.entry (suc (suc start))) designated lower 2
  pub ends_here : i ≡ suc (suc start)

module _ (sheet : Sheet) where
  back : (i designated lower run : ℕ) → InStepThree (before sheet i) designated lower (suc run)
      → (j : ℕ) × (i ≡ suc j) × Qualifying sheet.table (before sheet j) (sheet.entry j) designated lower run × (run < 2)
  unfolding before restarted
  back zero designated lower run inside =
      let phase : Designated ≡ StepThree lower (suc run) = inside.same_phase in absurd cc
  back (suc j) designated lower run inside =
      let (qualifying, below_two) = one_back sheet.table (before sheet j) (sheet.entry j) designated lower run inside in
      (j, refl, qualifying, below_two)

  -- a unit at which step 3 ends qualifies, after two or more in a row
  ends_after : (phase : Phase) (qualifies : Bool) → ends_step_three phase qualifies ≡ true
      → (lower : ℕ) × (run : ℕ) × (phase ≡ StepThree lower run) × (2 ≤ run) × (qualifies ≡ true)
  unfolding ends_step_three
  ends_after Designated qualifies ends = cc
  ends_after (StepThree lower run) false ends = cc
  ends_after (StepThree lower run) true ends = (lower, run, refl, leb-true 2 run ends, refl)

  ends_unit : (state : State) (entry : Entry) → record_ends_step_three sheet.table state entry ≡ true
      → (designated : ℕ) × (lower : ℕ) × (run : ℕ) × (2 ≤ run) × Qualifying sheet.table state entry designated lower run
  unfolding record_ends_step_three
  ends_unit state entry ends =
      let (unit, is_unit, ends_here) = unit_that (λ unit. ends_step_three state.phase (qualifies_in sheet.table state unit)) entry ends in
      let (lower, run, phase, two, qualifies) = ends_after state.phase (qualifies_in sheet.table state unit) ends_here in (
        state.designated,
        lower,
        run,
        two,
        record { unit = unit; is_unit = is_unit; in_step_three_holds = record { same_designated = refl; same_phase = phase }; qualifies = qualifies },
      )

  -- the run never grows beyond two before the unit that ends step 3
  pub run_at_most_two : (i d l n : ℕ) → InStepThree (before sheet i) d l n → n ≤ 2
  run_at_most_two i d l zero h = omega arith
  run_at_most_two i d l (suc n) h = let (j, e, q, b) = back i d l n h in omega arith

  pub finished_run : (i : ℕ) → step_three_ends_at sheet i ≡ true → FinishedRun sheet i
  unfolding step_three_ends_at
  finished_run i e = go (ends_unit (before sheet i) (sheet.entry i) e)
    where
      go : (d : ℕ) × (l : ℕ) × (n : ℕ) × (2 ≤ n) × Qualifying sheet.table (before sheet i) (sheet.entry i) d l n → FinishedRun sheet i
      go (d, l, n, two, q) =
          let exact : n ≡ 2 = omega (arith, run_at_most_two i d l n q.in_step_three_holds) in
          let third : Qualifying sheet.table (before sheet i) (sheet.entry i) d l 2 = rw exact at q in
          let (j, ej, second, b) = back i d l 1 third.in_step_three_holds in
          let (k, ek, first, c) = back j d l 0 second.in_step_three_holds in
          record {
            start = k;
            designated = d;
            lower = l;
            first = first;
            second = rw ek at second;
            third = rw (ej, ek) at third;
            ends_here = ej ∙ ap suc ek;
          }

-- ---- 'recovered' is what the paper says

-- record i is one of the records of a finished run
pub record InRun (sheet : Sheet) (i : ℕ) : Type 0 where
  pub last : ℕ
  pub run : FinishedRun sheet last
  pub ends : step_three_ends_at sheet last ≡ true
  pub from : run.start ≤ i
  pub to : i ≤ last

module _ (sheet : Sheet) (i : ℕ) where
  run_at : (j : ℕ) → step_three_ends_at sheet j ≡ true → i ≤ j → j ≤ i + 2 → InRun sheet i
  run_at j e h k =
      let run = finished_run sheet j e in
      record { last = j; run = run; ends = e; from = omega (arith, run.ends_here); to = h }

  -- the definition's three places are the three records of a finished run
  pub in_run : in_finished_run sheet i ≡ true → InRun sheet i
  unfolding in_finished_run
  in_run e = go (step_three_ends_at sheet i) refl (step_three_ends_at sheet (i + 1)) refl (step_three_ends_at sheet (i + 2)) refl e
    where
      go : (a : Bool) → step_three_ends_at sheet i ≡ a → (b : Bool) → step_three_ends_at sheet (i + 1) ≡ b
          → (c : Bool) → step_three_ends_at sheet (i + 2) ≡ c → (a || (b || c)) ≡ true → InRun sheet i
      go true e b f c g h = run_at i e (omega arith) (omega arith)
      go false e true f c g h = run_at (i + 1) f (omega arith) (omega arith)
      go false e false f true g h = run_at (i + 2) g (omega arith) (omega arith)
      go false e false f false g h = cc

  -- and every record of a finished run is at one of the three
  pub run_in : InRun sheet i → in_finished_run sheet i ≡ true
  unfolding in_finished_run
  run_in r = go (leb r.last i) refl (leb r.last (i + 1)) refl
    where
      go : (s : Bool) → leb r.last i ≡ s → (t : Bool) → leb r.last (i + 1) ≡ t
          → (step_three_ends_at sheet i || (step_three_ends_at sheet (i + 1) || step_three_ends_at sheet (i + 2))) ≡ true
      go true p t q =
          let e : r.last ≡ i = omega (arith, leb-true r.last i p, r.to) in
          or_left (step_three_ends_at sheet i) _ (sym (ap (step_three_ends_at sheet) e) ∙ r.ends)
      go false p true q =
          let e : r.last ≡ i + 1 = omega (arith, leb-false r.last i p, leb-true r.last (i + 1) q) in
          or_right (step_three_ends_at sheet i) _ (or_left (step_three_ends_at sheet (i + 1)) _ (sym (ap (step_three_ends_at sheet) e) ∙ r.ends))
      go false p false q =
          let e : r.last ≡ i + 2 = omega (arith, leb-false r.last (i + 1) q, r.run.ends_here, r.from) in
          or_right (step_three_ends_at sheet i) _ (or_right (step_three_ends_at sheet (i + 1)) _ (sym (ap (step_three_ends_at sheet) e) ∙ r.ends))

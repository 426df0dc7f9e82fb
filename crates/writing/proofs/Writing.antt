-- The writing of one unit: its grading and its result record are those of the sheet, there is room for the record, and what the
-- buffer holds behind it. Where the writing stands, the walk's place and the state are those before the unit's record.
use Prim.Native.Nat.{ℕ, suc, ◌+◌, ◌*◌, ◌-◌, ◌≤◌}
use mathlib.Core.Path.{◌≡◌, refl, sym, ◌∙◌, ap, ap₂, subst⁻¹}
use mathlib.Core.Bool.{Bool, true, false, ◌&&◌}
use mathlib.Core.List.{List}
use native.Mathlib.Omega.{arith}
use lib.ListN.{length}
use lib.Seq.{sets}
use Rattle.std.proofs.Common.{Some}
use Rattle.units.specs.Words.{has_plan, Table, tenths_of}
use Rattle.units.specs.Unit.{defect_grade, qualifies, grading_of, stepped_under}
use Rattle.units.specs.Records.{is_unit_that, units_among}
use Rattle.units.specs.declared.SampleUnit.{SampleUnit}
use Rattle.units.specs.declared.SteppedClasses.{SteppedClasses}
use Rattle.units.specs.declared.Grading.{Grading}
use Rattle.units.specs.declared.Entry.TheVariants.{UnitRecord}
use Rattle.rules.specs.StepThree.{in_step_three, in_force_in, in_force, ends_step_three, graded, qualifies_with, qualifies_in, after_unit, next, record_ends_step_three}
use Rattle.rules.specs.Sheet.{Sheet, before, designated_at, step_three_ends_at}
use Rattle.rules.specs.declared.Phase.{Phase}
use Rattle.rules.specs.declared.Phase.TheVariants.{Designated}
use Rattle.rules.specs.declared.State.{State}
use Rattle.rules.proofs.FinishedRun.{FinishedRun, finished_run}
use Rattle.layout.specs.Layout.{unit_size, size_of, mark_at, sample_unit_at, offset, mark, units_before}
use Rattle.layout.specs.declared.Mark.TheVariants.{UnitMark}
use Rattle.layout.specs.declared.Place.{Place}
use Rattle.layout.proofs.Walk.{at_is, units_are, whole_here}
use Rattle.layout.proofs.Units.{entry_unit, unit_mark, next_offset, next_units, units_among_holds}
use Rattle.results.specs.Record.{result_size, result_bytes}
use Rattle.results.specs.declared.ResultRecord.{ResultRecord}
use Rattle.codes.specs.Codes.{ungraded}
use Rattle.recording.specs.Sheet.{sheet_of, result_with, result_if}
use Rattle.recording.specs.Recovering.{written_at, written_so_far, recovered_in, ThreeHere, three_recovered}
use Rattle.single_plan.specs.SinglePlan.{result_under}
use Rattle.single_plan.specs.declared.Reached.{Reached}
use Rattle.single_plan.proofs.Passing.{result_outside}
use Rattle.writing.specs.Writing.{UnitHere, OneMore}
use Rattle.single_plan.specs.Passing.{grading_by}
use Rattle.recording.proofs.Recovering.{unit_written, nothing_recovered, run_recovered}

-- ---- the grading of a unit, as the code makes it

-- under the designated plan
graded_designated : (table : Table) (state : State) (unit : SampleUnit) → state.phase ≡ Designated
    → grading_of table state.designated state.cusums (tenths_of unit) ≡ graded table state unit
unfolding graded in_force_in
graded_designated table state unit outside = rw outside

-- in step 3
graded_lower : (table : Table) (state : State) (unit : SampleUnit) (stepped : SteppedClasses) (lower : ℕ) → lower ≡ in_force state
    → stepped ≡ stepped_under table lower state.cusums (tenths_of unit) → grading_by table lower unit stepped ≡ graded table state unit
unfolding graded defect_grade
graded_lower table state unit stepped lower in_force_holds steps = rw (steps, in_force_holds)

-- ---- the state behind it

-- outside step 3 no unit qualifies, in it one does by its CuSums and its counts
outside_none : (table : Table) (state : State) (unit : SampleUnit) → state.phase ≡ Designated → false ≡ qualifies_in table state unit
unfolding qualifies_with in_step_three
outside_none table state unit outside =
    sym (ap (λ (phase : Phase). in_step_three phase && qualifies table state.designated (graded table state unit).cusums (tenths_of unit)) outside)

inside_test : (table : Table) (state : State) (unit : SampleUnit) (grading : Grading) → in_step_three state.phase ≡ true
    → grading ≡ graded table state unit
    → qualifies table state.designated grading.cusums (tenths_of unit) ≡ qualifies_in table state unit
unfolding qualifies_with
inside_test table state unit grading inside grades =
    ap (λ (g : Grading). qualifies table state.designated g.cusums (tenths_of unit)) grades
    ∙ sym (ap (λ (b : Bool). b && qualifies table state.designated (graded table state unit).cusums (tenths_of unit)) inside)

next_by : (table : Table) (state : State) (unit : SampleUnit) (grading : Grading) (qualifying : Bool) (after : State) → grading ≡ graded table state unit
    → qualifying ≡ qualifies_in table state unit → after ≡ after_unit table state grading qualifying → after ≡ next table state (UnitRecord unit)
unfolding next
next_by table state unit grading qualifying after grades tests is_after = is_after ∙ ap₂ (after_unit table state) grades tests

-- ---- at a unit

module _ {bytes : List ℕ} {n : ℕ} {table : Table} {place : Place} {state : State} {unit : SampleUnit} {size : ℕ}
    (here : UnitHere bytes n table place state unit size) where
  abbrev sheet : Sheet
  sheet = sheet_of bytes n

  abbrev i : ℕ
  i = place.index

  has_mark : mark bytes i ≡ Some UnitMark
  has_mark = unit_mark bytes i unit here.is_unit

  unit_in_sheet : sheet.entry i ≡ UnitRecord unit
  unfolding sheet_of
  unit_in_sheet = here.is_unit

  units_here : result_size * place.units ≡ result_size * units_among sheet.entry i
  unfolding sheet_of
  units_here = ap (λ (units : ℕ). result_size * units) (units_are bytes n place here.stands.walk ∙ units_among_holds bytes i)

  room_in_sheet : result_size * units_among sheet.entry (suc i) ≤ size
  unfolding sheet_of
  room_in_sheet = omega (arith, here.room, units_among_holds bytes (suc i))

  -- its designated grade has a plan, and there is room for its record
  pub planned_here : has_plan state.designated ≡ true
  planned_here = here.stands.planned

  pub room_for_record : result_size * place.units + result_size ≤ size
  room_for_record = omega (arith, here.room, next_units bytes i has_mark, units_are bytes n place here.stands.walk)

  -- it is graded as the sheet has it, and so is what is recorded of it
  result_is : (grading : Grading) → grading ≡ graded table state unit → result_with state unit grading false ≡ result_if sheet i unit false
  unfolding sheet_of
  result_is grading grades =
      ap (λ (g : Grading). result_with state unit g false) grades
      ∙ ap₂ (λ (t : Table) (s : State). result_with s unit (graded t s unit) false) here.stands.same_table here.stands.same_state

  ends_is : step_three_ends_at sheet i ≡ ends_step_three state.phase (qualifies_in table state unit)
  unfolding step_three_ends_at record_ends_step_three is_unit_that sheet_of
  ends_is =
      ap (record_ends_step_three sheet.table (before sheet i)) unit_in_sheet
      ∙ sym (ap₂ (λ (t : Table) (s : State). ends_step_three s.phase (qualifies_in t s unit)) here.stands.same_table here.stands.same_state)

  module _ (grading : Grading) (grades : grading ≡ graded table state unit) (results behind : List ℕ) (same_size : length results ≡ size)
      (stored : behind ≡ sets results (result_size * place.units) (result_bytes ungraded (result_with state unit grading false))) where
    -- its record is added
    record_added : (old : List ℕ) → results ≡ written_so_far sheet old i → length old ≡ length results → behind ≡ written_at sheet old i (suc i)
    record_added old so_far same_length =
        stored
        ∙ ap₂ (λ (l : List ℕ) (at : ℕ). sets l at (result_bytes ungraded (result_with state unit grading false))) so_far units_here
        ∙ ap (λ (r : ResultRecord). sets (written_so_far sheet old i) (result_size * units_among sheet.entry i) (result_bytes ungraded r))
        (result_is grading grades)
        ∙ unit_written sheet old i unit unit_in_sheet (omega (arith, room_in_sheet))

    -- where step 3 does not end at it, that is all
    unit_added : step_three_ends_at sheet i ≡ false → OneMore sheet i results behind
    unit_added stays old so_far same_length = record_added old so_far same_length ∙ nothing_recovered sheet old i stays

    -- under the designated plan
    designated_done : state.phase ≡ Designated → OneMore sheet i results behind
    unfolding ends_step_three
    designated_done outside = unit_added (ends_is ∙ ap (λ (phase : Phase). ends_step_three phase (qualifies_in table state unit)) outside)

    -- in step 3, where it does not end
    pub step_three_goes_on : ends_step_three state.phase (qualifies_in table state unit) ≡ false → OneMore sheet i results behind
    step_three_goes_on going_on = unit_added (ends_is ∙ going_on)

  -- ---- where step 3 ends at it, the two units right before it are those of the finished run

  module _ (ends : ends_step_three state.phase (qualifies_in table state unit) ≡ true) where
    run : FinishedRun sheet i
    run = finished_run sheet i (ends_is ∙ ends)

    abbrev k : ℕ
    k = run.start

    mark_first : mark bytes k ≡ Some UnitMark
    unfolding sheet_of
    mark_first = unit_mark bytes k run.first.unit run.first.is_unit

    mark_second : mark bytes (suc k) ≡ Some UnitMark
    unfolding sheet_of
    mark_second = unit_mark bytes (suc k) run.second.unit run.second.is_unit

    at_second : place.at ≡ offset bytes (suc k) + unit_size
    at_second = at_is bytes n place here.stands.walk ∙ ap (offset bytes) run.ends_here ∙ next_offset bytes (suc k) mark_second

    at_first : place.at ≡ offset bytes k + unit_size + unit_size
    at_first = at_second ∙ ap (λ (at : ℕ). at + unit_size) (next_offset bytes k mark_first)

    units_second : place.units ≡ units_before bytes (suc k) + 1
    units_second = units_are bytes n place here.stands.walk ∙ ap (units_before bytes) run.ends_here ∙ next_units bytes (suc k) mark_second

    units_first : place.units ≡ units_before bytes k + 1 + 1
    units_first = units_second ∙ ap (λ (units : ℕ). units + 1) (next_units bytes k mark_first)

    pub three_here : ThreeHere bytes place size
    unfolding size_of
    three_here =
        let whole = whole_here bytes n place here.stands.walk here.stands.before_end in
        let same : mark_at bytes place.at ≡ Some UnitMark = ap (mark_at bytes) (at_is bytes n place here.stands.walk) ∙ has_mark in
        record {
          two_before = omega (arith, at_first);
          whole = omega (arith, whole, ap size_of same);
          two_results = omega (arith, units_first);
          room = room_for_record;
        }

    -- the three share the designated grade
    same_designated : (state.designated ≡ designated_at sheet k)
        × (state.designated ≡ designated_at sheet (suc k)) × (state.designated ≡ designated_at sheet (suc (suc k)))
    same_designated =
        let third : state.designated ≡ designated_at sheet (suc (suc k))
        = ap (λ (s : State). s.designated) here.stands.same_state ∙ ap (λ (j : ℕ). designated_at sheet j) run.ends_here in
        let last = third ∙ run.third.in_step_three_holds.same_designated in
        (last ∙ sym run.first.in_step_three_holds.same_designated, last ∙ sym run.second.in_step_three_holds.same_designated, third)

    -- a result record of the run, by the units before it
    start_of : (j : ℕ) → result_size * units_before bytes j ≡ result_size * units_among sheet.entry j
    unfolding sheet_of
    start_of j = ap (λ (units : ℕ). result_size * units) (units_among_holds bytes j)

    in_sheet : (j : ℕ) → mark bytes j ≡ Some UnitMark → sheet.entry j ≡ UnitRecord (sample_unit_at bytes (offset bytes j))
    unfolding sheet_of
    in_sheet j is_unit = entry_unit bytes j is_unit

    mark_third : mark bytes (suc (suc k)) ≡ Some UnitMark
    mark_third = sym (ap (mark bytes) run.ends_here) ∙ has_mark

    pub step_three_ends : (grading : Grading) → grading ≡ graded table state unit → (results added behind : List ℕ) → length results ≡ size
        → added ≡ sets results (result_size * place.units) (result_bytes ungraded (result_with state unit grading false))
        → behind ≡ three_recovered bytes place state.designated added → OneMore sheet i results behind
    unfolding three_recovered
    step_three_ends grading grades results added behind same_size stored recovers old so_far same_length =
        let (first, second, third) = same_designated in
        let start = result_size * place.units in
        let at_third : place.at ≡ offset bytes (suc (suc k)) = at_is bytes n place here.stands.walk ∙ ap (offset bytes) run.ends_here in
        let one_before : place.at - unit_size ≡ offset bytes (suc k) = omega (arith, at_second) in
        let two_before : place.at - 2 * unit_size ≡ offset bytes k = omega (arith, at_first) in
        let start_third : start ≡ result_size * units_among sheet.entry (suc (suc k))
        = units_here ∙ ap (λ (j : ℕ). result_size * units_among sheet.entry j) run.ends_here in
        let start_second : start - result_size ≡ result_size * units_among sheet.entry (suc k) = omega (arith, units_second, start_of (suc k)) in
        let start_first : start - 2 * result_size ≡ result_size * units_among sheet.entry k = omega (arith, units_first, start_of k) in
        let written_here : added ≡ written_at sheet old (suc (suc k)) (suc (suc (suc k)))
        = record_added grading grades results added same_size stored old so_far same_length
        ∙ ap (λ (j : ℕ). written_at sheet old j (suc j)) run.ends_here in
        recovers
        ∙ recovered_at (recovered_at (recovered_at written_here start_first two_before) start_second one_before) start_third at_third
        ∙ run_recovered sheet k (sym (ap (step_three_ends_at sheet) run.ends_here) ∙ ends_is ∙ ends) state.designated
        (sample_unit_at bytes (offset bytes k)) (sample_unit_at bytes (offset bytes (suc k))) (sample_unit_at bytes (offset bytes (suc (suc k))))
        (in_sheet k mark_first) (in_sheet (suc k) mark_second) (in_sheet (suc (suc k)) mark_third) first second third old
        ∙ ap (λ (j : ℕ). written_so_far sheet old (suc j)) (sym run.ends_here)
      where
        recovered_at : {l l' : List ℕ} {start start' at at' : ℕ} → l ≡ l' → start ≡ start' → at ≡ at'
            → recovered_in l start state.designated (sample_unit_at bytes at) ≡ recovered_in l' start' state.designated (sample_unit_at bytes at')
        recovered_at same_list same_start same_offset = rw (same_list, same_start, same_offset)

-- ---- a unit written, as the code does it: the state behind it, and the buffer

-- under the designated plan, whether it fails or meets
pub unit_under_designated : {bytes : List ℕ} {n : ℕ} {table : Table} {place : Place} {state : State} {unit : SampleUnit} (results : List ℕ)
    → UnitHere bytes n table place state unit (length results) → state.phase ≡ Designated
    → {grading : Grading} → grading ≡ grading_of table state.designated state.cusums (tenths_of unit)
    → {result : ResultRecord} → result ≡ result_with state unit grading false
    → {behind : List ℕ} → behind ≡ sets results (result_size * place.units) (result_bytes ungraded result)
    → {after : State} → after ≡ after_unit table state grading false
    → (after ≡ next table state (UnitRecord unit)) × OneMore (sheet_of bytes n) place.index results behind
unit_under_designated {bytes} {n} {table} {place} {state} {unit} results here outside {grading} is_grading {result} is_result {behind} stored {after} is_after =
    let grades : grading ≡ graded table state unit = is_grading ∙ graded_designated table state unit outside in
    let same_result = ap (λ (r : ResultRecord). sets results (result_size * place.units) (result_bytes ungraded r)) is_result in (
      next_by table state unit grading false after grades (outside_none table state unit outside) is_after,
      designated_done here grading grades results behind refl (stored ∙ same_result) outside,
    )

-- as the pass of `single_plan` writes it, from the place and its CuSums on
pub unit_by_plan : {bytes : List ℕ} {n : ℕ} {table : Table} {place : Place} {state : State} {unit : SampleUnit} (results : List ℕ)
    → UnitHere bytes n table place state unit (length results) → state.phase ≡ Designated
    → {reached : Reached} → reached ≡ record { place = place; cusums = state.cusums }
    → {grading : Grading} → grading ≡ grading_of table state.designated reached.cusums (tenths_of unit)
    → {behind : List ℕ} → behind ≡ sets results (result_size * reached.place.units)
    (result_bytes ungraded (result_under state.designated unit (grading_of table state.designated reached.cusums (tenths_of unit))))
    → {after : State} → after ≡ after_unit table state grading false
    → (after ≡ next table state (UnitRecord unit)) × OneMore (sheet_of bytes n) place.index results behind
unit_by_plan {table = table} {state = state} {unit = unit} results here outside {reached} is_reached {grading} is_grading stored is_after =
    let by_plan : grading ≡ grading_of table state.designated state.cusums (tenths_of unit) = rw is_reached at is_grading in
    unit_under_designated results here outside by_plan
    (ap (result_under state.designated unit) (sym by_plan) ∙ sym (result_outside state unit grading outside)) (rw is_reached at stored) is_after

-- in step 3: its grading and whether it qualifies are those of the state
module _ {bytes : List ℕ} {n : ℕ} {table : Table} {place : Place} {state : State} {unit : SampleUnit} (results : List ℕ)
    (here : UnitHere bytes n table place state unit (length results)) (inside : in_step_three state.phase ≡ true)
    {lower : ℕ} (is_lower : lower ≡ in_force state) {stepped : SteppedClasses}
    (steps : stepped ≡ stepped_under table lower state.cusums (tenths_of unit))
    {grading : Grading} (is_grading : grading ≡ grading_by table lower unit stepped)
    {qualifying : Bool} (tests : qualifying ≡ qualifies table state.designated grading.cusums (tenths_of unit)) where
  grades : grading ≡ graded table state unit
  grades = is_grading ∙ graded_lower table state unit stepped lower is_lower steps

  qualifies_is : qualifying ≡ qualifies_in table state unit
  qualifies_is = tests ∙ inside_test table state unit grading inside grades

  pub state_behind : {after : State} → after ≡ after_unit table state grading qualifying
      → after ≡ next table state (UnitRecord unit)
  state_behind {after} is_after = next_by table state unit grading qualifying after grades qualifies_is is_after

  ends_as_tested : {test : Bool} → test ≡ ends_step_three state.phase qualifying → ends_step_three state.phase (qualifies_in table state unit) ≡ test
  ends_as_tested is_test = sym (is_test ∙ ap (ends_step_three state.phase) qualifies_is)

  -- in a buffer of the same size
  pub three_to_recover : {test : Bool} → test ≡ ends_step_three state.phase qualifying → test ≡ true → (size : ℕ) → size ≡ length results
      → ThreeHere bytes place size
  three_to_recover is_test ends size same_size =
      subst⁻¹ (ThreeHere bytes place) same_size (three_here here (ends_as_tested is_test ∙ ends))

  module _ {result : ResultRecord} (is_result : result ≡ result_with state unit grading false) {added : List ℕ}
      (stored : added ≡ sets results (result_size * place.units) (result_bytes ungraded result))
      {test : Bool} (is_test : test ≡ ends_step_three state.phase qualifying) where
    stored_as : added ≡ sets results (result_size * place.units) (result_bytes ungraded (result_with state unit grading false))
    stored_as = stored ∙ ap (λ (r : ResultRecord). sets results (result_size * place.units) (result_bytes ungraded r)) is_result

    pub written_going_on : test ≡ false → OneMore (sheet_of bytes n) place.index results added
    written_going_on going_on = step_three_goes_on here grading grades results added refl stored_as (ends_as_tested is_test ∙ going_on)

    pub written_at_end : test ≡ true → {behind : List ℕ} → behind ≡ three_recovered bytes place state.designated added
        → OneMore (sheet_of bytes n) place.index results behind
    written_at_end ends {behind} recovers = step_three_ends here (ends_as_tested is_test ∙ ends) grading grades results added behind refl stored_as recovers

-- Records passed under one plan: what is recorded of a unit outside step 3 is `result_under`, the step in every class gives the grading of a
-- unit, and past one record more the passing has gone on by it. From the walk over the records; what a record does is a case of `Passed`.
use Prim.Native.Nat.{ℕ, suc, ◌+◌, ◌*◌, ◌≤◌, ◌<◌}
use mathlib.Core.Path.{◌≡◌, refl, sym, ◌∙◌, ap, ap₂, subst, subst₂, subst⁻¹}
use mathlib.Core.Bool.{Bool, true, false, cond, false≢true}
use mathlib.Core.List.{List}
use native.Mathlib.Numerals.{add-one}
use native.Mathlib.Omega.{arith}
use lib.ListN.{length}
use lib.Seq.{sets, length-sets}
use Rattle.std.proofs.Common.{Option}
use Rattle.cusum.specs.declared.PlanNumbers.{PlanNumbers}
use Rattle.cusum.specs.declared.Cusum.{Cusum}
use Rattle.units.specs.Words.{has_plan, Table, row_of, tenths_of, no_overshoots}
use Rattle.units.specs.Unit.{portion_grade_of, starting, new_cusums, unit_fails, best_lower, defect_grade, grading_of, stepped_in}
use Rattle.units.specs.declared.SampleUnit.{SampleUnit}
use Rattle.units.specs.declared.SteppedClasses.{SteppedClasses}
use Rattle.units.specs.declared.Grading.{Grading}
use Rattle.units.specs.declared.Entry.{Entry}
use Rattle.units.specs.declared.Entry.TheVariants.{UnitRecord, Redesignation, Break}
use Rattle.units.proofs.Planned.{stepped_under_holds, none_over}
use Rattle.rules.specs.StepThree.{in_force_in}
use Rattle.rules.specs.Sheet.{standing_of}
use Rattle.rules.specs.declared.Phase.TheVariants.{Designated}
use Rattle.rules.specs.declared.State.{State}
use Rattle.layout.specs.Layout.{mark_size, mark_at, size_of, entry_of, entry_at, units_before}
use Rattle.layout.specs.Walk.{place_after, Walk, largest_offset, RoomPast}
use Rattle.layout.specs.declared.Mark.{Mark}
use Rattle.layout.specs.declared.Place.{Place}
use Rattle.layout.proofs.Walk.{units_are, mark_here, whole_here, entry_is, walk_on, room_past}
use Rattle.layout.proofs.Units.{unit_mark, next_units, units_mono}
use Rattle.results.specs.Record.{result_size, result_bytes}
use Rattle.codes.specs.Codes.{ungraded}
use Rattle.recording.specs.Sheet.{result_with}
use Rattle.single_plan.specs.SinglePlan.{result_under}
use Rattle.single_plan.specs.Passing.{grading_by, Passed, none, unit, restart, over, Passable, Further}
use Rattle.single_plan.specs.declared.Reached.{Reached}

-- ---- a unit

-- outside step 3 the designated plan is in force, and the standing is 0 or 1
pub result_outside : (state : State) (here : SampleUnit) (grading : Grading) → state.phase ≡ Designated
    → result_with state here grading false ≡ result_under state.designated here grading
unfolding result_with result_under portion_grade_of in_force_in standing_of
result_outside state here grading outside = rw outside

-- its grading, under a grade that has a plan
grading_is : (table : Table) (grade : ℕ) (cusums : List Cusum) (here : SampleUnit) {stepped : SteppedClasses} → has_plan grade ≡ true
    → stepped ≡ stepped_in (row_of table grade) cusums (tenths_of here) → grading_by table grade here stepped ≡ grading_of table grade cusums (tenths_of here)
unfolding defect_grade
grading_is table grade cusums here planned steps = rw (steps, stepped_under_holds table grade cusums (tenths_of here) planned)

-- as the code makes it, by the row of the grade
pub stepped_grading : (table : Table) (grade : ℕ) (cusums : List Cusum) (here : SampleUnit) {row : List PlanNumbers} {stepped : SteppedClasses} {grading : Grading}
    → has_plan grade ≡ true → row ≡ row_of table grade → stepped ≡ stepped_in row cusums (tenths_of here) → grading ≡ grading_by table grade here stepped
    → grading ≡ grading_of table grade cusums (tenths_of here)
stepped_grading table grade cusums here planned is_row by_row is_grading =
    is_grading ∙ grading_is table grade cusums here planned (by_row ∙ ap (λ (r : List PlanNumbers). stepped_in r cusums (tenths_of here)) is_row)

-- of one that meets: where no class fails none is over
pub met_is : (table : Table) (grade : ℕ) (cusums : List Cusum) (here : SampleUnit) {row : List PlanNumbers} {stepped : SteppedClasses} → has_plan grade ≡ true
    → row ≡ row_of table grade → stepped ≡ stepped_in row cusums (tenths_of here) → stepped.fails ≡ false
    → record { cusums = stepped.cusums; overshoots = no_overshoots; fails = false; grade = grade } ≡ grading_of table grade cusums (tenths_of here)
met_is table grade cusums here {row} {stepped} planned is_row by_row meets =
    let steps = by_row ∙ ap (λ (r : List PlanNumbers). stepped_in r cusums (tenths_of here)) is_row in
    let none_is : stepped.overshoots ≡ no_overshoots
    = ap (λ (s : SteppedClasses). s.overshoots) by_row
    ∙ none_over row cusums (tenths_of here) (sym (ap (λ (s : SteppedClasses). s.fails) by_row) ∙ meets) in
    ap₂ (λ (over : List ℕ) (failed : Bool). record {
      cusums = stepped.cusums;
      overshoots = over;
      fails = failed;
      grade = cond failed (best_lower table grade (tenths_of here)) grade;
    }) (sym none_is) (sym meets)
    ∙ grading_is table grade cusums here planned steps

-- ---- the record at a place

module _ {bytes : List ℕ} {n : ℕ} {place : Place} (walk : Walk bytes n place) (below : place.index < n) where
  pub mark_within : place.at + mark_size ≤ length bytes
  mark_within = mark_here bytes n place walk below

  module _ {m : Option Mark} (is_mark : m ≡ mark_at bytes place.at) where
    pub record_within : place.at + size_of m ≤ length bytes
    record_within = subst⁻¹ (λ (x : Option Mark). place.at + size_of x ≤ length bytes) is_mark (whole_here bytes n place walk below)

    entry_by : {read entry : Entry} → read ≡ entry_of bytes place.at m → read ≡ entry → entry_at bytes place.index ≡ entry
    entry_by is_read is_entry = sym (entry_is bytes n place walk below) ∙ ap (entry_of bytes place.at) (sym is_mark) ∙ sym is_read ∙ is_entry

    pub fits_past : length bytes ≤ largest_offset → RoomPast place m
    fits_past fits = subst⁻¹ (RoomPast place) is_mark (room_past bytes n place walk below fits)

    pub walk_past : {past : Place} → past ≡ place_after place m → Walk bytes n past
    walk_past {past} is_past = walk_on bytes n place walk below past (is_past ∙ ap (place_after place) is_mark)

    -- there is room for the result record of a unit where there is for all
    pub room_for_record : {read : Entry} → read ≡ entry_of bytes place.at m → {here : SampleUnit} → read ≡ UnitRecord here
        → {size : ℕ} → result_size * units_before bytes n ≤ size → result_size * place.units + result_size ≤ size
    room_for_record is_read {here} is_unit room =
        omega (
          arith,
          room,
          units_are bytes n place walk,
          next_units bytes place.index (unit_mark bytes place.index here (entry_by is_read is_unit)),
          units_mono bytes (suc place.index) n (omega arith),
        )

-- ---- past one record more

module _ {bytes : List ℕ} {n : ℕ} {table : Table} {designated : ℕ} {stops : Bool} {start : Reached} {results₀ : List ℕ}
    {place : Place} {cusums : List Cusum} {results : List ℕ}
    (so_far : Further bytes n table designated stops start results₀ (record { place = place; cusums = cusums }) results) (below : place.index < n)
    {m : Option Mark} (is_mark : m ≡ mark_at bytes place.at) {past : Place} (is_past : past ≡ place_after place m)
    {read : Entry} (is_read : read ≡ entry_of bytes place.at m) where
  goes_on : {later : List Cusum} {behind : List ℕ}
      → Passed bytes table designated stops start.place.index start.cusums results₀ (suc place.index) later behind
      → length behind ≡ length results → Further bytes n table designated stops start results₀ (record { place = past; cusums = later }) behind
  goes_on {later} {behind} passed same =
      record {
        walk = walk_past so_far.walk below is_mark is_past;
        passed =
            subst (λ (i : ℕ). Passed bytes table designated stops start.place.index start.cusums results₀ i later behind)
            (sym (ap (λ (p : Place). p.index) is_past ∙ add-one place.index)) passed;
        same_length = same ∙ so_far.same_length;
      }

  -- a unit
  pub past_unit : {here : SampleUnit} → read ≡ UnitRecord here → {later : List Cusum} → later ≡ new_cusums table designated cusums (tenths_of here)
      → (stops ≡ true → unit_fails table designated cusums (tenths_of here) ≡ false)
      → {behind : List ℕ}
      → behind ≡ sets results (result_size * place.units) (result_bytes ungraded (result_under designated here (grading_of table designated cusums (tenths_of here))))
      → Further bytes n table designated stops start results₀ (record { place = past; cusums = later }) behind
  past_unit {here} is_unit is_later meets {behind} stored =
      let written = result_bytes ungraded (result_under designated here (grading_of table designated cusums (tenths_of here))) in
      goes_on
      (subst₂ (Passed bytes table designated stops start.place.index start.cusums results₀ (suc place.index)) (sym is_later)
      (sym (stored ∙ ap (λ (units : ℕ). sets results (result_size * units) written) (units_are bytes n place so_far.walk)))
      (unit place.index cusums results so_far.passed here (entry_by so_far.walk below is_mark is_read is_unit) meets))
      (ap length stored ∙ length-sets results (result_size * place.units) written)

  -- a redesignation, where the passing does not stop there
  pub past_redesignation : {new : ℕ} → read ≡ Redesignation new → stops ≡ false
      → Further bytes n table designated stops start results₀ (record { place = past; cusums = cusums }) results
  past_redesignation {new} is_redesignation passing =
      goes_on (over place.index cusums results so_far.passed new (entry_by so_far.walk below is_mark is_read is_redesignation) passing) refl

  -- a break
  pub past_break : read ≡ Break → {started : List Cusum} → started ≡ starting (row_of table designated)
      → Further bytes n table designated stops start results₀ (record { place = past; cusums = started }) results
  past_break is_break_holds is_started =
      goes_on
      (subst⁻¹ (λ (cs : List Cusum). Passed bytes table designated stops start.place.index start.cusums results₀ (suc place.index) cs results) is_started
      (restart place.index cusums results so_far.passed (entry_by so_far.walk below is_mark is_read is_break_holds)))
      refl

-- ---- past no record, and past so many more

pub further_none : {bytes : List ℕ} {n : ℕ} {table : Table} {designated : ℕ} {stops : Bool} {start : Reached} → Walk bytes n start.place
    → (results : List ℕ) → Further bytes n table designated stops start results start results
further_none walk results = record { walk = walk; passed = none; same_length = refl }

pub passed_le : {bytes : List ℕ} {table : Table} {designated : ℕ} {stops : Bool} {from : ℕ} {cusums₀ : List Cusum} {results₀ : List ℕ}
    {i : ℕ} {cusums : List Cusum} {results : List ℕ} → Passed bytes table designated stops from cusums₀ results₀ i cusums results → from ≤ i
passed_le none = omega arith
passed_le (unit i cusums results passed here reads meets) = omega (arith, passed_le passed)
passed_le (restart i cusums results passed reads) = omega (arith, passed_le passed)
passed_le (over i cusums results passed new reads passing) = omega (arith, passed_le passed)

-- records before which the passing does not stop are passed all the same where it never does
passed_any : {bytes : List ℕ} {table : Table} {designated : ℕ} {stops : Bool} {from : ℕ} {cusums₀ : List Cusum} {results₀ : List ℕ}
    {i : ℕ} {cusums : List Cusum} {results : List ℕ} → Passed bytes table designated stops from cusums₀ results₀ i cusums results
    → Passed bytes table designated false from cusums₀ results₀ i cusums results
passed_any none = none
passed_any (unit i cusums results passed here reads meets) = unit i cusums results (passed_any passed) here reads (λ stopping. absurd (false≢true stopping))
passed_any (restart i cusums results passed reads) = restart i cusums results (passed_any passed) reads
passed_any (over i cusums results passed new reads passing) = over i cusums results (passed_any passed) new reads refl

passed_on : {bytes : List ℕ} {table : Table} {designated : ℕ} {from : ℕ} {cusums₀ : List Cusum} {results₀ : List ℕ}
    {i : ℕ} {cusums : List Cusum} {results : List ℕ} → Passed bytes table designated false from cusums₀ results₀ i cusums results
    → {j : ℕ} {later : List Cusum} {behind : List ℕ} → Passed bytes table designated false i cusums results j later behind
    → Passed bytes table designated false from cusums₀ results₀ j later behind
passed_on so_far none = so_far
passed_on so_far (unit j later behind passed here reads meets) = unit j later behind (passed_on so_far passed) here reads meets
passed_on so_far (restart j later behind passed reads) = restart j later behind (passed_on so_far passed) reads
passed_on so_far (over j later behind passed new reads passing) = over j later behind (passed_on so_far passed) new reads passing

module _ {bytes : List ℕ} {n : ℕ} {table : Table} {designated : ℕ} {start : Reached} {results₀ : List ℕ} {here : Reached} {results : List ℕ}
    (so_far : Further bytes n table designated false start results₀ here results) where
  pub further_on : {stops : Bool} {later : Reached} {behind : List ℕ} → Further bytes n table designated stops here results later behind
      → Further bytes n table designated false start results₀ later behind
  further_on more =
      record {
        walk = more.walk;
        passed = passed_on so_far.passed (passed_any more.passed);
        same_length = more.same_length ∙ so_far.same_length;
      }

  -- with room for what is left
  pub passable_on : Passable bytes n designated start (length results₀) → Passable bytes n designated here (length results)
  passable_on passable = record { walk = so_far.walk; planned = passable.planned; room = omega (arith, passable.room, so_far.same_length) }

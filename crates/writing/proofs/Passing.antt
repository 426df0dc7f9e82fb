-- The writing goes past a record: what the record reads as, the place and the state behind it, and that a record which is no unit
-- writes nothing. A record has the size of the mark that it reads as; where there is none, that of a break.
use Prim.Native.Nat.{ℕ, suc, ◌+◌, ◌*◌, ◌≤◌, ◌<◌}
use mathlib.Core.Path.{◌≡◌, refl, sym, ◌∙◌, ap, ap₂, subst, subst⁻¹}
use mathlib.Core.Bool.{false}
use mathlib.Core.List.{List, ◌++◌}
use native.Mathlib.Numerals.{add-one}
use native.Mathlib.Omega.{arith}
use lib.ListN.{length, drop}
use Rattle.std.proofs.Common.{Option}
use Rattle.units.specs.Words.{Table, table_of}
use Rattle.units.specs.Records.{is_unit_that, units_of, units_among}
use Rattle.units.specs.declared.SampleUnit.{SampleUnit}
use Rattle.units.specs.declared.Entry.{Entry}
use Rattle.units.specs.declared.Entry.TheVariants.{UnitRecord, Redesignation, Break}
use Rattle.rules.specs.StepThree.{opening, next, record_ends_step_three}
use Rattle.rules.specs.Sheet.{Sheet, before, step_three_ends_at}
use Rattle.rules.specs.declared.State.{State}
use Rattle.layout.specs.Layout.{plan_of, mark_size, mark_at, size_of, entry_of, offset, entry_at, units_before}
use Rattle.layout.specs.Walk.{first_place, place_at, place_after, largest_offset, RoomPast}
use Rattle.layout.specs.declared.Mark.{Mark}
use Rattle.layout.specs.declared.Place.{Place}
use Rattle.layout.proofs.Walk.{mark_here, whole_here, entry_is, next_place, room_past}
use Rattle.layout.proofs.Units.{units_among_holds, units_mono}
use Rattle.results.specs.Record.{result_size}
use Rattle.results.specs.Written.{written}
use Rattle.codes.specs.Codes.{ungraded}
use Rattle.writing.specs.declared.Position.{Position}
use Rattle.recording.specs.Sheet.{sheet_of, result_of}
use Rattle.recording.specs.Recovering.{written_at, written_so_far}
use Rattle.writing.specs.Writing.{Stands, UnitHere, RecordHere, position_at, OneMore, Underway, Further}
use Rattle.writing.specs.Writable.{Writable}
use Rattle.recording.proofs.Recovering.{none_written, all_recovered}

no_unit_ends : (table : Table) (state : State) (entry : Entry) → units_of entry ≡ 0 → record_ends_step_three table state entry ≡ false
unfolding record_ends_step_three is_unit_that units_of
no_unit_ends table state (UnitRecord unit) none = absurd (omega arith)
no_unit_ends table state (Redesignation new) none = refl
no_unit_ends table state Break none = refl

module _ {bytes : List ℕ} {n : ℕ} {table : Table} {place : Place} {state : State} (stands : Stands bytes n table place state) where
  abbrev sheet : Sheet
  sheet = sheet_of bytes n

  abbrev i : ℕ
  i = place.index

  -- the mark is inside the sheet, and so is the record that it opens
  pub mark_inside : place.at + mark_size ≤ length bytes
  mark_inside = mark_here bytes n place stands.walk stands.before_end

  pub record_inside : {m : Option Mark} → m ≡ mark_at bytes place.at → place.at + size_of m ≤ length bytes
  record_inside {m} is_mark =
      subst⁻¹ (λ (x : Option Mark). place.at + size_of x ≤ length bytes) is_mark (whole_here bytes n place stands.walk stands.before_end)

  -- what is read at the place is the record
  pub read_here : {m : Option Mark} {entry read : Entry} → m ≡ mark_at bytes place.at → read ≡ entry_of bytes place.at m
      → read ≡ entry → entry_at bytes i ≡ entry
  read_here is_mark is_read same =
      sym (entry_is bytes n place stands.walk stands.before_end) ∙ ap (entry_of bytes place.at) (sym is_mark) ∙ sym is_read ∙ same

  module _ {entry : Entry} (reads : entry_at bytes i ≡ entry) where
    pub position_behind : {past : Place} {after : State} → past ≡ place_after place (mark_at bytes place.at) → after ≡ next table state entry
        → record { place = past; state = after } ≡ position_at bytes n (suc i)
    unfolding position_at before sheet_of
    position_behind is_past is_after =
        ap₂ (λ (p : Place) (s : State). record { place = p; state = s })
        (is_past ∙ next_place bytes n place stands.walk stands.before_end ∙ ap (place_at bytes) (add-one i))
        (is_after
        ∙ ap₂ (λ (t : Table) (s : State). next t s entry) stands.same_table stands.same_state
        ∙ ap (next sheet.table (before sheet i)) (sym reads))

    -- a record that is no unit
    pub nothing_more : units_of entry ≡ 0 → (results : List ℕ) → OneMore sheet i results results
    unfolding sheet_of step_three_ends_at
    nothing_more none results old so_far same_length =
        so_far
        ∙ none_written sheet old i (ap units_of reads ∙ none) (no_unit_ends sheet.table (before sheet i) (entry_at bytes i) (ap units_of reads ∙ none))

-- ---- a record, as the code reads it: its mark, what that makes of it, and which of the three it is

module _ {bytes : List ℕ} {n : ℕ} {table : Table} {place : Place} {state : State} {size : ℕ} (here : RecordHere bytes n table place state size)
    {m : Option Mark} (is_mark : m ≡ mark_at bytes place.at) {read : Entry} (is_read : read ≡ entry_of bytes place.at m) where
  abbrev reads : {entry : Entry} → read ≡ entry → entry_at bytes place.index ≡ entry
  reads same = read_here here.stands is_mark is_read same

  -- a unit, with room for its result record
  pub unit_here : {unit : SampleUnit} → read ≡ UnitRecord unit → UnitHere bytes n table place state unit size
  unit_here same = record { stands = here.stands; is_unit = reads same; room = here.room }

  -- the numbers of the place past it fit their type
  pub room_past_it : length bytes ≤ largest_offset → RoomPast place m
  room_past_it fits = subst⁻¹ (RoomPast place) is_mark (room_past bytes n place here.stands.walk here.stands.before_end fits)

  pub position_past_it : {entry : Entry} → read ≡ entry → {past : Place} {after : State}
      → past ≡ place_after place m → after ≡ next table state entry
      → record { place = past; state = after } ≡ position_at bytes n (suc place.index)
  position_past_it same is_past is_after =
      position_behind here.stands (reads same) (is_past ∙ ap (place_after place) is_mark) is_after

  pub nothing_written : {entry : Entry} → read ≡ entry → units_of entry ≡ 0
      → (results : List ℕ) → OneMore (sheet_of bytes n) place.index results results
  nothing_written same none results = nothing_more here.stands (reads same) none results

-- ---- the writing goes on

pub index_at : (bytes : List ℕ) (n : ℕ) {i : ℕ} {position : Position} → position ≡ position_at bytes n i → position.place.index ≡ i
unfolding position_at
index_at bytes n stands_at = ap (λ (p : Position). p.place.index) stands_at

module _ {bytes : List ℕ} {n : ℕ} where
  -- past no record
  pub further_none : {position : Position} → position.place.index ≤ n → position ≡ position_at bytes n position.place.index
      → (results : List ℕ) → Further bytes n position.place.index results position results
  further_none within stands_at results =
      record { not_back = omega arith; within = within; stands_at = stands_at; more = λ old so_far same. so_far; same_length = refl }

  module _ {from : ℕ} {results : List ℕ} {position : Position} {now : List ℕ} (so_far : Further bytes n from results position now) where
    -- past one more
    pub further_one : {later : Position} {behind : List ℕ} → position.place.index < n
        → later ≡ position_at bytes n (suc position.place.index) → OneMore (sheet_of bytes n) position.place.index now behind
        → length behind ≡ length now → Further bytes n from results later behind
    further_one {later} {behind} below is_later one same =
        let index : later.place.index ≡ suc position.place.index = index_at bytes n is_later in
        record {
          not_back = omega (arith, index, so_far.not_back);
          within = omega (arith, index);
          stands_at = is_later ∙ ap (position_at bytes n) (sym index);
          more = λ old holds same_old.
              one old (so_far.more old holds same_old) (same_old ∙ sym so_far.same_length) ∙ ap (written_so_far (sheet_of bytes n) old) (sym index);
          same_length = same ∙ so_far.same_length;
        }

    -- past so many more
    pub further_on : {later : Position} {behind : List ℕ} → Further bytes n position.place.index now later behind
        → Further bytes n from results later behind
    further_on more =
        record {
          not_back = omega (arith, so_far.not_back, more.not_back);
          within = more.within;
          stands_at = more.stands_at;
          more = λ old holds same_old. more.more old (so_far.more old holds same_old) (same_old ∙ sym so_far.same_length);
          same_length = more.same_length ∙ so_far.same_length;
        }

    -- with room for what is left
    pub underway_on : {table : Table} {start : Position} → Underway bytes n table start (length results) → Underway bytes n table position (length now)
    underway_on {table} underway =
        record {
          writable = subst⁻¹ (Writable bytes n table (plan_of bytes).designated) so_far.same_length underway.writable;
          within = so_far.within;
          stands_at = so_far.stands_at;
        }

  -- before a record, with room for what it writes
  pub record_here : {table : Table} {position : Position} {size : ℕ} → Underway bytes n table position size → position.place.index < n
      → RecordHere bytes n table position.place position.state size
  unfolding position_at
  record_here {table} {position} {size} underway below =
      let writable = underway.writable in
      let i = position.place.index in
      subst⁻¹ (λ (p : Position). RecordHere bytes n table p.place p.state size) underway.stands_at
      (record {
        stands =
            record {
              walk = record { whole = writable.whole; inside = omega arith; here = refl };
              before_end = below;
              same_table = writable.same_table;
              same_state = refl;
              planned = writable.planned i;
            };
        room = omega (arith, writable.room, units_mono bytes (suc i) n (omega arith));
      })

-- ---- from the first record to the last

module _ {bytes : List ℕ} {n : ℕ} {table : Table} {designated size : ℕ} (writable : Writable bytes n table designated size) where
  -- before the first
  pub underway_first : {place : Place} {state : State} → place ≡ first_place → state ≡ opening table designated
      → Underway bytes n table (record { place = place; state = state }) size
  unfolding position_at before sheet_of offset units_before
  underway_first {place} {state} is_first is_opening =
      record {
        writable = subst (λ (grade : ℕ). Writable bytes n table grade size) writable.same_designated writable;
        within = omega (arith, ap (λ (p : Place). p.index) is_first);
        stands_at =
            ap₂ (λ (p : Place) (s : State). record { place = p; state = s }) is_first
            (is_opening ∙ ap₂ opening writable.same_table writable.same_designated)
            ∙ ap (position_at bytes n) (sym (ap (λ (p : Place). p.index) is_first));
      }

  pub further_first : {place : Place} {state : State} → place ≡ first_place → state ≡ opening table designated → (results : List ℕ)
      → Further bytes n 0 results (record { place = place; state = state }) results × (0 ≡ place.index)
  further_first {place} {state} is_first is_opening results =
      let underway = underway_first is_first is_opening in
      let index : place.index ≡ 0 = ap (λ (p : Place). p.index) is_first in (
        subst (λ (i : ℕ). Further bytes n i results (record { place = place; state = state }) results) index
            (further_none underway.within underway.stands_at results),
        sym index,
      )

  -- behind the last record nothing ends
  no_end : (j : ℕ) → n ≤ j → step_three_ends_at (sheet_of bytes n) j ≡ false
  unfolding step_three_ends_at record_ends_step_three is_unit_that sheet_of
  no_end j behind = ap (record_ends_step_three (table_of (plan_of bytes)) (before (sheet_of bytes n) j)) (writable.breaks_behind j behind)

  pub all_done : {old : List ℕ} {position : Position} {results : List ℕ} → Further bytes n 0 old position results → n ≤ position.place.index
      → results ≡ written (result_of (sheet_of bytes n)) (λ code. ungraded) (entry_at bytes) n ++ drop (result_size * units_before bytes n) old
  unfolding sheet_of
  all_done {old} {position} so_far past =
      let all : position.place.index ≡ n = omega (arith, so_far.within) in
      so_far.more old (none_so_far old) refl
      ∙ ap (written_so_far (sheet_of bytes n) old) all
      ∙ all_recovered (sheet_of bytes n) n no_end old
      ∙ ap (λ (units : ℕ). written (result_of (sheet_of bytes n)) (λ code. ungraded) (entry_at bytes) n ++ drop (result_size * units) old)
      (sym (units_among_holds bytes n))
    where
      none_so_far : (old : List ℕ) → old ≡ written_so_far (sheet_of bytes n) old 0
      none_so_far old = unfold written_at written units_among in refl

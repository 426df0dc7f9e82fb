-- For contracts of private functions: where the writing stands, and how it goes on.
use Rattle.std.specs.Prelude.{ℕ, suc, ◌*◌, ◌≤◌, ◌<◌, ◌≡◌, true, List, length}
use Rattle.units.specs.Words.{has_plan, Table, table_of}
use Rattle.units.specs.declared.SampleUnit.{SampleUnit}
use Rattle.units.specs.declared.Entry.TheVariants.{UnitRecord}
use Rattle.rules.specs.Sheet.{Sheet, before}
use Rattle.rules.specs.declared.State.{State}
use Rattle.layout.specs.Layout.{plan_of, entry_at, units_before}
use Rattle.layout.specs.Walk.{place_at, Walk}
use Rattle.layout.specs.declared.Place.{Place}
use Rattle.results.specs.Record.{result_size}
use Rattle.writing.specs.declared.Position.{Position}
use Rattle.recording.specs.Sheet.{sheet_of}
use Rattle.writing.specs.Writable.{Writable}
use Rattle.recording.specs.Recovering.{written_so_far}

-- ---- where the writing stands

-- before a record of a sheet with so many records: a place of the walk over them, and the state of the grading there
pub record Stands (bytes : List ℕ) (records : ℕ) (table : Table) (place : Place) (state : State) : Type 0 where
  pub walk : Walk bytes records place
  pub before_end : place.index < records
  pub same_table : table ≡ table_of (plan_of bytes)
  pub same_state : state ≡ before (sheet_of bytes records) place.index
  pub planned : has_plan state.designated ≡ true

-- at a unit, with room for its result record in a buffer of this size
pub record UnitHere (bytes : List ℕ) (records : ℕ) (table : Table) (place : Place) (state : State) (unit : SampleUnit) (size : ℕ) : Type 0 where
  pub stands : Stands bytes records table place state
  pub is_unit : entry_at bytes place.index ≡ UnitRecord unit
  pub room : result_size * units_before bytes (suc place.index) ≤ size

-- before record i
unfoldable pub position_at : List ℕ → ℕ → ℕ → Position
position_at bytes records i = record { place = place_at bytes i; state = before (sheet_of bytes records) i }

-- a buffer that holds what the first records have written becomes one that holds what so many have
abbrev pub SomeMore : Sheet → ℕ → ℕ → List ℕ → List ℕ → Type 0
SomeMore sheet from to results behind =
    (old : List ℕ) → results ≡ written_so_far sheet old from → length old ≡ length results → behind ≡ written_so_far sheet old to

-- what one record more has
abbrev pub OneMore : Sheet → ℕ → List ℕ → List ℕ → Type 0
OneMore sheet done results behind = SomeMore sheet done (suc done) results behind

-- at any record, with room for what it writes
pub record RecordHere (bytes : List ℕ) (records : ℕ) (table : Table) (place : Place) (state : State) (size : ℕ) : Type 0 where
  pub stands : Stands bytes records table place state
  pub room : result_size * units_before bytes (suc place.index) ≤ size

-- before a record of a sheet, or behind the last, with room in a buffer of this size for what all records write
pub record Underway (bytes : List ℕ) (records : ℕ) (table : Table) (position : Position) (size : ℕ) : Type 0 where
  pub writable : Writable bytes records table (plan_of bytes).designated size
  pub within : position.place.index ≤ records
  pub stands_at : position ≡ position_at bytes records position.place.index

-- the writing has gone on from a record to a position
pub record Further (bytes : List ℕ) (records from : ℕ) (results : List ℕ) (position : Position) (behind : List ℕ) : Type 0 where
  pub not_back : from ≤ position.place.index
  pub within : position.place.index ≤ records
  pub stands_at : position ≡ position_at bytes records position.place.index
  pub more : SomeMore (sheet_of bytes records) from position.place.index results behind
  pub same_length : length behind ≡ length results

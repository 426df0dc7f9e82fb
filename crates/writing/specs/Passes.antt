-- For contracts of private functions: the pass over the records, as a sheet is graded once or again.
use Rattle.std.specs.Prelude.{ℕ, suc, ◌*◌, ◌<◌, ◌≡◌, Bool, true, false, List, ◌++◌, drop, None}
use Rattle.units.specs.Words.{Table}
use Rattle.rules.specs.declared.Phase.TheVariants.{Designated}
use Rattle.layout.specs.Layout.{entry_at, units_before}
use Rattle.results.specs.Record.{result_size}
use Rattle.results.specs.Written.{written}
use Rattle.codes.specs.Codes.{ungraded}
use Rattle.recording.specs.Sheet.{sheet_of, result_of}
use Rattle.single_plan.specs.Passing.{outside, Passable, Further, opening_under, Through}
use Rattle.single_plan.specs.declared.Reached.{Reached}
use Rattle.writing.specs.declared.Position.{Position}
use Rattle.writing.specs.Writable.{Writable}
use Rattle.writing.specs.Writing.{RecordHere, position_at, OneMore}

-- a position by its place and its CuSums
abbrev pub reached_at : Position → Reached
reached_at position = record { place = position.place; cusums = position.state.cusums }

-- units that meet, and breaks, are passed under the designated plan, from a state outside step 3 with no failure just before; from any
-- other state nothing is
pub data Met (bytes : List ℕ) (records : ℕ) (table : Table) (position : Position) (results₀ : List ℕ) (here : Position) (results : List ℕ) : Type 0 where
  some : position.state.phase ≡ Designated → position.state.previous ≡ None
      → here.state ≡ outside position.state.designated here.state.cusums
      → Further bytes records table position.state.designated true (reached_at position) results₀ (reached_at here) results
      → Met bytes records table position results₀ here results
  none : here ≡ position → results ≡ results₀ → Met bytes records table position results₀ here results

-- one record is passed, whatever it is
pub record GoneAgain (bytes : List ℕ) (records : ℕ) (table : Table) (position : Position) (results₀ : List ℕ) (here : Position) (results : List ℕ) : Type 0 where
  pub further : Further bytes records table position.state.designated false (reached_at position) results₀ (reached_at here) results
  pub one : here.place.index ≡ suc position.place.index
  pub same_state : here.state ≡ outside position.state.designated here.state.cusums

-- what is asked at a record, and what one record more leaves, graded once and again (true)
abbrev pub NextReady : Bool → List ℕ → ℕ → Table → Position → ℕ → Type 0
NextReady false bytes records table position size = RecordHere bytes records table position.place position.state size
NextReady true bytes records table position size =
    Passable bytes records position.state.designated (reached_at position) size × (position.place.index < records)

abbrev pub NextDone : Bool → List ℕ → ℕ → Table → Position → List ℕ → Position → List ℕ → Type 0
NextDone false bytes records table position old here results =
    (here ≡ position_at bytes records (suc position.place.index)) × OneMore (sheet_of bytes records) position.place.index old results
NextDone true bytes records table position old here results = GoneAgain bytes records table position old here results

-- what the pass asks, and what it leaves
abbrev pub Ready : Bool → List ℕ → ℕ → Table → ℕ → ℕ → Type 0
Ready false bytes records table designated size = Writable bytes records table designated size
Ready true bytes records table designated size = Passable bytes records designated (opening_under table designated) size

abbrev pub Done : Bool → List ℕ → ℕ → Table → ℕ → List ℕ → List ℕ → Type 0
Done false bytes records table designated old results =
    results ≡ written (result_of (sheet_of bytes records)) (λ code. ungraded) (entry_at bytes) records ++ drop (result_size * units_before bytes records) old
Done true bytes records table designated old results = Through bytes records table designated old results

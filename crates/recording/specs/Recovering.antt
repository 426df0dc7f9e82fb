-- For contracts of private functions: what the result buffer holds once so many records are done. Portions are recovered when
-- step 3 ends, in records that are written by then; no code is graded yet.
use Rattle.std.specs.Prelude.{ℕ, ◌+◌, ◌*◌, ◌-◌, ◌≤◌, Bool, ◌&&◌, ◌||◌, List, ◌++◌, ltb, length, drop, set}
use Rattle.units.specs.Words.{worse}
use Rattle.units.specs.Conditions.{pick}
use Rattle.units.specs.Records.{units_among}
use Rattle.units.specs.declared.SampleUnit.{SampleUnit}
use Rattle.rules.specs.Sheet.{Sheet, step_three_ends_at}
use Rattle.layout.specs.Layout.{unit_size, sample_unit_at}
use Rattle.layout.specs.declared.Place.{Place}
use Rattle.results.specs.Record.{result_size, portion_grade_offset, standing_offset}
use Rattle.results.specs.Written.{written}
use Rattle.results.specs.declared.ResultRecord.{ResultRecord}
use Rattle.codes.specs.Codes.{ungraded}
use Rattle.recording.specs.Sheet.{result_if}

module _ (sheet : Sheet) (done : ℕ) where
  -- step 3 ends at record j, and that is among the records done
  unfoldable pub ended_at : ℕ → Bool
  ended_at j = ltb j done && step_three_ends_at sheet j

  -- recovered by then
  unfoldable pub recovered_so_far : ℕ → SampleUnit → Bool
  recovered_so_far i unit = unit.recoverable && (ended_at i || (ended_at (i + 1) || ended_at (i + 2)))

  -- what is recorded by then of the unit that is record i
  unfoldable pub recording_so_far : ℕ → SampleUnit → ResultRecord
  recording_so_far i unit = result_if sheet i unit (recovered_so_far i unit)

-- the buffer once so many records have written what is recorded by the time that so many are done, and behind that what was there
unfoldable pub written_at : Sheet → List ℕ → ℕ → ℕ → List ℕ
written_at sheet old done records =
    written (recording_so_far sheet done) (λ code. ungraded) sheet.entry records ++ drop (result_size * units_among sheet.entry records) old

-- the buffer once so many records are done
abbrev pub written_so_far : Sheet → List ℕ → ℕ → List ℕ
written_so_far sheet old done = written_at sheet old done done

-- a portion is recovered in its result record, which starts at this offset of the buffer: the worse of designated grade and
-- prerequisite grade, and standing 3
unfoldable pub recovered_in : List ℕ → ℕ → ℕ → SampleUnit → List ℕ
recovered_in results start designated unit =
    pick unit.recoverable (set (set results (start + portion_grade_offset) (worse designated unit.prerequisite)) (start + standing_offset) 3) results

-- at a place stands a unit with two right before it, and the buffer has room for their result records: the differences below are no
-- less than zero
pub record ThreeHere (bytes : List ℕ) (place : Place) (size : ℕ) : Type 0 where
  pub two_before : 2 * unit_size ≤ place.at
  pub whole : place.at + unit_size ≤ length bytes
  pub two_results : 2 ≤ place.units
  pub room : result_size * place.units + result_size ≤ size

-- the three units recovered, as a step 3 that ends at the last of them has it
unfoldable pub three_recovered : List ℕ → Place → ℕ → List ℕ → List ℕ
three_recovered bytes place designated results =
    let start = result_size * place.units in
    recovered_in
    (recovered_in
    (recovered_in results (start - 2 * result_size) designated (sample_unit_at bytes (place.at - 2 * unit_size)))
    (start - result_size) designated (sample_unit_at bytes (place.at - unit_size)))
    start designated (sample_unit_at bytes place.at)

-- For contracts of private functions: what the writing of a regrading asks. A sheet that passes the check, a second plan that is none of 18
-- and a buffer with room have it.
use Rattle.std.specs.Prelude.{ℕ, ◌+◌, ◌*◌, ◌≤◌, ◌<◌, ◌≡◌, true, List, length}
use Rattle.units.specs.Words.{has_plan}
use Rattle.units.specs.declared.Plan.{Plan}
use Rattle.layout.specs.Layout.{size_of, offset, mark, units_before}
use Rattle.results.specs.Record.{result_size}

pub record Regradable (bytes : List ℕ) (records : ℕ) (second : Plan) (size : ℕ) : Type 0 where
  -- every record lies in the sheet
  pub whole : (j : ℕ) → j < records → offset bytes j + size_of (mark bytes j) ≤ length bytes
  -- the second plan's designated grade has a plan
  pub planned : has_plan second.designated ≡ true
  -- the buffer has room for the result records
  pub room : result_size * units_before bytes records ≤ size

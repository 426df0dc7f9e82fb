-- What the writing asks of a sheet: its plan's table, so many whole records, breaks behind them, and a plan for every grade that is
-- designated. A sheet that passes the check has it.
use Rattle.std.specs.Prelude.{ℕ, ◌+◌, ◌*◌, ◌≤◌, ◌<◌, ◌≡◌, true, List, length}
use Rattle.units.specs.Words.{has_plan, Table, table_of}
use Rattle.units.specs.declared.Entry.TheVariants.{Break}
use Rattle.rules.specs.Sheet.{designated_at}
use Rattle.layout.specs.Layout.{plan_of, size_of, offset, mark, entry_at, units_before}
use Rattle.results.specs.Record.{result_size}
use Rattle.recording.specs.Sheet.{sheet_of}

pub record Writable (bytes : List ℕ) (records : ℕ) (table : Table) (designated size : ℕ) : Type 0 where
  pub same_table : table ≡ table_of (plan_of bytes)
  pub same_designated : designated ≡ (plan_of bytes).designated
  pub whole : (j : ℕ) → j < records → offset bytes j + size_of (mark bytes j) ≤ length bytes
  pub breaks_behind : (j : ℕ) → records ≤ j → entry_at bytes j ≡ Break
  pub planned : (i : ℕ) → has_plan (designated_at (sheet_of bytes records) i) ≡ true
  -- the buffer has room for the result records
  pub room : result_size * units_before bytes records ≤ size

-- What the check of a sheet comes to: it passes, with its records and its units, or it is refused, with a number and an offset.
use Rattle.std.specs.Prelude.{ℕ, Result, Ok, Err}
use Rattle.outcome.specs.Grounds.{number_of}
use Rattle.outcome.specs.declared.Refusal.{Refusal}
use Rattle.sheet.specs.declared.Checked.{Checked}

pub data Verdict : Type 0 where
  Accepted : ℕ → ℕ → Verdict
  Refused : ℕ → ℕ → Verdict

-- the verdict that the check's result is
abbrev pub verdict_of : Result Checked Refusal → Verdict
verdict_of (Ok checked) = Accepted checked.records checked.units
verdict_of (Err refusal) = Refused (number_of refusal.cause) refusal.offset

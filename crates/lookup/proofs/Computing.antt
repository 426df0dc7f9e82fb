-- What it takes to compute with the definitions of this crate: `unfolding computing` opens them all.
use Prim.Native.Nat.{ℕ}
use Rattle.units.specs.Conditions.{pick}
use Rattle.lookup.specs.Records.{not_records, grade_of, first_that, has_code, worst_grade, has_grade}
use Rattle.lookup.specs.Lookup.{first_of_worst, lookup, handed_as}
use Rattle.lookup.specs.Reading.{records_read}

unfoldable pub computing : ℕ
unfolding pick not_records grade_of first_that has_code worst_grade has_grade first_of_worst lookup handed_as records_read
computing = 0

-- An accepted regrading, and its words: the second plan's designated grade, and a class that fails.
use Rattle.std.specs.Prelude.{ℕ, Bool, List}
use Rattle.cusum.specs.declared.PlanNumbers.{PlanNumbers}
use Rattle.encoding.specs.Bytes.{byte}
use Rattle.units.specs.Words.{numbers_of, tenths_of}
use Rattle.units.specs.Unit.{class_fails}
use Rattle.units.specs.Records.{is_unit_that}
use Rattle.rules.specs.Sheet.{Sheet}
use Rattle.layout.specs.Layout.{grade_offset, plan_of}
use Rattle.outcome.specs.declared.Answer.{Answer}
use Rattle.outcome.specs.Outcome.{AcceptedBy}
use Rattle.tally.specs.Outcome.{records_in}
use Rattle.answers.specs.Grounds.{start_in, tolerance_in, limit_in}
use Rattle.regrade.specs.Regrading.{cusums_before}
use Rattle.regrade.specs.Outcome.{sheet_under, regrade_outcome}

-- a sheet that `regrade` accepts under this second plan
abbrev pub RegradedAs : List ℕ → List ℕ → List ℕ → Answer → List ℕ → Type 0
RegradedAs bytes plan buffer answer results = AcceptedBy (λ sheet room. regrade_outcome sheet plan room) bytes buffer answer results

-- the sheet's records behind the second plan, as the definitions grade them: failures are told from it, never from the result records
unfoldable pub regraded_sheet : List ℕ → List ℕ → Sheet
regraded_sheet bytes plan = sheet_under bytes (plan_of plan) (records_in bytes)

-- the second plan's designated grade, which is that of the plan in force for every unit
abbrev pub second_designated : List ℕ → ℕ
second_designated plan = byte plan grade_offset

-- S, T and L of a class in the plan of that grade, as they stand in the second plan's bytes
abbrev pub second_start : List ℕ → ℕ → ℕ
second_start plan class = start_in plan (second_designated plan) class

abbrev pub second_tolerance : List ℕ → ℕ → ℕ
second_tolerance plan class = tolerance_in plan (second_designated plan) class

abbrev pub second_limit : List ℕ → ℕ → ℕ
second_limit plan class = limit_in plan (second_designated plan) class

-- and as the definitions have them
abbrev pub second_numbers : List ℕ → List ℕ → ℕ → PlanNumbers
second_numbers bytes plan class = numbers_of (regraded_sheet bytes plan).table (regraded_sheet bytes plan).designated class

-- record j is a unit at which the class fails, by rule 2
unfoldable pub fails_regraded_at : Sheet → ℕ → ℕ → Bool
fails_regraded_at sheet class j =
    is_unit_that (λ unit. class_fails sheet.table sheet.designated (cusums_before sheet j) (tenths_of unit) class) (sheet.entry j)

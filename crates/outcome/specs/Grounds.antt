-- The grounds of refusal and their numbers, of the tables of papers 01 and 02.
use Rattle.std.specs.Prelude.{ℕ, Result, Ok, Err}
use Rattle.outcome.specs.declared.Ground.{Ground}
use Rattle.outcome.specs.declared.Ground.TheVariants.{NoPlan, BadDesignatedGrade, PlanNumberTooLarge, StartAboveLimit, SmallerAtLowerGrade, UnknownMark, CutShort, CountTooLarge, BadUnitField, BadNewGrade, SameGrade, TooManyUnits, ResultBufferTooShort, TooMuchInput, BadLevelRow, TooManyFields, BadSecondPlan, NotResults, UnlistedSampleUnits, UnlistedAql, FallingAql}

abbrev pub number_of : Ground → ℕ
number_of NoPlan = 1
number_of BadDesignatedGrade = 2
number_of PlanNumberTooLarge = 3
number_of StartAboveLimit = 4
number_of SmallerAtLowerGrade = 5
number_of UnknownMark = 6
number_of CutShort = 7
number_of CountTooLarge = 8
number_of BadUnitField = 9
number_of BadNewGrade = 10
number_of SameGrade = 11
number_of TooManyUnits = 12
number_of ResultBufferTooShort = 13
number_of TooMuchInput = 15
number_of BadLevelRow = 16
number_of TooManyFields = 17
number_of BadSecondPlan = 18
number_of NotResults = 19
number_of UnlistedSampleUnits = 20
number_of UnlistedAql = 21
number_of FallingAql = 22

-- the number of what a check found: of the ground that is met, or 0
abbrev pub refusal_number : {A : Type 0} → Result A Ground → ℕ
refusal_number (Ok passed) = 0
refusal_number (Err cause) = number_of cause

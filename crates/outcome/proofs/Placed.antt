-- A ground that a check meets, and the refusal that `map_err` makes of it at an offset. By cases on what the check found.
use Rattle.std.proofs.Common.{◌≡◌, ℕ, ◌<◌, Result, Ok, Err, MatchResult, refl, lit<}
use Rattle.std.specs.Result.{IsErrAnd}
use Rattle.outcome.specs.Grounds.{number_of, refusal_number}
use Rattle.outcome.specs.Outcome.{answered, refused_as}
use Rattle.outcome.specs.declared.Ground.{Ground}
use Rattle.outcome.specs.declared.Ground.TheVariants.{NoPlan, BadDesignatedGrade, PlanNumberTooLarge, StartAboveLimit, SmallerAtLowerGrade, UnknownMark, CutShort, CountTooLarge, BadUnitField, BadNewGrade, SameGrade, TooManyUnits, ResultBufferTooShort, TooMuchInput, BadLevelRow, TooManyFields, BadSecondPlan, NotResults, UnlistedSampleUnits, UnlistedAql, FallingAql}
use Rattle.outcome.specs.declared.Refusal.{Refusal}

-- no ground has the number 0
pub number_positive : (cause : Ground) → 0 < number_of cause
number_positive NoPlan = lit< tt
number_positive BadDesignatedGrade = lit< tt
number_positive PlanNumberTooLarge = lit< tt
number_positive StartAboveLimit = lit< tt
number_positive SmallerAtLowerGrade = lit< tt
number_positive UnknownMark = lit< tt
number_positive CutShort = lit< tt
number_positive CountTooLarge = lit< tt
number_positive BadUnitField = lit< tt
number_positive BadNewGrade = lit< tt
number_positive SameGrade = lit< tt
number_positive TooManyUnits = lit< tt
number_positive ResultBufferTooShort = lit< tt
number_positive TooMuchInput = lit< tt
number_positive BadLevelRow = lit< tt
number_positive TooManyFields = lit< tt
number_positive BadSecondPlan = lit< tt
number_positive NotResults = lit< tt
number_positive UnlistedSampleUnits = lit< tt
number_positive UnlistedAql = lit< tt
number_positive FallingAql = lit< tt

-- what a check found, and the same with its ground at an offset
abbrev pub Placed : ℕ → Result (Unit {0}) Ground → Result (Unit {0}) Refusal → Type 0
Placed at found placed = MatchResult found (λ passed. placed ≡ Ok passed) (λ cause. placed ≡ Err (record { cause = cause; offset = at }))

-- where `?` goes on, no ground is met
pub passed : (at : ℕ) (found : Result (Unit {0}) Ground) (placed : Result (Unit {0}) Refusal) → Placed at found placed → placed ≡ Ok tt
    → refusal_number found ≡ 0
passed at (Ok none) placed is_placed goes_on = refl
passed at (Err cause) placed is_placed goes_on = cc

-- where it leaves, with the ground at the offset
pub met : (at : ℕ) (found : Result (Unit {0}) Ground) (placed : Result (Unit {0}) Refusal) → Placed at found placed
    → (refusal : Refusal) → placed ≡ Err refusal → {A : Type 0} (left : Result A Refusal) → IsErrAnd left (λ given. given ≡ refusal)
    → (cause : Ground) × (0 < number_of cause) × (refusal_number found ≡ number_of cause) × (left ≡ Err (record { cause = cause; offset = at }))
met at found placed is_placed refusal leaves (Ok units) gives = absurd gives
met at (Ok none) placed is_placed refusal leaves (Err given) gives = absurd (let other : Ok none ≡ Err refusal = cc in cc)
met at (Err cause) placed is_placed refusal leaves (Err given) gives = (cause, number_positive cause, refl, cc)

-- and what is answered there, of a sheet of any length
pub met_answer : (at : ℕ) (found : Result (Unit {0}) Ground) (placed : Result (Unit {0}) Refusal) → Placed at found placed
    → (refusal : Refusal) → placed ≡ Err refusal → (left : Result ℕ Refusal) → IsErrAnd left (λ given. given ≡ refusal)
    → (length : ℕ) → (0 < refusal_number found) × (answered length left ≡ refused_as (refusal_number found) at)
met_answer at found placed is_placed refusal leaves left gives length =
    let (cause, positive, number, is_left) = met at found placed is_placed refusal leaves left gives in
    (rw number positive, rw (is_left, number))

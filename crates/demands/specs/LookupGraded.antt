-- What became of a code of a whole sheet: a look-up in the result records of a grading or a regrading, all of them and nothing behind them.
-- The unit whose record is handed back has the code, and its portion grade is the code grade that the sheet got.
use Rattle.std.specs.Prelude.{ℕ, ◌*◌, ◌<◌, ◌≡◌, List, ◌↔◌, take}
use Rattle.encoding.specs.Bytes.{byte}
use Rattle.layout.specs.Layout.{units_before}
use Rattle.results.specs.Record.{result_size}
use Rattle.outcome.specs.declared.Answer.{Answer}
use Rattle.tally.specs.Accepted.{AcceptedAs, UnitAt, recorded_portion_grade, recorded_code_grade}
use Rattle.courses.specs.Demand2.{code_of}
use Rattle.regrade_demands.specs.RegradeAccepted.{RegradedAs}
use Rattle.lookup.specs.declared.Part.{Part}
use Rattle.lookup.specs.Lookup.{lookup}

-- the result records of so many units
abbrev pub unit_records : List ℕ → ℕ → List ℕ
unit_records results units = take (result_size * units) results

-- the unit whose result record is the part
pub record UnitFound (bytes results : List ℕ) (code : ℕ) (part : Part) : Type 0 where
  pub index : ℕ
  pub unit : UnitAt bytes index
  pub of_code : code_of bytes index ≡ code
  pub place : part.offset ≡ result_size * units_before bytes index
  pub size : part.length ≡ result_size
  -- its portion grade is the grade of the code
  pub shows_code_grade : recorded_portion_grade bytes results index ≡ recorded_code_grade bytes results index
  -- and each unit of the code before it has a better one
  pub first : (j : ℕ) → j < index → UnitAt bytes j → code_of bytes j ≡ code → recorded_portion_grade bytes results j < recorded_portion_grade bytes results index

pub record LookupInSheet (bytes results : List ℕ) (code : ℕ) (part : Part) : Type 0 where
  pub never_refused : part.number ≡ 19 → ⊥
  pub found : part.number ≡ 0 → UnitFound bytes results code part
  -- 'not on this sheet' exactly if no unit of the sheet has the code
  pub not_there_holds : (part.number ≡ 1) ↔ ((i : ℕ) → UnitAt bytes i → code_of bytes i ≡ code → ⊥)

-- of every accepted sheet and every accepted regrading; the sheet is made of bytes, as every sheet is
pub record LookupGraded : Type 0 where
  pub in_grading : (bytes buffer : List ℕ) (answer : Answer) (results : List ℕ) → AcceptedAs bytes buffer answer results
      → ((place : ℕ) → byte bytes place < 256) → (code : ℕ) (part : Part) → part ≡ lookup (unit_records results answer.units) code
      → LookupInSheet bytes results code part
  pub in_regrading : (bytes plan buffer : List ℕ) (answer : Answer) (results : List ℕ) → RegradedAs bytes plan buffer answer results
      → ((place : ℕ) → byte bytes place < 256) → (code : ℕ) (part : Part) → part ≡ lookup (unit_records results answer.units) code
      → LookupInSheet bytes results code part

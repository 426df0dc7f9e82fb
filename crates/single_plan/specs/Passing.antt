-- For contracts of inner functions: records of a sheet passed one after the other under one plan.
use Rattle.std.specs.Prelude.{ℕ, suc, ◌*◌, ◌≤◌, ◌≡◌, Bool, true, false, cond, List, length, None}
use Rattle.std.proofs.lemmas.List.Edits.{sets}
use Rattle.cusum.specs.declared.Cusum.{Cusum}
use Rattle.units.specs.Words.{has_plan, Table, row_of, tenths_of}
use Rattle.units.specs.Unit.{starting, new_cusums, unit_fails, best_lower, grading_of}
use Rattle.units.specs.declared.SampleUnit.{SampleUnit}
use Rattle.units.specs.declared.SteppedClasses.{SteppedClasses}
use Rattle.units.specs.declared.Grading.{Grading}
use Rattle.units.specs.declared.Entry.TheVariants.{UnitRecord, Redesignation, Break}
use Rattle.rules.specs.declared.Phase.TheVariants.{Designated}
use Rattle.rules.specs.declared.State.{State}
use Rattle.layout.specs.Layout.{entry_at, units_before}
use Rattle.layout.specs.Walk.{first_place, Walk}
use Rattle.results.specs.Record.{result_size, result_bytes}
use Rattle.codes.specs.Codes.{ungraded}
use Rattle.single_plan.specs.SinglePlan.{result_under}
use Rattle.single_plan.specs.declared.Reached.{Reached}

-- outside step 3, with no failure just before
abbrev pub outside : ℕ → List Cusum → State
outside designated cusums = record { designated = designated; previous = None; phase = Designated; cusums = cusums }

-- the grading of a unit under the plan of a grade, by its step in every class
abbrev pub grading_by : Table → ℕ → SampleUnit → SteppedClasses → Grading
grading_by table grade unit stepped =
    record {
      cusums = stepped.cusums;
      overshoots = stepped.overshoots;
      fails = stepped.fails;
      grade = cond stepped.fails (best_lower table grade (tenths_of unit)) grade;
    }

-- the records from `from` on up to one, with the CuSums and the result buffer that they make of those before them: a unit makes new CuSums
-- and writes its result record, a break starts every class at its S, and a redesignation is passed over. Where the passing stops at a unit
-- that fails and at a redesignation, none of them is among these records
pub data Passed (bytes : List ℕ) (table : Table) (designated : ℕ) (stops : Bool) (from : ℕ) (cusums₀ : List Cusum) (results₀ : List ℕ) :
    ℕ → List Cusum → List ℕ → Type 0 where
  none : Passed bytes table designated stops from cusums₀ results₀ from cusums₀ results₀
  unit : (i : ℕ) (cusums : List Cusum) (results : List ℕ) → Passed bytes table designated stops from cusums₀ results₀ i cusums results
      → (here : SampleUnit) → entry_at bytes i ≡ UnitRecord here → (stops ≡ true → unit_fails table designated cusums (tenths_of here) ≡ false)
      → Passed bytes table designated stops from cusums₀ results₀ (suc i) (new_cusums table designated cusums (tenths_of here))
      (sets results (result_size * units_before bytes i)
      (result_bytes ungraded (result_under designated here (grading_of table designated cusums (tenths_of here)))))
  restart : (i : ℕ) (cusums : List Cusum) (results : List ℕ) → Passed bytes table designated stops from cusums₀ results₀ i cusums results
      → entry_at bytes i ≡ Break → Passed bytes table designated stops from cusums₀ results₀ (suc i) (starting (row_of table designated)) results
  over : (i : ℕ) (cusums : List Cusum) (results : List ℕ) → Passed bytes table designated stops from cusums₀ results₀ i cusums results
      → (new : ℕ) → entry_at bytes i ≡ Redesignation new → stops ≡ false
      → Passed bytes table designated stops from cusums₀ results₀ (suc i) cusums results

-- before a record of a sheet, or behind the last, with room in a buffer of this size for what all records write
pub record Passable (bytes : List ℕ) (records designated : ℕ) (start : Reached) (size : ℕ) : Type 0 where
  pub walk : Walk bytes records start.place
  pub planned : has_plan designated ≡ true
  pub room : result_size * units_before bytes records ≤ size

-- the passing has gone on from there to here
pub record Further (bytes : List ℕ) (records : ℕ) (table : Table) (designated : ℕ) (stops : Bool) (start : Reached) (results₀ : List ℕ)
    (here : Reached) (results : List ℕ) : Type 0 where
  pub walk : Walk bytes records here.place
  pub passed : Passed bytes table designated stops start.place.index start.cusums results₀ here.place.index here.cusums results
  pub same_length : length results ≡ length results₀

-- every class of the plan at its S, before the first record
abbrev pub opening_under : Table → ℕ → Reached
opening_under table designated = record { place = first_place; cusums = starting (row_of table designated) }

-- so many records of a sheet are passed from the opening on
pub record Through (bytes : List ℕ) (records : ℕ) (table : Table) (designated : ℕ) (results₀ results : List ℕ) : Type 0 where
  pub cusums : List Cusum
  pub passed : Passed bytes table designated false 0 (starting (row_of table designated)) results₀ records cusums results

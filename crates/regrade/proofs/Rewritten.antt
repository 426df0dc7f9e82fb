-- The records of a sheet passed under a second plan, all of them: the CuSums are those before each record, and the buffer holds what the
-- records so far write. By induction on the records passed.
use Prim.Native.Nat.{ℕ, suc, ◌*◌, ◌≤◌}
use mathlib.Core.Path.{◌≡◌, refl, sym, ◌∙◌, ap, ap₂, subst}
use mathlib.Core.Bool.{false}
use mathlib.Core.List.{List, ◌++◌}
use native.Mathlib.Omega.{arith}
use lib.ListN.{length, drop}
use lib.Seq.{sets}
use Rattle.cusum.specs.declared.Cusum.{Cusum}
use Rattle.units.specs.Words.{Table, table_of, row_of, tenths_of}
use Rattle.units.specs.Unit.{starting, grading_of}
use Rattle.units.specs.Records.{units_of, units_among}
use Rattle.units.specs.declared.Plan.{Plan}
use Rattle.units.specs.declared.Entry.{Entry}
use Rattle.rules.specs.Sheet.{Sheet}
use Rattle.layout.specs.Layout.{entry_at, units_before}
use Rattle.layout.proofs.Walk.{walk_first}
use Rattle.layout.proofs.Units.{units_among_holds, units_mono}
use Rattle.results.specs.Record.{result_size, result_bytes}
use Rattle.results.specs.Written.{written}
use Rattle.results.proofs.Written.{own_added, none_added}
use Rattle.codes.specs.Codes.{ungraded}
use Rattle.single_plan.specs.SinglePlan.{result_under}
use Rattle.single_plan.specs.Passing.{Passed, none, unit, restart, over, Passable, opening_under, Through}
use Rattle.regrade.specs.Regrading.{at_start, cusums_behind, cusums_before, regraded_result}
use Rattle.regrade.specs.Outcome.{sheet_under}
use Rattle.regrade.specs.Regradable.{Regradable}

module _ (bytes : List ℕ) (n : ℕ) (second : Plan) (old : List ℕ) (regradable : Regradable bytes n second (length old)) where
  abbrev sheet : Sheet
  sheet = sheet_under bytes second n

  -- what the first records have written, and behind that what was there
  abbrev so_far : ℕ → List ℕ
  so_far i = written (regraded_result sheet) (λ code. ungraded) (entry_at bytes) i ++ drop (result_size * units_among (entry_at bytes) i) old

  -- the CuSums behind record i
  next_cusums : (i : ℕ) {entry : Entry} → entry_at bytes i ≡ entry → cusums_behind sheet (cusums_before sheet i) entry ≡ cusums_before sheet (suc i)
  unfolding cusums_before sheet_under
  next_cusums i reads = sym (ap (cusums_behind sheet (cusums_before sheet i)) reads)

  room_here : (i : ℕ) → suc i ≤ n → result_size * units_among (entry_at bytes) (suc i) ≤ length old
  room_here i within = omega (arith, regradable.room, units_among_holds bytes (suc i), units_mono bytes (suc i) n within)

  pub passed_is : {i : ℕ} {cusums : List Cusum} {results : List ℕ}
      → Passed bytes (table_of second) second.designated false 0 (at_start sheet) old i cusums results → i ≤ n
      → (cusums ≡ cusums_before sheet i) × (results ≡ so_far i)
  unfolding cusums_before cusums_behind sheet_under written units_among units_of
  passed_is none within = (refl, refl)
  passed_is (unit i cusums results passed here reads meets) within =
      let (same_cusums, same_results) = passed_is passed (omega arith) in (
        ap (λ (cs : List Cusum). (grading_of (table_of second) second.designated cs (tenths_of here)).cusums) same_cusums ∙ next_cusums i reads,
        ap₂ (λ (l : List ℕ) (cs : List Cusum). sets l (result_size * units_before bytes i)
            (result_bytes ungraded (result_under second.designated here (grading_of (table_of second) second.designated cs (tenths_of here))))) same_results same_cusums
            ∙ ap (λ (units : ℕ). sets (so_far i) (result_size * units) (result_bytes ungraded (regraded_result sheet i here))) (units_among_holds bytes i)
            ∙ own_added (regraded_result sheet) (λ code. ungraded) (entry_at bytes) i here reads old (room_here i within),
      )
  passed_is (restart i cusums results passed reads) within =
      let (same_cusums, same_results) = passed_is passed (omega arith) in
      (next_cusums i reads, same_results ∙ none_added (regraded_result sheet) (λ code. ungraded) (entry_at bytes) i (ap units_of reads) old)
  passed_is (over i cusums results passed new reads passing) within =
      let (same_cusums, same_results) = passed_is passed (omega arith) in
      (same_cusums ∙ next_cusums i reads, same_results ∙ none_added (regraded_result sheet) (λ code. ungraded) (entry_at bytes) i (ap units_of reads) old)

  -- ---- as the code does it, from the opening to the last record

  pub passable : (table : Table) → Passable bytes n second.designated (opening_under table second.designated) (length old)
  passable table =
      record { walk = walk_first bytes n regradable.whole; planned = regradable.planned; room = regradable.room }

  pub all_passed : {table : Table} → table ≡ table_of second → {results : List ℕ} → Through bytes n table second.designated old results
      → results ≡ written (regraded_result sheet) (λ code. ungraded) (entry_at bytes) n ++ drop (result_size * units_before bytes n) old
  unfolding sheet_under
  all_passed is_table {results} through =
      (passed_is (subst (λ (t : Table). Passed bytes t second.designated false 0 (starting (row_of t second.designated)) old n through.cusums results) is_table
      through.passed) (omega arith)).1
      ∙ ap (λ (units : ℕ). written (regraded_result sheet) (λ code. ungraded) (entry_at bytes) n ++ drop (result_size * units) old) (sym (units_among_holds bytes n))

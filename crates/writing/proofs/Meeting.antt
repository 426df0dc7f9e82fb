-- Units that meet the designated plan, and breaks, passed under that plan: by induction on the records passed, the state of the grading
-- stays outside step 3 with no failure just before, its CuSums are those of the passing, and the writing has gone on as far.
use Prim.Native.Nat.{ℕ, suc, ◌*◌, ◌≤◌, ◌<◌}
use mathlib.Core.Path.{◌≡◌, refl, sym, ◌∙◌, ap, ap₂, subst, subst⁻¹}
use mathlib.Core.Bool.{true, false, true≢false}
use mathlib.Core.List.{List}
use native.Mathlib.Omega.{arith}
use lib.ListN.{length}
use lib.Seq.{sets, length-sets}
use Rattle.std.proofs.Common.{Option, None}
use Rattle.cusum.specs.declared.Cusum.{Cusum}
use Rattle.units.specs.Words.{has_plan, Table, table_of, tenths_of}
use Rattle.units.specs.Unit.{unit_fails, grading_of}
use Rattle.units.specs.Records.{units_of}
use Rattle.units.specs.declared.SampleUnit.{SampleUnit}
use Rattle.units.specs.declared.Entry.{Entry}
use Rattle.units.specs.declared.Entry.TheVariants.{UnitRecord, Break}
use Rattle.rules.specs.StepThree.{in_force_in, failure_after, ends_step_three, two_in_a_row, with_unit, without_run, restarted, graded, qualifies_in, after_break, next}
use Rattle.rules.specs.Sheet.{before}
use Rattle.rules.specs.declared.Phase.{Phase}
use Rattle.rules.specs.declared.Phase.TheVariants.{Designated}
use Rattle.rules.specs.declared.State.{State}
use Rattle.rules.proofs.Steps.{state_of, unit_passes}
use Rattle.layout.specs.Layout.{plan_of, entry_at, units_before}
use Rattle.layout.specs.Walk.{place_at, Walk}
use Rattle.layout.specs.declared.Place.{Place}
use Rattle.results.specs.Record.{result_size, result_bytes}
use Rattle.codes.specs.Codes.{ungraded}
use Rattle.recording.specs.Sheet.{sheet_of}
use Rattle.single_plan.specs.SinglePlan.{result_under}
use Rattle.single_plan.proofs.Passing.{result_outside}
use Rattle.single_plan.specs.Passing.{outside, Passed, none, unit, restart, over, Passable}
use Rattle.writing.specs.declared.Position.{Position}
use Rattle.writing.specs.Passes.{Met, some, none as nothing}
use Rattle.writing.specs.Writing.{UnitHere, RecordHere, position_at, OneMore, Underway, Further}
use Rattle.writing.proofs.Passing.{nothing_more, further_none, further_one, underway_on, record_here}
use Rattle.writing.proofs.Writing.{unit_under_designated}

-- so it stays behind a unit that meets and behind a break
behind_unit : (table : Table) (designated : ℕ) (cusums : List Cusum) (here : SampleUnit) → unit_fails table designated cusums (tenths_of here) ≡ false
    → next table (outside designated cusums) (UnitRecord here) ≡ outside designated (grading_of table designated cusums (tenths_of here)).cusums
unfolding next graded in_force_in ends_step_three two_in_a_row failure_after with_unit
behind_unit table designated cusums here meets =
    let state = outside designated cusums in
    let grading = grading_of table designated cusums (tenths_of here) in
    unit_passes table state grading (qualifies_in table state here) refl refl ∙ ap (λ failed. state_of designated (failure_after failed grading.grade) Designated grading.cusums) meets

behind_break : (table : Table) (designated : ℕ) (cusums : List Cusum) → next table (outside designated cusums) Break ≡ restarted table designated Designated
unfolding next after_break without_run
behind_break table designated cusums = refl

-- how far the writing has gone: before record i stands this state
record Gone (bytes : List ℕ) (n from : ℕ) (results₀ : List ℕ) (designated i : ℕ) (cusums : List Cusum) (results : List ℕ) : Type 0 where
  same_state : before (sheet_of bytes n) i ≡ outside designated cusums
  further : Further bytes n from results₀ (position_at bytes n i) results

module _ {bytes : List ℕ} {n : ℕ} {table : Table} {from : ℕ} {results₀ : List ℕ} {designated : ℕ} {cusums₀ : List Cusum}
    (underway : Underway bytes n table (position_at bytes n from) (length results₀)) (begins : before (sheet_of bytes n) from ≡ outside designated cusums₀) where
  module _ {i : ℕ} {cusums : List Cusum} {results : List ℕ} (gone : Gone bytes n from results₀ designated i cusums results) (below : i < n) where
    at_record : RecordHere bytes n table (place_at bytes i) (before (sheet_of bytes n) i) (length results)
    unfolding position_at
    at_record = record_here (underway_on gone.further underway) below

    -- past one record more
    on : {entry : Entry} → entry_at bytes i ≡ entry → {later : List Cusum} → next table (outside designated cusums) entry ≡ outside designated later
        → {behind : List ℕ} → OneMore (sheet_of bytes n) i results behind → length behind ≡ length results
        → Gone bytes n from results₀ designated (suc i) later behind
    unfolding before sheet_of position_at
    on {entry} reads is_later one same =
        record {
          same_state =
              ap₂ (next (table_of (plan_of bytes))) gone.same_state reads
              ∙ ap (λ (t : Table). next t (outside designated cusums) entry) (sym at_record.stands.same_table) ∙ is_later;
          further = further_one gone.further below refl one same;
        }

    past_unit : (here : SampleUnit) → entry_at bytes i ≡ UnitRecord here → unit_fails table designated cusums (tenths_of here) ≡ false →
        let grading = grading_of table designated cusums (tenths_of here) in
        Gone bytes n from results₀ designated (suc i) grading.cusums
        (sets results (result_size * units_before bytes i) (result_bytes ungraded (result_under designated here grading)))
    past_unit here reads meets =
        let state = before (sheet_of bytes n) i in
        let unit_here : UnitHere bytes n table (place_at bytes i) state here (length results) =
        record { stands = at_record.stands; is_unit = reads; room = at_record.room } in
        let grading = grading_of table state.designated state.cusums (tenths_of here) in
        let phase = ap (λ (s : State). s.phase) gone.same_state in
        let recorded : State → List ℕ =
        λ (s : State). sets results (result_size * units_before bytes i)
        (result_bytes ungraded (result_under s.designated here (grading_of table s.designated s.cusums (tenths_of here)))) in
        on reads (behind_unit table designated cusums here meets)
        (unit_under_designated results unit_here phase refl (sym (result_outside state here grading phase)) (sym (ap recorded gone.same_state)) refl).1
        (length-sets results (result_size * units_before bytes i) (result_bytes ungraded (result_under designated here (grading_of table designated cusums (tenths_of here)))))

    past_break : entry_at bytes i ≡ Break → Gone bytes n from results₀ designated (suc i) (restarted table designated Designated).cusums results
    unfolding restarted units_of
    past_break reads = on reads (behind_break table designated cusums) (nothing_more at_record.stands reads refl results) refl

  gone_past : {i : ℕ} {cusums : List Cusum} {results : List ℕ} → Passed bytes table designated true from cusums₀ results₀ i cusums results → i ≤ n
      → Gone bytes n from results₀ designated i cusums results
  unfolding position_at restarted in_force_in
  gone_past none within = record { same_state = begins; further = further_none within refl results₀ }
  gone_past (unit i cusums results passed here reads meets) within = past_unit (gone_past passed (omega arith)) (omega arith) here reads (meets refl)
  gone_past (restart i cusums results passed reads) within = past_break (gone_past passed (omega arith)) (omega arith) reads
  gone_past (over i cusums results passed new reads passing) within = absurd (true≢false passing)

-- the passing can begin
pub passable : {bytes : List ℕ} {n : ℕ} {table : Table} {start : Position} {size : ℕ} → Underway bytes n table start size
    → Passable bytes n start.state.designated (record { place = start.place; cusums = start.state.cusums }) size
unfolding position_at
passable {bytes} {n} {table} {start} underway =
    let at = underway.stands_at in
    record {
      walk = record { whole = underway.writable.whole; inside = underway.within; here = ap (λ (p : Position). p.place) at };
      planned = ap (λ (p : Position). has_plan p.state.designated) at ∙ underway.writable.planned start.place.index;
      room = underway.writable.room;
    }

-- as the code stands before and behind these records
met_on : {bytes : List ℕ} {n : ℕ} {table : Table} {start : Position} {results₀ : List ℕ} → Underway bytes n table start (length results₀)
    → start.state.phase ≡ Designated → start.state.previous ≡ None
    → {place : Place} {cusums : List Cusum} {results : List ℕ} → Walk bytes n place
    → Passed bytes table start.state.designated true start.place.index start.state.cusums results₀ place.index cusums results
    → Further bytes n start.place.index results₀ (record { place = place; state = outside start.state.designated cusums }) results
unfolding position_at
met_on {bytes} {n} {table} {start} {results₀} underway phase previous {place} {cusums} {results} walk passed =
    let from = start.place.index in
    let begins : before (sheet_of bytes n) from ≡ outside start.state.designated start.state.cusums
    = sym (ap (λ (p : Position). p.state) underway.stands_at)
    ∙ ap₂ (λ (p : Option ℕ) (f : Phase). state_of start.state.designated p f start.state.cusums) previous phase in
    let gone = gone_past (subst (λ (p : Position). Underway bytes n table p (length results₀)) underway.stands_at underway) begins passed walk.inside in
    let same : record { place = place; state = outside start.state.designated cusums } ≡ position_at bytes n place.index
    = ap₂ (λ (p : Place) (s : State). record { place = p; state = s }) walk.here (sym gone.same_state) in
    subst⁻¹ (λ (p : Position). Further bytes n from results₀ p results) same gone.further

pub met_further : {bytes : List ℕ} {n : ℕ} {table : Table} {start : Position} {results₀ : List ℕ} → Underway bytes n table start (length results₀)
    → {here : Position} {results : List ℕ} → Met bytes n table start results₀ here results → Further bytes n start.place.index results₀ here results
met_further {bytes} {n} {table} {start} {results₀} underway {here} {results} (some phase previous same_state gone) =
    subst⁻¹ (λ (s : State). Further bytes n start.place.index results₀ (record { place = here.place; state = s }) results) same_state
    (met_on underway phase previous gone.walk gone.passed)
met_further {bytes} {n} {table} {start} {results₀} underway {here} {results} (nothing same same_results) =
    rw (same, same_results) (further_none underway.within underway.stands_at results₀)

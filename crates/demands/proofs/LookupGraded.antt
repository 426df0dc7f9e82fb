-- A look-up in the result records of a sheet, whoever graded them: records of the results are units of the sheet, one for one in their
-- order, and no portion grade is above Substandard, so that the worst the code has is its code grade.
use Prim.Native.Nat.{ℕ, suc, ◌*◌, ◌≤◌, ◌<◌}
use mathlib.Core.Path.{◌≡◌, refl, sym, ◌∙◌, ap, subst}
use mathlib.Core.List.{List}
use native.Mathlib.Omega.{arith}
use lib.ListN.{length}
use Rattle.encoding.specs.Bytes.{byte}
use Rattle.units.specs.Words.{substandard}
use Rattle.units.proofs.Records.{record_of_unit}
use Rattle.layout.specs.Layout.{units_before, entry_at}
use Rattle.layout.proofs.Units.{units_among_holds, units_mono, next_units, unit_mark}
use Rattle.results.specs.Record.{result_size, code_in}
use Rattle.outcome.specs.declared.Answer.{Answer}
use Rattle.tally.specs.Outcome.{records_in}
use Rattle.tally.specs.Accepted.{AcceptedAs, UnitAt, recorded_portion_grade}
use Rattle.tally.proofs.AcceptedSheet.{accepted_sheet}
use Rattle.courses.specs.Demand2.{recorded_code, code_of, WorstOfCode}
use Rattle.courses.proofs.Recorded.{recorded_portion_le}
use Rattle.courses.proofs.Graded.{demand2_records}
use Rattle.regrade.proofs.AcceptedRegrading.{accepted_regrading}
use Rattle.regrade_demands.specs.RegradeAccepted.{RegradedAs}
use Rattle.regrade_demands.proofs.RegradeRecorded as regraded
use Rattle.regrade_demands.proofs.RegradeRecords.{regrade_graded}
use Rattle.lookup.specs.declared.Part.{Part}
use Rattle.lookup.specs.Records as look
use Rattle.lookup.specs.Lookup.{lookup, found_at, not_on_this_sheet}
use Rattle.lookup.proofs.Worst.{grade_is, FirstOf, NoneOf}
use Rattle.lookup.proofs.Cases.{Case, refused, found, none, case_of}
use Rattle.lookup.proofs.Cut.{cut_whole, cut_records, cut_code, cut_portion}
use Rattle.demands.specs.LookupGraded.{unit_records, UnitFound, LookupInSheet, LookupGraded}

module _ (bytes results : List ℕ) (units : ℕ) (counted : units ≡ units_before bytes (records_in bytes)) (room : result_size * units ≤ length results)
    (code_is : (i : ℕ) → UnitAt bytes i → recorded_code bytes results i ≡ code_of bytes i)
    (portion_most : (i : ℕ) → UnitAt bytes i → recorded_portion_grade bytes results i ≤ substandard)
    (worst : (i : ℕ) → UnitAt bytes i → WorstOfCode bytes results i) where
  abbrev records : List ℕ
  records = unit_records results units

  -- the unit whose record is record j of the results
  record Numbered (j : ℕ) : Type 0 where
    index : ℕ
    unit : UnitAt bytes index
    number : units_before bytes index ≡ j

  numbered : (j : ℕ) → j < units → Numbered j
  numbered j inside =
      let there = record_of_unit (entry_at bytes) (records_in bytes) j (omega (arith, inside, counted, units_among_holds bytes (records_in bytes))) in
      record {
        index = there.index;
        unit = record { inside = there.inside; is_unit = unit_mark bytes there.index there.unit there.is_unit };
        number = units_among_holds bytes there.index ∙ there.units_before_holds;
      }

  -- a unit has its record among them
  inside_records : (i : ℕ) → UnitAt bytes i → units_before bytes i < units
  inside_records i at =
      omega (arith, counted, next_units bytes i at.is_unit, units_mono bytes (suc i) (records_in bytes) (omega (arith, at.inside)))

  grade_in_holds : (i : ℕ) → UnitAt bytes i → look.grade_in records (units_before bytes i) ≡ recorded_portion_grade bytes results i
  grade_in_holds i at =
      ap look.grade_of (cut_portion results units room (units_before bytes i) (inside_records i at))
      ∙ grade_is (recorded_portion_grade bytes results i) (portion_most i at)

  its_code : (i : ℕ) → UnitAt bytes i → code_in records (units_before bytes i) ≡ code_of bytes i
  its_code i at = cut_code results units room (units_before bytes i) (inside_records i at) ∙ code_is i at

  many : look.result_records records ≡ units
  many = cut_records results units room

  module _ (code : ℕ) where
    -- the record found is that of this unit
    found_unit : (i : ℕ) → UnitAt bytes i → FirstOf records code (look.result_records records) (units_before bytes i)
        → UnitFound bytes results code (found_at (units_before bytes i))
    found_unit i at is =
        let own : code_of bytes i ≡ code = sym (its_code i at) ∙ is.has_code_holds in
        let has = (worst i at).one_has_it in
        let k = has.index in
        let below : units_before bytes k < look.result_records records = omega (arith, many, inside_records k has.unit) in
        let its_worst = is.none_worse (units_before bytes k) below (its_code k has.unit ∙ has.same_code ∙ own) in
        record {
          index = i;
          unit = at;
          of_code = own;
          place = refl;
          size = refl;
          shows_code_grade = omega (arith, (worst i at).none_worse i at refl, its_worst, has.same_grade, grade_in_holds i at, grade_in_holds k has.unit);
          first = λ j below there same.
              let earlier : units_before bytes j < units_before bytes i =
              omega (arith, next_units bytes j there.is_unit, units_mono bytes (suc j) i (omega (arith, below))) in
              omega (arith, is.earlier_better (units_before bytes j) earlier (its_code j there ∙ same), grade_in_holds j there, grade_in_holds i at);
        }

    of_found : (first : ℕ) → FirstOf records code (look.result_records records) first → LookupInSheet bytes results code (found_at first)
    of_found first is =
        let there = numbered first (omega (arith, many, is.inside)) in
        let i = there.index in
        let is_unit = found_unit i there.unit (subst (FirstOf records code (look.result_records records)) (sym there.number) is) in
        subst (λ (place : ℕ). LookupInSheet bytes results code (found_at place)) there.number
        (record {
          never_refused = λ e. absurd (omega (arith, e));
          found = λ _. is_unit;
          not_there_holds = ((λ e. absurd (omega (arith, e))), λ no_unit_holds. absurd (no_unit_holds is_unit.index is_unit.unit is_unit.of_code));
        })

    of_none : NoneOf records code (look.result_records records) → LookupInSheet bytes results code not_on_this_sheet
    of_none has =
        record {
          never_refused = λ e. absurd (omega (arith, e));
          found = λ e. absurd (omega (arith, e));
          not_there_holds = (
            (λ _ i at own. has.none (units_before bytes i) (omega (arith, many, inside_records i at)) (its_code i at ∙ own)),
            λ _. refl,
          );
        }

    in_sheet : (part : Part) → part ≡ lookup records code → LookupInSheet bytes results code part
    in_sheet part given = subst (LookupInSheet bytes results code) (sym given) (go (case_of records code))
      where
        go : Case records code → LookupInSheet bytes results code (lookup records code)
        go (refused rest is) = absurd (rest (cut_whole results units room))
        go (found whole first at is) = subst (LookupInSheet bytes results code) (sym is) (of_found first at)
        go (none whole has is) = subst (LookupInSheet bytes results code) (sym is) (of_none has)

-- ---- gradings and regradings

in_grading : (bytes buffer : List ℕ) (answer : Answer) (results : List ℕ) → AcceptedAs bytes buffer answer results
    → ((place : ℕ) → byte bytes place < 256) → (code : ℕ) (part : Part) → part ≡ lookup (unit_records results answer.units) code
    → LookupInSheet bytes results code part
in_grading bytes buffer answer results accepted small =
    let sheet = accepted_sheet bytes buffer answer results accepted in
    let graded = demand2_records bytes buffer answer results accepted in
    in_sheet bytes results answer.units sheet.answered_units (omega (arith, sheet.room, sheet.same_length, sheet.answered_units))
    (λ i at. (graded.recorded i at).code small)
    (λ i at. recorded_portion_le bytes buffer answer results accepted i at)
    graded.code_grades

in_regrading : (bytes plan buffer : List ℕ) (answer : Answer) (results : List ℕ) → RegradedAs bytes plan buffer answer results
    → ((place : ℕ) → byte bytes place < 256) → (code : ℕ) (part : Part) → part ≡ lookup (unit_records results answer.units) code
    → LookupInSheet bytes results code part
in_regrading bytes plan buffer answer results accepted small =
    let sheet = accepted_regrading bytes plan buffer answer results accepted in
    let graded = regrade_graded bytes plan buffer answer results accepted in
    in_sheet bytes results answer.units sheet.answered_units (omega (arith, sheet.room, sheet.same_length, sheet.answered_units))
    (λ i at. (graded.recorded i at).code small)
    (λ i at. regraded.recorded_portion_le bytes plan buffer answer results accepted i at)
    graded.code_grades

pub lookup_graded : LookupGraded
lookup_graded = record { in_grading = in_grading; in_regrading = in_regrading }

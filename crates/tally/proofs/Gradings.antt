-- What gradings of a sheet share, whatever they record of a unit: refused by the check; else, if what is given beside the sheet is wrong,
-- refused for that; else, if the buffer is too short, refused with 13; else accepted, with the result records at the start of the buffer.
-- First the cases as the code takes them: each rewrites the outcome with the tests on the way, and the accepted buffer comes from the raw
-- records and the code grading. Then what an outcome leaves: a refusal keeps the buffer and counts no units, and acceptance says what it
-- does of the sheet, the answer and the buffer; by cases on the verdict, then on the two tests.
use Prim.Native.Nat.{ℕ, ◌*◌, ◌≤◌, ◌<◌}
use mathlib.Core.Path.{◌≡◌, refl, sym, ◌∙◌, ap, subst⁻¹}
use mathlib.Core.Bool.{Bool, true, false}
use mathlib.Core.List.{List, ◌++◌}
use mathlib.Core.Logic.{◌⊎◌, inl, inr, ⊎_elim}
use native.Mathlib.Omega.{arith}
use lib.Dec.{ltb}
use lib.ListN.{length, take, drop, length-append, length-drop}
use lib.Seq.{drop_at}
use borrow.Author.Tests.{lt-ltb, le-ltb, ltb-false}
use Rattle.units.specs.Conditions.{pick}
use Rattle.units.specs.Records.{worst_before}
use Rattle.units.specs.declared.SampleUnit.{SampleUnit}
use Rattle.units.specs.declared.Entry.TheVariants.{UnitRecord}
use Rattle.layout.specs.Layout.{entry_at, units_before}
use Rattle.layout.proofs.Units.{units_among_holds}
use Rattle.sheet.specs.Refusals.{verdict}
use Rattle.sheet.specs.Verdict.{Verdict, Accepted, Refused}
use Rattle.sheet.proofs.Accepted.{Facts, facts, refusal_number}
use Rattle.results.specs.Record.{result_size}
use Rattle.results.specs.Written.{written}
use Rattle.results.specs.declared.ResultRecord.{ResultRecord}
use Rattle.results.proofs.Written.{length_written}
use Rattle.codes.specs.Codes.{result_records, ungraded, codes_graded, Ungraded}
use Rattle.codes.proofs.Coding.{Gradable, ready_for_codes, codes_done}
use Rattle.outcome.specs.declared.Answer.{Answer}
use Rattle.outcome.specs.Outcome.{Outcome, accepted_as, refusal}
use Rattle.tally.specs.Outcome.{records_of, records_in}

-- what gradings differ in
pub record Way : Type 0 where
  -- if what is given beside the sheet is wrong, and by which number and at which offset that is refused
  pub wrong : Bool
  pub number : ℕ
  pub at : ℕ
  pub positive : 0 < number
  -- what is recorded, but for its code grade, of the unit that is a record of so many
  pub recording : ℕ → ℕ → SampleUnit → ResultRecord

-- what acceptance says of a sheet of n records, the answer and the buffer, into which these result records are written
pub record AcceptedInto (bytes buffer : List ℕ) (wrong : Bool) (n : ℕ) (records : List ℕ) (answer : Answer) (results : List ℕ)
    : Type 0 where
  pub passed : verdict bytes ≡ Accepted n (units_before bytes n)
  pub facts : Facts bytes n
  pub right : wrong ≡ false
  pub room : result_size * units_before bytes n ≤ length buffer
  pub answered_units : answer.units ≡ units_before bytes n
  pub answered_offset : answer.offset ≡ length bytes
  pub filled : results ≡ records ++ drop (result_size * units_before bytes n) buffer
  pub same_length : length results ≡ length buffer
  -- the bytes behind the result records are as before
  pub rest : drop (result_size * answer.units) results ≡ drop (result_size * answer.units) buffer

module _ (way : Way) (bytes buffer : List ℕ) where
  -- what the n records of the sheet write, with these code grades
  abbrev written_with : ℕ → (ℕ → ℕ) → List ℕ
  written_with n grades = written (way.recording n) grades (entry_at bytes) n

  -- and with the worst recorded portion grade of each code
  abbrev records : ℕ → List ℕ
  records n = written_with n (λ code. worst_before (λ i unit. (way.recording n i unit).portion) (entry_at bytes) code n)

  -- by the two tests behind the sheet's check
  abbrev given : ℕ → ℕ → Bool → Bool → Outcome
  given n units wrong short =
      pick wrong (refusal way.number way.at buffer)
      (pick short (refusal 13 (length bytes) buffer)
      (record { answer = accepted_as units (length bytes); buffer = records n ++ drop (result_size * units) buffer }))

  unfoldable pub graded : Verdict → Outcome
  graded (Refused number at) = refusal number at buffer
  graded (Accepted n units) = given n units way.wrong (ltb (length buffer) (result_size * units))

  -- ---- the cases

  pub refused : {number at : ℕ} → Refused number at ≡ verdict bytes → refusal number at buffer ≡ graded (verdict bytes)
  unfolding graded
  refused by_check = rw (← by_check)

  module _ {n units : ℕ} (accepted : Accepted n units ≡ verdict bytes) where
    pub wrong_beside : way.wrong ≡ true → refusal way.number way.at buffer ≡ graded (verdict bytes)
    unfolding graded pick
    wrong_beside wrong = rw (← accepted, wrong)

    module _ (right : way.wrong ≡ false) where
      pub too_short : length buffer < result_size * units → refusal 13 (length bytes) buffer ≡ graded (verdict bytes)
      unfolding graded pick
      too_short short = rw (← accepted, right, lt-ltb (length buffer) (result_size * units) short)

      -- with the records of the units at the start of the buffer, no code graded yet
      module _ (room : result_size * units ≤ length buffer)
          (gradable : (i : ℕ) → i < n → (unit : SampleUnit) → entry_at bytes i ≡ UnitRecord unit → Gradable unit (way.recording n i unit))
          (raw : List ℕ) (is_raw : raw ≡ written_with n (λ code. ungraded) ++ drop (result_size * units_before bytes n) buffer) where
        abbrev own : List ℕ
        own = take (result_size * units) raw

        units_counted : units ≡ units_before bytes n
        units_counted = (facts bytes n units (sym accepted)).1

        pub ready : Ungraded own (result_records own)
        ready = ready_for_codes (way.recording n) (entry_at bytes) n _ gradable (units_counted ∙ units_among_holds bytes n) is_raw

        pub done : (coded : List ℕ) → coded ≡ codes_graded own (result_records own)
            → ◌≡◌ {A = Outcome} (record { answer = accepted_as units (length bytes); buffer = coded ++ drop (result_size * units) raw })
            (graded (verdict bytes))
        unfolding graded pick
        done coded is_coded =
            rw (← accepted, right, le-ltb (length buffer) (result_size * units) room)
            (ap (λ (left : List ℕ). record { answer = accepted_as units (length bytes); buffer = left })
            (ap (λ (start : List ℕ). start ++ drop (result_size * units) raw) is_coded
            ∙ codes_done (way.recording n) (entry_at bytes) n _ gradable (units_counted ∙ units_among_holds bytes n) is_raw
            ∙ ap (λ (many : ℕ). records n ++ drop (result_size * many) buffer) (sym units_counted)))

  -- ---- what an outcome leaves

  -- a refusal, which keeps every byte of the buffer and counts no units, or acceptance of n records
  abbrev Left : ℕ → Outcome → Type 0
  Left n outcome =
      ((outcome.answer.number ≡ 0 → ⊥) × (outcome.buffer ≡ buffer) × (outcome.answer.units ≡ 0))
      ⊎ ((outcome.answer.number ≡ 0) × AcceptedInto bytes buffer way.wrong n (records n) outcome.answer outcome.buffer)

  accepted_left : (n units : ℕ) → verdict bytes ≡ Accepted n units → way.wrong ≡ false
      → ltb (length buffer) (result_size * units) ≡ false
      → AcceptedInto bytes buffer way.wrong n (records n) (accepted_as units (length bytes))
      (records n ++ drop (result_size * units) buffer)
  accepted_left n units passed right long =
      let (passes, counted) = facts bytes n units passed in
      let size : length (records n) ≡ result_size * units
      = length_written (way.recording n) _ (entry_at bytes) n ∙ omega (arith, counted, units_among_holds bytes n) in
      let room = ltb-false (length buffer) (result_size * units) long in
      record {
        passed = passed ∙ ap (Accepted n) counted;
        facts = passes;
        right = right;
        room = omega (arith, room, counted);
        answered_units = counted;
        answered_offset = refl;
        filled = ap (λ (many : ℕ). records n ++ drop (result_size * many) buffer) counted;
        same_length = simp (length-append, length-drop, size) (omega arith);
        rest = drop_at (records n) (drop (result_size * units) buffer) (result_size * units) size;
      }

  left_by : (says : Verdict) → verdict bytes ≡ says → Left (records_of says) (graded says)
  unfolding graded pick records_of
  left_by (Refused number at) is = inl (refusal_number bytes number at is, refl, refl)
  left_by (Accepted n units) is = go way.wrong refl (ltb (length buffer) (result_size * units)) refl
    where
      go : (wrong : Bool) → way.wrong ≡ wrong → (short : Bool) → ltb (length buffer) (result_size * units) ≡ short
          → Left n (given n units wrong short)
      go true wrong short tested = inl ((λ none. absurd (omega arith)), refl, refl)
      go false right true short = inl ((λ none. absurd (omega arith)), refl, refl)
      go false right false long = inr (refl, accepted_left n units is right long)

  module _ (answer : Answer) (results : List ℕ)
      (promise : ◌≡◌ {A = Outcome} (record { answer = answer; buffer = results }) (graded (verdict bytes))) where
    left : Left (records_in bytes) (record { answer = answer; buffer = results })
    unfolding records_in
    left = subst⁻¹ (Left (records_in bytes)) promise (left_by (verdict bytes) refl)

    pub accepted_leaves : answer.number ≡ 0
        → AcceptedInto bytes buffer way.wrong (records_in bytes) (records (records_in bytes)) answer results
    accepted_leaves none = ⊎_elim (λ kept. absurd (kept.0 none)) (λ accepted. accepted.1) left

    pub refused_leaves : (answer.number ≡ 0 → ⊥) → (results ≡ buffer) × (answer.units ≡ 0)
    refused_leaves other = ⊎_elim (λ kept. (kept.1, kept.2)) (λ accepted. absurd (other accepted.0)) left

-- From the theorems of demand 1 and of the grounds. Only their premises are computed: which answer a sheet gets.
use Prim.Native.Nat.{ℕ, ◌*◌, ◌<◌, ◌≤◌}
use mathlib.Core.Path.{◌≡◌, refl, sym, ◌∙◌, ap}
use mathlib.Core.Bool.{Bool, true, false}
use mathlib.Core.List.{List, [], ◌++◌}
use mathlib.Core.Logic.{⊎_elim}
use native.Mathlib.Omega.{arith}
use lib.Dec.{leb}
use lib.ListN.{length, drop}
use borrow.Author.Tests.{leb-true, leb-false}
use Rattle.layout.specs.Layout.{offset, mark}
use Rattle.layout.proofs.Offsets.{size_ge, offset_lt}
use Rattle.results.specs.Record.{result_size}
use Rattle.outcome.specs.declared.Answer.{Answer}
use Rattle.outcome.specs.Outcome.{Outcome}
use Rattle.tally.specs.Outcome.{outcome}
use Rattle.tally.specs.Accepted.{AcceptedAs}
use Rattle.sheet.specs.Refusals.{record_refusal}
use Rattle.grounds.specs.Answered.{StoppedAt}
use Rattle.answers.specs.Demand1.{Listed}
use Rattle.computed.specs.WorkedCases.{peach_plan, peach, peach_results}
use Rattle.computed.specs.FurtherSheets.{grounds8_and9, ground11_by_last_redesignation}
use Rattle.answers.proofs.Listed.{demand1}
use Rattle.answers.proofs.Grounds.{demand2_grounds}
use Rattle.computed.proofs.WorkedCases.{worked_cases}
use Rattle.computed.proofs.FurtherSheets.{further_sheets}
use Rattle.tally.proofs.Computing.{computing}
use Rattle.answers.specs.AnswerInstances.{RefusedInstance, AcceptedInstance, GroundInstance, AnswerInstances}

-- ---- demand 1

abbrev refused_answer : Answer
refused_answer = record { number = 11; units = 0; offset = 95 }

third_offset : offset ground11_by_last_redesignation 3 ≡ 95
unfolding computing peach_plan ground11_by_last_redesignation
third_offset = refl

-- by its number the answer is that of a refused record
stopped : Listed ground11_by_last_redesignation refused_answer
    → StoppedAt (offset ground11_by_last_redesignation) (record_refusal ground11_by_last_redesignation) (length ground11_by_last_redesignation) 11 95
unfolding Listed
stopped listed =
    ⊎_elim (λ (none, at). absurd (omega arith))
    (⊎_elim (λ (from, to, of_plan, at). absurd (omega arith))
    (⊎_elim (λ (from, to, stop). stop)
    (λ (is_13, at). absurd (omega arith)))) listed

-- by its offset that record is none of the first three
at_third : (stop : ℕ) → 95 ≡ offset ground11_by_last_redesignation stop → 3 ≤ stop
at_third stop at = go (leb 3 stop) refl
  where
    go : (test : Bool) → leb 3 stop ≡ test → 3 ≤ stop
    go true e = leb-true 3 stop e
    go false e =
        let before : stop < 3 = leb-false 3 stop e in
        absurd (omega (
          arith,
          third_offset,
          size_ge (mark ground11_by_last_redesignation stop),
          offset_lt ground11_by_last_redesignation stop 3 before,
        ))

refused : RefusedInstance
refused =
    record {
      earlier = λ j before.
          let record_stopped = stopped (demand1 ground11_by_last_redesignation [] refused_answer []
          (sym (further_sheets.refusals.ground_11_by_last_redesignation []))).listed in
          record_stopped.earlier j (omega (arith, at_third record_stopped.stop record_stopped.at_mark));
      kept = λ buffer.
          let answers = further_sheets.refusals.ground_11_by_last_redesignation buffer in
          (demand1 ground11_by_last_redesignation buffer (outcome ground11_by_last_redesignation buffer).answer
          (outcome ground11_by_last_redesignation buffer).buffer refl).refused_buffer
          (λ none. omega (arith, ap (λ given. given.answer.number) answers));
    }

-- ---- an accepted sheet

abbrev peach_answer : Answer
peach_answer = record { number = 0; units = 7; offset = 173 }

-- what it leaves of a buffer
abbrev peach_left : List ℕ → List ℕ
peach_left buffer = peach_results ++ drop (result_size * 7) buffer

peach_accepted : (buffer : List ℕ) → result_size * 7 ≤ length buffer → AcceptedAs peach buffer peach_answer (peach_left buffer)
peach_accepted buffer holds = record { promise = sym (worked_cases.p10 buffer holds); accepted = refl }

accepted : AcceptedInstance
accepted buffer holds =
    ap (λ (given : Outcome). drop (result_size * 7) given.buffer) (worked_cases.p10 buffer holds)
    ∙ (demand1 peach buffer peach_answer (peach_left buffer) (peach_accepted buffer holds).promise).accepted_rest refl

-- ---- demand 2, the grounds

grounds : GroundInstance
grounds =
    record {
      none_earlier = λ buffer.
          ((demand2_grounds grounds8_and9 buffer (record { number = 8; units = 0; offset = 89 }) buffer
          (sym (further_sheets.refusals.grounds_8_and_9 buffer))).refused (λ none. omega arith)).none_earlier;
      none_accepted = λ buffer holds.
          (demand2_grounds peach buffer peach_answer (peach_left buffer) (peach_accepted buffer holds).promise).accepted refl;
    }

pub answer_instances : AnswerInstances
answer_instances = record { refused = refused; accepted = accepted; grounds = grounds }

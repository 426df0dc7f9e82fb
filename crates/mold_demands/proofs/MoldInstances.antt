-- The instances, each from its theorem; the course of the example by its rules, unit by unit.
use Prim.Native.Nat.{ℕ, ◌*◌, ◌≤◌}
use mathlib.Core.Path.{◌≡◌, refl, sym, ◌∙◌, ap}
use mathlib.Core.Bool.{true}
use mathlib.Core.List.{List}
use mathlib.Core.Logic.{inl}
use native.Mathlib.Omega.{arith}
use lib.Dec.{lit<}
use lib.ListN.{length, drop}
use Rattle.outcome.specs.declared.Answer.{Answer}
use Rattle.outcome.specs.Outcome.{Outcome, accepted_as, refused_as}
use Rattle.cusum.specs.Integers.{largest_of_zero_and, sumℤ, runs_to_end}
use Rattle.cusum.specs.LargestForm.{tenths_less_t, largest_form, anchor_value}
use Rattle.mold.specs.Grading.{numbers_of, fails_at}
use Rattle.mold.specs.Results.{result_size}
use Rattle.mold.specs.Outcome.{MoldAcceptedAs}
use Rattle.mold.proofs.Computing.{computing}
use Rattle.mold_demands.specs.MoldRecords.{ten_fields, RawAboveLimit, MoldGradedByRules}
use Rattle.mold_demands.specs.MoldLargest.{failure, ten_fields_from}
use Rattle.mold_demands.specs.MoldSheets.{manual_example, ground17_at_second_unit}
use Rattle.mold_demands.specs.MoldInstances.{example_left, MoldInstances}
use Rattle.mold_demands.proofs.MoldAnswers.{mold_answered}
use Rattle.mold_demands.proofs.MoldGrounds.{mold_refusals}
use Rattle.mold_demands.proofs.MoldRecords.{mold_graded}
use Rattle.mold_demands.proofs.MoldLargest.{mold_largest_form}
use Rattle.mold_demands.proofs.MoldSheets.{mold_sheets}

abbrev example_answer : Answer
example_answer = accepted_as 5 28

example_accepted : (buffer : List ℕ) → result_size * 5 ≤ length buffer → MoldAcceptedAs manual_example buffer example_answer (example_left buffer)
example_accepted buffer holds = record { promise = sym (mold_sheets.levels.manual_example_holds buffer holds); accepted = refl }

-- ---- the course of the example, S 0, T 3, L 2, with 3, 3, 2, 6, 3 positive fields

abbrev T : ℕ
T = (numbers_of manual_example).tolerance

abbrev L : ℕ
L = (numbers_of manual_example).limit

numbers : ((numbers_of manual_example).start ≡ 0) × (T ≡ 30) × (L ≡ 20)
unfolding computing manual_example
numbers = (refl, refl, refl)

fields : (ten_fields manual_example 0 ≡ 30) × (ten_fields manual_example 1 ≡ 30) × (ten_fields manual_example 2 ≡ 20)
    × (ten_fields manual_example 3 ≡ 60) × (ten_fields manual_example 4 ≡ 30)
unfolding manual_example
fields = (refl, refl, refl, refl, refl)

module _ (buffer : List ℕ) (holds : result_size * 5 ≤ length buffer) where
  graded : MoldGradedByRules manual_example (example_left buffer) 5
  graded = mold_graded manual_example buffer example_answer (example_left buffer) (example_accepted buffer holds)

  abbrev cusum : ℕ → ℕ
  cusum = graded.cusum

  second : cusum 1 ≡ 0
  second =
      let begins : cusum 0 ≡ 0 = graded.rules.opening ∙ numbers.0 in
      let stays = graded.rules.between 0 (omega (arith, begins, numbers.1, fields.0)) (λ above. omega (arith, begins, numbers, fields.0)) in
      omega (arith, stays, begins, numbers.1, fields.0)

  third : cusum 2 ≡ 0
  third =
      let stays = graded.rules.between 1 (omega (arith, second, numbers.1, fields.1)) (λ above. omega (arith, second, numbers, fields.1)) in
      omega (arith, stays, second, numbers.1, fields.1)

  fourth_from : cusum 3 ≡ 0
  fourth_from = graded.rules.below 2 (omega (arith, third, numbers.1, fields.2))

  fourth_above : RawAboveLimit manual_example (cusum 3) 3
  fourth_above = omega (arith, fourth_from, numbers, fields.3)

  fifth_from : cusum 4 ≡ 20
  fifth_from = graded.rules.above 3 fourth_above ∙ numbers.2

  fifth_within : RawAboveLimit manual_example (cusum 4) 4 → ⊥
  fifth_within above = omega (arith, fifth_from, numbers, fields.4)

  sixth_from : cusum 5 ≡ 20
  sixth_from =
      let stays = graded.rules.between 4 (omega (arith, fifth_from, numbers.1, fields.4)) fifth_within in
      omega (arith, stays, fifth_from, numbers.1, fields.4)

-- ---- together

fourth_fails : fails_at manual_example 3 ≡ true
unfolding computing manual_example
fourth_fails = refl

pub mold_instances : MoldInstances
unfolding computing manual_example ground17_at_second_unit tenths_less_t largest_form anchor_value ten_fields_from largest_of_zero_and sumℤ runs_to_end
mold_instances =
    record {
      kept = λ buffer holds.
          ap (λ (given : Outcome). drop (result_size * 5) given.buffer) (mold_sheets.levels.manual_example_holds buffer holds)
          ∙ (mold_answered manual_example buffer example_answer (example_left buffer) (example_accepted buffer holds).promise).accepted_rest refl;
      none_accepted = λ buffer holds.
          (mold_refusals manual_example buffer example_answer (example_left buffer) (example_accepted buffer holds).promise).accepted refl;
      none_earlier = λ buffer number at before.
          ((mold_refusals ground17_at_second_unit buffer (refused_as 17 8) buffer (sym (mold_sheets.refusals.ground_17_at_second_unit buffer))).refused
          (λ none. omega arith)).none_earlier number at (inl before);
      fourth = λ buffer holds.
          let recorded = (graded buffer holds).recorded 3 (lit< tt) in
          (recorded.failed (fourth_above buffer holds), recorded.cusum_recorded ∙ fifth_from buffer holds);
      fifth = λ buffer holds.
          let recorded = (graded buffer holds).recorded 4 (lit< tt) in
          (recorded.met (fifth_within buffer holds), recorded.cusum_recorded ∙ sixth_from buffer holds);
      largest_of = λ buffer holds i before from units at_failure to anchor latest.
          (mold_largest_form manual_example buffer example_answer (example_left buffer) (example_accepted buffer holds) i before).largest_of
          (record { from = from; units = units; at_failure = at_failure; to_this_unit = to; is_anchor = anchor; latest = latest });
      fifth_anchor = failure 3 (omega arith) fourth_fails;
      fifth_fields = refl;
      fifth_largest = refl;
    }

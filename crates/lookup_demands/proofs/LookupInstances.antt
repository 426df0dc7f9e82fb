-- The instances, each from its theorem; what a theorem asks of three records is told record by record.
use Prim.Native.Nat.{ℕ, zero, suc, ◌*◌, ◌<◌}
use mathlib.Core.Path.{◌≡◌, refl, subst}
use mathlib.Core.Logic.{inl, inr}
use native.Mathlib.Omega.{arith}
use lib.ListN.{take}
use Rattle.lookup.specs.declared.Part.{Part}
use Rattle.lookup.specs.Lookup.{lookup}
use Rattle.lookup_demands.specs.LookupAnswers.{code_at, grade_byte_at, FirstOfWorst, PartOfResults}
use Rattle.lookup_demands.specs.LookupReading.{SameCodeAndGrade}
use Rattle.lookup_demands.specs.LookupSheets.{byte3_between_two_of_c, byte200_before255, not_there, one_byte_more}
use Rattle.lookup_demands.specs.LookupInstances.{other_bytes, LookupInstances}
use Rattle.lookup_demands.proofs.LookupAnswers.{lookup_answers}
use Rattle.lookup_demands.proofs.LookupReading.{lookup_reading}
use Rattle.lookup_demands.proofs.LookupSheets.{lookup_sheets}

-- one record before the second
before_second : (j : ℕ) → j < 1 → code_at byte3_between_two_of_c j ≡ 5 → grade_byte_at byte3_between_two_of_c j < 3
unfolding byte3_between_two_of_c
before_second zero below own = omega arith
before_second (suc j) below own = absurd (omega arith)

first_of_worst_holds : FirstOfWorst byte3_between_two_of_c 5 1
unfolding byte3_between_two_of_c
first_of_worst_holds =
    record {
      records = 3;
      whole = refl;
      inside = omega arith;
      of_code = refl;
      worst = λ j below own. inr (omega arith);
      first = λ j below own. let less = before_second j below own in (less, less);
    }

none_of_two : (j : ℕ) → j < 2 → code_at not_there j ≡ 5 → ⊥
unfolding not_there
none_of_two zero below own = omega (arith, own)
none_of_two (suc zero) below own = omega (arith, own)
none_of_two (suc (suc j)) below own = omega arith

same_three : (j : ℕ) → j < 3 → SameCodeAndGrade byte3_between_two_of_c other_bytes j
unfolding byte3_between_two_of_c other_bytes
same_three zero below = record { same_code = refl; no_worse = inl (omega arith); no_better = inl (omega arith) }
same_three (suc zero) below = record { same_code = refl; no_worse = inr (omega arith); no_better = inr (omega arith) }
same_three (suc (suc zero)) below = record { same_code = refl; no_worse = inl (omega arith); no_better = inl (omega arith) }
same_three (suc (suc (suc j))) below = absurd (omega arith)

pub lookup_instances : LookupInstances
unfolding byte3_between_two_of_c byte200_before255 not_there one_byte_more other_bytes
lookup_instances =
    let two = (lookup_reading.read_to byte3_between_two_of_c 5 3).at_first 1 (omega arith) refl (omega arith) before_second in
    record {
      first_of_worst_holds = first_of_worst_holds;
      found = λ part given. (lookup_answers.place byte3_between_two_of_c 5 part given).found 1 first_of_worst_holds;
      in_memory = λ block at back given.
          subst (λ (part : Part). PartOfResults block at byte3_between_two_of_c 5 part back) lookup_sheets.byte_3_between_two_of_c.place
          (lookup_answers.in_memory block at byte3_between_two_of_c 5 back given);
      two_read = two;
      as_full =
          subst (λ (read : ℕ). lookup (take (32 * read) byte3_between_two_of_c) 5 ≡ lookup byte3_between_two_of_c 5) two
          (lookup_reading.as_full byte3_between_two_of_c 5 3 refl);
      one_read =
          (lookup_reading.read_to byte200_before255 5 2).at_first 0 (omega arith) refl (omega arith) (λ k below own. absurd (omega (arith, below)));
      all_read = (lookup_reading.read_to not_there 5 2).all (λ k below own. absurd (none_of_two k below own));
      looked_at = lookup_reading.looked_at byte3_between_two_of_c other_bytes 5 refl (λ j inside. same_three j (omega (arith, inside)));
      not_there_holds = λ part given.
          (lookup_answers.place not_there 5 part given).not_there_holds.1 (record { records = 2; whole = refl; no_record = none_of_two });
      refused = λ part given. (lookup_answers.place one_byte_more 5 part given).refused.1 (λ records whole. omega (arith, whole));
    }

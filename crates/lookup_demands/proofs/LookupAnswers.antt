-- The answer of a look-up, by its case. In each case the other two are ruled out: by the length of the results, or because a record that is
-- the first of the worst has the code. There is one first of the worst, as `first_of_worst` gives it.
use Prim.Native.Nat.{ℕ, ◌+◌, ◌*◌, ◌%◌, ◌<◌}
use mathlib.Core.Path.{◌≡◌, refl, sym, ◌∙◌, ap, ap₂, subst}
use mathlib.Core.List.{List}
use mathlib.Core.Logic.{inl, inr}
use native.Mathlib.Omega.{arith}
use lib.ListN.{length, length-take, length-drop}
use lib.Seq.{get_or-drop, get_or-take}
use Rattle.encoding.specs.Bytes.{byte}
use Rattle.results.specs.Record.{result_size}
use Rattle.lookup.specs.Records.{result_records}
use Rattle.lookup.specs.Lookup.{found_at, not_on_this_sheet, refused_results, lookup, Handed, handed_as}
use Rattle.lookup.proofs.Worst.{FirstOf, NoneOf, first_of_worst_is}
use Rattle.lookup.proofs.Cases.{Case, refused, found, none, case_of, part_inside}
use Rattle.lookup_demands.specs.LookupAnswers.{code_at, FirstOfWorst, LookupAnswered, PartOfResults, LookupAnswers}
use Rattle.lookup_demands.proofs.Words.{no_rest, are_records, first_by_place, by_place_first, none_by_place, by_place_none}

module _ (results : List ℕ) (code : ℕ) where
  -- results with a rest
  of_refused : (length results % result_size ≡ 0 → ⊥) → LookupAnswered results code refused_results
  of_refused rest =
      record {
        listed = inr (inr refl);
        refused = ((λ _ records whole. rest (no_rest results records whole)), λ _. refl);
        not_there_holds = ((λ is. absurd (omega (arith, is))), λ has. absurd (rest (no_rest results has.records has.whole)));
        found = λ index is. absurd (rest (no_rest results is.records is.whole));
        only_found = λ is. absurd (omega (arith, is));
        empty = λ _. (refl, refl);
      }

  -- a record is the first of the worst
  of_found : (first : ℕ) → length results % result_size ≡ 0 → FirstOf results code (result_records results) first → LookupAnswered results code (found_at first)
  of_found first whole at =
      record {
        listed = inl refl;
        refused = ((λ is. absurd (omega (arith, is))), λ not_records_holds. absurd (not_records_holds (result_records results) (are_records results whole)));
        not_there_holds = ((λ is. absurd (omega (arith, is))), λ has. absurd ((by_place_none has).none first at.inside at.has_code_holds));
        found = λ index is. (refl, ap (λ (place : ℕ). result_size * place) (only index is), refl);
        only_found = λ _. (first, first_by_place whole at);
        empty = λ not_found. absurd (not_found refl);
      }
    where
      only : (index : ℕ) → FirstOfWorst results code index → first ≡ index
      only index is = sym (first_of_worst_is results code at) ∙ first_of_worst_is results code (by_place_first is)

  -- no record has the code
  of_none : length results % result_size ≡ 0 → NoneOf results code (result_records results) → LookupAnswered results code not_on_this_sheet
  of_none whole has =
      record {
        listed = inr (inl refl);
        refused = ((λ is. absurd (omega (arith, is))), λ not_records_holds. absurd (not_records_holds (result_records results) (are_records results whole)));
        not_there_holds = ((λ _. none_by_place whole has), λ _. refl);
        found = λ index is. let at = by_place_first is in absurd (has.none index at.inside at.has_code_holds);
        only_found = λ is. absurd (omega (arith, is));
        empty = λ _. (refl, refl);
      }

  answered : LookupAnswered results code (lookup results code)
  answered = go (case_of results code)
    where
      go : Case results code → LookupAnswered results code (lookup results code)
      go (refused rest is) = subst (LookupAnswered results code) (sym is) (of_refused rest)
      go (found whole first at is) = subst (LookupAnswered results code) (sym is) (of_found first whole at)
      go (none whole has is) = subst (LookupAnswered results code) (sym is) (of_none whole has)

-- ---- the part in memory

module _ (block at : ℕ) (results : List ℕ) (code : ℕ) where
  back : Handed
  back = handed_as (block, at) results (lookup results code)

  same_byte : (i : ℕ) → i < (lookup results code).length → byte back.bytes i ≡ byte results ((lookup results code).offset + i)
  unfolding back handed_as
  same_byte i below = rw (get_or-take, get_or-drop)

  -- the record that is found has the code, and the part is the record
  shows_code : (lookup results code).number ≡ 0 → code_at back.bytes 0 ≡ code
  shows_code is =
      let given = answered results code in
      let (index, first) = given.only_found is in
      let (_, place, size) = given.found index first in
      let high : byte back.bytes 2 ≡ byte results (32 * index + 2) =
      same_byte 2 (omega (arith, size)) ∙ ap (byte results) (omega (arith, place)) in
      let low : byte back.bytes 3 ≡ byte results (32 * index + 3) =
      same_byte 3 (omega (arith, size)) ∙ ap (byte results) (omega (arith, place)) in
      ap₂ (λ (x y : ℕ). 256 * x + y) high low ∙ first.of_code

  part_of : PartOfResults block at results code (lookup results code) back
  unfolding back handed_as
  part_of =
      let inside = part_inside results code (lookup results code) refl in
      record {
        number = refl;
        start = refl;
        size = simp (length-take, length-drop) (omega (arith, inside));
        bytes = same_byte;
        inside = inside;
        shows_code = shows_code;
      }

pub lookup_answers : LookupAnswers
unfolding back
lookup_answers =
    record {
      place = λ results code part is. subst (LookupAnswered results code) (sym is) (answered results code);
      in_memory = λ block at results code given is.
          subst (PartOfResults block at results code (lookup results code)) (sym is) (part_of block at results code);
    }

-- What a look-up comes to, case by case: refused, found, not on this sheet; and that the part lies inside the results. Each by its tests.
use Rattle.std.proofs.Common.{ℕ, ◌+◌, ◌-◌, ◌*◌, ◌%◌, ◌≤◌, ◌<◌, ◌≡◌, refl, sym, ◌∙◌, ap, ap₂, subst, Bool, true, false, cond, List, [], inl, inr, Option, Some, None, MatchOption, length, take, drop, length-take, length-drop, eqb, lt-ltb, le-ltb, eqb-true, eq-eqb, ne_eqb, arith}
use Rattle.std.proofs.lemmas.Bool.{cases_lt, eqb-false}
use Rattle.units.specs.Conditions.{pick}
use Rattle.results.specs.Record.{result_size}
use Rattle.lookup.specs.declared.Part.{Part}
use Rattle.lookup.specs.Records.{not_records, result_records}
use Rattle.lookup.specs.declared.Reading.{Reading}
use Rattle.lookup.specs.Reading.{one_of, reading_of}
use Rattle.lookup.specs.Lookup.{found_at, not_on_this_sheet, refused_results, first_of_worst, lookup, Handed, handed_as, handed}
use Rattle.lookup.proofs.Worst.{FirstOf, NoneOf, first_of_worst_is, first_of_none, Search, none_has_code, first_found, search_all}

module _ (results : List ℕ) (code : ℕ) where
  -- a rest is left
  pub refused_is : (length results % result_size ≡ 0 → ⊥) → lookup results code ≡ refused_results
  unfolding lookup not_records pick
  refused_is rest = rw (ne_eqb (length results % result_size) 0 rest)

  -- there is none, and a record is found
  pub found_is : {first : ℕ} → length results % result_size ≡ 0 → first_of_worst results code (result_records results) ≡ first → first < result_records results
      → lookup results code ≡ found_at first
  unfolding lookup not_records pick
  found_is {first} whole same inside = rw (eq-eqb (length results % result_size) 0 whole, same, lt-ltb first (result_records results) inside)

  -- or not
  pub none_is : {first : ℕ} → length results % result_size ≡ 0 → first_of_worst results code (result_records results) ≡ first → result_records results ≤ first
      → lookup results code ≡ not_on_this_sheet
  unfolding lookup not_records pick
  none_is {first} whole same behind = rw (eq-eqb (length results % result_size) 0 whole, same, le-ltb first (result_records results) behind)

  -- one of these it is
  pub data Case : Type 0 where
    refused : (length results % result_size ≡ 0 → ⊥) → lookup results code ≡ refused_results → Case
    found : length results % result_size ≡ 0 → (first : ℕ) → FirstOf results code (result_records results) first → lookup results code ≡ found_at first → Case
    none : length results % result_size ≡ 0 → NoneOf results code (result_records results) → lookup results code ≡ not_on_this_sheet → Case

  pub case_of : Case
  case_of = by_rest (eqb (length results % result_size) 0) refl
    where
      by_search : length results % result_size ≡ 0 → Search results code (result_records results) → Case
      by_search whole (first_found first is) = found whole first is (found_is whole (first_of_worst_is results code is) is.inside)
      by_search whole (none_has_code is) = none whole is (none_is whole (first_of_none results code is) (omega arith))

      by_rest : (whole : Bool) → eqb (length results % result_size) 0 ≡ whole → Case
      by_rest true test = by_search (eqb-true (length results % result_size) 0 test) (search_all results code (result_records results))
      by_rest false test = let rest = eqb-false (length results % result_size) 0 test in refused rest (refused_is rest)

-- ---- what a reading says of the first of the worst, which is one of so many records, or none

one_is : (n index : ℕ) (one : Option ℕ) → one ≡ one_of n index → MatchOption one (n ≤ index) (λ first. (index ≡ first) × (first < n))
one_is n index None is =
    elim (cases_lt index n) [
      | inl below ↦ let there : None ≡ Some index = is ∙ ap (λ (test : Bool). cond test (Some index) None) (lt-ltb index n below) in cc
      | inr behind ↦ behind
    ]
one_is n index (Some first) is =
    elim (cases_lt index n) [
      | inl below ↦
          let there : Some first ≡ Some index = is ∙ ap (λ (test : Bool). cond test (Some index) None) (lt-ltb index n below) in
          let same : index ≡ first = (cc) in
          (same, omega arith)
      | inr behind ↦ let none : Some first ≡ None = is ∙ ap (λ (test : Bool). cond test (Some index) None) (le-ltb index n behind) in cc
    ]

module _ (results : List ℕ) (code : ℕ) (whole : length results % result_size ≡ 0) {reading : Reading} (is : reading ≡ reading_of results code) where
  pub reading_found : {first : ℕ} → reading.first ≡ Some first → lookup results code ≡ found_at first
  reading_found {first} one =
      let place = one_is (result_records results) (first_of_worst results code (result_records results)) (Some first) (sym one ∙ ap (λ (r : Reading). r.first) is) in
      found_is results code whole place.0 place.1

  pub reading_none : reading.first ≡ None → lookup results code ≡ not_on_this_sheet
  reading_none one =
      none_is results code whole refl
      (one_is (result_records results) (first_of_worst results code (result_records results)) None (sym one ∙ ap (λ (r : Reading). r.first) is))

-- ---- the part

abbrev pub Inside : List ℕ → Part → Type 0
Inside results part = part.offset + part.length ≤ length results

pub part_inside : (results : List ℕ) (code : ℕ) (part : Part) → part ≡ lookup results code → Inside results part
part_inside results code part given = subst (Inside results) (sym given) (go (case_of results code))
  where
    go : Case results code → Inside results (lookup results code)
    go (refused rest is) = rw is (omega arith)
    go (found whole first at is) = rw is (omega (arith, at.inside))
    go (none whole no_record is) = rw is (omega arith)

-- taken from its start to its end
pub handed_part : (start : ℕ × ℕ) (results : List ℕ) (part : Part)
    → ◌≡◌ {A = Handed}
    (record {
      number = part.number;
      start = (start.0, part.offset + start.1);
      bytes = take (part.offset + part.length - part.offset) (drop part.offset results);
    })
    (handed_as start results part)
unfolding handed_as
handed_part start results part =
    let size : part.offset + part.length - part.offset ≡ part.length = omega arith in
    let begin : part.offset + start.1 ≡ start.1 + part.offset = omega arith in
    ap₂ (λ (from many : ℕ). record { number = part.number; start = (start.0, from); bytes = take many (drop part.offset results) }) begin size

-- of a record that is found: its size, and where it is in memory
module _ (results : List ℕ) (code first : ℕ) (is : lookup results code ≡ found_at first) where
  size_is : length (take (result_size * first + result_size - result_size * first) (drop (result_size * first) results)) ≡ result_size
  size_is =
      let inside : Inside results (found_at first) = subst (Inside results) is (part_inside results code (lookup results code) refl) in
      simp (length-take, length-drop) (omega (arith, inside))

  pub found_part : ◌≡◌ {A = Part}
      (record {
        number = 0;
        offset = result_size * first;
        length = length (take (result_size * first + result_size - result_size * first) (drop (result_size * first) results));
      })
      (lookup results code)
  found_part = ap (λ (size : ℕ). record { number = 0; offset = result_size * first; length = size }) size_is ∙ sym is

  pub found_handed : (start : ℕ × ℕ)
      → ◌≡◌ {A = Handed}
      (record {
        number = 0;
        start = (start.0, result_size * first + start.1);
        bytes = take (result_size * first + result_size - result_size * first) (drop (result_size * first) results);
      })
      (handed start results code)
  found_handed start = handed_part start results (found_at first) ∙ ap (handed_as start results) (sym is)

-- an empty one
pub handed_nothing : (results : List ℕ) (code number : ℕ) (start : ℕ × ℕ) → lookup results code ≡ record { number = number; offset = 0; length = 0 }
    → ◌≡◌ {A = Handed} (record { number = number; start = start; bytes = [] }) (handed start results code)
unfolding handed_as
handed_nothing results code number (block, at) is =
    let begin : at ≡ at + 0 = omega arith in
    ap (λ (from : ℕ). record { number = number; start = (block, from); bytes = [] }) begin ∙ ap (handed_as (block, at) results) (sym is)

-- A sheet of as many units as there may be, all alike, and something behind them: too long to compute, so by induction over its units.
-- The bytes of unit i are read from the one record that is repeated; every unit passes; so the check comes to what stands behind them.
use Prim.Native.Nat.{ℕ, zero, suc, ◌+◌, ◌*◌, ◌≤◌, ◌<◌}
use mathlib.Core.Path.{◌≡◌, refl, sym, ap, ◌∙◌}
use mathlib.Core.Bool.{false}
use mathlib.Core.List.{List, [], ◌∷◌, ◌++◌}
use native.Mathlib.Omega.{arith}
use lib.Dec.{ltb, leb, lit<}
use lib.ListN.{length, get_or-append}
use lib.Seq.{get_or-append-add}
use borrow.Author.Tests.{lt-ltb, le-ltb, lt-leb, ne_eqb}
use Rattle.std.proofs.Common.{Some}
use Rattle.encoding.specs.Bytes.{byte, number}
use Rattle.units.specs.Conditions.{pick}
use Rattle.layout.specs.Layout.{plan_size, count_offset, prerequisite_offset, recoverable_offset, unit_size, sample_unit_at, mark_of, mark_at, size_of, units_in, offset, mark, units_before}
use Rattle.layout.specs.declared.Mark.TheVariants.{UnitMark}
use Rattle.sheet.specs.LeftToRight.{left_to_right}
use Rattle.sheet.specs.Refusals.{most_units, refused_if, plan_refusal, count_too_large, unit_refusal, refusal_by, refusal_at, designated_before, record_refusal, check_from, verdict}
use Rattle.sheet.specs.Verdict.{Refused}
use Rattle.sheet.proofs.Grounds.{refusal_by_mark}
use Rattle.sheet.proofs.Computing.{computing}
use Rattle.outcome.specs.Outcome.{refusal}
use Rattle.tally.specs.Outcome.{outcome_by, outcome}
use Rattle.computed.specs.WorkedCases.{peach_plan}
use Rattle.computed.specs.FurtherSheets.{repeated}

-- the record that is repeated: 1: 0,0,1,2;A;1
abbrev one_record : List ℕ
one_record = 0x53 ∷ 0x55 ∷ 0 ∷ 1 ∷ 0 ∷ 0 ∷ 0 ∷ 0 ∷ 0 ∷ 1 ∷ 0 ∷ 2 ∷ 0 ∷ 1 ∷ []

module _ (behind : List ℕ) where
  -- byte k of unit i is that of the record, and behind the last unit come the bytes behind
  in_unit : (times i k : ℕ) → i < times → k < unit_size
      → byte (repeated times one_record behind) (unit_size * i + k) ≡ byte one_record k
  unfolding repeated
  in_unit zero i k h inside = absurd (omega arith)
  in_unit (suc times) zero k h inside =
      let same : unit_size * 0 + k ≡ k = omega arith in
      rw same (get_or-append one_record (repeated times one_record behind) 0 k inside)
  in_unit (suc times) (suc i) k h inside =
      let same : unit_size * suc i + k ≡ unit_size + (unit_size * i + k) = omega arith in
      rw same (get_or-append-add one_record (repeated times one_record behind) (unit_size * i + k) 0 ∙ in_unit times i k (omega arith) inside)

  past_units : (times k : ℕ) → byte (repeated times one_record behind) (unit_size * times + k) ≡ byte behind k
  unfolding repeated
  past_units zero k = let same : unit_size * 0 + k ≡ k = omega arith in rw same
  past_units (suc times) k =
      let same : unit_size * suc times + k ≡ unit_size + (unit_size * times + k) = omega arith in
      rw same (get_or-append-add one_record (repeated times one_record behind) (unit_size * times + k) 0 ∙ past_units times k)

  length_units : (times : ℕ) → length (repeated times one_record behind) ≡ unit_size * times + length behind
  unfolding repeated
  length_units zero = omega arith
  length_units (suc times) = omega (arith, length_units times)

  -- the sheet, and where unit i stands in it
  abbrev full : List ℕ
  full = peach_plan ++ repeated most_units one_record behind

  abbrev place : ℕ → ℕ
  place i = unit_size * i + plan_size

  full_unit : (i k : ℕ) → i < most_units → k < unit_size → byte full (place i + k) ≡ byte one_record k
  unfolding peach_plan
  full_unit i k h inside =
      let same : place i + k ≡ plan_size + (unit_size * i + k) = omega arith in
      rw same (get_or-append-add peach_plan (repeated most_units one_record behind) (unit_size * i + k) 0 ∙ in_unit most_units i k h inside)

  full_behind : (k : ℕ) → byte full (place most_units + k) ≡ byte behind k
  unfolding peach_plan
  full_behind k =
      let same : place most_units + k ≡ plan_size + (unit_size * most_units + k) = omega arith in
      rw same (get_or-append-add peach_plan (repeated most_units one_record behind) (unit_size * most_units + k) 0 ∙ past_units most_units k)

  full_length : length full ≡ place most_units + length behind
  unfolding peach_plan
  full_length = omega (arith, length_units most_units)

  -- every unit passes
  unit_number : (i k : ℕ) → i < most_units → k + 1 < unit_size → number full (place i + k) ≡ number one_record k
  unit_number i k h inside =
      let next : place i + k + 1 ≡ place i + (k + 1) = omega arith in
      rw (next, full_unit i k h (omega arith), full_unit i (k + 1) h inside)

  unit_mark : (i : ℕ) → i < most_units → mark_at full (place i) ≡ Some UnitMark
  unfolding mark_at mark_of pick
  unit_mark i h =
      let first : place i + 0 ≡ place i = omega arith in
      ap (λ (at : ℕ). mark_of (number full at)) (sym first) ∙ ap mark_of (unit_number i 0 h (lit< tt))

  unit_passes : (i designated : ℕ) → i < most_units → refusal_at full (place i) i designated ≡ 0
  unfolding refusal_by unit_refusal refused_if count_too_large sample_unit_at
  unit_passes i designated h =
      let whole : ltb (length full) (place i + unit_size) ≡ false = le-ltb (length full) (place i + unit_size) (omega (arith, full_length)) in
      sym (refusal_by_mark full (place i) i designated)
      ∙ rw (unit_mark i h, whole, lt-leb most_units i h)
      (rw (
        unit_number i (count_offset 0) h (lit< tt),
        unit_number i (count_offset 1) h (lit< tt),
        unit_number i (count_offset 2) h (lit< tt),
        unit_number i (count_offset 3) h (lit< tt),
        full_unit i prerequisite_offset h (lit< tt),
        full_unit i recoverable_offset h (lit< tt),
      ))

  -- record i stands there, with i units before it
  stands : (i : ℕ) → i ≤ most_units → (offset full i ≡ place i) × (units_before full i ≡ i)
  unfolding offset units_before size_of units_in
  stands zero h = (refl, refl)
  stands (suc i) h =
      let before = stands i (omega arith) in
      let unit : mark full i ≡ Some UnitMark = rw before.0 (unit_mark i h) in
      (rw (unit, before.0) (omega arith), rw (unit, before.1) (omega arith))

  passes : (i : ℕ) → i < most_units → record_refusal full i ≡ 0
  unfolding record_refusal
  passes i h = let here = stands i (omega arith) in rw (here.0, here.1) (unit_passes i (designated_before full i) h)

  -- so the check comes to what stands behind them, and stops there if it is refused
  module _ (number : ℕ) (some : 0 < number) (inside : 0 < length behind)
      (refused : (designated : ℕ) → refusal_at full (place most_units) most_units designated ≡ number) where
    last : record_refusal full most_units ≡ number
    unfolding record_refusal
    last = let here = stands most_units (lit< tt) in rw (here.0, here.1) (refused (designated_before full most_units))

    before_end : (i : ℕ) → i ≤ most_units → leb (length full) (offset full i) ≡ false
    before_end i h = lt-leb (length full) (offset full i) (omega (arith, full_length, inside, (stands i h).0))

    comes_to : (left most i : ℕ) → i + left ≡ most_units → left < most → check_from full most i ≡ Refused number (place most_units)
    unfolding left_to_right pick
    comes_to left zero i h enough = absurd (omega arith)
    comes_to zero (suc most) i h enough =
        let here : i ≡ most_units = omega arith in
        rw here (rw (before_end most_units (lit< tt), last, ne_eqb number 0 (λ none. omega (arith, some)), (stands most_units (lit< tt)).0))
    comes_to (suc left) (suc most) i h enough =
        rw (before_end i (omega arith), passes i (omega arith)) (comes_to left most (suc i) (omega arith) (omega arith))

    plan_passes : plan_refusal full ≡ 0
    unfolding computing peach_plan
    plan_passes = rw (le-ltb (length full) plan_size (omega (arith, full_length)))

    stops : (buffer : List ℕ) → outcome full buffer ≡ refusal number (place most_units) buffer
    unfolding outcome outcome_by verdict pick
    stops buffer = rw (plan_passes, comes_to most_units (length full) 0 (omega arith) (omega (arith, full_length)))

  -- a unit stands behind them: refused with 7 if it is cut short, else with 12
  module _ (unit : number behind 0 ≡ number one_record 0) where
    behind_mark : mark_at full (place most_units) ≡ Some UnitMark
    unfolding mark_at mark_of pick
    behind_mark = rw (full_behind 0, full_behind 1, unit)

    pub cut_short : 0 < length behind → length behind < unit_size → (buffer : List ℕ) → outcome full buffer ≡ refusal 7 (place most_units) buffer
    unfolding refusal_by unit_refusal refused_if
    cut_short inside short = stops 7 (lit< tt) inside (λ designated.
        sym (refusal_by_mark full (place most_units) most_units designated)
        ∙ rw (behind_mark, lt-ltb (length full) (place most_units + unit_size) (omega (arith, full_length, short))))

    pub one_too_many : unit_size ≤ length behind → (buffer : List ℕ) → outcome full buffer ≡ refusal 12 (place most_units) buffer
    unfolding refusal_by unit_refusal refused_if
    one_too_many whole = stops 12 (lit< tt) (omega (arith, whole)) (λ designated.
        sym (refusal_by_mark full (place most_units) most_units designated)
        ∙ rw (behind_mark, le-ltb (length full) (place most_units + unit_size) (omega (arith, full_length, whole))))

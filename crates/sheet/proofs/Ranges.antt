-- The ranges of an accepted plan, S, T and L and the designated grade; and of an accepted sheet: prerequisite grades, counts, the number of
-- units.
-- From the grounds that are not met, one by one; the number of units by induction on the records.
use Prim.Native.Nat.{ℕ, zero, suc, ◌+◌, ◌*◌, ◌≤◌, ◌<◌}
use mathlib.Core.Path.{◌≡◌, ◌∙◌, subst}
use mathlib.Core.Logic.{⊎_elim}
use mathlib.Core.Bool.{false, ◌||◌}
use mathlib.Core.List.{List}
use Rattle.std.proofs.Common.{Option, Some}
use native.Mathlib.Omega.{arith}
use lib.Dec.{ltb, lit<}
use lib.ListN.{length}
use borrow.Author.Tests.{ltb-false, leb-false}
use Rattle.cusum.specs.Counts.{ten_times}
use Rattle.cusum.specs.declared.PlanNumbers.{PlanNumbers}
use Rattle.encoding.specs.Bytes.{byte}
use Rattle.units.specs.Conditions.{any}
use Rattle.units.specs.Words.{substandard, classes, cell_of, numbers_of, table_of, tenths_of, count_tenths}
use Rattle.units.specs.declared.Plan.{Plan}
use Rattle.units.specs.declared.SampleUnit.{SampleUnit}
use Rattle.units.specs.declared.Entry.TheVariants.{UnitRecord, Redesignation}
use Rattle.layout.specs.Layout.{grade_offset, kinds, prerequisite_offset, table_size, plan_of, sample_unit_at, mark, offset, entry_at, units_before}
use Rattle.layout.specs.declared.Mark.{Mark}
use Rattle.layout.specs.declared.Mark.TheVariants.{UnitMark, RedesignationMark}
use Rattle.layout.proofs.Offsets.{inside_unit, inside_redesignation}
use Rattle.layout.proofs.Units.{unit_or_not, entry_unit, unit_mark, redesignation_mark, next_units, same_units}
use Rattle.sheet.specs.Refusals.{largest_plan_number, largest_count, most_units, too_large, start_above_limit, smaller, smaller_in_class, any_numbers, table_refusal, plan_refusal, count_too_large, unit_refusal, redesignation_refusal, refusal_by, designated_before, record_refusal}
use Rattle.units.proofs.Lists.{in_none}
use Rattle.units.proofs.Bounds.{count_le_all}
use Rattle.units.proofs.Classes.{every_numbers}
use Rattle.units.proofs.Tests.{or_first, or_second}
use Rattle.sheet.proofs.Grounds.{ground_passed, refusal_by_mark}
use Rattle.sheet.proofs.Accepted.{Facts}

-- ---- the grounds

cell_passed : (plan : Plan) → table_refusal plan ≡ 0 → (cell : ℕ) → cell < table_size
    → ((cell_of plan cell).limit ≤ largest_plan_number) × ((cell_of plan cell).start ≤ (cell_of plan cell).limit)
unfolding table_refusal any_numbers too_large start_above_limit
cell_passed plan e cell h =
    let (large, rest) = ground_passed (any_numbers too_large plan) 3 _ (lit< tt) e in
    let (above, rest2) = ground_passed (any_numbers start_above_limit plan) 4 _ (lit< tt) rest in
    let small = or_second (ltb largest_plan_number (cell_of plan cell).start) _ (in_none table_size _ large cell h) in (
      ltb-false largest_plan_number (cell_of plan cell).limit (or_second (ltb largest_plan_number (cell_of plan cell).tolerance) _ small),
      ltb-false (cell_of plan cell).limit (cell_of plan cell).start (in_none table_size _ above cell h),
    )

-- in a class T is not smaller at B than at A, nor at C than at B
tolerances_passed : (plan : Plan) → table_refusal plan ≡ 0 → (class : ℕ) → class < length classes →
    let tolerance : ℕ → ℕ = λ grade. (numbers_of (table_of plan) grade class).tolerance in
    (tolerance 0 ≤ tolerance 1) × (tolerance 1 ≤ tolerance 2)
unfolding table_refusal smaller_in_class smaller
tolerances_passed plan e class known =
    let numbers : ℕ → PlanNumbers = λ grade. numbers_of (table_of plan) grade class in
    let (large, rest) = ground_passed (any_numbers too_large plan) 3 _ (lit< tt) e in
    let (above, rest2) = ground_passed (any_numbers start_above_limit plan) 4 _ (lit< tt) rest in
    let (smaller_below, rest3) = ground_passed (any (smaller_in_class plan) classes) 5 _ (lit< tt) rest2 in
    let here : (smaller (numbers 0) (numbers 1) || smaller (numbers 1) (numbers 2)) ≡ false
    = in_none (length classes) _ smaller_below class known in (
      ltb-false (numbers 1).tolerance (numbers 0).tolerance (or_first _ _ (or_first (smaller (numbers 0) (numbers 1)) _ here)),
      ltb-false (numbers 2).tolerance (numbers 1).tolerance (or_first _ _ (or_second (smaller (numbers 0) (numbers 1)) _ here)),
    )

-- no count is too large
record CountsFit (unit : SampleUnit) : Type 0 where
  critical : unit.critical.0 ≤ largest_count
  severe : unit.severe.0 ≤ largest_count
  major : unit.major.0 ≤ largest_count
  minor : unit.minor.0 ≤ largest_count

counts_passed : (unit : SampleUnit) → count_too_large unit ≡ false → CountsFit unit
unfolding count_too_large
counts_passed unit e =
    let behind_critical = or_second (ltb largest_count unit.critical.0) _ e in
    let behind_severe = or_second (ltb largest_count unit.severe.0) _ behind_critical in
    record {
      critical = ltb-false largest_count unit.critical.0 (or_first _ _ e);
      severe = ltb-false largest_count unit.severe.0 (or_first _ _ behind_critical);
      major = ltb-false largest_count unit.major.0 (or_first _ _ behind_severe);
      minor = ltb-false largest_count unit.minor.0 (or_second (ltb largest_count unit.major.0) _ behind_severe);
    }

unit_passed : (bytes : List ℕ) (at units : ℕ) → unit_refusal bytes at units ≡ 0
    → (units < most_units) × ((sample_unit_at bytes at).prerequisite ≤ substandard) × CountsFit (sample_unit_at bytes at)
unfolding unit_refusal sample_unit_at
unit_passed bytes at units e =
    let (whole, rest) = ground_passed _ 7 _ (lit< tt) e in
    let (few, rest2) = ground_passed _ 12 _ (lit< tt) rest in
    let (counts, rest3) = ground_passed _ 8 _ (lit< tt) rest2 in
    let (last, none) = ground_passed _ 9 _ (lit< tt) rest3 in (
      leb-false most_units units few,
      ltb-false substandard (byte bytes (at + prerequisite_offset)) (or_first _ _ last),
      counts_passed (sample_unit_at bytes at) counts,
    )

redesignation_passed : (bytes : List ℕ) (at designated : ℕ) → redesignation_refusal bytes at designated ≡ 0
    → byte bytes (at + grade_offset) ≤ 2
unfolding redesignation_refusal
redesignation_passed bytes at designated e =
    let (whole, rest) = ground_passed _ 7 _ (lit< tt) e in
    let (low, rest2) = ground_passed _ 10 _ (lit< tt) rest in
    ltb-false 2 (byte bytes (at + grade_offset)) low

-- ---- an accepted plan, whatever stands behind it

module _ (bytes : List ℕ) (passes : plan_refusal bytes ≡ 0) where
  plan_passed : (byte bytes grade_offset ≤ 2) × (table_refusal (plan_of bytes) ≡ 0)
  unfolding plan_refusal
  plan_passed =
      let (mark, rest) = ground_passed _ 1 _ (lit< tt) passes in
      let (grade, table) = ground_passed _ 2 _ (lit< tt) rest in
      (ltb-false 2 (byte bytes grade_offset) grade, table)

  pub designated_le : (plan_of bytes).designated ≤ 2
  unfolding plan_of
  designated_le = plan_passed.0

  -- for every grade and class: where there is no plan, L is zero
  pub limit_le : (grade class : ℕ) → (numbers_of (table_of (plan_of bytes)) grade class).limit ≤ largest_plan_number
  limit_le =
      every_numbers (plan_of bytes) (λ (numbers : PlanNumbers). numbers.limit ≤ largest_plan_number) (omega arith)
      (λ grade class g k. (cell_passed (plan_of bytes) plan_passed.1 (length classes * grade + class) (omega arith)).0)

  pub start_le_limit : (grade class : ℕ) →
      let numbers = numbers_of (table_of (plan_of bytes)) grade class in
      numbers.start ≤ numbers.limit
  start_le_limit =
      every_numbers (plan_of bytes) (λ (numbers : PlanNumbers). numbers.start ≤ numbers.limit) (omega arith)
      (λ grade class g k. (cell_passed (plan_of bytes) plan_passed.1 (length classes * grade + class) (omega arith)).1)

  -- T is not smaller at a lower grade
  pub tolerance_rises : (better lower class : ℕ) → better ≤ lower → lower < substandard → class < length classes
      → (numbers_of (table_of (plan_of bytes)) better class).tolerance ≤ (numbers_of (table_of (plan_of bytes)) lower class).tolerance
  tolerance_rises better lower class order planned known = go better lower order planned (tolerances_passed (plan_of bytes) plan_passed.1 class known)
    where
      tolerance : ℕ → ℕ
      tolerance grade = (numbers_of (table_of (plan_of bytes)) grade class).tolerance

      go : (better lower : ℕ) → better ≤ lower → lower < substandard → (tolerance 0 ≤ tolerance 1) × (tolerance 1 ≤ tolerance 2) → tolerance better ≤ tolerance lower
      go zero zero order planned (ab, bc) = omega arith
      go zero (suc zero) order planned (ab, bc) = ab
      go zero (suc (suc zero)) order planned (ab, bc) = omega (arith, ab, bc)
      go (suc zero) (suc zero) order planned (ab, bc) = omega arith
      go (suc zero) (suc (suc zero)) order planned (ab, bc) = bc
      go (suc (suc zero)) (suc (suc zero)) order planned (ab, bc) = omega arith
      go (suc better) zero order planned (ab, bc) = absurd (omega arith)
      go (suc (suc better)) (suc zero) order planned (ab, bc) = absurd (omega arith)
      go (suc (suc (suc better))) (suc (suc zero)) order planned (ab, bc) = absurd (omega arith)
      go better (suc (suc (suc lower))) order planned (ab, bc) = absurd (omega arith)

-- ---- an accepted sheet

module _ (bytes : List ℕ) (n : ℕ) (facts : Facts bytes n) where
  -- the grounds of a record with this mark, none of which is met
  passed_as : (m : Option Mark) (i : ℕ) → i < n → mark bytes i ≡ m
      → refusal_by bytes (offset bytes i) (units_before bytes i) (designated_before bytes i) m ≡ 0
  unfolding record_refusal
  passed_as m i h e =
      subst (λ (x : Option Mark). refusal_by bytes (offset bytes i) (units_before bytes i) (designated_before bytes i) x ≡ 0) e
      (refusal_by_mark bytes (offset bytes i) (units_before bytes i) (designated_before bytes i) ∙ (facts.within i h).1)

  unit_here : (i : ℕ) → mark bytes i ≡ Some UnitMark
      → (units_before bytes i < most_units) × ((sample_unit_at bytes (offset bytes i)).prerequisite ≤ substandard) × CountsFit (sample_unit_at bytes (offset bytes i))
  unfolding refusal_by
  unit_here i e =
      unit_passed bytes (offset bytes i) (units_before bytes i) (passed_as (Some UnitMark) i (inside_unit bytes n facts.end i e) e)

  -- a unit's prerequisite grade is a grade
  pub prerequisite_le : (i : ℕ) (unit : SampleUnit) → entry_at bytes i ≡ UnitRecord unit → unit.prerequisite ≤ substandard
  prerequisite_le i unit e =
      let is_unit = unit_mark bytes i unit e in
      let read = entry_unit bytes i is_unit in
      let same : sample_unit_at bytes (offset bytes i) ≡ unit = cc in
      subst (λ (u : SampleUnit). u.prerequisite ≤ substandard) same (unit_here i is_unit).1

  -- the count of a class is at most the largest in every kind together, in tenths
  pub count_le : (i : ℕ) → mark bytes i ≡ Some UnitMark → (class : ℕ) → count_tenths (tenths_of (sample_unit_at bytes (offset bytes i))) class ≤ ten_times (kinds * largest_count)
  count_le i is_unit class =
      let unit = sample_unit_at bytes (offset bytes i) in
      let fit = (unit_here i is_unit).2 in
      omega (arith, count_le_all unit class, fit.critical, fit.severe, fit.major, fit.minor)

  -- a redesignation names A, B or C
  pub new_grade_le : (i new : ℕ) → entry_at bytes i ≡ Redesignation new → new ≤ 2
  unfolding refusal_by
  new_grade_le i new e =
      let (marked, read) = redesignation_mark bytes i new e in
      let passed = passed_as (Some RedesignationMark) i (inside_redesignation bytes n facts.end i marked) marked in
      omega (arith, read, redesignation_passed bytes (offset bytes i) (designated_before bytes i) passed)

  pub units_most : (i : ℕ) → units_before bytes i ≤ most_units
  unfolding units_before
  units_most zero = omega arith
  units_most (suc i) =
      ⊎_elim
      (λ is_unit. omega (arith, next_units bytes i is_unit, (unit_here i is_unit).0))
      (λ none. omega (arith, same_units bytes i none, units_most i))
      (unit_or_not bytes i)

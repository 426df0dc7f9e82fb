-- Code grading over what records write, whatever is recorded of a unit: what the pass reads there are the units' codes and recorded
-- portion grades, and what it leaves is what the records write with the worst recorded portion grade of each code.
-- By induction on the records, each result record read back where it stands.
use Prim.Native.Nat.{ℕ, zero, suc, ◌+◌, ◌*◌, ◌≤◌, ◌<◌}
use mathlib.Core.Path.{◌≡◌, refl, sym, ◌∙◌, ap, ap₂, subst, subst₂}
use mathlib.Core.List.{List, [], ◌++◌, append_assoc, append-nil}
use native.Mathlib.Nat.{add-zero}
use native.Mathlib.Numerals.{add-one}
use native.Mathlib.Omega.{arith}
use lib.ListN.{length, take, drop, set}
use Rattle.std.proofs.lemmas.List.{take_at, drop_at}
use Rattle.units.specs.Words.{worse, substandard}
use Rattle.units.specs.Records.{units_of, units_among, portion_grade_with, worst_before}
use Rattle.units.specs.declared.SampleUnit.{SampleUnit}
use Rattle.units.specs.declared.Entry.{Entry}
use Rattle.units.specs.declared.Entry.TheVariants.{UnitRecord, Redesignation, Break}
use Rattle.units.proofs.Records.{record_of_unit}
use Rattle.results.specs.declared.ResultRecord.{ResultRecord}
use Rattle.results.specs.Record.{result_size, code_grade_offset, result_bytes, code_in, portion_grade_in, code_grade_in}
use Rattle.results.specs.Written.{bytes_by, written}
use Rattle.results.proofs.Stores.{set_behind}
use Rattle.results.proofs.Written.{length_written, portion_written, code_grade_written, code_written}
use Rattle.codes.specs.Codes.{result_records, ungraded, portion_grade_if, worst_in, with_code_grades, codes_graded, Ungraded}

-- what is recorded of a unit can be graded by code: the unit's own code, in two bytes, and a portion grade
pub record Gradable (unit : SampleUnit) (result : ResultRecord) : Type 0 where
  pub own_code : result.code ≡ unit.code
  pub code_fits : unit.code < 65536
  pub portion_grade_holds : result.portion ≤ substandard

-- ---- grades stored in what records write

-- in the result record behind others
one_stored : (before : List ℕ) (units code_grade grade : ℕ) (result : ResultRecord) (rest : List ℕ) → length before ≡ result_size * units
    → set (before ++ (result_bytes code_grade result ++ rest)) (result_size * units + code_grade_offset) grade
    ≡ before ++ (result_bytes grade result ++ rest)
unfolding result_bytes
one_stored before units code_grade grade result rest start =
    rw (← start) (set_behind before (result_bytes code_grade result ++ rest) code_grade_offset grade)

module _ (recording : ℕ → SampleUnit → ResultRecord) (entry : ℕ → Entry) (old new stored : ℕ → ℕ) where
  grades_stored : (n : ℕ) (rest : List ℕ)
      → ((i : ℕ) → i < n → (unit : SampleUnit) → entry i ≡ UnitRecord unit → stored (units_among entry i) ≡ new unit.code)
      → with_code_grades stored (written recording old entry n ++ rest) (units_among entry n) ≡ written recording new entry n ++ rest
  unfolding with_code_grades written bytes_by units_among units_of
  grades_stored zero rest same = refl
  grades_stored (suc n) rest same =
      go (entry n) (same n (omega arith)) (λ more. grades_stored n more (λ i below. same i (omega arith)))
    where
      go : (last : Entry) → ((unit : SampleUnit) → last ≡ UnitRecord unit → stored (units_among entry n) ≡ new unit.code)
          → ((more : List ℕ)
          → with_code_grades stored (written recording old entry n ++ more) (units_among entry n) ≡ written recording new entry n ++ more)
          → with_code_grades stored ((written recording old entry n ++ bytes_by recording old n last) ++ rest) (units_among entry n + units_of last)
          ≡ (written recording new entry n ++ bytes_by recording new n last) ++ rest
      go (UnitRecord unit) here earlier =
          let grade = new unit.code in
          let was = result_bytes (old unit.code) (recording n unit) in
          let is = result_bytes grade (recording n unit) in
          rw (
            append_assoc (written recording old entry n) was rest,
            append_assoc (written recording new entry n) is rest,
            add-one,
            earlier (was ++ rest),
            here unit refl,
          )
          (one_stored (written recording new entry n) (units_among entry n) (old unit.code) grade (recording n unit) rest
          (length_written recording new entry n))
      go (Redesignation new_grade_holds) here earlier = simp (append-nil, add-zero) (earlier rest)
      go Break here earlier = simp (append-nil, add-zero) (earlier rest)

-- ---- what the pass reads, and what it leaves

module _ (recording : ℕ → SampleUnit → ResultRecord) (entry : ℕ → Entry) (n : ℕ) (rest : List ℕ)
    (gradable : (i : ℕ) → i < n → (unit : SampleUnit) → entry i ≡ UnitRecord unit → Gradable unit (recording i unit)) where
  -- the buffer as the writer leaves it
  abbrev buffer : List ℕ
  buffer = written recording (λ code. ungraded) entry n ++ rest

  abbrev recorded_portion : ℕ → SampleUnit → ℕ
  recorded_portion i unit = (recording i unit).portion

  -- no code is graded yet, and each portion has a grade
  pub ungraded_yet : Ungraded buffer (units_among entry n)
  ungraded_yet =
      record {
        no_code_grade = λ j below.
            let own = record_of_unit entry n j below in
            subst (λ (k : ℕ). code_grade_in buffer k ≡ ungraded) own.units_before_holds
            (code_grade_written recording (λ code. ungraded) entry n rest own.index own.inside own.unit own.is_unit);
        portion_grade_holds = λ j below.
            let own = record_of_unit entry n j below in
            subst (λ (k : ℕ). portion_grade_in buffer k ≤ substandard) own.units_before_holds
            (rw (portion_written recording (λ code. ungraded) entry n rest own.index own.inside own.unit own.is_unit)
            (gradable own.index own.inside own.unit own.is_unit).portion_grade_holds);
      }

  code_read_back : (i : ℕ) → i < n → (unit : SampleUnit) → entry i ≡ UnitRecord unit → code_in buffer (units_among entry i) ≡ unit.code
  code_read_back i inside unit is_unit =
      let fit = gradable i inside unit is_unit in
      code_written recording (λ code. ungraded) entry n rest i inside unit is_unit (rw fit.own_code fit.code_fits) ∙ fit.own_code

  -- the worst portion grade of a code among the result records is that among the units
  worst_is : (code i : ℕ) → i ≤ n → worst_in buffer code (units_among entry i) ≡ worst_before recorded_portion entry code i
  unfolding worst_in portion_grade_if worst_before portion_grade_with units_among units_of
  worst_is code zero within = refl
  worst_is code (suc i) within = go (entry i) refl (worst_is code i (omega arith))
    where
      go : (last : Entry) → entry i ≡ last → worst_in buffer code (units_among entry i) ≡ worst_before recorded_portion entry code i
          → worst_in buffer code (units_among entry i + units_of last)
          ≡ worse (worst_before recorded_portion entry code i) (portion_grade_with recorded_portion code i last)
      go (UnitRecord unit) is_last earlier =
          rw (
            add-one,
            earlier,
            code_read_back i (omega arith) unit is_last,
            portion_written recording (λ code. ungraded) entry n rest i (omega arith) unit is_last,
          )
      go (Redesignation new) is_last earlier = rw (add-zero, earlier) (omega arith)
      go Break is_last earlier = rw (add-zero, earlier) (omega arith)

  -- all codes graded: what the records write with these code grades, and behind it what was there
  pub codes_are : codes_graded buffer (units_among entry n)
      ≡ written recording (λ code. worst_before (λ i unit. (recording i unit).portion) entry code n) entry n ++ rest
  unfolding codes_graded
  codes_are =
      grades_stored recording entry (λ code. ungraded) (λ code. worst_before recorded_portion entry code n)
      (λ j. worst_in buffer (code_in buffer j) (units_among entry n)) n rest
      (λ i inside unit is_unit.
      ap (λ (code : ℕ). worst_in buffer code (units_among entry n)) (code_read_back i inside unit is_unit)
      ∙ worst_is unit.code n (omega arith))

-- ---- as the code has it: the records at the start of a buffer with what the records have written, no code graded yet, and so many units

module _ (recording : ℕ → SampleUnit → ResultRecord) (entry : ℕ → Entry) (n : ℕ) (rest : List ℕ)
    (gradable : (i : ℕ) → i < n → (unit : SampleUnit) → entry i ≡ UnitRecord unit → Gradable unit (recording i unit))
    {units : ℕ} (counted : units ≡ units_among entry n)
    {raw : List ℕ} (is_raw : raw ≡ written recording (λ code. ungraded) entry n ++ rest) where
  abbrev graded_by : (ℕ → ℕ) → List ℕ
  graded_by grade = written recording grade entry n

  size_is : length (graded_by (λ code. ungraded)) ≡ result_size * units
  size_is = length_written recording (λ code. ungraded) entry n ∙ ap (λ many. result_size * many) (sym counted)

  records_are : take (result_size * units) raw ≡ graded_by (λ code. ungraded) ++ []
  records_are = rw (is_raw, ← size_is, append-nil) (take_at (graded_by (λ code. ungraded)) rest _ refl)

  many_are : result_records (take (result_size * units) raw) ≡ units_among entry n
  many_are = omega (arith, ap length records_are ∙ ap length (append-nil (graded_by (λ code. ungraded))) ∙ size_is, counted)

  -- the pass can begin
  pub ready_for_codes : Ungraded (take (result_size * units) raw) (result_records (take (result_size * units) raw))
  ready_for_codes = subst₂ Ungraded (sym records_are) (sym many_are) (ungraded_yet recording entry n [] gradable)

  pub codes_done : codes_graded (take (result_size * units) raw) (result_records (take (result_size * units) raw)) ++ drop (result_size * units) raw
      ≡ graded_by (λ code. worst_before (λ i unit. (recording i unit).portion) entry code n) ++ rest
  codes_done =
      ap₂ ◌++◌ (ap₂ codes_graded records_are many_are ∙ codes_are recording entry n [] gradable ∙ append-nil (graded_by _))
      (rw is_raw (drop_at (graded_by (λ code. ungraded)) rest (result_size * units) size_is))

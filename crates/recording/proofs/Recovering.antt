-- What the result buffer holds once m records are done, and how one record more changes it: a unit's record is added unrecovered; where
-- step 3 does not end nothing else changes; where it ends, the three units of the finished run are recovered, each in its own record.
-- Over any sheet: by what is recorded of each unit so far, and by induction on the records for a store into one of them.
use Prim.Native.Nat.{ℕ, zero, suc, ◌+◌, ◌*◌, ◌≤◌, ◌<◌}
use mathlib.Core.Path.{◌≡◌, refl, sym, ◌∙◌, ap, ap₂, subst}
use mathlib.Core.Logic.{◌⊎◌, inl, inr}
use mathlib.Core.Bool.{Bool, true, false, ◌&&◌, ◌||◌}
use mathlib.Core.List.{List, ◌++◌, append_assoc}
use native.Mathlib.Nat.{eq-or-lt_of_le, le_of_suc-le-suc}
use native.Mathlib.Omega.{arith}
use lib.Dec.{leb, eqb}
use lib.ListN.{length, drop, set}
use lib.Seq.{sets}
use borrow.Author.Tests.{lt-ltb, le-ltb, leb-true, leb-false, eqb-true, eqb-false, eq-eqb, ne_eqb}
use Rattle.units.specs.Words.{worse}
use Rattle.units.specs.Conditions.{pick}
use Rattle.units.specs.Unit.{portion_grade_of}
use Rattle.units.specs.Records.{units_of, units_among}
use Rattle.units.specs.declared.SampleUnit.{SampleUnit}
use Rattle.units.specs.declared.Entry.{Entry}
use Rattle.units.specs.declared.Entry.TheVariants.{UnitRecord, Redesignation, Break}
use Rattle.std.proofs.Math.Bool.{and-true, and-false, or-true}
use Rattle.rules.specs.Sheet.{Sheet, designated_at, step_three_ends_at, in_finished_run, recovered, standing_of}
use Rattle.results.specs.Record.{result_size, portion_grade_offset, standing_offset, result_bytes}
use Rattle.results.specs.Written.{bytes_by, written}
use Rattle.results.specs.declared.ResultRecord.{ResultRecord}
use Rattle.results.proofs.Stores.{set_behind}
use Rattle.results.proofs.Written.{written_alike, length_written, own_added, none_added}
use Rattle.codes.specs.Codes.{ungraded}
use Rattle.recording.specs.Sheet.{result_with, result_if, result_of}
use Rattle.recording.specs.Recovering.{ended_at, recovered_so_far, recording_so_far, written_at, written_so_far, recovered_in}

-- what is recorded where a unit is recovered by this test
abbrev recording_with : Sheet → (ℕ → SampleUnit → Bool) → ℕ → SampleUnit → ResultRecord
recording_with sheet test i unit = result_if sheet i unit (test i unit)

module _ (sheet : Sheet) where
  -- ---- ends among the first records

  ended_below : (m j : ℕ) → j < m → ended_at sheet m j ≡ step_three_ends_at sheet j
  unfolding ended_at
  ended_below m j h = rw (lt-ltb j m h)

  ended_behind : (m j : ℕ) → m ≤ j → ended_at sheet m j ≡ false
  unfolding ended_at
  ended_behind m j h = rw (le-ltb j m h)

  -- one record more changes the test at that record alone
  ended_other : (m j : ℕ) → (j ≡ m → ⊥) → ended_at sheet m j ≡ ended_at sheet (suc m) j
  ended_other m j other = go (leb m j) refl
    where
      go : (later : Bool) → leb m j ≡ later → ended_at sheet m j ≡ ended_at sheet (suc m) j
      go false e =
          let below = leb-false m j e in
          ended_below m j below ∙ sym (ended_below (suc m) j (omega arith))
      go true e = ended_behind m j (leb-true m j e) ∙ sym (ended_behind (suc m) j (omega (arith, leb-true m j e, other)))

  -- where step 3 does not end, not even there
  ended_same : (m : ℕ) → step_three_ends_at sheet m ≡ false → (j : ℕ) → ended_at sheet m j ≡ ended_at sheet (suc m) j
  ended_same m stays j = go (eqb j m) refl
    where
      go : (same : Bool) → eqb j m ≡ same → ended_at sheet m j ≡ ended_at sheet (suc m) j
      go true e =
          let here : j ≡ m = eqb-true j m e in
          ended_behind m j (omega arith) ∙ sym (ended_below (suc m) j (omega arith) ∙ ap (step_three_ends_at sheet) here ∙ stays)
      go false e = ended_other m j (eqb-false j m e)

  recovered_same : (m m' i : ℕ) (unit : SampleUnit) → ((j : ℕ) → i ≤ j → j ≤ i + 2 → ended_at sheet m j ≡ ended_at sheet m' j)
      → recovered_so_far sheet m i unit ≡ recovered_so_far sheet m' i unit
  unfolding recovered_so_far
  recovered_same m m' i unit same =
      rw (same i (omega arith) (omega arith), same (i + 1) (omega arith) (omega arith), same (i + 2) (omega arith) (omega arith))

  -- the unit that is record m is not recovered before it is done
  not_yet : (m : ℕ) (unit : SampleUnit) → recovered_so_far sheet m m unit ≡ false
  unfolding recovered_so_far
  not_yet m unit =
      rw (ended_behind m m (omega arith), ended_behind m (m + 1) (omega arith), ended_behind m (m + 2) (omega arith)) (and-false unit.recoverable)

  -- ---- one record more

  module _ (old : List ℕ) (m : ℕ) where
    -- a unit's record is added
    pub unit_written : (unit : SampleUnit) → sheet.entry m ≡ UnitRecord unit → result_size * units_among sheet.entry (suc m) ≤ length old
        → sets (written_so_far sheet old m) (result_size * units_among sheet.entry m) (result_bytes ungraded (result_if sheet m unit false))
        ≡ written_at sheet old m (suc m)
    unfolding written_at recording_so_far
    unit_written unit is_unit room =
        ap (λ (flag : Bool). sets (written_so_far sheet old m) (result_size * units_among sheet.entry m) (result_bytes ungraded (result_if sheet m unit flag)))
        (sym (not_yet m unit))
        ∙ own_added (recording_so_far sheet m) (λ code. ungraded) sheet.entry m unit is_unit old room

    -- where step 3 does not end, that is all
    pub nothing_recovered : step_three_ends_at sheet m ≡ false → written_at sheet old m (suc m) ≡ written_so_far sheet old (suc m)
    unfolding written_at recording_so_far
    nothing_recovered stays =
        ap (λ (w : List ℕ). w ++ drop (result_size * units_among sheet.entry (suc m)) old)
        (written_alike (recording_so_far sheet m) (recording_so_far sheet (suc m)) (λ code. ungraded) sheet.entry (suc m)
        (λ i below unit is_unit. ap (result_if sheet i unit) (recovered_same m (suc m) i unit (λ j from to. ended_same m stays j))))

    -- a record that is no unit writes nothing
    pub none_written : units_of (sheet.entry m) ≡ 0 → step_three_ends_at sheet m ≡ false → written_so_far sheet old m ≡ written_so_far sheet old (suc m)
    unfolding written_at
    none_written none stays = none_added (recording_so_far sheet m) (λ code. ungraded) sheet.entry m none old ∙ nothing_recovered stays

  -- ---- when all records are done

  pub all_recovered : (n : ℕ) → ((j : ℕ) → n ≤ j → step_three_ends_at sheet j ≡ false) → (old : List ℕ)
      → written_so_far sheet old n
      ≡ written (result_of sheet) (λ code. ungraded) sheet.entry n ++ drop (result_size * units_among sheet.entry n) old
  unfolding written_at recording_so_far result_of
  all_recovered n none_behind old =
      ap (λ (w : List ℕ). w ++ drop (result_size * units_among sheet.entry n) old)
      (written_alike (recording_so_far sheet n) (result_of sheet) (λ code. ungraded) sheet.entry n
      (λ i below unit is_unit. ap (result_if sheet i unit) (unfold recovered_so_far recovered in_finished_run in rw (ended i, ended (i + 1), ended (i + 2)))))
    where
      ended : (j : ℕ) → ended_at sheet n j ≡ step_three_ends_at sheet j
      ended j = go (leb n j) refl
        where
          go : (later : Bool) → leb n j ≡ later → ended_at sheet n j ≡ step_three_ends_at sheet j
          go true e = ended_behind n j (leb-true n j e) ∙ sym (none_behind j (leb-true n j e))
          go false e = ended_below n j (leb-false n j e)

-- ---- a portion recovered in its record

set_two : (xs ys : List ℕ) (p s : ℕ)
    → set (set (xs ++ ys) (length xs + portion_grade_offset) p) (length xs + standing_offset) s ≡ xs ++ set (set ys portion_grade_offset p) standing_offset s
set_two xs ys p s =
    ap (λ (l : List ℕ). set l (length xs + standing_offset) s) (set_behind xs ys portion_grade_offset p)
    ∙ set_behind xs (set ys portion_grade_offset p) standing_offset s

-- in the record that stands behind others
recover_behind : (sheet : Sheet) (j designated : ℕ) (unit : SampleUnit) (flag : Bool) (before rest : List ℕ) → designated ≡ designated_at sheet j
    → (unit.recoverable ≡ false → flag ≡ false)
    → recovered_in (before ++ (result_bytes ungraded (result_if sheet j unit flag) ++ rest)) (length before) designated unit
    ≡ before ++ (result_bytes ungraded (result_if sheet j unit unit.recoverable) ++ rest)
unfolding recovered_in pick result_with result_bytes portion_grade_of standing_of
recover_behind sheet j designated unit flag before rest same_designated unmarked = go unit.recoverable refl
  where
    here : Bool → List ℕ
    here test = before ++ (result_bytes ungraded (result_if sheet j unit test) ++ rest)

    go : (marked : Bool) → unit.recoverable ≡ marked
        → pick marked
        (set (set (here flag) (length before + portion_grade_offset) (worse designated unit.prerequisite)) (length before + standing_offset) 3) (here flag)
        ≡ here marked
    go true e =
        let own = result_bytes ungraded (result_if sheet j unit flag) ++ rest in
        set_two before own (worse designated unit.prerequisite) 3
        ∙ ap (λ (grade : ℕ). before ++ set (set own portion_grade_offset (worse grade unit.prerequisite)) standing_offset 3) same_designated
    go false e = ap here (unmarked e)

-- the test of recovery with record j among the recovered, if it is marked
unfoldable also_at : ℕ → (ℕ → SampleUnit → Bool) → ℕ → SampleUnit → Bool
also_at j test i unit = pick (eqb i j) unit.recoverable (test i unit)

also_here : (j : ℕ) (test : ℕ → SampleUnit → Bool) (i : ℕ) (unit : SampleUnit) → i ≡ j → also_at j test i unit ≡ unit.recoverable
unfolding also_at pick
also_here j test i unit same = rw (eq-eqb i j same)

also_other : (j : ℕ) (test : ℕ → SampleUnit → Bool) (i : ℕ) (unit : SampleUnit) → (i ≡ j → ⊥) → also_at j test i unit ≡ test i unit
unfolding also_at pick
also_other j test i unit other = rw (ne_eqb i j other)

module _ (sheet : Sheet) (test : ℕ → SampleUnit → Bool) (j designated : ℕ) (unit : SampleUnit) (is_unit : sheet.entry j ≡ UnitRecord unit)
    (same_designated : designated ≡ designated_at sheet j) (unmarked : unit.recoverable ≡ false → test j unit ≡ false) where
  abbrev was : ℕ → List ℕ
  was n = written (recording_with sheet test) (λ code. ungraded) sheet.entry n

  abbrev now : ℕ → List ℕ
  now n = written (recording_with sheet (also_at j test)) (λ code. ungraded) sheet.entry n

  -- what a record writes but for record j
  same_bytes : (i : ℕ) (entry : Entry) → (i ≡ j → ⊥)
      → bytes_by (recording_with sheet test) (λ code. ungraded) i entry ≡ bytes_by (recording_with sheet (also_at j test)) (λ code. ungraded) i entry
  unfolding bytes_by
  same_bytes i (UnitRecord u) other = ap (λ (flag : Bool). result_bytes ungraded (result_if sheet i u flag)) (sym (also_other j test i u other))
  same_bytes i (Redesignation new) other = refl
  same_bytes i Break other = refl

  same_before : (n : ℕ) → n ≤ j → was n ≡ now n
  same_before n before =
      written_alike (recording_with sheet test) (recording_with sheet (also_at j test)) (λ code. ungraded) sheet.entry n
      (λ i below u is_u. ap (result_if sheet i u) (sym (also_other j test i u (λ same. omega arith))))

  -- the record of unit j behind those before it
  last_recovered : (entry : Entry) → entry ≡ UnitRecord unit → (rest : List ℕ)
      → recovered_in ((was j ++ bytes_by (recording_with sheet test) (λ code. ungraded) j entry) ++ rest)
      (result_size * units_among sheet.entry j) designated unit
      ≡ (now j ++ bytes_by (recording_with sheet (also_at j test)) (λ code. ungraded) j entry) ++ rest
  unfolding bytes_by
  last_recovered entry unit_here rest =
      let start : result_size * units_among sheet.entry j ≡ length (was j)
      = sym (length_written (recording_with sheet test) (λ code. ungraded) sheet.entry j) in
      let bytes : Bool → List ℕ = λ flag. result_bytes ungraded (result_if sheet j unit flag) in
      rw (unit_here, start)
      (ap (λ (l : List ℕ). recovered_in l (length (was j)) designated unit) (append_assoc (was j) (bytes (test j unit)) rest)
      ∙ recover_behind sheet j designated unit (test j unit) (was j) rest same_designated unmarked
      ∙ sym (append_assoc (was j) (bytes unit.recoverable) rest)
      ∙ ap₂ (λ (l : List ℕ) (flag : Bool). (l ++ bytes flag) ++ rest) (same_before j (omega arith)) (sym (also_here j test j unit refl)))

  -- the record of unit j among those of n records
  one_recovered : (n : ℕ) → j < n → (rest : List ℕ)
      → recovered_in (was n ++ rest) (result_size * units_among sheet.entry j) designated unit ≡ now n ++ rest
  unfolding written
  one_recovered zero inside rest = absurd (omega arith)
  one_recovered (suc n) inside rest = go (eq-or-lt_of_le (le_of_suc-le-suc inside)) (one_recovered n)
    where
      go : (j ≡ n) ⊎ (j < n)
          → (j < n → (rest : List ℕ) → recovered_in (was n ++ rest) (result_size * units_among sheet.entry j) designated unit ≡ now n ++ rest)
          → recovered_in ((was n ++ bytes_by (recording_with sheet test) (λ code. ungraded) n (sheet.entry n)) ++ rest)
          (result_size * units_among sheet.entry j) designated unit
          ≡ (now n ++ bytes_by (recording_with sheet (also_at j test)) (λ code. ungraded) n (sheet.entry n)) ++ rest
      go (inl same) earlier =
          subst (λ (i : ℕ). recovered_in ((was i ++ bytes_by (recording_with sheet test) (λ code. ungraded) i (sheet.entry i)) ++ rest)
          (result_size * units_among sheet.entry j) designated unit
          ≡ (now i ++ bytes_by (recording_with sheet (also_at j test)) (λ code. ungraded) i (sheet.entry i)) ++ rest)
          same (last_recovered (sheet.entry j) is_unit rest)
      go (inr less) earlier =
          let last = bytes_by (recording_with sheet test) (λ code. ungraded) n (sheet.entry n) in
          ap (λ (l : List ℕ). recovered_in l (result_size * units_among sheet.entry j) designated unit) (append_assoc (was n) last rest)
          ∙ earlier less (last ++ rest)
          ∙ sym (append_assoc (now n) last rest)
          ∙ ap (λ (l : List ℕ). (now n ++ l) ++ rest) (same_bytes n (sheet.entry n) (λ same. omega arith))

-- ---- the finished run recovered

-- a unit of the run that ends at record m is recovered with it, if it is marked
recovered_with : (sheet : Sheet) (m i : ℕ) (unit : SampleUnit) → step_three_ends_at sheet m ≡ true → i ≤ m → m ≤ i + 2
    → recovered_so_far sheet (suc m) i unit ≡ unit.recoverable
unfolding recovered_so_far
recovered_with sheet m i unit ends from to = go (eqb m i) refl (eqb m (i + 1)) refl
  where
    ended : (j : ℕ) → j ≡ m → ended_at sheet (suc m) j ≡ true
    ended j here = ended_below sheet (suc m) j (omega arith) ∙ ap (step_three_ends_at sheet) here ∙ ends

    go : (first : Bool) → eqb m i ≡ first → (second : Bool) → eqb m (i + 1) ≡ second
        → (unit.recoverable && (ended_at sheet (suc m) i || (ended_at sheet (suc m) (i + 1) || ended_at sheet (suc m) (i + 2)))) ≡ unit.recoverable
    go true e second f = rw (ended i (sym (eqb-true m i e))) (and-true unit.recoverable)
    go false e true f = rw (ended (i + 1) (sym (eqb-true m (i + 1) f)), or-true) (and-true unit.recoverable)
    go false e false f =
        let last : i + 2 ≡ m = omega (arith, eqb-false m i e, eqb-false m (i + 1) f) in
        rw (ended (i + 2) last, or-true, or-true) (and-true unit.recoverable)

unmarked_not : (sheet : Sheet) (m i : ℕ) (unit : SampleUnit) → unit.recoverable ≡ false → recovered_so_far sheet m i unit ≡ false
unfolding recovered_so_far
unmarked_not sheet m i unit e = rw e

module _ (sheet : Sheet) (k : ℕ) (ends : step_three_ends_at sheet (suc (suc k)) ≡ true) (designated : ℕ)
    (first second third : SampleUnit) (is_first : sheet.entry k ≡ UnitRecord first) (is_second : sheet.entry (suc k) ≡ UnitRecord second)
    (is_third : sheet.entry (suc (suc k)) ≡ UnitRecord third)
    (designated_first : designated ≡ designated_at sheet k) (designated_second : designated ≡ designated_at sheet (suc k))
    (designated_third : designated ≡ designated_at sheet (suc (suc k))) where
  abbrev m : ℕ
  m = suc (suc k)

  abbrev test : ℕ → SampleUnit → Bool
  test = recovered_so_far sheet m

  -- the three tests together are the test once record m is done
  all_three : (i : ℕ) (unit : SampleUnit) → i < suc m
      → also_at m (also_at (suc k) (also_at k test)) i unit ≡ recovered_so_far sheet (suc m) i unit
  all_three i unit below = go (eqb i m) refl (eqb i (suc k)) refl (eqb i k) refl
    where
      go : (third? : Bool) → eqb i m ≡ third? → (second? : Bool) → eqb i (suc k) ≡ second? → (first? : Bool) → eqb i k ≡ first?
          → also_at m (also_at (suc k) (also_at k test)) i unit ≡ recovered_so_far sheet (suc m) i unit
      go true e second? f first? g =
          let here : i ≡ m = eqb-true i m e in
          also_here m _ i unit here ∙ sym (recovered_with sheet m i unit ends (omega arith) (omega arith))
      go false e true f first? g =
          let here : i ≡ suc k = eqb-true i (suc k) f in
          also_other m _ i unit (eqb-false i m e) ∙ also_here (suc k) _ i unit here ∙ sym (recovered_with sheet m i unit ends (omega arith) (omega arith))
      go false e false f true g =
          let here : i ≡ k = eqb-true i k g in
          also_other m _ i unit (eqb-false i m e) ∙ also_other (suc k) _ i unit (eqb-false i (suc k) f) ∙ also_here k test i unit here
          ∙ sym (recovered_with sheet m i unit ends (omega arith) (omega arith))
      go false e false f false g =
          let third : (i ≡ m → ⊥) = eqb-false i m e in
          let second : (i ≡ suc k → ⊥) = eqb-false i (suc k) f in
          let first : (i ≡ k → ⊥) = eqb-false i k g in
          also_other m _ i unit third ∙ also_other (suc k) _ i unit second ∙ also_other k test i unit first
          ∙ recovered_same sheet m (suc m) i unit (λ j from to. ended_other sheet m j (λ same. omega arith))

  pub run_recovered : (old : List ℕ)
      → recovered_in
      (recovered_in
      (recovered_in (written_at sheet old m (suc m)) (result_size * units_among sheet.entry k) designated first)
      (result_size * units_among sheet.entry (suc k)) designated second)
      (result_size * units_among sheet.entry m) designated third
      ≡ written_so_far sheet old (suc m)
  unfolding written_at recording_so_far
  run_recovered old =
      let behind = drop (result_size * units_among sheet.entry (suc m)) old in
      let two = also_at k test in
      let three = also_at (suc k) two in
      ap (λ (l : List ℕ). recovered_in (recovered_in l (result_size * units_among sheet.entry (suc k)) designated second)
      (result_size * units_among sheet.entry m) designated third)
      (one_recovered sheet test k designated first is_first designated_first (unmarked_not sheet m k first) (suc m) (omega arith) behind)
      ∙ ap (λ (l : List ℕ). recovered_in l (result_size * units_among sheet.entry m) designated third)
      (one_recovered sheet two (suc k) designated second is_second designated_second
      (λ e. also_other k test (suc k) second (λ same. omega arith) ∙ unmarked_not sheet m (suc k) second e) (suc m) (omega arith) behind)
      ∙ one_recovered sheet three m designated third is_third designated_third
      (λ e. also_other (suc k) two m third (λ same. omega arith) ∙ also_other k test m third (λ same. omega arith) ∙ unmarked_not sheet m m third e)
      (suc m) (omega arith) behind
      ∙ ap (λ (w : List ℕ). w ++ behind)
      (written_alike (recording_with sheet (also_at m three)) (recording_with sheet (recovered_so_far sheet (suc m))) (λ code. ungraded) sheet.entry (suc m)
      (λ i below unit is_unit. ap (result_if sheet i unit) (all_three i unit below)))

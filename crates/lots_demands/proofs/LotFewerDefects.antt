-- Demand 3 for lots: with fewer defects a grade admits every class that it admitted, so that the best one is not worse.
use Prim.Native.Nat.{ℕ, zero, suc, ◌+◌, ◌*◌, ◌≤◌, ◌<◌}
use mathlib.Core.Path.{◌≡◌}
use mathlib.Core.Bool.{true}
use mathlib.Core.List.{List}
use mathlib.Core.Logic.{inl, inr}
use native.Mathlib.Omega.{arith}
use Rattle.units.proofs.Lists.{all_each, each_all}
use Rattle.grounds.proofs.Tells.{told}
use Rattle.lots.specs.Grading.{admits_class, admits, defect_grade, lot_grade}
use Rattle.lots_demands.specs.LotFields.{sample_units_at, aql_at, class_count}
use Rattle.lots_demands.specs.LotGrades.{Admits}
use Rattle.lots_demands.specs.LotFewerDefects.{AlikeLots, NoMoreDefects, LotFewerDefects}
use Rattle.lots_demands.proofs.Best.{first_mono}
use Rattle.lots_demands.proofs.LotGrades.{tells_class, accepted_grade}

module _ (lot lot' : List ℕ) (alike : AlikeLots lot lot') (fewer : NoMoreDefects lot lot') where
  -- the AQLs stand before the counts
  same_aql : (grade class : ℕ) → grade < 3 → class < 4 → aql_at lot grade class ≡ aql_at lot' grade class
  same_aql grade class g k =
      rw (
        alike.same_bytes (3 + 8 * grade + 2 * class) (inl (omega arith)),
        alike.same_bytes (4 + 8 * grade + 2 * class) (inl (omega arith)),
      )

  same_units : sample_units_at lot ≡ sample_units_at lot'
  same_units = alike.same_bytes 2 (inl (omega arith))

  fewer_in_class : (class : ℕ) → class < 4 → class_count lot class ≤ class_count lot' class
  fewer_in_class zero k = fewer 0 (omega arith)
  fewer_in_class (suc zero) k = fewer 1 (omega arith)
  fewer_in_class (suc (suc zero)) k = fewer 2 (omega arith)
  fewer_in_class (suc (suc (suc class))) k =
      omega (arith, fewer 0 (omega arith), fewer 1 (omega arith), fewer 2 (omega arith), fewer 3 (omega arith))

  still_admits : (grade class : ℕ) → grade < 3 → class < 4 → Admits lot' grade class → Admits lot grade class
  still_admits grade class g k within = rw (same_units, same_aql grade class g k) (omega (arith, fewer_in_class class k, within))

  still_all : (grade : ℕ) → grade < 3 → admits lot' grade ≡ true → admits lot grade ≡ true
  unfolding admits
  still_all grade g e =
      each_all 4 (admits_class lot grade)
      (λ class k. told (tells_class lot grade class k)
      (still_admits grade class g k ((tells_class lot' grade class k).so (all_each 4 (admits_class lot' grade) e class k))))

  defect_grade_mono : defect_grade lot ≤ defect_grade lot'
  unfolding defect_grade
  defect_grade_mono =
      first_mono (admits lot 0) (admits lot 1) (admits lot 2) (admits lot' 0) (admits lot' 1) (admits lot' 2)
      (still_all 0 (omega arith)) (still_all 1 (omega arith)) (still_all 2 (omega arith))

  lot_grade_mono : lot_grade lot ≤ lot_grade lot'
  unfolding lot_grade
  lot_grade_mono = omega (arith, defect_grade_mono, alike.same_bytes 35 (inr (omega arith)))

pub lot_fewer_defects : LotFewerDefects
lot_fewer_defects lot lot' grade grade' first second alike fewer =
    let own = accepted_grade lot first.answer first.promise first.accepted in
    let other = accepted_grade lot' second.answer second.promise second.accepted in
    omega (arith, own, other, first.its_grade, second.its_grade, lot_grade_mono lot lot' alike fewer)

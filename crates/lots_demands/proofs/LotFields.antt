-- The fields at their places are those that the definitions name.
use Prim.Native.Nat.{ℕ, zero, suc, ◌+◌, ◌*◌, ◌<◌}
use mathlib.Core.Path.{◌≡◌, refl}
use mathlib.Core.List.{List}
use native.Mathlib.Omega.{arith}
use Rattle.encoding.specs.Bytes.{byte, number}
use Rattle.lots.specs.Layout.{aql_of, count_of_kind, count_of_class}
use Rattle.lots_demands.specs.LotFields.{aql_at, count_at, class_count}

-- a number at its two places
number_at : (lot : List ℕ) (high low at : ℕ) → high ≡ at → low ≡ at + 1 → 256 * byte lot high + byte lot low ≡ number lot at
number_at lot high low at first second = rw (first, second)

pub aql_is : (lot : List ℕ) (grade class : ℕ) → aql_at lot grade class ≡ aql_of lot grade class
aql_is lot grade class = number_at lot (3 + 8 * grade + 2 * class) (4 + 8 * grade + 2 * class) (3 + 2 * (4 * grade + class)) (omega arith) (omega arith)

pub count_is : (lot : List ℕ) (kind : ℕ) → count_at lot kind ≡ (count_of_kind lot kind).0
count_is lot kind = number_at lot (27 + 2 * kind) (28 + 2 * kind) (27 + 2 * kind) refl (omega arith)

pub class_count_is : (lot : List ℕ) (class : ℕ) → class < 4 → class_count lot class ≡ (count_of_class lot class).0
class_count_is lot zero inside = refl
class_count_is lot (suc zero) inside = refl
class_count_is lot (suc (suc zero)) inside = refl
class_count_is lot (suc (suc (suc zero))) inside = refl
class_count_is lot (suc (suc (suc (suc class)))) inside = absurd (omega arith)

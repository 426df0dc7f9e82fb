-- `not_among` is `not_among`: both go from number to number.
use Prim.Native.Nat.{ℕ}
use mathlib.Core.Path.{◌≡◌, refl}
use mathlib.Core.Bool.{false, not, cond}
use mathlib.Core.List.{List}
use native.Mathlib.Omega.{arith}
use Rattle.std.proofs.Common.{nat_eq}
use Rattle.std.specs.List.{list_any}
use Rattle.std.proofs.lemmas.Bool.Decides.{nat_tests}
use Rattle.std.proofs.lemmas.List.Recursion.{same_from_clauses}
use Rattle.units.specs.Conditions.{place_of}
use Rattle.lots.specs.Refusals.{not_among}
use Rattle.lots.proofs.not_among.Goals as goal

is_among : (listed : List ℕ) (number : ℕ) → not (list_any (λ member. nat_eq member number) listed) ≡ not_among listed number
unfolding not_among place_of
is_among listed number =
    same_from_clauses (λ members. not (list_any (λ member. nat_eq member number) members)) (λ members. not_among members number)
    (λ member others. cond (nat_eq member number) false others) refl
    (λ member members. grind (arith, nat_tests))
    (λ member members. grind (arith, nat_tests)) listed

pub returns : goal.returns
returns g c = rw (c.contains.ensures.value) (is_among _ _)

-- Conditions: of some or all members of a list, one of two things by a condition, and where a number stands in a list.
use Rattle.std.specs.Prelude.{ℕ, suc, Bool, true, false, cond, ◌&&◌, ◌||◌, List, [], ◌∷◌, eqb}

-- a condition holds of a member of a list
unfoldable pub any {ℓ} : {A : Type ℓ} → (A → Bool) → List A → Bool
any condition [] = false
any condition (member ∷ members) = condition member || any condition members

-- it holds of all its members
unfoldable pub all {ℓ} : {A : Type ℓ} → (A → Bool) → List A → Bool
all condition [] = true
all condition (member ∷ members) = condition member && all condition members

-- the first if the condition holds, else the other: as the library's `cond`, which is used where the two are numbers, but unfolded
-- only where it is named
unfoldable pub pick {ℓ} : {A : Type ℓ} → Bool → A → A → A
pick true first other = first
pick false first other = other

-- how many members of a list stand before the first that is this number; all of them if none is
unfoldable pub place_of : List ℕ → ℕ → ℕ
place_of [] number = 0
place_of (first ∷ others) number = cond (eqb first number) 0 (suc (place_of others number))

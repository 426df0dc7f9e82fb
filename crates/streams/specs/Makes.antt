-- What a function that makes a text in a room leaves there.
use Rattle.std.specs.Prelude.{◌≡◌, ℕ, List}
use Rattle.std.specs.Fn.{Once, FnOnceReturnsAtMut}
use Rattle.std.specs.Borrow.{MutBor}
use Rattle.text.specs.Text.{Printing, leaving}

-- the text stands first in the room, and the function answers where it ends
abbrev pub Makes : {F T : Type 0} → Once F (MutBor T × Unit {0}) (ℕ × (MutBor T × Unit {0})) → F → (T → List ℕ) → T → List ℕ → Type 0
Makes {F} {T} calls make items room text =
    (after : T) (end : ℕ) → FnOnceReturnsAtMut calls make room end after
    → ◌≡◌ {A = Printing} (record { size = end; text = items after }) (leaving text (items room))

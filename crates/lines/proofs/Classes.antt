-- The fields of the classes, one by one: what is left of them from k on begins with the field of k, since the k-th class is k.
use Rattle.std.proofs.Common.{◌≡◌, ℕ, ◌+◌, ◌<◌, List, ◌∷◌, ◌++◌, length, drop, map, add-one, drop-cons}
use Rattle.units.specs.Words.{classes}
use Rattle.units.proofs.Classes.{class_at}
use Rattle.text.specs.Text.{space, rest_of_line}

pub fields_left : (field : ℕ → List ℕ) (k : ℕ) → k < length classes
    → rest_of_line (map field (drop k classes)) ≡ (space ∷ field k) ++ rest_of_line (map field (drop (k + 1) classes))
unfolding rest_of_line
fields_left field k inside = rw (add-one, drop-cons classes k 0 inside, class_at k inside)

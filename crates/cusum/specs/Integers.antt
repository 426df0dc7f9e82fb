-- Integers as demand 3 needs them: the largest of a list and zero, a sum, and the runs that end a list.
use Rattle.std.specs.Prelude.{min, max, List, [], ◌∷◌, ℤ, pos, negsuc, ◌+ℤ◌}

-- the larger of two integers (negsuc n is -(n + 1))
abbrev pub maxℤ : ℤ → ℤ → ℤ
maxℤ (pos a) (pos b) = pos (max a b)
maxℤ (pos a) (negsuc b) = pos a
maxℤ (negsuc a) (pos b) = pos b
maxℤ (negsuc a) (negsuc b) = negsuc (min a b)

-- the largest of zero and the integers of a list
unfoldable pub largest_of_zero_and : List ℤ → ℤ
largest_of_zero_and [] = pos 0
largest_of_zero_and (x ∷ xs) = maxℤ x (largest_of_zero_and xs)

-- the sum of a list; over no member it is zero
unfoldable pub sumℤ : List ℤ → ℤ
sumℤ [] = pos 0
sumℤ (x ∷ xs) = x +ℤ sumℤ xs

-- each run of one or more neighbours that ends with the last member: the list, the list without its first, and so on
unfoldable pub runs_to_end {ℓ} : {A : Type ℓ} → List A → List (List A)
runs_to_end [] = []
runs_to_end (x ∷ xs) = (x ∷ xs) ∷ runs_to_end xs

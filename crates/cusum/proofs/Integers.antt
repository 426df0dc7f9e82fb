-- Laws of the integers of demand 3, for omega: the larger of two, and one more member at the front of the 'largest of' form.
use Rattle.std.proofs.Common.{ℕ, ◌+◌, max, min, ◌≡◌, List, [], ◌∷◌, map, ℤ, pos, negsuc, ◌+ℤ◌, ◌≤ℤ◌, arith}
use Rattle.std.proofs.lemmas.Int.{ints}
use borrow.Author.Differences.{up, down}
use Rattle.cusum.specs.Integers.{maxℤ, largest_of_zero_and, sumℤ, runs_to_end}

-- one of the two parts of an integer is zero
pub one_side : (x : ℤ) → min (up x) (down x) ≡ 0
one_side (pos a) = omega arith
one_side (negsuc a) = omega arith

pub max_is : (x y : ℤ) → up (maxℤ x y) + (down x + down y) ≡ down (maxℤ x y) + max (up x + down y) (up y + down x)
max_is (pos a) (pos b) = omega arith
max_is (pos a) (negsuc b) = omega arith
max_is (negsuc a) (pos b) = omega arith
max_is (negsuc a) (negsuc b) = omega arith

-- the sum of the whole list is at most the largest over its runs, zero among them
sum_le : (xs : List ℤ) → sumℤ xs ≤ℤ largest_of_zero_and (map sumℤ (runs_to_end xs))
unfolding sumℤ largest_of_zero_and runs_to_end
sum_le [] = omega (arith, ints)
sum_le (x ∷ xs) = omega (arith, ints, max_is)

-- Lindley's step, unrolled once more at the front
pub unroll : (a : ℕ) (d : ℤ) (ds : List ℤ) →
    maxℤ (maxℤ (pos 0) (pos a +ℤ d) +ℤ sumℤ ds) (largest_of_zero_and (map sumℤ (runs_to_end ds)))
    ≡ largest_of_zero_and ((pos a +ℤ sumℤ (d ∷ ds)) ∷ map sumℤ (runs_to_end (d ∷ ds)))
unfolding sumℤ largest_of_zero_and runs_to_end
unroll a d ds = let whole = sum_le ds in omega (arith, ints, max_is)

-- A list cut into chunks of one size, as `as_chunks` cuts it: how many there are, and what each holds. By induction on their number.
use Rattle.std.proofs.Common.{ℕ, zero, suc, ◌+◌, ◌*◌, ◌<◌, ◌≡◌, ◌∙◌, refl, ap, List, [], length, get_or, take, drop, get_or-take, get_or-drop, arith}
use Rattle.std.proofs.lemmas.List.{drop-drop}
use Rattle.std.proofs.Math.Nat.{mul-zero}
use Rattle.std.specs.Simd.{first_chunks}

module _ {X : Type 0} (size : ℕ) where
  pub length_chunks : (many : ℕ) (xs : List X) → length (first_chunks size many xs) ≡ many
  length_chunks zero xs = refl
  length_chunks (suc many) xs = ap suc (length_chunks many (drop size xs))

  pub chunk_is : (many : ℕ) (xs : List X) (i : ℕ) (d : List X) → i < many
      → get_or (first_chunks size many xs) i d ≡ take size (drop (size * i) xs)
  chunk_is zero xs i d below = absurd (omega arith)
  chunk_is (suc many) xs zero d below = rw (mul-zero size)
  chunk_is (suc many) xs (suc i) d below =
      let next : size + size * i ≡ size * suc i = omega arith in
      rw (← next, ← drop-drop (size * i) size xs) (chunk_is many (drop size xs) i d (omega arith))

  -- item by item
  pub item_is : (many : ℕ) (xs : List X) (i j : ℕ) (d : X) → i < many → j < size
      → get_or (get_or (first_chunks size many xs) i []) j d ≡ get_or xs (size * i + j) d
  item_is many xs i j d below inside =
      rw (chunk_is many xs i [] below) (get_or-take size (drop (size * i) xs) j d inside ∙ get_or-drop (size * i) xs j d)

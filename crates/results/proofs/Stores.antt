-- Runs of stores, `sets l i vs`: one store more of a copy, one run behind another, stores behind other elements and in a part that was
-- lent. By induction on the run; `appended` from what a run inside a list is.
use Prim.Native.Nat.{ℕ, suc, ◌+◌, ◌-◌, ◌<◌, ◌≤◌}
use mathlib.Core.Path.{◌≡◌, sym, ◌∙◌, ap}
use mathlib.Core.List.{List, [], ◌∷◌, ◌++◌, append-nil}
use native.Mathlib.Nat.{add-zero, add-suc, suc-add, le-add_right}
use native.Mathlib.Numerals.{add-one}
use native.Mathlib.Omega.{arith}
use lib.ListN.{length, take, drop, set, get_or, length-append, length-drop, take-append-drop, drop_of_length-le}
use lib.Seq.{sets, sets-eq, drop-cons, take_all, take-set-le, drop-set-add, take-append_seam, drop-append_seam, drop-append-add, drop-drop}

pub store_next : (l vs : List ℕ) (i : ℕ) → i < length vs
    → sets l i (drop i vs) ≡ sets (set l i (get_or vs i 0)) (i + 1) (drop (i + 1) vs)
store_next l vs i h = rw (add-one, drop-cons vs i 0 h)

pub stores_end : (l vs : List ℕ) (i : ℕ) → length vs ≤ i → sets l i (drop i vs) ≡ l
stores_end l vs i h = rw (drop_of_length-le vs h)

pub sets_append : (xs ys l : List ℕ) (i : ℕ) → sets l i (xs ++ ys) ≡ sets (sets l i xs) (i + length xs) ys
sets_append [] ys l i = ap (λ (k : ℕ). sets l k ys) (sym (add-zero i))
sets_append (x ∷ xs) ys l i =
    sets_append xs ys (set l i x) (suc i)
    ∙ ap (λ (k : ℕ). sets (sets (set l i x) (suc i) xs) k ys) (suc-add i (length xs) ∙ sym (add-suc i (length xs)))

-- stores behind the first n elements are stores in the rest
sets_behind : (vs l : List ℕ) (n i : ℕ) → sets l (n + i) vs ≡ take n l ++ sets (drop n l) i vs
sets_behind [] l n i = sym (take-append-drop n l)
sets_behind (v ∷ vs) l n i =
    ap (λ (k : ℕ). sets (set l (n + i) v) k vs) (sym (add-suc n i))
    ∙ sets_behind vs (set l (n + i) v) n (suc i)
    ∙ rw (take-set-le n l (n + i) v (le-add_right n i), drop-set-add n l i v)

-- one store behind other elements
pub set_behind : (xs ys : List ℕ) (at value : ℕ) → set (xs ++ ys) (length xs + at) value ≡ xs ++ set ys at value
set_behind xs ys at value = sets_behind (value ∷ []) (xs ++ ys) (length xs) at ∙ rw (take-append_seam xs ys, drop-append_seam xs ys)

-- what comes back of a part that was lent from n to the end, after stores from its start
pub lent_back : (l vs : List ℕ) (n : ℕ) → n ≤ length l
    → take n l ++ (sets (take (length l - n) (drop n l)) 0 vs ++ drop (length l - n) (drop n l)) ≡ sets l n vs
lent_back l vs n h =
    let p : length (drop n l) ≤ length l - n = simp length-drop (omega arith) in
    rw (take_all (length l - n) (drop n l) p, drop_of_length-le (drop n l) p, append-nil)
    (sym (sets_behind vs l n 0) ∙ ap (λ (k : ℕ). sets l k vs) (add-zero n))

-- a record behind those that are written
pub appended : (written bytes old : List ℕ) → length written + length bytes ≤ length old
    → sets (written ++ drop (length written) old) (length written) bytes ≡ (written ++ bytes) ++ drop (length written + length bytes) old
appended written bytes old room =
    let rest = drop (length written) old in
    let inside : length written + length bytes ≤ length (written ++ rest) = simp (length-append, length-drop) (omega arith) in
    sets-eq bytes (written ++ rest) (length written) inside
    ∙ rw (take-append_seam written rest, drop-append-add written rest (length bytes), drop-drop (length bytes) (length written) old)

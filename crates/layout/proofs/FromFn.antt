-- An array made of a function of the index has its values at 0, 1, 2, .. . By induction on how many are left to make.
use denote.Param.Members.{Mut, Called}
use Rattle.std.proofs.Common.{◌≡◌, refl, ◌∙◌, subst, ℕ, zero, suc, ◌+◌, ◌<◌, List, map, arith, get_or}
use Rattle.std.specs.List.{range_with_len}
use Rattle.std.specs.Array.{IsFromFnResult, IsFromFnResultFrom}
use Rattle.std.proofs.lemmas.List.FromFn.{fill_by_all}

-- a function that its calls leave as it is, by the value that each gives
module _ {F B : Type 0} (g : Mut F (ℕ × Unit {0}) B) (f : F) (value : ℕ → B)
    (gives : (i : ℕ) (made : B) (after : F) → Called g f (i, tt) made after → (after ≡ f) × (made ≡ value i))
  where
    each_is : (values : List B) (d : B) (now : F) (first n : ℕ) → now ≡ f → IsFromFnResultFrom g now values first n
        → (i k : ℕ) → i < n → first + i ≡ k → get_or values k d ≡ value k
    each_is values d now first zero same made i k inside at = absurd (omega arith)
    each_is values d now first (suc n) same (after, here, is_here, called, rest) zero k inside at =
        let is_value = (gives first here after (subst (λ (state : F). Called g state (first, tt) here after) same called)).1 in
        let at_first : first ≡ k = omega arith in
        subst (λ (j : ℕ). get_or values j d ≡ value j) at_first (is_here.1 d ∙ is_value)
    each_is values d now first (suc n) same (after, here, is_here, called, rest) (suc i) k inside at =
        let unchanged = (gives first here after (subst (λ (state : F). Called g state (first, tt) here after) same called)).0 in
        each_is values d after (first + 1) n unchanged rest i k (omega arith) (omega arith)

    pub from_fn_is : (d : B) (values : List B) (n : ℕ) → IsFromFnResult g f values n → values ≡ map value (range_with_len 0 n)
    from_fn_is d values n made =
        fill_by_all value values n d made.long (λ k inside. each_is values d f 0 n refl made.each k k inside (omega arith))

-- What look-ups that are proved by computing are held to: the place of the part, and the part itself, wherever the results lie in memory.
use Rattle.std.specs.Prelude.{ℕ, ◌+◌, ◌≡◌, List, []}
use Rattle.lookup.specs.Lookup.{lookup, Handed, handed}
use Rattle.lookup.specs.declared.Part.{Part}

-- a number, the offset of the part in the results, its length and its bytes
pub record HandsBack (results : List ℕ) (code number offset size : ℕ) (part : List ℕ) : Type 0 where
  pub place : ◌≡◌ {A = Part} (lookup results code) (record { number = number; offset = offset; length = size })
  pub in_memory : (block at : ℕ) → ◌≡◌ {A = Handed} (handed (block, at) results code) (record { number = number; start = (block, at + offset); bytes = part })

-- found: the 32 bytes of the record at this offset
abbrev pub FoundWith : List ℕ → ℕ → ℕ → List ℕ → Type 0
FoundWith results code offset part = HandsBack results code 0 offset 32 part

-- 'not on this sheet': the part is empty
abbrev pub NotOnSheet : List ℕ → ℕ → Type 0
NotOnSheet results code = HandsBack results code 1 0 0 []

-- 19: the part is empty
abbrev pub RefusedResults : List ℕ → ℕ → Type 0
RefusedResults results code = HandsBack results code 19 0 0 []

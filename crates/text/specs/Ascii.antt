-- Text as bytes.
use Rattle.std.specs.Prelude.{ℕ, List, [], ◌∷◌}
use Prim.Native.Char.{code}
use Prim.Native.String.{String}
use Prim.Native.String.{[] as none, ◌∷◌ as ◌before◌}

-- the bytes of a text in ASCII; `code` is a character's number
abbrev pub ascii : String → List ℕ
ascii none = []
ascii (letter before text) = code letter ∷ ascii text

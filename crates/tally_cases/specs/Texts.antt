-- What is printed of look-ups and of refusals.
use Rattle.std.specs.Prelude.{ℕ, List, ◌++◌, codes}
use Rattle.std.specs.List.{flat_map}
use Rattle.std.specs.Fmt.{decimal}

-- the offset of the part and its bytes, each behind a space
abbrev pub found_text : ℕ → List ℕ → List ℕ
found_text offset part = codes "found " ++ decimal offset ++ flat_map (λ byte. codes " " ++ decimal byte) part ++ codes "\n"

-- the number of a refusal, at offset 0
abbrev pub refused_text : ℕ → List ℕ
refused_text number = codes "refused " ++ decimal number ++ codes " 0\n"

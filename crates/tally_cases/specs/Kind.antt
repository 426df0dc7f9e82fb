-- Kinds of cases by the bytes that stand for them.
use Rattle.std.specs.Prelude.{◌≡◌, ℕ, ◌<◌, Result, MatchResult}
use Rattle.tally_cases.specs.declared.kind.Kind.{Kind}
use Rattle.tally_cases.specs.declared.kind.Kind.TheVariants.{Tally, Mold, Regrading, Lookup, Lot}
use Rattle.tally_cases.specs.declared.kind.UnknownKind.{UnknownKind}

abbrev pub code_of : Kind → ℕ
code_of Tally = 0
code_of Mold = 1
code_of Regrading = 2
code_of Lookup = 3
code_of Lot = 4

-- the kind that a byte stands for, or that it stands for none
abbrev pub Decodes : ℕ → Result Kind UnknownKind → Type 0
Decodes code decoded = MatchResult decoded (λ kind. code_of kind ≡ code) (λ unknown. 4 < code)

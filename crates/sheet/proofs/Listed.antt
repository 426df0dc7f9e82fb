-- A refusal of the check is listed: numbers 1 to 5 of the plan at offset 0, numbers 6 to 12 of the first record refused, at its mark.
-- Ground by ground; which of the two it is, is told by `verdict_says`.
use Prim.Native.Nat.{ℕ, ◌≤◌}
use mathlib.Core.Path.{◌≡◌, refl, ◌∙◌, subst}
use mathlib.Core.Bool.{Bool, true, false}
use mathlib.Core.List.{List}
use Rattle.std.proofs.Common.{Option, Some, None}
use mathlib.Core.Logic.{◌⊎◌, inl, inr}
use native.Mathlib.Omega.{arith}
use lib.ListN.{length}
use Rattle.units.specs.declared.Plan.{Plan}
use Rattle.layout.specs.Layout.{offset}
use Rattle.sheet.specs.Refusals.{refused_if, table_refusal, plan_refusal, unit_refusal, redesignation_refusal, refusal_by, refusal_at, record_refusal, verdict}
use Rattle.layout.specs.declared.Mark.{Mark}
use Rattle.layout.specs.declared.Mark.TheVariants.{UnitMark, RedesignationMark, BreakMark}
use Rattle.sheet.specs.Verdict.{Refused}
use Rattle.sheet.proofs.LeftToRight.{Stops}
use Rattle.sheet.proofs.Accepted.{Says, verdict_says}

-- none, or a number from the first to the last
abbrev Among : ℕ → ℕ → ℕ → Type 0
Among first last number = (number ≡ 0) ⊎ ((first ≤ number) × (number ≤ last))

ground_among : (first last : ℕ) (test : Bool) (number rest : ℕ) → first ≤ number → number ≤ last → Among first last rest
    → Among first last (refused_if test number rest)
unfolding refused_if
ground_among first last true number rest from to others = inr (from, to)
ground_among first last false number rest from to others = others

table_among : (plan : Plan) → Among 1 5 (table_refusal plan)
unfolding table_refusal
table_among plan =
    ground_among 1 5 _ 3 _ (omega arith) (omega arith)
    (ground_among 1 5 _ 4 _ (omega arith) (omega arith)
    (ground_among 1 5 _ 5 _ (omega arith) (omega arith) (inl refl)))

plan_among : (bytes : List ℕ) → Among 1 5 (plan_refusal bytes)
unfolding plan_refusal
plan_among bytes =
    ground_among 1 5 _ 1 _ (omega arith) (omega arith)
    (ground_among 1 5 _ 2 _ (omega arith) (omega arith) (table_among _))

by_among : (bytes : List ℕ) (at units designated : ℕ) (mark : Option Mark) → Among 6 12 (refusal_by bytes at units designated mark)
unfolding refusal_by unit_refusal redesignation_refusal
by_among bytes at units designated (Some UnitMark) =
    ground_among 6 12 _ 7 _ (omega arith) (omega arith)
    (ground_among 6 12 _ 12 _ (omega arith) (omega arith)
    (ground_among 6 12 _ 8 _ (omega arith) (omega arith)
    (ground_among 6 12 _ 9 _ (omega arith) (omega arith) (inl refl))))
by_among bytes at units designated (Some RedesignationMark) =
    ground_among 6 12 _ 7 _ (omega arith) (omega arith)
    (ground_among 6 12 _ 10 _ (omega arith) (omega arith)
    (ground_among 6 12 _ 11 _ (omega arith) (omega arith) (inl refl)))
by_among bytes at units designated (Some BreakMark) = inl refl
by_among bytes at units designated None = inr (omega arith, omega arith)

record_among : (bytes : List ℕ) (i : ℕ) → Among 6 12 (record_refusal bytes i)
unfolding record_refusal refusal_at
record_among bytes i = ground_among 6 12 _ 6 _ (omega arith) (omega arith) (by_among bytes _ _ _ _)

-- which of the two, given that it is a number
some : (first last number known : ℕ) → (number ≡ 0 → ⊥) → number ≡ known → Among first last known → (first ≤ number) × (number ≤ last)
some first last number known other same (inl none) = absurd (other (same ∙ none))
some first last number known other same (inr (from, to)) = (omega arith, omega arith)

-- a refusal of the plan, or of the first record refused
abbrev pub Which : List ℕ → ℕ → ℕ → Type 0
Which bytes number at =
    ((1 ≤ number) × (number ≤ 5) × (number ≡ plan_refusal bytes) × (at ≡ 0)) ⊎ ((6 ≤ number) × (number ≤ 12) × Stops (length bytes) (offset bytes) (record_refusal bytes) number at)

pub refusal_listed : (bytes : List ℕ) (number at : ℕ) → verdict bytes ≡ Refused number at → Which bytes number at
unfolding Says
refusal_listed bytes number at refused = go (subst (Says bytes) refused (verdict_says bytes))
  where
    go : Says bytes (Refused number at) → Which bytes number at
    go (other, inl (of_plan, at_start_holds)) =
        let (from, to) = some 1 5 number (plan_refusal bytes) other of_plan (plan_among bytes) in inl (from, to, of_plan, at_start_holds)
    go (other, inr (passed, stops)) =
        let (from, to) = some 6 12 number (record_refusal bytes stops.stop) other stops.refused_by (record_among bytes stops.stop) in
        inr (from, to, stops)

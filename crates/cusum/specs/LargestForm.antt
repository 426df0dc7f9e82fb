-- The 'largest of' form of demand 3, for one class: what a CuSum is, told from an anchor and the counts since it, in tenths.
use Rattle.std.specs.Prelude.{ℕ, Bool, true, false, List, ◌∷◌, map, ℤ, pos, ◌+ℤ◌, ◌-ℤ◌}
use Rattle.cusum.specs.Integers.{largest_of_zero_and, sumℤ, runs_to_end}
use Rattle.cusum.specs.declared.PlanNumbers.{PlanNumbers}

-- defects less T at a unit: ten times the class's count, minus T (of a mold unit ten times its positive fields, minus T)
unfoldable pub tenths_less_t : PlanNumbers → ℕ → ℤ
tenths_less_t numbers tenths = pos tenths -ℤ pos numbers.tolerance

-- the largest of zero, the anchor plus the sum of defects less T since it, and every such sum, without the anchor, over a run of
-- units that starts after the anchor and ends with the last
unfoldable pub largest_form : PlanNumbers → ℕ → List ℕ → ℤ
largest_form numbers anchor tenths =
    let since = map (tenths_less_t numbers) tenths in
    largest_of_zero_and ((pos anchor +ℤ sumℤ since) ∷ map sumℤ (runs_to_end since))

-- the anchor is L at a failure, else S
unfoldable pub anchor_value : PlanNumbers → Bool → ℕ
anchor_value numbers true = numbers.limit
anchor_value numbers false = numbers.start

-- An array made of a function of the cell.
use Rattle.std.proofs.Common.{rules, ℕ, ◌+◌, ◌*◌}
use Rattle.units.specs.Words.{no_numbers}
use Rattle.layout.proofs.FromFn.{from_fn_is}
use Rattle.layout.specs.Layout.{table_offset, plan_numbers_size, plan_numbers_at, plan_of}
use Rattle.layout.proofs.plan_of.Goals as goal

pub returns : goal.returns
unfolding plan_of
returns c =
    let numbers_at = λ (cell : ℕ). plan_numbers_at c.args.bytes.now (table_offset + plan_numbers_size * cell) in
    rw (from_fn_is _ _ numbers_at (λ i made after k. search rules) no_numbers _ _ c.from_fn.ensures.items)

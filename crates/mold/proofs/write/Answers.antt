-- Stores from the start on are the bytes before what lies behind them.
use Rattle.std.proofs.Common.{◌≡◌, ◌∙◌, ap, ℕ, List, ◌++◌, length, drop, arith, rules}
use lib.Seq.{sets-eq}
use Rattle.mold.specs.Results.{result_size}
use Rattle.mold.proofs.write.Goals as goal

pub returns : goal.returns
returns c =
    let bytes = c.result_bytes.result in
    let whole : length bytes ≡ result_size = search rules in
    c.put.ensures
    ∙ (rw whole at (sets-eq bytes c.args.rest.now 0 (omega (arith, c.requires, whole))))
    ∙ ap (λ (start : List ℕ). start ++ drop result_size c.args.rest.now) c.result_bytes.ensures

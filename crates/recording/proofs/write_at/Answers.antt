-- The part of the buffer from the record's start on is lent to the writer and comes back in its place.
use Prim.Native.Nat.{ℕ, ◌-◌}
use mathlib.Core.Path.{◌∙◌, ap}
use mathlib.Core.List.{List, ◌++◌}
use native.Mathlib.Omega.{arith}
use lib.ListN.{length, take, drop}
use Rattle.results.specs.Record.{result_bytes}
use Rattle.results.proofs.Stores.{lent_back}
use Rattle.codes.specs.Codes.{ungraded}
use Rattle.recording.proofs.write_at.Goals as goal

pub returns : goal.returns
returns c =
    let start = c.args in
    let results = start.results.now in
    let at = start.at in
    ap (λ (ys : List ℕ). take at results ++ (ys ++ drop (length results - at) (drop at results))) c.write.ensures
    ∙ lent_back results (result_bytes ungraded start.res) at (omega arith)

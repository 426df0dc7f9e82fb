-- What it takes to compute with the definitions of this crate and of those below it: `unfolding computing` opens them all.
use Prim.Native.Nat.{ℕ}
use Rattle.encoding.specs.Bytes.{bytes_of}
use Rattle.cusum.proofs.Computing as cusum
use Rattle.units.specs.Conditions.{pick}
use Rattle.sheet.specs.LeftToRight.{left_to_right}
use Rattle.sheet.specs.Refusals.{refused_if}
use Rattle.mold.specs.Levels.{level_numbers}
use Rattle.mold.specs.Layout.{mold_unit_at}
use Rattle.mold.specs.Refusals.{no_opening, opening_refusal, no_unit_mark, unit_refusal, checked}
use Rattle.mold.specs.Grading.{cusum_before, fails_at}
use Rattle.mold.specs.Results as results
use Rattle.mold.specs.Outcome.{mold_outcome}

unfoldable pub computing : ℕ
unfolding cusum.computing bytes_of pick left_to_right refused_if level_numbers mold_unit_at no_opening opening_refusal no_unit_mark unit_refusal checked
    cusum_before fails_at results.result_bytes results.written mold_outcome
computing = 0

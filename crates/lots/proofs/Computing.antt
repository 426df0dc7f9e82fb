-- What it takes to compute with the definitions of this crate and of those below it: `unfolding computing` opens them all.
use Prim.Native.Nat.{ℕ}
use Rattle.lots.specs.Acceptance.{acceptance_number}
use Rattle.lots.specs.Refusals.{no_lot_mark, not_among, is_unlisted, aql_falls_in_class, count_too_large, field_refusal, lot_refusal}
use Rattle.lots.specs.Grading.{admits_class, admits, defect_grade, lot_grade}
use Rattle.lots.specs.Answer.{lot_answer}
use Rattle.sheet.proofs.Computing as sheet

unfoldable pub computing : ℕ
unfolding sheet.computing acceptance_number no_lot_mark not_among is_unlisted aql_falls_in_class count_too_large field_refusal lot_refusal
    admits_class admits defect_grade lot_grade lot_answer
computing = 0

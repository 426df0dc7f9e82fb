-- Demand 1 and the grounds of demand 2 once more on concrete sheets, written out here and proved from their theorems: statements for
-- fewer sheets or records, or without one of the parts used here, would no longer give these.
use Rattle.std.specs.Prelude.{ℕ, ◌*◌, ◌<◌, ◌≤◌, ◌≡◌, List, ◌⊎◌, length, drop}
use Rattle.sheet.specs.Refusals.{record_refusal}
use Rattle.results.specs.Record.{result_size}
use Rattle.tally.specs.Outcome.{outcome}
use Rattle.grounds.specs.Grounds.{Ground, rows_above}
use Rattle.answers.specs.Grounds.{rows, sheet_grounds}
use Rattle.computed.specs.WorkedCases.{peach}
use Rattle.computed.specs.FurtherSheets.{grounds8_and9, ground11_by_last_redesignation}

-- ---- demand 1

-- refused with 11 at record 3, behind two redesignations and a unit
pub record RefusedInstance : Type 0 where
  -- no record before that is refused
  pub earlier : (j : ℕ) → j < 3 → record_refusal ground11_by_last_redesignation j ≡ 0
  -- every buffer keeps every byte
  pub kept : (buffer : List ℕ) → (outcome ground11_by_last_redesignation buffer).buffer ≡ buffer

-- the peach sheet, accepted with seven units: every byte behind their result records is kept
abbrev pub AcceptedInstance : Type 0
AcceptedInstance =
    (buffer : List ℕ) → result_size * 7 ≤ length buffer → drop (result_size * 7) (outcome peach buffer).buffer ≡ drop (result_size * 7) buffer

-- ---- demand 2, the grounds

pub record GroundInstance : Type 0 where
  -- refused with 8 at record 1: at no place before it is there a ground, and at its mark none of an upper row
  pub none_earlier : (buffer : List ℕ) (number' at' : ℕ) → (at' < 89) ⊎ ((at' ≡ 89) × (rows_above rows number' < rows_above rows 8))
      → Ground (sheet_grounds grounds8_and9 buffer) number' at' → ⊥
  -- the peach sheet is accepted, and no ground applies
  pub none_accepted : (buffer : List ℕ) → result_size * 7 ≤ length buffer → (number at : ℕ) → Ground (sheet_grounds peach buffer) number at → ⊥

-- ---- together

pub record AnswerInstances : Type 0 where
  pub refused : RefusedInstance
  pub accepted : AcceptedInstance
  pub grounds : GroundInstance

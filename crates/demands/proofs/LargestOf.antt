-- Demand 3's first half: at every unit with a plan in force a recorded CuSum is the 'largest of' form from its latest anchor.
-- From the same law over records, what the result buffer records, and the search that finds an anchor.
use Prim.Native.Nat.{ℕ, suc, ◌-◌}
use mathlib.Core.Path.{◌∙◌, ap}
use mathlib.Core.List.{List}
use native.Mathlib.Omega.{arith}
use lib.IntN.{pos}
use Rattle.anchors.specs.Anchor.{restart_at, class_fails_at}
use Rattle.anchors.proofs.Trails.{anchor_le}
use Rattle.anchors.proofs.Anchors.{Found, found, largest_form_by_place}
use Rattle.layout.specs.Layout.{sample_unit_at, offset}
use Rattle.layout.proofs.Units.{entry_unit}
use Rattle.recording.specs.Sheet.{sheet_of}
use Rattle.tally.specs.Accepted.{sheet_in}
use Rattle.tally.proofs.AcceptedSheet.{accepted_sheet}
use Rattle.demands.specs.Demand3.{AnchorAt, Demand3LargestForm}
use Rattle.courses.proofs.Recorded.{recorded_cusum_holds}
use Rattle.courses.proofs.Graded.{apart}

pub an_anchor_at : (bytes : List ℕ) (i class : ℕ) → AnchorAt bytes i class
an_anchor_at bytes i class =
    let anchor : Found (sheet_in bytes) class i = found (sheet_in bytes) class i in
    let within = anchor_le (restart_at (sheet_in bytes)) (class_fails_at (sheet_in bytes) class) i anchor.place anchor.failed anchor.lies in
    record {
      from = anchor.place;
      records = suc i - anchor.place;
      at_failure = anchor.failed;
      to_this_unit = omega arith;
      is_anchor = anchor.lies;
      latest = anchor.latest;
    }

-- THE FIRST HALF OF DEMAND 3
pub demand3_largest_form : Demand3LargestForm
unfolding sheet_in sheet_of
demand3_largest_form bytes buffer answer results accepted i at planned class in_range =
    record {
      an_anchor = an_anchor_at bytes i class;
      largest_of = λ anchor.
          ap pos (recorded_cusum_holds bytes buffer answer results accepted i at class (omega arith))
          ∙ largest_form_by_place (sheet_in bytes) (apart bytes (accepted_sheet bytes buffer answer results accepted).facts) class (omega arith) i
          (sample_unit_at bytes (offset bytes i)) (entry_unit bytes i at.is_unit) planned
          anchor.from anchor.records anchor.at_failure anchor.to_this_unit anchor.is_anchor anchor.latest;
    }

-- The pair of the instances: two accepted regradings alike but for one count, which is lower in the first; by their theorem the first is no
-- worse at any unit.
use Prim.Native.Nat.{ℕ, ◌*◌, ◌≤◌}
use mathlib.Core.Path.{refl, sym}
use mathlib.Core.List.{List}
use lib.Dec.{lit<}
use lib.ListN.{length}
use Rattle.results.specs.Record.{result_size}
use Rattle.outcome.specs.declared.Answer.{Answer}
use Rattle.outcome.specs.Outcome.{accepted_as}
use Rattle.tally.specs.Accepted.{UnitAt}
use Rattle.alike.proofs.OneFewer.{alike_but_place, no_more_but_place}
use Rattle.alike.specs.Alike.{InCount}
use Rattle.regrade.proofs.Computing.{computing}
use Rattle.regrade_demands.specs.RegradeAccepted.{RegradedAs}
use Rattle.regrade_demands.specs.RegradeFewer.{NoWorseAt}
use Rattle.regrade_demands.specs.RegradeSheets.{recorded_plan, buyer_b, two_failures_before_redesignation, five_minor_defects_fewer}
use Rattle.regrade_demands.specs.RegradeInstances.{more_left, fewer_left, OneOfFour, record0, record1, record3, record5}
use Rattle.regrade_demands.proofs.RegradeFewer.{regrade_fewer_defects}
use Rattle.regrade_demands.proofs.RegradeSheets.{regrade_sheets}

abbrev pub more : List ℕ
more = two_failures_before_redesignation

abbrev pub fewer : List ℕ
fewer = five_minor_defects_fewer

abbrev pub four_accepted : Answer
four_accepted = accepted_as 4 136

pub more_accepted : (buffer : List ℕ) → result_size * 4 ≤ length buffer → RegradedAs more buyer_b buffer four_accepted (more_left buffer)
more_accepted buffer holds = record { promise = sym (regrade_sheets.fewer_defects.two_failures_before_redesignation_holds buffer holds); accepted = refl }

pub fewer_accepted : (buffer : List ℕ) → result_size * 4 ≤ length buffer → RegradedAs fewer buyer_b buffer four_accepted (fewer_left buffer)
fewer_accepted buffer holds = record { promise = sym (regrade_sheets.fewer_defects.five_minor_defects_fewer_holds buffer holds); accepted = refl }

pub unit_at : (i : ℕ) → OneOfFour i → UnitAt more i
unfolding computing recorded_plan two_failures_before_redesignation
unit_at i record0 = record { inside = lit< tt; is_unit = refl }
unit_at i record1 = record { inside = lit< tt; is_unit = refl }
unit_at i record3 = record { inside = lit< tt; is_unit = refl }
unit_at i record5 = record { inside = lit< tt; is_unit = refl }

pub unit_of_fewer : (i : ℕ) → OneOfFour i → UnitAt fewer i
unfolding computing recorded_plan five_minor_defects_fewer
unit_of_fewer i record0 = record { inside = lit< tt; is_unit = refl }
unit_of_fewer i record1 = record { inside = lit< tt; is_unit = refl }
unit_of_fewer i record3 = record { inside = lit< tt; is_unit = refl }
unit_of_fewer i record5 = record { inside = lit< tt; is_unit = refl }

-- ---- the pair

module _ (buffer buffer' : List ℕ) (holds : result_size * 4 ≤ length buffer) (holds' : result_size * 4 ≤ length buffer') where
  -- the minor count of record 1
  in_count : InCount fewer 100
  unfolding computing recorded_plan five_minor_defects_fewer
  in_count = record { i = 1; unit = unit_of_fewer 1 record1; from = lit< tt; to = lit< tt }

  pub compared : (i : ℕ) → UnitAt fewer i → NoWorseAt fewer more buyer_b (fewer_left buffer) (more_left buffer') i
  unfolding recorded_plan two_failures_before_redesignation five_minor_defects_fewer
  compared =
      regrade_fewer_defects fewer more buyer_b buffer buffer' four_accepted four_accepted (fewer_left buffer) (more_left buffer')
      (record {
        first = fewer_accepted buffer holds;
        second = more_accepted buffer' holds';
        alike = alike_but_place fewer more 100 9 refl (lit< tt) (lit< tt) in_count;
        no_more = no_more_but_place fewer more 100 9 refl (lit< tt) (lit< tt) in_count;
      })

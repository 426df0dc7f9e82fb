-- The demands, each from its own file; a promise is the theorem of its function.
use Rattle.tally.proofs.grade.Met as grade
use Rattle.hatmuyon.proofs.hatmuyon_grade.Met as hatmuyon_grade
use Rattle.mold.proofs.grade_mold.Met as grade_mold
use Rattle.hatmuyon.proofs.hatmuyon_grade_mold.Met as hatmuyon_grade_mold
use Rattle.regrade.proofs.regrade.Met as regrade
use Rattle.hatmuyon.proofs.hatmuyon_regrade.Met as hatmuyon_regrade
use Rattle.lookup.proofs.find.Met as find
use Rattle.lookup.proofs.look_up.Met as look_up
use Rattle.lookup.proofs.find_place.Met as find_place
use Rattle.lookup.proofs.read_records.Met as read_records
use Rattle.hatmuyon.proofs.hatmuyon_find_code.Met as hatmuyon_find_code
use Rattle.lots.proofs.grade_lot.Met as grade_lot
use Rattle.hatmuyon.proofs.hatmuyon_grade_lot.Met as hatmuyon_grade_lot
use Rattle.lines.proofs.print_into.Met as print_into
use Rattle.mold_lines.proofs.print_mold_into.Met as print_mold_into
use Rattle.regrade_lines.proofs.print_regrading_into.Met as print_regrading_into
use Rattle.demands.specs.Demands.{Demands}
use Rattle.answers.proofs.Bytes.{paper_layout}
use Rattle.answers.proofs.Listed.{demand1}
use Rattle.answers.proofs.Grounds.{demand2_grounds}
use Rattle.mold_demands.proofs.MoldDemands.{mold_demands}
use Rattle.courses.proofs.Graded.{demand2_records}
use Rattle.regrade_demands.proofs.RegradeDemands.{regrade_demands}
use Rattle.lookup_demands.proofs.LookupDemands.{lookup_demands}
use Rattle.lots_demands.proofs.LotDemands.{lot_demands}
use Rattle.demands.proofs.CusumsFit.{cusums_fit}
use Rattle.demands.proofs.LookupGraded.{lookup_graded}
use Rattle.demands.proofs.LargestOf.{demand3_largest_form}
use Rattle.demands.proofs.NeverWorse.{demand3_fewer_defects}
use Rattle.computed.proofs.Peach.{small_sheets}
use Rattle.computed.proofs.FurtherSheets.{further_sheets}
use Rattle.computed.proofs.Printed.{printed_text}
use Rattle.demands.proofs.Instances.{instances}

pub demands : Demands
demands =
    record {
      promise_of_grade = grade.met;
      promise_of_hatmuyon_grade = hatmuyon_grade.met;
      promise_of_grade_mold = grade_mold.met;
      promise_of_hatmuyon_grade_mold = hatmuyon_grade_mold.met;
      promise_of_regrade = regrade.met;
      promise_of_hatmuyon_regrade = hatmuyon_regrade.met;
      promise_of_find = find.met;
      promise_of_look_up = look_up.met;
      promise_of_find_place = find_place.met;
      promise_of_read_records = read_records.met;
      promise_of_hatmuyon_find_code = hatmuyon_find_code.met;
      promise_of_grade_lot = grade_lot.met;
      promise_of_hatmuyon_grade_lot = hatmuyon_grade_lot.met;
      promise_of_print_into = print_into.met;
      promise_of_print_mold_into = print_mold_into.met;
      promise_of_print_regrading_into = print_regrading_into.met;
      paper_layout = paper_layout;
      demand1 = demand1;
      demand2_grounds = demand2_grounds;
      cusums_fit = cusums_fit;
      demand2_records = demand2_records;
      demand3_largest_form = demand3_largest_form;
      demand3_fewer_defects = demand3_fewer_defects;
      small_sheets = small_sheets;
      further_sheets = further_sheets;
      printed_text = printed_text;
      instances = instances;
      mold = mold_demands;
      regradings = regrade_demands;
      lookups = lookup_demands;
      lookups_graded = lookup_graded;
      lots = lot_demands;
    }

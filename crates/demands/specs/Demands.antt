-- The demands on the grading as one theorem, `demands : Demands` in `proofs/Demands.antt`. Its first fields are what the code promises, for
-- every input: of `tally::grade`, and of `hatmuyon_grade`, through which C and Rust call it, that the answer and the whole result buffer
-- are the `outcome` of the sheet and the buffer; of `mold::grade_mold` and `hatmuyon_grade_mold` the same with `mold_outcome`; of
-- `regrade::regrade` and `hatmuyon_regrade` the same with `regrade_outcome`, which looks at a second plan, too; of `lookup::find` that the
-- number and the part of the lent results are those of `handed`, of `lookup::find_place` and `hatmuyon_find_code` that number and place are
-- those of `lookup`, of `lookup::look_up`, whose result has a part only where a record is found, both, and of `lookup::read_records`, which
-- reads for them, that what it finds and how many records it reads are `reading_of`; of `lots::grade_lot` and `hatmuyon_grade_lot` that the
-- answer is the `lot_answer` of the lot; of `lines::print_into` that the text is that of `printing`, with `printed` of the input in front, of
-- `mold_lines::print_mold_into` the same with `mold_printing` and `mold_printed`, and of `regrade_lines::print_regrading_into` with
-- `regrade_printing` and `regrade_printed`.
-- Demands 1 to 3, P9 and P10, the further sheets and the instances speak of `outcome`; the lines of P10 and the printed text of `printed`;
-- the layout of the bytes alone, P1 to P8 of the rules alone, `mold` of mold sheets, `regradings` of recorded sheets that are graded again
-- under a second plan, `lookups` of `lookup`, `handed` and `records_read`, `lookups_graded`, with three of the instances, of look-ups in
-- the results of `outcome` and `regrade_outcome`, `lots` of `lot_answer`, and `cusums_fit`, with one of the instances, of the rules behind any
-- accepted plan and of sheets accepted by `outcome` and `regrade_outcome`; it has the promise of `Cusum::largest`, too.
use Rattle.tally.proofs.grade.Statement as grade
use Rattle.hatmuyon.proofs.hatmuyon_grade.Statement as hatmuyon_grade
use Rattle.mold.proofs.grade_mold.Statement as grade_mold
use Rattle.hatmuyon.proofs.hatmuyon_grade_mold.Statement as hatmuyon_grade_mold
use Rattle.regrade.proofs.regrade.Statement as regrade
use Rattle.hatmuyon.proofs.hatmuyon_regrade.Statement as hatmuyon_regrade
use Rattle.lookup.proofs.find.Statement as find
use Rattle.lookup.proofs.look_up.Statement as look_up
use Rattle.lookup.proofs.find_place.Statement as find_place
use Rattle.lookup.proofs.read_records.Statement as read_records
use Rattle.hatmuyon.proofs.hatmuyon_find_code.Statement as hatmuyon_find_code
use Rattle.lots.proofs.grade_lot.Statement as grade_lot
use Rattle.hatmuyon.proofs.hatmuyon_grade_lot.Statement as hatmuyon_grade_lot
use Rattle.lines.proofs.print_into.Statement as print_into
use Rattle.mold_lines.proofs.print_mold_into.Statement as print_mold_into
use Rattle.regrade_lines.proofs.print_regrading_into.Statement as print_regrading_into
use Rattle.answers.specs.Bytes.{PaperLayout}
use Rattle.answers.specs.Demand1.{Demand1}
use Rattle.answers.specs.Grounds.{Demand2Grounds}
use Rattle.mold_demands.specs.MoldDemands.{MoldDemands}
use Rattle.courses.specs.Demand2.{Demand2Records}
use Rattle.regrade_demands.specs.RegradeDemands.{RegradeDemands}
use Rattle.lookup_demands.specs.LookupDemands.{LookupDemands}
use Rattle.lots_demands.specs.LotDemands.{LotDemands}
use Rattle.demands.specs.CusumsFit.{CusumsFit}
use Rattle.demands.specs.LookupGraded.{LookupGraded}
use Rattle.demands.specs.Demand3.{Demand3LargestForm, Demand3FewerDefects}
use Rattle.computed.specs.Peach.{SmallSheets}
use Rattle.computed.specs.FurtherSheets.{FurtherSheets}
use Rattle.computed.specs.Printed.{PrintedText}
use Rattle.demands.specs.Instances.{Instances}

pub record Demands : Type 2 where
  -- the contracts, each met by its code
  pub promise_of_grade : {M : Type 1} → grade.statement M
  pub promise_of_hatmuyon_grade : {M : Type 1} → hatmuyon_grade.statement M
  pub promise_of_grade_mold : {M : Type 1} → grade_mold.statement M
  pub promise_of_hatmuyon_grade_mold : {M : Type 1} → hatmuyon_grade_mold.statement M
  pub promise_of_regrade : {M : Type 1} → regrade.statement M
  pub promise_of_hatmuyon_regrade : {M : Type 1} → hatmuyon_regrade.statement M
  pub promise_of_find : {M : Type 1} → find.statement M
  pub promise_of_look_up : {M : Type 1} → look_up.statement M
  pub promise_of_find_place : {M : Type 1} → find_place.statement M
  pub promise_of_read_records : {M : Type 1} → read_records.statement M
  pub promise_of_hatmuyon_find_code : {M : Type 1} → hatmuyon_find_code.statement M
  pub promise_of_grade_lot : {M : Type 1} → grade_lot.statement M
  pub promise_of_hatmuyon_grade_lot : {M : Type 1} → hatmuyon_grade_lot.statement M
  pub promise_of_print_into : {M : Type 1} → print_into.statement M
  pub promise_of_print_mold_into : {M : Type 1} → print_mold_into.statement M
  pub promise_of_print_regrading_into : {M : Type 1} → print_regrading_into.statement M
  -- sizes, offsets and fields, as all the others name them, in the paper's numbers
  pub paper_layout : PaperLayout
  -- any bytes at all are accepted, or refused by a listed number with the place; what happens to the result buffer
  pub demand1 : Demand1
  -- nothing is refused without a listed ground, and the first that applies is returned
  pub demand2_grounds : Demand2Grounds
  -- no accepted plan and no counts lead to a CuSum too large for two bytes, and so no grading and no regrading does
  pub cusums_fit : CusumsFit
  -- an accepted sheet gets exactly the CuSums, overshoots, grades and recoveries of the rules
  pub demand2_records : Demand2Records
  -- at a unit with a plan in force every recorded CuSum is the 'largest of' form from its anchor
  pub demand3_largest_form : Demand3LargestForm
  -- fewer defects: no higher CuSum, no larger overshoot and no new failure up to the second sheet's first two failures in a row; no lower
  -- grade if it has none
  pub demand3_fewer_defects : Demand3FewerDefects
  -- P1 to P10, and the lines of P10
  pub small_sheets : SmallSheets
  -- further sheets in bytes, with the answers and result bytes of the independent grader
  pub further_sheets : FurtherSheets
  -- what is printed for any input, and texts of the independent grader
  pub printed_text : PrintedText
  -- each demand on sheets of several units in every class, as its theorem gives it
  pub instances : Instances
  -- mold sheets: layout and levels, answers and grounds, CuSums, the first half of demand 3, computed sheets and printed text
  pub mold : MoldDemands
  -- regradings: answers and grounds, the rules under a second plan, both halves of demand 3, computed sheets and printed text
  pub regradings : RegradeDemands
  -- look-ups of a code in finished results: which record is handed back, how far is read, computed look-ups
  pub lookups : LookupDemands
  -- and in the results of an accepted sheet or regrading: the unit that is found shows the code grade
  pub lookups_graded : LookupGraded
  -- warehouse lots: the table of acceptance numbers, grounds, grades, demand 3 for fewer defects, computed lots
  pub lots : LotDemands

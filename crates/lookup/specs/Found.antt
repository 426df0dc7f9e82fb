-- What a look-up finds, as C gets it, and as a part of the lent results.
use Rattle.std.specs.Prelude.{ℕ, [], length, Option, Some, None, Result, Ok, Err}
use Rattle.outcome.specs.declared.Ground.{Ground}
use Rattle.outcome.specs.Grounds.{number_of}
use Rattle.lookup.specs.declared.Found.{Found}
use Rattle.lookup.specs.declared.Part.{Part}
use Rattle.lookup.specs.Lookup.{not_on_this_sheet, Handed}

-- the number, and the place of the part in the results; the part is empty where no record is found
abbrev pub part_of : Result (Option Found) Ground → Part
part_of (Ok (Some found)) = record { number = 0; offset = found.offset; length = length found.part.now }
part_of (Ok None) = not_on_this_sheet
part_of (Err cause) = record { number = number_of cause; offset = 0; length = 0 }

-- the number, and the part where it begins in memory; where no record is found it is empty, and begins where the results begin
abbrev pub handed_back : ℕ × ℕ → Result (Option Found) Ground → Handed
handed_back start (Ok (Some found)) = record { number = 0; start = found.part.ref_ptr; bytes = found.part.now }
handed_back start (Ok None) = record { number = 1; start = start; bytes = [] }
handed_back start (Err cause) = record { number = number_of cause; start = start; bytes = [] }

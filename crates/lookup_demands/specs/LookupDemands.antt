-- The demands on look-ups as one theorem, `lookup_demands : LookupDemands` in `proofs/LookupDemands.antt`: all speak of `lookup`, which the
-- promises of `find_place` and `hatmuyon_find_code` give for every slice and every code, of `handed`, which that of `find` gives, and of
-- `records_read`, which that of `read_records` gives.
use Rattle.lookup_demands.specs.LookupAnswers.{LookupAnswers}
use Rattle.lookup_demands.specs.LookupReading.{LookupReading}
use Rattle.lookup_demands.specs.LookupSheets.{LookupSheets}
use Rattle.lookup_demands.specs.LookupInstances.{LookupInstances}

pub record LookupDemands : Type 0 where
  -- which number and which part, and where the part lies
  pub answers : LookupAnswers
  -- how far results are read, and what an answer goes by
  pub reading : LookupReading
  -- results in bytes, with the parts that the independent grader hands back
  pub sheets : LookupSheets
  -- each of them on few records, as its theorem gives it
  pub instances : LookupInstances

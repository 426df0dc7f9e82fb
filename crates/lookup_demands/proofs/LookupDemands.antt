-- The demands on look-ups, each from its own file.
use Rattle.lookup_demands.specs.LookupDemands.{LookupDemands}
use Rattle.lookup_demands.proofs.LookupAnswers.{lookup_answers}
use Rattle.lookup_demands.proofs.LookupReading.{lookup_reading}
use Rattle.lookup_demands.proofs.LookupSheets.{lookup_sheets}
use Rattle.lookup_demands.proofs.LookupInstances.{lookup_instances}

pub lookup_demands : LookupDemands
lookup_demands = record { answers = lookup_answers; reading = lookup_reading; sheets = lookup_sheets; instances = lookup_instances }

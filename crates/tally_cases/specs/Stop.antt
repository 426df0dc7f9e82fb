-- Why no further case is printed, by the error of a read or a write.
use Rattle.std.specs.Prelude.{◌≡◌, ◌≢◌}
use Rattle.std.specs.IoError.{error_kind}
use Rattle.std.specs.declared.io.Error.{Error}
use Rattle.std.specs.declared.io.ErrorKind.TheVariants.{UnexpectedEof}
use Rattle.tally_cases.specs.declared.Stop.{Stop}
use Rattle.tally_cases.specs.declared.Stop.TheVariants.{NoCase, Failed}

-- an input that ends before what a case needs has no further case; any other error is a failure
pub record StopsFor (error : Error) (stop : Stop) : Type 0 where
  pub ended : error_kind error ≡ UnexpectedEof → stop ≡ NoCase
  pub failed : error_kind error ≢ UnexpectedEof → stop ≡ Failed error

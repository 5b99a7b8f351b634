-- What came back for a read, by its status byte.
-- Assumes nothing: these are definitions.
use Rattle.std.specs.Prelude.{ℕ, zero, suc}
use Rattle.results.specs.declared.Status.{Status}
use Rattle.results.specs.declared.Status.TheVariants.{Value, Error, Neither}

-- rule 8.1: the status of a byte; what is neither 0 nor 1 is read as 2
abbrev pub status_of : ℕ → Status
status_of zero = Value
status_of (suc zero) = Error
status_of (suc (suc k)) = Neither

-- rule 8.1: the byte of a status
abbrev pub status_number : Status → ℕ
status_number Value = 0
status_number Error = 1
status_number Neither = 2

-- What is left behind a result is the file from the place told on, as the trait `Field` asks.
-- Assumes nothing.
use Rattle.std.specs.Prelude.{ℕ, zero, suc}
use mathlib.Core.Path.{refl}
use Rattle.fields.specs.Format.{given}
use Rattle.fields.specs.Seamless.{Seamless, seamless_choice, seamless_leading, seamless_among}
use Rattle.values.specs.Seamless.{seamless_value}
use Rattle.results.specs.Results.{nothing, after_status, result_field}

-- behind a field of no bytes
seamless_nothing : Seamless nothing
unfolding nothing given
seamless_nothing = record { along = λ s i. refl }

-- behind what follows a status byte
seamless_after : (n : ℕ) → Seamless (after_status n)
unfolding after_status
seamless_after zero = seamless_among _ _ _ (seamless_value 40)
seamless_after (suc zero) = seamless_among _ _ _ seamless_nothing
seamless_after (suc (suc n)) = seamless_among _ _ _ seamless_nothing

-- behind a result
pub seamless_result : Seamless result_field
unfolding result_field
seamless_result = seamless_leading _ _ _ (seamless_choice 2) seamless_after

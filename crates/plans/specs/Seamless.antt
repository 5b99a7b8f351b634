-- What is left behind a key, a member or a read is the file from the place told on, as the trait `Field` asks.
-- Assumes nothing.
use Rattle.std.specs.Prelude.{ℕ, zero, suc}
use Rattle.fields.specs.Seamless.{Seamless, seamless_number, seamless_choice, seamless_text, seamless_indexed_text, seamless_then, seamless_leading, seamless_mapped, seamless_among, seamless_counted, seamless_optional}
use Rattle.plans.specs.Plans.{after_byte, step, member, read}

-- behind what follows the byte of a key
seamless_after : (n : ℕ) → Seamless (after_byte n)
unfolding after_byte
seamless_after zero = seamless_among _ _ _ (seamless_text 128)
seamless_after (suc zero) = seamless_among _ _ _ (seamless_number 4 4294967295)
seamless_after (suc (suc n)) = seamless_among _ _ _ (seamless_number 4 4294967295)

-- behind a key
pub seamless_step : Seamless step
unfolding step
seamless_step = seamless_leading _ _ _ (seamless_choice 2) seamless_after

-- behind a member
pub seamless_member : Seamless member
unfolding member
seamless_member = seamless_mapped _ _ _ (seamless_then _ _ (seamless_text 128) (seamless_optional _ (seamless_counted _ seamless_step 1 64)))

-- behind a read
pub seamless_read : Seamless read
unfolding read
seamless_read = seamless_mapped _ _ _ (seamless_then _ _ (seamless_indexed_text 136 1000001) (seamless_counted _ seamless_member 2 256))

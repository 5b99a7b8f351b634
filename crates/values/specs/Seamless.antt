-- What is left behind a value is the file from the place told on, whatever it holds, as the trait `Field` asks.
-- Assumes nothing.
use mathlib.Core.Path.{◌≡◌}
use mathlib.Core.List.{List}
use Prim.Native.Nat.{ℕ, zero, suc, ◌+◌}
use lib.ListN.{length, take, drop}
use Rattle.fields.specs.Format.{Format}
use Rattle.fields.specs.Fields.{whole}
use Rattle.fields.specs.Seamless.{Seamless}
use Rattle.fields.proofs.Lists.{drop-along}
use Rattle.values.specs.File.{inside, enclosed, bytes_left, content, too_deep, value}
use Rattle.values.specs.Dig.{any_value}

-- what is left behind a length field and the bytes it counts
sized_along : (s : List ℕ) (i : ℕ) → drop (whole 4 (take 4 (drop i s))) (drop 4 (drop i s)) ≡ drop (i + length (take 4 (drop i s)) + length (inside (drop i s))) s
unfolding inside
sized_along s i = rw (drop-along 4 i s) (drop-along (whole 4 (take 4 (drop i s))) (i + length (take 4 (drop i s))) s)

-- behind a field with its length in front
pub seamless_enclosed : {A : Type 0} (f : Format A) → Seamless (enclosed f)
unfolding enclosed
seamless_enclosed f = record { along = sized_along }

-- behind a value by its length alone
pub seamless_any : Seamless any_value
seamless_any = seamless_enclosed bytes_left

-- behind a value of so many levels at most
pub seamless_value : (m : ℕ) → Seamless (value m)
unfolding value too_deep
seamless_value zero = record { along = sized_along }
seamless_value (suc m) = seamless_enclosed (content (value m))

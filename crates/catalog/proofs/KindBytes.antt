-- Kinds and AOI answers by their bytes.
-- Assumes nothing.
use mathlib.Core.Path.{◌≡◌, refl}
use Prim.Native.Nat.{ℕ, zero, suc, ◌≤◌}
use native.Mathlib.Omega.{arith}
use Rattle.catalog.specs.Catalog.{kind_of, aoi_of}
use Rattle.catalog.specs.declared.Kind.TheVariants.{Atomic, Struct, String}
use Rattle.catalog.specs.declared.Aoi.TheVariants.{No, Whole, Parts}

module _ (n : ℕ) where
  pub kind_first : n ≡ 0 → kind_of n ≡ Atomic
  unfolding kind_of
  kind_first e = rw e

  pub kind_second : n ≡ 1 → kind_of n ≡ Struct
  unfolding kind_of
  kind_second e = rw e

  pub aoi_first : n ≡ 0 → aoi_of n ≡ No
  unfolding aoi_of
  aoi_first e = rw e

  pub aoi_second : n ≡ 1 → aoi_of n ≡ Whole
  unfolding aoi_of
  aoi_second e = rw e

pub kind_last : (n : ℕ) → 2 ≤ n → kind_of n ≡ String
unfolding kind_of
kind_last zero h = absurd (omega arith)
kind_last (suc zero) h = absurd (omega arith)
kind_last (suc (suc n)) h = refl

pub aoi_last : (n : ℕ) → 2 ≤ n → aoi_of n ≡ Parts
unfolding aoi_of
aoi_last zero h = absurd (omega arith)
aoi_last (suc zero) h = absurd (omega arith)
aoi_last (suc (suc n)) h = refl

pub ruleset kinds = (kind_first, kind_second, kind_last, aoi_first, aoi_second, aoi_last)

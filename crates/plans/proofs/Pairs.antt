-- A field and the one behind it: the second is checked, and passed, from the place where the first ends.
-- Assumes nothing.
use Prim.Native.Nat.{ℕ}
use mathlib.Core.Path.{◌≡◌, ap}
use mathlib.Core.List.{List}
use lib.ListN.{drop}
use Rattle.fields.specs.Format.{Format, joined, onward, ◌then◌}
use Rattle.fields.specs.Places.{check_at, place_at}
use Rattle.fields.specs.Seamless.{Seamless}
use Rattle.fields.proofs.Chains.{next, onward-next}

module _ {A B : Type 0} (f : Format A) (g : Format B) (s : List ℕ) (i : ℕ) where
  pub pair_next : Seamless f → check_at (f then g) s i ≡ next (check_at f s i) (λ q. check_at g s q)
  unfolding ◌then◌ check_at
  pair_next F = onward-next _ (f.read (drop i s) i) (λ _. g.read) s (F.along s i)

  pub pair_passed : Seamless f → place_at (f then g) s i ≡ place_at g s (place_at f s i)
  unfolding ◌then◌ onward joined place_at
  pair_passed F = ap (λ l. (g.read l (f.read (drop i s) i).place).place) (F.along s i)

pub ruleset checks = (pair_next)

pub ruleset passes = (pair_passed)

-- `last_of` meets its contract: no byte behind the one that is found from the end is another.
use Prim.Native.Nat.{ℕ}
use mathlib.Core.Path.{◌≡◌, refl, sym}
use Rattle.std.proofs.Common.{rules}
use Rattle.std.specs.Prelude.{None, Option, Some}
use Rattle.names.specs.Range.{last_from}
use Rattle.names.proofs.Ranges.{last_missing, last_there}
use Rattle.names.proofs.range.last_of.Goals as goal

pub returns-clause-place : goal.returns-clause-place
returns-clause-place c = go c.rposition.result refl
  where
    go : (r : Option ℕ) → c.rposition.result ≡ r → r ≡ last_from c.args.b c.args.s.now 0 None
    go None e = sym (last_missing c.args.b c.args.s.now (search (rules, e)))
    go (Some i) e = sym (last_there c.args.b c.args.s.now i (search (rules, e)) (search (rules, e)) (search (rules, e)))

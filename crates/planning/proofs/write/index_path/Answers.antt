-- `index_path` meets its contract: the count, the key byte and the index are the path.
use mathlib.Core.Path.{refl}
use native.Mathlib.Omega.{arith}
use Rattle.planning.proofs.Steps.{index-put}
use Rattle.planning.proofs.write.index_path.Goals as goal

pub returns : goal.returns
returns c = index-put _ _ _ _ _ _ c.put_number-3.ensures c.from.ensures c.put_number-2.ensures c.put_number.ensures refl (omega arith)

-- `Digits.of` meets its contract: the digits of what is left of the number, before those in the array, are the digits of the whole.
use Rattle.fields.proofs.Decimals.{Ahead}
use Rattle.fields.proofs.decimal.Digits.of.Given as goal

abbrev pub invariant-loop-rest : goal.invariant-loop-rest
invariant-loop-rest l = Ahead l.n l.bytes l.start l.rest

abbrev pub decreases-loop-rest : goal.decreases-loop-rest
decreases-loop-rest l = l.rest

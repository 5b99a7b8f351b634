-- The name, and what stands behind it.
use mathlib.Core.Path.{sym, ap, ◌∙◌}
use Rattle.std.specs.Prelude.{Some}
use Rattle.planning.proofs.Keys.{keying-start, keying-next, keying-plain, keying-numbered}
use Rattle.planning.proofs.name.put_key.Goals as goal

pub loop-i-init : goal.loop-i-init
loop-i-init c = keying-start _ _ _ c.told-out c.requires

pub loop-i-preserved : goal.loop-i-preserved
loop-i-preserved c = keying-next _ _ _ c.told-out _ _ c.loop-i.invariant _ c.loop-i-test.true c.lower_case.ensures

pub returns-in_default-clause-count : goal.returns-in_default-clause-count
returns-in_default-clause-count c = (keying-plain _ _ _ c.told-out _ _ c.loop-i.invariant c.loop-i-test.false c.in_default.is).0.0

pub returns-in_default-clause-bytes : goal.returns-in_default-clause-bytes
returns-in_default-clause-bytes c = (keying-plain _ _ _ c.told-out _ _ c.loop-i.invariant c.loop-i-test.false c.in_default.is).1

pub returns-clause-count : goal.returns-clause-count
returns-clause-count c = (keying-numbered _ _ _ c.told-out _ _ c.loop-i.invariant _ _ _ _ c.loop-i-test.false (c.in-Some.is ∙ ap Some (sym c.from-c.ensures)) c.put_bytes.ensures c.put_decimal.ensures c.decimal_length.ensures.digits).0.0

pub returns-clause-bytes : goal.returns-clause-bytes
returns-clause-bytes c = (keying-numbered _ _ _ c.told-out _ _ c.loop-i.invariant _ _ _ _ c.loop-i-test.false (c.in-Some.is ∙ ap Some (sym c.from-c.ensures)) c.put_bytes.ensures c.put_decimal.ensures c.decimal_length.ensures.digits).1

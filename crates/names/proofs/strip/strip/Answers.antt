use Rattle.names.proofs.Skipping.{write_next, write_all}
use Rattle.names.proofs.strip.strip.Goals as goal

pub loop-byte-preserved : goal.loop-byte-preserved
loop-byte-preserved c = write_next _ _ _ _ _ c.loop-byte.invariant _ _ c.in-Some.ensures.steps

pub returns : goal.returns
returns c =
    let all = write_all _ _ _ _ _ c.loop-byte.invariant _ c.in-None.ensures.steps.0 c.stripped_length-needed.ensures.count c.if-out-needed.false in
    record { answer = all.0; memory = all.1 }

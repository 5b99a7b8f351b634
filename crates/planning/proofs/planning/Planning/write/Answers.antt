use native.Mathlib.Omega.{arith}
use Prim.Native.Nat.{◌≤◌, ◌<◌}
use lib.ListN.{length}
use Rattle.planning.proofs.Filing.{filing-start, filing-asks, filing-next, size-filed, file-filed}
use Rattle.planning.proofs.Finals.{ready}
use Rattle.planning.proofs.planning.Planning.write.Goals as goal

pub loop-i-init : goal.loop-i-init
loop-i-init c = filing-start _ _ _ c.args.file.now _ _ _ (ready _ _ c.len-count.ensures.served c.requires) (omega (arith, c.told-file)) c.len-count.ensures.len c.put_number.ensures c.put_number-2.ensures

pub write_read-at-requires : goal.write_read-at-requires
write_read-at-requires c =
    let h : c.loop-i.i < length c.args.reads.now = omega arith in
    let all = filing-asks _ _ _ _ _ _ _ c.loop-i.invariant h _ c.read.ensures in
    record { ordered = all.0; within = all.1; fit = all.2; room = all.3 }

pub loop-i-preserved : goal.loop-i-preserved
loop-i-preserved c =
    let h : c.loop-i.i < length c.args.reads.now = omega arith in
    filing-next _ _ _ _ _ _ _ c.loop-i.invariant h _ c.read.ensures _ _ c.write_read-at.ensures.place c.write_read-at.ensures.bytes

pub returns : goal.returns
returns c =
    let h : length c.args.reads.now ≤ c.loop-i.i = omega arith in
    record {
      size = size-filed _ _ c.len-count.ensures.served _ _ _ _ c.loop-i.invariant h;
      file = file-filed _ _ c.len-count.ensures.served _ _ _ _ c.loop-i.invariant h c.args.file.now _ _ (omega (arith, c.told-file)) c.len-count.ensures.len c.put_number.ensures c.put_number-2.ensures;
    }

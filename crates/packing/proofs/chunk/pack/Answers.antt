-- `pack` meets its contract: head, shared groups and lone reads put one behind the other are the groups file.
use Rattle.packing.proofs.Filing.{short, shared-room, lone_room, written}
use Rattle.packing.proofs.chunk.pack.Goals as goal

pub returns-then-out-size-clause-answer : goal.returns-then-out-size-clause-answer
returns-then-out-size-clause-answer c = rw c.len.ensures (short _ _ _ _ c.requires.few c.requires.low c.group_count-groups.ensures.count c.group_count-groups.ensures.few _ (rw c.len.ensures at c.if-out-size.true)).0

pub returns-then-out-size-clause-memory : goal.returns-then-out-size-clause-memory
returns-then-out-size-clause-memory c = rw c.len.ensures (short _ _ _ _ c.requires.few c.requires.low c.group_count-groups.ensures.count c.group_count-groups.ensures.few _ (rw c.len.ensures at c.if-out-size.true)).1

pub put_shared-next-requires : goal.put_shared-next-requires
put_shared-next-requires c = record { room = shared-room _ _ _ _ c.requires.few c.requires.low c.group_count-groups.ensures.count c.group_count-groups.ensures.few _ _ c.fill-packets.ensures (rw c.len.ensures at c.if-out-size.false) _ _ _ c.put_number.ensures c.put_number-2.ensures c.put_number-3.ensures }

pub put_lone-requires : goal.put_lone-requires
put_lone-requires c = record { room = lone_room _ _ _ _ c.requires.few c.requires.low c.group_count-groups.ensures.count c.group_count-groups.ensures.few _ _ c.fill-packets.ensures (rw c.len.ensures at c.if-out-size.false) _ _ _ c.put_number.ensures c.put_number-2.ensures c.put_number-3.ensures _ _ c.put_shared-next.ensures.next c.put_shared-next.ensures.memory }

pub returns : goal.returns
returns c =
    let all = written _ _ _ _ c.requires.few c.requires.low c.group_count-groups.ensures.count c.group_count-groups.ensures.few _ _ c.fill-packets.ensures (rw c.len.ensures at c.if-out-size.false) _ _ _ c.put_number.ensures c.put_number-2.ensures c.put_number-3.ensures _ _ c.put_shared-next.ensures.next c.put_shared-next.ensures.memory _ c.put_lone.ensures.memory in
    rw c.len.ensures (record { answer = all.0; memory = all.1 })

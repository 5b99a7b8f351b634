use Rattle.std.proofs.Common.{◌≡◌, ◌-◌, ◌+◌, refl, arith}
use Rattle.fields.proofs.Putting.{putting-start}
use Rattle.results.proofs.Entries.{entry-room, entry-put, entries-put}
use Rattle.results.proofs.sort.Sorting.put_entries.Goals as goal

pub loop-init : goal.loop-init
loop-init c = let z : c.args.turn.count - 0 ≡ c.args.turn.count = omega arith in rw z (putting-start _ _ _ c.requires)

pub put_entry-requires : goal.put_entry-requires
put_entry-requires c = entry-room c.args.self.now.plan.now c.args.self.now.results.now c.args.turn (c.args.turn.count - c.loop.counter) c.loop.p _ (omega arith) _ c.entry_at-entry.ensures refl _ _ _ _ _ c.loop.invariant

pub loop-preserved : goal.loop-preserved
loop-preserved c =
    let z : c.args.turn.count - c.loop.counter - 1 ≡ c.args.turn.count - (c.loop.counter + 1) = omega arith in
    rw z at (entry-put c.args.self.now.plan.now c.args.self.now.results.now c.args.turn (c.args.turn.count - c.loop.counter) c.loop.p _ (omega arith) _ c.entry_at-entry.ensures c.member_past-p.ensures _ _ _ _ _ c.loop.invariant _ _ c.put_entry.ensures (c.size-to.ensures.bytes, c.size-to.ensures.few))

pub returns-clause-next : goal.returns-clause-next
returns-clause-next c = (entries-put c.args.self.now.plan.now c.args.self.now.results.now c.args.turn (c.args.turn.count - c.loop.counter) c.loop.p (omega arith) _ _ _ _ _ c.loop.invariant).0

pub returns-clause-memory : goal.returns-clause-memory
returns-clause-memory c = (entries-put c.args.self.now.plan.now c.args.self.now.results.now c.args.turn (c.args.turn.count - c.loop.counter) c.loop.p (omega arith) _ _ _ _ _ c.loop.invariant).1

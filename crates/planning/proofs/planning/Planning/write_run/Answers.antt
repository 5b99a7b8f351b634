-- `write_run` meets its contract: the head with the name of the run, then the members.
use native.Mathlib.Omega.{arith}
use mathlib.Core.Path.{refl}
use Rattle.planning.proofs.Heads.{run_room, run-put}
use Rattle.planning.proofs.planning.Planning.write_run.Goals as goal

pub write_run_members-requires : goal.write_run_members-requires
write_run_members-requires c =
    let r = run_room _ _ _ _ _ _ _ (c.span-span.ensures.least, c.span-span.ensures.count) c.requires.fit _ (c.run_name-size.ensures.count, c.run_name-size.ensures.within) _ c.requires.room in
    record { fit = r.0; room = omega (arith, r.1, c.put_read.auto) }

pub returns : goal.returns
returns c =
    let all = run-put _ _ _ _ _ _ _ (c.span-span.ensures.least, c.span-span.ensures.count) c.requires.fit _ (c.run_name-size.ensures.count, c.run_name-size.ensures.within) _ _ _ _ _ _ _ c.run_name-size.ensures.bytes refl c.requires.room
    c.put_read.ensures c.write_run_members.ensures.place c.write_run_members.ensures.bytes in
    record { place = all.0; bytes = all.1 }

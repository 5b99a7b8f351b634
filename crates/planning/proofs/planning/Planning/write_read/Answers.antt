-- `write_read` meets its contract: the group, and whether it is a struct, choose the writer, and what it writes is the read.
use mathlib.Core.Path.{sym, ◌∙◌}
use Rattle.reads.specs.Rows.{held}
use Rattle.planning.proofs.Choosing.{plain-asks, plain-put, struct-asks, struct-put, run-asks, run-put}
use Rattle.planning.proofs.planning.Planning.write_read.Goals as goal

pub write_plain-requires : goal.write_plain-requires
write_plain-requires c =
    let all = plain-asks _ (held c.args.read) _ _ c.requires.fit c.requires.room c.in_default.is _ c.tag.ensures in
    record { short = all.0; room = all.1 }

pub returns-in_default : goal.returns-in_default
returns-in_default c =
    let all = plain-put _ (held c.args.read) _ _ c.requires.fit c.requires.room c.in_default.is _ c.tag.ensures _ _ (c.write_plain.ensures.place, c.write_plain.ensures.bytes) in
    record { place = all.0; bytes = all.1 }

pub write_struct-requires : goal.write_struct-requires
write_struct-requires c =
    let all = struct-asks _ (held c.args.read) _ _ c.requires.fit c.requires.room _ c.in-Some.is _ (rw (c.from.ensures, c.from-2.ensures) at c.of-name.ensures) (sym (rw c.from-3.ensures at c.cluster.ensures) ∙ c.in-None.is) in
    record { fit = all.0; room = all.1 }

pub returns-in-None : goal.returns-in-None
returns-in-None c =
    let all = struct-put _ (held c.args.read) _ _ c.requires.fit c.requires.room _ c.in-Some.is _ (rw (c.from.ensures, c.from-2.ensures) at c.of-name.ensures) (sym (rw c.from-3.ensures at c.cluster.ensures) ∙ c.in-None.is)
    _ _ (c.write_struct.ensures.place, c.write_struct.ensures.bytes) in
    record { place = all.0; bytes = all.1 }

pub write_run-requires : goal.write_run-requires
write_run-requires c =
    let all = run-asks _ (held c.args.read) _ _ c.requires.fit c.requires.room _ c.in-Some.is _ (rw (c.from.ensures, c.from-2.ensures) at c.of-name.ensures) _ (sym (rw c.from-3.ensures at c.cluster.ensures) ∙ c.in-Some-cluster.is) in
    record { fit = all.0; room = all.1 }

pub returns-in-Some-cluster : goal.returns-in-Some-cluster
returns-in-Some-cluster c =
    let all = run-put _ (held c.args.read) _ _ c.requires.fit c.requires.room _ c.in-Some.is _ (rw (c.from.ensures, c.from-2.ensures) at c.of-name.ensures) _ (sym (rw c.from-3.ensures at c.cluster.ensures) ∙ c.in-Some-cluster.is)
    _ _ (c.write_run.ensures.place, c.write_run.ensures.bytes) in
    record { place = all.0; bytes = all.1 }

use Rattle.planning.proofs.Rowing.{rowing_start, rowing-here, rowing-next, rowing-end}
use Rattle.planning.specs.Put.{under_in}
use Rattle.planning.proofs.planning.Planning.write_struct_members.Goals as goal

pub loop-position-init : goal.loop-position-init
loop-position-init c = rowing_start _ _ _ _ _ c.requires.fit c.requires.room

pub write_under-at-requires : goal.write_under-at-requires
unfolding under_in
write_under-at-requires c = let w = rowing-here _ _ _ _ _ _ _ _ c.loop-position.invariant c.loop-position-test.true in rw c.tag.ensures (record { fit = w.0; room = w.1 })

pub loop-position-preserved : goal.loop-position-preserved
unfolding under_in
loop-position-preserved c =
    rowing-next _ _ _ _ _ _ _ _ c.loop-position.invariant c.loop-position-test.true _ _ (rw c.tag.ensures at c.write_under-at.ensures.place) (rw c.tag.ensures at c.write_under-at.ensures.bytes)

pub returns : goal.returns
returns c = let all = rowing-end _ _ _ _ _ _ _ _ c.loop-position.invariant c.loop-position-test.false in record { place = all.0; bytes = all.1 }

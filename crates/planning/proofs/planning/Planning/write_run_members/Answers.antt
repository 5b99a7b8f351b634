use Rattle.planning.proofs.Rowing.{rowing_start, rowing-here, rowing-next, rowing-end}
use Rattle.planning.specs.Put.{element_in}
use Rattle.planning.proofs.planning.Planning.write_run_members.Goals as goal

pub loop-position-init : goal.loop-position-init
loop-position-init c = rowing_start _ _ _ _ _ c.requires.fit c.requires.room

pub write_element-at-requires : goal.write_element-at-requires
unfolding element_in
write_element-at-requires c =
    let w = rowing-here _ _ _ _ _ _ _ _ c.loop-position.invariant c.loop-position-test.true in
    rw (c.tag.ensures, c.index_at.ensures) (record { short = w.0.0; room = w.1 })

pub loop-position-preserved : goal.loop-position-preserved
unfolding element_in
loop-position-preserved c =
    rowing-next _ _ _ _ _ _ _ _ c.loop-position.invariant c.loop-position-test.true _ _
    (rw (c.tag.ensures, c.index_at.ensures) at c.write_element-at.ensures.place) (rw (c.tag.ensures, c.index_at.ensures) at c.write_element-at.ensures.bytes)

pub returns : goal.returns
returns c = let all = rowing-end _ _ _ _ _ _ _ _ c.loop-position.invariant c.loop-position-test.false in record { place = all.0; bytes = all.1 }

-- The levels, from the first to the last.
use Rattle.planning.proofs.Leveling.{leveling-start, leveling-next, leveling-end}
use Rattle.planning.proofs.planning.Planning.fill_levels.Goals as goal

pub loop-j-init : goal.loop-j-init
loop-j-init c = leveling-start _ _ _ _ c.told-levels

pub loop-j-preserved : goal.loop-j-preserved
loop-j-preserved c = leveling-next _ _ _ _ _ c.loop-j.invariant _ c.requires c.loop-j-test.true c.level_of.ensures

pub returns : goal.returns
returns c = leveling-end _ _ _ _ _ c.loop-j.invariant c.loop-j-test.false

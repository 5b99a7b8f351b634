-- The sizes of the tags so far are put.
use Rattle.std.proofs.Common.{◌≡◌, map, take}
use Rattle.planning.specs.Stages.{tag_size}
use Rattle.planning.proofs.plan.plain_reads.Given as goal

abbrev pub invariant-loop-tag : goal.invariant-loop-tag
invariant-loop-tag l = l.sizes ≡ map tag_size (take l.tag-index l.tags)

use Rattle.alike.proofs.Seen.{kept_start, kept_step, bucket-told}
use Rattle.alike.proofs.check_nodes_alike.Goals as goal

pub loop-init : goal.loop-init
loop-init c = kept_start _ _ _ _ c.new-chains.ensures

pub loop-preserved : goal.loop-preserved
loop-preserved c = kept_step _ _ _ _ _ _ c.loop.invariant c.requires c.loop-test.true _ (bucket-told _ _ _ _ c.text_at.ensures c.bucket-bucket.ensures.bucket) c.bucket-bucket.ensures.few _ c.has.ensures _ _ c.if-has.false c.insert.ensures c.node_past-at.ensures

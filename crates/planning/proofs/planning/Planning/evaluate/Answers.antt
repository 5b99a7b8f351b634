-- `evaluate` meets its contract: no merge of fewer than two reads, else that of a struct or of a run.
use Rattle.planning.proofs.Offers.{offered_few, offered_whole}
use Rattle.planning.proofs.planning.Planning.evaluate.Goals as goal

pub returns-then-covered-lt2-clause-offer : goal.returns-then-covered-lt2-clause-offer
returns-then-covered-lt2-clause-offer c = offered_few c.args.j c.args.self.now c.args.reads.now c.args.marks.now _ c.covered-covered.ensures.count c.if-covered-lt2.true

pub returns-in-None-clause-offer : goal.returns-in-None-clause-offer
returns-in-None-clause-offer c = offered_whole c.args.j c.args.self.now c.args.reads.now c.args.marks.now _ c.covered-covered.ensures.count _ _ _ c.if-covered-lt2.false c.covered-covered.ensures.reply c.ask-ask.ensures c.weight-weight.ensures _ _ c.cluster.ensures c.in-None.is c.whole_offer.ensures

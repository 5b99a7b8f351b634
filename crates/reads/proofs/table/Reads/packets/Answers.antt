use Rattle.std.proofs.Common.{◌∙◌, ap, map}
use Rattle.packing.specs.Told.{started, steps_of}
use Rattle.reads.specs.Held.{size_of}
use Rattle.reads.proofs.Lent.{sizes_told}
use Rattle.reads.proofs.table.Reads.packets.Goals as goal

pub returns : goal.returns
returns c = c.packets.ensures ∙ ap (λ zs. (steps_of c.args.cost c.args.budget (started c.args.budget) zs).packets) (sizes_told c.self.inside.members _ ∙ ap (map size_of) c.self.view_is)

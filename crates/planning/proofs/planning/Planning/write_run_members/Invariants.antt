-- `write_run_members` meets its contract: the members at the positions that are left are still to be written.
use Rattle.planning.proofs.Rowing.{Rowing}
use Rattle.considered.specs.Seen.{index_in}
use Rattle.planning.specs.Tables.{text_by}
use Rattle.planning.specs.Put.{element_in, ElementFit}
use Rattle.planning.proofs.planning.Planning.write_run_members.Given as goal

abbrev pub invariant-loop-position : goal.invariant-loop-position
invariant-loop-position l = Rowing (element_in (text_by l.self.list.now l.self.tags.now) (index_in l.self.tags.now) l.least) (ElementFit (text_by l.self.list.now l.self.tags.now) (index_in l.self.tags.now) l.least) l.serves l.initial.file l.file l.start l.at l.position-index

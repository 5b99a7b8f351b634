-- `write` meets its contract: read by read what the table tells is written, and it is the layout of every plan that it tells.
use Rattle.planning.proofs.Filing.{Filing}
use Rattle.planning.specs.Put.{words_of}
use Rattle.planning.proofs.planning.Planning.write.Given as goal

abbrev pub invariant-loop-i : goal.invariant-loop-i
invariant-loop-i l =
    Filing (words_of l.self) l.self.list.now l.reads l.initial.file l.file l.at l.i

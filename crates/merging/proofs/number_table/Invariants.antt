-- `merging::number_table` meets its contract. The loop's invariant: the table's nodes before `next` are numbered. Assumes nothing.
use Rattle.cutting.specs.Behind.{words_of}
use Rattle.merging.specs.Inner.{Passing}
use Rattle.merging.proofs.number_table.Given as goal

abbrev pub invariant-loop-next : goal.invariant-loop-next
invariant-loop-next l =
    Passing (words_of l.cut) l.initial.map l.map l.cut.n l.cut.nodes l.fn.limit l.fn.at.next l.fn.at.first l.fn.at.second l.tally.count l.tally.last l.next

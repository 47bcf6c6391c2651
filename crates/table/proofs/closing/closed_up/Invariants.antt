-- `closed_up` goes over the cells from j on: those passed are those of the row closed up.
use lib.ListN.{get_or}
use Rattle.table.specs.Fold.{closed_up}
use Rattle.table.proofs.Lists.{Filled}
use Rattle.table.proofs.closing.closed_up.Given as goal

abbrev pub invariant-loop-i : goal.invariant-loop-i
invariant-loop-i g l = Filled (λ x. get_or (closed_up l.empty l.j l.cells) x l.empty) l.left l.i g.row.N

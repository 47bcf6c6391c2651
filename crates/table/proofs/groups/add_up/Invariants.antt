-- `add_up` gives the shares by groups and the largest quotient: each place with a group adds its share and its quotient, and the others are passed by. The smallest period has the largest quotient (`smallest_most`).
use Prim.Native.Nat.{min}
use Rattle.table.proofs.Gathered.{Passed}
use Rattle.table.proofs.groups.add_up.Given as goal

abbrev pub invariant-loop-j : goal.invariant-loop-j
invariant-loop-j l = Passed l.t l.shares l.largest (min l.j l.t.count)

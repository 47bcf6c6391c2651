-- `budgets` adds up the granted budgets of each group: those of the streams passed stand in their places. Each is at most its period, so that a sum of eight is at most 480,000,000.
use Prim.Native.Nat.{min}
use Rattle.table.proofs.Gathered.{Added}
use Rattle.table.proofs.groups.budgets.Given as goal

abbrev pub invariant-loop-i : goal.invariant-loop-i
invariant-loop-i l = Added l.fn.judged.table l.budget (min l.i l.fn.judged.table.count)

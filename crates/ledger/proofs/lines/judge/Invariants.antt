-- `judge` takes line after line: those that are left are judged so.
use mathlib.Core.Path.{◌≡◌}
use Prim.Native.Nat.{◌+◌}
use lib.ListN.{length, drop}
use Rattle.ledger.specs.Ledger.{judged_from, judged_of}
use Rattle.ledger.proofs.Judging.{parts_of}
use Rattle.ledger.proofs.lines.judge.Given as goal

abbrev pub invariant-loop-i : goal.invariant-loop-i
invariant-loop-i l = judged_from (length l.yielded + 1) l.begun (drop (length l.yielded) (parts_of l.file)) ≡ judged_of l.file

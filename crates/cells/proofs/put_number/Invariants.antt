-- `put_number` stores the cell: what is stored of it, and then what is left.
use mathlib.Core.Path.{◌≡◌}
use mathlib.Core.List.{◌++◌}
use Prim.Native.Nat.{◌-◌}
use lib.ListN.{take}
use Rattle.cells.specs.Cells.{cell}
use Rattle.cells.proofs.put_number.Given as goal

abbrev pub invariant-loop-byte : goal.invariant-loop-byte
invariant-loop-byte l = take l.byte-index l.byte-items ++ cell (l.run - l.byte-index) l.rest ≡ cell l.run l.n

-- `number_at` reads the cell from its end: n is the number in its last i bytes. It has at most eight bytes, so it fits; those past the slice's end add nothing.
use mathlib.Core.Path.{◌≡◌}
use Prim.Native.Nat.{◌+◌, ◌-◌}
use Rattle.cells.specs.Cells.{number_at}
use Rattle.cells.proofs.number_at.Given as goal

abbrev pub invariant-loop-i : goal.invariant-loop-i
invariant-loop-i l = l.n ≡ number_at l.i l.bytes (l.at + (l.run - l.i))

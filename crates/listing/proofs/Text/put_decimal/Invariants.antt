-- `put_decimal` finds the digits from the last one on: those of the rest stand before those found.
use Prim.Native.Nat.{◌≤◌}
use mathlib.Core.Path.{◌≡◌}
use mathlib.Core.List.{◌++◌}
use lib.ListN.{length, drop}
use Rattle.listing.specs.Line.{decimal}
use Rattle.listing.proofs.Text.put_decimal.Given as goal

abbrev pub invariant-loop-rest : goal.invariant-loop-rest
invariant-loop-rest l = (length (decimal l.rest) ≤ l.start) × (l.start ≤ 20) × (length l.digits ≡ 20) × (decimal l.rest ++ drop l.start l.digits ≡ decimal l.n)

abbrev pub decreases-loop-rest : goal.decreases-loop-rest
decreases-loop-rest l = l.rest

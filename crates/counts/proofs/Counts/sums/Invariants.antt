-- `Counts::sums` fills the rows while each sum has room; a sum that has none ends it.
use mathlib.Core.Bool.{true}
use mathlib.Core.Path.{◌≡◌}
use Prim.Native.Nat.{ℕ, ◌<◌}
use Rattle.table.proofs.Lists.{Filled}
use Rattle.counts.specs.Tally.{together}
use Rattle.counts.specs.Counts.{row_at, fits}
use Rattle.counts.proofs.Counts.sums.Given as goal

abbrev pub invariant-loop-i : goal.invariant-loop-i
invariant-loop-i l =
    Filled (λ j. together (row_at l.a j) (row_at l.b j)) l.row-items l.i 8
    × ((j : ℕ) → j < l.i → fits (together (row_at l.a j) (row_at l.b j)) ≡ true)

-- `put_drops` lists the events that are not kept: those that the loop has passed stand at the start of the list.
use mathlib.Core.Path.{◌≡◌}
use mathlib.Core.List.{◌++◌, map}
use Prim.Native.Nat.{◌-◌}
use lib.ListN.{drop}
use Rattle.table.specs.Fold.{count_to}
use Rattle.repair.specs.Salvage.{is_kept, pair_of, drops_to}
use Rattle.repair.proofs.pieces.Rest.put_drops.Given as goal

abbrev pub invariant-loop-i : goal.invariant-loop-i
invariant-loop-i l =
    (l.kept ≡ count_to (is_kept l.self.room l.trace) l.i)
    × (l.changes ≡ map pair_of (drops_to l.self.room l.self.at l.trace l.i) ++ drop (l.i - l.kept) l.initial.changes)

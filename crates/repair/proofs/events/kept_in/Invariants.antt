-- `kept_in` counts the events that are kept: those that the loop has passed are counted.
use mathlib.Core.Path.{◌≡◌}
use Rattle.table.specs.Fold.{count_to}
use Rattle.repair.specs.Salvage.{is_kept}
use Rattle.repair.proofs.events.kept_in.Given as goal

abbrev pub invariant-loop-i : goal.invariant-loop-i
invariant-loop-i l = l.kept ≡ count_to (is_kept l.room l.trace) l.i

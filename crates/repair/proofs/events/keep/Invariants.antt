-- `keep` copies the events that are kept: those that the loop has passed stand at the start of the buffer.
use mathlib.Core.Path.{◌≡◌}
use lib.Seq.{sets}
use Rattle.table.specs.Fold.{count_to}
use Rattle.repair.specs.Salvage.{is_kept, kept_to}
use Rattle.repair.proofs.events.keep.Given as goal

abbrev pub invariant-loop-i : goal.invariant-loop-i
invariant-loop-i l =
    (l.kept ≡ count_to (is_kept l.room l.trace) l.i) × (l.out ≡ sets l.initial.out 0 (kept_to l.room l.trace l.i))

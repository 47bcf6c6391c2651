-- `Desk::is_sound` tests the count and each cell: the invariant is that the cells passed are used or empty.
use mathlib.Core.Bool.{◌||◌}
use mathlib.Core.Path.{◌≡◌}
use lib.Dec.{ltb}
use Rattle.table.specs.Fold.{all_to}
use Rattle.table.specs.Reservations.{record_at}
use Rattle.booking.specs.Book.{empty_cell}
use Rattle.booking.proofs.Desk.is_sound.Given as goal

abbrev pub invariant-loop-i : goal.invariant-loop-i
invariant-loop-i l = l.empty ≡ all_to (λ j. ltb j l.fn.self.count || empty_cell (record_at l.fn.self.streams j)) l.i

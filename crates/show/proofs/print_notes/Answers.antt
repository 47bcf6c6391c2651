-- `print_notes` goes over the lines: an accepted file has few streams and events.
use Rattle.std.proofs.Common.{arith}
use Rattle.file.proofs.Round.{accepted_is_within}
use Rattle.show.proofs.print_notes.Goals as goal

pub overflow_add-i-end : goal.overflow_add-i-end
overflow_add-i-end g c = omega (arith, (accepted_is_within _ _ c.requires).count_high)

pub overflow_add-i-end-2 : goal.overflow_add-i-end-2
overflow_add-i-end-2 g c =
    let inside = accepted_is_within _ _ c.requires in
    omega (arith, inside.count_high, inside.events_high)

-- `replay` hands on the trace as a part of the file: an accepted file's trace lies within it.
use Rattle.std.proofs.Common.{arith, sym}
use Rattle.file.proofs.Round.{accepted_is_within}
use Rattle.replay.proofs.replay.Goals as goal

pub slice_bounds-trace-count : goal.slice_bounds-trace-count
slice_bounds-trace-count g c =
    omega (arith, (accepted_is_within c.args.file.now c.in-Ok.layout (sym c.in-Ok.ensures)).whole_events)

pub slice_bounds-trace-start : goal.slice_bounds-trace-start
slice_bounds-trace-start g c =
    omega (arith, (accepted_is_within c.args.file.now c.in-Ok.layout (sym c.in-Ok.ensures)).whole_events)

pub slice_bounds-trace-end : goal.slice_bounds-trace-end
slice_bounds-trace-end g c =
    omega (arith, (accepted_is_within c.args.file.now c.in-Ok.layout (sym c.in-Ok.ensures)).in_file)

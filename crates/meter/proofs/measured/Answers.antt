-- `measured` runs the trace, which is a part of the file: an accepted file's trace lies within it.
use Rattle.std.proofs.Common.{arith}
use Rattle.file.proofs.Round.{accepted_is_within}
use Rattle.meter.proofs.measured.Goals as goal

pub slice_bounds-trace-count : goal.slice_bounds-trace-count
slice_bounds-trace-count c =
    omega (arith, (accepted_is_within c.args.file.now c.args.layout c.requires).whole_events)

pub slice_bounds-trace-start : goal.slice_bounds-trace-start
slice_bounds-trace-start c =
    omega (arith, (accepted_is_within c.args.file.now c.args.layout c.requires).whole_events)

pub slice_bounds-trace-end : goal.slice_bounds-trace-end
slice_bounds-trace-end c =
    omega (arith, (accepted_is_within c.args.file.now c.args.layout c.requires).in_file)

-- `trace_of` is the part of the file that reading names, or nothing of it.
use mathlib.Core.Path.{sym}
use native.Mathlib.Omega.{arith}
use Rattle.file.proofs.Round.{accepted_is_within}
use Rattle.logs.proofs.Files.{no_trace, trace_read}
use Rattle.logs.proofs.trace_of.Goals as goal

pub slice_bounds-result-count : goal.slice_bounds-result-count
slice_bounds-result-count c =
    omega (arith, (accepted_is_within c.args.file.now c.in-Ok.layout (sym c.in-Ok.ensures)).whole_events)

pub slice_bounds-result-start : goal.slice_bounds-result-start
slice_bounds-result-start c =
    omega (arith, (accepted_is_within c.args.file.now c.in-Ok.layout (sym c.in-Ok.ensures)).whole_events)

pub slice_bounds-result-end : goal.slice_bounds-result-end
slice_bounds-result-end c =
    omega (arith, (accepted_is_within c.args.file.now c.in-Ok.layout (sym c.in-Ok.ensures)).in_file)

pub returns-in-Ok : goal.returns-in-Ok
returns-in-Ok c = sym (trace_read c.args.file.now c.in-Ok.layout (sym c.in-Ok.ensures))

pub returns-in-Err : goal.returns-in-Err
returns-in-Err c = sym (no_trace c.args.file.now _ (sym c.in-Err.ensures))

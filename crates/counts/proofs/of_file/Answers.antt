-- `of_file` counts the part of the file that reading names.
use mathlib.Core.Path.{sym, ◌∙◌}
use native.Mathlib.Omega.{arith}
use Rattle.std.proofs.lemmas.Result.{err_from_is_err_and}
use Rattle.file.proofs.Round.{accepted_is_within}
use Rattle.counts.proofs.Files.{filed_refused, filed_opened, events_of}
use Rattle.counts.proofs.of_file.Goals as goal

pub returns-in_err-layout : goal.returns-in_err-layout
returns-in_err-layout c =
    let p = err_from_is_err_and c.from_residual.result c.from_residual.ensures.1 in
    rw (p.1, p.2) (sym (filed_refused c.args.file.now _ (sym c.in_err-layout.ensures)))

pub slice_bounds-trace-count : goal.slice_bounds-trace-count
slice_bounds-trace-count c =
    omega (arith, (accepted_is_within c.args.file.now c.in_ok-layout.layout (sym c.in_ok-layout.ensures)).whole_events)

pub slice_bounds-trace-start : goal.slice_bounds-trace-start
slice_bounds-trace-start c =
    omega (arith, (accepted_is_within c.args.file.now c.in_ok-layout.layout (sym c.in_ok-layout.ensures)).whole_events)

pub slice_bounds-trace-end : goal.slice_bounds-trace-end
slice_bounds-trace-end c =
    omega (arith, (accepted_is_within c.args.file.now c.in_ok-layout.layout (sym c.in_ok-layout.ensures)).in_file)

pub of_opened-requires : goal.of_opened-requires
of_opened-requires c = events_of c.args.file.now c.in_ok-layout.layout (sym c.in_ok-layout.ensures)

pub returns : goal.returns
returns c =
    (rw c.table_of-table.ensures at c.of_opened.ensures) ∙ sym (filed_opened c.args.file.now c.in_ok-layout.layout (sym c.in_ok-layout.ensures))

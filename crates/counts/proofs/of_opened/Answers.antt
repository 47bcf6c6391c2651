-- `of_opened` counts a table and its trace, or has what refuses the table.
use mathlib.Core.Path.{sym, ap, ◌∙◌}
use Rattle.std.proofs.lemmas.Result.{err_from_is_err_and}
use Rattle.session.specs.declared.Opened.{Opened}
use Rattle.counts.proofs.Files.{opened_refused, opened_counts}
use Rattle.counts.proofs.of_opened.Goals as goal

pub returns-in_err-opened : goal.returns-in_err-opened
returns-in_err-opened c =
    let a = c.args in
    let p = err_from_is_err_and c.from_residual.result c.from_residual.ensures.1 in
    let admission = ap (λ (o : Opened). o.admission) (sym c.open-opened.ensures) in
    rw (p.1, p.2) (sym (opened_refused a.table a.order a.trace.now _ (admission ∙ c.in_err-opened.was)))

pub returns : goal.returns
returns c =
    let a = c.args in
    let admission = ap (λ (o : Opened). o.admission) (sym c.open-opened.ensures) in
    rw (c.run-counts.ensures, c.open-opened.ensures, c.requires)
    (sym (opened_counts a.table a.order a.trace.now _ (admission ∙ c.in_ok-opened.was)))

-- `Session::open_taken` gives a fresh session exactly for a table that is admitted, as `Session::open` does.
use mathlib.Core.Path.{sym, ◌∙◌}
use Rattle.session.proofs.Openings.{answered_admitted, opens_admitted, opens_refused}
use Rattle.session.proofs.Session.open_taken.Goals as goal

pub fresh-requires : goal.fresh-requires
fresh-requires c = answered_admitted _ _ (sym c.admission.ensures ∙ c.in-Ok.is)

pub returns-in-Ok : goal.returns-in-Ok
returns-in-Ok c = rw (c.fresh.ensures, ← c.of-table.ensures, opens_admitted _ c.args.order _ (sym c.admission.ensures ∙ c.in-Ok.is))

pub returns-in-Err : goal.returns-in-Err
returns-in-Err c = rw (c.zero.ensures, ← c.of-table.ensures, opens_refused _ c.args.order _ (sym c.admission.ensures ∙ c.in-Err.is))

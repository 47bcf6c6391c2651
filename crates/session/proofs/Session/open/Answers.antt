-- `Session::open` gives a fresh session exactly for a table that is admitted.
use mathlib.Core.Path.{sym, ◌∙◌}
use Rattle.session.proofs.Openings.{answered_admitted, opens_admitted, opens_refused}
use Rattle.session.proofs.Session.open.Goals as goal

pub admitted-requires : goal.admitted-requires
admitted-requires c = answered_admitted _ _ (sym c.admission.ensures ∙ c.in-Ok.is)

pub returns-in-Ok : goal.returns-in-Ok
returns-in-Ok c = c.admitted.ensures ∙ sym (opens_admitted _ _ _ (sym c.admission.ensures ∙ c.in-Ok.is))

pub returns-in-Err : goal.returns-in-Err
returns-in-Err c = c.refused.ensures ∙ sym (opens_refused _ _ _ (sym c.admission.ensures ∙ c.in-Err.is))

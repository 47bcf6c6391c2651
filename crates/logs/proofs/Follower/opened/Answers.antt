-- `opened` has the session of the opening, and what refuses the table.
use mathlib.Core.Path.{sym, ap, ◌∙◌}
use Rattle.session.specs.declared.Opened.{Opened}
use Rattle.logs.specs.Following.{starting, unadmitted, opened_at}
use Rattle.logs.proofs.Follower.opened.Goals as goal

pub returns-in-Ok : goal.returns-in-Ok
unfolding opened_at
returns-in-Ok c =
    c.starting.ensures
    ∙ ap (starting c.open-opened.result.session) (sym (ap unadmitted c.in-Ok.is))
    ∙ ap (λ (o : Opened). starting o.session (unadmitted o.admission)) c.open-opened.ensures

pub returns-in-Err : goal.returns-in-Err
unfolding opened_at
returns-in-Err c =
    c.starting-in-Err.ensures
    ∙ ap (starting c.open-opened.result.session) (sym (ap unadmitted c.in-Err.is))
    ∙ ap (λ (o : Opened). starting o.session (unadmitted o.admission)) c.open-opened.ensures

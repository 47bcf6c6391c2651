-- `Session::refuse` tells the number, and hands the session back as it was.
use Rattle.session.proofs.Outcomes.{refuses}
use Rattle.session.proofs.Session.refuse.Goals as goal

pub returns : goal.returns
returns c = rw c.number.ensures (refuses _ _)

-- `Session::wait` changes nothing, and says until when.
use Rattle.session.proofs.Outcomes.{waits}
use Rattle.session.proofs.Session.wait.Goals as goal

pub returns : goal.returns
returns c = waits _ _ c.requires

-- `Session::zero` gives the session of zeros.
use Rattle.session.specs.Opening.{zero_session}
use Rattle.session.proofs.Session.zero.Goals as goal

pub returns : goal.returns
unfolding zero_session
returns c = rw (c.default.ensures, c.default-2.ensures, c.at-start.ensures, c.fresh.ensures)

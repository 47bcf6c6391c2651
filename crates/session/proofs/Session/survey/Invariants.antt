-- `Session::survey` passes over the streams once: what it has found is that of the streams passed.
use mathlib.Core.Path.{◌≡◌}
use Rattle.session.proofs.Surveys.{found_to, passing}
use Rattle.session.proofs.Session.survey.Given as goal

abbrev pub invariant-loop-i : goal.invariant-loop-i
invariant-loop-i l = (l.expiring ≡ found_to l.self l.i) × (l.beyond ≡ passing l.self l.i)

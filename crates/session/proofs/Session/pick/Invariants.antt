-- `Session::pick` finds the request to send: its best is that of the streams passed.
use mathlib.Core.Path.{◌≡◌}
use Rattle.session.proofs.Picks.{pick_to}
use Rattle.session.proofs.Session.pick.Given as goal

abbrev pub invariant-loop-i : goal.invariant-loop-i
invariant-loop-i l = l.best ≡ pick_to l.self l.i

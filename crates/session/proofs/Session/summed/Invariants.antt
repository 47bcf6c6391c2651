-- `Session::summed` gives the sum of all remainders: its sums are those of the streams passed.
use mathlib.Core.Path.{◌≡◌}
use Rattle.session.specs.Session.{horizon}
use Rattle.session.proofs.Remainders.{sums_to}
use Rattle.session.proofs.Session.summed.Given as goal

abbrev pub invariant-loop-x : goal.invariant-loop-x
invariant-loop-x l = l.sums ≡ sums_to l.self (horizon l.self) l.x-index

-- `Session::soonest` gives the smallest deadline: that of the streams passed.
use mathlib.Core.Path.{◌≡◌}
use Rattle.table.specs.Fold.{smallest_to}
use Rattle.time.specs.Time.{moment}
use Rattle.session.specs.Session.{stream_at}
use Rattle.session.proofs.Session.soonest.Given as goal

abbrev pub invariant-loop-x : goal.invariant-loop-x
invariant-loop-x l = l.h ≡ moment (smallest_to (λ j. (stream_at l.self j).deadline.0) l.x-index)

-- `run` has made the steps of the events that it has passed.
use mathlib.Core.Path.{◌≡◌}
use Rattle.counts.specs.Counts.{calls_to}
use Rattle.counts.specs.Inner.{steps_by}
use Rattle.counts.proofs.run.run.Given as goal

abbrev pub invariant-loop-i : goal.invariant-loop-i
invariant-loop-i l = l.step ≡ steps_by l.initial.step (calls_to l.trace l.i)

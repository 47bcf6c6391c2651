-- `leading` gives the request that goes first, and its place: the invariant is that it is so of those passed.
use Rattle.order.specs.Order.{goes_before}
use Rattle.stream.specs.Search.{lead}
use mathlib.Core.Path.{◌≡◌}
use Rattle.stream.proofs.choice.leading.Given as goal

abbrev pub invariant-loop-j : goal.invariant-loop-j
invariant-loop-j l = l.best ≡ lead (goes_before l.order l.head) l.places l.j

-- `Stream::closed` writes the record and begins the next job with what this one was charged above its budget.
use mathlib.Core.Path.{refl}
use Rattle.stream.specs.Stream.{closed}
use Rattle.stream.proofs.Stream.closed.Goals as goal

pub returns : goal.returns
unfolding closed
returns c = rw (c.above-carried.ensures, c.plus.ensures) refl

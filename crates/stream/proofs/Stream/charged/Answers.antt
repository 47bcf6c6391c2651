-- `Stream::charged` adds a completion to the charge.
use Rattle.stream.specs.Stream.{charged}
use Rattle.stream.proofs.Stream.charged.Goals as goal

pub returns : goal.returns
unfolding charged
returns c = rw c.plus.ensures

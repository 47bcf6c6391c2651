-- `Stream::filled` gives the smaller of the slots and the queue's length.
use Rattle.stream.specs.Stream.{filled}
use Rattle.stream.proofs.Stream.filled.Goals as goal

pub returns : goal.returns
unfolding filled
returns c = rw (c.min.ensures, c.slots-slots.ensures)

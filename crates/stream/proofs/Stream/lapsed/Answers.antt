-- `Stream::lapsed` charges the worst-case time for a slot.
use Rattle.stream.specs.Stream.{lapsed}
use Rattle.stream.proofs.Stream.lapsed.Goals as goal

pub returns : goal.returns
unfolding lapsed
returns c = rw (c.plus.ensures, c.of.ensures)

-- `Stream::without` closes the queue up over the request.
use Rattle.stream.specs.Stream.{without}
use Rattle.stream.proofs.Stream.without.Goals as goal

pub returns : goal.returns
unfolding without
returns c =
    rw (c.closed_up.ensures, c.closed_up-2.ensures)

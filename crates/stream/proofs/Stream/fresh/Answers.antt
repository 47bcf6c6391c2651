-- `Stream::fresh` gives a stream at its first release.
use Rattle.stream.specs.Stream.{fresh_stream}
use Rattle.stream.proofs.Stream.fresh.Goals as goal

pub returns : goal.returns
unfolding fresh_stream
returns c =
    rw (c.at.ensures, c.of.ensures, c.of-nothing.ensures, c.at-start.ensures)

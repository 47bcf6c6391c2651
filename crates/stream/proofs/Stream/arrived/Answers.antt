-- `Stream::arrived` puts a place and its tag at the queue's end.
use Rattle.stream.specs.Stream.{arrived}
use mathlib.Core.Path.{refl}
use Rattle.stream.proofs.Stream.arrived.Goals as goal

pub returns : goal.returns
unfolding arrived
returns c = refl

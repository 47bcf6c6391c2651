-- `is_whole` makes the tests of its definition.
use Rattle.logs.specs.Following.{is_whole}
use Rattle.logs.proofs.Looking.{nothing_is}
use Rattle.logs.proofs.Follower.is_whole.Goals as goal

pub returns : goal.returns
unfolding is_whole
returns c = rw (nothing_is _ _ c.is_none.ensures, c.awaited.ensures, c.is_empty.ensures)

-- `awaited` makes the tests of its definition.
use borrow.Author.Tests.{le-leb, lt-leb}
use Rattle.table.specs.Fold.{if}
use Rattle.logs.specs.Following.{awaited}
use Rattle.logs.proofs.Looking.{none_refused}
use Rattle.logs.proofs.Follower.awaited.Goals as goal

pub returns-then-self-le1 : goal.returns-then-self-le1
unfolding awaited if
returns-then-self-le1 c = rw (le-leb _ 1 c.if-self-le1.true)

pub returns-then-is_none-self : goal.returns-then-is_none-self
unfolding awaited if
returns-then-is_none-self c =
    let none = none_refused _ _ c.is_none.ensures in
    rw (lt-leb _ 1 c.if-self-le1.false, rw none at c.if-is_none-self.true)

pub returns : goal.returns
unfolding awaited if
returns c =
    let none = none_refused _ _ c.is_none.ensures in
    rw (lt-leb _ 1 c.if-self-le1.false, rw none at c.if-is_none-self.false)

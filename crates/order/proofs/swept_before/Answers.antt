-- `swept_before` goes by which side of the head its first place is on.
use borrow.Author.Tests.{lt-ltb, le-ltb}
use Rattle.table.specs.Fold.{if}
use Rattle.order.specs.Order.{swept_before}
use Rattle.order.proofs.swept_before.Goals as goal

pub returns-then-a-head : goal.returns-then-a-head
unfolding swept_before if
returns-then-a-head c = rw (lt-ltb _ _ c.if-a-head.true)

pub returns-else-a-head : goal.returns-else-a-head
unfolding swept_before if
returns-else-a-head c = rw (le-ltb _ _ c.if-a-head.false)

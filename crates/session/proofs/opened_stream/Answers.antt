-- `opened_stream` gives the stream at i, which is below the count.
use borrow.Author.Tests.{lt-ltb}
use Rattle.table.specs.Fold.{if}
use Rattle.session.specs.Opening.{opened_stream}
use Rattle.session.proofs.opened_stream.Goals as goal

pub returns : goal.returns
unfolding opened_stream if
returns c = rw (c.fresh.ensures, c.granted-budget.ensures, c.numbers.ensures, lt-ltb _ _ c.requires.0)

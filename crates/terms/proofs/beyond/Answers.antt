-- `beyond` finds the end of the range by its test.
use Rattle.terms.specs.Terms.{beyond}
use Rattle.table.specs.Fold.{if}
use borrow.Author.Tests.{lt-ltb, le-ltb}
use Rattle.terms.proofs.beyond.Goals as goal

pub returns-then-n-low : goal.returns-then-n-low
unfolding beyond if
returns-then-n-low c = rw (lt-ltb _ _ c.if-n-low.true)

pub returns-else-n-low : goal.returns-else-n-low
unfolding beyond if
returns-else-n-low c = rw (le-ltb _ _ c.if-n-low.false)

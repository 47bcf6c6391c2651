-- `hundredths` goes by whether the part is below the whole.
use Rattle.terms.specs.Terms.{hundredths_of}
use Rattle.table.specs.Fold.{if}
use borrow.Author.Tests.{lt-ltb, le-ltb}
use Rattle.terms.proofs.hundredths.Goals as goal

pub returns-then-part-whole : goal.returns-then-part-whole
unfolding hundredths_of if
returns-then-part-whole c = rw (lt-ltb _ _ c.if-part-whole.true)

pub returns : goal.returns
unfolding hundredths_of if
returns c = rw (le-ltb _ _ c.if-part-whole.false)

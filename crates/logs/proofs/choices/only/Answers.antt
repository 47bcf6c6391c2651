-- `only` is the text for the first line, and nothing for any other.
use borrow.Author.Tests.{eq-eqb, ne_eqb}
use Rattle.table.specs.Fold.{if}
use Rattle.logs.specs.Inner.{only_at}
use Rattle.logs.proofs.choices.only.Goals as goal

pub returns-then-k-eq0 : goal.returns-then-k-eq0
unfolding only_at if
returns-then-k-eq0 c = rw (eq-eqb _ 0 c.if-k-eq0.true)

pub returns-else-k-eq0 : goal.returns-else-k-eq0
unfolding only_at if
returns-else-k-eq0 c = rw (ne_eqb _ 0 c.if-k-eq0.false) c.empty.ensures

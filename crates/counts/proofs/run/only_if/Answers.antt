-- `only_if` goes by its test.
use Rattle.table.specs.Fold.{if}
use Rattle.counts.proofs.run.only_if.Goals as goal

pub returns-then-holds : goal.returns-then-holds
unfolding if
returns-then-holds c = rw c.if-holds.true

pub returns-else-holds : goal.returns-else-holds
unfolding if
returns-else-holds c = rw c.if-holds.false

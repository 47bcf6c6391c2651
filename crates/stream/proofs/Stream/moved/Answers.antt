-- `Stream::moved` closes the job exactly if it is due.
use Rattle.table.specs.Fold.{if}
use Rattle.stream.specs.Stream.{moved}
use mathlib.Core.Path.{sym, ◌∙◌}
use Rattle.stream.proofs.Stream.moved.Goals as goal

pub returns-then-eq : goal.returns-then-eq
unfolding moved if
returns-then-eq c = rw (sym c.eq.ensures ∙ c.if-eq.true) c.closed.ensures

pub returns-else-eq : goal.returns-else-eq
unfolding moved if
returns-else-eq c = rw (sym c.eq.ensures ∙ c.if-eq.false)

-- `foremost` takes the further place only where it goes before.
use mathlib.Core.Path.{sym, ◌∙◌}
use Rattle.table.specs.Fold.{if}
use Rattle.stream.specs.Search.{foremost}
use Rattle.stream.proofs.choice.foremost.Goals as goal

pub returns-then-goes_before : goal.returns-then-goes_before
unfolding foremost if
returns-then-goes_before c = rw (sym c.goes_before.ensures ∙ c.if-goes_before.true)

pub returns-else-goes_before : goal.returns-else-goes_before
unfolding foremost if
returns-else-goes_before c = rw (sym c.goes_before.ensures ∙ c.if-goes_before.false)

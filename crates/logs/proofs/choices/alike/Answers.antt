-- `alike` makes the tests of its definition.
use borrow.Author.Tests.{eq-eqb, ne_eqb}
use Rattle.logs.specs.Choices.{alike}
use Rattle.logs.proofs.choices.alike.Goals as goal

pub returns-then-x-j : goal.returns-then-x-j
unfolding alike
returns-then-x-j c = rw (eq-eqb _ _ c.if-x-j.true)

pub returns-else-x-j : goal.returns-else-x-j
unfolding alike
returns-else-x-j c = rw (ne_eqb _ _ c.if-x-j.false)

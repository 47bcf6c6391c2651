-- `Book::with_desk` puts a desk in its place.
use borrow.Author.Tests.{eq-eqb, ne_eqb}
use Rattle.table.specs.Fold.{if}
use Rattle.booking.specs.Book.{with_desk}
use Rattle.booking.proofs.Book.with_desk.Goals as goal

pub returns-then-desk-eq1 : goal.returns-then-desk-eq1
unfolding with_desk if
returns-then-desk-eq1 c = rw (eq-eqb _ 1 c.if-desk-eq1.true)

pub returns-else-desk-eq1 : goal.returns-else-desk-eq1
unfolding with_desk if
returns-else-desk-eq1 c = rw (ne_eqb _ 1 c.if-desk-eq1.false)

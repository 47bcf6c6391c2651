-- `budget_finding` goes by whether anything is reserved.
use Rattle.terms.specs.Terms.{budget_finding}
use Rattle.table.specs.Fold.{if}
use borrow.Author.Tests.{eq-eqb, ne_eqb}
use Rattle.terms.proofs.budget_finding.Goals as goal

pub returns-then-stream-eq0 : goal.returns-then-stream-eq0
unfolding budget_finding if
returns-then-stream-eq0 c = rw (eq-eqb _ 0 c.if-stream-eq0.true, c.if-stream-eq0.true)

pub returns : goal.returns
unfolding budget_finding if
returns c = rw (ne_eqb _ 0 c.if-stream-eq0.false, c.granted.ensures)

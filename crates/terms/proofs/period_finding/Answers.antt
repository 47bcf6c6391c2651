-- `period_finding` finds the period outside its range, or what it leaves of the span.
use Rattle.terms.specs.Terms.{period_finding}
use Rattle.table.specs.Refusal.{outside}
use Rattle.table.specs.Fold.{if}
use Rattle.terms.proofs.period_finding.Goals as goal

pub returns-then-p : goal.returns-then-p
unfolding period_finding if outside
returns-then-p c = rw c.if-p.true c.beyond.ensures

pub returns : goal.returns
unfolding period_finding if outside
returns c = rw c.if-p.false

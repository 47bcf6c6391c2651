-- `consider` gives one step of the search: each way out rewrites the tests that led there.
use borrow.Author.Tests.{eq-eqb, ne_eqb}
use Rattle.table.specs.Fold.{if}
use Rattle.stream.specs.Stream.{filled}
use Rattle.stream.specs.Search.{lead, considered, preferred}
use native.Mathlib.Omega.{arith}
use mathlib.Core.Bool.{◌&&◌, ◌||◌}
use mathlib.Core.Path.{◌≡◌, sym, ◌∙◌}
use lib.Dec.{ltb, eqb}
use Rattle.order.specs.Order.{goes_before}
use borrow.Author.Rules.{rules}
use Rattle.stream.proofs.choice.consider.Goals as goal
use Rattle.stream.proofs.choice.consider.Goals.{After-goes_before-ahead}

pub returns-then-m-eq0 : goal.returns-then-m-eq0
unfolding considered if
returns-then-m-eq0 c = rw (eq-eqb _ _ (sym c.filled-m.ensures ∙ c.if-m-eq0.true))

pub leading-request-requires : goal.leading-request-requires
unfolding filled
leading-request-requires c = rw c.filled-m.ensures (omega (arith, c.requires))

pub returns-in_default : goal.returns-in_default
unfolding considered preferred if
returns-in_default c =
    let some = ne_eqb _ _ (λ e. c.if-m-eq0.false (c.filled-m.ensures ∙ e)) in
    rw (c.leading-request.ensures, c.filled-m.ensures, some, c.in_default.is)

-- the test that the code makes is the one of `preferred`
test : (c : After-goes_before-ahead) → (c.lt-sooner.result || (c.eq-same.result && c.goes_before-ahead.result))
    ≡ (ltb c.args.x.now.deadline.0 c.in-Some.first.deadline.0
    || (eqb c.args.x.now.deadline.0 c.in-Some.first.deadline.0 && goes_before c.args.order c.args.head (lead (goes_before c.args.order c.args.head) c.args.x.now.places (filled c.args.worst c.args.h.0 c.args.x.now)).place c.in-Some.first.place))
test c =
    let sooner : c.lt-sooner.result ≡ ltb c.args.x.now.deadline.0 c.in-Some.first.deadline.0 = search rules in
    rw (sooner, c.eq-same.ensures, c.goes_before-ahead.ensures, c.leading-request.ensures, c.filled-m.ensures)

pub returns-then-sooner-same : goal.returns-then-sooner-same
unfolding considered preferred if
returns-then-sooner-same c =
    let some = ne_eqb _ _ (λ e. c.if-m-eq0.false (c.filled-m.ensures ∙ e)) in
    let taken = sym (test (goal.at.returns-then-sooner-same c).After-goes_before-ahead) ∙ c.if-sooner-same.true in
    rw (c.leading-request.ensures, c.filled-m.ensures, some, c.in-Some.is, taken)

pub returns-else-sooner-same : goal.returns-else-sooner-same
unfolding considered preferred if
returns-else-sooner-same c =
    let some = ne_eqb _ _ (λ e. c.if-m-eq0.false (c.filled-m.ensures ∙ e)) in
    let kept = sym (test (goal.at.returns-else-sooner-same c).After-goes_before-ahead) ∙ c.if-sooner-same.false in
    rw (some, c.in-Some.is, kept)

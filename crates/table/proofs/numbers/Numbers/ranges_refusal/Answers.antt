-- `ranges_refusal` gives the refusals 2 to 4 in their order: each way out rewrites the tests that led there.
use borrow.Author.Tests.{lt-ltb, le-ltb}
use Rattle.table.specs.Fold.{if}
use Rattle.table.specs.Refusal.{given, ◌or_next◌, outside}
use Rattle.table.specs.Margin.{refusal_of, answer_by}
use Rattle.table.proofs.numbers.Numbers.ranges_refusal.Goals as goal

pub returns-then-self : goal.returns-then-self
unfolding given ◌or_next◌ outside answer_by refusal_of if
returns-then-self c = rw c.if-self.true

pub returns-then-self-2 : goal.returns-then-self-2
unfolding given ◌or_next◌ outside answer_by refusal_of if
returns-then-self-2 c = rw (c.if-self.false, c.if-self-2.true)

pub returns-then-self-gt-MAX : goal.returns-then-self-gt-MAX
unfolding given ◌or_next◌ outside answer_by refusal_of if
returns-then-self-gt-MAX c =
    rw (c.if-self.false, c.if-self-2.false, lt-ltb _ _ c.if-self-gt-MAX.true)

pub returns : goal.returns
unfolding given ◌or_next◌ outside answer_by refusal_of if
returns c =
    rw (c.if-self.false, c.if-self-2.false, le-ltb _ _ c.if-self-gt-MAX.false)

-- `numbers_refusal` gives 1, or the refusals 2 to 4 in their order.
use Rattle.table.specs.Fold.{if}
use Rattle.table.specs.Refusal.{given, ◌or_next◌, outside}
use Rattle.table.specs.Admission.{numbers_refusal}
use Rattle.table.specs.Margin.{refusal_of, answer_by}
use Rattle.table.proofs.parts.numbers_refusal.Goals as goal

pub returns-then-t : goal.returns-then-t
unfolding numbers_refusal given ◌or_next◌ outside answer_by refusal_of if
returns-then-t c = rw c.if-t.true

pub returns : goal.returns
unfolding numbers_refusal given ◌or_next◌ outside answer_by refusal_of if
returns c =
    let e = rw c.numbers.ensures at c.ranges_refusal.ensures in
    rw c.if-t.false e

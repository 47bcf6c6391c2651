-- `above_zero` is how far the larger of the number and 0 is from 0.
use mathlib.Core.Path.{◌∙◌}
use Rattle.table.proofs.Whole.{larger_is}
use Rattle.table.proofs.signed.above_zero.Goals as goal

pub returns : goal.returns
returns c =
    let is = rw c.max.ensures.value at c.unsigned_abs.ensures.value in
    is ∙ larger_is c.args.n c.ranges.n

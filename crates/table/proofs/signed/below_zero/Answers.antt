-- `below_zero` is how far the smaller of the number and 0 is from 0.
use mathlib.Core.Path.{◌∙◌}
use Rattle.table.proofs.Whole.{smaller_is}
use Rattle.table.proofs.signed.below_zero.Goals as goal

pub returns : goal.returns
returns c =
    let is = rw c.min.ensures.value at c.unsigned_abs.ensures.value in
    is ∙ smaller_is c.args.n c.ranges.n

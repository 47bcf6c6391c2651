-- `yerbagunt_write` judges the two numbers; then it says as numbers what writing says, and leaves the buffer as writing does.
use mathlib.Core.Path.{refl, ap}
use Rattle.table.specs.Fold.{if}
use Rattle.shelf.specs.Filed.{written_as, wrote_as, wrote_on}
use Rattle.shelf.proofs.Kept.{no_order}
use Rattle.shelf.proofs.yerbagunt_write.Goals as goal

pub returns-in_default : goal.returns-in_default
unfolding wrote_as wrote_on if
returns-in_default c = rw (no_order _ c.in_default.ensures) (record { value = c.from.ensures; out_after = refl })

pub returns-in_default-try_from : goal.returns-in_default-try_from
unfolding wrote_as wrote_on if
returns-in_default-try_from c =
    let order = c.in-Ok.ensures in
    rw (order.0, no_order _ c.in_default-try_from.ensures) (record { value = c.from-in_default-try_from.ensures; out_after = refl })

pub returns : goal.returns
unfolding wrote_as wrote_on if
returns c =
    let order = c.in-Ok.ensures in
    let form = c.in-Ok-try_from.ensures in
    rw (order.0, form.0, ← order.1, ← form.1, c.from-2.ensures)
    (record { value = ap written_as c.write.ensures.value; out_after = c.write.ensures.out_after })

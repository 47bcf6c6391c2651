-- `open` judges the order first, and then gives the numbers of the session that was opened, and of what was answered.`
use Rattle.table.specs.Fold.{if}
use Rattle.shelf.specs.Image.{opened_as}
use Rattle.shelf.proofs.Kept.{no_order}
use Rattle.shelf.proofs.answers.open.Goals as goal

pub returns-in-Ok : goal.returns-in-Ok
unfolding opened_as if
returns-in-Ok c = let order = c.in-Ok.ensures in rw (order.0, c.from.ensures, c.open_taken.ensures, order.1)

pub returns-in-Err : goal.returns-in-Err
unfolding opened_as if
returns-in-Err c = rw (no_order _ c.in-Err.ensures, c.unopened.ensures)

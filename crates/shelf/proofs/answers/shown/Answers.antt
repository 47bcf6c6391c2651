-- `shown` judges the order.`
use Rattle.table.specs.Fold.{if}
use Rattle.shelf.specs.Image.{shown_of}
use Rattle.shelf.proofs.Kept.{no_order}
use Rattle.shelf.proofs.answers.shown.Goals as goal

pub returns-in-Ok : goal.returns-in-Ok
unfolding shown_of if
returns-in-Ok c = let session = c.in-Ok.ensures in rw (session.0, session.1)

pub returns-in-Err : goal.returns-in-Err
unfolding shown_of if
returns-in-Err c = rw (no_order _ c.in-Err.ensures, c.zero.ensures)

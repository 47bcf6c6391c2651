-- `call` judges the order first, and then answers as the session does.`
use mathlib.Core.Path.{refl}
use Rattle.table.specs.Fold.{if}
use Rattle.shelf.specs.Image.{answered_as}
use Rattle.shelf.proofs.Kept.{no_order}
use Rattle.shelf.proofs.answers.call.Goals as goal

pub returns-in-Ok : goal.returns-in-Ok
unfolding answered_as if
returns-in-Ok c = let session = c.in-Ok.ensures in rw (session.0, c.from.ensures, c.told.ensures, c.call-answer.ensures, session.1) (refl, refl)

pub returns-in-Err : goal.returns-in-Err
unfolding answered_as if
returns-in-Err c = rw (no_order _ c.in-Err.ensures, c.told-in-Err.ensures, c.number-number.ensures) (refl, refl)

-- A session has the numbers of its image, where its order is one.
use Rattle.shelf.proofs.images.SessionTryFromImage.try_from.Goals as goal

pub returns : goal.returns
returns c = (c.in_ok-order.ensures.0, c.session_by.ensures)

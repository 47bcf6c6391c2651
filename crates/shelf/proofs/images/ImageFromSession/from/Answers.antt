-- An image has the numbers of its session.
use Rattle.shelf.specs.Image.{image_of}
use Rattle.shelf.proofs.images.ImageFromSession.from.Goals as goal

pub returns : goal.returns
unfolding image_of
returns c = rw c.number.ensures

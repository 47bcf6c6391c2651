-- A session has the numbers of its image, and the order that its number stands for.
use Rattle.shelf.specs.Image.{session_of}
use Rattle.shelf.proofs.images.Image.session_by.Goals as goal

pub returns : goal.returns
unfolding session_of
returns c = rw c.requires

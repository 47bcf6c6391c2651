-- `told` gives the four numbers of a reply.
use Rattle.shelf.specs.Image.{told_as}
use Rattle.shelf.proofs.answers.told.Goals as goal

pub returns : goal.returns
unfolding told_as
returns c = rw (c.number.ensures, c.stream.ensures, c.value.ensures, c.tag.ensures)

-- `Told::by` holds what a call and its answer tell.
use Rattle.counts.specs.Inner.{told_by}
use Rattle.counts.proofs.run.Told.by.Goals as goal

pub returns : goal.returns
unfolding told_by
returns c = rw (c.number.ensures, c.stream.ensures, c.duration_of.ensures)

-- `first_line` is the header, or the line of the refusal.
use Rattle.table.specs.Fold.{if}
use Rattle.logs.specs.Following.{first_fields}
use Rattle.logs.proofs.Looking.{some_number}
use Rattle.logs.proofs.Follower.first_line.Goals as goal

pub returns-in-None : goal.returns-in-None
unfolding first_fields if
returns-in-None c = rw c.in-None.is c.header.ensures

pub returns-in-Some : goal.returns-in-Some
unfolding first_fields if
returns-in-Some c = rw (c.in-Some.is, some_number c.in-Some.refusal) (rw (c.number.ensures, c.over.ensures) at c.refused.ensures)

-- `uncommented` ends before the first #.
use Rattle.ledger.proofs.Parts.{comment_at}
use Rattle.ledger.proofs.line.uncommented.Goals as goal

pub returns : goal.returns
returns c = rw c.first_of.ensures.value (comment_at c.args.line.now)

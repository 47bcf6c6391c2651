-- `Book::zero` is the default of each cell.
use native.Mathlib.Omega.{arith}
use Rattle.std.proofs.lemmas.Grind.{common_steps}
use Rattle.booking.proofs.Book.zero.Goals as goal

pub returns : goal.returns
returns c = grind (arith, common_steps)

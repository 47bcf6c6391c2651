-- `Exact::is` compares whole parts and rests crosswise.
use mathlib.Core.Path.{sym}
use Rattle.time.proofs.Fractions.{exact_same}
use Rattle.time.proofs.Exact.is.Goals as goal

pub returns : goal.returns
returns c = let q = c.requires in sym (exact_same _ _ q.0 q.1)

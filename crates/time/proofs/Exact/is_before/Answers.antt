-- `Exact::is_before` compares whole parts, then rests crosswise: `exact_before` says that this is the order of the fractions.
use mathlib.Core.Path.{sym}
use Rattle.time.proofs.Fractions.{exact_before}
use Rattle.time.proofs.Exact.is_before.Goals as goal

pub returns : goal.returns
returns c = let q = c.requires in sym (exact_before _ _ q.0 q.1)

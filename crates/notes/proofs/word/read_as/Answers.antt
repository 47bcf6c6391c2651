use native.Mathlib.Omega.{arith}
use mathlib.Core.Path.{◌∙◌}
use Rattle.notes.proofs.Held.{held_none, held_more, held_wrong, held_all}
use Rattle.notes.proofs.word.read_as.Goals as goal

pub loop-byte-init : goal.loop-byte-init
loop-byte-init c = held_none _ _

pub returns-in_err-n : goal.returns-in_err-n
returns-in_err-n c =
    c.from_residual.ensures ∙ held_wrong _ _ _ _ c.loop-byte.invariant (omega arith) c.in_err-n.ensures

pub loop-byte-preserved : goal.loop-byte-preserved
loop-byte-preserved c = held_more _ _ _ _ c.loop-byte.invariant (omega arith) c.in_ok-n.n c.in_ok-n.ensures

pub returns : goal.returns
returns c = held_all _ _ _ _ c.loop-byte.invariant (omega arith) (omega arith)

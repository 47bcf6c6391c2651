use mathlib.Core.Path.{refl, sym, ◌∙◌}
use native.Mathlib.Omega.{arith}
use native.Mathlib.Nat.{add-zero}
use Prim.Native.Nat.{◌+◌}
use lib.ListN.{drop, length-set, length-drop}
use Rattle.cells.proofs.Runs.{copy_more, sets_done}
use Rattle.cells.proofs.put_bytes.Goals as goal

pub loop-i-init : goal.loop-i-init
loop-i-init c = (refl, rw add-zero)

pub loop-i-preserved : goal.loop-i-preserved
loop-i-preserved c =
    let d = c.loop-i in
    let a = c.args in
    (length-set d.out (a.at + d.i) _ ∙ d.invariant.0, copy_more a.bytes.now d.out a.at d.i (omega (arith, c.min-run.ensures)) ∙ d.invariant.1)

pub returns : goal.returns
returns c =
    let d = c.loop-i in
    let a = c.args in
    sym (sets_done (drop d.i a.bytes.now) d.out (a.at + d.i) (rw (length-drop d.i a.bytes.now) (omega (arith, c.min-run.ensures, c.saturating_sub.ensures, d.invariant.0))))
    ∙ d.invariant.1

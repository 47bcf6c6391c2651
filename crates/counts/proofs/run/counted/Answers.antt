use native.Mathlib.Omega.{arith}
use mathlib.Core.Path.{◌≡◌, refl}
use Rattle.table.specs.Fold.{list_to}
use Rattle.table.proofs.Lists.{filled_more, filled_all}
use Rattle.counts.specs.Inner.{counts_by}
use Rattle.counts.proofs.run.counted.Goals as goal

pub loop-i-init : goal.loop-i-init
unfolding list_to
loop-i-init c = record { cells = refl; front = refl }

pub loop-i-preserved : goal.loop-i-preserved
loop-i-preserved c =
    let at = c.loop-i in
    rw c.of.ensures (filled_more _ at.row-items at.i 8 (omega arith) at.invariant)

pub returns : goal.returns
unfolding counts_by
returns c =
    let at = c.loop-i in
    let all : at.i ≡ 8 = omega arith in
    let whole = filled_all _ at.row-items 8 (rw all at at.invariant) in
    rw (whole, c.by-told.ensures)

use native.Mathlib.Omega.{arith}
use Prim.Native.Nat.{ℕ}
use lib.ListN.{length-take, length-drop}
use Rattle.cells.specs.Cells.{cell}
use Rattle.cells.proofs.Numbers.{length_cell}
use Rattle.cells.proofs.Runs.{part_stored, cell_more, cell_stored}
use Rattle.cells.proofs.put_number.Goals as goal

pub loop-byte-preserved : goal.loop-byte-preserved
loop-byte-preserved c =
    let d = c.loop-byte in
    cell_more d.byte-items _ d.byte-index c.min-run.result d.rest
    (omega (arith, length-take {A = ℕ}, length-drop {A = ℕ}))
    (omega (arith, length-take {A = ℕ}, length-drop {A = ℕ}))
    d.invariant

pub returns : goal.returns
returns c =
    let d = c.loop-byte in
    let a = c.args in
    part_stored (cell a.width a.n) a.out.now d.byte-items a.at c.min-from.result c.min-run.result _ c.min-from.ensures
    (omega (arith, length_cell))
    (omega arith)
    (cell_stored d.byte-items d.byte-index c.min-run.result a.width d.rest a.n
    (omega (arith, length-take {A = ℕ}, length-drop {A = ℕ}))
    (omega (arith, length-take {A = ℕ}, length-drop {A = ℕ}))
    (omega arith)
    d.invariant)

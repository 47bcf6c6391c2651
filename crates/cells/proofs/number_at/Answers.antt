use mathlib.Core.Path.{◌≡◌, refl, ◌∙◌}
use mathlib.Core.List.{List}
use Prim.Native.Nat.{ℕ, ◌+◌, ◌-◌, ◌*◌, ◌^◌, min, ◌<◌}
use native.Mathlib.Omega.{arith}
use lib.ListN.{length}
use Rattle.cells.specs.Cells.{number_at, Bytes}
use Rattle.cells.proofs.Numbers.{number_lt, number_more, number_cut, eight_fit}
use Rattle.cells.proofs.number_at.Goals as goal

pub loop-i-init : goal.loop-i-init
unfolding number_at
loop-i-init c = refl

-- there is room for one byte more
room : (bytes : List ℕ) (from i n b : ℕ) → Bytes bytes → i < 8 → n ≡ number_at i bytes from → b < 256 → n * 256 + b < 2 ^ 64
room bytes from i n b all small e l = eight_fit i n b small (rw e (number_lt i bytes from all)) l

pub overflow_mul-n : goal.overflow_mul-n
overflow_mul-n c =
    let d = c.loop-i in
    omega (arith, room _ _ d.i d.n 0 (λ j. (c.type_inv.bytes j).fits) (omega arith) d.invariant (omega arith))

pub overflow_add-n : goal.overflow_add-n
overflow_add-n c =
    let d = c.loop-i in
    record { fits = room _ _ d.i d.n c.from.result (λ j. (c.type_inv.bytes j).fits) (omega arith) d.invariant (rw c.from.ensures (c.type_inv.bytes _).fits) }

pub loop-i-preserved : goal.loop-i-preserved
loop-i-preserved c =
    let d = c.loop-i in
    let a = c.args in
    rw (d.invariant, c.from.ensures) (number_more a.bytes.now a.at c.run_width-run.result d.i (omega arith))

pub returns : goal.returns
returns c =
    let d = c.loop-i in
    let a = c.args in
    let from : a.at + (c.run_width-run.result - d.i) ≡ a.at = omega arith in
    let run : d.i ≡ min (min a.width 8) (length a.bytes.now - a.at) = omega arith in
    d.invariant
    ∙ rw (from, run) (number_cut (min a.width 8) (length a.bytes.now - a.at) a.bytes.now a.at (omega arith))

-- Numbers of the code that fit 64 bits: an index of the eight streams or of a queue, times the size of what it stands for. A size is small by computing.
use mathlib.Core.Bool.{true}
use mathlib.Core.Path.{◌≡◌}
use Prim.Native.Nat.{ℕ, ◌*◌, ◌≤◌, ◌<◌}
use native.Mathlib.Nat.{mul-le-mul_right}
use native.Mathlib.Omega.{arith}
use lib.Dec.{leb}
use borrow.Author.Tests.{leb-true}
use mir.Syntax.{w64}
use mir.Val.{Fits}

pub offset_fits : (i size : ℕ) {most : ℕ} → i < most → leb (most * size) 1_000_000 ≡ true → Fits w64 (i * size)
offset_fits i size {most} l small =
    let below : i ≤ most = omega (arith, l) in
    omega (arith, mul-le-mul_right size below, leb-true (most * size) 1_000_000 small)

pub first_in : 0 < 8
first_in = omega arith

-- `Sums::with` adds a stream's charge and its part: within one period the part is at most the budget times the span, which fits.
use Prim.Native.Nat.{◌-◌}
use native.Mathlib.Nat.{mul_comm}
use native.Mathlib.Omega.{arith}
use Rattle.stream.proofs.Fits.{part_high}
use Rattle.stream.proofs.sums.Sums.with.Goals as goal

pub overflow_mul-part : goal.overflow_mul-part
overflow_mul-part c =
    let x = c.args.x.now in
    rw (c.times.ensures, c.since.ensures, mul_comm x.granted.0 (c.args.h.0 - x.release.0))
    (omega (arith, part_high c.requires.2.1 c.args.span c.requires.1))

pub overflow_add-result : goal.overflow_add-result
overflow_add-result c =
    let x = c.args.x.now in
    rw (c.times.ensures, c.since.ensures, mul_comm x.granted.0 (c.args.h.0 - x.release.0))
    (omega (arith, c.requires.0.parts_high, part_high c.requires.2.1 c.args.span c.requires.1))

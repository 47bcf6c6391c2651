use native.Mathlib.Omega.{arith}
use mathlib.Core.Path.{refl, ap, ◌∙◌}
use mathlib.Core.List.{◌++◌, append-nil}
use Prim.Native.Nat.{◌-◌, ◌≤◌}
use lib.ListN.{length-set}
use Rattle.listing.specs.Line.{decimal}
use Rattle.listing.proofs.Decimal.{decimal_is_short, decimal_some, decimal_more_length}
use Rattle.listing.proofs.Storing.{digit_found, digits_found}
use Rattle.listing.proofs.Text.put_decimal.Goals as goal

pub loop-rest-init : goal.loop-rest-init
loop-rest-init c = (decimal_is_short c.args.n c.ranges.n.fits, omega arith, refl, append-nil (decimal c.args.n))

pub overflow_sub-start : goal.overflow_sub-start
overflow_sub-start c = omega (arith, decimal_some c.loop-rest.rest)

pub loop-rest-preserved : goal.loop-rest-preserved
loop-rest-preserved c =
    let loop = c.loop-rest in
    let more : 10 ≤ loop.rest = omega arith in
    let some : 1 ≤ loop.start = omega (arith, decimal_some loop.rest) in (
      omega (arith, decimal_more_length loop.rest more),
      omega arith,
      length-set loop.digits (loop.start - 1) _ ∙ loop.invariant.2,
      digit_found loop.digits loop.start loop.rest more some (omega arith) ∙ loop.invariant.3,
    )

pub overflow_sub-start-2 : goal.overflow_sub-start-2
overflow_sub-start-2 c = omega (arith, decimal_some c.loop-rest.rest)

pub put-requires : goal.put-requires
put-requires c =
    let loop = c.loop-rest in
    rw (digits_found loop.digits loop.start loop.rest c.args.n (omega arith) (omega (arith, decimal_some loop.rest)) (omega arith) loop.invariant.2 loop.invariant.3) c.requires

pub returns : goal.returns
returns c =
    let loop = c.loop-rest in
    c.put.ensures
    ∙ ap (λ run. c.args.self.now ++ run) (digits_found loop.digits loop.start loop.rest c.args.n (omega arith) (omega (arith, decimal_some loop.rest)) (omega arith) loop.invariant.2 loop.invariant.3)

use native.Mathlib.Omega.{arith}
use mathlib.Core.Path.{ap, ◌∙◌}
use mathlib.Core.List.{[], ◌∷◌, map}
use lib.ListN.{length, drop, length-append}
use Rattle.listing.specs.Line.{space, decimal}
use Rattle.listing.proofs.Storing.{onward_some, onward_none, onward_length, onward_more}
use Rattle.listing.proofs.Text.put_onward.Goals as goal

pub put-requires : goal.put-requires
put-requires c =
    let loop = c.loop-number in
    omega (arith, simp length-append at (ap length loop.invariant), onward_some (map decimal (drop loop.number-index c.args.numbers.now)))

pub put_decimal-requires : goal.put_decimal-requires
put_decimal-requires c =
    let loop = c.loop-number in
    omega (
      arith,
      simp length-append at (ap length loop.invariant),
      onward_length c.args.numbers.now loop.number-index (omega arith),
      ap length c.put.ensures,
      length-append loop.self (space ∷ []),
    )

pub loop-number-preserved : goal.loop-number-preserved
loop-number-preserved c =
    let loop = c.loop-number in
    rw (c.put_decimal.ensures, c.put.ensures) (onward_more c.args.numbers.now loop.number-index (omega arith) loop.self ∙ loop.invariant)

pub put-requires-2 : goal.put-requires-2
put-requires-2 c =
    let loop = c.loop-number in
    omega (arith, simp length-append at (ap length loop.invariant), onward_some (map decimal (drop loop.number-index c.args.numbers.now)))

pub returns : goal.returns
returns c =
    let loop = c.loop-number in
    c.put-2.ensures
    ∙ rw (onward_none c.args.numbers.now loop.number-index (omega arith)) at loop.invariant

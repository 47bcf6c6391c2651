use Rattle.order.specs.Order.{goes_before}
use Rattle.stream.specs.Choice.{first_best, leading}
use Rattle.stream.proofs.Leading.{lead_next}
use native.Mathlib.Omega.{arith}
use mathlib.Core.Path.{refl}
use native.Mathlib.Numerals.{add-one}
use Prim.Native.Nat.{◌<◌}
use Rattle.std.proofs.lemmas.List.{get_or-take, length-take}
use Rattle.stream.proofs.choice.leading.Goals as goal

pub loop-j-init : goal.loop-j-init
unfolding leading first_best
loop-j-init c = refl

pub loop-j-preserved : goal.loop-j-preserved
loop-j-preserved c =
    let at = c.loop-j in
    let here : at.j < c.args.m = omega (arith, length-take c.args.m c.args.places.now) in
    rw (c.foremost-best.ensures, at.invariant, get_or-take c.args.m c.args.places.now at.j 0 here, add-one)
    (lead_next (goes_before c.args.order c.args.head) c.args.places.now at.j)

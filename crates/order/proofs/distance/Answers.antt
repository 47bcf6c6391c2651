-- How far two places are apart is the smaller taken off the larger.
use mathlib.Core.Path.{◌≡◌, ◌∙◌}
use Prim.Native.Nat.{ℕ, ◌+◌, ◌-◌}
use native.Mathlib.Omega.{arith}
use lib.Dec.{ltb}
use borrow.Author.Tests.{ltb-true, ltb-false}
use Rattle.table.proofs.Tests.{by_if}
use Rattle.order.specs.Order.{distance}
use Rattle.order.proofs.distance.Goals as goal

apart : (a b : ℕ) → (a - b) + (b - a) ≡ distance a b
unfolding distance
apart a b =
    by_if
    (λ n. (a - b) + (b - a) ≡ n)
    (ltb a b)
    (b - a)
    (a - b)
    (λ e. let l = ltb-true a b e in omega arith)
    (λ e. let l = ltb-false a b e in omega arith)

pub returns : goal.returns
returns c = c.abs_diff.ensures ∙ apart c.args.head c.args.place

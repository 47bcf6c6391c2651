-- A number is taken for the order that has it.
use mathlib.Core.Path.{refl}
use Rattle.table.specs.Fold.{if}
use Rattle.order.specs.Order.{order_of}
use Rattle.order.proofs.OrderTryFromU64.try_from.Goals as goal

pub returns-in-0 : goal.returns-in-0
unfolding order_of if
returns-in-0 c = rw c.in-0.is (refl, refl)

pub returns-in-1 : goal.returns-in-1
unfolding order_of if
returns-in-1 c = rw c.in-1.is (refl, refl)

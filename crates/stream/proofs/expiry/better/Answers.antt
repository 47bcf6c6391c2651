-- `better` follows the tests of its clause.
use mathlib.Core.Bool.{not}
use mathlib.Core.Path.{sym, ap, ◌∙◌}
use native.Mathlib.Omega.{arith}
use borrow.Author.Tests.{le-leb}
use Rattle.table.specs.Fold.{if}
use Rattle.stream.proofs.expiry.better.Goals as goal
use Rattle.stream.proofs.expiry.better.Goals.{then-is_none, else-is_none}

pub returns-then-slots-eq0 : goal.returns-then-slots-eq0
unfolding if
returns-then-slots-eq0 c = rw (sym c.slots.ensures ∙ c.if-slots-eq0.true)

pub returns-then-expires_before : goal.returns-then-expires_before
unfolding if
returns-then-expires_before c =
    rw (← c.slots.ensures, le-leb 1 c.slots.result (omega arith))
    (elim c.if-is_none.branch [
      | then-is_none w ↦ rw (c.is_none.ensures ∙ ap not w.if-is_none.true)
      | else-is_none w ↦ rw (c.is_none.ensures ∙ ap not w.if-is_none.false, sym w.expires_before.ensures ∙ sym w.value-is ∙ c.if-expires_before.true)
    ])

pub returns-else-expires_before : goal.returns-else-expires_before
unfolding if
returns-else-expires_before c =
    rw (← c.slots.ensures, le-leb 1 c.slots.result (omega arith))
    (elim c.if-is_none.branch [
      | then-is_none w ↦ cc (w.value-is, c.if-expires_before.false)
      | else-is_none w ↦ rw (c.is_none.ensures ∙ ap not w.if-is_none.false, sym w.expires_before.ensures ∙ sym w.value-is ∙ c.if-expires_before.false)
    ])

-- `Clock::less_remainders` goes by the sign of the sum: each way out cites what the definition comes to there.
use mathlib.Core.Path.{◌≡◌, sym, ◌∙◌}
use Prim.Native.Nat.{◌+◌, ◌-◌, ◌/◌, ◌^◌, ◌≤◌, ◌<◌}
use native.Mathlib.Omega.{arith}
use borrow.Author.Rules.{rules}
use Rattle.table.specs.Whole.{above_zero, below_zero}
use Rattle.table.proofs.Whole.{Below, below, NotBelow, not_below}
use Rattle.time.proofs.Rounding.{up_is}
use Rattle.time.proofs.Asking.{no_span, at_sooner, too_soon, at_later, too_late}
use Rattle.time.proofs.Clock.less_remainders.Goals as goal

pub returns-then-span-eq0 : goal.returns-then-span-eq0
returns-then-span-eq0 c = sym (no_span _ _ _ c.if-span-eq0.true)

pub returns-in_err-micros : goal.returns-in_err-micros
returns-in_err-micros c =
    let some : 0 < c.args.span = omega (arith, c.if-span-eq0.false) in
    let under : Below c.args.sum.0 = below _ (record { sfits = search rules }) c.if-sum-lt0.true in
    let a = c.args in
    let parts = c.unsigned_abs-parts.ensures.value ∙ under.parts in
    let over : 2 ^ 64 ≤ a.self.0 + below_zero a.sum.0 / a.span = rw (← parts) (omega (arith, c.in_err-micros.ensures)) in
    c.from_residual.ensures ∙ sym (too_late a.self.0 a.span some a.sum.0 under.some over)

pub returns-in_ok-micros : goal.returns-in_ok-micros
returns-in_ok-micros c =
    let some : 0 < c.args.span = omega (arith, c.if-span-eq0.false) in
    let under : Below c.args.sum.0 = below _ (record { sfits = search rules }) c.if-sum-lt0.true in
    let a = c.args in
    let told = rw (c.unsigned_abs-parts.ensures.value ∙ under.parts) at c.in_ok-micros.ensures in
    rw told.1 (sym (at_later a.self.0 a.span some a.sum.0 under.some told.0))

pub returns-in_err-micros-2 : goal.returns-in_err-micros-2
returns-in_err-micros-2 c =
    let some : 0 < c.args.span = omega (arith, c.if-span-eq0.false) in
    let above : NotBelow c.args.sum.0 = not_below _ (record { sfits = search rules }) c.if-sum-lt0.false in
    let a = c.args in
    let up : c.div_ceil.result ≡ (above_zero a.sum.0 + (a.span - 1)) / a.span = c.div_ceil.ensures ∙ up_is a.span _ some ∙ rw (c.unsigned_abs-parts.ensures.value, above.parts) in
    let over : a.self.0 < (above_zero a.sum.0 + (a.span - 1)) / a.span = rw (← up) (omega (arith, c.in_err-micros-2.ensures)) in
    c.from_residual-in_err-micros-2.ensures ∙ sym (too_soon a.self.0 a.span some a.sum.0 above.none over)

pub returns-in_ok-micros-2 : goal.returns-in_ok-micros-2
returns-in_ok-micros-2 c =
    let some : 0 < c.args.span = omega (arith, c.if-span-eq0.false) in
    let above : NotBelow c.args.sum.0 = not_below _ (record { sfits = search rules }) c.if-sum-lt0.false in
    let a = c.args in
    let up : c.div_ceil.result ≡ (above_zero a.sum.0 + (a.span - 1)) / a.span = c.div_ceil.ensures ∙ up_is a.span _ some ∙ rw (c.unsigned_abs-parts.ensures.value, above.parts) in
    let told = rw up at c.in_ok-micros-2.ensures in
    rw told.1 (sym (at_sooner a.self.0 a.span some a.sum.0 above.none (search rules) told.0))

-- `Census::with` takes in one more stream: one in order has a share of at most the span.
use mathlib.Core.Bool.{true}
use mathlib.Core.Path.{◌≡◌, sym, ◌∙◌}
use Prim.Native.Nat.{ℕ, ◌≤◌, ◌*◌, ◌/◌, min}
use native.Mathlib.Omega.{arith}
use borrow.Author.Rules.{rules}
use Rattle.time.specs.Time.{moment}
use Rattle.table.specs.Fold.{if}
use Rattle.table.proofs.Judged.{share_high}
use Rattle.stream.specs.Search.{counted, in_order}
use Rattle.stream.specs.declared.Stream.{Stream}
use Rattle.stream.proofs.Orderly.{order_fits, order_share, order_bounded}
use Rattle.stream.proofs.census.Census.with.Goals as goal
use Rattle.stream.proofs.census.Census.with.Goals.{Else-not-is_in_order}

pub returns-then-not-is_in_order : goal.returns-then-not-is_in_order
unfolding counted if
returns-then-not-is_in_order c =
    let bad = sym c.is_in_order.ensures ∙ c.if-not-is_in_order.true in
    rw bad

share-small : (worst span k h : ℕ) (x : Stream) → in_order worst span k h x ≡ true → x.granted.0 * (span / x.period) ≤ span
share-small worst span k h x t = rw (order_share worst span k h x t) (share_high worst span k x.reserved x.period (order_fits worst span k h x t))

-- past the test the stream is in order
good : (c : Else-not-is_in_order) → let a = c.args in in_order a.self.numbers.worst a.self.numbers.span a.self.numbers.padding a.self.horizon.0 a.x.now ≡ true
good c = sym c.is_in_order.ensures ∙ c.if-not-is_in_order.false

pub with-requires : goal.with-requires
with-requires c =
    let p = c.requires in
    (p.summable, p.span_high, (_, order_bounded _ _ _ _ _ (good (goal.at.with-requires c).Else-not-is_in_order) p.worst_low p.worst_high))

pub nonzero_div-span : goal.nonzero_div-span
nonzero_div-span c =
    let low = (order_fits _ _ _ _ _ (good (goal.at.nonzero_div-span c).Else-not-is_in_order)).period_low in omega arith

pub times-share-requires : goal.times-share-requires
times-share-requires c = omega (arith, share-small _ _ _ _ _ (good (goal.at.times-share-requires c).Else-not-is_in_order))

pub overflow_add-result : goal.overflow_add-result
overflow_add-result c =
    rw c.times-share.ensures
    (omega (arith, share-small _ _ _ _ _ (good (goal.at.overflow_add-result c).Else-not-is_in_order), c.requires.shares_high))

pub returns : goal.returns
unfolding counted if
returns c =
    let soonest : c.min.result ≡ moment (min c.args.self.soonest.0 c.args.x.now.deadline.0) = search rules in
    rw (
      good (goal.at.returns c).Else-not-is_in_order,
      c.min-2.ensures,
      c.times-share.ensures,
      c.with.ensures,
      soonest,
    )

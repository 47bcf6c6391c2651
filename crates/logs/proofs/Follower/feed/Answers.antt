use mathlib.Core.Path.{ap, ◌∙◌}
use mathlib.Core.List.{List}
use native.Mathlib.Omega.{arith}
use Prim.Native.Nat.{ℕ}
use Rattle.logs.specs.Following.{fed_by}
use Rattle.logs.proofs.Feeding.{taken_none, taken_line, taken_byte, taken_all}
use Rattle.logs.proofs.Follower.feed.Goals as goal
use Rattle.logs.proofs.Follower.feed.Goals.{then-byte-eq10, else-byte-eq10}

pub loop-i-preserved : goal.loop-i-preserved
loop-i-preserved c =
    let at = c.loop-i in
    elim c.if-byte-eq10.branch [
      | then-byte-eq10 w ↦ rw (w.follower-is, w.start-is, w.with_line-follower.ensures) (taken_line at.invariant c.loop-i-test.true w.if-byte-eq10.true)
      | else-byte-eq10 w ↦ rw (w.follower-is, w.start-is) (taken_byte at.invariant c.loop-i-test.true w.if-byte-eq10.false)
    ]

pub returns-clause-value : goal.returns-clause-value
returns-clause-value c =
    let a = c.args in
    let whole = taken_all _ _ _ _ _ _ c.loop-i.invariant c.loop-i-test.false in
    whole ∙ ap (λ (trace : List ℕ). fed_by a.self trace a.piece.now) c.trace_of-trace.ensures

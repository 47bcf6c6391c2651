-- `with_line` goes on where the line is found, and else fails.
use mathlib.Core.Path.{sym, ap, ◌∙◌}
use native.Mathlib.Omega.{arith}
use Rattle.std.specs.Prelude.{None, Some}
use Prim.Native.Nat.{◌+◌}
use Rattle.logs.specs.Following.{follower}
use Rattle.logs.proofs.Looking.{found_due, with_failed, with_search}
use Rattle.logs.proofs.Follower.with_line.Goals as goal

pub returns-then-self : goal.returns-then-self
returns-then-self c = sym (with_failed _ _ _ c.if-self.true)

pub overflow_add-result : goal.overflow_add-result
overflow_add-result c =
    let a = c.args in
    omega (arith, found_due a.self a.trace.now a.line.now c.in-Some.session (sym c.in-Some.ensures))

pub returns-in-Some : goal.returns-in-Some
returns-in-Some c =
    let a = c.args in
    ap (follower a.self c.in-Some.session (a.self.due + 1)) c.if-self.false
    ∙ sym (with_search a.self a.trace.now a.line.now (Some c.in-Some.session) c.if-self.false (sym c.in-Some.ensures))

pub returns-in-None : goal.returns-in-None
returns-in-None c =
    let a = c.args in
    sym (with_search a.self a.trace.now a.line.now None c.if-self.false (sym c.in-None.ensures))

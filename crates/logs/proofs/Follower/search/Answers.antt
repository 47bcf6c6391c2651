-- `search` looks for the line among those that may stand where one is due.
use mathlib.Core.Path.{sym, ap, ◌∙◌}
use native.Mathlib.Omega.{arith}
use Rattle.table.specs.Fold.{if}
use Rattle.listing.specs.Line.{text_of}
use Rattle.logs.specs.Following.{nexts_at, first_that_is}
use Rattle.logs.specs.Inner.{found_if}
use Rattle.std.specs.Prelude.{Option}
use Rattle.logs.specs.declared.Awaited.{Awaited}
use Rattle.logs.proofs.Looking.{due_event}
use Rattle.logs.proofs.Follower.search.Goals as goal

pub overflow_add-i : goal.overflow_add-i
overflow_add-i c =
    let a = c.args in
    omega (arith, due_event a.self a.trace.now _ (sym (rw c.in-Some-Event.field-0-is at c.in-Some-Event.ensures)))

pub returns-in-Some-First : goal.returns-in-Some-First
unfolding first_that_is found_if text_of if
returns-in-Some-First c =
    let a = c.args in
    rw (c.search_text.ensures, c.first_line.ensures)
    (ap (λ (x : Option Awaited). first_that_is a.line.now (nexts_at a.self a.trace.now x)) (rw c.in-Some-First.field-0-is at c.in-Some-First.ensures))

pub returns-in-None : goal.returns-in-None
unfolding first_that_is
returns-in-None c =
    let a = c.args in
    ap (λ (x : Option Awaited). first_that_is a.line.now (nexts_at a.self a.trace.now x)) c.in-None.ensures

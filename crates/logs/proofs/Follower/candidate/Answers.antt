-- `candidate` has the lines that may stand where one is due.
use mathlib.Core.List.{List, []}
use mathlib.Core.Path.{sym, ap, ◌∙◌}
use native.Mathlib.Omega.{arith}
use Prim.Native.Nat.{ℕ}
use lib.ListN.{get_or}
use Rattle.listing.specs.Line.{rendered, text_of}
use Rattle.logs.specs.Following.{first_fields, nexts_at, lines_of_nexts}
use Rattle.logs.specs.Inner.{only_at}
use Rattle.std.specs.Prelude.{Option}
use Rattle.logs.specs.declared.Awaited.{Awaited}
use Rattle.logs.proofs.Looking.{due_event, only_line}
use Rattle.logs.proofs.Follower.candidate.Goals as goal

pub overflow_add-i : goal.overflow_add-i
overflow_add-i c =
    let a = c.args in
    omega (arith, due_event a.self a.trace.now _ (sym (rw c.in-Some-Event.field-0-is at c.in-Some-Event.ensures)))

pub returns-in-Some-First : goal.returns-in-Some-First
unfolding text_of
returns-in-Some-First c =
    let a = c.args in
    c.only.ensures
    ∙ ap (λ (x : List ℕ). only_at x a.k) c.first_line.ensures
    ∙ only_line (rendered (first_fields a.self)) a.k
    ∙ ap (λ (x : Option Awaited). get_or (lines_of_nexts (nexts_at a.self a.trace.now x)) a.k []) (rw c.in-Some-First.field-0-is at c.in-Some-First.ensures)

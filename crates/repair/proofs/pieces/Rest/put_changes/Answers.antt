-- `put_changes` lists the events that are not kept, and then a torn rest.
use mathlib.Core.Path.{◌≡◌, ap, ◌∙◌}
use mathlib.Core.List.{[], ◌∷◌}
use Prim.Native.Nat.{◌%◌, ◌≤◌, ◌<◌}
use native.Mathlib.Omega.{arith}
use lib.ListN.{length, length-append}
use Rattle.file.specs.Reading.{events_in}
use Rattle.repair.specs.Salvage.{cut_at, drops_to, cuts_of, trace_changes}
use Rattle.repair.proofs.Kept.{drops_length}
use Rattle.repair.proofs.Lists.{one_more, no_cut, a_cut}
use Rattle.repair.proofs.pieces.Rest.put_changes.Goals as goal
use Rattle.repair.proofs.pieces.Rest.put_changes.Goals.{Start}

-- there are places for the drops, and for the cut where there is one
drops-fit : (c : Start) → let a = c.args in length (drops_to a.self.room a.self.at a.trace.now (events_in a.trace.now)) ≤ length a.changes.now
unfolding trace_changes
drops-fit c =
    let a = c.args in
    let n = length-append (drops_to a.self.room a.self.at a.trace.now (events_in a.trace.now)) (cuts_of a.self.at a.trace.now) in
    omega (arith, n, c.requires.trace_in_bounds)

cut_fits : (c : Start) → let a = c.args in
    (length a.trace.now % 16 ≡ 0 → ⊥) → length (drops_to a.self.room a.self.at a.trace.now (events_in a.trace.now)) < length a.changes.now
cut_fits c torn =
    let a = c.args in
    let n = ap length (a_cut a.self.room a.self.at a.trace.now torn) ∙ length-append (drops_to a.self.room a.self.at a.trace.now (events_in a.trace.now)) (cut_at _ ∷ []) in
    omega (arith, n, c.requires.trace_in_bounds)

pub put_drops-dropped-requires : goal.put_drops-dropped-requires
put_drops-dropped-requires c = record { trace_bound = c.requires.trace_bound; trace_in_bounds = drops-fit (goal.at.put_drops-dropped-requires c).Start }

pub offset_bounds-changes-dropped : goal.offset_bounds-changes-dropped
offset_bounds-changes-dropped c =
    let a = c.args in
    omega (arith, c.put_drops-dropped.ensures.value, drops_length a.self.room a.self.at a.trace.now (events_in a.trace.now))

pub bounds-changes-dropped : goal.bounds-changes-dropped
bounds-changes-dropped c =
    omega (arith, c.put_drops-dropped.ensures.value, c.put_drops-dropped.auto.changes, cut_fits (goal.at.bounds-changes-dropped c).Start c.if-trace-ne0.true)

pub returns-then-trace-ne0 : goal.returns-then-trace-ne0
returns-then-trace-ne0 c =
    let a = c.args in
    let torn = c.if-trace-ne0.true in
    let drops = drops_to a.self.room a.self.at a.trace.now (events_in a.trace.now) in
    rw (c.into.ensures, c.cut-cut.ensures, c.put_drops-dropped.ensures.changes_after, c.put_drops-dropped.ensures.value, a_cut a.self.room a.self.at a.trace.now torn)
    (one_more drops _ a.changes.now (cut_fits (goal.at.returns-then-trace-ne0 c).Start torn))

pub returns-else-trace-ne0 : goal.returns-else-trace-ne0
returns-else-trace-ne0 c =
    let a = c.args in
    rw (no_cut a.self.room a.self.at a.trace.now c.if-trace-ne0.false) c.put_drops-dropped.ensures.changes_after

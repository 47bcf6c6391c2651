-- `put_list` puts the change of the contents first, where there is one, and the changes of the trace behind it.
use mathlib.Core.Path.{◌≡◌, refl, ap, ◌∙◌}
use Prim.Native.Nat.{◌+◌, ◌≤◌}
use mathlib.Core.List.{[]}
use native.Mathlib.Omega.{arith}
use borrow.Author.Rules.{rules}
use lib.ListN.{length, length-set}
use Rattle.repair.specs.Salvage.{contents_change, pair_of, trace_changes}
use Rattle.repair.proofs.Lists.{list_stays, list_changed, length_behind, behind_first}
use Rattle.repair.proofs.put_list.Goals as goal
use Rattle.repair.proofs.put_list.Goals.{After-into, Else-stay, Then-stay}

-- how long the list is
stays : (c : Then-stay) → let a = c.args in length (trace_changes 4_000 a.start a.trace.now) ≤ length a.changes.now
stays c =
    omega (arith, c.requires.trace_in_bounds, ap length (list_stays c.args.stay c.args.start c.args.trace.now c.if-stay.true))

changed : (c : Else-stay) → let a = c.args in 1 + length (trace_changes 4_000 a.start a.trace.now) ≤ length a.changes.now
changed c =
    omega (arith, c.requires.trace_in_bounds, ap length (list_changed c.args.stay c.args.start c.args.trace.now c.if-stay.false))

pub put_changes-requires : goal.put_changes-requires
put_changes-requires c = record { trace_bound = c.requires.trace_bound; trace_in_bounds = stays (goal.at.put_changes-requires c).Then-stay }

-- the pair is that of the contents
named : (c : After-into) → c.into.result ≡ pair_of contents_change
named c = c.into.ensures ∙ rw c.contents-contents.ensures refl

pub bounds-changes-0 : goal.bounds-changes-0
bounds-changes-0 c = omega (arith, changed (goal.at.bounds-changes-0 c).Else-stay)

pub slice_bounds-put_changes-count : goal.slice_bounds-put_changes-count
slice_bounds-put_changes-count c =
    let a = c.args in
    omega (arith, changed (goal.at.slice_bounds-put_changes-count c).Else-stay, length-set a.changes.now 0 c.into.result)

pub slice_bounds-put_changes-start : goal.slice_bounds-put_changes-start
slice_bounds-put_changes-start c = let l = slice_bounds-put_changes-count c in search rules

pub put_changes-requires-else-stay : goal.put_changes-requires-else-stay
put_changes-requires-else-stay c =
    record { trace_bound = c.requires.trace_bound; trace_in_bounds = rw (named (goal.at.put_changes-requires-else-stay c).After-into) (omega (arith, changed (goal.at.put_changes-requires-else-stay c).Else-stay, length_behind contents_change [] c.args.changes.now (omega (arith, changed (goal.at.put_changes-requires-else-stay c).Else-stay)))) }

pub returns-then-stay : goal.returns-then-stay
returns-then-stay c =
    rw (list_stays c.args.stay c.args.start c.args.trace.now c.if-stay.true) c.put_changes.ensures

pub returns-else-stay : goal.returns-else-stay
returns-else-stay c =
    let a = c.args in
    rw (c.put_changes-else-stay.ensures, named (goal.at.returns-else-stay c).After-into, list_changed a.stay a.start a.trace.now c.if-stay.false)
    (behind_first contents_change (trace_changes 4_000 a.start a.trace.now) a.changes.now (omega (arith, changed (goal.at.returns-else-stay c).Else-stay)))

-- `list` refuses what does not fit, and puts the changes of a piece that does.
use mathlib.Core.Path.{◌≡◌, sym, ◌∙◌}
use Prim.Native.Nat.{◌+◌, ◌≤◌}
use native.Mathlib.Omega.{arith}
use borrow.Author.Tests.{ltb-false}
use lib.ListN.{length}
use Rattle.table.proofs.Tests.{neither}
use Rattle.repair.specs.Pieces.{changes_in}
use Rattle.repair.proofs.Kept.{kept_few, changes_length}
use Rattle.repair.proofs.Listings.{first_refused, then_refused, then_listed}
use Rattle.repair.proofs.pieces.Rest.list.Goals as goal
use Rattle.repair.proofs.pieces.Rest.list.Goals.{After-listed_in-listed, Else-at-changes, Else-at-piece}

pub listed_in-listed-requires : goal.listed_in-listed-requires
listed_in-listed-requires c =
    let a = c.args in
    rw c.kept_in-kept.ensures (kept_few a.self.room a.piece.now).1

-- what is counted is what is listed
counted : (c : After-listed_in-listed) → let a = c.args in c.listed_in-listed.result ≡ length (changes_in a.self a.piece.now)
counted c =
    let a = c.args in
    c.listed_in-listed.ensures ∙ rw c.kept_in-kept.ensures (sym (changes_length a.self.room a.self.at a.piece.now))

pub returns-then-at-changes : goal.returns-then-at-changes
returns-then-at-changes c =
    let a = c.args in
    let q = first_refused a.self a.piece.now a.changes.now c.listed_in-listed.result (counted (goal.at.returns-then-at-changes c).After-listed_in-listed) c.if-at-changes.true in
    record { value = q.0; changes_after = q.1 }

-- past the first test the start is in 63 bits, and there are places enough
low : (c : Else-at-changes) → let a = c.args in (a.self.at ≤ 9_223_372_036_854_775_807) × (c.listed_in-listed.result ≤ length a.changes.now)
low c = let q = neither _ _ c.if-at-changes.false in (ltb-false _ _ q.0, ltb-false _ _ q.1)

pub returns-then-at-piece : goal.returns-then-at-piece
returns-then-at-piece c =
    let a = c.args in
    let q = then_refused a.self a.piece.now a.changes.now c.if-at-piece.true (low (goal.at.returns-then-at-piece c).Else-at-changes).0 in
    record { value = q.0; changes_after = q.1 }

-- past both, so is the end
room : (c : Else-at-piece) → let a = c.args in
    (a.self.at + length a.piece.now ≤ 9_223_372_036_854_775_807) × (length (changes_in a.self a.piece.now) ≤ length a.changes.now)
room c =
    let q = neither _ _ c.if-at-changes.false in
    let count = c.listed_in-listed.ensures ∙ rw c.kept_in-kept.ensures (sym (changes_length c.args.self.room c.args.self.at c.args.piece.now)) in
    let few : c.listed_in-listed.result ≤ length c.args.changes.now = ltb-false _ _ q.1 in
    (omega (arith, c.if-at-piece.false, ltb-false _ _ q.0), rw count at few)

pub put_changes-requires : goal.put_changes-requires
put_changes-requires c = let r = room (goal.at.put_changes-requires c).Else-at-piece in record { trace_bound = omega (arith, r.0); trace_in_bounds = r.1 }

pub overflow_sub-rest : goal.overflow_sub-rest
overflow_sub-rest c =
    let a = c.args in
    rw c.kept_in-kept.ensures (kept_few a.self.room a.piece.now).0

pub returns : goal.returns
returns c =
    let a = c.args in
    let r = room (goal.at.returns c).Else-at-piece in
    let q = then_listed a.self a.piece.now a.changes.now r.1 r.0 in
    record { value = rw (counted (goal.at.returns c).After-listed_in-listed, c.kept_in-kept.ensures) q.0; changes_after = c.put_changes.ensures ∙ q.1 }

use mathlib.Core.Path.{◌≡◌, refl, sym, ◌∙◌}
use native.Mathlib.Omega.{arith}
use Prim.Native.Nat.{◌≤◌}
use lib.ListN.{length}
use Rattle.table.specs.Fold.{join_to, count_to}
use Rattle.file.specs.Reading.{events_in}
use Rattle.repair.proofs.Kept.{drops_length}
use Rattle.repair.proofs.Turns.{turn_test, counted_more, counted_same, listed_more, listed_same, place_left, kept_low}
use Rattle.repair.proofs.pieces.Rest.put_drops.Goals as goal
use Rattle.repair.proofs.pieces.Rest.put_drops.Goals.{At-loop-i, then-is_kept, else-is_kept}

pub loop-i-init : goal.loop-i-init
unfolding count_to join_to
loop-i-init c = (refl, refl)

-- the events that are kept are among those that the loop has passed
few : (c : At-loop-i) → c.loop-i.kept ≤ c.loop-i.i
few c = let a = c.args in kept_low a.self.room a.trace.now c.loop-i.i c.loop-i.kept c.loop-i.invariant.0

pub overflow_sub-i : goal.overflow_sub-i
overflow_sub-i c = few (goal.at.overflow_sub-i c).At-loop-i

pub bounds-changes-i : goal.bounds-changes-i
bounds-changes-i c =
    let a = c.args in
    let l = c.loop-i in
    let test = turn_test a.self.room a.trace.now l.i l.kept l.invariant.0 _ _ c.is_kept.ensures c.if-is_kept.false in
    rw c.loop-i.auto.changes (place_left a.self.room a.trace.now l.i l.kept l.invariant.0 a.self.at test (omega arith) (length a.changes.now) c.requires.trace_in_bounds)

pub loop-i-preserved : goal.loop-i-preserved
loop-i-preserved c =
    let a = c.args in
    let l = c.loop-i in
    let room = a.self.room in
    let trace = a.trace.now in
    let test = turn_test room trace l.i l.kept l.invariant.0 in
    let told = c.is_kept.ensures in
    let more = counted_more room trace l.i l.kept l.invariant.0 in
    let same = counted_same room trace l.i l.kept l.invariant.0 in (
      elim c.if-is_kept.branch [
        | then-is_kept w ↦ w.kept-is ∙ more (test _ _ told w.if-is_kept.true)
        | else-is_kept w ↦ w.kept-is ∙ same (test _ _ told w.if-is_kept.false)
      ],
      elim c.if-is_kept.branch [
        | then-is_kept w ↦ rw (w.kept-is, w.changes-is)
            (listed_same room trace l.i l.kept l.invariant.0 a.self.at a.changes.now l.changes l.invariant.1 (test _ _ told w.if-is_kept.true))
        | else-is_kept w ↦
            let dropped = test _ _ told w.if-is_kept.false in
            let place = place_left room trace l.i l.kept l.invariant.0 a.self.at dropped (omega arith) (length a.changes.now) c.requires.trace_in_bounds in
            rw (w.kept-is, w.changes-is, w.into.ensures, w.dropped-dropped.ensures)
            (listed_more room trace l.i l.kept l.invariant.0 a.self.at a.changes.now l.changes l.invariant.1 dropped place)
      ],
    )

pub overflow_sub-result : goal.overflow_sub-result
overflow_sub-result c = omega (arith, few (goal.at.overflow_sub-result c).At-loop-i)

pub returns-clause-value : goal.returns-clause-value
returns-clause-value c =
    let a = c.args in
    let all : c.loop-i.i ≡ events_in a.trace.now = omega arith in
    rw (c.loop-i.invariant.0, all) (sym (drops_length a.self.room a.self.at a.trace.now (events_in a.trace.now)))

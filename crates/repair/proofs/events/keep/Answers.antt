use mathlib.Core.Path.{refl, ◌∙◌}
use native.Mathlib.Omega.{arith}
use Prim.Native.Nat.{◌+◌, ◌-◌, ◌*◌, ◌≤◌}
use Rattle.table.specs.Fold.{join_to, count_to}
use Rattle.file.specs.File.{event_size}
use Rattle.repair.proofs.Turns.{turn_test, counted_more, counted_same, copied_more, copied_same, kept_low}
use Rattle.repair.proofs.events.keep.Goals as goal
use Rattle.repair.proofs.events.keep.Goals.{At-loop-i, then-is_kept, else-is_kept}

pub loop-i-init : goal.loop-i-init
unfolding count_to join_to
loop-i-init c = (refl, refl)

-- the events that are kept are among those that the loop has passed
few : (c : At-loop-i) → c.loop-i.kept ≤ c.loop-i.i
few c = let a = c.args in kept_low a.room a.trace.now c.loop-i.i c.loop-i.kept c.loop-i.invariant.0

pub overflow_mul-kept : goal.overflow_mul-kept
overflow_mul-kept c = omega (arith, few (goal.at.overflow_mul-kept c).At-loop-i)

pub loop-i-preserved : goal.loop-i-preserved
loop-i-preserved c =
    let a = c.args in
    let l = c.loop-i in
    let room = a.room in
    let trace = a.trace.now in
    let test = turn_test room trace l.i l.kept l.invariant.0 in
    let told = c.is_kept.ensures in (
      elim c.if-is_kept.branch [
        | then-is_kept w ↦ w.kept-is ∙ counted_more room trace l.i l.kept l.invariant.0 (test _ _ told w.if-is_kept.true)
        | else-is_kept w ↦ w.kept-is ∙ counted_same room trace l.i l.kept l.invariant.0 (test _ _ told w.if-is_kept.false)
      ],
      elim c.if-is_kept.branch [
        | then-is_kept w ↦ w.out-is
            ∙ w.put_bytes.ensures
            ∙ copied_more room trace l.i l.kept l.invariant.0 a.out.now l.out l.invariant.1 (test _ _ told w.if-is_kept.true) (omega arith) (event_size * l.i + event_size - event_size * l.i) (omega arith)
        | else-is_kept w ↦ w.out-is ∙ copied_same room trace l.i l.kept l.invariant.0 a.out.now l.out l.invariant.1 (test _ _ told w.if-is_kept.false)
      ],
    )

use mathlib.Core.Path.{refl, ◌∙◌}
use Rattle.table.specs.Fold.{count_to}
use Rattle.repair.proofs.Turns.{turn_test, counted_more, counted_same}
use Rattle.repair.proofs.events.kept_in.Goals as goal
use Rattle.repair.proofs.events.kept_in.Goals.{then-is_kept, else-is_kept}

pub loop-i-init : goal.loop-i-init
unfolding count_to
loop-i-init c = refl

pub loop-i-preserved : goal.loop-i-preserved
loop-i-preserved c =
    let a = c.args in
    let l = c.loop-i in
    let test = turn_test a.room a.trace.now l.i l.kept l.invariant in
    elim c.if-is_kept.branch [
      | then-is_kept w ↦ w.kept-is ∙ counted_more a.room a.trace.now l.i l.kept l.invariant (test _ _ c.is_kept.ensures w.if-is_kept.true)
      | else-is_kept w ↦ w.kept-is ∙ counted_same a.room a.trace.now l.i l.kept l.invariant (test _ _ c.is_kept.ensures w.if-is_kept.false)
    ]

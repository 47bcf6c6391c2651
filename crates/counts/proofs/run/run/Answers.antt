use native.Mathlib.Omega.{arith}
use mathlib.Core.Path.{◌≡◌, refl, sym}
use native.Mathlib.Numerals.{add-one}
use Rattle.counts.specs.Counts.{calls_to}
use Rattle.counts.specs.Inner.{steps_by}
use Rattle.counts.proofs.Runs.{runs_from, steps_join}
use Rattle.counts.proofs.run.run.Goals as goal

pub loop-i-init : goal.loop-i-init
unfolding steps_by calls_to
loop-i-init c = refl

pub loop-i-preserved : goal.loop-i-preserved
unfolding calls_to
loop-i-preserved c =
    let at = c.loop-i in
    rw (c.with_event-step.ensures, c.event_at.ensures, add-one, at.invariant) (sym (steps_join _ _ _))

pub returns : goal.returns
returns c =
    let at = c.loop-i in
    let a = c.args in
    let all : at.i ≡ a.events = omega arith in
    rw (at.invariant, all, c.none.ensures) (runs_from a.opened _)

use mathlib.Core.Path.{◌≡◌, subst}
use native.Mathlib.Omega.{arith}
use Rattle.session.proofs.Sound.{sound_of, deadline_high}
use Rattle.session.proofs.Dues.{grounds}
use Rattle.session.proofs.Closings.{Moving, moving_none, moving_more, can_look, moves}
use Rattle.session.proofs.Session.move_on.Goals as goal
use Rattle.session.proofs.Session.move_on.Goals.{After-loop-x}

pub loop-x-init : goal.loop-x-init
loop-x-init c = moving_none c.args.self _ _ (sound_of _ c.requires.ok).fit.eight

pub moved-requires : goal.moved-requires
moved-requires c =
    let s = c.args.self in
    rw (c.loop-x.invariant.rest c.loop-x.x-index (omega arith)) (deadline_high s (sound_of s c.requires.ok) c.loop-x.x-index c.loop-x-test.true)

pub loop-x-preserved : goal.loop-x-preserved
loop-x-preserved c = moving_more c.args.self _ _ c.loop-x.x-items c.loop-x.x-index _ c.loop-x-test.true c.loop-x.invariant c.moved.ensures

-- all eight are moved
whole : (c : After-loop-x) → Moving c.args.self c.args.self.clock c.args.self.horizon c.loop-x.x-items 8
whole c =
    let end : c.loop-x.x-index ≡ 8 = omega (arith, c.loop-x.auto.x-index-end, c.loop-x-test.false) in
    subst (Moving c.args.self c.args.self.clock c.args.self.horizon c.loop-x.x-items) end c.loop-x.invariant

pub soonest-next-requires : goal.soonest-next-requires
soonest-next-requires c =
    can_look c.args.self (sound_of _ c.requires.ok) _ (whole (goal.at.soonest-next-requires c).After-loop-x) (grounds c.requires)

pub summed-owed-requires : goal.summed-owed-requires
summed-owed-requires c =
    (can_look c.args.self (sound_of _ c.requires.ok) _ (whole (goal.at.summed-owed-requires c).After-loop-x) (grounds c.requires), c.soonest-next.ensures)

pub returns : goal.returns
returns c =
    moves c.args.self (sound_of _ c.requires.ok) _ (whole (goal.at.returns c).After-loop-x) _ _ c.soonest-next.ensures c.summed-owed.ensures

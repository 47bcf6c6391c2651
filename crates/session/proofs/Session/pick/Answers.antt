use mathlib.Core.Path.{◌≡◌, refl, ap, ap₂, ◌∙◌}
use Prim.Native.Nat.{◌+◌}
use Rattle.std.proofs.Common.{Option}
use Rattle.stream.specs.Search.{considered}
use Rattle.stream.specs.declared.choice.Pick.{Pick}
use Rattle.stream.specs.declared.Stream.{Stream}
use Rattle.session.specs.Choice.{taken_before}
use Rattle.session.proofs.InUse.{used_in, used_is, used_all}
use Rattle.session.proofs.Sound.{sound_of, count_high, bounded_by}
use Rattle.session.proofs.Picks.{pick_to, pick_none, pick_more, pick_all}
use Rattle.session.proofs.Session.pick.Goals as goal

pub loop-i-init : goal.loop-i-init
loop-i-init c = pick_none c.args.self.now

pub shared_ref_as_front-x-items : goal.shared_ref_as_front-x-items
shared_ref_as_front-x-items c = count_high c.args.self.now c.requires

pub consider-best-requires : goal.consider-best-requires
consider-best-requires c =
    let s = c.args.self.now in
    let l = c.loop-i-test.true in
    rw (used_is s c.loop-i.i l) (bounded_by s (sound_of s c.requires) s.horizon refl c.loop-i.i (used_in s c.loop-i.i l))

pub loop-i-preserved : goal.loop-i-preserved
loop-i-preserved c =
    let s = c.args.self.now in
    let at = c.loop-i in
    let step : c.consider-best.result ≡ pick_to s (at.i + 1) =
    c.consider-best.ensures
    ∙ ap₂ (λ (best : Option Pick) (x : Stream). considered s.worst s.horizon.0 (taken_before s) best x at.i) at.invariant (used_is s at.i c.loop-i-test.true)
    ∙ pick_more s c.requires at.i in
    step

pub returns : goal.returns
returns c =
    let s = c.args.self.now in
    let all = used_all s (sound_of s c.requires).fit.eight (count_high s c.requires) c.loop-i.i c.loop-i.auto.i-end c.loop-i-test.false in
    c.loop-i.invariant ∙ ap (pick_to s) all ∙ pick_all s

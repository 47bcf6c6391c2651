use mathlib.Core.Path.{◌≡◌, ap, sym, ◌∙◌}
use Prim.Native.Nat.{ℕ, ◌≤◌}
use native.Mathlib.Omega.{arith}
use lib.ListN.{length-map}
use Rattle.std.proofs.lemmas.List.{length-take}
use Rattle.time.specs.Time.{moment}
use Rattle.time.specs.Latest.{remainders}
use Rattle.time.specs.declared.Clock.{Clock}
use Rattle.stream.specs.Search.{remainders_so, Summable, summed}
use Rattle.stream.specs.declared.sums.Sums.{Sums}
use Rattle.stream.specs.declared.Stream.{Stream}
use Rattle.session.specs.Session.{horizon}
use Rattle.session.specs.Inner.{Bookkept}
use Rattle.session.specs.declared.Session.{Session}
use Rattle.stream.specs.contracts.Stream as Cells
use Rattle.session.proofs.InUse.{used_in, used_is, used_all}
use Rattle.session.proofs.Remainders.{remainders_split, sums_to, sums_none, sums_more, can_sum}
use Rattle.session.proofs.Session.summed.Goals as goal

pub loop-x-init : goal.loop-x-init
loop-x-init c = c.none-sums.ensures ∙ sums_none c.args.self.now _

-- the sums so far are small
summable : {s : Session} {h : Clock} → Bookkept s × (h ≡ moment (horizon s)) → (i : ℕ) → i ≤ s.count → Summable (sums_to s (horizon s) i)
summable {s} pre i le = can_sum s (horizon s) i (λ j l. pre.0.each j (omega arith)) (omega (arith, le, pre.0.few)) pre.0.span_high

pub with-sums-requires : goal.with-sums-requires
with-sums-requires c =
    let s = c.args.self.now in
    let pre = c.requires in
    let at = c.loop-x in
    let l = used_in s at.x-index c.loop-x-test.true in
    (rw at.invariant (summable pre at.x-index (omega (arith, l))), pre.0.span_high, (s.worst, rw (pre.1, used_is s at.x-index c.loop-x-test.true) (pre.0.each at.x-index l)))

pub loop-x-preserved : goal.loop-x-preserved
loop-x-preserved c =
    let s = c.args.self.now in
    let at = c.loop-x in
    let pre = c.requires in
    let step = c.with-sums.ensures ∙ ap (λ (x : Stream). summed at.sums x s.span c.args.h.0) (used_is s at.x-index c.loop-x-test.true) in
    sums_more s _ at.x-index at.sums _ at.invariant (rw pre.1 at step)

pub remainders-requires : goal.remainders-requires
remainders-requires c =
    let s = c.args.self.now in
    let at = c.loop-x in
    (rw at.invariant (summable c.requires at.x-index (omega (arith, at.auto.x-index-end, length-take s.count s.streams))), c.requires.0.span_high)

pub returns : goal.returns
returns c =
    let s = c.args.self.now in
    let at = c.loop-x in
    let all : at.x-index ≡ s.count = used_all s (omega (arith, c.well_formed, length-map s.streams (Cells.the_type).to)) c.requires.0.few at.x-index at.auto.x-index-end c.loop-x-test.false in
    c.remainders.ensures ∙ ap (λ (sums : Sums). remainders (remainders_so sums s.span)) (at.invariant ∙ ap (sums_to s (horizon s)) all) ∙ ap remainders (sym (remainders_split s))

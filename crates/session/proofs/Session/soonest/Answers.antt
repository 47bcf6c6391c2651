use mathlib.Core.Path.{◌≡◌, refl, ap, ◌∙◌}
use Prim.Native.Nat.{ℕ, min}
use native.Mathlib.Numerals.{add-one}
use native.Mathlib.Omega.{arith}
use borrow.Author.Rules.{rules}
use lib.ListN.{length-map}
use Rattle.table.specs.Fold.{smallest_to}
use Rattle.time.specs.Time.{moment}
use Rattle.session.specs.Session.{stream_at, horizon}
use Rattle.stream.specs.contracts.Stream as Cells
use Rattle.session.proofs.InUse.{used_is, used_all}
use Rattle.session.proofs.Session.soonest.Goals as goal

pub loop-x-init : goal.loop-x-init
unfolding smallest_to
loop-x-init c = refl

pub loop-x-preserved : goal.loop-x-preserved
unfolding smallest_to
loop-x-preserved c =
    let s = c.args.self.now in
    let at = c.loop-x in
    let x = used_is s at.x-index c.loop-x-test.true in
    let smaller : c.min-h.result ≡ moment (min at.h.0 (stream_at s at.x-index).deadline.0) = rw (← x) (search rules) in
    smaller ∙ rw (at.invariant, add-one)

pub returns : goal.returns
unfolding horizon
returns c =
    let s = c.args.self.now in
    let at = c.loop-x in
    let all : at.x-index ≡ s.count = used_all s (omega (arith, c.well_formed, length-map s.streams (Cells.the_type).to)) c.requires.few at.x-index at.auto.x-index-end c.loop-x-test.false in
    at.invariant ∙ ap (λ (n : ℕ). moment (smallest_to (λ j. (stream_at s j).deadline.0) n)) all

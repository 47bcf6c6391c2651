use mathlib.Core.Bool.{Bool, ◌||◌}
use mathlib.Core.Path.{◌≡◌, refl, ap, ap₂, ◌∙◌}
use Prim.Native.Nat.{ℕ}
use native.Mathlib.Omega.{arith}
use Rattle.std.proofs.Common.{Option}
use Rattle.stream.specs.Search.{lapsing}
use Rattle.session.specs.declared.searches.Survey.{Survey}
use Rattle.session.proofs.Offsets.{offset_fits}
use Rattle.session.proofs.Dues.{inside}
use Rattle.session.proofs.Sound.{sound_of, bounded_by, deadline_high}
use Rattle.session.proofs.Surveys.{found_to, passing, survey_none, lapsing_is, looked_in, better_is, passing_more, survey_all}
use Rattle.session.proofs.Session.survey.Goals as goal

pub loop-i-init : goal.loop-i-init
loop-i-init c = survey_none c.args.self.now

pub offset_bounds-self-unwrap_or : goal.offset_bounds-self-unwrap_or
offset_bounds-self-unwrap_or c =
    let s = c.args.self.now in
    offset_fits _ _ (inside s c.requires _ (looked_in s c.requires _ _ _ c.loop-i.invariant.0 c.unwrap_or.ensures c.loop-i-test.true)) refl

pub bounds-self-unwrap_or : goal.bounds-self-unwrap_or
bounds-self-unwrap_or c =
    let s = c.args.self.now in
    inside s c.requires _ (looked_in s c.requires _ _ _ c.loop-i.invariant.0 c.unwrap_or.ensures c.loop-i-test.true)

pub offset_bounds-self-i : goal.offset_bounds-self-i
offset_bounds-self-i c = offset_fits _ _ (inside c.args.self.now c.requires _ c.loop-i-test.true) refl

pub bounds-self-i : goal.bounds-self-i
bounds-self-i c = inside c.args.self.now c.requires _ c.loop-i-test.true

pub better-expiring-requires : goal.better-expiring-requires
better-expiring-requires c =
    let s = c.args.self.now in
    let each = bounded_by s (sound_of s c.requires) s.horizon refl in
    let l = c.loop-i-test.true in
    (each _ (looked_in s c.requires _ _ _ c.loop-i.invariant.0 c.unwrap_or.ensures l), each _ l)

pub closes_past_end-beyond-requires : goal.closes_past_end-beyond-requires
closes_past_end-beyond-requires c =
    let s = c.args.self.now in
    deadline_high s (sound_of s c.requires) c.loop-i.i (inside s c.requires _ c.loop-i-test.true)

pub loop-i-preserved : goal.loop-i-preserved
loop-i-preserved c =
    let s = c.args.self.now in
    let at = c.loop-i in (
      c.better-expiring.ensures
          ∙ lapsing_is s.worst s.horizon.0 s.streams at.expiring at.i c.unwrap_or.result c.unwrap_or.ensures
          ∙ ap (λ (best : Option ℕ). lapsing s.worst s.horizon.0 s.streams best at.i) at.invariant.0
          ∙ better_is s c.requires at.i,
      ap₂ ◌||◌ at.invariant.1 c.closes_past_end-beyond.ensures ∙ passing_more s c.requires at.i,
    )

pub returns : goal.returns
returns c =
    let s = c.args.self.now in
    let at = c.loop-i in
    let all : at.i ≡ s.count = omega (arith, at.auto.i-end, c.loop-i-test.false) in
    ap₂ (λ (n : Option ℕ) (b : Bool). let found : Survey = record { expiring = n; beyond = b } in found) (at.invariant.0 ∙ ap (found_to s) all) (at.invariant.1 ∙ ap (passing s) all)
    ∙ survey_all s

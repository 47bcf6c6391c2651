-- The latest safe moment is rounded down once, and nothing is cut off before; asking gives it; the horizon lies between release and deadline.
use mathlib.Core.Bool.{true}
use mathlib.Core.Path.{◌≡◌, ap, ap₂, ◌∙◌}
use Prim.Native.Nat.{ℕ, ◌+◌, ◌-◌, ◌*◌, ◌/◌, ◌≤◌, ◌<◌}
use native.Mathlib.Nat.{div-add-mod', div-mul-le_self, lt-div-mul-add}
use native.Mathlib.Omega.{arith}
use Rattle.table.specs.Fold.{sum_to}
use Rattle.time.specs.Time.{moment}
use Rattle.time.specs.Latest.{remainders, latest_of}
use Rattle.time.specs.declared.Clock.{Clock}
use Rattle.time.specs.declared.remainders.Remainders.{Remainders}
use Rattle.std.proofs.Common.{Some}
use Rattle.time.proofs.Asking.{of_sums}
use Rattle.session.specs.declared.Session.{Session}
use Rattle.session.specs.Session.{stream_at, horizon, scaled_part, latest, asked, sound}
use Rattle.session.specs.Laws.{LatestRoundsOnce, AskReadsThree, RemaindersAreBounded, PartsAreExact, HorizonBetween}
use Rattle.session.proofs.Sound.{Sound, sound_of, admits, bounded, reservation}
use Rattle.session.proofs.Remainders.{remainders_split, charges_high, parts_low, horizon_high, remainders_high}

-- the parts are at most h times H, so the one division is all that rounds
pub latest_rounds_once : LatestRoundsOnce
unfolding latest
latest_rounds_once s t =
    let q = sound_of s t in
    let span : 0 < s.span = omega (arith, (admits s q).numbers.span_low) in
    let parts = sum_to (scaled_part s) s.count in
    let left = (horizon s + sum_to (λ i. (stream_at s i).charge.0) s.count) * s.span - parts in
    let low : latest s * s.span ≤ left = div-mul-le_self left s.span in
    let high : left < latest s * s.span + s.span = lt-div-mul-add span in
    (omega (arith, parts_low s q), omega (arith, parts_low s q))

-- what is asked of the three cells is that
pub asked_is : (s : Session) → Sound s → asked s ≡ Some (moment (latest s))
unfolding latest
asked_is s q =
    let n = (admits s q).numbers in
    let charges = charges_high s (horizon s) s.count (bounded s q) in
    ap₂ (λ (h : Clock) (r : Remainders). latest_of h.0 r.0 s.span) q.ahead.horizon_is (q.ahead.remainders_is ∙ ap remainders (remainders_split s))
    ∙ of_sums (horizon s) s.span (omega (arith, n.span_low)) (sum_to (λ i. (stream_at s i).charge.0) s.count) (sum_to (scaled_part s) s.count)
    (parts_low s q) (omega (arith, horizon_high s q, n.count_high, charges))

-- so a sound session is told one, and no other
pub told_is : (s : Session) → sound s ≡ true → (until : Clock) → asked s ≡ Some until → until ≡ moment (latest s)
told_is s ok until e = let is = asked_is s (sound_of s ok) in cc

-- and two that agree in the three cells are told the same
pub ask_reads_three : AskReadsThree
ask_reads_three s z horizons sums spans i = latest_of (horizons i).0 (sums i).0 (spans i)

pub remainders_are_bounded : RemaindersAreBounded
remainders_are_bounded s t = remainders_high s (sound_of s t)

-- a period divides the span
pub parts_are_exact : PartsAreExact
parts_are_exact s t i l =
    let q = sound_of s t in
    let x = stream_at s i in
    let b = reservation s q i l in
    let whole : s.span / x.period * x.period ≡ s.span = omega (arith, div-add-mod' s.span x.period, b.divides) in
    ((bounded s q i l).released, omega (arith, ap (λ (z : ℕ). (horizon s - x.release.0) * x.granted.0 * z) whole))

-- no release is after the horizon, and no deadline before it
pub horizon_between : HorizonBetween
horizon_between s t i l = let b = bounded s (sound_of s t) i l in (b.released, b.ahead)

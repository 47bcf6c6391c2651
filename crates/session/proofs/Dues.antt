-- What an effect rests on: the grounds of its verdict, which some call of the sound session comes to. Its stream is one of the eight, and its numbers are small.
use mathlib.Core.Bool.{Bool, true, false}
use mathlib.Core.Path.{◌≡◌, sym, subst, ◌∙◌}
use Prim.Native.Nat.{ℕ, ◌*◌, ◌≤◌, ◌<◌}
use native.Mathlib.Nat.{mul-le-mul}
use native.Mathlib.Omega.{arith}
use Rattle.table.specs.Ranges.{span_max}
use Rattle.table.specs.Whole.{above_zero, below_zero}
use Rattle.time.specs.Time.{session_end, duration_max, parts_max}
use Rattle.time.specs.declared.Charge.{Charge}
use Rattle.stream.proofs.Fits.{charge_within, expired_within}
use Rattle.session.specs.Session.{stream_at, sound}
use Rattle.session.specs.Calls.{Verdict, append, send, expire, finish}
use Rattle.session.specs.Inner.{Due}
use Rattle.session.specs.declared.Session.{Session}
use Rattle.table.proofs.Loops.{below_eight}
use Rattle.session.proofs.Sound.{sound_of, admits, count_high, bounded}
use Rattle.session.proofs.Remainders.{remainders_high}
use Rattle.session.proofs.Grounds.{Grounds, verdict_grounds}
use Rattle.session.proofs.Answers.{sendable}

pub grounds : {s : Session} {v : Verdict} → Due s v → Grounds s v
grounds {s} d = subst (Grounds s) d.is (verdict_grounds s (sound_of s d.ok) d.call)

-- a used stream of a sound session is one of the eight
pub inside : (s : Session) → sound s ≡ true → (i : ℕ) → i < s.count → i < 8
inside s ok i l = below_eight i s.count l (count_high s ok)

pub can_append : {s : Session} {i place tag : ℕ} → Due s (append i place tag) → (i < 8) × ((stream_at s i).queued < 16)
can_append {s} {i} d = let g = grounds d in (inside s d.ok i g.exists, g.space)

pub can_send : {s : Session} {i j : ℕ} → Due s (send i j) → (i < 8) × (j < 16) × (1 ≤ (stream_at s i).queued)
can_send {s} {i} {j} d = sendable s (sound_of s d.ok) i j (grounds d)

pub can_expire : {s : Session} {i : ℕ} → Due s (expire i) → (i < 8) × ((stream_at s i).charge.0 ≤ session_end) × ((stream_at s i).expired ≤ session_end) × (s.worst ≤ duration_max)
can_expire {s} {i} d =
    let l = (grounds d).exists in
    let x = bounded s (sound_of s d.ok) i l in
    (inside s d.ok i l, charge_within x, expired_within x, omega (arith, x.worst_high))

pub can_finish : {s : Session} {i a : ℕ} → Due s (finish i a) → (i < 8) × ((stream_at s i).charge.0 ≤ session_end) × (s.clock.0 ≤ session_end) × (a ≤ session_end) × (a ≤ duration_max)
can_finish {s} {i} d =
    let g = grounds d in
    let q = sound_of s d.ok in
    (inside s d.ok i g.exists, charge_within (bounded s q i g.exists), q.fit.clock_high, omega (arith, g.short), g.short)

-- what is charged more, times the span, can be taken off the sum
pub can_charge : (s : Session) → sound s ≡ true → (c : Charge) → c.0 ≤ duration_max
    → (above_zero s.remainders.0 ≤ parts_max) × (below_zero s.remainders.0 ≤ parts_max) × (c.0 * s.span ≤ parts_max)
can_charge s ok c short =
    let q = sound_of s ok in
    let sum = remainders_high s q in
    (omega (arith, sum.0), omega (arith, sum.1), omega (arith, mul-le-mul {n₂ = duration_max} {m₂ = span_max} short (admits s q).numbers.span_high))

-- what was judged: a session that is refused by 31 is not sound, and past 31 it is
pub by_31 : (s : Session) (b : Bool) → b ≡ sound s → b ≡ false → sound s ≡ false
by_31 s b e bad = sym e ∙ bad

pub past_31 : (s : Session) (b : Bool) → b ≡ sound s → b ≡ true → sound s ≡ true
past_31 s b e good = sym e ∙ good

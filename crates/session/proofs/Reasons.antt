-- What else a verdict rests on, for the promise and for what is queued: which request arrives, why a move, why an expiry, whose duration, and why one reply and not the other.
use mathlib.Core.Bool.{true, false}
use mathlib.Core.Path.{◌≡◌, refl, ap}
use Prim.Native.Nat.{ℕ, ◌+◌, ◌-◌, ◌≤◌}
use native.Mathlib.Omega.{arith}
use Rattle.table.specs.Refusal.{given, ◌or_next◌}
use Rattle.table.proofs.Tests.{by_if, given_none, or_next_none}
use Rattle.time.specs.Time.{moment, disk_time}
use Rattle.session.specs.Session.{stream_at, some_filled, no_slot}
use Rattle.session.specs.Calls.{Verdict, refuse, append, send, move, wait, expire, finish, set_clock, call_refusal, refusal, turn_effect, effect, verdict, overlong, late, reply_to}
use Rattle.session.specs.History.{duration_of}
use Rattle.session.specs.Tags.{brought_by}
use Rattle.session.specs.declared.Session.{Session}
use Rattle.calls.specs.declared.Call.{Call}
use Rattle.calls.specs.declared.Reply.{Reply}
use Rattle.session.proofs.Sound.{Sound, of_sound}
use Rattle.session.proofs.Grounds.{named, call_refusal_high, ruled_by}

-- a refusal is at most 15; an arrival is that of its call; a move finds no slot; an expiry finds no filled one; a completion has the duration of its call
abbrev pub Reasons : Session → Call → Verdict → Type 0
Reasons s k (refuse n) = n ≤ 15
Reasons s k (append i place tag) = brought_by k ≡ record { stream = i + 1; place = place; tag = tag }
Reasons s k (send i j) = Unit {0}
Reasons s k move = no_slot s ≡ true
Reasons s k wait = Unit {0}
Reasons s k (expire i) = some_filled s ≡ false
Reasons s k (finish i a) = duration_of k ≡ a
Reasons s k (set_clock t) = Unit {0}

turn_reasons : (s : Session) → Reasons s Call.Turn (turn_effect s)
unfolding turn_effect
turn_reasons s =
    by_if (Reasons s Call.Turn) (some_filled s) _ _ (λ some. tt)
    (λ none.
    by_if (Reasons s Call.Turn) (no_slot s) _ _ (λ over. over)
    (λ left. by_if (Reasons s Call.Turn) _ wait _ (λ early. tt) (λ due. none)))

effect_reasons : (s : Session) (k : Call) → call_refusal s k ≡ 0 → Reasons s k (effect s k)
unfolding effect call_refusal
effect_reasons s (Call.Arrival n place tag) none =
    let low = (named s n (given_none _ 7 (or_next_none _ _ none).0)).0 in
    let same : n ≡ n - 1 + 1 = omega arith in
    ap (λ (i : ℕ). record { stream = i; place = place; tag = tag }) same
effect_reasons s Call.Turn none = turn_reasons s
effect_reasons s (Call.OwnTurn n j) none = tt
effect_reasons s (Call.Done a) none = refl
effect_reasons s (Call.Clock t) none = tt

pub verdict_reasons : (s : Session) → Sound s → (k : Call) → Reasons s k (verdict s k)
unfolding verdict refusal given ◌or_next◌
verdict_reasons s q k =
    rw (of_sound s q) (ruled_by (Reasons s k) (call_refusal s k) (effect s k) (call_refusal_high s k) (effect_reasons s k))

-- a completion is overlong or not, a clock report late or not
module _ (P : Reply → Type 0) (s : Session) where
  pub done_or_overlong : (i a : ℕ)
      → let charge = disk_time ((stream_at s i).charge.0 + a) in
      (overlong s a ≡ true → P (Reply.Overlong (i + 1) charge s.tag)) → (overlong s a ≡ false → P (Reply.Done (i + 1) charge s.tag)) → P (reply_to s (finish i a))
  unfolding reply_to
  done_or_overlong i a = by_if P _ _ _

  pub clock_or_late : (t : ℕ) → (late s t ≡ true → P (Reply.Late (moment t))) → (late s t ≡ false → P (Reply.Clock (moment t))) → P (reply_to s (set_clock t))
  unfolding reply_to
  clock_or_late t = by_if P _ _ _

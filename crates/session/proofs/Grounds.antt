-- What each verdict on a sound session rests on: no call comes to an effect whose grounds do not hold.
use mathlib.Core.Bool.{true, false, not, ◌&&◌}
use mathlib.Core.Path.{◌≡◌, refl}
use Prim.Native.Nat.{ℕ, zero, suc, ◌+◌, ◌-◌, ◌≤◌, ◌<◌}
use native.Mathlib.Omega.{arith}
use lib.Dec.{lit≤, leb, ltb, eqb}
use borrow.Author.Tests.{ltb-true, ltb-false, leb-true, eqb-true, eqb-false, not-true, not-false, eq-eqb, ne_eqb}
use Rattle.table.specs.Fold.{if}
use Rattle.table.specs.Refusal.{given, ◌or_next◌}
use Rattle.table.proofs.Tests.{by_if, both, neither, within, given_none, or_next_none, given_high, or_next_high}
use Rattle.table.proofs.Folds.{some_none, some_positive}
use Rattle.time.specs.Time.{session_end, duration_max}
use Rattle.stream.specs.Stream.{queue_max}
use Rattle.session.specs.Session.{stream_at, horizon, slots_at, filled_at, some_filled, no_slot, latest, sound_disk}
use Rattle.session.specs.Choice.{taken_before, leading_at, chosen, sent_before, expiring, expires_before}
use Rattle.session.specs.Calls.{Verdict, refuse, append, send, move, wait, expire, finish, set_clock, no_such_stream, busy, move_passes_end, call_refusal, refusal, turn_effect, effect, ruled, verdict}
use Rattle.session.specs.declared.Session.{Session}
use Rattle.calls.specs.declared.Call.{Call}
use Rattle.stream.proofs.Best.{best_positive}
use Rattle.stream.proofs.Leading.{leading_in}
use Rattle.session.proofs.Sound.{Sound, of_sound}

-- of a refusal: it is not 31. Of an effect: its stream exists, the disk is as the call asks, and nothing passes its bound.
abbrev pub Grounds : Session → Verdict → Type 0
Grounds s (refuse n) = n < 31
Grounds s (append i place tag) = record { exists : i < s.count; space : (stream_at s i).queued < queue_max }
Grounds s (send i j) = record { idle : s.served ≡ 0; exists : i < s.count; in_set : j < filled_at s i }
Grounds s move =
    record {
      idle : s.served ≡ 0;
      in_time : (i : ℕ) → i < s.count → (stream_at s i).deadline.0 ≡ horizon s
          → (stream_at s i).deadline.0 + (stream_at s i).period ≤ session_end;
    }
Grounds s wait = Unit {0}
Grounds s (expire i) = record { idle : s.served ≡ 0; exists : i < s.count; slot : 1 ≤ slots_at s i }
Grounds s (finish i a) =
    record {
      is : s.served ≡ i + 1;
      exists : i < s.count;
      slot : 1 ≤ slots_at s i;
      short : a ≤ duration_max;
      in_time : s.clock.0 + a ≤ session_end;
    }
Grounds s (set_clock t) = t ≤ session_end

-- a stream number that is neither 0 nor above the count names a stream
pub named : (s : Session) (n : ℕ) → no_such_stream s n ≡ false → (1 ≤ n) × (n - 1 < s.count)
unfolding no_such_stream
named s n h =
    let a = neither (eqb n 0) (ltb s.count n) h in
    let low = eqb-false n 0 a.0 in
    let high = ltb-false s.count n a.1 in
    (omega arith, omega arith)

-- nothing is at the disk where 10 is not given, and something where 11 is not
idle_of : (s : Session) → busy s ≡ false → s.served ≡ 0
unfolding busy
idle_of s h = eqb-true s.served 0 (not-false (eqb s.served 0) h)

served_at : (s : Session) → not (busy s) ≡ false → s.served ≡ 0 → ⊥
unfolding busy
served_at s h e = eqb-false s.served 0 (not-true _ (not-false _ h)) e

-- the stream at the disk exists and has a slot
pub served_of : (s : Session) → sound_disk s ≡ true → (s.served ≡ 0 → ⊥) → (s.served ≤ s.count) × (1 ≤ slots_at s (s.served - 1))
unfolding sound_disk if
served_of s h at_disk =
    let a = both (leb s.served s.count) (leb 1 (slots_at s (s.served - 1))) (rw (ne_eqb s.served 0 at_disk) at h) in
    (leb-true _ _ a.0, leb-true 1 (slots_at s (s.served - 1)) a.1)

pub served_in : (s : Session) → Sound s → (s.served ≡ 0 → ⊥) → (1 ≤ s.served) × (s.served - 1 < s.count)
served_in s q at_disk = let high = (served_of s q.fit.disk at_disk).0 in (omega arith, omega arith)

-- the stream that a turn serves has a filled slot
pub chosen_grounds : (s : Session) → s.served ≡ 0 → some_filled s ≡ true → Grounds s (send (chosen s) (leading_at s (chosen s)))
unfolding some_filled chosen
chosen_grounds s idle some =
    let best = best_positive (filled_at s) (sent_before s) s.count some in
    record {
      idle = idle;
      exists = best.0;
      in_set = leading_in (taken_before s) (stream_at s (chosen s)).places (filled_at s (chosen s)) best.1;
    }

-- the stream that loses one has a slot
pub expiring_grounds : (s : Session) → s.served ≡ 0 → no_slot s ≡ false → Grounds s (expire (expiring s))
unfolding no_slot expiring
expiring_grounds s idle h =
    let best = best_positive (slots_at s) (expires_before s) s.count (some_positive (slots_at s) s.count h) in
    record { idle = idle; exists = best.0; slot = best.1 }

-- no deadline of a move passes the end
move_grounds : (s : Session) → s.served ≡ 0 → move_passes_end s ≡ false → Grounds s move
unfolding move_passes_end
move_grounds s idle h =
    record {
      idle = idle;
      in_time = λ i l e.
          let closes = eq-eqb (stream_at s i).deadline.0 (horizon s) e in
          ltb-false session_end _ (rw closes at (some_none _ s.count h i l));
    }

-- what a turn comes to
turn_grounds : (s : Session) → s.served ≡ 0 → (no_slot s && move_passes_end s) ≡ false → Grounds s (turn_effect s)
unfolding turn_effect
turn_grounds s idle h =
    by_if (Grounds s) (some_filled s) _ _ (λ some. chosen_grounds s idle some)
    (λ none.
    by_if (Grounds s) (no_slot s) _ _ (λ over. move_grounds s idle (rw over at h))
    (λ left.
    by_if (Grounds s) (ltb s.clock.0 (latest s)) _ _ (λ early. tt) (λ due. expiring_grounds s idle left)))

-- what each call comes to where nothing refuses it
call_grounds : (s : Session) → Sound s → (k : Call) → call_refusal s k ≡ 0 → Grounds s (effect s k)
unfolding call_refusal effect
call_grounds s q (Call.Arrival n place tag) h =
    let a = or_next_none _ _ h in
    let exists = (named s n (given_none _ 7 a.0)).1 in
    let more = eqb-false (stream_at s (n - 1)).queued queue_max (given_none _ 8 a.1) in
    record { exists = exists; space = omega (arith, (q.fit.used.each (n - 1) exists).queue.places.queued_high) }
call_grounds s q Call.Turn h =
    let a = or_next_none _ _ h in
    turn_grounds s (idle_of s (given_none _ 9 a.0)) (given_none _ 13 a.1)
call_grounds s q (Call.OwnTurn n j) h =
    let a = or_next_none _ _ h in
    let b = or_next_none _ _ a.1 in
    record {
      idle = idle_of s (given_none _ 9 a.0);
      exists = (named s n (given_none _ 7 b.0)).1;
      in_set = ltb-true j (filled_at s (n - 1)) (not-false _ (given_none _ 14 b.1));
    }
call_grounds s q (Call.Done a) h =
    let b = or_next_none _ _ h in
    let d = or_next_none _ _ b.1 in
    let at_disk = served_at s (given_none _ 10 b.0) in
    let stream = served_of s q.fit.disk at_disk in
    record {
      is = omega arith;
      exists = omega arith;
      slot = stream.1;
      short = (within 1 duration_max a (given_none _ 11 d.0)).1;
      in_time = ltb-false session_end (s.clock.0 + a) (given_none _ 13 d.1);
    }
call_grounds s q (Call.Clock t) h =
    let a = or_next_none _ _ h in
    let b = or_next_none _ _ a.1 in
    ltb-false session_end t (given_none _ 13 b.1)

-- the refusals of calls are at most 15
pub call_refusal_high : (s : Session) (k : Call) → call_refusal s k ≤ 15
unfolding call_refusal
call_refusal_high s (Call.Arrival n place tag) = search (or_next_high, given_high, lit≤)
call_refusal_high s Call.Turn = search (or_next_high, given_high, lit≤)
call_refusal_high s (Call.OwnTurn n j) = search (or_next_high, given_high, lit≤)
call_refusal_high s (Call.Done a) = search (or_next_high, given_high, lit≤)
call_refusal_high s (Call.Clock t) = search (or_next_high, given_high, lit≤)

-- a verdict is a refusal, or an effect where nothing refuses
pub ruled_by : (P : Verdict → Type 0) (n : ℕ) (v : Verdict) → P (refuse n) → (n ≡ 0 → P v) → P (ruled n v)
unfolding ruled
ruled_by P zero v refused effective = effective refl
ruled_by P (suc n) v refused effective = refused

-- what each call comes to
pub verdict_grounds : (s : Session) → Sound s → (k : Call) → Grounds s (verdict s k)
unfolding verdict refusal given ◌or_next◌
verdict_grounds s q k =
    rw (of_sound s q)
    (ruled_by (Grounds s) (call_refusal s k) (effect s k) (omega (arith, call_refusal_high s k)) (call_grounds s q k))

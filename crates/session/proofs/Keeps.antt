-- Each effect of a call keeps a session sound, so every call does.
use mathlib.Core.Path.{refl, sym, subst}
use Prim.Native.Nat.{ℕ, ◌+◌, ◌≤◌, ◌<◌}
use native.Mathlib.Omega.{arith}
use Rattle.table.specs.Fold.{if}
use Rattle.time.specs.Time.{moment}
use Rattle.stream.specs.Stream.{filled, arrived, without, charged, lapsed}
use Rattle.session.specs.Session.{stream_at, place_at, tag_at, horizon, slots_at, sound_disk, with_stream, with_disk}
use Rattle.session.specs.Calls.{Verdict, refuse, append, send, move, wait, expire, finish, set_clock, verdict, apply, answer_to}
use Rattle.session.specs.Laws.{CallsKeepSound}
use Rattle.session.specs.declared.Session.{Session}
use Rattle.stream.proofs.Slots.{slot_room}
use Rattle.session.proofs.Sound.{Sound, sound_of, of_sound, looking_ahead_lem, bounded}
use Rattle.stream.proofs.Queues.{arrived_queue, without_queue}
use Rattle.session.proofs.Grounds.{Grounds, verdict_grounds}
use Rattle.session.proofs.Changes.{slots_kept, queue_kept, charge_kept, clock_kept, disk_served}
use Rattle.session.proofs.MoveKept.{move_kept}

-- an arrival
append_kept : (s : Session) → Sound s → (i place tag : ℕ) → Grounds s (append i place tag) → Sound (apply s (append i place tag))
unfolding apply arrived
append_kept s q i place tag g =
    queue_kept s q i g.exists _ _ _ (arrived_queue (stream_at s i) (q.fit.used.each i g.exists).queue place tag g.space)

-- a request sent: its stream keeps its slots, and so has one while it is at the disk
send_kept : (s : Session) → Sound s → (i j : ℕ) → Grounds s (send i j) → Sound (apply s (send i j))
unfolding apply without filled
send_kept s q i j g =
    let l = g.exists in
    let x = stream_at s i in
    let y = without j x in
    let place = place_at s i j in
    let tag = tag_at s i j in
    let left = queue_kept s q i l _ _ _ (without_queue x (q.fit.used.each i l).queue j (omega (arith, g.in_set))) in
    let slot : 1 ≤ slots_at (with_stream s i y) i =
    subst (λ (n : ℕ). 1 ≤ n) (sym (slots_kept s q i l x.charge.0 x.expired y.queued y.places y.tags refl i)) (omega (arith, g.in_set)) in
    clock_kept (with_stream s i y) left s.clock place (i + 1) place tag q.fit.clock_high
    (disk_served (with_stream s i y) s.clock place i place tag l slot)

-- a stream with a slot has room for W
room : (s : Session) → Sound s → (i : ℕ) → i < s.count → 1 ≤ slots_at s i → (stream_at s i).charge.0 + s.worst ≤ (stream_at s i).granted.0
room s q i l slot = slot_room s.worst (horizon s) (stream_at s i) (bounded s q i l) slot

-- a slot that expires
expire_kept : (s : Session) → Sound s → (i : ℕ) → Grounds s (expire i) → Sound (apply s (expire i))
unfolding apply lapsed
expire_kept s q i g =
    let l = g.exists in
    looking_ahead_lem _ (charge_kept s q i l _ _ (omega (arith, room s q i l g.slot)) (omega (arith, (q.fit.used.each i l).covered)) g.idle)

-- a completion: nothing is at the disk any more, so the charge may pass what the slot covers
finish_kept : (s : Session) → Sound s → (i a : ℕ) → Grounds s (finish i a) → Sound (apply s (finish i a))
unfolding apply charged sound_disk if
finish_kept s q i a g =
    let l = g.exists in
    let clock = moment (s.clock.0 + a) in
    looking_ahead_lem _
    (charge_kept (with_disk s clock s.head 0 0 0) (clock_kept s q clock s.head 0 0 0 g.in_time refl) i l _ _
    (omega (arith, g.short, room s q i l g.slot)) (omega (arith, (q.fit.used.each i l).covered)) refl)

-- a clock report
set_clock_kept : (s : Session) → Sound s → (t : ℕ) → Grounds s (set_clock t) → Sound (apply s (set_clock t))
unfolding apply sound_disk horizon
set_clock_kept s q t in_time = clock_kept s q (moment t) s.head s.served s.place s.tag in_time q.fit.disk

-- whatever a call comes to
pub effect_kept : (s : Session) → Sound s → (v : Verdict) → Grounds s v → Sound (apply s v)
unfolding apply
effect_kept s q (refuse n) g = q
effect_kept s q (append i place tag) g = append_kept s q i place tag g
effect_kept s q (send i j) g = send_kept s q i j g
effect_kept s q move g = looking_ahead_lem _ (move_kept s q g)
effect_kept s q wait g = q
effect_kept s q (expire i) g = expire_kept s q i g
effect_kept s q (finish i a) g = finish_kept s q i a g
effect_kept s q (set_clock t) g = set_clock_kept s q t g

-- every call
pub calls_keep_sound : CallsKeepSound
unfolding answer_to
calls_keep_sound s k t =
    let q = sound_of s t in
    of_sound (apply s (verdict s k)) (effect_kept s q (verdict s k) (verdict_grounds s q k))

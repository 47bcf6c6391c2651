-- While no completion is overlong each call keeps room, and while no clock report is late each keeps time: the two halves of the promise's invariant, each by a premise of its own.
use mathlib.Core.Bool.{Bool, true, false, not, ◌&&◌, false≢true}
use mathlib.Core.List.{List, [], ◌∷◌}
use mathlib.Core.Path.{◌≡◌, refl}
use mathlib.Core.Logic.{◌⊎◌, inl, inr, ⊎_elim}
use Prim.Native.Nat.{ℕ, ◌+◌, ◌*◌, ◌≤◌, ◌<◌}
use native.Mathlib.Nat.{mul-le-mul_right}
use native.Mathlib.Omega.{arith}
use lib.Dec.{eqb}
use borrow.Author.Tests.{ltb-false}
use Rattle.table.proofs.Tests.{both}
use Rattle.stream.specs.Stream.{with_queue, arrived, without, charged, lapsed}
use Rattle.calls.specs.Replies.{number_of}
use Rattle.session.specs.Session.{stream_at, horizon, latest, with_stream}
use Rattle.session.specs.Calls.{Verdict, refuse, append, send, move, wait, expire, finish, set_clock, apply, overlong, late, reply_to}
use Rattle.session.specs.History.{Moment, in_bounds, within_bounds, replied, never}
use Rattle.stream.specs.declared.Stream.{Stream}
use Rattle.session.specs.declared.Session.{Session}
use Rattle.session.proofs.Sound.{Sound}
use Rattle.session.proofs.Grounds.{Grounds}
use Rattle.session.proofs.Reasons.{done_or_overlong, clock_or_late}
use Rattle.session.proofs.Halves.{used_at, rate_at, Room, InTime, slot_has_room}
use Rattle.session.proofs.HalvesKept.{charge_keeps_room, charge_keeps_time, move_keeps_room, move_keeps_time, clock_keeps_time}

-- within the bounds neither number was answered
pub within_never : (past : List Moment) → within_bounds past ≡ true → (never 26 past ≡ true) × (never 28 past ≡ true)
unfolding within_bounds never
within_never [] within = (refl, refl)
within_never (m ∷ past) within =
    let parts = both (in_bounds m.answer.reply) (within_bounds past) within in
    let neither = both (not (replied 26 m)) (not (replied 28 m)) parts.0 in
    let before = within_never past parts.1 in
    (rw (neither.0, before.0), rw (neither.1, before.1))

not_both : (a b : Bool) → (a && b) ≡ false → (a ≡ false) ⊎ (b ≡ false)
not_both true b h = inr h
not_both false b h = inl refl

-- a completion that is not answered by 26 lasted at most W, and a clock report that is not answered by 28 is not late
not_overlong : (s : Session) (i a : ℕ) → not (eqb (number_of (reply_to s (finish i a))) 26) ≡ true → a ≤ s.worst
unfolding overlong
not_overlong s i a =
    done_or_overlong (λ r. not (eqb (number_of r) 26) ≡ true → a ≤ s.worst) s i a (λ over is. absurd (false≢true is)) (λ short is. ltb-false s.worst a short)

not_late : (s : Session) (t : ℕ) → not (eqb (number_of (reply_to s (set_clock t))) 28) ≡ true → late s t ≡ false
not_late s t = clock_or_late (λ r. not (eqb (number_of r) 28) ≡ true → late s t ≡ false) s t (λ after-l is. absurd (false≢true is)) (λ early is. early)

module _ (s : Session) (q : Sound s) where
  abbrev x : ℕ → Stream
  x i = stream_at s i

  same_charge : (i : ℕ) → (x i).charge.0 ≡ (x i).charge.0 + 0
  same_charge i = omega arith

  -- Room: a stream with a slot has room for W, and so for any duration up to W; one with another queue is charged nothing.
  module _ (room : Room s) where
    queue_room : (i : ℕ) → i < s.count → (queued : ℕ) (places tags : List ℕ) → Room (with_stream s i (with_queue (x i) queued places tags))
    queue_room i l queued places tags =
        charge_keeps_room s q i l (x i).charge.0 (x i).expired queued places tags 0 (same_charge i) (omega (arith, room i l)) room

    send_room : (i j : ℕ) → Grounds s (send i j) → Room (apply s (send i j))
    unfolding apply without horizon
    send_room i j g = queue_room i g.exists (without j (x i)).queued (without j (x i)).places (without j (x i)).tags

    expire_room : (i : ℕ) → Grounds s (expire i) → Room (apply s (expire i))
    unfolding apply lapsed horizon
    expire_room i g = charge_keeps_room s q i g.exists _ _ _ _ _ s.worst refl (slot_has_room s q i g.exists g.slot) room

    finish_room : (i a : ℕ) → Grounds s (finish i a) → a ≤ s.worst → Room (apply s (finish i a))
    unfolding apply charged horizon
    finish_room i a g le =
        let l = g.exists in
        let enough : used_at s i + a * s.span ≤ horizon s * rate_at s i = omega (arith, slot_has_room s q i l g.slot, mul-le-mul_right s.span le) in
        charge_keeps_room s q i l ((x i).charge.0 + a) (x i).expired (x i).queued (x i).places (x i).tags a refl enough room

    pub effect_room : (v : Verdict) → Grounds s v → not (eqb (number_of (reply_to s v)) 26) ≡ true → Room (apply s v)
    unfolding apply arrived horizon
    effect_room (refuse n) g is = room
    effect_room (append i place tag) g is = queue_room i g.exists _ _ _
    effect_room (send i j) g is = send_room i j g
    effect_room move g is = move_keeps_room s q room
    effect_room wait g is = room
    effect_room (expire i) g is = expire_room i g
    effect_room (finish i a) g is = finish_room i a g (not_overlong s i a is)
    effect_room (set_clock t) g is = room

  -- Time: what a completion adds to the clock it adds to the charge as well, however long it lasted.
  module _ (time : InTime s s.clock.0) where
    queue_time : (i : ℕ) → i < s.count → (queued : ℕ) (places tags : List ℕ) → InTime (with_stream s i (with_queue (x i) queued places tags)) s.clock.0
    queue_time i l queued places tags =
        charge_keeps_time s q i l (x i).charge.0 (x i).expired queued places tags 0 (same_charge i) s.clock.0 s.clock.0 (omega arith) time

    send_time : (i j : ℕ) → Grounds s (send i j) → InTime (apply s (send i j)) s.clock.0
    unfolding apply without horizon
    send_time i j g = queue_time i g.exists (without j (x i)).queued (without j (x i)).places (without j (x i)).tags

    expire_time : (i : ℕ) → Grounds s (expire i) → InTime (apply s (expire i)) s.clock.0
    unfolding apply lapsed horizon
    expire_time i g = charge_keeps_time s q i g.exists _ _ _ _ _ s.worst refl s.clock.0 s.clock.0 (omega arith) time

    finish_time : (i a : ℕ) → Grounds s (finish i a) → InTime (apply s (finish i a)) (s.clock.0 + a)
    unfolding apply charged horizon
    finish_time i a g =
        charge_keeps_time s q i g.exists ((x i).charge.0 + a) (x i).expired (x i).queued (x i).places (x i).tags a refl s.clock.0 (s.clock.0 + a) (omega arith) time

    -- a clock report that is not late is at most L, or at most the clock
    set_clock_time : (t : ℕ) → late s t ≡ false → InTime s t
    unfolding late
    set_clock_time t early =
        ⊎_elim
        (λ by-latest. clock_keeps_time s q t (ltb-false (latest s) t by-latest))
        (λ by-clock. omega (arith, time, mul-le-mul_right s.span (ltb-false s.clock.0 t by-clock)))
        (not_both _ _ early)

    pub effect_time : (v : Verdict) → Grounds s v → not (eqb (number_of (reply_to s v)) 28) ≡ true → InTime (apply s v) (apply s v).clock.0
    unfolding apply arrived horizon
    effect_time (refuse n) g is = time
    effect_time (append i place tag) g is = queue_time i g.exists _ _ _
    effect_time (send i j) g is = send_time i j g
    effect_time move g is = move_keeps_time s q s.clock.0 time
    effect_time wait g is = time
    effect_time (expire i) g is = expire_time i g
    effect_time (finish i a) g is = finish_time i a g
    effect_time (set_clock t) g is = set_clock_time t (not_late s t is)

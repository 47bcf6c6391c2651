-- `Session::own_turn` refuses by 31, 10, 8 and 15 and sends the request that was chosen: each way out cites its verdict.
use mathlib.Core.Bool.{true, false}
use mathlib.Core.Path.{◌≡◌, refl, ap, ◌∙◌}
use Prim.Native.Nat.{◌≤◌, ◌<◌, ◌-◌}
use native.Mathlib.Omega.{arith}
use Rattle.time.specs.declared.Clock.{Clock}
use Rattle.stream.specs.Stream.{filled}
use Rattle.session.specs.Session.{stream_at, filled_at, sound}
use Rattle.session.specs.Calls.{send, no_such_stream, verdict}
use Rattle.calls.specs.declared.Call.{Call}
use Rattle.session.proofs.Answers.{answers, unsound_verdict, own_busy, own_nowhere, own_outside, own_sends}
use Rattle.session.proofs.Grounds.{named}
use Rattle.session.proofs.Sound.{sound_of, bounded_by}
use Rattle.session.proofs.Dues.{by_31, past_31, inside}
use Rattle.session.proofs.Offsets.{offset_fits}
use Rattle.session.proofs.Session.own_turn.Goals as goal
use Rattle.session.proofs.Session.own_turn.Goals.{Else-not-is_sound, Else-stream-self, After-filled-filled, Else-filled-index}

pub returns-then-not-is_sound : goal.returns-then-not-is_sound
returns-then-not-is_sound c = answers _ _ c.refuse.ensures (unsound_verdict _ _ (by_31 _ _ c.is_sound.ensures c.if-not-is_sound.true))

-- past 31 the session is sound
ok : (c : Else-not-is_sound) → sound c.args.self ≡ true
ok c = past_31 _ _ c.is_sound.ensures c.if-not-is_sound.false

pub returns-then-self-ne0 : goal.returns-then-self-ne0
returns-then-self-ne0 c =
    answers _ _ c.refuse-then-self-ne0.ensures (own_busy _ _ _ (ok (goal.at.returns-then-self-ne0 c).Else-not-is_sound) c.if-self-ne0.true)

pub returns-then-stream-self : goal.returns-then-stream-self
unfolding no_such_stream
returns-then-stream-self c =
    answers _ _ c.refuse-then-stream-self.ensures (own_nowhere _ _ _ (ok (goal.at.returns-then-stream-self c).Else-not-is_sound) c.if-self-ne0.false c.if-stream-self.true)

-- past 8 the stream is one of the session's
own : (c : Else-stream-self) → no_such_stream c.args.self c.args.stream ≡ false
unfolding no_such_stream
own c = c.if-stream-self.false

here : (c : Else-stream-self) → (1 ≤ c.args.stream) × (c.args.stream - 1 < c.args.self.count)
here c = named c.args.self c.args.stream (own c)

among_eight : (c : Else-stream-self) → c.args.stream - 1 < 8
among_eight c = inside _ (past_31 _ _ c.is_sound.ensures c.if-not-is_sound.false) _ (here c).1

pub offset_bounds-self-n : goal.offset_bounds-self-n
offset_bounds-self-n c = offset_fits _ _ (among_eight (goal.at.offset_bounds-self-n c).Else-stream-self) refl

pub bounds-self-n : goal.bounds-self-n
bounds-self-n c = among_eight (goal.at.bounds-self-n c).Else-stream-self

pub filled-filled-requires : goal.filled-filled-requires
filled-filled-requires c =
    let at = goal.at.filled-filled-requires c in
    bounded_by _ (sound_of _ (ok at.Else-not-is_sound)) _ refl _ (here at.Else-stream-self).1

-- the set is that of the horizon
set_size : (c : After-filled-filled) → c.filled-filled.result ≡ filled_at c.args.self (c.args.stream - 1)
set_size c =
    let ahead = (sound_of _ (past_31 _ _ c.is_sound.ensures c.if-not-is_sound.false)).ahead.horizon_is in
    c.filled-filled.ensures ∙ ap (λ (h : Clock). filled c.args.self.worst h.0 (stream_at c.args.self (c.args.stream - 1))) ahead

pub returns-then-filled-index : goal.returns-then-filled-index
returns-then-filled-index c =
    let at = goal.at.returns-then-filled-index c in
    answers _ _ c.refuse-then-filled-index.ensures
    (own_outside _ _ _ (ok at.Else-not-is_sound) c.if-self-ne0.false (own at.Else-stream-self) (omega (arith, set_size at.After-filled-filled, c.if-filled-index.true)))

-- past 15 the request is one of the set
chosen : (c : Else-filled-index) → verdict c.args.self (Call.OwnTurn c.args.stream c.args.index) ≡ send (c.args.stream - 1) c.args.index
unfolding no_such_stream
chosen c =
    let sound_so = past_31 _ _ c.is_sound.ensures c.if-not-is_sound.false in
    let ahead = (sound_of _ sound_so).ahead.horizon_is in
    let size = c.filled-filled.ensures ∙ ap (λ (h : Clock). filled c.args.self.worst h.0 (stream_at c.args.self (c.args.stream - 1))) ahead in
    own_sends _ _ _ sound_so c.if-self-ne0.false c.if-stream-self.false (omega (arith, size, c.if-filled-index.false))

pub send-requires : goal.send-requires
send-requires c =
    let at = goal.at.send-requires c in
    record { ok = ok at.Else-not-is_sound; call = _; is = chosen at.Else-filled-index }

pub returns : goal.returns
returns c = answers _ _ c.send.ensures (chosen (goal.at.returns c).Else-filled-index)

-- `Session::arrival` refuses by 31, 8 and 9 and puts the request into the queue: each way out cites its verdict.
use mathlib.Core.Bool.{true, false}
use mathlib.Core.Path.{◌≡◌, refl}
use Prim.Native.Nat.{◌≤◌, ◌<◌, ◌-◌}
use Rattle.session.specs.Session.{sound}
use Rattle.session.specs.Calls.{append, no_such_stream, verdict}
use Rattle.calls.specs.declared.Call.{Call}
use Rattle.session.proofs.Answers.{answers, unsound_verdict, arrival_nowhere, arrival_full, arrival_joins}
use Rattle.session.proofs.Grounds.{named}
use Rattle.session.proofs.Dues.{by_31, past_31, inside}
use Rattle.session.proofs.Offsets.{offset_fits}
use Rattle.session.proofs.Session.arrival.Goals as goal
use Rattle.session.proofs.Session.arrival.Goals.{Else-not-is_sound, Else-stream-self, Else-x-eq-QUEUE_MAX}

pub returns-then-not-is_sound : goal.returns-then-not-is_sound
returns-then-not-is_sound c = answers _ _ c.refuse.ensures (unsound_verdict _ _ (by_31 _ _ c.is_sound.ensures c.if-not-is_sound.true))

-- past 31 the session is sound
ok : (c : Else-not-is_sound) → sound c.args.self ≡ true
ok c = past_31 _ _ c.is_sound.ensures c.if-not-is_sound.false

pub returns-then-stream-self : goal.returns-then-stream-self
unfolding no_such_stream
returns-then-stream-self c =
    answers _ _ c.refuse-then-stream-self.ensures (arrival_nowhere _ _ _ _ (ok (goal.at.returns-then-stream-self c).Else-not-is_sound) c.if-stream-self.true)

-- past 8 the stream is one of the session's
own : (c : Else-stream-self) → no_such_stream c.args.self c.args.stream ≡ false
unfolding no_such_stream
own c = c.if-stream-self.false

here : (c : Else-stream-self) → (1 ≤ c.args.stream) × (c.args.stream - 1 < c.args.self.count)
here c = named c.args.self c.args.stream (own c)

among_eight : (c : Else-stream-self) → c.args.stream - 1 < 8
among_eight c = inside _ (past_31 _ _ c.is_sound.ensures c.if-not-is_sound.false) _ (here c).1

pub offset_bounds-self-n : goal.offset_bounds-self-n
offset_bounds-self-n c = offset_fits _ _ (among_eight (goal.at.offset_bounds-self-n c).Else-stream-self) refl

pub bounds-self-n : goal.bounds-self-n
bounds-self-n c = among_eight (goal.at.bounds-self-n c).Else-stream-self

pub returns-then-x-eq-QUEUE_MAX : goal.returns-then-x-eq-QUEUE_MAX
returns-then-x-eq-QUEUE_MAX c =
    let at = goal.at.returns-then-x-eq-QUEUE_MAX c in
    answers _ _ c.refuse-then-x-eq-QUEUE_MAX.ensures (arrival_full _ _ _ _ (ok at.Else-not-is_sound) (own at.Else-stream-self) c.if-x-eq-QUEUE_MAX.true)

-- past 9 the queue has room
joins : (c : Else-x-eq-QUEUE_MAX) → verdict c.args.self (Call.Arrival c.args.stream c.args.place c.args.tag) ≡ append (c.args.stream - 1) c.args.place c.args.tag
unfolding no_such_stream
joins c = arrival_joins _ _ _ _ (past_31 _ _ c.is_sound.ensures c.if-not-is_sound.false) c.if-stream-self.false c.if-x-eq-QUEUE_MAX.false

pub append-requires : goal.append-requires
append-requires c =
    let at = goal.at.append-requires c in
    record { ok = ok at.Else-not-is_sound; call = _; is = joins at.Else-x-eq-QUEUE_MAX }

pub returns : goal.returns
returns c = answers _ _ c.append.ensures (joins (goal.at.returns c).Else-x-eq-QUEUE_MAX)

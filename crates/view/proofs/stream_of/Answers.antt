-- `stream_of` gives a stream of a sound session, or refuses by 31 and 8: each way out rewrites the tests that led there.
use mathlib.Core.Bool.{true}
use mathlib.Core.Path.{◌≡◌}
use Prim.Native.Nat.{◌-◌, ◌≤◌, ◌<◌}
use native.Mathlib.Omega.{arith}
use Rattle.table.specs.Fold.{if}
use Rattle.session.specs.Session.{sound}
use Rattle.session.specs.Calls.{no_such_stream}
use Rattle.view.specs.View.{stream_of}
use Rattle.session.proofs.Dues.{by_31, past_31}
use Rattle.session.proofs.Grounds.{named}
use Rattle.session.proofs.Sound.{count_high}
use Rattle.view.proofs.stream_of.Goals as goal
use Rattle.view.proofs.stream_of.Goals.{Else-not-is_sound, Else-stream-session}

pub returns-then-not-is_sound : goal.returns-then-not-is_sound
unfolding stream_of if
returns-then-not-is_sound c = rw (by_31 _ _ c.is_sound.ensures c.if-not-is_sound.true)

-- past 31 the session is sound
ok : (c : Else-not-is_sound) → sound c.args.session.now ≡ true
ok c = past_31 _ _ c.is_sound.ensures c.if-not-is_sound.false

pub returns-then-stream-session : goal.returns-then-stream-session
unfolding stream_of no_such_stream if
returns-then-stream-session c = rw (ok c.before, c.if-stream-session.true)

-- past 8 the stream is one of the eight
exists : (c : Else-stream-session) → let a = c.args in (1 ≤ a.stream) × (a.stream - 1 < 8)
unfolding no_such_stream
exists c =
    let a = c.args in
    let n = named a.session.now a.stream c.if-stream-session.false in
    (n.0, omega (arith, n, count_high a.session.now (ok c.before)))

pub offset_bounds-session-stream : goal.offset_bounds-session-stream
offset_bounds-session-stream c = omega (arith, exists c)

pub bounds-session-stream : goal.bounds-session-stream
bounds-session-stream c = (exists (goal.at.bounds-session-stream c).Else-stream-session).1

pub returns : goal.returns
unfolding stream_of no_such_stream if
returns c = rw (past_31 _ _ c.is_sound.ensures c.if-not-is_sound.false, c.if-stream-session.false)

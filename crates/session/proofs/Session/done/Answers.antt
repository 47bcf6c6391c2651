-- `Session::done` refuses by 31, 11, 12 and 14 and charges the stream that was served: each way out cites its verdict.
use mathlib.Core.Bool.{true, false}
use mathlib.Core.Path.{◌≡◌, sym, ◌∙◌}
use Prim.Native.Nat.{◌+◌, ◌-◌}
use lib.Dec.{ltb}
use Rattle.table.specs.Refusal.{outside}
use Rattle.time.specs.Time.{session_end, duration_max}
use Rattle.session.specs.Session.{sound}
use Rattle.session.specs.Calls.{finish, verdict}
use Rattle.calls.specs.declared.Call.{Call}
use Rattle.stream.proofs.Fits.{duration_within}
use Rattle.session.proofs.Dues.{by_31, past_31}
use Rattle.session.proofs.Answers.{answers, unsound_verdict, done_idle, done_outside, done_ends, done_charges}
use Rattle.session.proofs.Sound.{sound_of}
use Rattle.session.proofs.Session.done.Goals as goal
use Rattle.session.proofs.Session.done.Goals.{Else-not-is_sound, Else-duration, After-is_past_end, Else-is_past_end}

pub returns-then-not-is_sound : goal.returns-then-not-is_sound
returns-then-not-is_sound c = answers _ _ c.refuse.ensures (unsound_verdict _ _ (by_31 _ _ c.is_sound.ensures c.if-not-is_sound.true))

-- past 31 the session is sound
ok : (c : Else-not-is_sound) → sound c.args.self ≡ true
ok c = past_31 _ _ c.is_sound.ensures c.if-not-is_sound.false

pub returns-then-self-eq0 : goal.returns-then-self-eq0
returns-then-self-eq0 c =
    answers _ _ c.refuse-then-self-eq0.ensures (done_idle _ _ (ok (goal.at.returns-then-self-eq0 c).Else-not-is_sound) c.if-self-eq0.true)

pub returns-then-duration : goal.returns-then-duration
unfolding outside
returns-then-duration c =
    answers _ _ c.refuse-then-duration.ensures (done_outside _ _ (ok (goal.at.returns-then-duration c).Else-not-is_sound) c.if-self-eq0.false c.if-duration.true)

-- past 12 the duration is in its range
in_range : (c : Else-duration) → outside 1 duration_max c.args.duration ≡ false
unfolding outside
in_range c = c.if-duration.false

pub after-end-requires : goal.after-end-requires
after-end-requires c =
    let at = goal.at.after-end-requires c in
    ((sound_of _ (ok at.Else-not-is_sound)).fit.clock_high, duration_within _ _ (in_range at.Else-duration) c.of-taken.ensures)

-- what is tested is the end of the request
past : (c : After-is_past_end) → c.is_past_end.result ≡ ltb session_end (c.args.self.clock.0 + c.args.duration)
past c = rw (c.is_past_end.ensures, c.after-end.ensures, c.of-taken.ensures)

pub returns-then-is_past_end : goal.returns-then-is_past_end
returns-then-is_past_end c =
    let at = goal.at.returns-then-is_past_end c in
    answers _ _ c.refuse-then-is_past_end.ensures
    (done_ends _ _ (ok at.Else-not-is_sound) c.if-self-eq0.false (in_range at.Else-duration) (sym (past at.After-is_past_end) ∙ c.if-is_past_end.true))

-- past 14 the stream is charged
charges : (c : Else-is_past_end) → verdict c.args.self (Call.Done c.args.duration) ≡ finish (c.args.self.served - 1) c.of-taken.result.0
unfolding outside
charges c =
    let fits : c.is_past_end.result ≡ ltb session_end (c.args.self.clock.0 + c.args.duration) = rw (c.is_past_end.ensures, c.after-end.ensures, c.of-taken.ensures) in
    rw c.of-taken.ensures (done_charges _ _ (past_31 _ _ c.is_sound.ensures c.if-not-is_sound.false) c.if-self-eq0.false c.if-duration.false (sym fits ∙ c.if-is_past_end.false))

pub finish-requires : goal.finish-requires
finish-requires c =
    let at = goal.at.finish-requires c in
    record { ok = ok at.Else-not-is_sound; call = _; is = charges at.Else-is_past_end }

pub returns : goal.returns
returns c = answers _ _ c.finish.ensures (charges (goal.at.returns c).Else-is_past_end)

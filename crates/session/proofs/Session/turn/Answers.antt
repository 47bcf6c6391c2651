-- `Session::turn` refuses by 31 and 10, and then takes the first of a, b, c and d that applies: each way out cites its verdict.
use mathlib.Core.Bool.{true}
use mathlib.Core.Path.{◌≡◌, sym, ◌∙◌}
use Rattle.session.specs.Session.{sound}
use Rattle.session.proofs.Dues.{by_31, past_31}
use Rattle.session.proofs.Answers.{Idle, Unfilled, answers, unsound_verdict, turn_busy, turn_sends, turn_unfilled, turn_ends, turn_moves, turn_waits, turn_expires}
use lib.Dec.{ltb}
use borrow.Author.Rules.{rules}
use Rattle.session.proofs.Session.turn.Goals as goal
use Rattle.session.proofs.Session.turn.Goals.{Else-self-ne0, After-survey-seen, After-lt}

pub returns-then-not-is_sound : goal.returns-then-not-is_sound
returns-then-not-is_sound c = answers _ _ c.refuse.ensures (unsound_verdict _ _ (by_31 _ _ c.is_sound.ensures c.if-not-is_sound.true))

pub returns-then-self-ne0 : goal.returns-then-self-ne0
returns-then-self-ne0 c =
    let ok : sound c.args.self ≡ true = past_31 _ _ c.is_sound.ensures c.if-not-is_sound.false in
    answers _ _ c.refuse-then-self-ne0.ensures (turn_busy _ ok c.if-self-ne0.true)

-- past 31 and 10
idle : (c : Else-self-ne0) → Idle c.args.self
idle c = record { ok = past_31 _ _ c.is_sound.ensures c.if-not-is_sound.false; rests = c.if-self-ne0.false }

-- a. some slot is filled
pub send-requires : goal.send-requires
send-requires c =
    let i = idle (goal.at.send-requires c).Else-self-ne0 in
    record { ok = i.ok; call = _; is = turn_sends i _ (sym c.pick.ensures ∙ c.in-Some.is) }

pub returns-in-Some : goal.returns-in-Some
returns-in-Some c =
    let i = idle (goal.at.returns-in-Some c).Else-self-ne0 in
    answers _ _ c.send.ensures (turn_sends i _ (sym c.pick.ensures ∙ c.in-Some.is))

unfilled : (c : After-survey-seen) → Unfilled c.args.self c.survey-seen.result
unfilled c =
    let i : Idle c.args.self = record { ok = past_31 _ _ c.is_sound.ensures c.if-not-is_sound.false; rests = c.if-self-ne0.false } in
    record { idle = i; none = turn_unfilled i (sym c.pick.ensures ∙ c.in_default.is); seen = c.survey-seen.ensures }

pub returns-then-seen : goal.returns-then-seen
returns-then-seen c =
    answers _ _ c.refuse-then-seen.ensures (turn_ends (unfilled (goal.at.returns-then-seen c).After-survey-seen) c.in_default-expiring.is c.if-seen.true)

pub move_on-requires : goal.move_on-requires
move_on-requires c =
    let u = unfilled (goal.at.move_on-requires c).After-survey-seen in
    record { ok = u.idle.ok; call = _; is = turn_moves u c.in_default-expiring.is c.if-seen.false }

pub returns-in_default-expiring : goal.returns-in_default-expiring
returns-in_default-expiring c =
    answers _ _ c.move_on.ensures (turn_moves (unfilled (goal.at.returns-in_default-expiring c).After-survey-seen) c.in_default-expiring.is c.if-seen.false)

early : (c : After-lt) → c.lt.result ≡ ltb c.args.self.clock.0 c.latest-until.result.0
early c = search rules

pub returns-then-lt : goal.returns-then-lt
returns-then-lt c =
    let at = goal.at.returns-then-lt c in
    answers _ _ c.wait.ensures (turn_waits (unfilled at.After-survey-seen) _ c.in-Some-expiring.is _ c.latest-until.ensures (early at.After-lt) c.if-lt.true)

pub expire-requires : goal.expire-requires
expire-requires c =
    let at = goal.at.expire-requires c in
    let u = unfilled at.After-survey-seen in
    record { ok = u.idle.ok; call = _; is = turn_expires u _ c.in-Some-expiring.is _ c.latest-until.ensures (early at.After-lt) c.if-lt.false }

pub returns : goal.returns
returns c =
    let at = goal.at.returns c in
    answers _ _ c.expire.ensures (turn_expires (unfilled at.After-survey-seen) _ c.in-Some-expiring.is _ c.latest-until.ensures (early at.After-lt) c.if-lt.false)

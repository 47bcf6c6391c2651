-- `Session::clock` refuses by 31, 10, 13 and 14 and sets the clock: each way out cites its verdict.
use mathlib.Core.Bool.{true}
use mathlib.Core.Path.{◌≡◌, sym, ◌∙◌}
use lib.Dec.{ltb}
use Rattle.time.specs.Time.{session_end}
use Rattle.session.specs.Session.{sound}
use Rattle.session.specs.Calls.{set_clock, verdict}
use Rattle.calls.specs.declared.Call.{Call}
use Rattle.session.proofs.Dues.{by_31, past_31}
use Rattle.session.proofs.Answers.{answers, unsound_verdict, clock_busy, clock_back, clock_ends, clock_sets}
use borrow.Author.Rules.{rules}
use Rattle.session.proofs.Session.clock.Goals as goal
use Rattle.session.proofs.Session.clock.Goals.{Else-not-is_sound, After-lt, After-is_past_end}

pub returns-then-not-is_sound : goal.returns-then-not-is_sound
returns-then-not-is_sound c = answers _ _ c.refuse.ensures (unsound_verdict _ _ (by_31 _ _ c.is_sound.ensures c.if-not-is_sound.true))

-- past 31 the session is sound
ok : (c : Else-not-is_sound) → sound c.args.self ≡ true
ok c = past_31 _ _ c.is_sound.ensures c.if-not-is_sound.false

pub returns-then-self-ne0 : goal.returns-then-self-ne0
returns-then-self-ne0 c =
    answers _ _ c.refuse-then-self-ne0.ensures (clock_busy _ _ (ok (goal.at.returns-then-self-ne0 c).Else-not-is_sound) c.if-self-ne0.true)

-- the time is before the clock, by the test
behind : (c : After-lt) → c.lt.result ≡ ltb c.args.time c.args.self.clock.0
behind c = let is : c.lt.result ≡ ltb c.at-now.result.0 c.args.self.clock.0 = search rules in rw (is, c.at-now.ensures)

pub returns-then-lt : goal.returns-then-lt
returns-then-lt c =
    let at = goal.at.returns-then-lt c in
    answers _ _ c.refuse-then-lt.ensures (clock_back _ _ (ok at.Else-not-is_sound) c.if-self-ne0.false (sym (behind at.After-lt) ∙ c.if-lt.true))

-- and past the end, by the other
past : (c : After-is_past_end) → c.is_past_end.result ≡ ltb session_end c.args.time
past c = rw (c.is_past_end.ensures, c.at-now.ensures)

pub returns-then-is_past_end : goal.returns-then-is_past_end
returns-then-is_past_end c =
    let at = goal.at.returns-then-is_past_end c in
    answers _ _ c.refuse-then-is_past_end.ensures
    (clock_ends _ _ (ok at.Else-not-is_sound) c.if-self-ne0.false (sym (behind at.After-lt) ∙ c.if-lt.false) (sym (past at.After-is_past_end) ∙ c.if-is_past_end.true))

pub returns : goal.returns
returns c =
    let at = goal.at.returns c in
    let sets : verdict c.args.self (Call.Clock c.args.time) ≡ set_clock c.at-now.result.0 =
    rw c.at-now.ensures
    (clock_sets _ _ (ok at.Else-not-is_sound) c.if-self-ne0.false (sym (behind at.After-lt) ∙ c.if-lt.false) (sym (past at.After-is_past_end) ∙ c.if-is_past_end.false)) in
    answers _ _ c.set_clock.ensures sets

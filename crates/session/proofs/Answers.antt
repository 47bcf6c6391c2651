-- What a call is answered: 31 for a session that is not sound, else the first refusal, else what the call comes to.
use mathlib.Core.Bool.{Bool, true, false, not, ◌&&◌}
use mathlib.Core.Path.{◌≡◌, refl, sym, ◌∙◌, ap}
use Prim.Native.Nat.{ℕ, suc, ◌+◌, ◌-◌, ◌≤◌, ◌<◌}
use native.Mathlib.Omega.{arith}
use lib.Dec.{leb, ltb, eqb}
use borrow.Author.Tests.{eqb-true, eq-eqb, ne_eqb, lt-ltb, le-ltb, not-true, not-false}
use Rattle.table.specs.Fold.{if}
use Rattle.table.specs.Refusal.{given, ◌or_next◌, outside}
use Rattle.table.proofs.Folds.{all_at}
use Rattle.time.specs.Time.{session_end, duration_max, moment}
use Rattle.stream.specs.Stream.{queue_max, filled}
use Rattle.session.specs.Session.{stream_at, slots_at, filled_at, some_filled, no_slot, latest, sound}
use Rattle.stream.specs.Choice.{first_best}
use Rattle.session.specs.Choice.{sent_before, expiring}
use Rattle.session.specs.Calls.{Verdict, refuse, append, send, move, wait, expire, finish, set_clock, no_such_stream, busy, move_passes_end, call_refusal, refusal, turn_effect, effect, ruled, verdict, apply, outcome, answer_to}
use Rattle.session.specs.Inner.{pick_of, survey_of}
use Rattle.session.proofs.Options.{some_if, none_if}
use Rattle.stream.specs.declared.choice.Pick.{Pick}
use Rattle.std.proofs.Common.{Some, None}
use Rattle.session.specs.Laws.{PresentTimeChangesNothing}
use Rattle.time.specs.declared.Clock.{Clock}
use Rattle.session.specs.declared.Session.{Session}
use Rattle.calls.specs.declared.Call.{Call}
use Rattle.session.specs.declared.Answer.{Answer}
use Rattle.session.specs.declared.searches.Survey.{Survey}
use Rattle.session.proofs.Sound.{Sound, admits, bounded}
use Rattle.stream.proofs.Best.{best_positive}
use Rattle.session.proofs.Grounds.{Grounds, ruled_by}

module _ (s : Session) (k : Call) where
  pub unsound_verdict : sound s ≡ false → verdict s k ≡ refuse 31
  unfolding verdict refusal given ◌or_next◌ ruled
  unsound_verdict e = rw e

  -- what the verdict comes to is what the call is answered
  pub answers : {v : Verdict} {r : Answer} → r ≡ outcome s v → verdict s k ≡ v → r ≡ answer_to s k
  unfolding answer_to
  answers e is = e ∙ ap (outcome s) (sym is)

  module _ (ok : sound s ≡ true) where
    pub refused : (n : ℕ) → call_refusal s k ≡ suc n → verdict s k ≡ refuse (suc n)
    unfolding verdict refusal given ◌or_next◌ ruled
    refused n e = rw (ok, e)

    pub accepted : call_refusal s k ≡ 0 → verdict s k ≡ effect s k
    unfolding verdict refusal given ◌or_next◌ ruled
    accepted e = rw (ok, e)

-- a stream with a filled slot has a slot
pub filled_has_slot : (s : Session) → some_filled s ≡ true → no_slot s ≡ false
unfolding some_filled no_slot filled
filled_has_slot s some = go (no_slot s) refl
  where
    best : (first_best (λ i. leb 1 (filled_at s i)) (sent_before s) s.count < s.count) × (1 ≤ filled_at s (first_best (λ i. leb 1 (filled_at s i)) (sent_before s) s.count))
    best = best_positive (filled_at s) (sent_before s) s.count some

    go : (b : Bool) → no_slot s ≡ b → no_slot s ≡ false
    go true e =
        let i = first_best (λ i. leb 1 (filled_at s i)) (sent_before s) s.count in
        let none : slots_at s i ≡ 0 = eqb-true (slots_at s i) 0 (all_at (λ i. eqb (slots_at s i) 0) s.count e i best.0) in
        absurd (omega (arith, best.1))
    go false e = e

-- a request of the set is in the arrays' ranges
pub sendable : (s : Session) → Sound s → (i j : ℕ) → Grounds s (send i j) → (i < 8) × (j < 16) × (1 ≤ (stream_at s i).queued)
unfolding filled
sendable s q i j g =
    let high = (bounded s q i g.exists).queued_high in
    (omega (arith, g.exists, (admits s q).numbers.count_high), omega (arith, g.in_set), omega (arith, g.in_set))

pub turn_busy : (s : Session) → sound s ≡ true → (s.served ≡ 0 → ⊥) → verdict s Call.Turn ≡ refuse 10
unfolding call_refusal given ◌or_next◌ busy
turn_busy s ok some = refused s Call.Turn ok 9 (rw (ne_eqb _ _ some))

-- a turn past 31 and 10: the session is sound, and nothing is at the disk
pub record Idle (s : Session) : Type 0 where
  pub ok : sound s ≡ true
  pub rests : s.served ≡ 0

-- and past a.: no slot is filled, and v is what was surveyed
pub record Unfilled (s : Session) (v : Survey) : Type 0 where
  pub idle : Idle s
  pub none : some_filled s ≡ false
  pub seen : v ≡ survey_of s

-- what a turn of an idle disk is answered, case by case; only 14 can refuse it
module _ {s : Session} (idle : Idle s) where
  unrefused : (no_slot s && move_passes_end s) ≡ false → verdict s Call.Turn ≡ turn_effect s
  unfolding call_refusal given ◌or_next◌ busy effect
  unrefused e = accepted s Call.Turn idle.ok (rw (eq-eqb _ _ idle.rests, e))

  -- a. some slot is filled
  pub turn_sends : (pick : Pick) → pick_of s ≡ Some pick → verdict s Call.Turn ≡ send pick.stream pick.index
  unfolding turn_effect if
  turn_sends pick e =
      let found = some_if (some_filled s) e in
      unrefused (rw (filled_has_slot s found.0)) ∙ rw (found.0, ← found.1)

  pub turn_unfilled : pick_of s ≡ None → some_filled s ≡ false
  turn_unfilled e = none_if (some_filled s) _ e

module _ {s : Session} {v : Survey} (u : Unfilled s v) where
  -- b. no stream has a slot
  module _ (over : v.expiring ≡ None) where
    none_has : no_slot s ≡ true
    none_has = not-false (no_slot s) (none_if (not (no_slot s)) _ (rw u.seen at over))

    pub turn_ends : v.beyond ≡ true → verdict s Call.Turn ≡ refuse 14
    unfolding call_refusal given ◌or_next◌ busy
    turn_ends past = refused s Call.Turn u.idle.ok 13 (rw (eq-eqb _ _ u.idle.rests, none_has, rw u.seen at past))

    pub turn_moves : v.beyond ≡ false → verdict s Call.Turn ≡ move
    unfolding turn_effect if
    turn_moves fits = unrefused u.idle (rw (none_has, rw u.seen at fits)) ∙ rw (u.none, none_has)

  -- c. and d. only empty slots
  module _ (n : ℕ) (left : v.expiring ≡ Some n) where
    first : (not (no_slot s) ≡ true) × (expiring s ≡ n)
    first = some_if (not (no_slot s)) (rw u.seen at left)

    some_has : no_slot s ≡ false
    some_has = not-true (no_slot s) first.0

    module _ {early : Bool} (until : Clock) (until-is : until ≡ moment (latest s)) (early-is : early ≡ ltb s.clock.0 until.0) where
      pub turn_waits : early ≡ true → verdict s Call.Turn ≡ wait
      unfolding turn_effect if
      turn_waits yet = unrefused u.idle (rw some_has) ∙ rw (u.none, some_has, rw (early-is, until-is) at yet)

      pub turn_expires : early ≡ false → verdict s Call.Turn ≡ expire n
      unfolding turn_effect if
      turn_expires due = unrefused u.idle (rw some_has) ∙ rw (u.none, some_has, rw (early-is, until-is) at due, first.1)

-- what an arrival is answered, case by case
module _ (s : Session) (n place tag : ℕ) (ok : sound s ≡ true) where
  pub arrival_nowhere : no_such_stream s n ≡ true → verdict s (Call.Arrival n place tag) ≡ refuse 8
  unfolding call_refusal given ◌or_next◌
  arrival_nowhere none = refused s (Call.Arrival n place tag) ok 7 (rw none)

  module _ (own : no_such_stream s n ≡ false) where
    pub arrival_full : (stream_at s (n - 1)).queued ≡ queue_max → verdict s (Call.Arrival n place tag) ≡ refuse 9
    unfolding call_refusal given ◌or_next◌
    arrival_full full = refused s (Call.Arrival n place tag) ok 8 (rw (own, eq-eqb _ _ full))

    pub arrival_joins : ((stream_at s (n - 1)).queued ≡ queue_max → ⊥) → verdict s (Call.Arrival n place tag) ≡ append (n - 1) place tag
    unfolding call_refusal given ◌or_next◌ effect
    arrival_joins space = accepted s (Call.Arrival n place tag) ok (rw (own, ne_eqb _ _ space))

-- what an own turn is answered, case by case
module _ (s : Session) (n j : ℕ) (ok : sound s ≡ true) where
  pub own_busy : (s.served ≡ 0 → ⊥) → verdict s (Call.OwnTurn n j) ≡ refuse 10
  unfolding call_refusal given ◌or_next◌ busy
  own_busy some = refused s (Call.OwnTurn n j) ok 9 (rw (ne_eqb _ _ some))

  module _ (idle : s.served ≡ 0) where
    pub own_nowhere : no_such_stream s n ≡ true → verdict s (Call.OwnTurn n j) ≡ refuse 8
    unfolding call_refusal given ◌or_next◌ busy
    own_nowhere none = refused s (Call.OwnTurn n j) ok 7 (rw (eq-eqb _ _ idle, none))

    module _ (own : no_such_stream s n ≡ false) where
      pub own_outside : filled_at s (n - 1) ≤ j → verdict s (Call.OwnTurn n j) ≡ refuse 15
      unfolding call_refusal given ◌or_next◌ busy
      own_outside past = refused s (Call.OwnTurn n j) ok 14 (rw (eq-eqb _ _ idle, own, le-ltb _ _ past))

      pub own_sends : j < filled_at s (n - 1) → verdict s (Call.OwnTurn n j) ≡ send (n - 1) j
      unfolding call_refusal given ◌or_next◌ busy effect
      own_sends in-set = accepted s (Call.OwnTurn n j) ok (rw (eq-eqb _ _ idle, own, lt-ltb _ _ in-set))

-- what a completion is answered, case by case
module _ (s : Session) (a : ℕ) (ok : sound s ≡ true) where
  pub done_idle : s.served ≡ 0 → verdict s (Call.Done a) ≡ refuse 11
  unfolding call_refusal given ◌or_next◌ busy
  done_idle idle = refused s (Call.Done a) ok 10 (rw (eq-eqb _ _ idle))

  module _ (at_disk : s.served ≡ 0 → ⊥) where
    pub done_outside : outside 1 duration_max a ≡ true → verdict s (Call.Done a) ≡ refuse 12
    unfolding call_refusal given ◌or_next◌ busy
    done_outside out = refused s (Call.Done a) ok 11 (rw (ne_eqb _ _ at_disk, out))

    module _ (in-range : outside 1 duration_max a ≡ false) where
      pub done_ends : ltb session_end (s.clock.0 + a) ≡ true → verdict s (Call.Done a) ≡ refuse 14
      unfolding call_refusal given ◌or_next◌ busy
      done_ends past = refused s (Call.Done a) ok 13 (rw (ne_eqb _ _ at_disk, in-range, past))

      pub done_charges : ltb session_end (s.clock.0 + a) ≡ false → verdict s (Call.Done a) ≡ finish (s.served - 1) a
      unfolding call_refusal given ◌or_next◌ busy effect
      done_charges within = accepted s (Call.Done a) ok (rw (ne_eqb _ _ at_disk, in-range, within))

-- what a report of the time is answered, case by case
module _ (s : Session) (t : ℕ) (ok : sound s ≡ true) where
  pub clock_busy : (s.served ≡ 0 → ⊥) → verdict s (Call.Clock t) ≡ refuse 10
  unfolding call_refusal given ◌or_next◌ busy
  clock_busy some = refused s (Call.Clock t) ok 9 (rw (ne_eqb _ _ some))

  module _ (idle : s.served ≡ 0) where
    pub clock_back : ltb t s.clock.0 ≡ true → verdict s (Call.Clock t) ≡ refuse 13
    unfolding call_refusal given ◌or_next◌ busy
    clock_back back = refused s (Call.Clock t) ok 12 (rw (eq-eqb _ _ idle, back))

    module _ (onward : ltb t s.clock.0 ≡ false) where
      pub clock_ends : ltb session_end t ≡ true → verdict s (Call.Clock t) ≡ refuse 14
      unfolding call_refusal given ◌or_next◌ busy
      clock_ends past = refused s (Call.Clock t) ok 13 (rw (eq-eqb _ _ idle, onward, past))

      pub clock_sets : ltb session_end t ≡ false → verdict s (Call.Clock t) ≡ set_clock t
      unfolding call_refusal given ◌or_next◌ busy effect
      clock_sets within = accepted s (Call.Clock t) ok (rw (eq-eqb _ _ idle, onward, within))

pub present_time_changes_nothing : PresentTimeChangesNothing
unfolding answer_to verdict effect apply
present_time_changes_nothing s =
    ruled_by (λ v. apply s v ≡ s) (refusal s (Call.Clock s.clock.0)) (set_clock s.clock.0) refl (λ z. refl)

-- The promise: any calls of a session that was opened keep what is told of it, and within bounds are in time.
use mathlib.Core.Bool.{Bool, true, false, not, false≢true}
use mathlib.Core.List.{List, [], ◌∷◌, ◌++◌}
use mathlib.Core.Path.{◌≡◌, refl, sym, ◌∙◌, ap, subst}
use Prim.Native.Nat.{ℕ, ◌+◌, ◌*◌, ◌≤◌, ◌<◌}
use native.Mathlib.Nat.{mul-le-mul_left}
use native.Mathlib.Omega.{arith}
use lib.Dec.{leb, eqb}
use borrow.Author.Tests.{eqb-true, eq-eqb, ne_eqb, leb-false, ltb-false}
use Rattle.table.specs.Fold.{if}
use Rattle.table.specs.declared.Table.{Table}
use Rattle.table.proofs.Tests.{both}
use Rattle.table.proofs.Folds.{all_at, some_none}
use Rattle.time.specs.Time.{moment, disk_time}
use Rattle.stream.specs.Stream.{filled, closed, moved, fresh_stream}
use Rattle.stream.specs.Laws.{CarriedOn}
use Rattle.session.specs.Session.{stream_at, horizon, slots_at, filled_at, some_filled, no_slot}
use Rattle.session.specs.Calls.{Verdict, refuse, append, send, move, wait, expire, finish, set_clock, verdict, apply, overlong, reply_to, outcome, answer_to, after}
use Rattle.session.specs.Opening.{NewlyOpened}
use Rattle.session.specs.History.{Moment, history_from, history_of, in_bounds, within_bounds, never, replied, closes, closings, due_of, since_closing, duration_of, reported, expires, expiry, added_of, budget_of, start_of, charge_of}
use Rattle.session.specs.Laws.{NumbersAreKept}
use Rattle.session.specs.Promise.{completion, ClosedTruly, ClosedOnTime, Always, OnTime, Promise}
use Rattle.time.specs.declared.Clock.{Clock}
use Rattle.stream.specs.declared.Stream.{Stream}
use Rattle.stream.proofs.Carried.{closed_is_carried_on}
use Rattle.session.specs.declared.Session.{Session}
use Rattle.calls.specs.declared.Call.{Call}
use Rattle.calls.specs.declared.Reply.{Reply}
use Rattle.session.proofs.Sound.{Sound, of_sound, bounded}
use Rattle.session.proofs.Grounds.{Grounds, verdict_grounds}
use Rattle.session.proofs.Keeps.{effect_kept}
use Rattle.session.proofs.MoveKept.{moved_at}
use Rattle.session.proofs.Openings.{begun, never_unsound}
use Rattle.session.proofs.Halves.{rate, used, Room, InTime, rates_high, due_most, due_least, clock_not_past}
use Rattle.session.proofs.Reasons.{Reasons, verdict_reasons, done_or_overlong, clock_or_late}
use Rattle.session.proofs.Within.{within_never, effect_room, effect_time}
use Rattle.session.proofs.Histories.{Follows, told, Holds, holds_on}

-- a call that comes to a verdict
abbrev pub moment_of : Session → Call → Verdict → Moment
moment_of s k v = record { before = s; call = k; answer = outcome s v }

-- a session that holds what its history tells
pub record Kept (t : Table) (s : Session) (past : List Moment) : Type 0 where
  pub worst_is : s.worst ≡ t.worst
  pub span_is : s.span ≡ t.span
  pub padding_is : s.padding ≡ t.padding
  pub count_is : s.count ≡ t.count
  pub cells : (i : ℕ) → i < t.count → Holds t i past (stream_at s i)
  pub orderly : Sound s
  pub room : never 26 past ≡ true → Room s
  pub time : never 28 past ≡ true → InTime s s.clock.0

-- what is promised of one moment, and of each of a history; and besides, that while no completion ran over a job is charged at most its budget, how the next job follows it, and that within bounds what is reported of a completion is at most W
pub record Lawful (t : Table) (m : Moment) (earlier : List Moment) : Type 0 where
  pub closing : (i : ℕ) → i < t.count → closes i m ≡ true → ClosedTruly t i m earlier × (within_bounds earlier ≡ true → ClosedOnTime t i m earlier)
  pub sparing : (i : ℕ) → i < t.count → closes i m ≡ true → never 26 earlier ≡ true → (stream_at m.before i).charge.0 ≤ budget_of t i
  pub handing : (i : ℕ) → i < t.count → closes i m ≡ true → CarriedOn (budget_of t i) (stream_at m.before i) (stream_at m.answer.session i)
  pub losing : (i : ℕ) → expires i m ≡ true → (stream_at m.before i).queued ≡ 0
  pub short : in_bounds m.answer.reply ≡ true → (i : ℕ) → reported i m ≤ t.worst * completion i m

abbrev pub AllLawful : Table → List Moment → Type 0
AllLawful t [] = Unit {0}
AllLawful t (m ∷ earlier) = Lawful t m earlier × AllLawful t earlier

-- a duration of at most W is reported once or not at all
at_most_once : (b : Bool) (a worst : ℕ) → a ≤ worst → if b a 0 ≤ worst * if b 1 0
unfolding if
at_most_once true a worst le = omega arith
at_most_once false a worst le = omega arith

-- no call changes the table's numbers
pub table_same : (s : Session) (v : Verdict) → ((apply s v).worst ≡ s.worst) × ((apply s v).span ≡ s.span) × ((apply s v).padding ≡ s.padding) × ((apply s v).count ≡ s.count)
unfolding apply
table_same s (refuse n) = (refl, refl, refl, refl)
table_same s (append i place tag) = (refl, refl, refl, refl)
table_same s (send i j) = (refl, refl, refl, refl)
table_same s move = (refl, refl, refl, refl)
table_same s wait = (refl, refl, refl, refl)
table_same s (expire i) = (refl, refl, refl, refl)
table_same s (finish i a) = (refl, refl, refl, refl)
table_same s (set_clock t) = (refl, refl, refl, refl)

-- what the record of a job says as it closes
record_written : (now : Clock) (x : Stream)
    → (closed now x).last ≡ record { charge = x.charge; closed = now; deadline = x.deadline; expired = x.expired; start = x.start }
unfolding closed
record_written now x = refl

module _ (t : Table) (s : Session) (past : List Moment) (kept : Kept t s past) where
  -- a stream that is due at the horizon is the closed one after a move
  closed_at : (i : ℕ) → (stream_at s i).deadline.0 ≡ horizon s → stream_at (apply s move) i ≡ closed s.clock (stream_at s i)
  unfolding apply moved if
  closed_at i due =
      let x = stream_at s i in
      moved_at s kept.orderly i ∙ ap (λ (b : Bool). if b (closed s.clock x) x) (eq-eqb x.deadline.0 (horizon s) due)

  -- a move closes a job as told
  closed_truly : (k : Call) (i : ℕ) → i < t.count → (stream_at s i).deadline.0 ≡ horizon s → ClosedTruly t i (moment_of s k move) past
  closed_truly k i l due =
      let held = kept.cells i l in
      record {
        due = held.deadline_is;
        made_of = held.charge_is;
        recorded =
            ap (λ (y : Stream). y.last) (closed_at i due)
            ∙ record_written s.clock (stream_at s i)
            ∙ λ j. record {
              charge = disk_time (held.charge_is j);
              closed = s.clock;
              deadline = moment (held.deadline_is j);
              expired = held.expired_is j;
              start = disk_time (held.start_is j);
            };
      }

  -- and hands on what is above its budget
  carried_on : (i : ℕ) → i < t.count → (stream_at s i).deadline.0 ≡ horizon s → CarriedOn (budget_of t i) (stream_at s i) (stream_at (apply s move) i)
  carried_on i l due =
      subst (CarriedOn (budget_of t i) (stream_at s i)) (sym (closed_at i due))
      (subst (λ (g : ℕ). CarriedOn g (stream_at s i) (closed s.clock (stream_at s i))) (kept.cells i l).granted_is (closed_is_carried_on s.clock (stream_at s i)))

  -- while no completion ran over, with at most its budget
  closed_sparing : never 26 past ≡ true → (i : ℕ) → i < t.count → (stream_at s i).deadline.0 ≡ horizon s → (stream_at s i).charge.0 ≤ budget_of t i
  closed_sparing short i l due =
      let here : i < s.count = omega (arith, kept.count_is) in
      omega (arith, (kept.cells i l).granted_is, due_most s kept.orderly i here due (kept.room short))

  -- and within bounds, in time and with its budget
  closed_on_time : within_bounds past ≡ true → (k : Call) → no_slot s ≡ true → (i : ℕ) → i < t.count → (stream_at s i).deadline.0 ≡ horizon s
      → ClosedOnTime t i (moment_of s k move) past
  unfolding no_slot
  closed_on_time within k over i l due =
      let q = kept.orderly in
      let bounds = within_never past within in
      let here : i < s.count = omega (arith, kept.count_is) in
      let budget = (kept.cells i l).granted_is in
      let none = eqb-true (slots_at s i) 0 (all_at (λ j. eqb (slots_at s j) 0) s.count over i here) in
      record {
        in_time = rw due (clock_not_past s q s.clock.0 (kept.room bounds.0) (kept.time bounds.1));
        at_most = closed_sparing bounds.0 i l due;
        more_than = omega (arith, budget, kept.worst_is, due_least s q i here due none);
      }

  -- an expiry finds nothing queued
  nothing_queued : (i : ℕ) → Grounds s (expire i) → some_filled s ≡ false → (stream_at s i).queued ≡ 0
  unfolding some_filled filled
  nothing_queued i g none =
      let no-filled = leb-false 1 (filled_at s i) (some_none (λ j. leb 1 (filled_at s j)) s.count none i g.exists) in
      omega (arith, g.slot)

  -- a call goes on keeping all of it
  kept_on : (k : Call) → Kept t (apply s (verdict s k)) (moment_of s k (verdict s k) ∷ past)
  unfolding never
  kept_on k =
      let q = kept.orderly in
      let v = verdict s k in
      let m = moment_of s k v in
      let g = verdict_grounds s q k in
      let same = table_same s v in
      record {
        worst_is = same.0 ∙ kept.worst_is;
        span_is = same.1 ∙ kept.span_is;
        padding_is = same.2 ∙ kept.padding_is;
        count_is = same.3 ∙ kept.count_is;
        cells = λ i l.
            holds_on t i past m (stream_at s i) (stream_at (apply s v) i) (kept.cells i l)
            (subst (λ (worst : ℕ). Follows (closes i m) (reported i m) (expiry i m) worst (stream_at s i) (stream_at (apply s v) i))
            kept.worst_is (told s q k i v g (verdict_reasons s q k)));
        orderly = effect_kept s q v g;
        room = λ short. let parts = both (not (replied 26 m)) (never 26 past) short in effect_room s q (kept.room parts.1) v g parts.0;
        time = λ early. let parts = both (not (replied 28 m)) (never 28 past) early in effect_time s q (kept.time parts.1) v g parts.0;
      }

  -- and is as promised itself: one that closes no job and lets no slot expire
  neither_lawful : (m : Moment) → replied 22 m ≡ false → replied 23 m ≡ false
      → (in_bounds m.answer.reply ≡ true → (i : ℕ) → reported i m ≤ t.worst * completion i m) → Lawful t m past
  neither_lawful m not-22 not-23 short =
      record {
        closing = λ i l e. absurd (false≢true (sym not-23 ∙ (both _ _ e).0));
        sparing = λ i l e. absurd (false≢true (sym not-23 ∙ (both _ _ e).0));
        handing = λ i l e. absurd (false≢true (sym not-23 ∙ (both _ _ e).0));
        losing = λ i e. absurd (false≢true (sym not-22 ∙ (both _ _ e).0));
        short = short;
      }

  -- whatever it comes to, with whatever reply
  abbrev replied_lawful : Call → Verdict → Reply → Type 0
  replied_lawful k v r = Lawful t (record { before = s; call = k; answer = record { session = apply s v; reply = r } }) past

  lawful_on : (k : Call) (v : Verdict) → Grounds s v → Reasons s k v → Lawful t (moment_of s k v) past
  unfolding reply_to if overlong
  lawful_on k (refuse n) g low =
      neither_lawful _ (ne_eqb n 22 (λ e. omega arith)) (ne_eqb n 23 (λ e. omega arith))
      (λ is i. rw (ne_eqb n 25 (λ e. omega arith), ne_eqb n 26 (λ e. omega arith)) (omega arith))
  lawful_on k (append j place tag) g r = neither_lawful _ refl refl (λ is i. omega arith)
  lawful_on k (send j n) g r = neither_lawful _ refl refl (λ is i. omega arith)
  lawful_on k move g over =
      record {
        closing = λ i l e. let due = eqb-true _ _ e in (closed_truly k i l due, λ within. closed_on_time within k over i l due);
        sparing = λ i l e short. closed_sparing short i l (eqb-true _ _ e);
        handing = λ i l e. carried_on i l (eqb-true _ _ e);
        losing = λ i e. absurd (false≢true e);
        short = λ is i. omega arith;
      }
  lawful_on k wait g r = neither_lawful _ refl refl (λ is i. omega arith)
  lawful_on k (expire j) g none =
      record {
        closing = λ i l e. absurd (false≢true e);
        sparing = λ i l e. absurd (false≢true e);
        handing = λ i l e. absurd (false≢true e);
        losing = λ i e.
            let same : j ≡ i = omega (arith, eqb-true (j + 1) (i + 1) e) in
            subst (λ (n : ℕ). (stream_at s n).queued ≡ 0) same (nothing_queued j g none);
        short = λ is i. omega arith;
      }
  lawful_on k (finish j a) g lasted =
      done_or_overlong (replied_lawful k (finish j a)) s j a
      (λ over. neither_lawful _ refl refl (λ is i. absurd (false≢true is)))
      (λ short. neither_lawful _ refl refl
      (λ is i. at_most_once (eqb (j + 1) (i + 1)) (duration_of k) t.worst (omega (arith, kept.worst_is, lasted, ltb-false s.worst a short))))
  lawful_on k (set_clock n) g r =
      clock_or_late (replied_lawful k (set_clock n)) s n
      (λ after-l. neither_lawful _ refl refl (λ is i. omega arith)) (λ early. neither_lawful _ refl refl (λ is i. omega arith))

-- any calls
kept_after : (t : Table) (past : List Moment) (s : Session) (ks : List Call) → Kept t s past → AllLawful t past
    → Kept t (after s ks) (history_from past s ks) × AllLawful t (history_from past s ks)
unfolding history_from after answer_to
kept_after t past s [] kept lawful = (kept, lawful)
kept_after t past s (k ∷ ks) kept lawful =
    let v = verdict s k in
    let q = kept.orderly in
    kept_after t (moment_of s k v ∷ past) (apply s v) ks (kept_on t s past kept k)
    (lawful_on t s past kept k v (verdict_grounds s q k) (verdict_reasons s q k), lawful)

-- a new session has used nothing, and its clock stands at 0
opened_kept : (t : Table) (s : Session) → NewlyOpened t s → Kept t s []
unfolding fresh_stream charge_of added_of start_of since_closing due_of closings
opened_kept t s new =
    let b = begun t s new in
    let q = b.orderly in
    record {
      worst_is = b.worst_is;
      span_is = b.span_is;
      padding_is = b.padding_is;
      count_is = b.count_is;
      cells = λ i l.
          subst (Holds t i []) (sym (b.each i l))
          (record { granted_is = refl; period_is = refl; charge_is = omega arith; start_is = refl; expired_is = refl; deadline_is = omega arith });
      orderly = q;
      room = λ short i l.
          subst (λ (x : Stream). used s.span x ≤ horizon s * rate s.span x) (sym (b.each i (omega (arith, b.count_is)))) (omega arith);
      time = λ early. subst (InTime s) (sym b.clock_is) (omega (arith, mul-le-mul_left (horizon s) (rates_high s q)));
    }

-- what a history keeps when its newest call is left out, it has before any of its calls
pub part : (P : List Moment → Type 0) → ((m : Moment) (past : List Moment) → P (m ∷ past) → P past)
    → (later past : List Moment) → P (later ++ past) → P past
part P drop [] past p = p
part P drop (m ∷ later) past p = part P drop later past (drop m (later ++ past) p)

module _ (t : Table) (s : Session) (calls : List Call) (new : NewlyOpened t s) where
  abbrev now : Session
  now = after s calls

  abbrev past : List Moment
  past = history_of s calls

  run : Kept t now past × AllLawful t past
  run = kept_after t [] s calls (opened_kept t s new) tt

  pub all_lawful : AllLawful t past
  all_lawful = run.1

  -- each call of the run, with those before it
  pub lawful_from : (later : List Moment) (m : Moment) (earlier : List Moment) → later ++ (m ∷ earlier) ≡ past → AllLawful t (m ∷ earlier)
  lawful_from later m earlier e = part (AllLawful t) (λ n before lawful. lawful.1) later (m ∷ earlier) (subst (AllLawful t) (sym e) all_lawful)

  before : (P : List Moment → Type 0) → ((m : Moment) (past : List Moment) → P (m ∷ past) → P past)
      → (later : List Moment) (m : Moment) (earlier : List Moment) → later ++ (m ∷ earlier) ≡ past → P past → P earlier
  before P drop later m earlier e p = drop m earlier (part P drop later (m ∷ earlier) (subst P (sym e) p))

  pub within_before : (later : List Moment) (m : Moment) (earlier : List Moment) → later ++ (m ∷ earlier) ≡ past → within_bounds past ≡ true
      → within_bounds earlier ≡ true
  unfolding within_bounds
  within_before =
      before (λ (l : List Moment). within_bounds l ≡ true) (λ m l within. (both (in_bounds m.answer.reply) (within_bounds l) within).1)

  pub never_before : (n : ℕ) (later : List Moment) (m : Moment) (earlier : List Moment) → later ++ (m ∷ earlier) ≡ past → never n past ≡ true
      → never n earlier ≡ true
  unfolding never
  never_before n = before (λ (l : List Moment). never n l ≡ true) (λ m l none. (both (not (replied n m)) (never n l) none).1)

  -- the charge of an open job is what the history says, and so is what it started with
  pub open_charge : (i : ℕ) → i < t.count → (stream_at now i).charge.0 ≡ charge_of t i past
  open_charge i l = (run.0.cells i l).charge_is

  pub open_start : (i : ℕ) → i < t.count → (stream_at now i).start.0 ≡ start_of t i past
  open_start i l = (run.0.cells i l).start_is

  always : Always t now past
  always =
      record {
        open_jobs = λ i l. (run.0.cells i l).deadline_is;
        closed_jobs = λ later m earlier e i l closing. ((lawful_from later m earlier e).0.closing i l closing).0;
        expired_slots = λ later m earlier e. (lawful_from later m earlier e).0.losing;
        is_sound = of_sound now run.0.orderly;
        never_31 = λ k. never_unsound t s calls k new;
      }

  on_time : within_bounds past ≡ true → OnTime t now past
  on_time within =
      let kept = run.0 in
      let q = kept.orderly in
      let bounds = within_never past within in
      record {
        open_jobs = λ i l.
            let here : i < now.count = omega (arith, kept.count_is) in
            omega (arith, (bounded now q i here).ahead, clock_not_past now q now.clock.0 (kept.room bounds.0) (kept.time bounds.1));
        closed_jobs = λ later m earlier e i l closing. ((lawful_from later m earlier e).0.closing i l closing).1 (within_before later m earlier e within);
      }

pub numbers_are_kept : NumbersAreKept
numbers_are_kept t s calls new =
    let kept = (run t s calls new).0 in
    (kept.worst_is, kept.span_is, kept.padding_is, kept.count_is)

pub promise : Promise
promise t s calls new = (always t s calls new, on_time t s calls new)

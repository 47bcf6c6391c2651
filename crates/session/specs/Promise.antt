-- The line on the card: what is promised of a newly opened session, always, and within the bounds that its premises set. The quotes are demand 3 of the order. The proof is `promise` of proofs/Promise.antt.
use Rattle.std.specs.Prelude.{◌≡◌, true, List, ◌∷◌, ◌++◌, ℕ, ◌+◌, ◌/◌, ◌≤◌, ◌<◌}
use Rattle.table.specs.Fold.{if}
use Rattle.table.specs.declared.Table.{Table}
use Rattle.time.specs.Time.{moment, disk_time}
use Rattle.session.specs.Session.{stream_at, sound}
use Rattle.calls.specs.Replies.{number_of}
use Rattle.session.specs.Calls.{answer_to, after}
use Rattle.session.specs.Opening.{NewlyOpened}
use Rattle.session.specs.History.{Moment, budget_of, charge_of, closes, completes, due_of, expires, expiry, history_of, since_closing, start_of, within_bounds}
use Rattle.session.specs.declared.Session.{Session}
use Rattle.calls.specs.declared.Call.{Call}

-- "Every closed job", and not only the last of its stream: that of stream i which the call m closed, after the earlier ones
abbrev pub EachClosed : Table → List Moment → (ℕ → Moment → List Moment → Type 0) → Type 0
EachClosed t past P =
    (later : List Moment) (m : Moment) (earlier : List Moment) → later ++ (m ∷ earlier) ≡ past
    → (i : ℕ) → i < t.count → closes i m ≡ true → P i m earlier

-- Of a closed job, always: its deadline is the one that its number gives. "The charge is the sum of the durations reported for that job, plus one such time for each of its expired slots", on top of what the job started with; within the bounds that is nothing (the law `NothingIsCarried`). The record that is written at the closing says the same, its expired count and its start included.
pub record ClosedTruly (t : Table) (i : ℕ) (m : Moment) (earlier : List Moment) : Type 0 where
  pub due : (stream_at m.before i).deadline.0 ≡ due_of t i earlier
  pub made_of : (stream_at m.before i).charge.0 ≡ charge_of t i earlier
  pub recorded : (stream_at m.answer.session i).last
      ≡ record {
        charge = disk_time (charge_of t i earlier);
        closed = m.before.clock;
        deadline = moment (due_of t i earlier);
        expired = since_closing expiry i earlier;
        start = disk_time (start_of t i earlier);
      }

-- Of a closed job, within the bounds: it "was closed by its deadline, with a charge at most its granted budget and more than that budget less one worst-case time."
pub record ClosedOnTime (t : Table) (i : ℕ) (m : Moment) (earlier : List Moment) : Type 0 where
  pub in_time : m.before.clock.0 ≤ (stream_at m.before i).deadline.0
  pub at_most : (stream_at m.before i).charge.0 ≤ budget_of t i
  pub more_than : budget_of t i < (stream_at m.before i).charge.0 + t.worst

-- What is promised always, of a session now and of each call of its history.
pub record Always (t : Table) (now : Session) (past : List Moment) : Type 0 where
  -- an open job's deadline is the one that its number gives
  pub open_jobs : (i : ℕ) → i < t.count → (stream_at now i).deadline.0 ≡ due_of t i past
  pub closed_jobs : EachClosed t past (ClosedTruly t)
  -- "A slot expires only while its own channel has nothing queued."
  pub expired_slots : (later : List Moment) (m : Moment) (earlier : List Moment) → later ++ (m ∷ earlier) ≡ past
      → (i : ℕ) → expires i m ≡ true → (stream_at m.before i).queued ≡ 0
  -- the session is sound, and so no call is answered 31
  pub is_sound : sound now ≡ true
  pub never_31 : (k : Call) → number_of (answer_to now k).reply ≡ 31 → ⊥

-- What is promised within the bounds.
pub record OnTime (t : Table) (now : Session) (past : List Moment) : Type 0 where
  -- "the clock is past no open job's deadline"
  pub open_jobs : (i : ℕ) → i < t.count → now.clock.0 ≤ (stream_at now i).deadline.0
  pub closed_jobs : EachClosed t past (ClosedOnTime t)

-- The promise, which is demand 3: of any session that is newly opened, with any table, and any calls, both.
abbrev pub Promise : Type 0
Promise =
    (t : Table) (s : Session) (calls : List Call) → NewlyOpened t s
    → let now = after s calls in
    let past = history_of s calls in
    Always t now past × (within_bounds past ≡ true → OnTime t now past)

-- What the card can print of requests, within the bounds: the completions and the expired slots of a closed job come to at least ⌊g / W⌋. A channel that always has a request waiting loses no slot, and so has at least that many requests served for each of its periods, by the end of it. The proof is `requests_served` of proofs/Served.antt.
abbrev pub completion : ℕ → Moment → ℕ
completion i m = if (completes i m) 1 0

abbrev pub RequestsServed : Type 0
RequestsServed =
    (t : Table) (s : Session) (calls : List Call) → NewlyOpened t s → within_bounds (history_of s calls) ≡ true
    → EachClosed t (history_of s calls)
    (λ i m earlier. budget_of t i / t.worst ≤ since_closing completion i earlier + since_closing expiry i earlier)

-- The promise is not empty: runs of which it says something, by computing.
use mathlib.Core.Bool.{true, false}
use mathlib.Core.Path.{◌≡◌, refl}
use mathlib.Core.List.{List, [], ◌∷◌, ◌++◌, map}
use Prim.Native.Nat.{ℕ, ◌+◌, ◌≤◌, ◌<◌}
use lib.Dec.{lit<, lit≤}
use Rattle.time.specs.Time.{moment, disk_time}
use Rattle.calls.specs.Replies.{number_of}
use Rattle.order.specs.declared.Order.TheVariants.{Nearest}
use Rattle.session.specs.Session.{stream_at}
use Rattle.session.specs.Calls.{answer_to, after}
use Rattle.session.specs.Opening.{opening_of, NewlyOpened}
use Rattle.session.specs.Cases.{padded, twins}
use Rattle.session.specs.History.{Moment, history_from, history_of, within_bounds, never, closes, closings, due_of, since_closing, expiry, added_of, start_of, charge_of}
use Rattle.session.specs.Promise.{completion, ClosedTruly, ClosedOnTime}
use Rattle.session.specs.declared.Session.{Session}
use Rattle.calls.specs.declared.Call.{Call}
use Rattle.calls.specs.declared.Call.TheVariants.{Arrival, Turn, OwnTurn, Done, Clock}
use Rattle.session.proofs.Rules.{rules}
use Rattle.session.proofs.Promise.{promise}
use Rattle.session.proofs.Carried.{overrun_is_carried, nothing_is_carried}
use Rattle.session.proofs.Served.{requests_served}

-- a session that is newly opened with two streams of one deadline
abbrev opened : Session
opened = (opening_of twins Nearest).session

new : NewlyOpened twins opened
unfolding rules padded
new = record { admitted = refl; order = Nearest; made = refl }

-- calls of two streams with one deadline, and then a turn: what is remembered of that turn, of the calls before it, and of all
abbrev before : List Call → Session
before calls = after opened calls

abbrev closing : List Call → Moment
closing calls = record { before = before calls; call = Turn; answer = answer_to (before calls) Turn }

abbrev earlier : List Call → List Moment
earlier calls = history_of opened calls

abbrev past : List Call → List Moment
past calls = history_of opened (calls ++ (Turn ∷ []))

-- the numbers of the replies, the newest first
abbrev numbers : List Moment → List ℕ
numbers = map (λ m. number_of m.answer.reply)

-- the charges that history tells of the two
abbrev charges : List Moment → List ℕ
charges l = map (λ i. charge_of twins i l) (0 ∷ 1 ∷ [])

-- Within bounds: sends, completions, waits, clock reports, expiries, an own turn and refusals; then a move that closes both jobs.
abbrev calls : List Call
calls =
    Arrival 1 100 0
    ∷ Turn
    ∷ Done 20_000
    ∷ Turn
    ∷ Clock 170_000
    ∷ Turn
    ∷ Arrival 2 900 0
    ∷ OwnTurn 2 1
    ∷ OwnTurn 2 0
    ∷ Clock 170_000
    ∷ Done 25_000
    ∷ Turn
    ∷ Clock 220_000
    ∷ Turn
    ∷ Clock 1
    ∷ []

answered : numbers (past calls)
    ≡ 23 ∷ 13 ∷ 22 ∷ 27 ∷ 24 ∷ 25 ∷ 10 ∷ 21 ∷ 15 ∷ 20 ∷ 22 ∷ 27 ∷ 24 ∷ 25 ∷ 21 ∷ 20 ∷ []
unfolding rules padded history_from
answered = refl

-- both are closed as promised
closed_on_time : (i : ℕ) → i < 2 → closes i (closing calls) ≡ true → ClosedOnTime twins i (closing calls) (earlier calls)
unfolding rules padded history_from within_bounds
closed_on_time i l closes-it = ((promise twins opened (calls ++ (Turn ∷ [])) new).1 refl).closed_jobs [] (closing calls) (earlier calls) refl i l closes-it

both_closed : ClosedOnTime twins 0 (closing calls) (earlier calls) × ClosedOnTime twins 1 (closing calls) (earlier calls)
unfolding rules padded history_from
both_closed = (closed_on_time 0 (lit< tt) refl, closed_on_time 1 (lit< tt) refl)

-- of 50,000 each: 20,000 and one slot of 25,000; 25,000 and one slot
told_charges : charges (earlier calls) ≡ 45_000 ∷ 50_000 ∷ []
unfolding rules padded history_from since_closing start_of added_of charge_of
told_charges = refl

-- and nothing is carried on
nothing_on : (stream_at (closing calls).answer.session 0).start.0 ≡ 0
unfolding rules padded history_from never
nothing_on = (nothing_is_carried twins opened (calls ++ (Turn ∷ [])) new refl).0 0 (lit< tt)

-- and so each has at least ⌊50,000 / 25,000⌋ completions and expired slots: one completion and one slot
two_of_first : 2 ≤ since_closing completion 0 (earlier calls) + since_closing expiry 0 (earlier calls)
unfolding rules padded history_from within_bounds
two_of_first = requests_served twins opened (calls ++ (Turn ∷ [])) new refl [] (closing calls) (earlier calls) refl 0 (lit< tt) refl

-- Outside: a request of stream 1 takes 230,000, and stream 2's two requests of 25,000 end after the deadline of both.
abbrev overrun : List Call
overrun =
    Arrival 1 100 0
    ∷ Turn
    ∷ Done 230_000
    ∷ Arrival 2 900 0
    ∷ Turn
    ∷ Done 25_000
    ∷ Arrival 2 900 0
    ∷ Turn
    ∷ Done 25_000
    ∷ []

overrun_answered : (numbers (past overrun) ≡ 23 ∷ 25 ∷ 21 ∷ 20 ∷ 25 ∷ 21 ∷ 20 ∷ 26 ∷ 21 ∷ 20 ∷ []) × (within_bounds (past overrun) ≡ false)
unfolding rules padded history_from within_bounds
overrun_answered = (refl, refl)

-- what is promised always is said of the job that the overlong completion belongs to
closed_truly : ClosedTruly twins 0 (closing overrun) (earlier overrun)
unfolding rules padded history_from
closed_truly = (promise twins opened (overrun ++ (Turn ∷ [])) new).0.closed_jobs [] (closing overrun) (earlier overrun) refl 0 (lit< tt) refl

-- history tells the overlong duration, and the record shows it, closed 30,000 after its deadline
overrun_charges : charges (earlier overrun) ≡ 230_000 ∷ 50_000 ∷ []
unfolding rules padded history_from since_closing start_of added_of charge_of
overrun_charges = refl

overrun_recorded : (stream_at (closing overrun).answer.session 0).last
    ≡ record { charge = disk_time 230_000; closed = moment 280_000; deadline = moment 250_000; expired = 0; start = disk_time 0 }
unfolding rules padded history_from since_closing start_of added_of charge_of closings due_of
overrun_recorded = closed_truly.recorded

-- and the 180,000 above its budget are carried on
overrun_carried : (stream_at (closing overrun).answer.session 0).start.0 + 50_000 ≡ 230_000
unfolding rules padded history_from
overrun_carried = (overrun_is_carried twins opened (overrun ++ (Turn ∷ [])) new [] (closing overrun) (earlier overrun) refl 0 (lit< tt) refl).overrun (lit≤ tt)

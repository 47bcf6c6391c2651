-- What the history of a session says: the calls that were made and their answers, and what is counted off them. The promise and the tally both speak of it. The quotes are demand 3 of the order.
use Rattle.std.specs.Prelude.{Bool, true, not, ◌&&◌, ◌||◌, List, [], ◌∷◌, ℕ, suc, ◌+◌, ◌*◌, eqb}
use Rattle.table.specs.Fold.{if}
use Rattle.table.specs.Admission.{reserved_at, period_at, granted_of}
use Rattle.table.specs.declared.Table.{Table}
use Rattle.stream.specs.Stream.{carry}
use Rattle.session.specs.Session.{stream_at, horizon}
use Rattle.calls.specs.Replies.{number_of, stream_of}
use Rattle.session.specs.Calls.{answer_to}
use Rattle.session.specs.declared.Session.{Session}
use Rattle.calls.specs.declared.Call.{Call}
use Rattle.calls.specs.declared.Reply.{Reply}
use Rattle.session.specs.declared.Answer.{Answer}

-- "Take a newly opened session and any calls, refused ones included, with the house's choice or any other choice from the set." What is remembered of a call: the session that it was handed, the call, and its answer. The history is the list of these, the newest first.
pub record Moment : Type 0 where
  pub before : Session
  pub call : Call
  pub answer : Answer

unfoldable pub history_from : List Moment → Session → List Call → List Moment
history_from earlier s [] = earlier
history_from earlier s (k ∷ ks) =
    let a = answer_to s k in
    history_from (record { before = s; call = k; answer = a } ∷ earlier) a.session ks

abbrev pub history_of : Session → List Call → List Moment
history_of s calls = history_from [] s calls

-- "As long as no completion has run over the worst-case time", which is reply 26, "and no clock report came after the latest safe moment", which is reply 28
abbrev pub in_bounds : Reply → Bool
in_bounds r = not (eqb (number_of r) 26) && not (eqb (number_of r) 28)

unfoldable pub within_bounds : List Moment → Bool
within_bounds [] = true
within_bounds (m ∷ earlier) = in_bounds m.answer.reply && within_bounds earlier

-- whether a call was answered by this number, and whether for this stream. Streams are counted from 0 here and from 1 in replies.
abbrev pub replied : ℕ → Moment → Bool
replied n m = eqb (number_of m.answer.reply) n

abbrev pub concerns : ℕ → Moment → Bool
concerns i m = eqb (stream_of m.call m.answer.reply) (i + 1)

-- no call was answered by this number
unfoldable pub never : ℕ → List Moment → Bool
never n [] = true
never n (m ∷ earlier) = not (replied n m) && never n earlier

-- whether a call closed a job of this stream: it was answered by 23, and "Every stream with d = h closes its job"
abbrev pub closes : ℕ → Moment → Bool
closes i m = replied 23 m && eqb (stream_at m.before i).deadline.0 (horizon m.before)

-- how many jobs of a stream were closed, and so the deadline of the one that is open: a stream's first job has the deadline p, its second 2 × p, and so on
unfoldable pub closings : ℕ → List Moment → ℕ
closings i [] = 0
closings i (m ∷ earlier) = if (closes i m) (suc (closings i earlier)) (closings i earlier)

unfoldable pub due_of : Table → ℕ → List Moment → ℕ
due_of t i past = suc (closings i past) * period_at t i

-- what is counted of a stream's open job: the sum over the calls since the last one that closed a job of that stream
unfoldable pub since_closing : (ℕ → Moment → ℕ) → ℕ → List Moment → ℕ
since_closing count i [] = 0
since_closing count i (m ∷ earlier) = if (closes i m) 0 (count i m + since_closing count i earlier)

-- "the durations reported for that job": that of each completion of its stream, answered by 25, or by 26 if it was overlong
abbrev pub completes : ℕ → Moment → Bool
completes i m = (replied 25 m || replied 26 m) && concerns i m

abbrev pub duration_of : Call → ℕ
duration_of (Call.Arrival n place tag) = 0
duration_of Call.Turn = 0
duration_of (Call.OwnTurn n j) = 0
duration_of (Call.Done a) = a
duration_of (Call.Clock t) = 0

abbrev pub reported : ℕ → Moment → ℕ
reported i m = if (completes i m) (duration_of m.call) 0

-- "its expired slots": one for each reply 22 for its stream
abbrev pub expires : ℕ → Moment → Bool
expires i m = replied 22 m && concerns i m

abbrev pub expiry : ℕ → Moment → ℕ
expiry i m = if (expires i m) 1 0

-- "the sum of the durations reported for that job, plus one such time for each of its expired slots", "one such time" being W: both are read off the history of calls and replies, and not off the session's own cells
unfoldable pub added_of : Table → ℕ → List Moment → ℕ
added_of t i past = since_closing reported i past + t.worst * since_closing expiry i past

-- "its granted budget": that of the table as it was opened
abbrev pub budget_of : Table → ℕ → ℕ
budget_of t i = granted_of t.worst t.padding (reserved_at t i)

-- what a stream's open job started with, by the history: nothing at first; and since each closing, as document 02 has it in Req 03, "the new job starts with the old charge less the granted budget, or zero if that is negative", where the old charge is what the old job started with and what was added since
unfoldable pub start_of : Table → ℕ → List Moment → ℕ
start_of t i [] = 0
start_of t i (m ∷ earlier) =
    if (closes i m) (carry (start_of t i earlier + added_of t i earlier) (budget_of t i)) (start_of t i earlier)

-- its charge: the two together
unfoldable pub charge_of : Table → ℕ → List Moment → ℕ
charge_of t i past = start_of t i past + added_of t i past

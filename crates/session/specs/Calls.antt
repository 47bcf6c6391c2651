-- The calls: what refuses them, what they come to, the session afterwards, and the reply.
use Rattle.std.specs.Prelude.{Bool, not, ◌&&◌, ◌||◌, List, [], ◌∷◌, map, ℕ, zero, suc, ◌+◌, ◌-◌, ltb, eqb}
use Rattle.table.specs.Fold.{if, some_to}
use Rattle.table.specs.Refusal.{given, ◌or_next◌, outside}
use Rattle.time.specs.Time.{session_end, duration_max, moment, disk_time}
use Rattle.stream.specs.Stream.{queue_max, closes_past_end, arrived, without, charged, lapsed, moved}
use Rattle.session.specs.Session.{stream_at, place_at, tag_at, horizon, in_set, some_filled, no_slot, latest, sound, with_streams, with_stream, with_disk, looking_ahead}
use Rattle.session.specs.Choice.{leading_at, chosen, expiring}
use Rattle.session.specs.declared.Session.{Session}
use Rattle.calls.specs.declared.Call.{Call}
use Rattle.calls.specs.declared.Reply.{Reply}
use Rattle.calls.specs.Replies.{number_of, value_of, stream_of, tag_of}
use Rattle.session.specs.declared.Answer.{Answer}

-- What a call comes to. Streams and queue places are counted from 0 here.
pub data Verdict : Type 0 where
  refuse : ℕ → Verdict
  append : ℕ → ℕ → ℕ → Verdict
  send : ℕ → ℕ → Verdict
  move : Verdict
  wait : Verdict
  expire : ℕ → Verdict
  finish : ℕ → ℕ → Verdict
  set_clock : ℕ → Verdict

-- 8 "stream number 0 or above the count"
unfoldable pub no_such_stream : Session → ℕ → Bool
no_such_stream s n = eqb n 0 || ltb s.count n

-- 10 "a request is at the disk"
unfoldable pub busy : Session → Bool
busy s = not (eqb s.served 0)

-- some stream would close its job past the session's end
unfoldable pub move_passes_end : Session → Bool
move_passes_end s = some_to (λ i. closes_past_end (horizon s) (stream_at s i)) s.count

-- "Arrival: 8, 9. Turn: 10, 14 (only in b). Own turn: 10, 8, 15. Done: 11, 12, 14. Clock: 10, 13, 14."
unfoldable pub call_refusal : Session → Call → ℕ
call_refusal s (Call.Arrival n place tag) =
    given (no_such_stream s n) 8
    or_next given (eqb (stream_at s (n - 1)).queued queue_max) 9
call_refusal s Call.Turn =
    given (busy s) 10
    or_next given (no_slot s && move_passes_end s) 14
call_refusal s (Call.OwnTurn n j) =
    given (busy s) 10
    or_next given (no_such_stream s n) 8
    or_next given (not (in_set s (n - 1) j)) 15
call_refusal s (Call.Done a) =
    given (not (busy s)) 11
    or_next given (outside 1 duration_max a) 12
    or_next given (ltb session_end (s.clock.0 + a)) 14
call_refusal s (Call.Clock t) =
    given (busy s) 10
    or_next given (ltb t s.clock.0) 13
    or_next given (ltb session_end t) 14

-- "Each session call gives 31 before all else."
unfoldable pub refusal : Session → Call → ℕ
refusal s k = given (not (sound s)) 31 or_next call_refusal s k

-- "Turn, the first that applies": a. "some slot is filled: send", b. "no stream has a slot: move", c. "only empty slots and t < L: wait until L", d. "only empty slots and t ≥ L: expire one slot"
unfoldable pub turn_effect : Session → Verdict
turn_effect s =
    if (some_filled s) (send (chosen s) (leading_at s (chosen s)))
    (if (no_slot s) move
    (if (ltb s.clock.0 (latest s)) wait
    (expire (expiring s))))

-- what a call comes to where nothing refuses it
unfoldable pub effect : Session → Call → Verdict
effect s (Call.Arrival n place tag) = append (n - 1) place tag
effect s Call.Turn = turn_effect s
effect s (Call.OwnTurn n j) = send (n - 1) j
effect s (Call.Done a) = finish (s.served - 1) a
effect s (Call.Clock t) = set_clock t

-- the verdict on a call: its first refusal, or what it comes to
unfoldable pub ruled : ℕ → Verdict → Verdict
ruled zero v = v
ruled (suc n) v = refuse (suc n)

unfoldable pub verdict : Session → Call → Verdict
verdict s k = ruled (refusal s k) (effect s k)

-- The session afterwards. "A refused call returns its number and changes no byte of session or buffer." A move, an expiry and a completion change a charge or the horizon.
unfoldable pub apply : Session → Verdict → Session
apply s (refuse n) = s
apply s (append i place tag) = with_stream s i (arrived place tag (stream_at s i))
apply s (send i j) =
    with_disk (with_stream s i (without j (stream_at s i))) s.clock (place_at s i j) (i + 1) (place_at s i j) (tag_at s i j)
apply s move = looking_ahead (with_streams s (map (moved s.clock (horizon s)) s.streams))
apply s wait = s
apply s (expire i) = looking_ahead (with_stream s i (lapsed s.worst (stream_at s i)))
apply s (finish i a) =
    looking_ahead (with_disk (with_stream s i (charged a (stream_at s i))) (moment (s.clock.0 + a)) s.head 0 0 0)
apply s (set_clock t) = with_disk s (moment t) s.head s.served s.place s.tag

-- "Overlong if a > W."
unfoldable pub overlong : Session → ℕ → Bool
overlong s a = ltb s.worst a

-- "Late exactly if it is above L and above the clock."
unfoldable pub late : Session → ℕ → Bool
late s t = ltb (latest s) t && ltb s.clock.0 t

-- "Done replies: 20 arrival (value: queue length), 21 sent (place), 22 expired (charge after), 23 moved (new horizon), 24 wait (L), 25 done (charge after), 26 done overlong (charge after), 27 clock (time), 28 clock late (time)." Document 02, Req 07: "sent and done hand the tag back".
unfoldable pub reply_to : Session → Verdict → Reply
reply_to s (refuse n) = Reply.Refused n
reply_to s (append i place tag) = Reply.Arrived (i + 1) ((stream_at s i).queued + 1)
reply_to s (send i j) = Reply.Sent (i + 1) (place_at s i j) (tag_at s i j)
reply_to s move = Reply.Moved (moment (horizon (apply s move)))
reply_to s wait = Reply.Wait (moment (latest s))
reply_to s (expire i) = Reply.Expired (i + 1) (disk_time ((stream_at s i).charge.0 + s.worst))
reply_to s (finish i a) =
    let charge = disk_time ((stream_at s i).charge.0 + a) in
    if (overlong s a) (Reply.Overlong (i + 1) charge s.tag) (Reply.Done (i + 1) charge s.tag)
reply_to s (set_clock t) = if (late s t) (Reply.Late (moment t)) (Reply.Clock (moment t))

-- what a verdict comes to, and so what a call is answered
abbrev pub outcome : Session → Verdict → Answer
outcome s v = record { session = apply s v; reply = reply_to s v }

unfoldable pub answer_to : Session → Call → Answer
answer_to s k = outcome s (verdict s k)

-- the session after a list of calls: each call's session is that of the answer before it
unfoldable pub after : Session → List Call → Session
after s [] = s
after s (k ∷ ks) = after (answer_to s k).session ks

-- the numbers of a printed line: "its number from 1, the reply, the stream [...], the value [...], the clock afterwards", and by document 02, Req 07, "a last field, the tag of the request sent or done, else 0"
pub record Line : Type 0 where
  pub event : ℕ
  pub answer : ℕ
  pub stream : ℕ
  pub value : ℕ
  pub clock : ℕ
  pub tag : ℕ

unfoldable pub line_of : ℕ → Call → Answer → Line
line_of n k a =
    record {
      event = n;
      answer = number_of a.reply;
      stream = stream_of k a.reply;
      value = value_of a.reply;
      clock = a.session.clock.0;
      tag = tag_of a.reply;
    }

unfoldable pub lines_from : ℕ → Session → List Call → List Line
lines_from n s [] = []
lines_from n s (k ∷ ks) =
    let a = answer_to s k in
    line_of n k a ∷ lines_from (n + 1) a.session ks

-- Tags: what a session is but for them, and which request it is that is sent or done. The quotes are document 02, Req 07.
use Rattle.std.specs.Prelude.{List, [], ◌∷◌, ◌++◌, map, ℕ, ◌+◌, eqb, get_or, take}
use Rattle.table.specs.Fold.{if, leaving}
use Rattle.stream.specs.Stream.{with_queue}
use Rattle.stream.specs.declared.Stream.{Stream}
use Rattle.session.specs.Session.{stream_at, with_streams, with_disk}
use Rattle.calls.specs.declared.Call.{Call}
use Rattle.calls.specs.declared.Reply.{Reply}
use Rattle.calls.specs.Replies.{value_of, stream_of, tag_of}
use Rattle.session.specs.Calls.{Verdict, refuse, append, send, move, wait, expire, finish, set_clock, verdict, Line}
use Rattle.session.specs.History.{Moment}
use Rattle.session.specs.declared.Session.{Session}

-- ---- "The queue, its order and the choice rule do not look at tags": what is there but for tags

abbrev pub untagged_stream : Stream → Stream
untagged_stream x = with_queue x x.queued x.places []

abbrev pub untagged : Session → Session
untagged s = with_disk (with_streams s (map untagged_stream s.streams)) s.clock s.head s.served s.place 0

abbrev pub untagged_call : Call → Call
untagged_call (Call.Arrival n place tag) = Call.Arrival n place 0
untagged_call Call.Turn = Call.Turn
untagged_call (Call.OwnTurn n j) = Call.OwnTurn n j
untagged_call (Call.Done a) = Call.Done a
untagged_call (Call.Clock t) = Call.Clock t

abbrev pub untagged_reply : Reply → Reply
untagged_reply (Reply.Refused n) = Reply.Refused n
untagged_reply (Reply.Arrived i queued) = Reply.Arrived i queued
untagged_reply (Reply.Sent i place tag) = Reply.Sent i place 0
untagged_reply (Reply.Expired i charge) = Reply.Expired i charge
untagged_reply (Reply.Moved h) = Reply.Moved h
untagged_reply (Reply.Wait until) = Reply.Wait until
untagged_reply (Reply.Done i charge tag) = Reply.Done i charge 0
untagged_reply (Reply.Overlong i charge tag) = Reply.Overlong i charge 0
untagged_reply (Reply.Clock t) = Reply.Clock t
untagged_reply (Reply.Late t) = Reply.Late t

abbrev pub untagged_line : Line → Line
untagged_line l =
    record { event = l.event; answer = l.answer; stream = l.stream; value = l.value; clock = l.clock; tag = 0 }

-- ---- "sent and done hand the tag back": which request that is

-- a request as it arrived; none is one of zeros
pub record Request : Type 0 where
  pub stream : ℕ
  pub place : ℕ
  pub tag : ℕ

abbrev pub no_request : Request
no_request = record { stream = 0; place = 0; tag = 0 }

-- the request that a call brings: "Arrival takes both"
abbrev pub brought_by : Call → Request
brought_by (Call.Arrival n place tag) = record { stream = n; place = place; tag = tag }
brought_by Call.Turn = no_request
brought_by (Call.OwnTurn n j) = no_request
brought_by (Call.Done a) = no_request
brought_by (Call.Clock t) = no_request

-- the requests of stream i that wait, the earliest first, as the history tells: one that arrives goes to the end, as its call brought it, and one that is sent leaves. Streams are counted from 0 here and in verdicts, and from 1 in calls and requests.
unfoldable pub waiting_after : ℕ → Call → Verdict → List Request → List Request
waiting_after i k (refuse n) before = before
waiting_after i k (append n place tag) before = if (eqb n i) (before ++ (brought_by k ∷ [])) before
waiting_after i k (send n j) before = if (eqb n i) (leaving j before) before
waiting_after i k move before = before
waiting_after i k wait before = before
waiting_after i k (expire n) before = before
waiting_after i k (finish n a) before = before
waiting_after i k (set_clock t) before = before

unfoldable pub waiting : ℕ → List Moment → List Request
waiting i [] = []
waiting i (m ∷ earlier) = waiting_after i m.call (verdict m.before m.call) (waiting i earlier)

-- and the one at the disk: the one that was sent, until it is done
unfoldable pub at_disk_after : Verdict → List Moment → Request → Request
at_disk_after (refuse n) earlier before = before
at_disk_after (append n place tag) earlier before = before
at_disk_after (send n j) earlier before = get_or (waiting n earlier) j no_request
at_disk_after move earlier before = before
at_disk_after wait earlier before = before
at_disk_after (expire n) earlier before = before
at_disk_after (finish n a) earlier before = no_request
at_disk_after (set_clock t) earlier before = before

unfoldable pub at_disk : List Moment → Request
at_disk [] = no_request
at_disk (m ∷ earlier) = at_disk_after (verdict m.before m.call) earlier (at_disk earlier)

-- the same as the cells of a session have it: the requests queued in a stream, and the one at the disk
unfoldable pub requests : ℕ → List ℕ → List ℕ → List Request
requests n [] tags = []
requests n (place ∷ places) [] = []
requests n (place ∷ places) (tag ∷ tags) = record { stream = n; place = place; tag = tag } ∷ requests n places tags

abbrev pub queued_in : ℕ → Stream → List Request
queued_in i x = requests (i + 1) (take x.queued x.places) (take x.queued x.tags)

abbrev pub queued_at : Session → ℕ → List Request
queued_at s i = queued_in i (stream_at s i)

abbrev pub served_at : Session → Request
served_at s = record { stream = s.served; place = s.place; tag = s.tag }

-- and as a reply tells it: a send its stream, place and tag, a completion its stream and tag (its value is the charge, and no place)
abbrev pub request_in : Moment → Request
request_in m =
    let r = m.answer.reply in
    record { stream = stream_of m.call r; place = value_of r; tag = tag_of r }

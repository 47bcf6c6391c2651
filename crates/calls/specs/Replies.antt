-- What is printed of a reply: its number, its value, its stream and its tag.
use Rattle.std.specs.Prelude.{ℕ}
use Rattle.calls.specs.declared.Call.{Call}
use Rattle.calls.specs.declared.Reply.{Reply}

-- the number of a reply
abbrev pub number_of : Reply → ℕ
number_of (Reply.Refused n) = n
number_of (Reply.Arrived i queued) = 20
number_of (Reply.Sent i place tag) = 21
number_of (Reply.Expired i charge) = 22
number_of (Reply.Moved h) = 23
number_of (Reply.Wait until) = 24
number_of (Reply.Done i charge tag) = 25
number_of (Reply.Overlong i charge tag) = 26
number_of (Reply.Clock t) = 27
number_of (Reply.Late t) = 28

-- "the value (0 for a refusal)"
abbrev pub value_of : Reply → ℕ
value_of (Reply.Refused n) = 0
value_of (Reply.Arrived i queued) = queued
value_of (Reply.Sent i place tag) = place
value_of (Reply.Expired i charge) = charge.0
value_of (Reply.Moved h) = h.0
value_of (Reply.Wait until) = until.0
value_of (Reply.Done i charge tag) = charge.0
value_of (Reply.Overlong i charge tag) = charge.0
value_of (Reply.Clock t) = t.0
value_of (Reply.Late t) = t.0

-- the stream that a call itself names, "the event's own stream byte"
abbrev pub called_stream : Call → ℕ
called_stream (Call.Arrival n place tag) = n
called_stream Call.Turn = 0
called_stream (Call.OwnTurn n j) = n
called_stream (Call.Done a) = 0
called_stream (Call.Clock t) = 0

-- "the stream (0 where it is a move, wait or clock; the stream served for done; a refused call shows the event's own stream byte)"
abbrev pub stream_of : Call → Reply → ℕ
stream_of k (Reply.Refused n) = called_stream k
stream_of k (Reply.Arrived i queued) = i
stream_of k (Reply.Sent i place tag) = i
stream_of k (Reply.Expired i charge) = i
stream_of k (Reply.Moved h) = 0
stream_of k (Reply.Wait until) = 0
stream_of k (Reply.Done i charge tag) = i
stream_of k (Reply.Overlong i charge tag) = i
stream_of k (Reply.Clock t) = 0
stream_of k (Reply.Late t) = 0

-- Document 02, Req 07: "the tag of the request sent or done, else 0"
abbrev pub tag_of : Reply → ℕ
tag_of (Reply.Refused n) = 0
tag_of (Reply.Arrived i queued) = 0
tag_of (Reply.Sent i place tag) = tag
tag_of (Reply.Expired i charge) = 0
tag_of (Reply.Moved h) = 0
tag_of (Reply.Wait until) = 0
tag_of (Reply.Done i charge tag) = tag
tag_of (Reply.Overlong i charge tag) = tag
tag_of (Reply.Clock t) = 0
tag_of (Reply.Late t) = 0

-- What may stand for an event in the listing of another dispatcher. The quotes are document 02, Req 09.
use Rattle.std.specs.Prelude.{Bool, false, not, ◌&&◌, List, [], ◌∷◌, ℕ, zero, suc, ◌+◌, ◌*◌, ◌/◌, ◌%◌, get_or, eqb}
use Rattle.table.specs.Fold.{if, all_to}
use Rattle.table.specs.Ranges.{streams_max}
use Rattle.stream.specs.Stream.{queue_max}
use Rattle.stream.specs.declared.Stream.{Stream}
use Rattle.calls.specs.Replies.{number_of}
use Rattle.calls.specs.declared.Call.{Call}
use Rattle.session.specs.Session.{stream_at}
use Rattle.session.specs.Calls.{answer_to}
use Rattle.session.specs.declared.Session.{Session}
use Rattle.file.specs.declared.event.Event.{Event}

-- whether a call is answered by 21, sent
abbrev pub sends : Session → Call → Bool
sends s k = eqb (number_of (answer_to s k).reply) 21

-- whether two queued requests of a stream have "equal place and tag"; requests are counted from 0
unfoldable pub alike : Stream → ℕ → ℕ → Bool
alike x j k = eqb (get_or x.places j 0) (get_or x.places k 0) && eqb (get_or x.tags j 0) (get_or x.tags k 0)

-- no earlier one is like request j
unfoldable pub is_first : Stream → ℕ → Bool
is_first x j = all_to (λ k. not (alike x k j)) j

-- Whether request j of stream i, counted from 0 too, may be sent: an own turn of it is answered by 21, which is so exactly if it is in the set (the law `SetIsSent`). "It uses the tag to tell equal places apart; two queued requests of one stream with equal place and tag are taken in order of arrival": so it is the first of those alike.
unfoldable pub is_choice : Session → ℕ → ℕ → Bool
is_choice s i j = sends s (Call.OwnTurn (i + 1) j) && is_first (stream_at s i) j

-- the own turn of the request at cell m, where the cells of all queues are counted through: those of the first stream, then those of the second, and so on
abbrev pub stream_of_cell : ℕ → ℕ
stream_of_cell m = m / queue_max

abbrev pub index_of_cell : ℕ → ℕ
index_of_cell m = m % queue_max

abbrev pub cells_max : ℕ
cells_max = streams_max * queue_max

abbrev pub own_turn_of : ℕ → Event
own_turn_of m = Event.OwnTurn (stream_of_cell m + 1) (index_of_cell m)

-- the requests that may be sent, "by stream and then queue order": of the cells from m on, so many of them
unfoldable pub choices_from : Session → ℕ → ℕ → List Event
choices_from s m zero = []
choices_from s m (suc left) =
    let later = choices_from s (m + 1) left in
    if (is_choice s (stream_of_cell m) (index_of_cell m)) (own_turn_of m ∷ later) later

-- "a turn's send": the event is a turn, and it is answered by 21
abbrev pub is_send : Session → Event → Bool
is_send s (Event.Arrival stream place tag) = false
is_send s Event.Turn = sends s Call.Turn
is_send s (Event.OwnTurn stream index) = false
is_send s (Event.Done duration) = false
is_send s (Event.Clock time) = false
is_send s Event.Malformed = false

-- "a turn's send may be any request in the set": then an own turn of it stands for the turn, and the session afterwards is that of the own turn. Every other event stands for itself.
unfoldable pub may_be : Session → Event → List Event
may_be s event = if (is_send s event) (choices_from s 0 cells_max) (event ∷ [])

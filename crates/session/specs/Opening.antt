-- Opening: a table that is admitted becomes a session.
use Rattle.std.specs.Prelude.{◌≡◌, ℕ, replicate, ltb, eqb, pos}
use Rattle.table.specs.Fold.{if, list_to}
use Rattle.table.specs.Ranges.{streams_max}
use Rattle.table.specs.Admission.{reserved_at, period_at, granted_of, admission_of}
use Rattle.table.specs.Margin.{margin, margin_of, answer_of}
use Rattle.table.specs.declared.Table.{Table}
use Rattle.order.specs.declared.Order.{Order}
use Rattle.order.specs.declared.Order.TheVariants.{Nearest}
use Rattle.time.specs.Time.{moment}
use Rattle.time.specs.Latest.{remainders}
use Rattle.stream.specs.Stream.{fresh_stream}
use Rattle.stream.specs.declared.Stream.{Stream}
use Rattle.session.specs.Session.{looking_ahead}
use Rattle.session.specs.declared.Session.{Session}
use Rattle.session.specs.declared.Opened.{Opened}

-- the stream at i of a session that is opened with a table; past the count a stream of zeros
unfoldable pub opened_stream : Table → ℕ → Stream
opened_stream t i =
    if (ltb i t.count)
    (fresh_stream (reserved_at t i) (period_at t i) (granted_of t.worst t.padding (reserved_at t i)))
    (fresh_stream 0 0 0)

-- "Clock t, starting at 0. Head place, starting at 0. The stream and place of the request at the disk, none at first", and no tag. Of the margin, document 02, Req 05: "the session keeps it when admitted", and of the order, Req 08: "Which order a session uses is one choice held in it." This is the session before it looks ahead, with 0 for the horizon and the sum that it will keep.
abbrev pub opened_session : Table → Order → Session
opened_session t order =
    record {
      order = order;
      worst = t.worst;
      span = t.span;
      padding = t.padding;
      tag = 0;
      count = t.count;
      margin = margin (margin_of t);
      horizon = moment 0;
      remainders = remainders (pos 0);
      clock = moment 0;
      head = 0;
      served = 0;
      place = 0;
      streams = list_to (opened_stream t) streams_max;
    }

-- "Horizon h = smallest deadline", and document 02, Req 06: "The session keeps the sum of remainders"
unfoldable pub fresh_session : Table → Order → Session
fresh_session t order = looking_ahead (opened_session t order)

-- "no session is made, and an all-zero one, which is not sound, stands in its place"; of its order 0 is nearest
unfoldable pub zero_session : Session
zero_session =
    record {
      order = Nearest;
      worst = 0;
      span = 0;
      padding = 0;
      tag = 0;
      count = 0;
      margin = margin (pos 0);
      horizon = moment 0;
      remainders = remainders (pos 0);
      clock = moment 0;
      head = 0;
      served = 0;
      place = 0;
      streams = replicate streams_max (fresh_stream 0 0 0);
    }

-- "Opening passes it on with 7"
unfoldable pub opening_of : Table → Order → Opened
opening_of t order =
    record {
      session = if (eqb (admission_of t) 0) (fresh_session t order) zero_session;
      admission = answer_of t;
    }

-- "Take a newly opened session": one that opening makes, with either order, of a table which it admits. The promise, and every law of what calls come to, is of any such.
pub record NewlyOpened (t : Table) (s : Session) : Type 0 where
  pub admitted : admission_of t ≡ 0
  pub order : Order
  pub made : s ≡ (opening_of t order).session

-- A session as numbers alone, and what is answered to it.
use Rattle.std.specs.Prelude.{ℕ, ℤ, pos, Option}
use Rattle.table.specs.Fold.{if}
use Rattle.table.specs.Margin.{margin, number_in, margin_in}
use Rattle.table.specs.declared.Table.{Table}
use Rattle.order.specs.Order.{order_number, is_order, order_of}
use Rattle.time.specs.Latest.{latest_of, asked_number, asked_moment}
use Rattle.time.specs.declared.Clock.{Clock}
use Rattle.session.specs.Opening.{zero_session, opening_of}
use Rattle.calls.specs.Replies.{number_of, value_of, stream_of, tag_of}
use Rattle.session.specs.Calls.{answer_to}
use Rattle.view.specs.View.{view_of, state_of, closing_of}
use Rattle.session.specs.declared.Session.{Session}
use Rattle.session.specs.declared.Opened.{Opened}
use Rattle.calls.specs.declared.Call.{Call}
use Rattle.calls.specs.declared.Reply.{Reply}
use Rattle.view.specs.declared.View.{View}
use Rattle.view.specs.declared.State.{State}
use Rattle.view.specs.declared.Closing.{Closing}
use Rattle.shelf.specs.declared.images.Image.{Image}
use Rattle.shelf.specs.declared.images.Told.{Told}
use Rattle.shelf.specs.declared.images.Opening.{Opening}
use Rattle.shelf.specs.declared.images.Moment.{Moment}

unfoldable pub image_of : Session → Image
image_of s =
    record {
      worst = s.worst;
      span = s.span;
      padding = s.padding;
      tag = s.tag;
      order = order_number s.order;
      count = s.count;
      margin = s.margin;
      horizon = s.horizon;
      remainders = s.remainders;
      clock = s.clock;
      head = s.head;
      served = s.served;
      place = s.place;
      streams = s.streams;
    }

-- the session that the numbers make; where the order has another number than 0 or 1, with nearest
unfoldable pub session_of : Image → Session
session_of i =
    record {
      order = order_of i.order;
      worst = i.worst;
      span = i.span;
      padding = i.padding;
      count = i.count;
      margin = i.margin;
      horizon = i.horizon;
      remainders = i.remainders;
      clock = i.clock;
      head = i.head;
      served = i.served;
      place = i.place;
      tag = i.tag;
      streams = i.streams;
    }

-- an opening: the number that opening answers and the margin that it carries, and the session
abbrev pub opening_as : Opened → Opening
opening_as opened =
    record {
      number = number_in opened.admission;
      margin = margin_in opened.admission;
      session = image_of opened.session;
    }

-- where there is no such order: 31, as every call answers to an image with that number, and the all-zero session, which is not sound
abbrev pub unopened : Opening
unopened = record { number = 31; margin = margin (pos 0); session = image_of zero_session }

-- What opening answers with a table and the number of an order.
unfoldable pub opened_as : Table → ℕ → Opening
opened_as t order = if (is_order order) (opening_as (opening_of t (order_of order))) unopened

-- a reply to a call as four numbers
unfoldable pub told_as : Call → Reply → Told
told_as k r = record { number = number_of r; stream = stream_of k r; value = value_of r; tag = tag_of r }

-- what a call comes to: the image afterwards, and the reply
pub record Answered : Type 0 where
  pub session : Image
  pub reply : Told

-- What a call is answered. An image whose order stands for none is refused 31, and is what it was.
unfoldable pub answered_as : Image → Call → Answered
answered_as i k =
    if (is_order i.order)
    (record { session = image_of (answer_to (session_of i) k).session; reply = told_as k (answer_to (session_of i) k).reply })
    (record { session = i; reply = told_as k (Reply.Refused 31) })

-- the session that an image shows: one whose order stands for none shows the all-zero one, which is not sound
unfoldable pub shown_of : Image → Session
shown_of i = if (is_order i.order) (session_of i) zero_session

abbrev pub viewed_as : Image → View
viewed_as i = view_of (shown_of i)

abbrev pub state_as : Image → ℕ → State
state_as i n = state_of (shown_of i) n

abbrev pub closing_as : Image → ℕ → Closing
closing_as i n = closing_of (shown_of i) n

-- the latest safe moment as two numbers: 0 and the moment, or the refusal and 0
abbrev pub moment_as : Option Clock → Moment
moment_as latest = record { number = asked_number latest; at = asked_moment latest }

-- what asking with three numbers is answered
abbrev pub latest_as : ℕ → ℤ → ℕ → Moment
latest_as horizon sum span = moment_as (latest_of horizon sum span)

-- A session: its streams, the horizon, the latest safe moment, and when it is sound.
use Rattle.std.specs.Prelude.{Bool, ◌&&◌, ◌||◌, List, map, ℕ, ◌+◌, ◌-◌, ◌*◌, ◌/◌, length, get_or, set, leb, ltb, eqb, ℤ, pos, ◌-ℤ◌, Option}
use Rattle.table.specs.Fold.{if, sum_to, smallest_to, all_to, some_to}
use Rattle.table.specs.Ranges.{streams_max}
use Rattle.table.specs.Admission.{admission_of}
use Rattle.table.specs.Whole.{eq_z, signed_sum_to}
use Rattle.table.specs.Margin.{margin_of}
use Rattle.table.specs.declared.Table.{Table}
use Rattle.time.specs.Time.{session_end, moment}
use Rattle.time.specs.Latest.{remainders, latest_of}
pub use Rattle.stream.specs.Stream.{no_stream}
use Rattle.stream.specs.Stream.{slots, filled, part_of, sound_stream, unused_stream, stream_in}
use Rattle.time.specs.declared.Clock.{Clock}
use Rattle.time.specs.declared.remainders.Remainders.{Remainders}
use Rattle.stream.specs.declared.Stream.{Stream}
use Rattle.session.specs.declared.Session.{Session}

-- a stream of a session, counted from 0
abbrev pub stream_at : Session → ℕ → Stream
stream_at s i = stream_in s.streams i

-- the place and the tag of its queued request j, counted from 0
abbrev pub place_at : Session → ℕ → ℕ → ℕ
place_at s i j = get_or (stream_at s i).places j 0

abbrev pub tag_at : Session → ℕ → ℕ → ℕ
tag_at s i j = get_or (stream_at s i).tags j 0

-- "Horizon h = smallest deadline."
unfoldable pub horizon : Session → ℕ
horizon s = smallest_to (λ i. (stream_at s i).deadline.0) s.count

-- its slots, its filled slots, and whether its queued request j is in the set: "the first so many queued requests are the set"
abbrev pub slots_at : Session → ℕ → ℕ
slots_at s i = slots s.worst (horizon s) (stream_at s i)

abbrev pub filled_at : Session → ℕ → ℕ
filled_at s i = filled s.worst (horizon s) (stream_at s i)

abbrev pub in_set : Session → ℕ → ℕ → Bool
in_set s i j = ltb j (filled_at s i)

-- "some slot is filled"
unfoldable pub some_filled : Session → Bool
some_filled s = some_to (λ i. leb 1 (filled_at s i)) s.count

-- "no stream has a slot"
unfoldable pub no_slot : Session → Bool
no_slot s = all_to (λ i. eqb (slots_at s i) 0) s.count

-- the first part of a stream's remainder, times H
abbrev pub scaled_part : Session → ℕ → ℕ
scaled_part s i = part_of s.span (horizon s) (stream_at s i)

-- "Latest safe moment L = h less the sum of all remainders, rounded down once." All is scaled by H, and the one division rounds down.
unfoldable pub latest : Session → ℕ
latest s =
    ((horizon s + sum_to (λ i. (stream_at s i).charge.0) s.count) * s.span - sum_to (scaled_part s) s.count) / s.span

-- document 02, Req 06: "the sum of remainders, scaled by the span so that it is whole"; each is a whole number of either sign. That the latest safe moment is the horizon less this sum is `AskIsLatest` of `Laws`.
abbrev pub scaled_remainder : Session → ℕ → ℤ
scaled_remainder s i = pos (scaled_part s i) -ℤ pos ((stream_at s i).charge.0 * s.span)

unfoldable pub remainders_of : Session → ℤ
remainders_of s = signed_sum_to (scaled_remainder s) s.count

-- "Asking reads only that sum, the horizon and the span": what is told by the cells of any session, sound or not
abbrev pub asked : Session → Option Clock
asked s = latest_of s.horizon.0 s.remainders.0 s.span

-- the table that a session was opened with
abbrev pub table_of : Session → Table
table_of s =
    record {
      worst = s.worst;
      span = s.span;
      padding = s.padding;
      count = s.count;
      reserved = map (λ x. x.reserved) s.streams;
      period = map (λ x. x.period) s.streams;
    }

-- "the stream at the disk, if any, exists and has a slot"; "every unused cell is 0 (.. the place while nothing is at the disk)", and since "What a later request adds to the state joins this rule", the tag too
unfoldable pub sound_disk : Session → Bool
sound_disk s =
    if (eqb s.served 0) (eqb s.place 0 && eqb s.tag 0) (leb s.served s.count && leb 1 (slots_at s (s.served - 1)))

-- "every unused cell is 0 (.. streams past the count ..)". The array has eight cells.
unfoldable pub sound_rest : List Stream → ℕ → Bool
sound_rest streams count =
    eqb (length streams) streams_max
    && all_to (λ i. ltb i count || unused_stream (get_or streams i no_stream)) streams_max

-- the streams up to the count are each sound
unfoldable pub used_streams : Session → Bool
used_streams s = all_to (λ i. sound_stream s.worst s.padding (horizon s) (stream_at s i)) s.count

-- the horizon and the sum that a session keeps are those of its streams
unfoldable pub sound_ahead : Session → Bool
sound_ahead s = eqb s.horizon.0 (horizon s) && eq_z s.remainders.0 (remainders_of s)

-- "A session is sound if its table numbers are ones that opening admits", and the rest of that sentence, which stands above part by part; since "What a later request adds to the state joins this rule", the margin that it keeps is that of its table, and the horizon and the sum are those of its streams
unfoldable pub sound : Session → Bool
sound s =
    eqb (admission_of (table_of s)) 0
    && eq_z s.margin.0 (margin_of (table_of s))
    && used_streams s
    && sound_ahead s
    && sound_rest s.streams s.count
    && leb s.clock.0 session_end
    && sound_disk s

-- a session with other streams, and with another stream at i
abbrev pub with_streams : Session → List Stream → Session
with_streams s streams =
    record {
      order = s.order;
      worst = s.worst;
      span = s.span;
      padding = s.padding;
      tag = s.tag;
      count = s.count;
      margin = s.margin;
      horizon = s.horizon;
      remainders = s.remainders;
      clock = s.clock;
      head = s.head;
      served = s.served;
      place = s.place;
      streams = streams;
    }

abbrev pub with_stream : Session → ℕ → Stream → Session
with_stream s i x = with_streams s (set s.streams i x)

-- a session with another clock, and another request at the disk: its stream counted from 1, its place and its tag, or zeros
abbrev pub with_disk : Session → Clock → ℕ → ℕ → ℕ → ℕ → Session
with_disk s clock head served place tag =
    record {
      order = s.order;
      worst = s.worst;
      span = s.span;
      padding = s.padding;
      tag = tag;
      count = s.count;
      margin = s.margin;
      horizon = s.horizon;
      remainders = s.remainders;
      clock = clock;
      head = head;
      served = served;
      place = place;
      streams = s.streams;
    }

-- a session with another horizon and sum, and with those of its streams as they are now: "every call that changes a charge or the horizon keeps it true"
abbrev pub with_ahead : Session → Clock → Remainders → Session
with_ahead s horizon remainders =
    record {
      order = s.order;
      worst = s.worst;
      span = s.span;
      padding = s.padding;
      tag = s.tag;
      count = s.count;
      margin = s.margin;
      horizon = horizon;
      remainders = remainders;
      clock = s.clock;
      head = s.head;
      served = s.served;
      place = s.place;
      streams = s.streams;
    }

abbrev pub looking_ahead : Session → Session
looking_ahead s = with_ahead s (moment (horizon s)) (remainders (remainders_of s))

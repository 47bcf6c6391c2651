-- The documents' worked cases, one line each: what the rules give, beside what the document says. Those marked P and the others stand in two lists; the statements that cover them are `MarkedCasesHold` and `OtherCasesHold` of `Laws`.
use Rattle.std.specs.Prelude.{List, [], ◌∷◌, ◌++◌, map, ℕ, zero, suc, ◌-◌, ◌/◌, ◌%◌, ℤ, pos, negsuc, length, replicate, set, take, eqb, Option}
use Rattle.table.specs.Fold.{if, list_to}
use Rattle.table.specs.Ranges.{streams_max}
use Rattle.table.specs.Admission.{admission_of}
use Rattle.table.specs.Margin.{left_of, over_of, number_in, margin_in}
use Rattle.table.specs.declared.Table.{Table}
use Rattle.time.specs.Exact.{Fraction}
use Rattle.time.specs.declared.Clock.{Clock as Moment}
use Rattle.time.specs.Latest.{latest_of, asked_number, asked_moment}
use Rattle.stream.specs.Stream.{queue_max, slots, micro_deadline, with_queue, charged, fresh_stream}
use Rattle.session.specs.Session.{stream_at, asked, with_stream, with_disk}
use Rattle.session.specs.Calls.{Line, answer_to, after, lines_from}
use Rattle.session.specs.Opening.{opening_of}
use Rattle.stream.specs.declared.Job.{Job}
use Rattle.stream.specs.declared.Stream.{Stream}
use Rattle.calls.specs.Replies.{number_of}
use Rattle.order.specs.declared.Order.{Order}
use Rattle.order.specs.declared.Order.TheVariants.{Nearest, Sweep}
use Rattle.session.specs.declared.Session.{Session}
use Rattle.calls.specs.declared.Call.{Call}
use Rattle.calls.specs.declared.Call.TheVariants.{Arrival, Turn, OwnTurn, Done, Clock}

-- rows of numbers that the rules give, and those of the document
pub record Case : Type 0 where
  pub rules : List (List ℕ)
  pub document : List (List ℕ)

-- a table of W, H, k, its count, and the reserved times and periods of its streams
unfoldable pub padded : List ℕ → List ℕ
padded ns = take streams_max (ns ++ replicate streams_max 0)

abbrev pub table : ℕ → ℕ → ℕ → List ℕ → List ℕ → Table
table worst span k reserved period =
    record {
      worst = worst;
      span = span;
      padding = k;
      count = length period;
      reserved = padded reserved;
      period = padded period;
    }

-- what admission says of a table: 0, or the number of the refusal
abbrev pub admits : Table → ℕ → Case
admits t n = record { rules = (admission_of t ∷ []) ∷ []; document = (n ∷ []) ∷ [] }

-- "one stream, H = p = 1,000,000, W 25,000", with a padding k and a reserved time e
abbrev pub alone : ℕ → ℕ → Table
alone k e = table 25_000 1_000_000 k (e ∷ []) (1_000_000 ∷ [])

-- what admission says of that stream with a padding of 0, and with one of 1
abbrev pub by_zero_and_one : ℕ → ℕ → ℕ → Case
by_zero_and_one e by_zero by_one =
    record { rules = (admission_of (alone 0 e) ∷ admission_of (alone 1 e) ∷ []) ∷ []; document = (by_zero ∷ by_one ∷ []) ∷ [] }

-- a session that is opened with a table, by the order of document 01
abbrev pub newly : Table → Session
newly t = (opening_of t Nearest).session

-- what opening answers of a table: the number, and its margin as what is left of the span and what is over it
abbrev pub opens : Table → ℕ → ℕ → ℕ → Case
opens t number left over =
    let m = (margin_in (opening_of t Nearest).admission).0 in
    record { rules = (number_in (opening_of t Nearest).admission ∷ left_of m ∷ over_of m ∷ []) ∷ []; document = (number ∷ left ∷ over ∷ []) ∷ [] }

-- what is asked with three numbers, and of a session after some calls: 0 and the latest safe moment, or 31 and 0
abbrev pub told : Option Moment → List ℕ
told latest = asked_number latest ∷ asked_moment latest ∷ []

abbrev pub asks : ℕ → ℤ → ℕ → ℕ → ℕ → Case
asks horizon sum span number at = record { rules = told (latest_of horizon sum span) ∷ []; document = (number ∷ at ∷ []) ∷ [] }

abbrev pub asks_after : Table → List Call → ℕ → Case
asks_after t calls at =
    record { rules = told (asked (after (newly t) calls)) ∷ []; document = (0 ∷ at ∷ []) ∷ [] }

-- a stream with a short period beside seven with a long one
abbrev pub crowded : ℕ → Table
crowded e = table 100 20_000 1 (e ∷ replicate 7 20) (10_000 ∷ replicate 7 20_000)

-- "g 50,000, p 250,000, W 25,000, release 0", after completions of the given durations
unfoldable pub completed : List ℕ → Stream → Stream
completed [] x = x
completed (a ∷ rest) x = completed rest (charged a x)

abbrev pub stream_a : List ℕ → Stream
stream_a durations = completed durations (fresh_stream 25_000 250_000 50_000)

-- the micro-deadlines of a stream's next slots: each is the whole number that the document gives, with nothing left over
unfoldable pub parts : Fraction → List ℕ
parts m = m.above / m.below ∷ m.above % m.below ∷ []

unfoldable pub micro_deadlines : Stream → ℕ → List (List ℕ)
micro_deadlines x zero = []
micro_deadlines x (suc n) = micro_deadlines x n ++ (parts (micro_deadline 25_000 x (suc n)) ∷ [])

abbrev pub micros : Stream → List ℕ → Case
micros x ms = record { rules = micro_deadlines x (length ms); document = map (λ m. m ∷ 0 ∷ []) ms }

-- the slots of that stream at a horizon of 250,000
abbrev pub leaves : ℕ → ℕ → Case
leaves charge n = record { rules = (slots 25_000 250_000 (stream_a (charge ∷ [])) ∷ []) ∷ []; document = (n ∷ []) ∷ [] }

-- what the program prints for a table and calls: number, answer, stream, value, clock, tag
unfoldable pub row : Line → List ℕ
row l = l.event ∷ l.answer ∷ l.stream ∷ l.value ∷ l.clock ∷ l.tag ∷ []

abbrev pub prints : Table → List Call → List (List ℕ) → Case
prints t calls rows = record { rules = map row (lines_from 1 (newly t) calls); document = rows }

-- the requests that turns send, by an order: stream, place and tag of each
unfoldable pub sent_rows : List Line → List (List ℕ)
sent_rows [] = []
sent_rows (l ∷ ls) = if (eqb l.answer 21) ((l.stream ∷ l.value ∷ l.tag ∷ []) ∷ sent_rows ls) (sent_rows ls)

abbrev pub sends : Order → Table → List Call → List (List ℕ) → Case
sends order t calls rows = record { rules = sent_rows (lines_from 1 (opening_of t order).session calls); document = rows }

-- the record of the last closed job of a stream, counted from 0: charge, closing clock, deadline, expired count, and what it started with
unfoldable pub recorded : Job → List ℕ
recorded j = j.charge.0 ∷ j.closed.0 ∷ j.deadline.0 ∷ j.expired ∷ j.start.0 ∷ []

abbrev pub records : Table → List Call → ℕ → List ℕ → Case
records t calls i cells =
    record { rules = recorded (stream_at (after (newly t) calls) i).last ∷ []; document = cells ∷ [] }

-- what the open job of each stream started with
abbrev pub starts : Table → List Call → List ℕ → Case
starts t calls cells =
    record {
      rules = list_to (λ i. (stream_at (after (newly t) calls) i).start.0) (length cells) ∷ [];
      document = cells ∷ [];
    }

-- the numbers of the answers to calls
abbrev pub answers : Table → List Call → List ℕ → Case
answers t calls numbers =
    record {
      rules = map (λ l. l.answer) (lines_from 1 (newly t) calls) ∷ [];
      document = numbers ∷ [];
    }

-- the table of the listing, and "that stream alone, H 250,000"
abbrev pub listed : Table
listed = table 25_000 1_000_000 1 (25_000 ∷ 175_000 ∷ []) (250_000 ∷ 500_000 ∷ [])

abbrev pub single : Table
single = table 25_000 250_000 1 (25_000 ∷ []) (250_000 ∷ [])

-- "two requests of 25,000", and the turn after them
abbrev pub two_requests : List Call
two_requests = Arrival 1 100 0 ∷ Arrival 1 100 0 ∷ Turn ∷ Done 25_000 ∷ Turn ∷ Done 25_000 ∷ Turn ∷ []

-- one request of a duration, and one of the whole budget for each of two streams with one deadline
abbrev pub one_request : ℕ → List Call
one_request duration = Arrival 1 100 0 ∷ Turn ∷ Done duration ∷ []

abbrev pub twins : Table
twins = table 25_000 250_000 1 (25_000 ∷ 25_000 ∷ []) (250_000 ∷ 250_000 ∷ [])

abbrev pub both_used_up : List Call
both_used_up = Arrival 2 100 0 ∷ Turn ∷ Done 50_000 ∷ one_request 50_000 ++ (Turn ∷ [])

-- with a budget of 50,000: one request of a duration, and so many turns after it; of the two streams with one deadline the second has its budget used up and a turn follows, and before that the first has run 30,000 over
abbrev pub then_turns : ℕ → ℕ → List Call
then_turns duration n = one_request duration ++ replicate n Turn

abbrev pub second_used_up : List Call
second_used_up = Arrival 2 900 0 ∷ Turn ∷ Done 50_000 ∷ Turn ∷ []

abbrev pub first_overruns : List Call
first_overruns = one_request 80_000 ++ second_used_up

-- a place that three requests name: the first stream's second is sent by an own choice, then both streams' others by the house
abbrev pub same_place : List Call
same_place =
    Arrival 1 100 7
    ∷ Arrival 1 100 8
    ∷ Arrival 2 100 4_294_967_295
    ∷ OwnTurn 1 1
    ∷ Done 25_000
    ∷ Turn
    ∷ Done 25_001
    ∷ Turn
    ∷ Turn
    ∷ Done 5_000
    ∷ []

-- two requests of one place, of which the second is queued over a move
abbrev pub over_AMove : List Call
over_AMove = Arrival 1 100 5 ∷ Arrival 1 100 6 ∷ Turn ∷ Done 50_000 ∷ Turn ∷ Turn ∷ Done 1_000 ∷ []

-- two streams with one deadline and room for all that is queued; requests at and around the head, alike and at the ends of 64 bits; and turns that each send one
abbrev pub roomy : Table
roomy = table 1_000 1_000_000 1 (400_000 ∷ 400_000 ∷ []) (1_000_000 ∷ 1_000_000 ∷ [])

abbrev pub serving : ℕ → List Call
serving zero = []
serving (suc n) = Turn ∷ Done 1 ∷ serving n

abbrev pub around_the_head : List Call
around_the_head =
    Arrival 2 500 1
    ∷ serving 1
    ++ (Arrival 1 499 2 ∷ Arrival 1 900 3 ∷ Arrival 2 500 4 ∷ Arrival 1 500 5 ∷ Arrival 1 500 6 ∷ Arrival 2 18_446_744_073_709_551_615 7 ∷ Arrival 2 0 8 ∷ [])
    ++ serving 7

-- stream 1 has the earlier deadline, and its place is below the head
abbrev pub below_the_head : List Call
below_the_head = Arrival 2 500 1 ∷ serving 1 ++ (Arrival 2 600 2 ∷ Arrival 1 100 3 ∷ []) ++ serving 2

-- what a session answers to a turn: a fresh one with a tag at the idle disk, and with one in the last cell of an empty queue, of a stream that is used or of one past the count
abbrev pub turn_answers : Session → ℕ → Case
turn_answers s n = record { rules = (number_of (answer_to s Turn).reply ∷ []) ∷ []; document = (n ∷ []) ∷ [] }

abbrev pub tag_at_idle_disk : ℕ → Session
tag_at_idle_disk tag = let s = newly single in with_disk s s.clock s.head s.served s.place tag

abbrev pub tag_in_last_cell : ℕ → ℕ → Session
tag_in_last_cell i tag =
    let s = newly single in
    let x = stream_at s i in
    with_stream s i (with_queue x x.queued x.places (set x.tags (queue_max - 1) tag))

-- the cases marked P, in the document's order
unfoldable pub marked_cases : List Case
marked_cases =
    prints
    listed
    (Arrival 1 100 0
    ∷ Turn
    ∷ Done 5_000
    ∷ Turn
    ∷ Clock 105_000
    ∷ Turn
    ∷ Arrival 2 900 0
    ∷ Turn
    ∷ Clock 106_000
    ∷ Done 25_000
    ∷ Clock 160_000
    ∷ [])
    ((1 ∷ 20 ∷ 1 ∷ 1 ∷ 0 ∷ 0 ∷ [])
    ∷ (2 ∷ 21 ∷ 1 ∷ 100 ∷ 0 ∷ 0 ∷ [])
    ∷ (3 ∷ 25 ∷ 1 ∷ 5_000 ∷ 5_000 ∷ 0 ∷ [])
    ∷ (4 ∷ 24 ∷ 0 ∷ 105_000 ∷ 5_000 ∷ 0 ∷ [])
    ∷ (5 ∷ 27 ∷ 0 ∷ 105_000 ∷ 105_000 ∷ 0 ∷ [])
    ∷ (6 ∷ 22 ∷ 2 ∷ 25_000 ∷ 105_000 ∷ 0 ∷ [])
    ∷ (7 ∷ 20 ∷ 2 ∷ 1 ∷ 105_000 ∷ 0 ∷ [])
    ∷ (8 ∷ 21 ∷ 2 ∷ 900 ∷ 105_000 ∷ 0 ∷ [])
    ∷ (9 ∷ 10 ∷ 0 ∷ 0 ∷ 105_000 ∷ 0 ∷ [])
    ∷ (10 ∷ 25 ∷ 2 ∷ 50_000 ∷ 130_000 ∷ 0 ∷ [])
    ∷ (11 ∷ 28 ∷ 0 ∷ 160_000 ∷ 160_000 ∷ 0 ∷ [])
    ∷ [])
    ∷ admits (alone 1 950_000) 0
    ∷ admits (alone 1 950_001) 7
    ∷ admits (alone 1 975_000) 7
    ∷ admits (alone 1 975_001) 6
    ∷ admits (alone 3 900_000) 0
    ∷ admits (alone 3 900_001) 7
    ∷ admits (table 0 0 0 [] []) 1
    ∷ micros (stream_a []) (125_000 ∷ 250_000 ∷ 375_000 ∷ [])
    ∷ micros (stream_a (5_000 ∷ [])) (150_000 ∷ 275_000 ∷ [])
    ∷ micros (stream_a (5_000 ∷ 5_000 ∷ [])) (175_000 ∷ [])
    ∷ leaves 25_000 1
    ∷ leaves 25_001 0
    ∷ prints
    single
    two_requests
    ((1 ∷ 20 ∷ 1 ∷ 1 ∷ 0 ∷ 0 ∷ [])
    ∷ (2 ∷ 20 ∷ 1 ∷ 2 ∷ 0 ∷ 0 ∷ [])
    ∷ (3 ∷ 21 ∷ 1 ∷ 100 ∷ 0 ∷ 0 ∷ [])
    ∷ (4 ∷ 25 ∷ 1 ∷ 25_000 ∷ 25_000 ∷ 0 ∷ [])
    ∷ (5 ∷ 21 ∷ 1 ∷ 100 ∷ 25_000 ∷ 0 ∷ [])
    ∷ (6 ∷ 25 ∷ 1 ∷ 50_000 ∷ 50_000 ∷ 0 ∷ [])
    ∷ (7 ∷ 23 ∷ 0 ∷ 500_000 ∷ 50_000 ∷ 0 ∷ [])
    ∷ [])
    ∷ records single two_requests 0 (50_000 ∷ 50_000 ∷ 250_000 ∷ 0 ∷ 0 ∷ [])
    ∷ answers listed (replicate 17 (Arrival 1 5 0)) (replicate 16 20 ++ (9 ∷ []))
    ∷ []

-- the lines of the document that are not marked, and what else a reader may ask: a duration of W, W + 1, 0, 10,000,000 and 10,000,001; a clock at L = 200,000, at L + 1, and at the present time past L; two streams that share a deadline both close; stream 1's 6 comes before stream 2's 5; document 02, Req 02, "A padding of 0 in a table now stands for 3": the lines of k 3 are those of k 0, and two tables that opened with 0 while it stood for 1 give 7 and 6 now; Req 03, "the new job starts with the old charge less the granted budget, or zero if that is negative": two due streams of which one has overrun, a charge above three budgets over three closings and one above four over five, one that just reaches the budget, one above it by 1, one below it, and a completion after a carry; Req 05, "the exact margin, span less load": of the listing's table, of one whose load is the span and of the same with a reserved time raised by 1, of the stream alone that is over by 1, and of one that 6 refuses; Req 06, "the horizon less the sum divided by the span, rounded down, is below 0 or does not fit 64 unsigned bits": numbers of no sound session that are told a moment, a span of 0, rounded once, at 0 and just below it, at the last moment of 64 bits and just past it, with the least sum of 64 bits, of the listing after its third call, and after an overrun and the move that carries it; Req 07, "the tag of the request sent or done, else 0": one place of three requests, in one stream and across two, and "every unused cell is 0", tags among them; Req 08, "the smallest place not below the head, and if there is none, the smallest place of all; ties as before": from a head at 500 the requests that are queued around it, by either order, and one below it that has the earlier deadline
unfoldable pub other_cases : List Case
other_cases =
    answers single (one_request 25_000) (20 ∷ 21 ∷ 25 ∷ [])
    ∷ answers single (one_request 25_001) (20 ∷ 21 ∷ 26 ∷ [])
    ∷ answers single (one_request 0) (20 ∷ 21 ∷ 12 ∷ [])
    ∷ answers single (one_request 10_000_000) (20 ∷ 21 ∷ 26 ∷ [])
    ∷ answers single (one_request 10_000_001) (20 ∷ 21 ∷ 12 ∷ [])
    ∷ answers single (Clock 200_000 ∷ []) (27 ∷ [])
    ∷ answers single (Clock 200_001 ∷ Clock 200_001 ∷ Clock 200_000 ∷ []) (28 ∷ 27 ∷ 13 ∷ [])
    ∷ answers twins both_used_up (20 ∷ 21 ∷ 26 ∷ 20 ∷ 21 ∷ 26 ∷ 23 ∷ [])
    ∷ records twins both_used_up 0 (50_000 ∷ 100_000 ∷ 250_000 ∷ 0 ∷ 0 ∷ [])
    ∷ records twins both_used_up 1 (50_000 ∷ 100_000 ∷ 250_000 ∷ 0 ∷ 0 ∷ [])
    ∷ admits (table 25_000 1_000_000 1 (0 ∷ 25_000 ∷ []) (250_000 ∷ 300_000 ∷ [])) 6
    ∷ admits (alone 0 900_000) 0
    ∷ admits (alone 0 900_001) 7
    ∷ admits (alone 0 925_000) 7
    ∷ admits (alone 0 925_001) 6
    ∷ by_zero_and_one 920_000 7 0
    ∷ by_zero_and_one 950_000 6 0
    ∷ records twins first_overruns 0 (80_000 ∷ 130_000 ∷ 250_000 ∷ 0 ∷ 0 ∷ [])
    ∷ records twins first_overruns 1 (50_000 ∷ 130_000 ∷ 250_000 ∷ 0 ∷ 0 ∷ [])
    ∷ starts twins first_overruns (30_000 ∷ 0 ∷ [])
    ∷ records twins (first_overruns ++ second_used_up) 0 (30_000 ∷ 180_000 ∷ 500_000 ∷ 0 ∷ 30_000 ∷ [])
    ∷ starts twins (first_overruns ++ second_used_up) (0 ∷ 0 ∷ [])
    ∷ records single (then_turns 170_000 1) 0 (170_000 ∷ 170_000 ∷ 250_000 ∷ 0 ∷ 0 ∷ [])
    ∷ records single (then_turns 170_000 2) 0 (120_000 ∷ 170_000 ∷ 500_000 ∷ 0 ∷ 120_000 ∷ [])
    ∷ records single (then_turns 170_000 3) 0 (70_000 ∷ 170_000 ∷ 750_000 ∷ 0 ∷ 70_000 ∷ [])
    ∷ starts single (then_turns 170_000 3) (20_000 ∷ [])
    ∷ starts twins (one_request 230_000 ++ second_used_up) (180_000 ∷ 0 ∷ [])
    ∷ starts twins (one_request 230_000 ++ second_used_up ++ second_used_up ++ second_used_up ++ second_used_up) (30_000 ∷ 0 ∷ [])
    ∷ starts twins (one_request 230_000 ++ second_used_up ++ second_used_up ++ second_used_up ++ second_used_up ++ second_used_up) (0 ∷ 0 ∷ [])
    ∷ starts single (then_turns 50_000 1) (0 ∷ [])
    ∷ starts single (then_turns 50_001 1) (1 ∷ [])
    ∷ starts single (then_turns 25_001 1) (0 ∷ [])
    ∷ prints
    single
    (then_turns 170_000 3 ++ one_request 10_000)
    ((1 ∷ 20 ∷ 1 ∷ 1 ∷ 0 ∷ 0 ∷ [])
    ∷ (2 ∷ 21 ∷ 1 ∷ 100 ∷ 0 ∷ 0 ∷ [])
    ∷ (3 ∷ 26 ∷ 1 ∷ 170_000 ∷ 170_000 ∷ 0 ∷ [])
    ∷ (4 ∷ 23 ∷ 0 ∷ 500_000 ∷ 170_000 ∷ 0 ∷ [])
    ∷ (5 ∷ 23 ∷ 0 ∷ 750_000 ∷ 170_000 ∷ 0 ∷ [])
    ∷ (6 ∷ 23 ∷ 0 ∷ 1_000_000 ∷ 170_000 ∷ 0 ∷ [])
    ∷ (7 ∷ 20 ∷ 1 ∷ 1 ∷ 170_000 ∷ 0 ∷ [])
    ∷ (8 ∷ 21 ∷ 1 ∷ 100 ∷ 170_000 ∷ 0 ∷ [])
    ∷ (9 ∷ 25 ∷ 1 ∷ 30_000 ∷ 180_000 ∷ 0 ∷ [])
    ∷ [])
    ∷ opens listed 0 300_000 0
    ∷ opens (crowded 9_380) 0 0 0
    ∷ opens (crowded 9_381) 7 0 2
    ∷ opens (alone 1 950_001) 7 0 1
    ∷ opens (alone 1 975_001) 6 0 0
    ∷ asks 0 (pos 0) 5 0 0
    ∷ asks 1_000 (pos 0) 0 31 0
    ∷ asks 1_000 (pos 1) 3 0 999
    ∷ asks 1_000 (negsuc 0) 3 0 1_000
    ∷ asks 1_000 (pos 3_000) 3 0 0
    ∷ asks 1_000 (pos 3_001) 3 31 0
    ∷ asks 18_446_744_073_709_551_615 (negsuc 0) 2 0 18_446_744_073_709_551_615
    ∷ asks 18_446_744_073_709_551_615 (negsuc 0) 1 31 0
    ∷ asks 9_223_372_036_854_775_807 (negsuc 9_223_372_036_854_775_807) 1 0 18_446_744_073_709_551_615
    ∷ asks 9_223_372_036_854_775_808 (negsuc 9_223_372_036_854_775_807) 1 31 0
    ∷ asks_after listed (one_request 5_000) 105_000
    ∷ asks_after single (one_request 230_000) 430_000
    ∷ asks_after single (then_turns 230_000 1) 630_000
    ∷ prints
    twins
    same_place
    ((1 ∷ 20 ∷ 1 ∷ 1 ∷ 0 ∷ 0 ∷ [])
    ∷ (2 ∷ 20 ∷ 1 ∷ 2 ∷ 0 ∷ 0 ∷ [])
    ∷ (3 ∷ 20 ∷ 2 ∷ 1 ∷ 0 ∷ 0 ∷ [])
    ∷ (4 ∷ 21 ∷ 1 ∷ 100 ∷ 0 ∷ 8 ∷ [])
    ∷ (5 ∷ 25 ∷ 1 ∷ 25_000 ∷ 25_000 ∷ 8 ∷ [])
    ∷ (6 ∷ 21 ∷ 1 ∷ 100 ∷ 25_000 ∷ 7 ∷ [])
    ∷ (7 ∷ 26 ∷ 1 ∷ 50_001 ∷ 50_001 ∷ 7 ∷ [])
    ∷ (8 ∷ 21 ∷ 2 ∷ 100 ∷ 50_001 ∷ 4_294_967_295 ∷ [])
    ∷ (9 ∷ 10 ∷ 0 ∷ 0 ∷ 50_001 ∷ 0 ∷ [])
    ∷ (10 ∷ 25 ∷ 2 ∷ 5_000 ∷ 55_001 ∷ 4_294_967_295 ∷ [])
    ∷ [])
    ∷ turn_answers (tag_at_idle_disk 0) 24
    ∷ turn_answers (tag_at_idle_disk 1) 31
    ∷ turn_answers (tag_in_last_cell 0 0) 24
    ∷ turn_answers (tag_in_last_cell 0 1) 31
    ∷ turn_answers (tag_in_last_cell 1 0) 24
    ∷ turn_answers (tag_in_last_cell 1 1) 31
    ∷ prints
    single
    over_AMove
    ((1 ∷ 20 ∷ 1 ∷ 1 ∷ 0 ∷ 0 ∷ [])
    ∷ (2 ∷ 20 ∷ 1 ∷ 2 ∷ 0 ∷ 0 ∷ [])
    ∷ (3 ∷ 21 ∷ 1 ∷ 100 ∷ 0 ∷ 5 ∷ [])
    ∷ (4 ∷ 26 ∷ 1 ∷ 50_000 ∷ 50_000 ∷ 5 ∷ [])
    ∷ (5 ∷ 23 ∷ 0 ∷ 500_000 ∷ 50_000 ∷ 0 ∷ [])
    ∷ (6 ∷ 21 ∷ 1 ∷ 100 ∷ 50_000 ∷ 6 ∷ [])
    ∷ (7 ∷ 25 ∷ 1 ∷ 1_000 ∷ 51_000 ∷ 6 ∷ [])
    ∷ [])
    ∷ sends Sweep roomy around_the_head
    ((2 ∷ 500 ∷ 1 ∷ [])
    ∷ (1 ∷ 500 ∷ 5 ∷ [])
    ∷ (1 ∷ 500 ∷ 6 ∷ [])
    ∷ (2 ∷ 500 ∷ 4 ∷ [])
    ∷ (1 ∷ 900 ∷ 3 ∷ [])
    ∷ (2 ∷ 18_446_744_073_709_551_615 ∷ 7 ∷ [])
    ∷ (2 ∷ 0 ∷ 8 ∷ [])
    ∷ (1 ∷ 499 ∷ 2 ∷ [])
    ∷ [])
    ∷ sends Nearest roomy around_the_head
    ((2 ∷ 500 ∷ 1 ∷ [])
    ∷ (1 ∷ 500 ∷ 5 ∷ [])
    ∷ (1 ∷ 500 ∷ 6 ∷ [])
    ∷ (2 ∷ 500 ∷ 4 ∷ [])
    ∷ (1 ∷ 499 ∷ 2 ∷ [])
    ∷ (1 ∷ 900 ∷ 3 ∷ [])
    ∷ (2 ∷ 0 ∷ 8 ∷ [])
    ∷ (2 ∷ 18_446_744_073_709_551_615 ∷ 7 ∷ [])
    ∷ [])
    ∷ sends Sweep listed below_the_head ((2 ∷ 500 ∷ 1 ∷ []) ∷ (1 ∷ 100 ∷ 3 ∷ []) ∷ (2 ∷ 600 ∷ 2 ∷ []) ∷ [])
    ∷ []

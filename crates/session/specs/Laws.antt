-- What is proved of the rules.
use Rattle.std.specs.Prelude.{◌≡◌, true, false, ◌||◌, List, ◌∷◌, ◌++◌, map, ◌↔◌, ℕ, ◌+◌, ◌-◌, ◌*◌, ◌≤◌, ◌<◌, Some}
use Rattle.table.specs.Fold.{sum_to}
use Rattle.table.specs.Admission.{admission_of}
use Rattle.table.specs.Whole.{above_zero, below_zero}
use Rattle.table.specs.Margin.{margin_of}
use Rattle.table.specs.declared.Table.{Table}
use Rattle.time.specs.Time.{session_end, moment}
use Rattle.time.specs.declared.Clock.{Clock}
use Rattle.stream.specs.Laws.{CarriedOn, GoesFirst}
use Rattle.session.specs.Session.{stream_at, place_at, horizon, slots_at, filled_at, in_set, some_filled, no_slot, scaled_part, latest, asked, table_of, sound}
use Rattle.order.specs.Order.{distance}
use Rattle.order.specs.Laws.{SweptTo}
use Rattle.order.specs.declared.Order.{Order}
use Rattle.order.specs.declared.Order.TheVariants.{Nearest, Sweep}
use Rattle.session.specs.Choice.{deadline_at, taken_before, leading_at, leading_place, sent_before, chosen, expires_before, expiring}
use Rattle.calls.specs.Replies.{number_of}
use Rattle.session.specs.Calls.{answer_to, after, Line, lines_from}
use Rattle.session.specs.Opening.{zero_session, opening_of, NewlyOpened}
use Rattle.session.specs.Cases.{Case, marked_cases, other_cases}
use Rattle.session.specs.History.{Moment, history_of, within_bounds, replied, never, added_of, budget_of}
use Rattle.session.specs.Promise.{EachClosed}
use Rattle.session.specs.Tags.{untagged, untagged_call, untagged_reply, untagged_line, Request, waiting, at_disk, queued_at, served_at, request_in}
use Rattle.session.specs.declared.Session.{Session}
use Rattle.calls.specs.declared.Call.{Call}
use Rattle.calls.specs.declared.Reply.{Reply}

-- each case of a list comes out as the document says
abbrev pub Hold : List Case → Type 0
Hold cases = map (λ (k : Case). k.rules) cases ≡ map (λ (k : Case). k.document) cases

-- "P marks a case to be proved": each of them holds.
abbrev pub MarkedCasesHold : Type 0
MarkedCasesHold = Hold marked_cases

-- And so does each of the others.
abbrev pub OtherCasesHold : Type 0
OtherCasesHold = Hold other_cases

-- "Opening makes a sound session", and the all-zero one "is not sound".
abbrev pub OpeningIsSound : Type 0
OpeningIsSound = ((t : Table) (s : Session) → NewlyOpened t s → sound s ≡ true) × (sound zero_session ≡ false)

-- "and every call keeps it sound", overlong completions and late clocks included
abbrev pub CallsKeepSound : Type 0
CallsKeepSound = (s : Session) (k : Call) → sound s ≡ true → sound (answer_to s k).session ≡ true

-- So no call of a session that was opened, after any calls, is answered by 31.
abbrev pub NeverUnsound : Type 0
NeverUnsound =
    (t : Table) (s : Session) (before : List Call) (k : Call) → NewlyOpened t s
    → number_of (answer_to (after s before) k).reply ≡ 31 → ⊥

-- A session keeps its table's numbers as they were given, whatever calls are made: a padding of 0 stays 0.
abbrev pub NumbersAreKept : Type 0
NumbersAreKept =
    (t : Table) (s : Session) (calls : List Call) → NewlyOpened t s
    → let now = after s calls in
    (now.worst ≡ t.worst) × (now.span ≡ t.span) × (now.padding ≡ t.padding) × (now.count ≡ t.count)

-- Document 02, Req 05: "the session keeps it when admitted". The margin of a session is that of the table that it was opened with, whatever calls are made; no call changes it, not even of a session that is not sound; and of any sound session it is that of its own table.
abbrev pub MarginIsKept : Type 0
MarginIsKept =
    ((t : Table) (s : Session) (calls : List Call) → NewlyOpened t s → (after s calls).margin.0 ≡ margin_of t)
    × ((s : Session) (k : Call) → (answer_to s k).session.margin ≡ s.margin)
    × ((s : Session) → sound s ≡ true → s.margin.0 ≡ margin_of (table_of s))

-- What a job started with and W for each of its expired slots are in its charge, in any sound session: its own disk time, charge − start − W × expired, is never negative.
abbrev pub StartIsInCharge : Type 0
StartIsInCharge =
    (s : Session) → sound s ≡ true → (i : ℕ) → i < s.count
    → (stream_at s i).start.0 + s.worst * (stream_at s i).expired ≤ (stream_at s i).charge.0

-- Of each job, whatever calls were made (document 02, Req 03): its charge is what it started with and what the history adds, which is the durations reported for it, overlong ones among them, and W for each of its expired slots. So of the open jobs, and so of each that was closed, as it was then.
abbrev pub ChargeIsSum : Type 0
ChargeIsSum =
    (t : Table) (s : Session) (calls : List Call) → NewlyOpened t s
    → let now = after s calls in
    let past = history_of s calls in
    ((i : ℕ) → i < t.count → (stream_at now i).charge.0 ≡ (stream_at now i).start.0 + added_of t i past)
    × EachClosed t past (λ i m earlier. (stream_at m.before i).charge.0 ≡ (stream_at m.before i).start.0 + added_of t i earlier)

-- And of each that was closed: the next one starts with its charge less the granted budget of the table, cut at 0, and its record keeps what it had started with.
abbrev pub OverrunIsCarried : Type 0
OverrunIsCarried =
    (t : Table) (s : Session) (calls : List Call) → NewlyOpened t s
    → EachClosed t (history_of s calls)
    (λ i m earlier. CarriedOn (budget_of t i) (stream_at m.before i) (stream_at m.answer.session i))

-- "Demand 3 stands under its premises, where nothing is ever carried": as long as no completion has run over, which is the first of them, every job starts with 0, and so says every record, and of a closed job "The charge is the sum of the durations reported for that job, plus one such time for each of its expired slots."
pub record StartedAtZero (t : Table) (i : ℕ) (m : Moment) (earlier : List Moment) : Type 0 where
  pub recorded : (stream_at m.answer.session i).last.start.0 ≡ 0
  pub sum : (stream_at m.before i).charge.0 ≡ added_of t i earlier

abbrev pub NothingIsCarried : Type 0
NothingIsCarried =
    (t : Table) (s : Session) (calls : List Call) → NewlyOpened t s
    → let now = after s calls in
    let past = history_of s calls in
    never 26 past ≡ true → ((i : ℕ) → i < t.count → (stream_at now i).start.0 ≡ 0) × EachClosed t past (StartedAtZero t)

-- The bounds of the promise are that, and that no clock report was late.
abbrev pub BoundsAreTwo : Type 0
BoundsAreTwo = (past : List Moment) → (within_bounds past ≡ true) ↔ ((never 26 past ≡ true) × (never 28 past ≡ true))

-- "the present time changes nothing": a clock report of it hands back the session as it was, whatever the reply
abbrev pub PresentTimeChangesNothing : Type 0
PresentTimeChangesNothing = (s : Session) → (answer_to s (Call.Clock s.clock.0)).session ≡ s

-- "Latest safe moment L = h less the sum of all remainders, rounded down once": L and the sum of all remainders come to at most h, and L + 1 with it to more than h. All is scaled by H, and the charges stand on the side of h, so that no subtraction cuts anything off.
abbrev pub LatestRoundsOnce : Type 0
LatestRoundsOnce =
    (s : Session) → sound s ≡ true
    → let scaled = (horizon s + sum_to (λ i. (stream_at s i).charge.0) s.count) * s.span in
    let parts = sum_to (scaled_part s) s.count in
    (latest s * s.span + parts ≤ scaled) × (scaled < (latest s + 1) * s.span + parts)

-- Each of those parts is exact: over H it is (h − r) × g / p, since p divides H and no release is after h.
abbrev pub PartsAreExact : Type 0
PartsAreExact =
    (s : Session) → sound s ≡ true → (i : ℕ) → i < s.count
    → ((stream_at s i).release.0 ≤ horizon s)
    × (scaled_part s i * (stream_at s i).period ≡ (horizon s - (stream_at s i).release.0) * (stream_at s i).granted.0 * s.span)

-- Document 02, Req 06: "Asking reads only that sum, the horizon and the span, and gives the L of the full sum for every session that calls can reach, overruns included." So of every sound session, and so after any calls.
abbrev pub AskIsLatest : Type 0
AskIsLatest =
    ((s : Session) → sound s ≡ true → asked s ≡ Some (moment (latest s)))
    × ((t : Table) (s : Session) (calls : List Call) → NewlyOpened t s → let now = after s calls in asked now ≡ Some (moment (latest now)))

-- Two sessions that agree in the three numbers are told the same, sound or not.
abbrev pub AskReadsThree : Type 0
AskReadsThree =
    (s z : Session) → s.horizon ≡ z.horizon → s.remainders ≡ z.remainders → s.span ≡ z.span → asked s ≡ asked z

-- The sum that a sound session keeps is far from the ends of 64 bits: eight streams, a charge of at most 60,000,000 + 10,000,000 each, in a span of at most 600,000,000.
abbrev pub remainders_max : ℕ
remainders_max = 336_000_000_000_000_000

abbrev pub RemaindersAreBounded : Type 0
RemaindersAreBounded =
    (s : Session) → sound s ≡ true → (above_zero s.remainders.0 ≤ remainders_max) × (below_zero s.remainders.0 ≤ remainders_max)

-- the calls by which some requests arrive
abbrev pub arriving : List Request → List Call
arriving requests = map (λ (r : Request). Call.Arrival r.stream r.place r.tag) requests

-- May a foreign request that takes at most x run now? If nothing is at the disk, and the clock and x together are no later than the moment that is told, the clock report after it is answered by 27, whatever is queued, and whatever arrives meanwhile: it is not late, and breaks no premise of the promise. (Past the session's end it is refused by 14, and changes nothing.)
abbrev pub ForeignRequestFits : Type 0
ForeignRequestFits =
    (s : Session) (until : Clock) (x : ℕ) (meanwhile : List Request) → sound s ≡ true → s.served ≡ 0 → asked s ≡ Some until
    → let now = s.clock.0 + x in
    now ≤ until.0 → now ≤ session_end → (answer_to (after s (arriving meanwhile)) (Call.Clock now)).reply ≡ Reply.Clock (moment now)

-- "Horizon h = smallest deadline. Always r ≤ h ≤ d."
abbrev pub HorizonBetween : Type 0
HorizonBetween =
    (s : Session) → sound s ≡ true → (i : ℕ) → i < s.count
    → ((stream_at s i).release.0 ≤ horizon s) × (horizon s ≤ (stream_at s i).deadline.0)

-- The stream that a turn serves is the first of those with a filled slot: by deadline, then by the place of its request in the session's order, then by number.
abbrev pub ChosenGoesFirst : Type 0
ChosenGoesFirst = (s : Session) → some_filled s ≡ true → GoesFirst (filled_at s) (sent_before s) s.count (chosen s)

-- A turn's send, beside request j of stream i: it is a request of the set, and has no later deadline; of those with its deadline no place is taken before its own; and of those alike in that, none is of a lower stream, nor arrived earlier in its own.
pub record First (s : Session) (i j : ℕ) : Type 0 where
  pub of_the_set : in_set s (chosen s) (leading_at s (chosen s)) ≡ true
  pub earliest : deadline_at s (chosen s) ≤ deadline_at s i
  pub first_place : deadline_at s i ≡ deadline_at s (chosen s) → taken_before s (place_at s i j) (leading_place s (chosen s)) ≡ false
  pub lower : deadline_at s i ≡ deadline_at s (chosen s) → taken_before s (leading_place s (chosen s)) (place_at s i j) ≡ false → chosen s ≤ i
  pub earlier : i ≡ chosen s → taken_before s (leading_place s (chosen s)) (place_at s i j) ≡ false → leading_at s (chosen s) ≤ j

-- So, with `LeadingIsFirst` of a queue, in either order the request sent goes first of the whole set: "Take the earliest deadline among streams with a filled slot; of the set's requests from streams with that deadline, the place nearest the head; ties go to the lower stream, then the earlier arrival", and of a sweep "ties as before".
abbrev pub SentGoesFirst : Type 0
SentGoesFirst = (s : Session) (i j : ℕ) → some_filled s ≡ true → i < s.count → in_set s i j ≡ true → First s i j

-- What that says of each order, as the documents have it. With nearest the place sent is "the place nearest the head", and a tie is a place as far from it.
pub record SentNearest (s : Session) (i j : ℕ) : Type 0 where
  pub nearest : distance s.head (leading_place s (chosen s)) ≤ distance s.head (place_at s i j)
  pub tie : distance s.head (place_at s i j) ≡ distance s.head (leading_place s (chosen s)) → (chosen s ≤ i) × (i ≡ chosen s → leading_at s (chosen s) ≤ j)

abbrev pub NearestIsSent : Type 0
NearestIsSent =
    (s : Session) (i j : ℕ) → s.order ≡ Nearest → some_filled s ≡ true → i < s.count → in_set s i j ≡ true
    → deadline_at s i ≡ deadline_at s (chosen s) → SentNearest s i j

-- With sweep it is "the smallest place not below the head, and if there is none, the smallest place of all" (`SweptTo` of `order`), and a tie is the same place.
pub record SentSwept (s : Session) (i j : ℕ) : Type 0 where
  pub swept : SweptTo s.head (leading_place s (chosen s)) (place_at s i j)
  pub tie : place_at s i j ≡ leading_place s (chosen s) → (chosen s ≤ i) × (i ≡ chosen s → leading_at s (chosen s) ≤ j)

abbrev pub SweepIsSent : Type 0
SweepIsSent =
    (s : Session) (i j : ℕ) → s.order ≡ Sweep → some_filled s ≡ true → i < s.count → in_set s i j ≡ true
    → deadline_at s i ≡ deadline_at s (chosen s) → SentSwept s i j

-- Document 02, Req 08: "Which order a session uses is one choice held in it." It is the one with which the session was opened, whatever calls are made, and no call changes it, not even of a session that is not sound.
abbrev pub OrderIsKept : Type 0
OrderIsKept =
    ((t : Table) (order : Order) (calls : List Call) → admission_of t ≡ 0 → (after (opening_of t order).session calls).order ≡ order)
    × ((s : Session) (k : Call) → (answer_to s k).session.order ≡ s.order)

-- The stream that loses a slot is the first of those with a slot: by r + c × p / g, exactly, then by deadline, then by number.
abbrev pub ExpiringGoesFirst : Type 0
ExpiringGoesFirst =
    (s : Session) → sound s ≡ true → no_slot s ≡ false → GoesFirst (slots_at s) (expires_before s) s.count (expiring s)

-- Document 02, Req 07: "The queue, its order and the choice rule do not look at tags." Of two sound sessions that differ in tags alone, two calls that differ in tags alone make sessions that do, and replies that do: what is sent, charged, closed, waited for and refused is the same.
abbrev pub TagsDecideNothing : Type 0
TagsDecideNothing =
    (s z : Session) (k l : Call) → sound s ≡ true → sound z ≡ true → untagged s ≡ untagged z → untagged_call k ≡ untagged_call l
    → (untagged (answer_to s k).session ≡ untagged (answer_to z l).session)
    × (untagged_reply (answer_to s k).reply ≡ untagged_reply (answer_to z l).reply)

-- So of whole runs: but for the last field, the printed lines are those of the same calls with no tag.
abbrev pub TagsShowLast : Type 0
TagsShowLast =
    (t : Table) (s : Session) (calls : List Call) → NewlyOpened t s
    → let lines : List Call → List Line = λ ks. map untagged_line (lines_from 1 s ks) in
    lines calls ≡ lines (map untagged_call calls)

-- "sent and done hand the tag back": a send tells stream, place and tag of the request that left its queue, as it had arrived; a completion tells the stream and the tag of the request that was at the disk; and no other reply has a tag.
pub record HandedBack (m : Moment) (earlier : List Moment) : Type 0 where
  pub sent : replied 21 m ≡ true → request_in m ≡ at_disk (m ∷ earlier)
  pub done : (replied 25 m || replied 26 m) ≡ true → ((request_in m).stream ≡ (at_disk earlier).stream) × ((request_in m).tag ≡ (at_disk earlier).tag)
  pub others : (replied 21 m || replied 25 m || replied 26 m) ≡ false → (request_in m).tag ≡ 0

-- So it is of each call of a run. And afterwards each stream has queued what arrived and was not sent, in order of arrival, each place with the tag that came with it; and what is at the disk is what was sent last and is not done.
abbrev pub TagComesBack : Type 0
TagComesBack =
    (t : Table) (s : Session) (calls : List Call) → NewlyOpened t s
    → let now = after s calls in
    let past = history_of s calls in
    ((i : ℕ) → i < t.count → queued_at now i ≡ waiting i past)
    × (served_at now ≡ at_disk past)
    × ((later : List Moment) (m : Moment) (earlier : List Moment) → later ++ (m ∷ earlier) ≡ past → HandedBack m earlier)

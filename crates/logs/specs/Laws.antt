-- What is proved of following. The quotes are document 02, Req 09.
use Rattle.std.specs.Prelude.{true, false, ◌&&◌, List, [], ◌∷◌, ◌++◌, ◌⊎◌, ◌↔◌, ◌≡◌, ℕ, suc, ◌+◌, ◌-◌, ◌≤◌, ◌<◌, ltb, length, drop}
use Rattle.calls.specs.declared.Call.{Call}
use Rattle.session.specs.Session.{stream_at, in_set}
use Rattle.session.specs.Calls.{answer_to, after, Line, lines_from}
use Rattle.session.specs.History.{history_of}
use Rattle.session.specs.Promise.{Always, OnTime}
use Rattle.session.specs.declared.Session.{Session}
use Rattle.file.specs.Reading.{event_at, events_in, table_in, trace_in}
use Rattle.file.specs.declared.event.Event.{Event}
use Rattle.listing.specs.Line.{rendered, header_fields}
use Rattle.listing.specs.Laws.{Each}
use Rattle.trace.specs.Trace.{fields_of, listing_of}
use Rattle.logs.specs.Choices.{sends, alike, may_be}
use Rattle.logs.specs.Follow.{Among, line_by, opens, session_in, Follows}
use Rattle.logs.specs.Lines.{lines_of, left_of}
use Rattle.logs.specs.Following.{with_lines, fed_by, accepted, rejected, checked_of}
use Rattle.logs.specs.declared.Follower.{Follower}

-- "Every listing of ours, in either order, is accepted": of any bytes that are taken for a file, refused ones among them.
abbrev pub OursIsAccepted : Type 0
OursIsAccepted = (file : List ℕ) → checked_of file (listing_of file) ≡ accepted

-- "accepts it exactly if every line follows from the state before it, where a turn's send may be any request in the set"
abbrev pub AcceptedFollows : Type 0
AcceptedFollows = (file listing : List ℕ) → (checked_of file listing ≡ accepted) ↔ Follows file listing

-- "any request in the set", and no other: where a turn sends, an own turn is answered by 21 exactly if its stream is there and its index is in the set of that stream, whatever its deadline.
abbrev pub SetIsSent : Type 0
SetIsSent =
    (s : Session) → sends s Call.Turn ≡ true → (i j : ℕ) → sends s (Call.OwnTurn (i + 1) j) ≡ (ltb i s.count && in_set s i j)

-- the own turn of a request of the set; its stream and the request are counted from 0
pub record OfTheSet (s : Session) (event : Event) : Type 0 where
  pub stream : ℕ
  pub index : ℕ
  pub own_turn : event ≡ Event.OwnTurn (stream + 1) index
  pub exists : stream < s.count
  pub of_the_set : in_set s stream index ≡ true
  -- no earlier request of its queue has its place and its tag
  pub in_order : (k : ℕ) → k < index → alike (stream_at s stream) k index ≡ false

-- "a turn's send may be any request in the set": what may stand for a turn that sends are own turns of requests of the set, and each request of the set has its line among theirs, whatever number the line has. It is there by the own turn of the request or of an earlier one: "two queued requests of one stream with equal place and tag are taken in order of arrival".
abbrev pub AnyRequestMayStand : Type 0
AnyRequestMayStand =
    (s : Session) → sends s Call.Turn ≡ true
    → ((event : Event) → Among event (may_be s Event.Turn) → OfTheSet s event)
    × ((i j : ℕ) → i < s.count → in_set s i j ≡ true
    → (k : ℕ) × (k ≤ j) × Among (Event.OwnTurn (i + 1) k) (may_be s Event.Turn)
    × ((n : ℕ) → line_by s n (Event.OwnTurn (i + 1) k) ≡ line_by s n (Event.OwnTurn (i + 1) j)))

-- no element of a list stands in it again
module _ {A : Type 0} where
  unfoldable pub Once : List A → Type 0
  Once [] = Unit
  Once (x ∷ rest) = (Among x rest → ⊥) × Once rest

-- "the number of the first line that does not follow (the header is line 1) and below it each line that could have stood there, once"
pub record Rejected (file listing : List ℕ) (number : ℕ) (lines : List (List ℕ)) : Type 0 where
  -- the listing is what came before that line, and what stands in its place
  pub before : List ℕ
  pub instead : List ℕ
  pub parts : before ++ instead ≡ listing
  -- before it are so many lines and one less, each of them whole
  pub number_is : number ≡ suc (length (lines_of before))
  pub all_whole : left_of before ≡ []
  -- none of the lines that are listed stands there
  pub none_there : (line later : List ℕ) → Among line lines → instead ≡ line ++ later → ⊥
  -- with each of them there, what came before it can be gone on with, up to a listing that follows
  pub each_could : (line : List ℕ) → Among line lines → (later : List ℕ) × Follows file (before ++ line ++ later)
  -- and with nothing else: a listing that follows and begins with what came before has one of them next, or ends there where none is listed
  pub no_other : (later : List ℕ) → Follows file (before ++ later)
      → ((later ≡ []) × (lines ≡ [])) ⊎ ((line : List ℕ) × (rest : List ℕ) × Among line lines × (later ≡ line ++ rest))
  -- "below a surplus one nothing is printed": where none is listed, what came before follows as it is
  pub surplus : lines ≡ [] → Follows file before
  pub each_once : Once lines

abbrev pub RejectedThere : Type 0
RejectedThere =
    (file listing : List ℕ) (number : ℕ) (lines : List (List ℕ)) → checked_of file listing ≡ rejected number lines
    → Rejected file listing number lines

-- A listing may come in pieces: with what is left of one before the next, the lines and what is left at the end are those of the whole. What is left are the last bytes of a piece, as many as are told.
abbrev pub PiecesJoin : Type 0
PiecesJoin =
    (f : Follower) (trace piece next : List ℕ)
    → let fed = fed_by f trace piece in
    (with_lines f trace (lines_of (piece ++ next)) ≡ with_lines fed.follower trace (lines_of (left_of piece ++ next)))
    × (left_of (piece ++ next) ≡ left_of (left_of piece ++ next))
    × (left_of piece ≡ drop (length piece - fed.left) piece)

-- the call that is made for an event that a session is handed: its own, or for a turn's send an own turn that is answered by 21 too, and so of a request of the set
abbrev pub StandsFor : Session → Event → Call → Type 0
StandsFor s (Event.Arrival stream place tag) k = k ≡ Call.Arrival stream place tag
StandsFor s Event.Turn k =
    ((sends s Call.Turn ≡ false) × (k ≡ Call.Turn))
    ⊎ ((sends s Call.Turn ≡ true) × (sends s k ≡ true) × ((stream : ℕ) × (index : ℕ) × (k ≡ Call.OwnTurn stream index)))
StandsFor s (Event.OwnTurn stream index) k = k ≡ Call.OwnTurn stream index
StandsFor s (Event.Done duration) k = k ≡ Call.Done duration
StandsFor s (Event.Clock time) k = k ≡ Call.Clock time
StandsFor s Event.Malformed k = ⊥

-- one call for each event from i on
unfoldable pub StandFor : Session → List ℕ → ℕ → List Call → Type 0
StandFor s trace i [] = i ≡ events_in trace
StandFor s trace i (k ∷ rest) = StandsFor s (event_at trace i) k × StandFor (answer_to s k).session trace (i + 1) rest

unfoldable pub printed : List Line → List ℕ
printed [] = []
printed (line ∷ rest) = rendered (fields_of line) ++ printed rest

-- What is accepted keeps demand 3: it is what our program prints of some calls, one for each event, and the promise is of those calls as of any. So a listing that follows and has no 26 and no 28 closed every job in time.
pub record Kept (file listing : List ℕ) : Type 0 where
  pub calls : List Call
  pub stand_for : StandFor (session_in file) (trace_in file) 0 calls
  pub prints : listing ≡ rendered header_fields ++ printed (lines_from 1 (session_in file) calls)
  pub always : Always (table_in file) (after (session_in file) calls) (history_of (session_in file) calls)
  pub on_time : Each (λ line. (line.answer ≡ 26 → ⊥) × (line.answer ≡ 28 → ⊥)) (lines_from 1 (session_in file) calls)
      → OnTime (table_in file) (after (session_in file) calls) (history_of (session_in file) calls)

abbrev pub FollowedIsKept : Type 0
FollowedIsKept = (file listing : List ℕ) → opens file ≡ true → Follows file listing → Kept file listing

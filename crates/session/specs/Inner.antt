-- What the outlook and the inner functions answer, and what the inner ones ask of their callers. No rule stands here.
use Rattle.std.specs.Prelude.{true, not, ◌≡◌, ℕ, zero, suc, ◌≤◌, ◌<◌, Option, Some, None}
use Rattle.table.specs.Fold.{if}
use Rattle.table.specs.declared.numbers.Numbers.{Numbers}
use Rattle.table.specs.Ranges.{streams_max, span_max}
use Rattle.time.specs.Time.{moment}
use Rattle.stream.specs.Bounds.{Bounded}
use Rattle.stream.specs.Search.{begun, counted}
use Rattle.stream.specs.declared.census.Census.{Census}
use Rattle.stream.specs.declared.choice.Pick.{Pick}
use Rattle.stream.specs.declared.Stream.{Stream}
use Rattle.session.specs.Session.{stream_at, horizon, some_filled, no_slot, latest, sound}
use Rattle.session.specs.Choice.{leading_at, leading_place, chosen, expiring}
use Rattle.session.specs.Calls.{move_passes_end, Verdict, verdict}
use Rattle.calls.specs.declared.Call.{Call}
use Rattle.session.specs.declared.Session.{Session}
use Rattle.session.specs.declared.searches.Outlook.{Outlook}
use Rattle.session.specs.declared.searches.Survey.{Survey}

-- the horizon and the latest safe moment of a session, if it is sound
abbrev pub outlook_of : Session → Option Outlook
outlook_of s = if (sound s) (Some (record { horizon = moment (horizon s); latest = moment (latest s) })) None

-- a stream's request of the set that would be sent
abbrev pub request_at : Session → ℕ → Pick
request_at s i = record { stream = i; index = leading_at s i; deadline = (stream_at s i).deadline; place = leading_place s i }

-- the request to send, where some slot is filled
abbrev pub pick_of : Session → Option Pick
pick_of s = if (some_filled s) (Some (request_at s (chosen s))) None

-- what a turn without a request to send goes by
abbrev pub survey_of : Session → Survey
survey_of s = record { expiring = if (not (no_slot s)) (Some (expiring s)) None; beyond = move_passes_end s }

-- W, H and k of a session
abbrev pub numbers_kept : Session → Numbers
numbers_kept s = record { worst = s.worst; span = s.span; padding = s.padding }

-- a census with one more stream, if there is one
abbrev pub counted_on : Option Census → Stream → Option Census
counted_on None x = None
counted_on (Some c) x = counted c x

-- what is kept of the first n streams of a session as they are judged, and of the used ones
unfoldable pub census_to : Session → ℕ → Option Census
census_to s zero = begun (numbers_kept s) s.count s.horizon (stream_at s 0)
census_to s (suc n) = counted_on (census_to s n) (stream_at s n)

abbrev pub census_of : Session → Option Census
census_of s = census_to s s.count

-- the numbers of the used streams are those of a sound session, whatever it keeps of them
pub record Bookkept (s : Session) : Type 0 where
  pub some : 1 ≤ s.count
  pub few : s.count ≤ streams_max
  pub span_high : s.span ≤ span_max
  pub each : (i : ℕ) → i < s.count → Bounded s.worst (horizon s) (stream_at s i)

-- the session is sound, and some call comes to this verdict
pub record Due (s : Session) (v : Verdict) : Type 0 where
  pub ok : sound s ≡ true
  pub call : Call
  pub is : verdict s call ≡ v

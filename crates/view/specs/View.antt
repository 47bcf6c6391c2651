-- What a session shows of itself.
use Rattle.std.specs.Prelude.{not, ℕ, ◌-◌, eqb, pos, Result, Ok, Err}
use Rattle.table.specs.Fold.{if}
use Rattle.table.specs.Refusal.{given, ◌or_next◌}
use Rattle.table.specs.Margin.{margin}
use Rattle.time.specs.Time.{moment}
use Rattle.session.specs.Session.{stream_at, horizon, latest, sound}
use Rattle.session.specs.Calls.{no_such_stream}
use Rattle.stream.specs.Stream.{fresh_stream}
use Rattle.session.specs.declared.Session.{Session}
use Rattle.stream.specs.declared.Stream.{Stream}
use Rattle.calls.specs.declared.refusal.Refusal.{Refusal}
use Rattle.calls.specs.declared.refusal.Refusal.TheVariants.{NoStream, Unsound}
use Rattle.view.specs.declared.View.{View}
use Rattle.view.specs.declared.State.{State}
use Rattle.view.specs.declared.Closing.{Closing}

-- clock, "horizon h", "latest safe moment L" and the margin that the session keeps (document 02, Req 05), or 31 "the session handed to a call is not sound" beside zeros
unfoldable pub view_of : Session → View
view_of s =
    if (sound s)
    (record { number = 0; clock = s.clock; horizon = moment (horizon s); latest = moment (latest s); margin = s.margin })
    (record { number = 31; clock = moment 0; horizon = moment 0; latest = moment 0; margin = margin (pos 0) })

-- what refuses to show a stream, counted from 1: 31, then 8
unfoldable pub state_refusal : Session → ℕ → ℕ
state_refusal s n = given (not (sound s)) 31 or_next given (no_such_stream s n) 8

-- the same as an enum, with the stream where nothing refuses
unfoldable pub stream_of : Session → ℕ → Result Stream Refusal
stream_of s n = if (sound s) (if (no_such_stream s n) (Err NoStream) (Ok (stream_at s (n - 1)))) (Err Unsound)

-- one stream's state, or the refusal beside zeros
unfoldable pub state_of : Session → ℕ → State
state_of s n =
    record {
      number = state_refusal s n;
      stream = if (eqb (state_refusal s n) 0) (stream_at s (n - 1)) (fresh_stream 0 0 0);
    }

-- "a record of the last closed job (charge, closing clock, deadline, expired count; all zero before the first)", with what it started with, or the refusal beside zeros
unfoldable pub closing_of : Session → ℕ → Closing
closing_of s n = record { number = (state_of s n).number; job = (state_of s n).stream.last }

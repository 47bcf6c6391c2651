-- When a listing follows from a session file. The quotes are document 02, Req 09.
use Rattle.std.specs.Prelude.{Bool, true, false, ◌&&◌, List, [], ◌∷◌, ◌++◌, ◌⊎◌, ◌≡◌, ℕ, zero, suc, ◌+◌, eqb}
use Rattle.table.specs.Admission.{admission_of}
use Rattle.session.specs.Opening.{opening_of}
use Rattle.session.specs.declared.Session.{Session}
use Rattle.file.specs.Reading.{event_at, events_in, table_in, order_in, trace_in, is_laid_out}
use Rattle.file.specs.declared.event.Event.{Event}
use Rattle.listing.specs.Line.{rendered, header_fields}
use Rattle.trace.specs.Trace.{applied, fields_of, listing_of}
use Rattle.logs.specs.Choices.{may_be}

-- x is an element of a list
module _ {A : Type 0} (x : A) where
  unfoldable pub Among : List A → Type 0
  Among [] = ⊥
  Among (y ∷ rest) = (x ≡ y) ⊎ Among rest

-- the line of event n, which a session is handed
abbrev pub line_by : Session → ℕ → Event → List ℕ
line_by s n event = rendered (fields_of (applied s n event).line)

-- "every line follows from the state before it": of the events from i on, so many of them. A line is that of what may stand for its event, and the state after it is the one that this leaves. After the last there is nothing.
unfoldable pub FollowsFrom : Session → List ℕ → ℕ → ℕ → List ℕ → Type 0
FollowsFrom s trace i zero text = text ≡ []
FollowsFrom s trace i (suc left) text =
    (event : Event) × (later : List ℕ)
    × Among event (may_be s (event_at trace i))
    × (text ≡ line_by s (i + 1) event ++ later)
    × FollowsFrom (applied s (i + 1) event).session trace (i + 1) left later

-- neither reading nor opening refuses the file
abbrev pub opens : List ℕ → Bool
opens file = is_laid_out file && eqb (admission_of (table_in file)) 0

abbrev pub session_in : List ℕ → Session
session_in file = (opening_of (table_in file) (order_in file)).session

-- "accepts it exactly if every line follows": the header, and a line for each event. "For a refused file the one right line is what our program prints."
pub record Follows (file listing : List ℕ) : Type 0 where
  pub opened : opens file ≡ true
      → (later : List ℕ) × (listing ≡ rendered header_fields ++ later) × FollowsFrom (session_in file) (trace_in file) 0 (events_in (trace_in file)) later
  pub refused : opens file ≡ false → listing ≡ listing_of file

-- Worked cases: broken files of one stream, and what is made of them.
use Rattle.std.specs.Prelude.{Bool, true, false, List, [], ◌∷◌, ◌++◌, ℕ, take, drop}
use Rattle.table.specs.Fold.{if}
use Rattle.repair.specs.Salvage.{is_salvageable, contents_change, dropped_at, cut_at, salvaged_file, changes_of}
use Rattle.repair.specs.declared.change.Change.{Change}

-- two entries, of a table of 24 bytes and a trace of so many
abbrev pub contents_for : ℕ → List ℕ
contents_for trace =
    2 ∷ 0 ∷
    1 ∷ 0 ∷ 0 ∷ 0 ∷ 26 ∷ 0 ∷ 0 ∷ 0 ∷ 24 ∷ 0 ∷ 0 ∷ 0 ∷
    2 ∷ 0 ∷ 0 ∷ 0 ∷ 50 ∷ 0 ∷ 0 ∷ 0 ∷ trace ∷ 0 ∷ 0 ∷ 0 ∷ []

-- the table body of so many streams, of which one is there: W 10, H 100, k 1, e 5, p 50
abbrev pub table_for : ℕ → List ℕ
table_for count =
    10 ∷ 0 ∷ 0 ∷ 0 ∷ 100 ∷ 0 ∷ 0 ∷ 0 ∷ 1 ∷ 0 ∷ 0 ∷ 0 ∷ count ∷ 0 ∷ 0 ∷ 0 ∷
    5 ∷ 0 ∷ 0 ∷ 0 ∷ 50 ∷ 0 ∷ 0 ∷ 0 ∷ []

-- an arrival of stream 1 at place 100 with the tag 7, a turn, and a turn of which the last byte is wrong
abbrev pub arrival : List ℕ
arrival = 1 ∷ 1 ∷ 7 ∷ 0 ∷ 0 ∷ 0 ∷ 0 ∷ 0 ∷ 100 ∷ 0 ∷ 0 ∷ 0 ∷ 0 ∷ 0 ∷ 0 ∷ 0 ∷ []

abbrev pub turn : List ℕ
turn = 2 ∷ 0 ∷ 0 ∷ 0 ∷ 0 ∷ 0 ∷ 0 ∷ 0 ∷ 0 ∷ 0 ∷ 0 ∷ 0 ∷ 0 ∷ 0 ∷ 0 ∷ 0 ∷ []

abbrev pub broken : List ℕ
broken = 2 ∷ 0 ∷ 0 ∷ 0 ∷ 0 ∷ 0 ∷ 0 ∷ 0 ∷ 0 ∷ 0 ∷ 0 ∷ 0 ∷ 0 ∷ 0 ∷ 0 ∷ 1 ∷ []

-- a file of these two events, as it should be
abbrev pub sound : List ℕ
sound = contents_for 32 ++ table_for 1 ++ arrival ++ turn

-- what is made of a file: the file and the list, or nothing where it is refused
pub record Outcome : Type 0 where
  pub taken : Bool
  pub file : List ℕ
  pub changes : List Change

pub record Case : Type 0 where
  pub old : List ℕ
  pub expect : Outcome

abbrev pub refused : Outcome
refused = record { taken = false; file = []; changes = [] }

abbrev pub made : List ℕ → List Change → Outcome
made file changes = record { taken = true; file = file; changes = changes }

abbrev pub answer_of : Case → Outcome
answer_of k = if (is_salvageable k.old) (made (salvaged_file k.old) (changes_of k.old)) refused

-- a sound file; one whose first entry has the kind 7; one that says 258 entries
abbrev pub contents_cases : List Case
contents_cases =
    record { old = sound; expect = made sound [] } ∷
    record { old = 2 ∷ 0 ∷ 7 ∷ drop 3 sound; expect = made sound (contents_change ∷ []) } ∷
    record { old = 2 ∷ 1 ∷ drop 2 sound; expect = made sound (contents_change ∷ []) } ∷
    []

-- a broken event in the middle, which the contents count, and one that they do not
abbrev pub dropped_cases : List Case
dropped_cases =
    record { old = contents_for 48 ++ table_for 1 ++ arrival ++ broken ++ turn; expect = made sound (contents_change ∷ dropped_at 66 ∷ []) } ∷
    record { old = contents_for 32 ++ table_for 1 ++ arrival ++ broken ++ turn; expect = made sound (dropped_at 66 ∷ []) } ∷
    []

-- a torn rest, behind events and behind nothing; and all at once
abbrev pub cut_cases : List Case
cut_cases =
    record { old = sound ++ take 5 arrival; expect = made sound (cut_at 82 ∷ []) } ∷
    record { old = contents_for 0 ++ table_for 1 ++ take 15 turn; expect = made (contents_for 0 ++ table_for 1) (cut_at 50 ∷ []) } ∷
    record { old = 9 ∷ drop 1 sound ++ broken ++ take 1 turn; expect = made sound (contents_change ∷ dropped_at 82 ∷ cut_at 98 ∷ []) } ∷
    []

-- refused: a count of 9, a table that is one byte short, 3 in the first two bytes, one byte, and nothing at all
abbrev pub refused_cases : List Case
refused_cases =
    record { old = contents_for 32 ++ table_for 9 ++ arrival ++ turn; expect = refused } ∷
    record { old = take 49 sound; expect = refused } ∷
    record { old = 3 ∷ drop 1 sound; expect = refused } ∷
    record { old = 2 ∷ []; expect = refused } ∷
    record { old = []; expect = refused } ∷
    []

-- a trace of four events, of which the second is broken: what is kept of it, and what is listed where it starts at 50, by how many may be kept
abbrev pub four_events : List ℕ
four_events = arrival ++ broken ++ turn ++ arrival

pub record RoomCase : Type 0 where
  pub room : ℕ
  pub kept : List ℕ
  pub dropped : List Change

abbrev pub room_cases : List RoomCase
room_cases =
    record { room = 4; kept = arrival ++ turn ++ arrival; dropped = dropped_at 66 ∷ [] } ∷
    record { room = 2; kept = arrival ++ turn; dropped = dropped_at 66 ∷ dropped_at 98 ∷ [] } ∷
    record { room = 1; kept = arrival; dropped = dropped_at 66 ∷ dropped_at 82 ∷ dropped_at 98 ∷ [] } ∷
    record { room = 0; kept = []; dropped = dropped_at 50 ∷ dropped_at 66 ∷ dropped_at 82 ∷ dropped_at 98 ∷ [] } ∷
    []

-- What is proved of salvaging.
use Rattle.std.specs.Prelude.{true, false, ◌≡◌, ◌⊎◌, List, [], ◌∷◌, ◌++◌, map, ℕ, suc, ◌+◌, ◌-◌, ◌*◌, ◌%◌, ◌/◌, ◌^◌, ◌≤◌, ◌<◌, eqb, length, take, drop}
use Rattle.std.specs.declared.result.Result.TheVariants.{Ok}
use Rattle.std.specs.Result.{IsOk}
use Rattle.table.specs.Fold.{if, list_to}
use Rattle.order.specs.declared.Order.TheVariants.{Nearest}
use Rattle.cells.specs.Cells.{number_at, Bytes}
use Rattle.file.specs.File.{events_max, event_size, trace_of, file_of}
use Rattle.file.specs.Reading.{events_in, event_at, formed, trace_start, trace_in, table_in, has_contents, laid_out, read_of}
use Rattle.file.specs.declared.form.Form.TheVariants.{Two}
use Rattle.file.specs.declared.event.Event.{Event}
use Rattle.file.specs.declared.Layout.{Layout}
use Rattle.repair.specs.Salvage.{is_salvageable, is_kept, count_in, kept_of, kept_count, salvaged_file, contents_change, pair_of, trace_changes, changes_of, salvage_refusal, salvage_of, salvaged_on, listed_on}
use Rattle.repair.specs.Pieces.{table_end_max, taken_of, changes_in, rest_after, list_of}
use Rattle.repair.specs.Cases.{Case, contents_cases, dropped_cases, cut_cases, refused_cases, answer_of, RoomCase, room_cases, four_events}
use Rattle.repair.specs.declared.Taken.{Taken}
use Rattle.repair.specs.declared.pieces.Rest.{Rest}
use Rattle.repair.specs.declared.change.Change.{Change}

-- ---- what is refused

-- "If the count is above 8, the table is cut short or the first two bytes say 3 it refuses", in numbers: the count is at 38, and 26 bytes of contents, 16 of the table and 8 of each stream are there
pub record Salvageable (old : List ℕ) : Type 0 where
  pub not_three : number_at 2 old 0 ≡ 3 → ⊥
  pub count_high : number_at 4 old 38 ≤ 8
  pub table_whole : 26 + 16 + 8 * number_at 4 old 38 ≤ length old

abbrev pub RefusedAsSaid : Type 0
RefusedAsSaid = (old : List ℕ) → (is_salvageable old ≡ true → Salvageable old) × (Salvageable old → is_salvageable old ≡ true)

-- 16 comes first, whatever the buffers have room for
abbrev pub SixteenComesFirst : Type 0
SixteenComesFirst = (old : List ℕ) (bytes places : ℕ) → is_salvageable old ≡ false → salvage_refusal old bytes places ≡ 16

-- "A refused call returns its number and changes no byte of session or buffer."
abbrev pub RefusedChangesNothing : Type 0
RefusedChangesNothing =
    (old out : List ℕ) (changes : List (List ℕ)) (n : ℕ) → (salvage_of old out changes).number ≡ suc n
    → (salvaged_on old out changes ≡ out) × (listed_on old out changes ≡ changes)

-- A file that is salvaged is no longer than the old one, nor than 64,106 bytes, and each change that is listed stands for 16 bytes of it.
abbrev pub EnoughRoom : Type 0
EnoughRoom =
    (old : List ℕ) → is_salvageable old ≡ true
    → (length (salvaged_file old) ≤ length old) × (length (salvaged_file old) ≤ 64_106) × (16 * length (changes_of old) ≤ length old)

-- So there is no 17 where the buffer has so many bytes and the list a place for every 16 of the old file's.
abbrev pub NeverSeventeen : Type 0
NeverSeventeen =
    (old : List ℕ) (bytes places : ℕ) → is_salvageable old ≡ true → (length old ≤ bytes) ⊎ (64_106 ≤ bytes) → length old / 16 ≤ places
    → salvage_refusal old bytes places ≡ 0

-- ---- what comes out

-- What is answered is there: the file stands at the start of its buffer and the list at the start of its own, and what stood behind them stays.
abbrev pub AnsweredIsThere : Type 0
AnsweredIsThere =
    (old out : List ℕ) (changes : List (List ℕ)) → (salvage_of old out changes).number ≡ 0
    → let n = (salvage_of old out changes).length in
    let k = (salvage_of old out changes).changes in
    let file = salvaged_on old out changes in
    let list = listed_on old out changes in
    (take n file ≡ salvaged_file old) × (drop n file ≡ drop n out) × (take k list ≡ map pair_of (changes_of old)) × (drop k list ≡ drop k changes)

-- "Sound" is what the reader accepts. The table is the one that stood there, and the trace what is kept.
abbrev pub SalvagedIsAccepted : Type 0
SalvagedIsAccepted =
    (old : List ℕ) → Bytes old → is_salvageable old ≡ true
    → let new = salvaged_file old in
    let kept = kept_count events_max (trace_in old) in
    (read_of new ≡ Ok (laid_out Two Nearest (count_in old) (trace_start old) (trace_start old + event_size * kept) kept))
    × (table_in new ≡ table_in old)
    × (trace_in new ≡ kept_of events_max (trace_in old))

-- the sound ones of some events
unfoldable pub sound_ones : List Event → List Event
sound_ones [] = []
sound_ones (e ∷ rest) = if (formed e) (e ∷ sound_ones rest) (sound_ones rest)

-- "of the sound ones the first 4,000 are kept", or as many as there is room for
abbrev pub KeptAreTheFirst : Type 0
KeptAreTheFirst =
    (room : ℕ) (trace : List ℕ) → Bytes trace
    → let sound = take room (sound_ones (list_to (event_at trace) (events_in trace))) in
    (kept_of room trace ≡ trace_of sound) × (kept_count room trace ≡ length sound)

-- "A sound two-entry file comes out equal with an empty list."
abbrev pub SoundComesOutEqual : Type 0
SoundComesOutEqual =
    (file : List ℕ) (layout : Layout) → Bytes file → read_of file ≡ Ok layout → layout.form ≡ Two
    → (is_salvageable file ≡ true) × (salvaged_file file ≡ file) × (changes_of file ≡ [])

-- "Salvaging twice changes nothing more."
abbrev pub TwiceChangesNothing : Type 0
TwiceChangesNothing =
    (old : List ℕ) → Bytes old → is_salvageable old ≡ true
    → let new = salvaged_file old in (is_salvageable new ≡ true) × (salvaged_file new ≡ new) × (changes_of new ≡ [])

-- ---- the list

-- what a change took away is put back where it stood: the 26 bytes of the contents, the 16 of an event, or the tail
unfoldable pub put_back : List ℕ → Change → List ℕ → List ℕ
put_back old change file =
    let at = change.position in
    if (eqb change.kind 1) (take 26 old ++ drop 26 file)
    (take at file ++ (if (eqb change.kind 2) (take event_size (drop at old)) (drop at old) ++ drop at file))

unfoldable pub restored : List ℕ → List Change → List ℕ → List ℕ
restored old [] file = file
restored old (change ∷ rest) file = restored old rest (put_back old change file)

-- "lists each change": with what each change took away put back, in turn, the new file is the old one, byte for byte. So nothing is lost unseen.
abbrev pub ListIsExact : Type 0
ListIsExact = (old : List ℕ) → Bytes old → is_salvageable old ≡ true → restored old (changes_of old) (salvaged_file old) ≡ old

-- So where nothing is listed, nothing was changed.
abbrev pub EmptyListIsEqual : Type 0
EmptyListIsEqual = (old : List ℕ) → Bytes old → is_salvageable old ≡ true → changes_of old ≡ [] → salvaged_file old ≡ old

-- numbers of which each is above the one before it
unfoldable pub AboveEach : ℕ → List ℕ → Type 0
AboveEach low [] = Unit
AboveEach low (n ∷ rest) = (low < n) × AboveEach n rest

-- The list goes up: contents, where they are listed, are at 0, and every other change is behind the one before it, from the trace on.
abbrev pub ListGoesUp : Type 0
ListGoesUp =
    (old : List ℕ) → is_salvageable old ≡ true → AboveEach 0 (map (λ (c : Change). suc c.position) (changes_of old))

-- "(once, at 0, if any of the 26 bytes changes)": it is the first of the list exactly where one does, and the rest is what the trace has
abbrev pub ContentsListedIfChanged : Type 0
ContentsListedIfChanged =
    (old : List ℕ) → Bytes old → is_salvageable old ≡ true
    → let same = take 26 (salvaged_file old) ≡ take 26 old in
    let rest = trace_changes events_max (trace_start old) (trace_in old) in
    (same → changes_of old ≡ rest) × ((same → ⊥) → changes_of old ≡ contents_change ∷ rest)

-- what a change says of the old file: contents are at 0, an event that is dropped is a whole one of its trace, which is not kept, and what is cut is a part of one, up to the end
unfoldable pub InPlace : List ℕ → Change → Type 0
InPlace old change =
    let at = change.position in
    let start = trace_start old in
    ((change.kind ≡ 1) × (at ≡ 0))
    ⊎ ((change.kind ≡ 2)
    × (start ≤ at)
    × ((at - start) % event_size ≡ 0)
    × (at + event_size ≤ length old)
    × (is_kept events_max (trace_in old) ((at - start) / event_size) ≡ false))
    ⊎ ((change.kind ≡ 3) × (start ≤ at) × ((at - start) % event_size ≡ 0) × (at < length old) × (length old < at + event_size))

unfoldable pub AllInPlace : List ℕ → List Change → Type 0
AllInPlace old [] = Unit
AllInPlace old (change ∷ rest) = InPlace old change × AllInPlace old rest

abbrev pub ChangesAreInPlace : Type 0
ChangesAreInPlace = (old : List ℕ) → is_salvageable old ≡ true → AllInPlace old (changes_of old)

-- ---- pieces

-- A trace that is taken starts no further than at 106,
abbrev pub TraceStartsEarly : Type 0
TraceStartsEarly = (old : List ℕ) (taken : Taken) → taken_of old ≡ Ok taken → taken.start ≤ table_end_max

-- so that the first 106 bytes of a file say as much as the whole: what is taken, which table, and whether the contents stay.
abbrev pub HeadIsEnough : Type 0
HeadIsEnough =
    (head more : List ℕ) → table_end_max ≤ length head
    → (taken_of (head ++ more) ≡ taken_of head)
    × (is_salvageable head ≡ true → table_in (head ++ more) ≡ table_in head)
    × ((count events : ℕ) → has_contents Two (head ++ more) count events ≡ has_contents Two head count events)

-- pieces of a trace, the last of which alone may have a torn rest
abbrev pub Pieces : Type 0
Pieces = List (List ℕ)

unfoldable pub Whole : Pieces → Type 0
Whole [] = Unit
Whole (piece ∷ rest) = (length piece % event_size ≡ 0) × Whole rest

unfoldable pub joined : Pieces → List ℕ → List ℕ
joined [] last = last
joined (piece ∷ rest) last = piece ++ joined rest last

-- what is kept of pieces, one after the other, and what is listed of them
unfoldable pub kept_by : ℕ → Pieces → List ℕ → List ℕ
kept_by room [] last = kept_of room last
kept_by room (piece ∷ rest) last = kept_of room piece ++ kept_by (room - kept_count room piece) rest last

unfoldable pub count_by : ℕ → Pieces → List ℕ → ℕ
count_by room [] last = kept_count room last
count_by room (piece ∷ rest) last = kept_count room piece + count_by (room - kept_count room piece) rest last

unfoldable pub listed_by : Rest → Pieces → List ℕ → List Change
listed_by rest [] last = changes_in rest last
listed_by rest (piece ∷ pieces) last = changes_in rest piece ++ listed_by (rest_after rest piece) pieces last

-- A trace may come in pieces of any length, as long as each but the last has whole events.
abbrev pub PiecesAreWhole : Type 0
PiecesAreWhole =
    (pieces : Pieces) (last : List ℕ) → Whole pieces
    → ((room : ℕ) → kept_by room pieces last ≡ kept_of room (joined pieces last))
    × ((room : ℕ) → count_by room pieces last ≡ kept_count room (joined pieces last))
    × ((rest : Rest) → listed_by rest pieces last ≡ changes_in rest (joined pieces last))

-- So what is made of an old file that is read in pieces, from its first bytes and the pieces of its trace, is what is made of it whole: the new file and the list. The first bytes are 106 or more, or all that there are.
abbrev pub InPiecesAsWhole : Type 0
InPiecesAsWhole =
    (head more : List ℕ) (taken : Taken) (pieces : Pieces) (last : List ℕ) → (table_end_max ≤ length head) ⊎ (more ≡ []) → taken_of head ≡ Ok taken
    → Whole pieces → drop taken.start (head ++ more) ≡ joined pieces last
    → let old = head ++ more in
    let kept = count_by events_max pieces last in
    (is_salvageable old ≡ true)
    × (file_of Two Nearest (table_in head) (kept_by events_max pieces last) ≡ salvaged_file old)
    × ((if (has_contents Two head taken.count kept) [] (contents_change ∷ [])) ++ listed_by (record { at = taken.start; room = events_max }) pieces last ≡ changes_of old)

-- A piece is listed whole where there is a place for each of its events and for a torn rest, as long as it ends within 63 bits.
abbrev pub PieceIsListed : Type 0
PieceIsListed =
    (rest : Rest) (piece : List ℕ) (places : ℕ) → (length piece + 15) / 16 ≤ places → rest.at + length piece < 2 ^ 63
    → IsOk (list_of rest piece places)

-- ---- worked cases

abbrev pub AsExpected : List Case → Type 0
AsExpected cases =
    (map (λ (k : Case). (answer_of k).taken) cases ≡ map (λ (k : Case). k.expect.taken) cases)
    × (map (λ (k : Case). (answer_of k).changes) cases ≡ map (λ (k : Case). k.expect.changes) cases)
    × (map (λ (k : Case). (answer_of k).file) cases ≡ map (λ (k : Case). k.expect.file) cases)

abbrev pub CasesHold : Type 0
CasesHold = AsExpected contents_cases × AsExpected dropped_cases × AsExpected cut_cases × AsExpected refused_cases

abbrev pub RoomCasesHold : Type 0
RoomCasesHold =
    (map (λ (k : RoomCase). kept_of k.room four_events) room_cases ≡ map (λ (k : RoomCase). k.kept) room_cases)
    × (map (λ (k : RoomCase). trace_changes k.room 50 four_events) room_cases ≡ map (λ (k : RoomCase). k.dropped) room_cases)

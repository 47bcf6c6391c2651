-- An old file that is longer than any buffer, piece by piece: its first bytes tell where the trace starts, and the trace is taken in pieces, each of whole events but the last.
use Rattle.std.specs.Prelude.{Bool, ◌||◌, List, ℕ, ◌+◌, ◌-◌, ◌^◌, leb, ltb, length}
use Rattle.std.specs.declared.result.Result.{Result}
use Rattle.std.specs.declared.result.Result.TheVariants.{Ok, Err}
use Rattle.table.specs.Fold.{if}
use Rattle.table.specs.Ranges.{streams_max}
use Rattle.file.specs.File.{table_start}
use Rattle.file.specs.Reading.{table_length, trace_start}
use Rattle.file.specs.declared.form.Form.TheVariants.{Two}
use Rattle.file.specs.declared.refusal.Refusal.{Refusal}
use Rattle.file.specs.declared.refusal.Refusal.TheVariants.{Layout as NotLaidOut, Room as NoRoom}
use Rattle.repair.specs.Salvage.{is_salvageable, count_in, kept_count, put_on, trace_changes}
use Rattle.repair.specs.declared.Taken.{Taken}
use Rattle.repair.specs.declared.pieces.Rest.{Rest}
use Rattle.repair.specs.declared.pieces.Listed.{Listed}
use Rattle.repair.specs.declared.change.Change.{Change}

-- the furthest place where a table of two entries ends: so many bytes of a file tell what is taken of it
abbrev pub table_end_max : ℕ
table_end_max = table_start Two + table_length streams_max

-- how many streams there are and where the trace starts, or the refusal
unfoldable pub taken_of : List ℕ → Result Taken Refusal
taken_of old =
    if (is_salvageable old)
    (Ok (record { count = count_in old; start = trace_start old }))
    (Err NotLaidOut)

-- what is changed of a piece, by where the rest of the trace starts and how many of its events may still be kept
abbrev pub changes_in : Rest → List ℕ → List Change
changes_in rest piece = trace_changes rest.room rest.at piece

-- what is left behind a piece
abbrev pub rest_after : Rest → List ℕ → Rest
rest_after rest piece = record { at = rest.at + length piece; room = rest.room - kept_count rest.room piece }

-- a list is refused that has more changes than places, and so is a piece that ends past 63 bits, where no file does
unfoldable pub is_refused : Rest → List ℕ → ℕ → Bool
is_refused rest piece places = ltb places (length (changes_in rest piece)) || leb (2 ^ 63) (rest.at + length piece)

unfoldable pub list_of : Rest → List ℕ → ℕ → Result Listed Refusal
list_of rest piece places =
    if (is_refused rest piece places)
    (Err NoRoom)
    (Ok (record { changes = length (changes_in rest piece); rest = rest_after rest piece }))

unfoldable pub list_on : Rest → List ℕ → List (List ℕ) → List (List ℕ)
list_on rest piece changes =
    if (is_refused rest piece (length changes)) changes (put_on (changes_in rest piece) changes)

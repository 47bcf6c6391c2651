-- What is proved of files of bookings.
use Rattle.std.specs.Prelude.{true, List, [], ◌∷◌, ◌++◌, map, ◌≡◌, ℕ, suc, ◌≤◌, ltb, length, drop, None, Ok}
use Rattle.table.specs.Fold.{if}
use Rattle.table.specs.Admission.{ranges_refusal}
use Rattle.order.specs.declared.Order.TheVariants.{Nearest}
use Rattle.file.specs.File.{file_of}
use Rattle.file.specs.Reading.{part}
use Rattle.file.specs.declared.form.Form.TheVariants.{Two}
use Rattle.listing.specs.Line.{ascii, rendered, receipt_fields}
use Rattle.notes.specs.Words.{all_of}
use Rattle.notes.specs.Notes.{started, read, bytes_read, filed, written_by}
use Rattle.notes.specs.Laws.{composed_of}
use Rattle.booking.specs.Book.{count_in, is_sound}
use Rattle.booking.specs.Bookings.{refused, finished_table}
use Rattle.booking.specs.declared.Book.{Book}
use Rattle.ledger.specs.declared.Entry.TheVariants.{Begin}
use Rattle.ledger.specs.Entry.{entry_of}
use Rattle.ledger.specs.Ledger.{lines_of, line_end, stands, judged_of, replied_to, finished_notes, printed_from, printed_of}
use Rattle.ledger.specs.Cases.{LineCase, line_cases, FileCase, file_cases, PrintCase, print_cases}

-- Who goes on behind the end of each line has all lines of a file: the next one ends there, and behind the last there is none.
abbrev pub LinesByEnds : Type 0
LinesByEnds =
    (file : List ℕ) (start : ℕ) → start ≤ length file
    → let end = line_end file start in
    lines_of (drop start file) ≡ part start end file ∷ if (ltb end (length file)) (lines_of (drop (suc end) file)) []

-- The notes of a finished table are composed to its session file, in two entries and without events.
abbrev pub FinishedIsComposed : Type 0
FinishedIsComposed =
    (b : Book) (buffer out : List ℕ) → is_sound b ≡ true
    → let file = file_of Two Nearest (finished_table b) [] in
    length file ≤ length out
    → composed_of (bytes_read (read started buffer) (finished_notes b)) out
    ≡ filed (Ok (written_by (count_in b) None (length file))) (file ++ drop (length file) out)

-- what is printed of some lines where every booking is refused by 31
unfoldable pub all_refused : List (List ℕ) → List ℕ
all_refused [] = []
all_refused (line ∷ rest) = replied_to (refused 31) (entry_of line) ++ all_refused rest

-- A beginning that is refused leaves an all-zero table: after its reply each booking has 31 0, whatever it is, and no table is printed.
abbrev pub RefusedBeginning : Type 0
RefusedBeginning =
    (b : Book) (line : List ℕ) (rest : List (List ℕ)) (worst span k limit1 limit2 : ℕ)
    → entry_of line ≡ Begin worst span k limit1 limit2
    → (ranges_refusal worst span k ≡ 0 → ⊥)
    → all_of (λ behind. stands true (entry_of behind)) rest ≡ true
    → printed_from b (line ∷ rest) ≡ rendered (receipt_fields (ranges_refusal worst span k) 0) ++ all_refused rest

-- The worked cases come out as they stand there.
abbrev pub CasesHold : Type 0
CasesHold =
    (map (λ (k : LineCase). entry_of (ascii k.line)) line_cases ≡ map (λ (k : LineCase). k.says) line_cases)
    × (map (λ (k : FileCase). judged_of (ascii k.file)) file_cases ≡ map (λ (k : FileCase). k.judged) file_cases)
    × (map (λ (k : PrintCase). printed_of (ascii k.file)) print_cases ≡ map (λ (k : PrintCase). ascii k.printed) print_cases)

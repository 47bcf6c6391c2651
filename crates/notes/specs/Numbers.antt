-- How many numbers or names follow a word, and how large a number may be, as `Line` has it.
use Rattle.std.specs.Prelude.{Bool, true, false, ◌&&◌, ◌||◌, ℕ, ◌^◌, ltb, eqb}
use Rattle.table.specs.Fold.{if}
use Rattle.notes.specs.declared.line.Line.{Line}
use Rattle.notes.specs.declared.line.Line.TheVariants.{Blank, Worst, Span, Padding, Ordered, Stream, Call, Wrong}
use Rattle.notes.specs.declared.draft.Draft.{Draft}
use Rattle.notes.specs.Draft.{takes_name}
use Rattle.notes.specs.Line.{word_line, number_line, pair_line, triple_line, fields_line}

abbrev pub is_right : Line → Bool
is_right Blank = true
is_right (Worst n) = true
is_right (Span n) = true
is_right (Padding n) = true
is_right (Ordered order) = true
is_right (Stream reserved period) = true
is_right (Call event) = true
is_right Wrong = false

-- whether a word is one of notes: some line begins with it
unfoldable pub is_known : ℕ → Bool
is_known word = takes_name word || is_right (word_line word) || is_right (number_line word 0) || is_right (pair_line word 0 0)

-- how many numbers or names it takes at most; of three numbers the last may be left out
unfoldable pub takes : ℕ → ℕ
takes word =
    if (is_right (word_line word)) 0
    (if (takes_name word || is_right (number_line word 0)) 1
    (if (is_right (triple_line word 0 0 0)) 3
    2))

-- whether no number of a line so far is too large, and no name is that of no order: it is a line, or one with a 0 behind its first number
unfoldable pub fits : Draft → Bool
fits d =
    ltb d.fields 2
    || is_right (fields_line d)
    || (eqb d.fields 2 && is_right (pair_line d.word d.last 0))

-- its first number
unfoldable pub first_of : Draft → ℕ
first_of d = if (eqb d.fields 2) d.last (if (eqb d.fields 3) d.before d.earlier)

-- for how many bits there is room where the first of its numbers stands that is too large
unfoldable pub room_at : Draft → ℕ
room_at d =
    if (is_right (number_line d.word (2 ^ 32))) 64
    (if (is_right (number_line d.word 0)) 32
    (if (is_right (pair_line d.word (2 ^ 8) 0)) 32
    (if (is_right (pair_line d.word (first_of d) 0)) (if (eqb d.fields 4) 32 64)
    8)))

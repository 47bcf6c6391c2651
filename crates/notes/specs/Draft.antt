-- A line of notes, read byte by byte: up to four fields, parted by spaces or tabs, and a comment. The first field is a word of up to eight letters; behind it stand numbers, or behind "order" a name, which is such a word too.
use Rattle.std.specs.Prelude.{Bool, true, false, ◌&&◌, ◌||◌, List, [], ◌∷◌, ℕ, ◌+◌, ◌-◌, ◌*◌, ◌^◌, leb, ltb, eqb, Option, None, Some}
use Prim.Native.Char.{code}
use Prim.Native.String.{String}
use Rattle.table.specs.Fold.{if}
use Rattle.listing.specs.Line.{ascii, space, zero_digit}
use Rattle.notes.specs.declared.draft.Place.{Place}
use Rattle.notes.specs.declared.draft.Place.TheVariants.{Between, Within, Comment, Returned, Stray, Amiss}
use Rattle.notes.specs.declared.draft.Draft.{Draft}
use Rattle.notes.specs.declared.draft.Kind.{Kind}
use Rattle.notes.specs.declared.draft.Kind.TheVariants.{Name, Number}

-- a word as it is held: its letters are digits to the base 256
unfoldable pub held_after : ℕ → List ℕ → ℕ
held_after n [] = n
held_after n (letter ∷ rest) = held_after (n * 256 + letter) rest

abbrev pub held : String → ℕ
held word = held_after 0 (ascii word)

-- whether names stand behind a word, and not numbers
unfoldable pub takes_name : ℕ → Bool
takes_name word = eqb word (held "order")

-- a line so far: the place of its last byte, how many fields have begun, the word, and what the last field and the two before it are held as; one that is not there is 0
abbrev pub drafted : Place → ℕ → ℕ → ℕ → ℕ → ℕ → Draft
drafted place fields word earlier before last =
    record { place = place; fields = fields; word = word; earlier = earlier; before = before; last = last }

-- a line before its first byte
abbrev pub blank : Draft
blank = drafted Between 0 0 0 0 0

-- the same line, at another place
abbrev pub placed : Draft → Place → Draft
placed d place = drafted place d.fields d.word d.earlier d.before d.last

-- the same line, of which no right one can come: the field that was begun last is not as it should be
abbrev pub amiss : Draft → Draft
amiss d = placed d Amiss

-- a letter more in a name, or a digit more in a number: what it is held as then, which has room in 64 bits. So a name has up to eight letters.
abbrev pub is_letter : ℕ → Bool
is_letter byte = leb (code "a") byte && leb byte (code "z")

abbrev pub is_digit : ℕ → Bool
is_digit byte = leb zero_digit byte && leb byte (zero_digit + 9)

abbrev pub longer : Bool → ℕ → ℕ → ℕ
longer true n byte = n * 256 + byte
longer false n byte = n * 10 + (byte - zero_digit)

unfoldable pub lengthens : Bool → ℕ → ℕ → Bool
lengthens name n byte = if name (is_letter byte) (is_digit byte) && ltb (longer name n byte) (2 ^ 64)

-- what it is held as then, where there is such a byte and the room
unfoldable pub longer_if : Bool → ℕ → ℕ → Option ℕ
longer_if name n byte = if (lengthens name n byte) (Some (longer name n byte)) None

-- which of the two a word is
abbrev pub is_name_kind : Kind → Bool
is_name_kind Name = true
is_name_kind Number = false

-- a byte more in the word, which is a name, and in a field behind it
unfoldable pub lettered : Draft → ℕ → Draft
lettered d byte =
    if (lengthens true d.word byte) (drafted Within 1 (longer true d.word byte) d.earlier d.before d.last) (amiss d)

unfoldable pub valued : Draft → ℕ → Draft
valued d byte =
    let name = takes_name d.word in
    if (lengthens name d.last byte) (drafted Within d.fields d.word d.earlier d.before (longer name d.last byte)) (amiss d)

-- and in the field that is being read
unfoldable pub in_field : Draft → ℕ → Draft
in_field d byte = if (eqb d.fields 1) (lettered d byte) (valued d byte)

-- the first byte of a field, before which the fields so far move up; a fifth one is too many
unfoldable pub begun : Draft → ℕ → Draft
begun d byte =
    if (ltb d.fields 4) (in_field (drafted Within (d.fields + 1) d.word d.before d.last 0) byte)
    (drafted Amiss 5 d.word d.earlier d.before d.last)

-- what parts fields, what begins a comment, and what may stand before the newline
abbrev pub tab : ℕ
tab = code "\t"

abbrev pub is_gap : ℕ → Bool
is_gap byte = eqb byte space || eqb byte tab

abbrev pub hash : ℕ
hash = code "#"

abbrev pub carriage_return : ℕ
carriage_return = code "\r"

-- a byte after a gap or at the start, and a byte after one of a field
unfoldable pub after_gap : Draft → ℕ → Draft
after_gap d byte =
    if (is_gap byte) d
    (if (eqb byte hash) (placed d Comment)
    (if (eqb byte carriage_return) (placed d Returned)
    (begun d byte)))

unfoldable pub after_field : Draft → ℕ → Draft
after_field d byte =
    if (is_gap byte) (placed d Between)
    (if (eqb byte hash) (placed d Comment)
    (if (eqb byte carriage_return) (placed d Returned)
    (in_field d byte)))

-- a line with a byte more, which is not its newline. After a carriage return there is none in a right line.
abbrev pub continued : Place → Draft → ℕ → Draft
continued Between d byte = after_gap d byte
continued Within d byte = after_field d byte
continued Comment d byte = d
continued Returned d byte = placed d Stray
continued Stray d byte = d
continued Amiss d byte = d

abbrev pub with_byte : Draft → ℕ → Draft
with_byte d byte = continued d.place d byte

-- What a message can quote of a line: its word, and the first number or name that is wrong, or else the last. Of each the first bytes are kept.
use Rattle.std.specs.Prelude.{Bool, true, false, ◌&&◌, ◌||◌, List, ℕ, ◌+◌, ltb, eqb, get_or, set, replicate}
use Rattle.table.specs.Fold.{if}
use Rattle.notes.specs.declared.draft.Place.{Place}
use Rattle.notes.specs.declared.draft.Place.TheVariants.{Between, Within, Comment, Returned, Stray, Amiss}
use Rattle.notes.specs.declared.draft.Draft.{Draft}
use Rattle.notes.specs.declared.heard.Field.{Field}
use Rattle.notes.specs.declared.heard.Heard.{Heard}
use Rattle.notes.specs.Draft.{is_digit, is_gap, hash, carriage_return}
use Rattle.notes.specs.Numbers.{fits}

-- a field: its first 20 bytes, how many there are, and whether each is a digit. One that is longer counts as of 21.
abbrev pub kept : ℕ
kept = 20

abbrev pub field_of : List ℕ → ℕ → Bool → Field
field_of bytes len digits = record { bytes = bytes; len = len; digits = digits }

abbrev pub no_field : Field
no_field = field_of (replicate kept 0) 0 true

unfoldable pub field_with : Field → ℕ → Field
field_with f byte =
    if (ltb f.len kept) (field_of (set f.bytes f.len byte) (f.len + 1) (f.digits && is_digit byte))
    (field_of f.bytes (kept + 1) (f.digits && is_digit byte))

-- whether it begins with a byte order mark
unfoldable pub is_marked : Field → Bool
is_marked f = eqb (get_or f.bytes 0 0) 239 && eqb (get_or f.bytes 1 0) 187 && eqb (get_or f.bytes 2 0) 191

-- what has been heard of a line: its word, a number or a name, and whether the last byte stands in one of them
abbrev pub heard_of : Field → Field → Bool → Heard
heard_of word number inside = record { word = word; number = number; inside = inside }

abbrev pub unheard : Heard
unheard = heard_of no_field no_field false

-- a byte more in the first field, the word, or in the number
unfoldable pub heard_in : Heard → Bool → ℕ → Heard
heard_in h first byte =
    if first (heard_of (field_with h.word byte) h.number true) (heard_of h.word (field_with h.number byte) true)

-- a field begins after a gap; a number that is too large, or a name of no order, stays for the message
abbrev pub opens_at : Place → Draft → Bool
opens_at Between d = fits d
opens_at Within d = false
opens_at Comment d = false
opens_at Returned d = false
opens_at Stray d = false
opens_at Amiss d = false

abbrev pub is_end : ℕ → Bool
is_end byte = is_gap byte || eqb byte hash || eqb byte carriage_return

-- a byte more of a line, which was this one before it. A field goes on to its end, also where it is not as it should be.
unfoldable pub heard_with : Heard → Draft → ℕ → Heard
heard_with h d byte =
    if (is_end byte) (heard_of h.word h.number false)
    (if h.inside (heard_in h (eqb d.fields 1) byte)
    (if (opens_at d.place d) (heard_in (heard_of h.word no_field false) (eqb d.fields 0) byte)
    h))

-- A line of a file of bookings: `begin W H k LIMIT1 LIMIT2`, `add DESK e p` or `withdraw DESK n`. Words, numbers, gaps and comments are those of notes (`Words`).
use Rattle.std.specs.Prelude.{◌&&◌, List, [], ◌∷◌, map, ℕ, eqb}
use Rattle.table.specs.Fold.{if}
use Rattle.listing.specs.Laws.{spelt_after}
use Rattle.notes.specs.Draft.{held_after, held}
use Rattle.notes.specs.Line.{in_word}
use Rattle.notes.specs.Words.{words_of, all_of, is_name, is_number}
use Rattle.booking.specs.declared.Booking.TheVariants.{Add, Withdraw}
use Rattle.ledger.specs.declared.Entry.{Entry}
use Rattle.ledger.specs.declared.Entry.TheVariants.{Blank, Begin, Call, Wrong}

-- the line of a word and its numbers: those of a table have 32 bits, limits and numbers of desks and of their streams 64
abbrev pub numbers_entry : ℕ → List ℕ → Entry
numbers_entry word [] = Wrong
numbers_entry word (a ∷ []) = Wrong
numbers_entry word (desk ∷ number ∷ []) = if (eqb word (held "withdraw")) (Call (Withdraw desk number)) Wrong
numbers_entry word (desk ∷ e ∷ p ∷ []) = if (eqb word (held "add") && in_word e && in_word p) (Call (Add desk e p)) Wrong
numbers_entry word (a ∷ b ∷ c ∷ d ∷ []) = Wrong
numbers_entry word (worst ∷ span ∷ k ∷ limit1 ∷ limit2 ∷ []) =
    if (eqb word (held "begin") && in_word worst && in_word span && in_word k) (Begin worst span k limit1 limit2) Wrong
numbers_entry word (a ∷ b ∷ c ∷ d ∷ e ∷ f ∷ more) = Wrong

-- and of any words
abbrev pub entry_of_words : List (List ℕ) → Entry
entry_of_words [] = Blank
entry_of_words (name ∷ values) =
    if (is_name name && all_of is_number values) (numbers_entry (held_after 0 name) (map (spelt_after 0) values)) Wrong

abbrev pub entry_of : List ℕ → Entry
entry_of line = entry_of_words (words_of line)

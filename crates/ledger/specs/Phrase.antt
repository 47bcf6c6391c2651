-- A line that is read word by word: what the words so far are held as. `Entry` says the same of all words at once.
use Rattle.std.specs.Prelude.{List, [], ◌∷◌, ℕ, ◌+◌, ltb, eqb, get_or, set, replicate, Option, None, Some}
use Rattle.table.specs.Fold.{if}
use Rattle.notes.specs.Words.{read_as}
use Rattle.ledger.specs.Entry.{numbers_entry}
use Rattle.ledger.specs.declared.Entry.{Entry}
use Rattle.ledger.specs.declared.Entry.TheVariants.{Blank, Wrong}
use Rattle.ledger.specs.declared.phrase.Phrase.{Phrase}

-- a name, and at most the five numbers of a beginning
abbrev pub words_most : ℕ
words_most = 6

abbrev pub no_words : Phrase
no_words = record { words = 0; held = replicate words_most 0 }

-- a word more, if it may stand there: the first is a name, and the others are numbers
abbrev pub held_by : Phrase → ℕ → Phrase
held_by p n = record { words = p.words + 1; held = set p.held p.words n }

abbrev pub with_value : Phrase → Option ℕ → Option Phrase
with_value p (Some n) = Some (held_by p n)
with_value p None = None

unfoldable pub with_word : Phrase → List ℕ → Option Phrase
with_word p word = if (ltb p.words words_most) (with_value p (read_as (eqb p.words 0) word)) None

-- what stands between two gaps is a word, if anything does
abbrev pub with_part : Phrase → List ℕ → Option Phrase
with_part p [] = Some p
with_part p (byte ∷ word) = with_word p (byte ∷ word)

-- the words so far, and then others
unfoldable pub with_words : Option Phrase → List (List ℕ) → Option Phrase
with_words None words = None
with_words (Some p) [] = Some p
with_words (Some p) (word ∷ rest) = with_words (with_word p word) rest

-- the line that they make: a line of numbers has two of them, three or five
abbrev pub held_at : Phrase → ℕ → ℕ
held_at p i = get_or p.held i 0

unfoldable pub fields_entry : Phrase → Entry
fields_entry p =
    if (eqb p.words 0) Blank
    (if (eqb p.words 3) (numbers_entry (held_at p 0) (held_at p 1 ∷ held_at p 2 ∷ []))
    (if (eqb p.words 4) (numbers_entry (held_at p 0) (held_at p 1 ∷ held_at p 2 ∷ held_at p 3 ∷ []))
    (if (eqb p.words 6) (numbers_entry (held_at p 0) (held_at p 1 ∷ held_at p 2 ∷ held_at p 3 ∷ held_at p 4 ∷ held_at p 5 ∷ []))
    Wrong)))

abbrev pub phrase_entry : Option Phrase → Entry
phrase_entry None = Wrong
phrase_entry (Some p) = fields_entry p

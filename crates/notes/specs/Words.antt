-- The notation, said of a whole line at once: its words, and the line that they make. `Laws` has that reading byte by byte comes to the same.
use Rattle.std.specs.Prelude.{Bool, true, ◌&&◌, List, [], ◌∷◌, ◌++◌, map, ℕ, ◌^◌, ltb, eqb, Option, None, Some}
use Rattle.table.specs.Fold.{if}
use Rattle.listing.specs.Laws.{spelt_after}
use Rattle.notes.specs.declared.line.Line.{Line}
use Rattle.notes.specs.declared.line.Line.TheVariants.{Blank, Wrong}
use Rattle.notes.specs.Draft.{held_after, takes_name, is_gap, hash, carriage_return, is_letter, is_digit}
use Rattle.notes.specs.Line.{word_line, number_line, pair_line, triple_line}

-- a line without a carriage return at its end
unfoldable pub unreturned : List ℕ → List ℕ
unreturned [] = []
unreturned (byte ∷ []) = if (eqb byte carriage_return) [] (byte ∷ [])
unreturned (byte ∷ next ∷ rest) = byte ∷ unreturned (next ∷ rest)

-- a line without its comment, which begins at #
unfoldable pub uncommented : List ℕ → List ℕ
uncommented [] = []
uncommented (byte ∷ rest) = if (eqb byte hash) [] (byte ∷ uncommented rest)

-- words are parted by one space or tab or more: the words of some bytes, after the start of one; an empty one is none
abbrev pub ended_word : List ℕ → List (List ℕ) → List (List ℕ)
ended_word [] words = words
ended_word (byte ∷ word) words = (byte ∷ word) ∷ words

unfoldable pub words_after : List ℕ → List ℕ → List (List ℕ)
words_after word [] = ended_word word []
words_after word (byte ∷ rest) =
    if (is_gap byte) (ended_word word (words_after [] rest)) (words_after (word ++ (byte ∷ [])) rest)

abbrev pub words_of : List ℕ → List (List ℕ)
words_of line = words_after [] (uncommented (unreturned line))

-- a name is letters, held in 64 bits, and so up to eight of them; a number is digits that spell one of 64 bits
unfoldable pub all_of : {A : Type 0} → (A → Bool) → List A → Bool
all_of test [] = true
all_of test (x ∷ rest) = test x && all_of test rest

unfoldable pub is_name : List ℕ → Bool
is_name word = all_of is_letter word && ltb (held_after 0 word) (2 ^ 64)

unfoldable pub is_number : List ℕ → Bool
is_number word = all_of is_digit word && ltb (spelt_after 0 word) (2 ^ 64)

-- behind a word stand numbers, or names where it takes them: whether one is as it should be, and what it is held as
unfoldable pub is_value : Bool → List ℕ → Bool
is_value names word = if names (is_name word) (is_number word)

unfoldable pub value_of : Bool → List ℕ → ℕ
value_of names word = if names (held_after 0 word) (spelt_after 0 word)

-- what a word is held as, where it is as it should be
unfoldable pub read_as : Bool → List ℕ → Option ℕ
read_as names word = if (is_value names word) (Some (value_of names word)) None

-- the line of some words: a name, and up to three numbers, or names as they are held
abbrev pub numbers_line : ℕ → List ℕ → Line
numbers_line word [] = word_line word
numbers_line word (a ∷ []) = number_line word a
numbers_line word (a ∷ b ∷ []) = pair_line word a b
numbers_line word (a ∷ b ∷ c ∷ []) = triple_line word a b c
numbers_line word (a ∷ b ∷ c ∷ d ∷ more) = Wrong

abbrev pub line_of_words : List (List ℕ) → Line
line_of_words [] = Blank
line_of_words (name ∷ values) =
    let names = takes_name (held_after 0 name) in
    if (is_name name && all_of (is_value names) values) (numbers_line (held_after 0 name) (map (value_of names) values)) Wrong

-- What is proved of lines.
use Rattle.std.specs.Prelude.{◌≡◌, List, [], ◌∷◌, ◌++◌, map, ℕ, ◌+◌, ◌-◌, ◌*◌, ◌^◌, ◌≤◌, ◌<◌, length}
use Rattle.listing.specs.Line.{ascii, space, newline, zero_digit, decimal, rendered, header_fields, refused_word, tally_header_fields, total_fields, accepted_fields, text_size, text_of}
use Rattle.listing.specs.Cases.{Case, cases}

-- each element of a list has what P says
module _ {A : Type 0} (P : A → Type 0) where
  unfoldable pub Each : List A → Type 0
  Each [] = Unit
  Each (x ∷ rest) = P x × Each rest

-- Each printed line of document 01, and each kind of line of a tally and on a listing, comes out byte for byte.
abbrev pub CasesHold : Type 0
CasesHold = map (λ (k : Case). rendered k.fields) cases ≡ map (λ (k : Case). ascii k.document) cases

-- the number that digits spell, read from the left, after a number that was read before them
unfoldable pub spelt_after : ℕ → List ℕ → ℕ
spelt_after n [] = n
spelt_after n (digit ∷ rest) = spelt_after (n * 10 + (digit - zero_digit)) rest

-- A number reads back from its decimal.
abbrev pub DecimalReadsBack : Type 0
DecimalReadsBack = (n : ℕ) → spelt_after 0 (decimal n) ≡ n

-- A decimal consists of digits.
abbrev pub Digit : ℕ → Type 0
Digit byte = (zero_digit ≤ byte) × (byte ≤ zero_digit + 9)

abbrev pub DecimalIsDigits : Type 0
DecimalIsDigits = (n : ℕ) → Each Digit (decimal n)

-- A decimal that begins with a zero is that zero alone.
abbrev pub NoNeedlessZero : List ℕ → Type 0
NoNeedlessZero text = (rest : List ℕ) → text ≡ zero_digit ∷ rest → rest ≡ []

abbrev pub NoLeadingZero : Type 0
NoLeadingZero = (n : ℕ) → NoNeedlessZero (decimal n)

-- And nothing else is one: digits without a needless zero are the decimal of the number that they spell.
abbrev pub OneDecimal : Type 0
OneDecimal =
    (text : List ℕ) → 1 ≤ length text → Each Digit text → NoNeedlessZero text → decimal (spelt_after 0 text) ≡ text

-- a field: one byte or more, each above the space, and so above the newline
abbrev pub Field : List ℕ → Type 0
Field field = (1 ≤ length field) × Each (λ byte. space < byte) field

-- What the programs print consists of fields: the headers, `total`, `accepted`, numbers as in the line of an event, and a refusal.
abbrev pub PrintsFields : Type 0
PrintsFields =
    Each Field header_fields
    × Each Field tally_header_fields
    × Each Field total_fields
    × Each Field accepted_fields
    × ((numbers : List ℕ) → Each Field (map decimal numbers) × Each Field (refused_word ∷ map decimal numbers))

-- A line tells its fields, however many: equal lines have equal fields, whatever lines come after them.
abbrev pub LinesTell : Type 0
LinesTell =
    (a b : List (List ℕ)) (after-a after-b : List ℕ) → Each Field a → Each Field b
    → rendered a ++ after-a ≡ rendered b ++ after-b
    → (a ≡ b) × (after-a ≡ after-b)

abbrev pub FieldsTell : Type 0
FieldsTell = (a b : List (List ℕ)) → Each Field a → Each Field b → rendered a ≡ rendered b → a ≡ b

-- So a line of numbers tells its numbers.
abbrev pub NumbersTell : Type 0
NumbersTell = (a b : List ℕ) → rendered (map decimal a) ≡ rendered (map decimal b) → a ≡ b

-- A line has one newline, its last byte.
abbrev pub NewlineEnds : Type 0
NewlineEnds =
    (fields : List (List ℕ)) → Each Field fields
    → (front : List ℕ) × (rendered fields ≡ front ++ (newline ∷ [])) × Each (λ byte. byte ≡ newline → ⊥) front

-- Header, refusal and the line of an event are told apart, whatever numbers stand in them.
abbrev pub KindsDiffer : Type 0
KindsDiffer =
    (number : ℕ) (others refusal : List ℕ)
    → (rendered header_fields ≡ rendered (refused_word ∷ map decimal refusal) → ⊥)
    × (rendered header_fields ≡ rendered (map decimal (number ∷ others)) → ⊥)
    × (rendered (refused_word ∷ map decimal refusal) ≡ rendered (map decimal (number ∷ others)) → ⊥)

-- a field that is no longer than a number of 64 bits may be
abbrev pub Short : List ℕ → Type 0
Short field = length field ≤ 20

abbrev pub DecimalIsShort : Type 0
DecimalIsShort = (n : ℕ) → n < 2 ^ 64 → Short (decimal n)

-- The text of up to six short fields holds their line whole: there is room for it among the bytes of a text, and what is handed over is the line.
abbrev pub TextHoldsLine : Type 0
TextHoldsLine =
    (fields : List (List ℕ)) → Each Short fields → length fields ≤ 6
    → (length (text_of fields) ≤ text_size) × (text_of fields ≡ rendered fields)

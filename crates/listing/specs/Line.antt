-- What the programs print, as bytes: "a header, then a line per event, fields parted by one space, numbers in decimal, each line ended by a newline", or one line that says `refused N`, or `refused 7 N`; the lines of a tally; what is said of a listing; and the replies to bookings.
use Rattle.std.specs.Prelude.{List, [], ◌∷◌, ◌++◌, map, ℕ, zero, suc, ◌+◌, ◌/◌, ◌%◌, take}
use Prim.Native.Char.{code}
use Prim.Native.String.{String}

-- the bytes of a word, one for each of its letters
unfoldable pub ascii : String → List ℕ
ascii String.[] = []
ascii (String.◌∷◌ letter rest) = code letter ∷ ascii rest

abbrev pub space : ℕ
space = code " "

abbrev pub newline : ℕ
newline = code "\n"

abbrev pub zero_digit : ℕ
zero_digit = code "0"

-- the last digit of n
abbrev pub last_digit : ℕ → List ℕ
last_digit n = (zero_digit + n % 10) ∷ []

-- the digits of n, the highest first: those of n / 10, and then the last; 0 has none. So many divisions are made at most.
unfoldable pub digits : ℕ → ℕ → List ℕ
digits zero n = []
digits (suc divisions) zero = []
digits (suc divisions) (suc m) = digits divisions (suc m / 10) ++ last_digit (suc m)

-- "numbers in decimal": n divisions are enough, and 0 is one zero
unfoldable pub decimal : ℕ → List ℕ
decimal zero = zero_digit ∷ []
decimal (suc m) = digits (suc m) (suc m)

-- "fields parted by one space": what follows the first of them, "ended by a newline"
unfoldable pub onward : List (List ℕ) → List ℕ
onward [] = newline ∷ []
onward (field ∷ rest) = space ∷ (field ++ onward rest)

-- the line of some fields, however many
unfoldable pub rendered : List (List ℕ) → List ℕ
rendered [] = newline ∷ []
rendered (field ∷ rest) = field ++ onward rest

-- "a header", and by document 02, Req 07, "the header gets the word `tag`"
unfoldable pub header_fields : List (List ℕ)
header_fields = map ascii ("event" ∷ "answer" ∷ "stream" ∷ "value" ∷ "clock" ∷ "tag" ∷ [])

-- a line per event: "its number from 1, the reply, the stream, .. the value, .. the clock afterwards", and by document 02, Req 07, "a last field, the tag of the request sent or done, else 0"
unfoldable pub event_fields : ℕ → ℕ → ℕ → ℕ → ℕ → ℕ → List (List ℕ)
event_fields number answer stream value clock tag = map decimal (number ∷ answer ∷ stream ∷ value ∷ clock ∷ tag ∷ [])

-- a word, and numbers behind it: the first 20 bytes of the word and the first five numbers, since a text has room for no more
unfoldable pub worded_fields : List ℕ → List ℕ → List (List ℕ)
worded_fields word numbers = take 20 word ∷ map decimal (take 5 numbers)

-- "If reading or opening refuses it prints `refused N`, nothing more." Document 02, Req 05: "the program prints `refused 7 N` with N the amount over the span. Other refusals [...] print as before": the amount over stands behind the number where there is one.
abbrev pub refused_word : List ℕ
refused_word = ascii "refused"

unfoldable pub refused_fields : ℕ → ℕ → List (List ℕ)
refused_fields number zero = worded_fields refused_word (number ∷ [])
refused_fields number (suc n) = worded_fields refused_word (number ∷ suc n ∷ [])

-- A tally (document 02's Req 01) has a header, and a line per stream: its number, "jobs closed, jobs closed after their deadline, slots expired, total disk time, and the largest single completion".
unfoldable pub tally_header_fields : List (List ℕ)
tally_header_fields = map ascii ("stream" ∷ "jobs" ∷ "late" ∷ "expired" ∷ "time" ∷ "largest" ∷ [])

unfoldable pub tally_fields : ℕ → ℕ → ℕ → ℕ → ℕ → ℕ → List (List ℕ)
tally_fields stream jobs late expired time largest =
    map decimal (stream ∷ jobs ∷ late ∷ expired ∷ time ∷ largest ∷ [])

-- the line before the totals over all files
abbrev pub total_fields : List (List ℕ)
total_fields = worded_fields (ascii "total") []

-- Of another dispatcher's listing (document 02's Req 09) "It prints `accepted`, or the number of the first line that does not follow".
abbrev pub accepted_fields : List (List ℕ)
accepted_fields = worded_fields (ascii "accepted") []

abbrev pub place_fields : ℕ → List (List ℕ)
place_fields number = map decimal (number ∷ [])

-- Of a file of bookings (document 02's Req 10) each booking has a line: the reply, and how many streams the desk has then, or 0.
abbrev pub receipt_fields : ℕ → ℕ → List (List ℕ)
receipt_fields number value = map decimal (number ∷ value ∷ [])

-- a line as the code hands it over: its bytes, of which there is room for so many
abbrev pub text_size : ℕ
text_size = 128

abbrev pub text_holding : List ℕ → List ℕ
text_holding line = line

-- the line of some fields, handed over so
unfoldable pub text_of : List (List ℕ) → List ℕ
text_of fields = text_holding (rendered fields)

-- A line of notes is taken as what its words say; and a line that is shown is read as that line.
use Rattle.std.specs.Prelude.{Option, None}
use mathlib.Core.Bool.{Bool, true, false, false≢true}
use mathlib.Core.Path.{◌≡◌, refl, sym, ap, ◌∙◌}
use mathlib.Core.List.{List, [], ◌∷◌, ◌++◌, map}
use Prim.Native.Nat.{ℕ, zero, suc, ◌+◌, ◌^◌, ◌≤◌, ◌<◌}
use native.Mathlib.Omega.{arith}
use native.Mathlib.Nat.{not-suc-le-zero}
use lib.Dec.{eqb}
use lib.ListN.{length}
use borrow.Author.Tests.{ne_eqb, lt-ltb, le-leb}
use Rattle.table.specs.Fold.{if}
use Rattle.table.specs.declared.Table.{Table}
use Rattle.order.specs.declared.Order.{Order}
use Rattle.order.specs.declared.Order.TheVariants.{Nearest, Sweep}
use Rattle.file.specs.declared.form.Form.{Form}
use Rattle.file.specs.declared.event.Event.TheVariants.{Arrival, Turn, OwnTurn, Done, Clock, Malformed}
use Rattle.listing.specs.Line.{ascii, space, newline, zero_digit, decimal, onward, rendered, worded_fields}
use Rattle.listing.specs.Laws.{Each, Digit, spelt_after}
use Rattle.listing.proofs.Decimal.{decimal_reads_back, decimal_is_digits, decimal_some, spelt_grows}
use Rattle.notes.specs.declared.Notes.{Notes}
use Rattle.notes.specs.declared.line.Line.{Line}
use Rattle.notes.specs.declared.line.Line.TheVariants.{Blank, Worst, Span, Padding, Ordered, Stream, Call, Wrong}
use Rattle.notes.specs.declared.draft.Place.TheVariants.{Between, Within}
use Rattle.notes.specs.declared.draft.Draft.{Draft}
use Rattle.notes.specs.declared.heard.Heard.{Heard}
use Rattle.notes.specs.Draft.{held_after, held, takes_name, drafted, blank, tab, is_gap, hash, carriage_return, longer, lengthens, lettered, valued, in_field, begun, after_gap, after_field, with_byte}
use Rattle.notes.specs.Line.{word_line, order_line, table_line, number_line, stream_line, pair_line, triple_line, fields_line, line_of}
use Rattle.notes.specs.Heard.{unheard, heard_with}
use Rattle.notes.specs.Notes.{noted, stopped, after_number, takes_order, after_order, after_stream, began_by, after_event, after, expected_by, Read, read, line_refusal, refused_by, trace_after, line_ended, byte_read, bytes_read}
use Rattle.notes.specs.Laws.{LineReadsBack, drawn, LineIsJudged}
use Rattle.notes.specs.Words.{words_of, line_of_words}
use Rattle.notes.proofs.Choices.{byte_lengthens}
use Rattle.notes.proofs.Grammar.{value_begins, value_goes_on, line_by_words}

-- ---- digits

-- a digit that a number has room for lengthens it
digit_lengthens : (n byte : ℕ) → Digit byte → longer false n byte < 2 ^ 64 → lengthens false n byte ≡ true
unfolding lengthens if
digit_lengthens n byte d h =
    rw (le-leb zero_digit byte d.0, le-leb byte (zero_digit + 9) d.1, lt-ltb (longer false n byte) (2 ^ 64) h)

-- a digit is no gap, begins no comment and is no carriage return
no_gap : (byte : ℕ) → Digit byte → is_gap byte ≡ false
no_gap byte d = rw (ne_eqb byte space (λ e. omega (arith, d.0, e)), ne_eqb byte tab (λ e. omega (arith, d.0, e)))

no_hash : (byte : ℕ) → Digit byte → eqb byte hash ≡ false
no_hash byte d = ne_eqb byte hash (λ e. omega (arith, d.0, e))

no_return : (byte : ℕ) → Digit byte → eqb byte carriage_return ≡ false
no_return byte d = ne_eqb byte carriage_return (λ e. omega (arith, d.0, e))

-- the next digit of a number, and the first, behind a word that takes numbers
module _ (k w earlier before n byte : ℕ) (d : Digit byte) (numbers : takes_name w ≡ false) where
  number_on : longer false n byte < 2 ^ 64 → with_byte (drafted Within (suc (suc k)) w earlier before n) byte ≡ drafted Within (suc (suc k)) w earlier before (longer false n byte)
  unfolding after_field valued if
  number_on h = rw (no_gap byte d, no_hash byte d, no_return byte d, value_goes_on k w earlier before n byte, numbers, digit_lengthens n byte d h)

  number_from : suc k < 4 → longer false 0 byte < 2 ^ 64 → with_byte (drafted Between (suc k) w earlier before n) byte ≡ drafted Within (suc (suc k)) w before n (longer false 0 byte)
  unfolding after_gap valued if
  number_from few h = rw (no_gap byte d, no_hash byte d, no_return byte d, value_begins k w earlier before n byte few, numbers, digit_lengthens 0 byte d h)

-- ---- digits and letters, one after the other

-- a number behind k others: `gap` is the line before it, `number n` the line where it is n so far
module _ (k w earlier before last : ℕ) (few : suc k < 4) (numbers : takes_name w ≡ false) where
  abbrev gap : Draft
  gap = drafted Between (suc k) w earlier before last

  abbrev number : ℕ → Draft
  number n = drafted Within (suc (suc k)) w before last n

  digits_on : (ds : List ℕ) (n : ℕ) → Each Digit ds → spelt_after n ds < 2 ^ 64 → drawn (number n) ds ≡ number (spelt_after n ds)
  unfolding drawn spelt_after Each
  digits_on [] n p h = refl
  digits_on (d ∷ ds) n p h =
      ap (λ (e : Draft). drawn e ds) (number_on k w before last n d p.0 numbers (omega (arith, spelt_grows (longer false n d) ds, h)))
      ∙ digits_on ds (longer false n d) p.1 h

  digits_from : (ds : List ℕ) → 1 ≤ length ds → Each Digit ds → spelt_after 0 ds < 2 ^ 64 → drawn gap ds ≡ number (spelt_after 0 ds)
  unfolding drawn spelt_after Each
  digits_from [] some p h = absurd (not-suc-le-zero some)
  digits_from (d ∷ ds) some p h =
      ap (λ (e : Draft). drawn e ds) (number_from k w earlier before last d p.0 numbers few (omega (arith, spelt_grows (longer false 0 d) ds, h)))
      ∙ digits_on ds (longer false 0 d) p.1 h

  number_drawn : (n : ℕ) → n < 2 ^ 64 → drawn gap (decimal n) ≡ number n
  number_drawn n h =
      let back = decimal_reads_back n in
      digits_from (decimal n) (decimal_some n) (decimal_is_digits n) (rw back h) ∙ ap number back

-- a line with so many numbers more
unfoldable more : Draft → List ℕ → Draft
more d [] = d
more d (n ∷ ns) = more (drafted Within (suc d.fields) d.word d.before d.last n) ns

-- what is heard of a line, byte after byte
unfoldable hearing : Heard → Draft → List ℕ → Heard
hearing h d [] = h
hearing h d (byte ∷ rest) = hearing (heard_with h d byte) (with_byte d byte) rest

digits_no_newline : (ds : List ℕ) → Each Digit ds → Each (λ byte. byte ≡ newline → ⊥) ds
unfolding Each
digits_no_newline [] p = tt
digits_no_newline (d ∷ ds) p = (λ e. omega (arith, p.0.0, e), digits_no_newline ds p.1)

-- ---- a line, read byte by byte

module _ (line numbers : ℕ) (form : Form) (order : Order) (table : Table) (events : ℕ) (began : Option ℕ) (trace : List ℕ) where
  -- the notes with a line so far, and what is heard of it
  abbrev so_far : Draft → Heard → Notes
  so_far d h = record { line = line; numbers = numbers; form = form; order = order; table = table; events = events; began = began; draft = d; heard = h; refused = None; wrong = false }

  abbrev at_draft : Draft → Heard → Read
  at_draft d h = read (so_far d h) trace

  bytes_drawn : (bytes : List ℕ) (d : Draft) (h : Heard) → Each (λ byte. byte ≡ newline → ⊥) bytes
      → (rest : List ℕ) → bytes_read (at_draft d h) (bytes ++ rest) ≡ bytes_read (at_draft (drawn d bytes) (hearing h d bytes)) rest
  unfolding bytes_read drawn hearing Each
  bytes_drawn [] d h p rest = refl
  bytes_drawn (byte ∷ bytes) d h p rest =
      ap (λ (r : Read). bytes_read r (bytes ++ rest)) (byte_lengthens (so_far d h) trace byte refl p.0)
      ∙ bytes_drawn bytes (with_byte d byte) (heard_with h d byte) p.1 rest

  -- some bytes end as this line, whatever is heard of it
  record Ends (start : Read) (bytes : List ℕ) (d : Draft) : Type 0 where
    hears : Heard
    are : bytes_read start bytes ≡ line_ended (so_far d hears) trace

  number_read : (gap : Draft) (h : Heard) (n : ℕ) (d : Draft) → drawn gap (decimal n) ≡ d
      → (rest : List ℕ) → bytes_read (at_draft gap h) (decimal n ++ rest) ≡ bytes_read (at_draft d (hearing h gap (decimal n))) rest
  number_read gap h n d is rest =
      bytes_drawn (decimal n) gap h (digits_no_newline (decimal n) (decimal_is_digits n)) rest
      ∙ ap (λ (e : Draft). bytes_read (at_draft e (hearing h gap (decimal n))) rest) is

  -- the numbers behind k others, and the newline
  numbers_end : (ns : List ℕ) (k w earlier before last : ℕ) (h : Heard) → takes_name w ≡ false → suc k + length ns ≤ 4 → Each (λ n. n < 2 ^ 64) ns
      → let d = drafted Within (suc k) w earlier before last in
      Ends (at_draft d h) (onward (map decimal ns)) (more d ns)
  unfolding more onward bytes_read byte_read if after_field Each
  numbers_end [] k w earlier before last h takes few p = record { hears = h; are = refl }
  numbers_end (n ∷ ns) k w earlier before last h takes few p =
      let between = drafted Between (suc k) w earlier before last in
      let next = drafted Within (suc (suc k)) w before last n in
      let heard = heard_with h (drafted Within (suc k) w earlier before last) space in
      let others = numbers_end ns (suc k) w before last n (hearing heard between (decimal n)) takes (omega (arith, few)) p.1 in
      record {
        hears = others.hears;
        are =
            number_read between heard n next (number_drawn k w earlier before last (omega (arith, few)) takes n p.0) (onward (map decimal ns))
            ∙ others.are;
      }

  -- each word that takes numbers, letter by letter
  abbrev word_of : List ℕ → Draft
  word_of text = drafted Within 1 (held_after 0 text) 0 0 0

  record Word (text : List ℕ) : Type 0 where
    takes : takes_name (held_after 0 text) ≡ false
    drawn_so : (rest : List ℕ) → bytes_read (at_draft blank unheard) (text ++ rest) ≡ bytes_read (at_draft (word_of text) (hearing unheard blank text)) rest

  words : Word (ascii "worst")
      × Word (ascii "span")
      × Word (ascii "padding")
      × Word (ascii "stream")
      × Word (ascii "arrival")
      × Word (ascii "turn")
      × Word (ascii "own")
      × Word (ascii "done")
      × Word (ascii "clock")
  unfolding ascii held_after takes_name bytes_read byte_read if after_gap after_field begun in_field lengthens lettered hearing
  words = (
    record { takes = refl; drawn_so = λ rest. refl },
    record { takes = refl; drawn_so = λ rest. refl },
    record { takes = refl; drawn_so = λ rest. refl },
    record { takes = refl; drawn_so = λ rest. refl },
    record { takes = refl; drawn_so = λ rest. refl },
    record { takes = refl; drawn_so = λ rest. refl },
    record { takes = refl; drawn_so = λ rest. refl },
    record { takes = refl; drawn_so = λ rest. refl },
    record { takes = refl; drawn_so = λ rest. refl },
  )

  word_ends : (text ns : List ℕ) → Word text → length ns ≤ 3 → Each (λ n. n < 2 ^ 64) ns → Ends (at_draft blank unheard) (text ++ onward (map decimal ns)) (more (word_of text) ns)
  word_ends text ns word few p =
      let e = numbers_end ns 0 (held_after 0 text) 0 0 0 (hearing unheard blank text) word.takes (omega (arith, few)) p in
      record { hears = e.hears; are = word.drawn_so (onward (map decimal ns)) ∙ e.are }

  -- each order's line, and the newline
  abbrev order_of : List ℕ → Draft
  order_of name = drafted Within 2 (held "order") 0 0 (held_after 0 name)

  nearest_read : Ends (at_draft blank unheard) (ascii "order nearest" ++ onward []) (order_of (ascii "nearest"))
  unfolding ascii held_after takes_name onward bytes_read byte_read if after_gap after_field begun in_field lengthens lettered valued hearing
  nearest_read = record { hears = hearing unheard blank (ascii "order nearest"); are = refl }

  sweep_read : Ends (at_draft blank unheard) (ascii "order sweep" ++ onward []) (order_of (ascii "sweep"))
  unfolding ascii held_after takes_name onward bytes_read byte_read if after_gap after_field begun in_field lengthens lettered valued hearing
  sweep_read = record { hears = hearing unheard blank (ascii "order sweep"); are = refl }

  blank_read : Ends (at_draft blank unheard) (onward []) blank
  unfolding onward bytes_read byte_read if
  blank_read = record { hears = unheard; are = refl }

  -- ---- the line that has ended is taken as what it was read as

  same_choice : (b : Bool) (x y z : Notes) → (if b x y).wrong ≡ false → y.wrong ≡ true → if b x z ≡ if b x y
  unfolding if
  same_choice true x y z h w = refl
  same_choice false x y z h w = absurd (false≢true (sym h ∙ w))

  abbrev before : Notes
  before = noted line numbers form order table events began

  after_same : (d : Draft) (k : Heard) (l : Line) → (after before l).wrong ≡ false → after (so_far d k) l ≡ after before l
  unfolding after_number takes_order after_order after_stream began_by after_event
  after_same d k Blank h = refl
  after_same d k (Worst x) h = same_choice _ _ (stopped before) (stopped (so_far d k)) h refl
  after_same d k (Span x) h = same_choice _ _ (stopped before) (stopped (so_far d k)) h refl
  after_same d k (Padding x) h = same_choice _ _ (stopped before) (stopped (so_far d k)) h refl
  after_same d k (Ordered o) h = same_choice _ _ (stopped before) (stopped (so_far d k)) h refl
  after_same d k (Stream e p) h = same_choice _ _ (stopped before) (stopped (so_far d k)) h refl
  after_same d k (Call event) h = same_choice _ _ (stopped before) (stopped (so_far d k)) h refl
  after_same d k Wrong h = absurd (false≢true (sym h))

  abbrev ending : Line → Notes → Read
  ending l next = if next.wrong (read next trace) (read (refused_by next (line_refusal trace events l)) (trace_after trace events l))

  taken_as : (d : Draft) (k : Heard) (l : Line) → line_of d ≡ l → (after before l).wrong ≡ false
      → line_ended (so_far d k) trace ≡ read (refused_by (after before l) (line_refusal trace events l)) (trace_after trace events l)
  unfolding line_ended if
  taken_as d k l is h =
      ap (λ (m : Line). ending m (after (so_far d k) m)) is
      ∙ ap (λ (next : Notes). ending l next) (after_same d k l h)
      ∙ ap (λ (b : Bool). if b (read (after before l) trace) (read (refused_by (after before l) (line_refusal trace events l)) (trace_after trace events l))) h

  -- and a line that may not stand there stops the reading
  stops_choice : (b : Bool) (x y z : Notes) → (if b x y).wrong ≡ true → x.wrong ≡ false → if b x z ≡ z
  unfolding if
  stops_choice true x y z h w = absurd (false≢true (sym w ∙ h))
  stops_choice false x y z h w = refl

  after_stops : (d : Draft) (k : Heard) (l : Line) → (after before l).wrong ≡ true → after (so_far d k) l ≡ stopped (so_far d k)
  unfolding after_number takes_order after_order after_stream began_by after_event
  after_stops d k Blank h = absurd (false≢true h)
  after_stops d k (Worst x) h = stops_choice _ _ (stopped before) (stopped (so_far d k)) h refl
  after_stops d k (Span x) h = stops_choice _ _ (stopped before) (stopped (so_far d k)) h refl
  after_stops d k (Padding x) h = stops_choice _ _ (stopped before) (stopped (so_far d k)) h refl
  after_stops d k (Ordered o) h = stops_choice _ _ (stopped before) (stopped (so_far d k)) h refl
  after_stops d k (Stream e p) h = stops_choice _ _ (stopped before) (stopped (so_far d k)) h refl
  after_stops d k (Call event) h = stops_choice _ _ (stopped before) (stopped (so_far d k)) h refl
  after_stops d k Wrong h = refl

  not_taken : (d : Draft) (k : Heard) (l : Line) → line_of d ≡ l → (after before l).wrong ≡ true → line_ended (so_far d k) trace ≡ read (stopped (so_far d k)) trace
  unfolding line_ended if
  not_taken d k l is h =
      ap (λ (m : Line). ending m (after (so_far d k) m)) is
      ∙ ap (λ (next : Notes). ending l next) (after_stops d k l h)

  -- ---- any line

  line_drawn : (bytes : List ℕ) → Each (λ byte. byte ≡ newline → ⊥) bytes
      → bytes_read (at_draft blank unheard) (bytes ++ (newline ∷ [])) ≡ line_ended (so_far (drawn blank bytes) (hearing unheard blank bytes)) trace
  unfolding bytes_read byte_read if
  line_drawn bytes p = bytes_drawn bytes blank unheard p (newline ∷ [])

  line_taken : (bytes : List ℕ) (d : Draft) (l : Line) → Ends (at_draft blank unheard) bytes d → line_of d ≡ l → (after before l).wrong ≡ false
      → bytes_read (read before trace) bytes ≡ read (refused_by (after before l) (line_refusal trace events l)) (trace_after trace events l)
  line_taken bytes d l e is h = e.are ∙ taken_as d e.hears l is h

  -- a line of a word and up to three numbers
  worded_taken : (text ns : List ℕ) (l : Line) → Word text → length ns ≤ 3 → Each (λ n. n < 2 ^ 64) ns → line_of (more (word_of text) ns) ≡ l → (after before l).wrong ≡ false
      → bytes_read (read before trace) (text ++ onward (map decimal ns)) ≡ read (refused_by (after before l) (line_refusal trace events l)) (trace_after trace events l)
  worded_taken text ns l word few p is h = line_taken _ (more (word_of text) ns) l (word_ends text ns word few p) is h

pub line_is_judged : LineIsJudged
unfolding takes_order expected_by
line_is_judged i k m o t e g trace bytes p =
    let d = drawn blank bytes in
    let k2 = hearing unheard blank bytes in
    let r = line_drawn i k m o t e g trace bytes p in
    let is = line_by_words bytes in (
      λ right. r ∙ taken_as i k m o t e g trace d k2 (line_of_words (words_of bytes)) is right,
      λ wrong.
          let q = r ∙ not_taken i k m o t e g trace d k2 (line_of_words (words_of bytes)) is wrong in (
            ap (λ (x : Read). x.notes.wrong) q,
            ap (λ (x : Read). x.notes.line) q,
            ap (λ (x : Read). expected_by x.notes) q,
            ap (λ (x : Read). x.trace) q,
          ),
    )

-- ---- what each line is read as

module _ (n : ℕ) where
  worst_line : n < 2 ^ 32 → line_of (drafted Within 2 (held "worst") 0 0 n) ≡ Worst n
  unfolding ascii held_after takes_name fields_line number_line table_line if
  worst_line h = rw (lt-ltb n (2 ^ 32) h)

  span_line : n < 2 ^ 32 → line_of (drafted Within 2 (held "span") 0 0 n) ≡ Span n
  unfolding ascii held_after takes_name fields_line number_line table_line if
  span_line h = rw (lt-ltb n (2 ^ 32) h)

  padding_line : n < 2 ^ 32 → line_of (drafted Within 2 (held "padding") 0 0 n) ≡ Padding n
  unfolding ascii held_after takes_name fields_line number_line table_line if
  padding_line h = rw (lt-ltb n (2 ^ 32) h)

  done_line : line_of (drafted Within 2 (held "done") 0 0 n) ≡ Call (Done n)
  unfolding ascii held_after fields_line number_line if
  done_line = refl

  clock_line : line_of (drafted Within 2 (held "clock") 0 0 n) ≡ Call (Clock n)
  unfolding ascii held_after fields_line number_line if
  clock_line = refl

module _ (a b : ℕ) where
  stream_line_lem : a < 2 ^ 32 → b < 2 ^ 32 → line_of (drafted Within 3 (held "stream") 0 a b) ≡ Stream a b
  unfolding ascii held_after fields_line pair_line stream_line if
  stream_line_lem h k = rw (lt-ltb a (2 ^ 32) h, lt-ltb b (2 ^ 32) k)

  arrival_line : a < 2 ^ 8 → line_of (drafted Within 3 (held "arrival") 0 a b) ≡ Call (Arrival a b 0)
  unfolding ascii held_after fields_line pair_line if
  arrival_line h = rw (lt-ltb a (2 ^ 8) h)

  tagged_line : (c : ℕ) → a < 2 ^ 8 → c < 2 ^ 32 → line_of (drafted Within 4 (held "arrival") a b c) ≡ Call (Arrival a b c)
  unfolding ascii held_after fields_line triple_line if
  tagged_line c h k = rw (lt-ltb a (2 ^ 8) h, lt-ltb c (2 ^ 32) k)

  own_line : a < 2 ^ 8 → line_of (drafted Within 3 (held "own") 0 a b) ≡ Call (OwnTurn a b)
  unfolding ascii held_after fields_line pair_line if
  own_line h = rw (lt-ltb a (2 ^ 8) h)

nearest_line : line_of (drafted Within 2 (held "order") 0 0 (held "nearest")) ≡ Ordered Nearest
unfolding ascii held_after takes_name fields_line number_line order_line if
nearest_line = refl

sweep_line : line_of (drafted Within 2 (held "order") 0 0 (held "sweep")) ≡ Ordered Sweep
unfolding ascii held_after takes_name fields_line number_line order_line if
sweep_line = refl

turn_line : line_of (drafted Within 1 (held "turn") 0 0 0) ≡ Call Turn
unfolding ascii held_after fields_line word_line if
turn_line = refl

blank_line : line_of blank ≡ Blank
unfolding fields_line if
blank_line = refl

pub line_reads_back : LineReadsBack
unfolding rendered worded_fields ascii more Each
line_reads_back i k m o t e g trace Blank f h = line_taken i k m o t e g trace (onward []) blank Blank (blank_read i k m o t e g trace) blank_line h
line_reads_back i k m o t e g trace (Worst n) f h =
    worded_taken i k m o t e g trace (ascii "worst") (n ∷ []) (Worst n) (words i k m o t e g trace).0 (omega arith) (omega (arith, f), tt) (worst_line n f) h
line_reads_back i k m o t e g trace (Span n) f h =
    worded_taken i k m o t e g trace (ascii "span") (n ∷ []) (Span n) (words i k m o t e g trace).1 (omega arith) (omega (arith, f), tt) (span_line n f) h
line_reads_back i k m o t e g trace (Padding n) f h =
    worded_taken i k m o t e g trace (ascii "padding") (n ∷ []) (Padding n) (words i k m o t e g trace).2 (omega arith) (omega (arith, f), tt) (padding_line n f) h
line_reads_back i k m o t e g trace (Ordered Nearest) f h =
    line_taken i k m o t e g trace (ascii "order nearest" ++ onward []) _ (Ordered Nearest) (nearest_read i k m o t e g trace) nearest_line h
line_reads_back i k m o t e g trace (Ordered Sweep) f h =
    line_taken i k m o t e g trace (ascii "order sweep" ++ onward []) _ (Ordered Sweep) (sweep_read i k m o t e g trace) sweep_line h
line_reads_back i k m o t e g trace (Stream a b) f h =
    worded_taken i k m o t e g trace (ascii "stream") (a ∷ b ∷ []) (Stream a b) (words i k m o t e g trace).3 (omega arith)
    (omega (arith, f.0), (omega (arith, f.1), tt)) (stream_line_lem a b f.0 f.1) h
line_reads_back i k m o t e g trace (Call (Arrival a b zero)) f h =
    worded_taken i k m o t e g trace (ascii "arrival") (a ∷ b ∷ []) (Call (Arrival a b 0)) (words i k m o t e g trace).4 (omega arith)
    (omega (arith, f.0), (f.1, tt)) (arrival_line a b f.0) h
line_reads_back i k m o t e g trace (Call (Arrival a b (suc c))) f h =
    worded_taken i k m o t e g trace (ascii "arrival") (a ∷ b ∷ suc c ∷ []) (Call (Arrival a b (suc c))) (words i k m o t e g trace).4 (omega arith)
    (omega (arith, f.0), (f.1, (omega (arith, f.2), tt))) (tagged_line a b (suc c) f.0 f.2) h
line_reads_back i k m o t e g trace (Call Turn) f h =
    worded_taken i k m o t e g trace (ascii "turn") [] (Call Turn) (words i k m o t e g trace).5 (omega arith) tt turn_line h
line_reads_back i k m o t e g trace (Call (OwnTurn a b)) f h =
    worded_taken i k m o t e g trace (ascii "own") (a ∷ b ∷ []) (Call (OwnTurn a b)) (words i k m o t e g trace).6 (omega arith)
    (omega (arith, f.0), (f.1, tt)) (own_line a b f.0) h
line_reads_back i k m o t e g trace (Call (Done n)) f h =
    worded_taken i k m o t e g trace (ascii "done") (n ∷ []) (Call (Done n)) (words i k m o t e g trace).7 (omega arith) (f, tt) (done_line n) h
line_reads_back i k m o t e g trace (Call (Clock n)) f h =
    worded_taken i k m o t e g trace (ascii "clock") (n ∷ []) (Call (Clock n)) (words i k m o t e g trace).8 (omega arith) (f, tt) (clock_line n) h
line_reads_back i k m o t e g trace (Call Malformed) f h = absurd f
line_reads_back i k m o t e g trace Wrong f h = absurd f

-- Reading a line byte by byte is reading its words: word by word, each against its kind.
use mathlib.Core.Bool.{Bool, true, false, ◌&&◌, ◌||◌, false≢true}
use mathlib.Core.Path.{◌≡◌, refl, sym, ap, ◌∙◌}
use mathlib.Core.List.{List, [], ◌∷◌, ◌++◌, map, append_assoc, append-nil}
use mathlib.Core.Logic.{◌⊎◌, inl, inr}
use Prim.Native.Nat.{ℕ, suc, ◌^◌, ◌≤◌, ◌<◌}
use native.Mathlib.Omega.{arith}
use native.Mathlib.Numerals.{add-one}
use lib.Dec.{ltb, eqb}
use borrow.Author.Tests.{eqb-true, ne_eqb, lt-ltb, ltb-false, le-ltb}
use Rattle.table.specs.Fold.{if}
use Rattle.table.proofs.Tests.{both, by_if}
use Rattle.listing.specs.Line.{space}
use Rattle.listing.specs.Laws.{spelt_after}
use Rattle.listing.proofs.Decimal.{spelt_append, spelt_grows}
use Rattle.notes.specs.declared.line.Line.{Line}
use Rattle.notes.specs.declared.line.Line.TheVariants.{Wrong}
use Rattle.notes.specs.declared.draft.Place.{Place}
use Rattle.notes.specs.declared.draft.Place.TheVariants.{Between, Within, Comment, Returned, Stray, Amiss}
use Rattle.notes.specs.declared.draft.Draft.{Draft}
use Rattle.notes.specs.Draft.{held_after, takes_name, drafted, placed, amiss, tab, is_gap, hash, carriage_return, is_letter, is_digit, longer, lengthens, lettered, valued, in_field, begun, after_gap, after_field, with_byte}
use Rattle.notes.specs.Line.{fields_line, line_of}
use Rattle.notes.specs.Words.{unreturned, uncommented, ended_word, words_after, all_of, is_name, is_number, is_value, value_of, numbers_line, line_of_words}
use Rattle.notes.specs.Laws.{drawn, LineByWords}
use Rattle.notes.proofs.Words.{held_append, held_grows}

-- ---- tests

pub test : (b : Bool) → (b ≡ true) ⊎ (b ≡ false)
test true = inl refl
test false = inr refl

pub and_false : (b : Bool) → (b && false) ≡ false
and_false true = refl
and_false false = refl

pub and_assoc : (a b c : Bool) → ((a && b) && c) ≡ (a && (b && c))
and_assoc true b c = refl
and_assoc false b c = refl

all_append : {A : Type 0} (f : A → Bool) (a b : List A) → all_of f (a ++ b) ≡ (all_of f a && all_of f b)
unfolding all_of
all_append f [] b = refl
all_append f (x ∷ a) b = ap (λ (k : Bool). f x && k) (all_append f a b) ∙ sym (and_assoc (f x) (all_of f a) (all_of f b))

pub and_true : (b : Bool) → (b && true) ≡ b
and_true true = refl
and_true false = refl

-- ---- a word that is being read

-- one that starts wrong is wrong
module _ (f : ℕ → Bool) (value : List ℕ → ℕ) (grows : (a b : List ℕ) → value a ≤ value (a ++ b)) where
  abbrev fine : List ℕ → Bool
  fine w = all_of f w && ltb (value w) (2 ^ 64)

  spoilt : (a b : List ℕ) → fine a ≡ false → fine (a ++ b) ≡ false
  spoilt a b h = go (test (all_of f a))
    where
      go : (all_of f a ≡ true) ⊎ (all_of f a ≡ false) → fine (a ++ b) ≡ false
      go (inl all) =
          let high : ltb (value a) (2 ^ 64) ≡ false = rw all at h in
          rw (le-ltb (value (a ++ b)) (2 ^ 64) (omega (arith, ltb-false (value a) (2 ^ 64) high, grows a b))) (and_false (all_of f (a ++ b)))
      go (inr some) = rw (all_append f a b, some)

  -- a byte more, behind a start that is right
  fine_more : (a : List ℕ) (byte : ℕ) → fine a ≡ true → fine (a ++ (byte ∷ [])) ≡ (f byte && ltb (value (a ++ (byte ∷ []))) (2 ^ 64))
  unfolding all_of
  fine_more a byte h = rw (all_append f a (byte ∷ []), (both (all_of f a) (ltb (value a) (2 ^ 64)) h).0, and_true (f byte))

held_onward : (a b : List ℕ) → held_after 0 a ≤ held_after 0 (a ++ b)
held_onward a b = rw (held_append a b 0) (held_grows b (held_after 0 a))

spelt_onward : (a b : List ℕ) → spelt_after 0 a ≤ spelt_after 0 (a ++ b)
spelt_onward a b = rw (spelt_append 0 a b) (spelt_grows (spelt_after 0 a) b)

name_spoilt : (a b : List ℕ) → is_name a ≡ false → is_name (a ++ b) ≡ false
unfolding is_name
name_spoilt = spoilt is_letter (held_after 0) held_onward

number_spoilt : (a b : List ℕ) → is_number a ≡ false → is_number (a ++ b) ≡ false
unfolding is_number
number_spoilt = spoilt is_digit (spelt_after 0) spelt_onward

-- ---- a byte more: `names` says whether a word is a name or a number

pub value_more : (names : Bool) (a : List ℕ) (byte : ℕ) → is_value names a ≡ true → is_value names (a ++ (byte ∷ [])) ≡ lengthens names (value_of names a) byte
unfolding is_value value_of is_name is_number lengthens held_after spelt_after if
value_more true a byte h = fine_more is_letter (held_after 0) held_onward a byte h ∙ rw (held_append a (byte ∷ []) 0)
value_more false a byte h = fine_more is_digit (spelt_after 0) spelt_onward a byte h ∙ rw (spelt_append 0 a (byte ∷ []))

pub value_longer : (names : Bool) (a : List ℕ) (byte : ℕ) → value_of names (a ++ (byte ∷ [])) ≡ longer names (value_of names a) byte
unfolding value_of held_after spelt_after if
value_longer true a byte = held_append a (byte ∷ []) 0
value_longer false a byte = spelt_append 0 a (byte ∷ [])

-- ---- what does not depend on the word that is being read

amiss_stays : (d : Draft) (rest : List ℕ) → drawn (amiss d) rest ≡ amiss d
unfolding drawn
amiss_stays d [] = refl
amiss_stays d (byte ∷ rest) = amiss_stays d rest

stray_stays : (d : Draft) (rest : List ℕ) → drawn (placed d Stray) rest ≡ placed d Stray
unfolding drawn
stray_stays d [] = refl
stray_stays d (byte ∷ rest) = stray_stays d rest

comment_stays : (d : Draft) (rest : List ℕ) → drawn (placed d Comment) rest ≡ placed d Comment
unfolding drawn
comment_stays d [] = refl
comment_stays d (byte ∷ rest) = comment_stays d rest

-- a gap begins no comment and is no carriage return
gap_is_no : (other byte : ℕ) → eqb space other ≡ false → eqb tab other ≡ false → is_gap byte ≡ true → eqb byte other ≡ false
gap_is_no other byte no-space no-tab h = go (test (eqb byte space)) (test (eqb byte tab))
  where
    go : (eqb byte space ≡ true) ⊎ (eqb byte space ≡ false) → (eqb byte tab ≡ true) ⊎ (eqb byte tab ≡ false) → eqb byte other ≡ false
    go (inl is) t = ap (λ (k : ℕ). eqb k other) (eqb-true byte space is) ∙ no-space
    go (inr is) (inl t) = ap (λ (k : ℕ). eqb k other) (eqb-true byte tab t) ∙ no-tab
    go (inr is) (inr t) = absurd (false≢true (sym (ap (λ (k : Bool). k || eqb byte tab) is ∙ t) ∙ h))

-- what counts of a line: it ends at its comment, or at a carriage return that is its last byte
abbrev plain : List ℕ → List ℕ
plain line = uncommented (unreturned line)

module _ (byte : ℕ) where
  comment_starts : (rest : List ℕ) → eqb byte hash ≡ true → plain (byte ∷ rest) ≡ []
  unfolding unreturned uncommented if
  comment_starts [] h = ap (λ (k : ℕ). plain (k ∷ [])) (eqb-true byte hash h)
  comment_starts (next ∷ rest) h = rw h

  line_ends : eqb byte carriage_return ≡ true → plain (byte ∷ []) ≡ []
  unfolding unreturned uncommented if
  line_ends h = rw h

  module _ (c : eqb byte hash ≡ false) where
    goes_on : (next : ℕ) (rest : List ℕ) → plain (byte ∷ next ∷ rest) ≡ byte ∷ plain (next ∷ rest)
    unfolding unreturned uncommented if
    goes_on next rest = rw c

    no_comment : (rest : List ℕ) → eqb byte carriage_return ≡ false → plain (byte ∷ rest) ≡ byte ∷ plain rest
    unfolding unreturned uncommented if
    no_comment [] h = rw (h, c)
    no_comment (next ∷ rest) h = goes_on next rest

module _ (byte : ℕ) (rest : List ℕ) where
  pub word_ends : (word : List ℕ) → is_gap byte ≡ true → words_after word (byte ∷ rest) ≡ ended_word word (words_after [] rest)
  unfolding words_after if
  word_ends word h = rw h

  pub word_goes_on : (word : List ℕ) → is_gap byte ≡ false → words_after word (byte ∷ rest) ≡ words_after (word ++ (byte ∷ [])) rest
  unfolding words_after if
  word_goes_on word h = rw h

gap_goes_on : (byte : ℕ) (rest : List ℕ) → is_gap byte ≡ true → plain (byte ∷ rest) ≡ byte ∷ plain rest
gap_goes_on byte rest s = no_comment byte (gap_is_no hash byte refl refl s) rest (gap_is_no carriage_return byte refl refl s)

-- the words after the start of one: the first begins so
record Started (word : List ℕ) (words : List (List ℕ)) : Type 0 where
  more : List ℕ
  others : List (List ℕ)
  are : words ≡ (word ++ more) ∷ others

word_started : (x : ℕ) (w rest : List ℕ) → Started (x ∷ w) (words_after (x ∷ w) rest)
unfolding words_after
word_started x w [] = record { more = []; others = []; are = rw (append-nil (x ∷ w)) }
word_started x w (byte ∷ rest) = go (word_started x (w ++ (byte ∷ [])) rest) (test (is_gap byte))
  where
    go : Started (x ∷ (w ++ (byte ∷ []))) (words_after (x ∷ (w ++ (byte ∷ []))) rest) → (is_gap byte ≡ true) ⊎ (is_gap byte ≡ false)
        → Started (x ∷ w) (words_after (x ∷ w) (byte ∷ rest))
    go q (inl h) = record { more = []; others = words_after [] rest; are = word_ends byte rest (x ∷ w) h ∙ rw (append-nil (x ∷ w)) }
    go q (inr h) =
        record {
          more = byte ∷ q.more;
          others = q.others;
          are = word_goes_on byte rest (x ∷ w) h ∙ q.are ∙ ap (λ (v : List ℕ). v ∷ q.others) (append_assoc (x ∷ w) (byte ∷ []) q.more);
        }

-- a byte behind one of a field, and a byte after a gap
module _ (k h earlier before last byte : ℕ) where
  abbrev field_at : Place → Draft
  field_at place = drafted place k h earlier before last

  field_gap : is_gap byte ≡ true → with_byte (field_at Within) byte ≡ field_at Between
  unfolding after_field if
  field_gap s = rw s

  gap_gap : is_gap byte ≡ true → with_byte (field_at Between) byte ≡ field_at Between
  unfolding after_gap if
  gap_gap s = rw s

  module _ (s : is_gap byte ≡ false) where
    field_hash : eqb byte hash ≡ true → with_byte (field_at Within) byte ≡ field_at Comment
    unfolding after_field if
    field_hash c = rw (s, c)

    gap_hash : eqb byte hash ≡ true → with_byte (field_at Between) byte ≡ field_at Comment
    unfolding after_gap if
    gap_hash c = rw (s, c)

    module _ (c : eqb byte hash ≡ false) where
      field_return : eqb byte carriage_return ≡ true → with_byte (field_at Within) byte ≡ field_at Returned
      unfolding after_field if
      field_return r = rw (s, c, r)

      gap_return : eqb byte carriage_return ≡ true → with_byte (field_at Between) byte ≡ field_at Returned
      unfolding after_gap if
      gap_return r = rw (s, c, r)

      field_on : eqb byte carriage_return ≡ false → with_byte (field_at Within) byte ≡ in_field (field_at Within) byte
      unfolding after_field if
      field_on r = rw (s, c, r)

      gap_on : eqb byte carriage_return ≡ false → with_byte (field_at Between) byte ≡ begun (field_at Between) byte
      unfolding after_gap if
      gap_on r = rw (s, c, r)

-- ---- a word: `done` are those before it, `ok` is what it has to be, and the line holds it as `named` and `spelt` say

module _ (done : List (List ℕ)) (k h earlier before last : ℕ) (named spelt : List ℕ → ℕ) (ok : List ℕ → Bool) where
  abbrev gap : Draft
  gap = drafted Between k h earlier before last

  abbrev in_word : List ℕ → Draft
  in_word w = drafted Within (suc k) (named w) before last (spelt w)

  abbrev words_and : List (List ℕ) → Line
  words_and others = line_of_words (done ++ others)

  -- `bad` is the line that a byte has spoilt
  record Kind : Type 0 where
    bad : List ℕ → Draft
    from : (byte : ℕ) → begun gap byte ≡ if (ok (byte ∷ [])) (in_word (byte ∷ [])) (amiss (bad []))
    on : (w : List ℕ) (byte : ℕ) → ok w ≡ true → in_field (in_word w) byte ≡ if (ok (w ++ (byte ∷ []))) (in_word (w ++ (byte ∷ []))) (amiss (bad w))
    none : fields_line gap ≡ words_and []
    one : (w : List ℕ) → ok w ≡ true → fields_line (in_word w) ≡ words_and (w ∷ [])
    no_return : (w : List ℕ) → ok (w ++ (carriage_return ∷ [])) ≡ false
    hopeless : (w more : List ℕ) (others : List (List ℕ)) → ok w ≡ false → words_and ((w ++ more) ∷ others) ≡ Wrong
    next : (w rest : List ℕ) → ok w ≡ true
        → line_of (drawn (placed (in_word w) Between) rest) ≡ line_of_words ((done ++ (w ∷ [])) ++ words_after [] (plain rest))

  module _ (kind : Kind) where
    -- a word that starts wrong leaves no hope
    lost : (x : ℕ) (w text : List ℕ) → ok (x ∷ w) ≡ false → words_and (words_after (x ∷ w) text) ≡ Wrong
    lost x w text bad =
        let q = word_started x w text in
        ap words_and q.are ∙ kind.hopeless (x ∷ w) q.more q.others bad

    -- the word so far, with a byte more
    abbrev Reads : List ℕ → List ℕ → Type 0
    Reads w rest = line_of (drawn (in_word w) rest) ≡ words_and (words_after w (plain rest))

    -- where the byte belongs to the word, the longer word decides
    longer_reads : (d : Draft) (x : ℕ) (w rest : List ℕ) → (ok (x ∷ w) ≡ true → Reads (x ∷ w) rest)
        → line_of (drawn (if (ok (x ∷ w)) (in_word (x ∷ w)) (amiss d)) rest) ≡ words_and (words_after (x ∷ w) (plain rest))
    longer_reads d x w rest onward =
        by_if (λ (e : Draft). line_of (drawn e rest) ≡ words_and (words_after (x ∷ w) (plain rest))) (ok (x ∷ w)) (in_word (x ∷ w)) (amiss d) onward
        (λ bad. ap (λ (e : Draft). line_of e) (amiss_stays d rest) ∙ sym (lost x w (plain rest) bad))

    -- a carriage return before another byte leaves no hope either, in a word or in place of one
    returned : (d : Draft) (x : ℕ) (w : List ℕ) (next : ℕ) (rest text : List ℕ) → ok (x ∷ w) ≡ false
        → line_of (drawn (placed d Returned) (next ∷ rest)) ≡ words_and (words_after (x ∷ w) text)
    unfolding drawn
    returned d x w next rest text bad = ap (λ (e : Draft). line_of e) (stray_stays d rest) ∙ sym (lost x w text bad)

    word_return : (x : ℕ) (w : List ℕ) (byte : ℕ) (rest : List ℕ) → ok (x ∷ w) ≡ true → is_gap byte ≡ false → eqb byte hash ≡ false → eqb byte carriage_return ≡ true
        → Reads (x ∷ w) (byte ∷ rest)
    unfolding drawn words_after fields_line
    word_return x w byte [] fine s c r =
        ap (λ (d : Draft). line_of d) (field_return (suc k) (named (x ∷ w)) before last (spelt (x ∷ w)) byte s c r)
        ∙ kind.one (x ∷ w) fine
        ∙ sym (ap (λ (u : List ℕ). words_and (words_after (x ∷ w) u)) (line_ends byte r))
    word_return x w byte (next ∷ rest) fine s c r =
        ap (λ (d : Draft). line_of (drawn d (next ∷ rest))) (field_return (suc k) (named (x ∷ w)) before last (spelt (x ∷ w)) byte s c r)
        ∙ returned (in_word (x ∷ w)) x (w ++ (byte ∷ [])) next rest (plain (next ∷ rest))
        (ap (λ (b : ℕ). ok (x ∷ (w ++ (b ∷ [])))) (eqb-true byte carriage_return r) ∙ kind.no_return (x ∷ w))
        ∙ sym (ap (λ (u : List ℕ). words_and (words_after (x ∷ w) u)) (goes_on byte c next rest) ∙ ap words_and (word_goes_on byte (plain (next ∷ rest)) (x ∷ w) s))

    word_byte : (x : ℕ) (w : List ℕ) (byte : ℕ) (rest : List ℕ) → ok (x ∷ w) ≡ true
        → (ok (x ∷ (w ++ (byte ∷ []))) ≡ true → Reads (x ∷ (w ++ (byte ∷ []))) rest)
        → (is_gap byte ≡ true) ⊎ (is_gap byte ≡ false) → (eqb byte hash ≡ true) ⊎ (eqb byte hash ≡ false)
        → (eqb byte carriage_return ≡ true) ⊎ (eqb byte carriage_return ≡ false) → Reads (x ∷ w) (byte ∷ rest)
    unfolding drawn words_after fields_line
    word_byte x w byte rest fine onward (inl s) c r =
        ap (λ (d : Draft). line_of (drawn d rest)) (field_gap (suc k) (named (x ∷ w)) before last (spelt (x ∷ w)) byte s)
        ∙ kind.next (x ∷ w) rest fine
        ∙ ap line_of_words (append_assoc done ((x ∷ w) ∷ []) (words_after [] (plain rest)))
        ∙ sym (ap (λ (u : List ℕ). words_and (words_after (x ∷ w) u)) (gap_goes_on byte rest s) ∙ ap words_and (word_ends byte (plain rest) (x ∷ w) s))
    word_byte x w byte rest fine onward (inr s) (inl c) r =
        ap (λ (d : Draft). line_of (drawn d rest)) (field_hash (suc k) (named (x ∷ w)) before last (spelt (x ∷ w)) byte s c)
        ∙ ap (λ (d : Draft). line_of d) (comment_stays (in_word (x ∷ w)) rest)
        ∙ kind.one (x ∷ w) fine
        ∙ sym (ap (λ (u : List ℕ). words_and (words_after (x ∷ w) u)) (comment_starts byte rest c))
    word_byte x w byte rest fine onward (inr s) (inr c) (inl r) = word_return x w byte rest fine s c r
    word_byte x w byte rest fine onward (inr s) (inr c) (inr r) =
        ap (λ (d : Draft). line_of (drawn d rest)) (field_on (suc k) (named (x ∷ w)) before last (spelt (x ∷ w)) byte s c r ∙ kind.on (x ∷ w) byte fine)
        ∙ longer_reads (kind.bad (x ∷ w)) x (w ++ (byte ∷ [])) rest onward
        ∙ sym (ap (λ (u : List ℕ). words_and (words_after (x ∷ w) u)) (no_comment byte c rest r) ∙ ap words_and (word_goes_on byte (plain rest) (x ∷ w) s))

    word_reads : (x : ℕ) (w rest : List ℕ) → ok (x ∷ w) ≡ true → Reads (x ∷ w) rest
    unfolding drawn unreturned uncommented words_after
    word_reads x w [] fine = kind.one (x ∷ w) fine
    word_reads x w (byte ∷ rest) fine =
        word_byte x w byte rest fine (λ longer. word_reads x (w ++ (byte ∷ [])) rest longer) (test (is_gap byte)) (test (eqb byte hash)) (test (eqb byte carriage_return))

    gap_carriage : (byte : ℕ) (rest : List ℕ) → is_gap byte ≡ false → eqb byte hash ≡ false → eqb byte carriage_return ≡ true
        → line_of (drawn gap (byte ∷ rest)) ≡ words_and (words_after [] (plain (byte ∷ rest)))
    unfolding drawn words_after fields_line
    gap_carriage byte [] s c r =
        ap (λ (d : Draft). line_of d) (gap_return k h earlier before last byte s c r)
        ∙ kind.none
        ∙ sym (ap (λ (u : List ℕ). words_and (words_after [] u)) (line_ends byte r))
    gap_carriage byte (next ∷ rest) s c r =
        ap (λ (d : Draft). line_of (drawn d (next ∷ rest))) (gap_return k h earlier before last byte s c r)
        ∙ returned gap byte [] next rest (plain (next ∷ rest)) (ap (λ (b : ℕ). ok (b ∷ [])) (eqb-true byte carriage_return r) ∙ kind.no_return [])
        ∙ sym (ap (λ (u : List ℕ). words_and (words_after [] u)) (goes_on byte c next rest) ∙ ap words_and (word_goes_on byte (plain (next ∷ rest)) [] s))

    gap_byte : (byte : ℕ) (rest : List ℕ) → line_of (drawn gap rest) ≡ words_and (words_after [] (plain rest))
        → (is_gap byte ≡ true) ⊎ (is_gap byte ≡ false) → (eqb byte hash ≡ true) ⊎ (eqb byte hash ≡ false)
        → (eqb byte carriage_return ≡ true) ⊎ (eqb byte carriage_return ≡ false)
        → line_of (drawn gap (byte ∷ rest)) ≡ words_and (words_after [] (plain (byte ∷ rest)))
    unfolding drawn words_after fields_line
    gap_byte byte rest later (inl s) c r =
        ap (λ (d : Draft). line_of (drawn d rest)) (gap_gap k h earlier before last byte s)
        ∙ later
        ∙ sym (ap (λ (u : List ℕ). words_and (words_after [] u)) (gap_goes_on byte rest s) ∙ ap words_and (word_ends byte (plain rest) [] s))
    gap_byte byte rest later (inr s) (inl c) r =
        ap (λ (d : Draft). line_of (drawn d rest)) (gap_hash k h earlier before last byte s c)
        ∙ ap (λ (d : Draft). line_of d) (comment_stays gap rest)
        ∙ kind.none
        ∙ sym (ap (λ (u : List ℕ). words_and (words_after [] u)) (comment_starts byte rest c))
    gap_byte byte rest later (inr s) (inr c) (inl r) = gap_carriage byte rest s c r
    gap_byte byte rest later (inr s) (inr c) (inr r) =
        ap (λ (d : Draft). line_of (drawn d rest)) (gap_on k h earlier before last byte s c r ∙ kind.from byte)
        ∙ longer_reads (kind.bad []) byte [] rest (word_reads byte [] rest)
        ∙ sym (ap (λ (u : List ℕ). words_and (words_after [] u)) (no_comment byte c rest r) ∙ ap words_and (word_goes_on byte (plain rest) [] s))

    gap_reads : (rest : List ℕ) → line_of (drawn gap rest) ≡ words_and (words_after [] (plain rest))
    unfolding drawn unreturned uncommented words_after
    gap_reads [] = kind.none
    gap_reads (byte ∷ rest) = gap_byte byte rest (gap_reads rest) (test (is_gap byte)) (test (eqb byte hash)) (test (eqb byte carriage_return))

-- ---- a word with a byte more

no_digits : is_number [] ≡ true
unfolding is_number all_of spelt_after
no_digits = refl

no_letters : is_name [] ≡ true
unfolding is_name all_of held_after
no_letters = refl

module _ (made : ℕ → Draft) (bad : Draft) (names : Bool) (w : List ℕ) (byte : ℕ) (fine : is_value names w ≡ true) where
  value_on : if (lengthens names (value_of names w) byte) (made (longer names (value_of names w) byte)) bad
      ≡ if (is_value names (w ++ (byte ∷ []))) (made (value_of names (w ++ (byte ∷ [])))) bad
  value_on =
      ap (λ (v : ℕ). if (lengthens names (value_of names w) byte) (made v) bad) (sym (value_longer names w byte))
      ∙ ap (λ (t : Bool). if t (made (value_of names (w ++ (byte ∷ [])))) bad) (sym (value_more names w byte fine))

-- neither has a carriage return in it
module _ (w : List ℕ) where
  number_no_return : is_number (w ++ (carriage_return ∷ [])) ≡ false
  unfolding is_number all_of
  number_no_return = rw (all_append is_digit w (carriage_return ∷ []), and_false (all_of is_digit w))

  name_no_return : is_name (w ++ (carriage_return ∷ [])) ≡ false
  unfolding is_name all_of
  name_no_return = rw (all_append is_letter w (carriage_return ∷ []), and_false (all_of is_letter w))

-- ---- a field behind the word: a name or a number

pub no_value : (names : Bool) → is_value names [] ≡ true
unfolding is_value if
no_value true = no_letters
no_value false = no_digits

pub none_held : (names : Bool) → value_of names [] ≡ 0
unfolding value_of if held_after spelt_after
none_held true = refl
none_held false = refl

pub value_spoilt : (names : Bool) (a b : List ℕ) → is_value names a ≡ false → is_value names (a ++ b) ≡ false
unfolding is_value if
value_spoilt true = name_spoilt
value_spoilt false = number_spoilt

value_no_return : (names : Bool) (w : List ℕ) → is_value names (w ++ (carriage_return ∷ [])) ≡ false
unfolding is_value if
value_no_return true = name_no_return
value_no_return false = number_no_return

-- a field begins and goes on, in any place but the first
module _ (k h earlier before last byte : ℕ) where
  pub value_begins : suc k < 4 → begun (drafted Between (suc k) h earlier before last) byte ≡ valued (drafted Within (suc (suc k)) h before last 0) byte
  unfolding begun in_field if
  value_begins few = rw (lt-ltb (suc k) 4 few, add-one, ne_eqb (suc (suc k)) 1 (λ e. omega (arith, e)))

  pub value_goes_on : in_field (drafted Within (suc (suc k)) h earlier before last) byte ≡ valued (drafted Within (suc (suc k)) h earlier before last) byte
  unfolding in_field if
  value_goes_on = rw (ne_eqb (suc (suc k)) 1 (λ e. omega (arith, e)))

-- ---- the words, the last first

module _ (name : List ℕ) (n : is_name name ≡ true) where
  abbrev h : ℕ
  h = held_after 0 name

  abbrev names : Bool
  names = takes_name h

  abbrev ok : List ℕ → Bool
  ok = is_value names

  abbrev value : List ℕ → ℕ
  value = value_of names

  abbrev line_of_values : List (List ℕ) → Line
  line_of_values values = numbers_line h (map value values)

  right_words : (values : List (List ℕ)) → all_of ok values ≡ true → line_of_values values ≡ line_of_words (name ∷ values)
  unfolding if
  right_words values all = rw (n, all)

  -- a word that is no value leaves no hope, wherever it stands
  hopeless_value : (values : List (List ℕ)) (w more : List ℕ) (others : List (List ℕ)) → ok w ≡ false → line_of_words ((name ∷ values) ++ ((w ++ more) ∷ others)) ≡ Wrong
  unfolding if all_of
  hopeless_value values w more others o = rw (all_append ok values ((w ++ more) ∷ others), value_spoilt names w more o, and_false (all_of ok values), and_false (is_name name))

  abbrev GoesOn : List (List ℕ) → Draft → Type 0
  GoesOn values d = (rest : List ℕ) → line_of (drawn d rest) ≡ line_of_words ((name ∷ values) ++ words_after [] (plain rest))

  -- a value behind k others, which are right
  module _ (values : List (List ℕ)) (all : all_of ok values ≡ true) (k earlier before last : ℕ) (few : suc k < 4)
      (none : fields_line (drafted Between (suc k) h earlier before last) ≡ line_of_values values) where
    abbrev with_value : Place → List ℕ → Draft
    with_value place w = drafted place (suc (suc k)) h before last (value w)

    all_more : (w : List ℕ) → ok w ≡ true → all_of ok (values ++ (w ∷ [])) ≡ true
    unfolding all_of
    all_more w o = rw (all_append ok values (w ∷ []), all, o)

    value_reads : ((w : List ℕ) → fields_line (with_value Within w) ≡ line_of_values (values ++ (w ∷ [])))
        → ((w : List ℕ) → all_of ok (values ++ (w ∷ [])) ≡ true → GoesOn (values ++ (w ∷ [])) (with_value Between w))
        → GoesOn values (drafted Between (suc k) h earlier before last)
    unfolding valued
    value_reads one next =
        gap_reads (name ∷ values) (suc k) h earlier before last (λ _. h) value ok
        (record {
          bad = with_value Within;
          from = λ byte.
              value_begins k h earlier before last byte few
              ∙ ap (λ (none : ℕ). valued (drafted Within (suc (suc k)) h before last none) byte) (sym (none_held names))
              ∙ value_on (drafted Within (suc (suc k)) h before last) (amiss (with_value Within [])) names [] byte (no_value names);
          on = λ w byte o. value_goes_on k h before last (value w) byte ∙ value_on (drafted Within (suc (suc k)) h before last) (amiss (with_value Within w)) names w byte o;
          none = none ∙ right_words values all ∙ ap (λ (others : List (List ℕ)). line_of_words (name ∷ others)) (sym (append-nil values));
          one = λ w o. one w ∙ right_words (values ++ (w ∷ [])) (all_more w o);
          no_return = value_no_return names;
          hopeless = hopeless_value values;
          next = λ w rest o. next w (all_more w o) rest;
        })

  -- a fourth value is too many
  too_many : (b : Bool) → if b Wrong Wrong ≡ Wrong
  unfolding if
  too_many true = refl
  too_many false = refl

  after_three : (a b c : List ℕ) → all_of ok (a ∷ b ∷ c ∷ []) ≡ true → GoesOn (a ∷ b ∷ c ∷ []) (drafted Between 4 h (value a) (value b) (value c))
  unfolding begun fields_line if
  after_three a b c all =
      gap_reads (name ∷ a ∷ b ∷ c ∷ []) 4 h (value a) (value b) (value c) (λ _. 0) (λ _. 0) (λ _. false)
      (record {
        bad = λ _. drafted Between 5 h (value a) (value b) (value c);
        from = λ byte. refl;
        on = λ w byte o. absurd (false≢true o);
        none = right_words (a ∷ b ∷ c ∷ []) all;
        one = λ w o. absurd (false≢true o);
        no_return = λ w. refl;
        hopeless = λ w more others o. too_many (is_name name && all_of ok (a ∷ b ∷ c ∷ (w ++ more) ∷ others));
        next = λ w rest o. absurd (false≢true o);
      })

  after_two : (a b : List ℕ) → all_of ok (a ∷ b ∷ []) ≡ true → GoesOn (a ∷ b ∷ []) (drafted Between 3 h 0 (value a) (value b))
  unfolding fields_line if
  after_two a b all = value_reads (a ∷ b ∷ []) all 2 0 (value a) (value b) (omega arith) refl (λ w. refl) (after_three a b)

  after_one : (a : List ℕ) → all_of ok (a ∷ []) ≡ true → GoesOn (a ∷ []) (drafted Between 2 h 0 0 (value a))
  unfolding fields_line if
  after_one a all = value_reads (a ∷ []) all 1 0 0 (value a) (omega arith) refl (λ w. refl) (after_two a)

  after_name : GoesOn [] (drafted Between 1 h 0 0 0)
  unfolding fields_line if all_of
  after_name = value_reads [] refl 0 0 0 0 (omega arith) refl (λ w. refl) after_one

name_hopeless : (w more : List ℕ) (others : List (List ℕ)) → is_name w ≡ false → line_of_words ((w ++ more) ∷ others) ≡ Wrong
unfolding if
name_hopeless w more others o = rw (name_spoilt w more o)

pub line_by_words : LineByWords
unfolding begun in_field lettered is_value value_of fields_line if held_after all_of
line_by_words =
    gap_reads [] 0 0 0 0 0 (held_after 0) (λ _. 0) is_name
    (record {
      bad = λ w. drafted Within 1 (held_after 0 w) 0 0 0;
      from = λ byte. value_on (λ v. drafted Within 1 v 0 0 0) (drafted Amiss 1 0 0 0 0) true [] byte no_letters;
      on = λ w byte o. value_on (λ v. drafted Within 1 v 0 0 0) (drafted Amiss 1 (held_after 0 w) 0 0 0) true w byte o;
      none = refl;
      one = λ w o. right_words w o [] refl;
      no_return = name_no_return;
      hopeless = name_hopeless;
      next = λ w rest o. after_name w o rest;
    })
